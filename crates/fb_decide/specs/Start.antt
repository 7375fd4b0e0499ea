-- The start of a service, and when its sectors pass.
use Rattle.std.specs.Prelude.{◌≡◌, ◌<◌, ◌≤◌, ◌-◌, ◌*◌, ◌^◌}
use Rattle.std.specs.List.{AllByRecursion}
use Rattle.fb_geometry.specs.Shape.{IsTrackOf}
use Rattle.fb_service.specs.declared.disk.Disk.{Disk}
use Rattle.fb_service.specs.declared.service.Service.{Service}
use Rattle.fb_service.specs.Extents.{all_passages_of, IsUnbroken}
use Rattle.fb_model.specs.Accepted.{IsRequestOf}
use Rattle.fb_model.specs.PlainReplay.{Served, service, media, finish}
use Rattle.fb_decide.specs.declared.start.Start.{Start}

-- the service that starts so
abbrev pub served_from : Disk → Start → Served
served_from disk start = service disk start.head start.instant start.request

-- the disk has the request's sectors and the head's track, and the service starts so early that it ends by 9 * 10^18 ns
pub record IsStartOn (disk : Disk) (start : Start) : Type 0 where
  pub request : IsRequestOf disk.map start.request
  pub head : IsTrackOf disk.map start.head
  pub instant : start.instant ≤ 9 * 10 ^ 18 - 10 ^ 14

-- the service that starts so has these extents, this media instant and this finish, at most 9 * 10^18 ns
pub record IsServiceOf (disk : Disk) (start : Start) (service : Service) : Type 0 where
  pub passages : all_passages_of disk.map service.extents.items ≡ (served_from disk start).passages
  pub unbroken : AllByRecursion (IsUnbroken disk.map) service.extents.items
  pub media : service.media ≡ media (served_from disk start)
  pub finish : service.finish ≡ finish (served_from disk start)
  pub later : service.media < service.finish
  pub early : service.finish ≤ 9 * 10 ^ 18
