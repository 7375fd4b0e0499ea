-- What a request finds on a disk, and what it leaves there.
use Rattle.std.specs.Prelude.{◌≡◌, ℕ, List, [], map, if◌then◌else◌}
use Rattle.std.specs.List.{range_with_len}
use Rattle.fb_units.specs.declared.types.Request.{Request}
use Rattle.fb_store.specs.declared.content.Content.{Content}
use Rattle.fb_store.specs.declared.content.ContentRun.{ContentRun}
use Rattle.fb_store.specs.Runs.{runs_of, bad_of}
use Rattle.fb_store.specs.Writes.{after_write, writer_of}
use Rattle.fb_store.specs.Ranges.{Holding, content_in}
use Rattle.fb_rows.specs.declared.fore.ForeRow.{ForeRow}
use Rattle.fb_model.specs.PlainReplay.{Served, media, finish}

-- what n sectors from an LBN on hold on the disk as it is
abbrev pub held : Holding → ℕ → ℕ → List (ℕ × Content)
held holding lbn n = map (λ sector. (sector, content_in holding sector)) (range_with_len lbn n)

-- what a read finds on the disk as it is; a write finds nothing
abbrev pub found_in : Holding → Request → List ContentRun
found_in holding request = if request.write then [] else runs_of (held holding request.lbn request.count)

-- what a sector holds when the request is served
abbrev pub left_by : Request → ℕ → Content → Content
left_by request lbn before = if request.write then after_write request.lbn request.count (writer_of request.name) lbn before else before

-- the row tells of this service, and of what it found
pub record IsRowOf (holding : Holding) (served : Served) (row : ForeRow) : Type 0 where
  pub request : row.request ≡ served.request
  pub start : row.start ≡ served.start
  pub media : row.media ≡ media served
  pub finish : row.finish ≡ finish served
  pub bad : row.bad ≡ bad_of row.content
  pub content : row.content ≡ found_in holding served.request
