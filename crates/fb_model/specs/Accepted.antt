-- The rules that the inputs of a run have to keep.
use Rattle.std.specs.Prelude.{◌≡◌, ◌+◌, ◌*◌, ◌^◌, ◌<◌, ◌≤◌, [], length, map}
use Rattle.std.specs.List.{AllByRecursion, range_with_len}
pub use Rattle.fb_units.specs.Rising.{IsRising}
use Rattle.fb_units.specs.declared.types.Request.{Request}
use Rattle.fb_units.specs.declared.types.Name.TheVariants.{Traced}
use Rattle.fb_geometry.specs.Shape.{Shape}
use Rattle.fb_geometry.specs.Places.{places}
use Rattle.fb_script.specs.Allowed.{IsRange, AreAllowed, blocks_from}
use Rattle.fb_model.specs.Foreground.{promoted}
use Rattle.fb_model.specs.Inputs.{Inputs}

-- a request that the disk can serve
pub record IsRequestOf (disk : Shape) (request : Request) : Type 0 where
  pub range : IsRange disk request.lbn request.count
  pub few : request.count ≤ 2048
  pub arrival : request.arrival ≤ 10 ^ 15

-- latent sectors of the disk, requests that it can serve, numbered and in order of arrival, and calls that keep their rules
pub record IsAccepted (inputs : Inputs) : Type 0 where
  pub latent : AllByRecursion (λ lbn. lbn < length (places inputs.disk.map)) inputs.latent
  pub requests : AllByRecursion (IsRequestOf inputs.disk.map) inputs.trace
  pub names : map (λ request. request.name) inputs.trace ≡ map Traced (range_with_len 1 (length inputs.trace))
  pub arrivals : IsRising (map (λ request. request.arrival) inputs.trace)
  pub instants : IsRising (map (λ call. call.instant) inputs.calls)
  pub calls : AreAllowed inputs.disk.map [] inputs.calls
  pub few_calls : length inputs.calls < 2 ^ 32
  pub few_blocks : blocks_from inputs.disk.map [] inputs.calls ≤ 16 * 10 ^ 6
  pub few_requests : length inputs.trace + length (promoted inputs.calls) ≤ 10 ^ 6
  pub until : inputs.until ≤ 10 ^ 15
