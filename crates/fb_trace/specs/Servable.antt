-- What every trace that was read obeys.
use Rattle.std.specs.Prelude.{◌≡◌, ℕ, ◌+◌, ◌^◌, ◌<◌, ◌≤◌, List, length, map}
use Rattle.std.specs.List.{AllByRecursion, range_with_len}
use Rattle.fb_units.specs.Rising.{IsRising}
use Rattle.fb_units.specs.declared.types.Request.{Request}
use Rattle.fb_units.specs.declared.types.Name.TheVariants.{Traced}

-- a request that a disk of this many sectors can serve
pub record IsServable (sectors : ℕ) (request : Request) : Type 0 where
  pub some : 0 < request.count
  pub inside : request.lbn + request.count ≤ sectors
  pub few : request.count ≤ 2048
  pub arrival : request.arrival ≤ 10 ^ 15

-- at most a million such requests, named 1, 2, .. in order of arrival
pub record IsTraceOf (sectors : ℕ) (requests : List Request) : Type 0 where
  pub servable : AllByRecursion (IsServable sectors) requests
  pub names : map (λ request. request.name) requests ≡ map Traced (range_with_len 1 (length requests))
  pub arrivals : IsRising (map (λ request. request.arrival) requests)
  pub few : length requests ≤ 10 ^ 6
