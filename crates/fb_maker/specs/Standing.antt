-- What holds of a trace that is being generated.
use Rattle.std.specs.Prelude.{◌≡◌, ℕ, ◌+◌, ◌*◌, ◌^◌, ◌≤◌}
use Rattle.fb_units.specs.declared.types.Request.{Request}
use Rattle.fb_maker.specs.Words.{generator_after}
use Rattle.fb_maker.specs.Trace.{request_at}

-- the request that follows those that were made has been drawn, and no word after it; numbers are in their ranges
pub record IsMaking (number device sectors made : ℕ) (next : Request) (words : ℕ) : Type 0 where
  pub known_device : device ≤ 10 ^ 15
  pub some_sectors : 1 ≤ sectors
  pub few_sectors : sectors ≤ 10 ^ 12
  pub few_lines : made ≤ 10 ^ 6
  pub drawn : next ≡ request_at number sectors made
  pub left : words ≡ generator_after number (4 * (made + 1))
  pub early : next.arrival ≤ 12000000 * (made + 1)
