-- Puts that can be written beside a run.
use Rattle.std.specs.Prelude.{◌≡◌, length, false}
use Rattle.std.specs.List.{AllByRecursion}
use Rattle.fb_geometry.specs.Places.{places}
use Rattle.fb_puts.specs.Ranges.{share}
use Rattle.fb_puts.specs.Reading.{Accepted as PutsRead}
use Rattle.fb_puts.specs.Rules.{ArePuts}
use Rattle.fb_inputs.specs.Read.{Files, puts_terms}

-- puts that keep their rules, whose reserve shares no sector with what the trace and the script ask for
pub record CanBeSpilled (files : Files) (puts : PutsRead) : Type 0 where
  pub rules : ArePuts (length (places files.disk.map)) puts
  pub untouched : AllByRecursion (λ range. share puts.reserve range ≡ false) (puts_terms files).asked
