use Rattle.std.proofs.Common.{◌≡◌, ◌<◌, ℕ, get_or, true}
use Rattle.fb_units.specs.Lines.{is_blank}
use Rattle.fb_units.proofs.lines.behind_blanks.Given as goal

abbrev pub invariant-loop-index : goal.invariant-loop-index
invariant-loop-index l = (k : ℕ) → k < l.index → is_blank (get_or l.line k 0) ≡ true
