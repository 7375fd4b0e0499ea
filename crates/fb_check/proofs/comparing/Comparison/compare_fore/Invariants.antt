use Rattle.fb_check.proofs.Words.{List, ◌++◌, take, ForeRow, LineFields, CanCompare, HasComparedFore}
use Rattle.fb_check.proofs.comparing.Comparison.compare_fore.Given as goal

abbrev pub invariant-loop-i : goal.invariant-loop-i
invariant-loop-i l = record {
  ready : CanCompare l.self;
  compared : (printed : List LineFields) (fore : List ForeRow) → HasComparedFore l.sector_bytes l.bytes printed l.fn.self fore
      → HasComparedFore l.sector_bytes l.bytes printed l.self (fore ++ take l.i l.rows);
}
