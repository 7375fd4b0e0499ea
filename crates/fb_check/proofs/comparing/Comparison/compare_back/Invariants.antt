use Rattle.fb_check.proofs.Words.{List, ◌++◌, take, BackRow, LineFields, CanCompare, HasComparedBack}
use Rattle.fb_check.proofs.comparing.Comparison.compare_back.Given as goal

abbrev pub invariant-loop-i : goal.invariant-loop-i
invariant-loop-i l = record {
  ready : CanCompare l.self;
  compared : (printed : List LineFields) (back : List BackRow) → HasComparedBack l.names l.sector_bytes l.bytes printed l.fn.self back
      → HasComparedBack l.names l.sector_bytes l.bytes printed l.self (back ++ take l.i l.rows);
}
