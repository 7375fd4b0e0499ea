use Rattle.std.proofs.Common.{◌≡◌, ◌++◌, take}
use Rattle.fb_fastq.proofs.late_placing.place_all.Given as goal

abbrev pub invariant-loop-i : goal.invariant-loop-i
invariant-loop-i g l = record {
  pending : g.M.Placing.pending l.placed ≡ g.M.Placing.pending l.fn.placed ++ take l.i l.arrived;
  fits : g.M.Placing.fits l.placed l.disk;
}
