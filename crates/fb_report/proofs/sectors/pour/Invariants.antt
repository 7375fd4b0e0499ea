use Rattle.fb_report.proofs.Words.{◌≡◌, ◌++◌, ℕ, List, length, take, contents_bytes}
use Rattle.fb_report.proofs.sectors.pour.Given as goal

abbrev pub invariant-loop-index : goal.invariant-loop-index
invariant-loop-index g l = record {
  took : (before : List ℕ) → g.S.Sink.took l.fn.sink before
      → g.S.Sink.took l.sink (before ++ contents_bytes l.sector_bytes (take l.index l.contents));
  size : length l.sector ≡ l.sector_bytes;
}
