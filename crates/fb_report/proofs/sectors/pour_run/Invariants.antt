use Rattle.fb_report.proofs.Words.{◌≡◌, ◌+◌, ◌++◌, ℕ, List, length, flat_map, range_with_len, sector_bytes}
use Rattle.fb_report.proofs.sectors.pour_run.Given as goal

abbrev pub invariant-loop-i : goal.invariant-loop-i
invariant-loop-i g l = record {
  took : (before : List ℕ) → g.S.Sink.took l.fn.sink before
      → g.S.Sink.took l.sink
      (before ++ flat_map (λ k. sector_bytes (l.run.first + k) (length l.fn.sector) l.run.content) (range_with_len 0 l.i));
  size : length l.sector ≡ length l.fn.sector;
}
