use Rattle.fb_bgwrite.proofs.Words.{◌≡◌, ◌∷◌, ◌++◌, take, ItemSpill, HasKept, IsSpilling, spill_row}
use Rattle.fb_bgwrite.proofs.Catching.{wrote_rows}
use Rattle.fb_bgwrite.proofs.spilling.Spilling.write.Given as goal

abbrev pub invariant-loop-catch : goal.invariant-loop-catch
invariant-loop-catch l = record {
  spilling : IsSpilling l.self;
  kept : HasKept l.fn.self l.self;
  admitted : l.self.admitted ≡ l.fn.self.admitted;
  instant : l.self.instant ≡ l.fn.self.instant;
  items : l.self.items ≡ l.fn.self.items ++ ItemSpill (spill_row l.fn.self.disk.now l.row l.fn.spill)
      ∷ wrote_rows (take l.catch-index l.catch-items);
}
