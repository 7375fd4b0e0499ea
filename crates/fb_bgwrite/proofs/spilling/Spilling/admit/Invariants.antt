use Rattle.fb_bgwrite.proofs.Words.{◌≡◌, ◌-◌, length, HasKept, IsSpilling}
use Rattle.fb_bgwrite.proofs.spilling.Spilling.admit.Given as goal

abbrev pub invariant-loop-put : goal.invariant-loop-put
invariant-loop-put l = record {
  spilling : IsSpilling l.self;
  kept : HasKept l.fn.self l.self;
  items : l.self.items ≡ l.fn.self.items;
  instant : l.self.instant ≡ l.instant;
}

abbrev pub decreases-loop-put : goal.decreases-loop-put
decreases-loop-put l = length l.self.puts.now - l.self.admitted
