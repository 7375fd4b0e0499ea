use Rattle.fb_decide.proofs.Words.{map, take, Shape, Past, TellsUpToDate, HasDelivered, AreDeliverable, held_now, delivery_row}
use Rattle.fb_decide.proofs.background.Background.deliver_all.Given as goal

-- the first catches were delivered
abbrev pub invariant-loop-catch : goal.invariant-loop-catch
invariant-loop-catch l = (disk : Shape) (past : Past) → TellsUpToDate disk past l.fn.self
    → AreDeliverable past (map (delivery_row (held_now l.store) l.how) l.catches)
    → HasDelivered disk past (take l.catch-index (map (delivery_row (held_now l.store) l.how) l.catches)) l.fn.self.rows l.self
