use Rattle.fb_bgwrite.proofs.Words.{◌≡◌, IfOk, sym, subst, SpillItem, item_line}
use Rattle.fb_bgwrite.proofs.text.item_line.Goals as goal

pub returns-in-Spill : goal.returns-in-Spill
returns-in-Spill c =
    subst (λ (item : SpillItem). IfOk c.stay_line.result (λ line. line.items ≡ item_line c.args.sector_bytes c.args.bytes item))
    (sym c.in-Spill.is) (c.stay_line.ensures c.args.sector_bytes c.args.bytes)
