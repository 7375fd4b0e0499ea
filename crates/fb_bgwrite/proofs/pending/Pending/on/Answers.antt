use Rattle.fb_bgwrite.proofs.Words.{◌∙◌, sym, subst, AreOnDisk}
use Rattle.fb_bgwrite.proofs.pending.Pending.on.Goals as goal

pub returns-clause-on_disk : goal.returns-clause-on_disk
returns-clause-on_disk c = λ disk blocks. c.blocks_on.ensures.on_disk disk
    (subst (AreOnDisk disk) (sym (c.all.ensures ∙ c.self.view_is)) blocks)
