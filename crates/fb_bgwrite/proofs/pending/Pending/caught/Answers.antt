use Rattle.fb_bgwrite.proofs.Words.{◌∙◌, sym, subst, AreOnDisk}
use Rattle.fb_bgwrite.proofs.pending.Pending.caught.Goals as goal

pub caught-requires-clause-blocks : goal.caught-requires-clause-blocks
caught-requires-clause-blocks c = subst (AreOnDisk c.args.disk.now) (sym (c.all.ensures ∙ c.self.view_is)) c.requires.blocks
