use Rattle.fb_bgwrite.proofs.Choices.{same_share}
use Rattle.fb_bgwrite.proofs.search.share_inside.Goals as goal

pub returns : goal.returns
returns c =
    let whole = c.args.whole in
    same_share c.args.search.now.disk.now whole.from whole.end c.args.from c.args.end whole.share c.requires.whole.share c.requires.after
    c.requires.inside
