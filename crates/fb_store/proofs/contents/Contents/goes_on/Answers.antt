use Rattle.fb_store.proofs.Words.{sym, ap, ◌∙◌, ◌-◌, arith, get_or_from_slice_get, joins}
use Rattle.fb_store.proofs.Joined.{last_joins-at}
use Rattle.fb_store.proofs.contents.Contents.goes_on.Goals as goal

pub returns : goal.returns
returns c =
    let size = c.if-len-eq0.false in
    let last = get_or_from_slice_get c.args.self.now (c.len-len.result - 1) c.get.result c.get.result c.get.ensures.value in
    c.joins.ensures ∙ sym (last_joins-at c.args.self.now (c.len-len.result - 1) c.get.result c.args.run.now (omega arith)
    ∙ ap (λ run. joins run c.args.run.now) last)
