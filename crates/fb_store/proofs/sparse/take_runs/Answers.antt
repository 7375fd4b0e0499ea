use Rattle.fb_store.proofs.Words.{ap, sym, ◌∙◌, on_ok_weaker, nat_cmp, get, held_of, after_taking, sectors_of}
use Rattle.fb_store.proofs.Taken.{sectors_of-one}
use Rattle.fb_store.proofs.sparse.take_runs.Goals as goal

pub returns-clause-ok : goal.returns-clause-ok
returns-clause-ok c lbn =
    c.assign_runs.ensures.value lbn ∙ ap (after_taking (sectors_of c.args.contents.now) lbn) (c.in_ok-cut_runs.ensures.same lbn)

pub returns-clause-past : goal.returns-clause-past
returns-clause-past c ends = c.assign_runs.ensures.past (λ lbn past. c.cut_runs.ensures.same lbn ∙ ends lbn past)

pub returns-in_err-cut_runs-clause-past : goal.returns-in_err-cut_runs-clause-past
returns-in_err-cut_runs-clause-past c ends lbn past = c.in_err-cut_runs.ensures.same lbn ∙ ends lbn past

pub returns-then-len-eq1-clause-ok : goal.returns-then-len-eq1-clause-ok
returns-then-len-eq1-clause-ok c = on_ok_weaker c.write_run.result (λ wrote lbn. wrote lbn ∙ ap
    (λ sectors. after_taking sectors lbn (held_of (get nat_cmp c.args.ranges.now) lbn))
    (sym (sectors_of-one c.args.contents.now c.get-run.result (sym c.len.ensures ∙ c.if-len-eq1.true) c.get-run.ensures.value)))
    c.write_run.ensures.ok
