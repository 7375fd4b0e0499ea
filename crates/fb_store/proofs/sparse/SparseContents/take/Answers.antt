use Rattle.fb_store.proofs.Words.{ap, ◌∙◌, on_ok_weaker, after_taking, held_at, sectors_of}
use Rattle.std.proofs.lemmas.Result.{on_err_weaker}
use Rattle.fb_store.proofs.Taken.{taken_block}
use Rattle.fb_store.proofs.sparse.SparseContents.take.Goals as goal

pub returns-clause-ok : goal.returns-clause-ok
returns-clause-ok c = on_ok_weaker c.take_runs-2.result (λ took lbn. took lbn
    ∙ (ap (after_taking (sectors_of c.in_ok-last.last) lbn) (ap (λ ranges. held_at ranges lbn) c.self.view_is)
    ∙ c.in_ok-last.ensures lbn (held_at c.args.self.now lbn))) c.take_runs-2.ensures.ok

pub returns-clause-given : goal.returns-clause-given
returns-clause-given c = on_ok_weaker c.take_runs-2.result (λ took content_of first n lbn gives. took lbn
    ∙ taken_block content_of first n lbn (sectors_of c.args.contents.now) (held_at c.args.self.now lbn) gives) (returns-clause-ok c)

pub returns-clause-err : goal.returns-clause-err
returns-clause-err c = on_err_weaker c.take_runs-2.result (λ same lbn. same lbn ∙ ap (λ ranges. held_at ranges lbn) c.self.view_is)
    c.take_runs-2.ensures.err

pub returns-then-ascend-clause-ok : goal.returns-then-ascend-clause-ok
returns-then-ascend-clause-ok c = on_ok_weaker c.take_runs.result (λ took lbn. took lbn
    ∙ ap (after_taking (sectors_of c.args.contents.now) lbn) (ap (λ ranges. held_at ranges lbn) c.self.view_is)) c.take_runs.ensures.ok

pub returns-then-ascend-clause-given : goal.returns-then-ascend-clause-given
returns-then-ascend-clause-given c = on_ok_weaker c.take_runs.result (λ took content_of first n lbn gives. took lbn
    ∙ taken_block content_of first n lbn (sectors_of c.args.contents.now) (held_at c.args.self.now lbn) gives)
    (returns-then-ascend-clause-ok c)

pub returns-then-ascend-clause-err : goal.returns-then-ascend-clause-err
returns-then-ascend-clause-err c = on_err_weaker c.take_runs.result
    (λ same lbn. same lbn ∙ ap (λ ranges. held_at ranges lbn) c.self.view_is) c.take_runs.ensures.err

pub invariant_of-self : goal.invariant_of-self
invariant_of-self c = c.take_runs.ensures.past c.self.invariant

pub invariant_of-self-2 : goal.invariant_of-self-2
invariant_of-self-2 c = c.take_runs-2.ensures.past c.self.invariant
