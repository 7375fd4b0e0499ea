use Rattle.fb_store.proofs.Words.{ap, ◌∙◌, nat_cmp, get, on_err, after_dropping, held_of, held_at}
use Rattle.fb_store.proofs.Taken.{dropped, dropped_past}
use Rattle.fb_store.proofs.sparse.SparseContents.drop_range.Goals as goal

pub returns-clause-ok : goal.returns-clause-ok
returns-clause-ok c lbn =
    dropped c.args.first c.args.count lbn (held_of (get nat_cmp c.self.inside.ranges) lbn) (held_of (get nat_cmp c.write.new.ranges) lbn)
    (c.in_ok-write.ensures.inside lbn) (c.in_ok-write.ensures.before lbn) (c.in_ok-write.ensures.after lbn)
    ∙ ap (λ ranges. after_dropping c.args.first c.args.count lbn (held_at ranges lbn)) c.self.view_is

pub returns-in_err-write-clause-err : goal.returns-in_err-write-clause-err
returns-in_err-write-clause-err c =
    on_err c.from_residual.result (λ lbn. c.in_err-write.ensures.err lbn ∙ ap (λ ranges. held_at ranges lbn) c.self.view_is)

pub invariant_of-self : goal.invariant_of-self
invariant_of-self c lbn past = c.in_err-write.ensures.err lbn ∙ c.self.invariant lbn past

pub invariant_of-self-2 : goal.invariant_of-self-2
invariant_of-self-2 c lbn past =
    dropped c.args.first c.args.count lbn (held_of (get nat_cmp c.self.inside.ranges) lbn) (held_of (get nat_cmp c.write.new.ranges) lbn)
    (c.in_ok-write.ensures.inside lbn) (c.in_ok-write.ensures.before lbn) (c.in_ok-write.ensures.after lbn)
    ∙ dropped_past c.args.first c.args.count lbn (held_of (get nat_cmp c.self.inside.ranges) lbn) (c.self.invariant lbn past)
