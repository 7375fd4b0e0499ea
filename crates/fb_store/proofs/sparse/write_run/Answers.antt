use Rattle.fb_store.proofs.Words.{refl, ◌∙◌, arith, nat_cmp, get, held_of}
use Rattle.fb_store.proofs.Taken.{taken_run}
use Rattle.fb_store.proofs.sparse.write_run.Goals as goal

pub returns-clause-ok : goal.returns-clause-ok
returns-clause-ok c lbn = taken_run c.args.run.now lbn (held_of (get nat_cmp c.args.ranges.now) lbn)
    (held_of (get nat_cmp c.write.new.ranges) lbn) (c.in_ok-write.ensures.inside lbn) (c.in_ok-write.ensures.before lbn)
    (c.in_ok-write.ensures.after lbn)

pub returns-then-run-eq0-clause-ok : goal.returns-then-run-eq0-clause-ok
returns-then-run-eq0-clause-ok c lbn = taken_run c.args.run.now lbn (held_of (get nat_cmp c.args.ranges.now) lbn)
    (held_of (get nat_cmp c.args.ranges.now) lbn) (λ from to. absurd (omega (arith, c.if-run-eq0.true))) (λ less. refl) (λ more. refl)

pub returns-clause-past : goal.returns-clause-past
returns-clause-past c ends lbn past = c.in_ok-write.ensures.after lbn (omega (arith, c.requires)) ∙ ends lbn past

pub returns-in_err-write-clause-past : goal.returns-in_err-write-clause-past
returns-in_err-write-clause-past c ends lbn past = c.in_err-write.ensures.err lbn ∙ ends lbn past
