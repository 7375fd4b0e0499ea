use Rattle.fb_fastq.proofs.Words.{◌<◌, ◌-◌, ◌^◌, arith, all_weaker, sptf, ◌≡◌, ap, sym, subst, Some, AllByRecursion, first_least, Waiting, pending_of}
use Rattle.fb_fastq.specs.Spots.{IsAngleOf}
use Rattle.fb_model.specs.Accepted.{IsRequestOf}
use Rattle.fb_fastq.proofs.{Least.all_waiting, Least.all_held, OneMore.all_less, OneMore.taken_more}
use Rattle.fb_fastq.proofs.by_angle.AngleMapPlacing.take.Goals as goal

pub first_by_angle-key-requires-clause-on_disk : goal.first_by_angle-key-requires-clause-on_disk
first_by_angle-key-requires-clause-on_disk c =
    let on_disk = IsRequestOf c.args.disk.now.map in
    all_held (λ key r. on_disk r) c.self.inside.waiting (all_waiting on_disk c.self.inside.waiting.entries
    (subst (λ es. AllByRecursion on_disk (pending_of es)) (sym (ap (λ v. v.waiting) c.self.view_is)) c.requires.on_disk))

pub first_by_angle-key-requires-clause-spots : goal.first_by_angle-key-requires-clause-spots
first_by_angle-key-requires-clause-spots c =
    all_held (λ key r. IsAngleOf c.args.disk.now r key.0) c.self.inside.waiting
    (subst (AllByRecursion (λ (w : Waiting). IsAngleOf c.args.disk.now w.1 w.0.0))
    (sym (ap (λ v. v.waiting) c.self.view_is)) c.requires.fits)

pub invariant_of-self : goal.invariant_of-self
invariant_of-self c = (c.take_out.ensures.numbers c.self.inside.joined c.self.invariant.0, c.self.invariant.1)

pub returns-clause-least : goal.returns-clause-least
returns-clause-least c =
    let rank = sptf c.args.disk.now c.args.head c.args.now in
    subst (λ es. first_least rank (pending_of es) ≡ Some (c.take_out.result, pending_of c.take_out.new.waiting.entries))
    (ap (λ v. v.waiting) c.self.view_is)
    (c.take_out.ensures.least c.self.inside.joined rank c.self.invariant.0 c.first_by_angle-key.ensures.first)

pub returns-clause-fits : goal.returns-clause-fits
returns-clause-fits c =
    let stands = λ (w : Waiting). IsAngleOf c.args.disk.now w.1 w.0.0 in
    let less = taken_more c.self.inside.waiting.entries c.first_by_angle-key.result c.self.invariant.0.numbered c.first_by_angle-key.ensures.found in
    subst (AllByRecursion stands) (sym c.take_out.ensures.entries)
    (all_less _ _ _ less.1 stands (subst (AllByRecursion stands) (sym (ap (λ v. v.waiting) c.self.view_is)) c.requires.fits))

pub first_by_angle-key-requires-clause-numbers : goal.first_by_angle-key-requires-clause-numbers
first_by_angle-key-requires-clause-numbers c =
    let few = c.self.invariant.1 in
    all_held (λ key r. key.1 < 2 ^ 64 - 1) c.self.inside.waiting
    (all_weaker _ _ (λ w given. omega (arith, given, few)) c.self.inside.waiting.entries c.self.invariant.0.given)
