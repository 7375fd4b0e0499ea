use Rattle.fb_fastq.proofs.Words.{◌<◌, ◌-◌, ◌^◌, arith, all_weaker, sptf, ◌≡◌, ◌∙◌, ap, sym, subst, Some, AllByRecursion, first_least, Waiting, pending_of}
use Rattle.fb_fastq.specs.Spots.{IsAngleOf}
use Rattle.fb_model.specs.Accepted.{IsRequestOf}
use Rattle.fb_fastq.proofs.{Least.all_waiting, Least.all_held, Least.first_listed, Least.held_is_in, Chosen.rank_of_first}
use Rattle.fb_fastq.proofs.by_angle.AngleMapPlacing.least_key.Goals as goal

pub first_by_angle-key-requires-clause-on_disk : goal.first_by_angle-key-requires-clause-on_disk
first_by_angle-key-requires-clause-on_disk c =
    let is = IsRequestOf c.args.disk.now.map in
    all_held (λ key r. is r) c.self.inside.waiting (all_waiting is c.self.inside.waiting.entries
    (subst (λ es. AllByRecursion is (pending_of es)) (sym (ap (λ v. v.waiting) c.self.view_is)) c.requires.on_disk))

pub first_by_angle-key-requires-clause-spots : goal.first_by_angle-key-requires-clause-spots
first_by_angle-key-requires-clause-spots c =
    all_held (λ key r. IsAngleOf c.args.disk.now r key.0) c.self.inside.waiting
    (subst (AllByRecursion (λ (w : Waiting). IsAngleOf c.args.disk.now w.1 w.0.0))
    (sym (ap (λ v. v.waiting) c.self.view_is)) c.requires.fits)

pub key_of-requires-clause-request : goal.key_of-requires-clause-request
key_of-requires-clause-request c =
    let is = IsRequestOf c.args.disk.now.map in
    all_held (λ key r. is r) c.self.inside.waiting (all_waiting is c.self.inside.waiting.entries
    (subst (λ es. AllByRecursion is (pending_of es)) (sym (ap (λ v. v.waiting) c.self.view_is)) c.requires.on_disk))
    c.first_by_angle-key.result c.held-request.result c.held-request.ensures.value

pub returns : goal.returns
returns c = λ request others is.
    let rank = sptf c.args.disk.now c.args.head c.args.now in
    let ws = c.self.inside.waiting.entries in
    let key = c.first_by_angle-key.result in
    let r = c.held-request.result in
    let apart = c.self.invariant.0.numbered in
    c.key_of.ensures ∙ rank_of_first rank ws (key, r) (held_is_in key.0 key.1 r ws c.held-request.ensures.value) apart
    (first_listed rank key r c.self.inside.waiting apart c.held-request.ensures.value c.first_by_angle-key.ensures.first) request others
    (subst (λ es. first_least rank (pending_of es) ≡ Some (request, others)) (sym (ap (λ v. v.waiting) c.self.view_is)) is)

pub first_by_angle-key-requires-clause-numbers : goal.first_by_angle-key-requires-clause-numbers
first_by_angle-key-requires-clause-numbers c =
    let few = c.self.invariant.1 in
    all_held (λ key r. key.1 < 2 ^ 64 - 1) c.self.inside.waiting
    (all_weaker _ _ (λ w given. omega (arith, given, few)) c.self.inside.waiting.entries c.self.invariant.0.given)
