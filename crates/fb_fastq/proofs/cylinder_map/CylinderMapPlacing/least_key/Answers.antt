use Rattle.fb_fastq.proofs.Words.{◌≡◌, ◌∙◌, ap, sym, subst, Some, AllByRecursion, first_least, Waiting, pending_of}
use Rattle.fb_fastq.specs.Spots.{IsCylinderOf}
use Rattle.fb_model.specs.Accepted.{IsRequestOf}
use Rattle.fb_fastq.proofs.{Least.all_waiting, Least.all_held, Least.first_listed, Least.held_is_in, Chosen.rank_of_first}
use Rattle.fb_fastq.proofs.cylinder_map.CylinderMapPlacing.least_key.Goals as goal

pub choose-key-requires-clause-on_disk : goal.choose-key-requires-clause-on_disk
choose-key-requires-clause-on_disk g c =
    let is = IsRequestOf c.args.disk.now.map in
    all_held (λ key r. is r) c.self.inside.waiting (all_waiting is c.self.inside.waiting.entries
    (subst (λ es. AllByRecursion is (pending_of es)) (sym (ap (λ v. v.waiting) c.self.view_is)) c.requires.on_disk))

pub choose-key-requires-clause-spots : goal.choose-key-requires-clause-spots
choose-key-requires-clause-spots g c =
    all_held (λ key r. IsCylinderOf c.args.disk.now r key.0) c.self.inside.waiting
    (subst (AllByRecursion (λ (w : Waiting). IsCylinderOf c.args.disk.now w.1 w.0.0))
    (sym (ap (λ v. v.waiting) c.self.view_is)) c.requires.fits)

pub key_of-requires-clause-request : goal.key_of-requires-clause-request
key_of-requires-clause-request g c =
    let is = IsRequestOf c.args.disk.now.map in
    all_held (λ key r. is r) c.self.inside.waiting (all_waiting is c.self.inside.waiting.entries
    (subst (λ es. AllByRecursion is (pending_of es)) (sym (ap (λ v. v.waiting) c.self.view_is)) c.requires.on_disk))
    c.choose-key.result c.held-request.result c.held-request.ensures.value

pub returns : goal.returns
returns g c = λ request others is.
    let rank = g.C.Policy.key c.args.disk.now c.args.head c.args.now in
    let ws = c.self.inside.waiting.entries in
    let key = c.choose-key.result in
    let r = c.held-request.result in
    let apart = c.self.invariant.numbered in
    c.key_of.ensures ∙ rank_of_first rank ws (key, r) (held_is_in key.0 key.1 r ws c.held-request.ensures.value) apart
    (first_listed rank key r c.self.inside.waiting apart c.held-request.ensures.value c.choose-key.ensures.first) request others
    (subst (λ es. first_least rank (pending_of es) ≡ Some (request, others)) (sym (ap (λ v. v.waiting) c.self.view_is)) is)
