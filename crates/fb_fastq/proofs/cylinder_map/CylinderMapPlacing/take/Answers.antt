use Rattle.fb_fastq.proofs.Words.{◌≡◌, ap, sym, subst, Some, AllByRecursion, first_least, Waiting, pending_of}
use Rattle.fb_fastq.specs.Spots.{IsCylinderOf}
use Rattle.fb_model.specs.Accepted.{IsRequestOf}
use Rattle.fb_fastq.proofs.{Least.all_waiting, Least.all_held, OneMore.all_less, OneMore.taken_more}
use Rattle.fb_fastq.proofs.cylinder_map.CylinderMapPlacing.take.Goals as goal

pub choose-key-requires-clause-on_disk : goal.choose-key-requires-clause-on_disk
choose-key-requires-clause-on_disk g c =
    let on_disk = IsRequestOf c.args.disk.now.map in
    all_held (λ key r. on_disk r) c.self.inside.waiting (all_waiting on_disk c.self.inside.waiting.entries
    (subst (λ es. AllByRecursion on_disk (pending_of es)) (sym (ap (λ v. v.waiting) c.self.view_is)) c.requires.on_disk))

pub choose-key-requires-clause-spots : goal.choose-key-requires-clause-spots
choose-key-requires-clause-spots g c =
    all_held (λ key r. IsCylinderOf c.args.disk.now r key.0) c.self.inside.waiting
    (subst (AllByRecursion (λ (w : Waiting). IsCylinderOf c.args.disk.now w.1 w.0.0))
    (sym (ap (λ v. v.waiting) c.self.view_is)) c.requires.fits)

pub invariant_of-self : goal.invariant_of-self
invariant_of-self g c = c.take_out.ensures.numbers c.self.inside.joined c.self.invariant

pub returns-clause-least : goal.returns-clause-least
returns-clause-least g c =
    let rank = g.C.Policy.key c.args.disk.now c.args.head c.args.now in
    subst (λ es. first_least rank (pending_of es) ≡ Some (c.take_out.result, pending_of c.take_out.new.waiting.entries))
    (ap (λ v. v.waiting) c.self.view_is)
    (c.take_out.ensures.least c.self.inside.joined rank c.self.invariant c.choose-key.ensures.first)

pub returns-clause-fits : goal.returns-clause-fits
returns-clause-fits g c =
    let stands = λ (w : Waiting). IsCylinderOf c.args.disk.now w.1 w.0.0 in
    let less = taken_more c.self.inside.waiting.entries c.choose-key.result c.self.invariant.numbered c.choose-key.ensures.found in
    subst (AllByRecursion stands) (sym c.take_out.ensures.entries)
    (all_less _ _ _ less.1 stands (subst (AllByRecursion stands) (sym (ap (λ v. v.waiting) c.self.view_is)) c.requires.fits))
