use Rattle.fb_fastq.proofs.Words.{ap, sym, subst, AllByRecursion, Waiting}
use Rattle.fb_fastq.specs.Spots.{IsAngleOf}
use Rattle.fb_fastq.proofs.OneMore.{all_more, insert_more}
use Rattle.fb_fastq.proofs.by_angle.AngleMapPlacing.place.Goals as goal

pub returns-clause-fits : goal.returns-clause-fits
returns-clause-fits c =
    let stands = λ (w : Waiting). IsAngleOf c.args.disk.now w.1 w.0.0 in
    let more =
    insert_more c.angle_of-angle.result c.self.inside.joined c.args.request c.self.inside.waiting.entries c.self.invariant.0.given in
    subst (AllByRecursion stands) (sym c.in_ok-add.ensures.entries) (all_more _ _ _ more stands c.angle_of-angle.ensures
    (subst (AllByRecursion stands) (sym (ap (λ v. v.waiting) c.self.view_is)) c.requires.fits))
