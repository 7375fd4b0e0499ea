use Rattle.fb_top.proofs.Words.{ℕ, sym, subst, AllByRecursion, array_terms, array_of, device_inputs}
use Rattle.fb_mirror.specs.Replacement.{IsWithin, events}
use Rattle.fb_top.proofs.array.copy_survivor.Goals as goal

pub rebuild-requires-clause-ranges : goal.rebuild-requires-clause-ranges
rebuild-requires-clause-ranges c =
    let run = c.get.result.now in
    let device = c.in-Some.words.device in
    let mine = c.requires.full device run c.get.ensures in
    subst (λ (sectors : ℕ). AllByRecursion (IsWithin sectors) (events run)) (sym c.count-sectors.ensures.value)
    (c.runs_lie_on_the_disk.ensures (device_inputs (array_terms c.args.words.now) (array_of c.args.files.now) device mine.trace) run
    mine.accepted mine.full)
