use Rattle.fb_geometry.proofs.Words.{ap, arith, inr, positions, rank, slice_get, sym, ◌-◌, ◌∙◌, ◌≡◌}
use Rattle.fb_geometry.proofs.{Marking.position_get, Marking.fewer_unmarked, Marking.few_spares}
use Rattle.fb_geometry.proofs.marks.sector_of_entry.Goals as goal

pub returns-clause-some : goal.returns-clause-some
returns-clause-some c =
    let numbers = positions c.args.marks.now in
    let spare = c.unmarked_before-unmarked.result - c.unmarked_before.result in
    let inside = few_spares c.args.marks.now c.requires.ascending c.args.sectors c.args.entry (omega arith) (omega arith) in
    let fewer = fewer_unmarked c.args.marks.now c.requires.ascending c.args.sectors c.args.entry (omega arith) in
    let same : c.args.entry - rank c.args.entry numbers - (c.args.sectors - rank c.args.sectors numbers) ≡ spare = omega arith in
    let stand = ap (slice_get numbers) same ∙ position_get c.args.marks.now spare (record { cylinder = 0; position = 0 }) (omega arith) in
    (sym c.is_marked.ensures ∙ c.if-is_marked.false, inr (omega arith, omega arith, stand))
