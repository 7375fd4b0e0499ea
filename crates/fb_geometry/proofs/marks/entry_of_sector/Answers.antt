use Rattle.fb_geometry.proofs.Words.{arith, if◌then◌else◌, list_any, positions, rank, slipped, subst, sym, true, ◌+◌, ◌-◌, ◌<◌, ◌==◌, ◌^◌}
use Rattle.fb_geometry.proofs.Words.{◌∙◌, ◌≡◌}
use Rattle.fb_geometry.proofs.{Slips.slipped_to}
use Rattle.fb_geometry.proofs.marks.entry_of_sector.Goals as goal

pub overflow_add-unmarked_before : goal.overflow_add-unmarked_before
overflow_add-unmarked_before c =
    let numbers = positions c.args.marks.now in
    let start = c.args.sectors - rank c.args.sectors numbers + rank c.args.sector numbers in
    let among : list_any (λ other. other == c.args.sector) numbers ≡ true = sym c.is_marked.ensures ∙ c.if-is_marked.true in
    let fits : slipped start numbers < 2 ^ 32 = subst (λ b. (if b then slipped start numbers else c.args.sector)
    < 2 ^ 32) among c.requires.fits in
    omega (arith, (slipped_to start numbers c.requires.ascending).0)
