use Rattle.fb_sectormap.proofs.Words.{◌≡◌, ◌-◌, ◌%◌, ◌≤◌, arith, ap, ◌∙◌, sym, ◌∷◌, ◌+◌, Place, Track, place_at, track_at, sweep_of}
use Rattle.fb_sectormap.proofs.Words.{cutting}
use Rattle.fb_units.specs.declared.types.Sweep.{Sweep}
use Rattle.fb_sectormap.specs.Sweeps.{swept}
use Rattle.fb_sectormap.proofs.Cutting.{first_cut-is, one_turn-from}
use Rattle.fb_sectormap.proofs.map.SectorMap.next_cut.Goals as goal
use Rattle.fb_sectormap.proofs.map.SectorMap.next_cut.Goals.{then-count-left, else-count-left}

-- the last sector of the block is on the disk
pub place_near-last-requires-clause-on_disk : goal.place_near-last-requires-clause-on_disk
place_near-last-requires-clause-on_disk c =
    let most = c.if-count-left.most in
    let within : most ≤ c.args.count = elim c.if-count-left.branch [ then-count-left w ↦ omega arith | else-count-left w ↦ omega arith ] in
    omega (arith, within, c.turn_length-count.ensures.some, c.turn_length-count.ensures.bound, c.requires.on_disk)

-- the sweep is that from the first sector to the last
pub returns-clause-sweep : goal.returns-clause-sweep
unfolding sweep_of
returns-clause-sweep c =
    let disk = c.args.self.now in
    let first = c.args.first in
    let k = c.turn_length-count.result in
    let last : first + (k - 1) ≡ first + k - 1 = omega (arith, c.turn_length-count.ensures.some) in
    c.swept.ensures
    ∙ ap (λ (p : Place). swept disk p c.place_near-last.result) c.place_near-place.ensures.value
    ∙ ap (swept disk (place_at disk first)) (c.place_near-last.ensures.value ∙ ap (place_at disk) last)

pub returns-clause-first : goal.returns-clause-first
returns-clause-first c =
    let disk = c.args.self.now in
    let first = c.args.first in
    let k = c.turn_length-count.result in
    let most = c.if-count-left.most in
    let within : most ≤ c.args.count = elim c.if-count-left.branch [ then-count-left w ↦ omega arith | else-count-left w ↦ omega arith ] in
    let small : most ≤ c.args.block - first % c.args.block =
    elim c.if-count-left.branch [ then-count-left w ↦ omega arith | else-count-left w ↦ omega arith ] in
    let rest = cutting disk c.args.block (first + k) (c.args.count - k) in
    let track : track_at disk first ≡ c.place_near-place.result.track =
    ap (λ (p : Place). p.track) (sym c.place_near-place.ensures.value) in
    first_cut-is disk c.args.block first c.args.count most k c.requires.block within small
    (λ less. elim c.if-count-left.branch [ then-count-left w ↦ omega arith | else-count-left w ↦ omega arith ])
    c.turn_length-count.ensures.some c.turn_length-count.ensures.bound c.turn_length-count.ensures.goes_on c.turn_length-count.ensures.ends
    ∙ ap (λ (t : Track). record { lbn = first; count = k; track = t; sweep = sweep_of disk first k } ∷ rest) track
    ∙ ap (λ (s : Sweep). record { lbn = first; count = k; track = c.place_near-place.result.track; sweep = s } ∷ rest)
    (sym (returns-clause-sweep c))

pub returns-clause-one_turn : goal.returns-clause-one_turn
returns-clause-one_turn c = one_turn-from c.args.self.now c.args.first c.turn_length-count.result c.turn_length-count.ensures.goes_on
