-- The blocks into which a range is cut.
use Rattle.fb_model.proofs.Words.{◌≡◌, ℕ, zero, suc, ◌+◌, ◌-◌, ◌%◌, ◌<◌, ◌≤◌, List, [], ◌∷◌, true, false, refl, ap, sym, ◌∙◌, arith, subst}
use Rattle.fb_model.proofs.Words.{inl, inr, Bool, AllByRecursion, cases_Bool, true≢false, cases_lt, all_append, Shape, place_at, track_at}
use Rattle.fb_model.proofs.Words.{cutting, live_cuts, Block, numbered}
use Rattle.std.proofs.Common.{◌==◌, not}
use Rattle.std.proofs.lemmas.Bool.{or_parts, eq-eqb, not-false}
use Rattle.std.proofs.Math.Nat.{mod-add-mod, mod-eq_of_lt, mod-lt, mod_self}
use Rattle.fb_sectormap.specs.declared.cut.Cut.{Cut}
use Rattle.fb_sectormap.specs.Sweeps.{sweep_of}
use Rattle.fb_sectormap.specs.Cutting.{IsOneTurn, with_sector, is_cut_before, is_later}

-- cuts that lie end to end, none beyond a multiple of the block size, each in one turn of its track, with its sweep
abbrev pub AreCuts : Shape → ℕ → ℕ → ℕ → List Cut → Type 0
AreCuts disk block from end [] = from ≡ end
AreCuts disk block from end (cut ∷ cuts) = (cut.lbn ≡ from) × (0 < cut.count) × (cut.count ≤ block - from % block)
    × (cut.track ≡ track_at disk from) × AreCuts disk block (from + cut.count) end cuts × IsOneTurn disk from cut.count
    × (cut.sweep ≡ sweep_of disk from cut.count)

-- a sector that no block begins at comes by later in the turn of the one before
goes_on : (disk : Shape) (block lbn : ℕ) → is_cut_before disk block (lbn + 1) ≡ false
    → (((lbn + 1) % block == 0) ≡ false) × (is_later disk (place_at disk lbn) (place_at disk (lbn + 1)) ≡ true)
goes_on disk block lbn here =
    let back : lbn + 1 - 1 ≡ lbn = omega arith in
    let parts = or_parts ((lbn + 1) % block == 0) (not (is_later disk (place_at disk (lbn + 1 - 1)) (place_at disk (lbn + 1)))) here in
    let later = not-false (is_later disk (place_at disk (lbn + 1 - 1)) (place_at disk (lbn + 1))) parts.1 in
    (parts.0, ap (λ at. is_later disk (place_at disk at) (place_at disk (lbn + 1))) (sym back) ∙ later)

-- a turn that goes on from the next sector goes on from this one
turn_before : (disk : Shape) (lbn count : ℕ) → is_later disk (place_at disk lbn) (place_at disk (lbn + 1)) ≡ true
    → IsOneTurn disk (lbn + 1) count → IsOneTurn disk lbn (count + 1)
turn_before disk lbn count later on zero less =
    ap (λ at. is_later disk (place_at disk at) (place_at disk (at + 1))) (let e : lbn + zero ≡ lbn = omega arith in e) ∙ later
turn_before disk lbn count later on (suc i) less =
    ap (λ at. is_later disk (place_at disk at) (place_at disk (at + 1))) (let e : lbn + suc i ≡ lbn + 1 + i = omega arith in e)
    ∙ on i (omega arith)

-- the room up to the next multiple shrinks by one
room : (block lbn : ℕ) → 0 < block → ((lbn + 1) % block == 0) ≡ false → block - (lbn + 1) % block + 1 ≤ block - lbn % block
room block lbn some other =
    let low : lbn % block < block = mod-lt lbn some in
    elim (cases_lt (lbn % block + 1) block) [
      | inl less ↦ let value : (lbn + 1) % block ≡ lbn % block + 1 = sym (mod-add-mod lbn block 1) ∙ mod-eq_of_lt less in omega arith
      | inr full ↦
          let whole : lbn % block + 1 ≡ block = omega arith in
          absurd (true≢false
          (sym (eq-eqb ((lbn + 1) % block) 0 (sym (mod-add-mod lbn block 1) ∙ (ap (λ n. n % block) whole ∙ mod_self block))) ∙ other))
    ]

with_cut : (disk : Shape) (block lbn end : ℕ) (cuts : List Cut) → 0 < block → AreCuts disk block (lbn + 1) end cuts
    → AreCuts disk block lbn end (with_sector disk block lbn cuts)
with_cut disk block lbn end [] some h = (refl, omega arith, omega (arith, mod-lt lbn some), refl, h, λ i less. absurd (omega arith), refl)
with_cut disk block lbn end (cut ∷ cuts) some h = elim (cases_Bool (is_cut_before disk block (lbn + 1))) [
  | inl here ↦ rw here (refl, omega arith, omega (arith, mod-lt lbn some), refl, h, λ i less. absurd (omega arith), refl)
  | inr on ↦
      let goes = goes_on disk block lbn on in
      let next : lbn + 1 + cut.count ≡ lbn + (cut.count + 1) = omega arith in
      rw on (
        refl,
        omega (arith, h.1),
        omega (arith, h.2, room block lbn some goes.0),
        refl,
        subst (λ at. AreCuts disk block at end cuts) next h.4,
        turn_before disk lbn cut.count goes.1 h.5,
        refl,
      )
]

pub cuts_are : (disk : Shape) (block lbn n : ℕ) → 0 < block → AreCuts disk block lbn (lbn + n) (cutting disk block lbn n)
unfolding cutting
cuts_are disk block lbn zero some = omega arith
cuts_are disk block lbn (suc n) some =
    let next : lbn + 1 + n ≡ lbn + suc n = omega arith in
    with_cut disk block lbn (lbn + suc n) (cutting disk block (lbn + 1) n) some
    (subst (λ e. AreCuts disk block (lbn + 1) e (cutting disk block (lbn + 1) n)) next (cuts_are disk block (lbn + 1) n some))

pub cuts_rise : (disk : Shape) (block from end : ℕ) (cuts : List Cut) → AreCuts disk block from end cuts → from ≤ end
cuts_rise disk block from end [] h = omega (arith, h)
cuts_rise disk block from end (cut ∷ cuts) h = omega (arith, cuts_rise disk block (from + cut.count) end cuts h.4)

-- ---- each has a sector

abbrev pub CutHasSector : Cut → Type 0
CutHasSector cut = 0 < cut.count

abbrev pub HasSector : Block → Type 0
HasSector block = 0 < block.count

cut_sector : (disk : Shape) (block lbn : ℕ) (cuts : List Cut) → AllByRecursion CutHasSector cuts
    → AllByRecursion CutHasSector (with_sector disk block lbn cuts)
cut_sector disk block lbn [] all = (omega arith, tt)
cut_sector disk block lbn (cut ∷ cuts) all = elim (cases_Bool (is_cut_before disk block (lbn + 1))) [
  | inl alone ↦ rw alone (omega arith, all)
  | inr joined ↦ rw joined (omega arith, all.1)
]

pub cuts_have_sectors : (disk : Shape) (block lbn n : ℕ) → AllByRecursion CutHasSector (cutting disk block lbn n)
unfolding cutting
cuts_have_sectors disk block lbn zero = tt
cuts_have_sectors disk block lbn (suc n) = cut_sector disk block lbn (cutting disk block (lbn + 1) n) (cuts_have_sectors disk block (lbn + 1) n)

pub live_have_sectors : (disk : Shape) (block lbn : ℕ) (lives : List Bool) → AllByRecursion CutHasSector (live_cuts disk block lbn lives)
live_have_sectors disk block lbn [] = tt
live_have_sectors disk block lbn (true ∷ lives) = all_append CutHasSector (cutting disk block lbn block)
    (live_cuts disk block (lbn + block) lives) (cuts_have_sectors disk block lbn block) (live_have_sectors disk block (lbn + block) lives)
live_have_sectors disk block lbn (false ∷ lives) = live_have_sectors disk block (lbn + block) lives

-- what holds of the ranges of cuts holds of those of their blocks
pub all_numbered : (P : ℕ → ℕ → Type 0) (task weight n : ℕ) (cuts : List Cut) → AllByRecursion (λ (cut : Cut). P cut.lbn cut.count) cuts
    → AllByRecursion (λ (block : Block). P block.lbn block.count) (numbered task weight n cuts)
all_numbered P task weight n [] all = tt
all_numbered P task weight n (cut ∷ cuts) all = (all.0, all_numbered P task weight (n + 1) cuts all.1)

-- each block that a range is cut into has a sector
pub blocks_have_sectors : (task weight n : ℕ) (cuts : List Cut) → AllByRecursion CutHasSector cuts
    → AllByRecursion HasSector (numbered task weight n cuts)
blocks_have_sectors task weight n cuts all = all_numbered (λ lbn count. 0 < count) task weight n cuts all
