-- Offers are those of the wanted blocks: each has its block, each block its offer, and sums over both are the same.
use Rattle.fb_plan.proofs.Words.{◌≡◌, ℕ, suc, ◌<◌, ◌==◌, List, [], ◌∷◌, Bool, true, ◌&&◌, Some, slice_get, get_or, filter, length, map}
use Rattle.fb_plan.proofs.Words.{inl, inr, refl, arith, sym, ap, ◌∙◌, subst, if◌then◌else◌, sum_by, cases_Bool, and_parts, and_from}
use Rattle.fb_plan.proofs.Words.{eqb-true, eq-eqb, sum_by-cons, slice_get_within, slice_get-get_or, same_Some, filter_from, filter_to}
use Rattle.fb_plan.proofs.Words.{Sweep, Disk, Block, Entry, Offer, AreOffers, is_wanted, wanted_of, Turning, AreOnDisk, IsInTurn}
use Rattle.fb_plan.proofs.Words.{IsTurning, added}
use Rattle.std.proofs.Common.{zero}
use Rattle.std.proofs.Common.{option_map}
use Rattle.std.proofs.lemmas.Option.{slice_get-map}
use Rattle.fb_wanted.specs.declared.block.State.TheVariants.{Wanted}
use Rattle.fb_plan.specs.Turns.{AreInTurn}
use Rattle.fb_plan.proofs.Gains.{adds, of-wanted}
use Rattle.fb_plan.proofs.Swept.{turning-in}

-- ---- how many pass a test is a sum, which shows whether one does

abbrev counts : {X : Type 0} → (X → Bool) → X → ℕ
counts p x = if p x then 1 else 0

some-counted : {X : Type 0} (p : X → Bool) (xs : List X) (i : ℕ) (x : X) → slice_get xs i ≡ Some x → p x ≡ true → 0 < sum_by (counts p) xs
some-counted p [] zero x at h = absurd (grind arith)
some-counted p [] (suc i) x at h = absurd (grind arith)
some-counted p (y ∷ ys) zero x at h =
    let one : counts p y ≡ 1 = rw (ap p (same_Some y x at) ∙ h) refl in
    omega (arith, sum_by-cons (counts p) y ys, one)
some-counted p (y ∷ ys) (suc i) x at h = omega (arith, sum_by-cons (counts p) y ys, some-counted p ys i x at h)

counted-some : {X : Type 0} (p : X → Bool) (xs : List X) → 0 < sum_by (counts p) xs
    → (i : ℕ) × (x : X) × (slice_get xs i ≡ Some x) × (p x ≡ true)
counted-some p [] h = absurd (omega arith)
counted-some p (y ∷ ys) h = elim (cases_Bool (p y)) [
  | inl t ↦ (zero, y, refl, t)
  | inr f ↦
      let none : counts p y ≡ 0 = rw f refl in
      let rest = counted-some p ys (omega (arith, sum_by-cons (counts p) y ys, none)) in
      (suc rest.0, rest.1, rest.2, rest.3)
]

abbrev same_sweep : Sweep → Sweep → Bool
same_sweep a b = (a.begin == b.begin) && (a.length == b.length)

one-sweep : (a b : Sweep) → same_sweep a b ≡ true → a ≡ b
one-sweep a b h =
    let parts = and_parts (a.begin == b.begin) (a.length == b.length) h in
    ap (λ (x : ℕ). record { begin = x; length = a.length }) (eqb-true a.begin b.begin parts.0)
    ∙ ap (λ (x : ℕ). record { begin = b.begin; length = x }) (eqb-true a.length b.length parts.1)

itself : (s : Sweep) → same_sweep s s ≡ true
itself s = and_from (s.begin == s.begin) (s.length == s.length) (eq-eqb s.begin s.begin refl) (eq-eqb s.length s.length refl)

-- ---- wanted blocks and their entries

length-blocks : (es : List Entry) → length (map (λ (x : Entry). x.block) es) ≡ length es
length-blocks [] = refl
length-blocks (e ∷ es) = rw (length-blocks es) refl

-- a wanted block is that of an entry
pub entry-of : (es : List Entry) (i : ℕ) (b : Block) → slice_get (wanted_of es) i ≡ Some b
    → (k : ℕ) × (e : Entry) × (slice_get es k ≡ Some e) × (e.block ≡ b) × (is_wanted e.state ≡ true)
entry-of es i b at =
    let wanted = filter (λ (x : Entry). is_wanted x.state) es in
    let lt : i < length wanted = omega (arith, slice_get_within (wanted_of es) i b at, length-blocks wanted) in
    let d : Entry = record { block = b; state = Wanted } in
    let e = get_or wanted i d in
    let here = slice_get-get_or wanted i d lt in
    let block = slice_get-map (λ (x : Entry). x.block) wanted i ∙ ap (option_map (λ (x : Entry). x.block)) here in
    let same : e.block ≡ b = same_Some e.block b (sym block ∙ at) in
    let r = filter_from (λ (x : Entry). is_wanted x.state) es i e here in
    (r.0, e, r.1, same, r.2)

-- and the block of an entry is wanted, if its state is
pub wanted-at : (es : List Entry) (k : ℕ) (e : Entry) → slice_get es k ≡ Some e → is_wanted e.state ≡ true
    → (i : ℕ) × (slice_get (wanted_of es) i ≡ Some e.block)
wanted-at es k e at on =
    let wanted = filter (λ (x : Entry). is_wanted x.state) es in
    let j = filter_to (λ (x : Entry). is_wanted x.state) es k e at on in
    (j.0, slice_get-map (λ (x : Entry). x.block) wanted j.0 ∙ ap (option_map (λ (x : Entry). x.block)) j.1)

-- ---- offers

module _ (offers : List Offer) (entries : List Entry) (are : AreOffers offers entries) where
  -- a wanted block has an offer that passes as it does
  pub offer-of : (i : ℕ) (b : Block) → slice_get (wanted_of entries) i ≡ Some b
      → (k : ℕ) × (o : Offer) × (slice_get offers k ≡ Some o) × (o.sweep ≡ b.sweep)
  offer-of i b at =
      let some = some-counted (λ (x : Block). same_sweep b.sweep x.sweep) (wanted_of entries) i b at (itself b.sweep) in
      let as_many = are (λ s w. if same_sweep b.sweep s then 1 else 0) in
      let found = counted-some (λ (o : Offer). same_sweep b.sweep o.sweep) offers (subst (λ n. 0 < n) (sym as_many) some) in
      (found.0, found.1, found.2, sym (one-sweep b.sweep found.1.sweep found.3))

  -- and an offer is that of a wanted block
  pub block-of : (k : ℕ) (o : Offer) → slice_get offers k ≡ Some o
      → (i : ℕ) × (b : Block) × (slice_get (wanted_of entries) i ≡ Some b) × (b.sweep ≡ o.sweep)
  block-of k o at =
      let some = some-counted (λ (x : Offer). same_sweep o.sweep x.sweep) offers k o at (itself o.sweep) in
      let as_many = are (λ s w. if same_sweep o.sweep s then 1 else 0) in
      let found = counted-some (λ (b : Block). same_sweep o.sweep b.sweep) (wanted_of entries) (subst (λ n. 0 < n) as_many some) in
      (found.0, found.1, found.2, sym (one-sweep o.sweep found.1.sweep found.3))

  -- what the offers of some sweeps add is what the blocks of these sweeps add
  pub sum-offered : (passes : Sweep → Bool) → sum_by (added passes) offers ≡ sum_by (adds (λ b. passes b.sweep)) entries
  sum-offered passes = are (λ s w. if passes s then w else 0) ∙ of-wanted (λ b. passes b.sweep) entries

  module _ (disk : Disk) (turning : Turning) (turns : IsTurning disk turning) (on : AreOnDisk disk entries) where
    pub offer-in-turn : (k : ℕ) (o : Offer) → slice_get offers k ≡ Some o → IsInTurn turning.rotation o.sweep
    offer-in-turn k o at =
        let block = block-of k o at in
        let entry = entry-of entries block.0 block.1 block.2 in
        let its = turning-in disk turning entry.1.block turns (on entry.0 entry.1 entry.2) in
        subst (IsInTurn turning.rotation) (ap (λ (b : Block). b.sweep) entry.3 ∙ block.3) its

    -- offers of blocks on the disk begin in the rotation
    pub offers-in-turn : AreInTurn turning.rotation offers
    offers-in-turn k d less = offer-in-turn k (get_or offers k d) (slice_get-get_or offers k d less)
