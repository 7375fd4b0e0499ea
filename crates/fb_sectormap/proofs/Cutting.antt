-- The first block of a cutting.
use Rattle.fb_sectormap.proofs.Words.{◌≡◌, ℕ, zero, suc, ◌+◌, ◌-◌, ◌%◌, ◌<◌, ◌≤◌, List, [], ◌∷◌, true, false, refl, ap, sym, ◌∙◌, arith}
use Rattle.fb_sectormap.proofs.Words.{inl, inr, ◌==◌, eq-eqb, cases_lt, mod-add-mod, mod-eq_of_lt, mod-lt, Shape, place_at, cutting}
use Rattle.fb_sectormap.proofs.Words.{is_later}
use Rattle.std.proofs.Common.{not, ◌⊎◌}
use Rattle.std.proofs.lemmas.Bool.{or_from, or_left, or_right, ne_eqb}
use Rattle.std.proofs.Math.Nat.{mod_self}
use Rattle.fb_sectormap.specs.declared.cut.Cut.{Cut}
use Rattle.fb_sectormap.specs.Cutting.{IsOneTurn, cut_of, with_sector, is_cut_before}

-- a sector whose block ends with it is a block of its own
alone : (disk : Shape) (block lbn : ℕ) (cuts : List Cut) → (cuts ≡ []) ⊎ (is_cut_before disk block (lbn + 1) ≡ true)
    → with_sector disk block lbn cuts ≡ cut_of disk lbn 1 ∷ cuts
alone disk block lbn [] h = refl
alone disk block lbn (cut ∷ cuts) (inl none) = cc
alone disk block lbn (cut ∷ cuts) (inr here) = rw here refl

-- a sector whose block goes on joins the block of the next sector
goes_on : (disk : Shape) (block lbn count : ℕ) (cuts : List Cut) → is_cut_before disk block (lbn + 1) ≡ false
    → with_sector disk block lbn (cut_of disk (lbn + 1) count ∷ cuts) ≡ cut_of disk lbn (count + 1) ∷ cuts
goes_on disk block lbn count cuts here = rw here refl

ended : (disk : Shape) (block lbn n : ℕ) → (1 < suc n → is_cut_before disk block (lbn + 1) ≡ true)
    → (cutting disk block (lbn + 1) n ≡ []) ⊎ (is_cut_before disk block (lbn + 1) ≡ true)
unfolding cutting
ended disk block lbn zero ends = inl refl
ended disk block lbn (suc n) ends = inr (ends (omega arith))

-- the first block and the cutting of the rest, with numbers replaced by equal ones
front : (disk : Shape) (block lbn count count' at at' n n' : ℕ) → count ≡ count' → at ≡ at' → n ≡ n'
    → cut_of disk lbn count ∷ cutting disk block at n ≡ cut_of disk lbn count' ∷ cutting disk block at' n'
front disk block lbn count count' at at' n n' e f g =
    ap (λ c. cut_of disk lbn c ∷ cutting disk block at n) e ∙ ap (λ a. cut_of disk lbn count' ∷ cutting disk block a n) f
    ∙ ap (λ m. cut_of disk lbn count' ∷ cutting disk block at' m) g

pub first_block : (disk : Shape) (block lbn n k : ℕ) → 0 < k → k ≤ n
    → ((i : ℕ) → 0 < i → i < k → is_cut_before disk block (lbn + i) ≡ false) → (k < n → is_cut_before disk block (lbn + k) ≡ true)
    → cutting disk block lbn n ≡ cut_of disk lbn k ∷ cutting disk block (lbn + k) (n - k)
unfolding cutting
first_block disk block lbn n zero some le on ends = absurd (omega arith)
first_block disk block lbn zero (suc k) some le on ends = absurd (omega arith)
first_block disk block lbn (suc n) (suc zero) some le on ends =
    alone disk block lbn (cutting disk block (lbn + 1) n) (ended disk block lbn n ends)
    ∙ front disk block lbn 1 1 (lbn + 1) (lbn + 1) n (suc n - 1) refl refl (omega arith)
first_block disk block lbn (suc n) (suc (suc k)) some le on ends =
    let rest = first_block disk block (lbn + 1) n (suc k) (omega arith) (omega arith)
    (λ i more less. ap (is_cut_before disk block) (let next : lbn + 1 + i ≡ lbn + (i + 1) = omega arith in next)
    ∙ on (i + 1) (omega arith) (omega arith))
    (λ less. ap (is_cut_before disk block) (let next : lbn + 1 + suc k ≡ lbn + suc (suc k) = omega arith in next) ∙ ends (omega arith)) in
    ap (with_sector disk block lbn) rest
    ∙ goes_on disk block lbn (suc k) (cutting disk block (lbn + 1 + suc k) (n - suc k)) (on 1 (omega arith) (omega arith))
    ∙ front disk block lbn (suc k + 1) (suc (suc k)) (lbn + 1 + suc k) (lbn + suc (suc k)) (n - suc k) (suc n - suc (suc k)) (omega arith)
    (omega arith) (omega arith)

-- no multiple of the block size comes before the block's end
inside_block : (block first i : ℕ) → 0 < i → i < block - first % block → ((first + i) % block == 0) ≡ false
inside_block block first i some less =
    let small : first % block + i < block = omega arith in
    let value : (first + i) % block ≡ first % block + i = sym (mod-add-mod first block i) ∙ mod-eq_of_lt small in
    ne_eqb ((first + i) % block) 0 (λ e. omega arith)

at_block : (block first i : ℕ) → 0 < block → i ≡ block - first % block → ((first + i) % block == 0) ≡ true
at_block block first i some e =
    let low : first % block < block = mod-lt first some in
    let whole : first % block + i ≡ block = omega arith in
    eq-eqb ((first + i) % block) 0 (sym (mod-add-mod first block i) ∙ (ap (λ n. n % block) whole ∙ mod_self block))

-- the first block has the sectors that come by in one turn, up to the end of the range or the next multiple of the block size
pub first_cut-is : (disk : Shape) (block first count most k : ℕ) → 0 < block → most ≤ count → most ≤ block - first % block
    → (most < count → most ≡ block - first % block) → 0 < k → k ≤ most
    → ((i : ℕ) → 0 < i → i < k → is_later disk (place_at disk (first + i - 1)) (place_at disk (first + i)) ≡ true)
    → (k < most → is_later disk (place_at disk (first + k - 1)) (place_at disk (first + k)) ≡ false)
    → cutting disk block first count ≡ cut_of disk first k ∷ cutting disk block (first + k) (count - k)
first_cut-is disk block first count most k some_block within small whole some bound goes_on ends =
    first_block disk block first count k some (omega arith)
    (λ i more less. or_from ((first + i) % block == 0) (not (is_later disk (place_at disk (first + i - 1)) (place_at disk (first + i))))
    (inside_block block first i more (omega arith)) (ap not (goes_on i more less)))
    (λ less. elim (cases_lt k most) [
      | inl early ↦ or_right ((first + k) % block == 0) (not (is_later disk (place_at disk (first + k - 1)) (place_at disk (first + k))))
          (ap not (ends early))
      | inr late ↦ or_left ((first + k) % block == 0) (not (is_later disk (place_at disk (first + k - 1)) (place_at disk (first + k))))
          (at_block block first k some_block (omega (arith, whole (omega arith))))
    ])

-- sectors come by in one turn if each comes by later than the one before it
pub one_turn-from : (disk : Shape) (first count : ℕ)
    → ((i : ℕ) → 0 < i → i < count → is_later disk (place_at disk (first + i - 1)) (place_at disk (first + i)) ≡ true)
    → IsOneTurn disk first count
one_turn-from disk first count goes_on i less =
    let here : first + i ≡ first + (i + 1) - 1 = omega arith in
    let next : first + i + 1 ≡ first + (i + 1) = omega arith in
    ap (λ at. is_later disk (place_at disk at) (place_at disk (first + i + 1))) here
    ∙ ap (λ at. is_later disk (place_at disk (first + (i + 1) - 1)) (place_at disk at)) next
    ∙ goes_on (i + 1) (omega arith) (omega arith)
