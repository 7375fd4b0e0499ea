-- The extents of a service lie end to end, and have the passage of each sector.
use Rattle.fb_decide.proofs.Words.{◌≡◌, ℕ, zero, suc, ◌+◌, ◌-◌, ◌≤◌, ◌<◌, List, [], ◌∷◌, ◌++◌, length, drop, get_or, map, Bool, refl, sym}
use Rattle.fb_decide.proofs.Words.{ap, ap₂, ◌∙◌, arith, find, ◌==◌, Option, None, Some, inl, inr, AllByRecursion, flat_map, range_with_len}
use Rattle.fb_decide.proofs.Words.{map-append, drop_more, drop_all, Track, Shape, track_at, pos, Disk, Passage, Extent, passages}
use Rattle.fb_decide.proofs.Words.{passage_from, passages_of, all_passages_of, IsUnbroken, AreLaid, cases_Bool, nat_tests}
use Rattle.std.specs.Option.{option_or}
use Rattle.std.proofs.lemmas.List.Folds.{find-append}

abbrev lbn_of : Passage → ℕ
lbn_of passage = passage.lbn

served_lbns : (disk : Disk) (source : Track) (now : ℕ) (write : Bool) (lbn n : ℕ)
    → map lbn_of (passages disk source now write lbn n) ≡ range_with_len lbn n
unfolding passages
served_lbns disk source now write lbn zero = refl
served_lbns disk source now write lbn (suc n) = ap (λ ls. lbn ∷ ls) (served_lbns disk (track_at disk.map lbn)
    (passage_from disk.map lbn (now + pos disk.mechanism source (track_at disk.map lbn) write)).end write (lbn + 1) n)

slot_lbns : (disk : Shape) (first begin k n : ℕ)
    → map lbn_of (map (λ i. passage_from disk (first + i) begin) (range_with_len k n)) ≡ range_with_len (first + k) n
slot_lbns disk first begin k zero = refl
slot_lbns disk first begin k (suc n) =
    ap (λ ls. (first + k) ∷ ls) (slot_lbns disk first begin (k + 1) n ∙ ap₂ range_with_len (omega arith) refl)

extent_lbns : (disk : Shape) (extent : Extent) → map lbn_of (passages_of disk extent) ≡ range_with_len extent.first extent.count
extent_lbns disk extent = slot_lbns disk extent.first extent.begin 0 extent.count ∙ ap₂ range_with_len (omega arith) refl

all_lbns : (disk : Shape) (extents : List Extent)
    → map lbn_of (all_passages_of disk extents) ≡ flat_map (λ extent. range_with_len extent.first extent.count) extents
all_lbns disk [] = refl
all_lbns disk (extent ∷ extents) = map-append lbn_of (passages_of disk extent) (all_passages_of disk extents)
    ∙ ap (λ ls. ls ++ map lbn_of (all_passages_of disk extents)) (extent_lbns disk extent)
    ∙ ap (λ ls. range_with_len extent.first extent.count ++ ls) (all_lbns disk extents)

-- a range that another one begins with
cut_off : (a b k n : ℕ) (rest : List ℕ) → range_with_len a k ++ rest ≡ range_with_len b n
    → (k ≤ n) × (rest ≡ range_with_len (b + k) (n - k))
cut_off a b zero n rest e = (omega arith, e ∙ ap₂ range_with_len (omega arith) (omega arith))
cut_off a b (suc k) zero rest e =
    absurd (let wrong : suc (length (range_with_len (a + 1) k ++ rest)) ≡ 0 = ap length e in omega (arith, wrong))
cut_off a b (suc k) (suc n) rest e =
    let more = cut_off (a + 1) (b + 1) k n rest (ap (drop 1) e) in
    (omega (arith, more.0), more.1 ∙ ap₂ range_with_len (omega arith) (omega arith))

same_first : (a b k n : ℕ) (rest : List ℕ) → 0 < k → range_with_len a k ++ rest ≡ range_with_len b n → a ≡ b
same_first a b zero n rest some e = absurd (omega arith)
same_first a b (suc k) zero rest some e =
    absurd (let wrong : suc (length (range_with_len (a + 1) k ++ rest)) ≡ 0 = ap length e in omega (arith, wrong))
same_first a b (suc k) (suc n) rest some e = ap (λ ls. get_or ls 0 0) e

laid_on : (disk : Shape) (extents : List Extent) (first count : ℕ) → AllByRecursion (IsUnbroken disk) extents
    → flat_map (λ extent. range_with_len extent.first extent.count) extents ≡ range_with_len first count → AreLaid first extents count
laid_on disk [] first zero unbroken e = refl
laid_on disk [] first (suc count) unbroken e =
    absurd (let wrong : 0 ≡ suc (length (range_with_len (first + 1) count)) = ap length e in omega (arith, wrong))
laid_on disk (extent ∷ extents) first count unbroken e =
    let cut = cut_off extent.first first extent.count count (flat_map (λ extent. range_with_len extent.first extent.count) extents) e in (
      same_first extent.first first extent.count count (flat_map (λ extent. range_with_len extent.first extent.count)
          extents) unbroken.0.some e,
      cut.0,
      laid_on disk extents (first + extent.count) (count - extent.count) unbroken.1 cut.1,
    )

-- the extents whose passages are a service's
pub laid : (disk : Disk) (extents : List Extent) (source : Track) (now : ℕ) (write : Bool) (lbn n : ℕ)
    → all_passages_of disk.map extents ≡ passages disk source now write lbn n → AllByRecursion (IsUnbroken disk.map) extents
    → AreLaid lbn extents n
laid disk extents source now write lbn n same unbroken =
    laid_on disk.map extents lbn n unbroken
    (sym (all_lbns disk.map extents) ∙ ap (map lbn_of) same ∙ served_lbns disk source now write lbn n)

-- none goes beyond their end
pub laid_within : (extents : List Extent) (first count top : ℕ) → AreLaid first extents count → first + count ≤ top
    → AllByRecursion (λ extent. extent.first + extent.count ≤ top) extents
laid_within [] first count top is_laid within = tt
laid_within (extent ∷ extents) first count top is_laid within = (
  omega (arith, is_laid.0, is_laid.1),
  laid_within extents (first + extent.count) (count - extent.count) top is_laid.2 (omega (arith, is_laid.1)),
)

-- ---- the passage of a sector among those of extents

-- the sector's passage among some
abbrev pub passing : ℕ → List Passage → Option Passage
passing lbn passages = find (λ passage. passage.lbn == lbn) passages

abbrev slots : Shape → ℕ → ℕ → ℕ → ℕ → List Passage
slots disk first begin k n = map (λ i. passage_from disk (first + i) begin) (range_with_len k n)

found : (disk : Shape) (first begin lbn k n : ℕ) → first + k ≤ lbn → lbn < first + k + n
    → passing lbn (slots disk first begin k n) ≡ Some (passage_from disk lbn begin)
found disk first begin lbn k zero from to = absurd (omega arith)
found disk first begin lbn k (suc n) from to = elim (cases_Bool (first + k == lbn)) [
  | inl same ↦ let here : first + k ≡ lbn = grind (arith, nat_tests) in rw same (ap (λ l. Some (passage_from disk l begin)) here)
  | inr other ↦ rw other (found disk first begin lbn (k + 1) n (grind (arith, nat_tests)) (omega arith))
]

absent_below : (disk : Shape) (first begin lbn k n : ℕ) → lbn < first + k → passing lbn (slots disk first begin k n) ≡ None
absent_below disk first begin lbn k zero below = refl
absent_below disk first begin lbn k (suc n) below = grind (arith, nat_tests, absent_below disk first begin lbn (k + 1) n (omega arith))

absent_above : (disk : Shape) (first begin lbn k n : ℕ) → first + k + n ≤ lbn → passing lbn (slots disk first begin k n) ≡ None
absent_above disk first begin lbn k zero above = refl
absent_above disk first begin lbn k (suc n) above = grind (arith, nat_tests, absent_above disk first begin lbn (k + 1) n (omega arith))

-- one extent after the others
pub next_extent : (disk : Shape) (extents : List Extent) (i : ℕ) (d : Extent) (lbn : ℕ) → i < length extents
    → passing lbn (all_passages_of disk (drop i extents))
    ≡ option_or (passing lbn (passages_of disk (get_or extents i d))) (passing lbn (all_passages_of disk (drop (i + 1) extents)))
next_extent disk extents i d lbn within =
    ap (λ es. passing lbn (all_passages_of disk es)) (drop_more extents i d within)
    ∙ find-append (λ passage. passage.lbn == lbn) (passages_of disk (get_or extents i d)) (all_passages_of disk (drop (i + 1) extents))

pub it_is_here : (disk : Shape) (extents : List Extent) (i : ℕ) (d : Extent) (lbn : ℕ) (passage : Passage) → i < length extents
    → (get_or extents i d).first ≤ lbn → lbn < (get_or extents i d).first + (get_or extents i d).count
    → passage ≡ passage_from disk ((get_or extents i d).first + (lbn - (get_or extents i d).first)) (get_or extents i d).begin
    → Some passage ≡ passing lbn (all_passages_of disk (drop i extents))
it_is_here disk extents i d lbn passage within from to is =
    let same : (get_or extents i d).first + (lbn - (get_or extents i d).first) ≡ lbn = omega arith in
    ap Some (is ∙ ap (λ l. passage_from disk l (get_or extents i d).begin) same)
    ∙ sym (next_extent disk extents i d lbn within ∙ ap (λ o. option_or o (passing lbn (all_passages_of disk (drop (i + 1) extents))))
    (found disk (get_or extents i d).first (get_or extents i d).begin lbn 0 (get_or extents i d).count (omega arith) (omega arith)))

pub it_is_before : (disk : Shape) (extents : List Extent) (i : ℕ) (d : Extent) (lbn : ℕ) → i < length extents
    → lbn < (get_or extents i d).first
    → passing lbn (all_passages_of disk (drop i extents)) ≡ passing lbn (all_passages_of disk (drop (i + 1) extents))
it_is_before disk extents i d lbn within below =
    next_extent disk extents i d lbn within ∙ ap (λ o. option_or o (passing lbn (all_passages_of disk (drop (i + 1) extents))))
    (absent_below disk (get_or extents i d).first (get_or extents i d).begin lbn 0 (get_or extents i d).count (omega arith))

pub it_is_behind : (disk : Shape) (extents : List Extent) (i : ℕ) (d : Extent) (lbn : ℕ) → i < length extents
    → (get_or extents i d).first + (get_or extents i d).count ≤ lbn
    → passing lbn (all_passages_of disk (drop i extents)) ≡ passing lbn (all_passages_of disk (drop (i + 1) extents))
it_is_behind disk extents i d lbn within above =
    next_extent disk extents i d lbn within ∙ ap (λ o. option_or o (passing lbn (all_passages_of disk (drop (i + 1) extents))))
    (absent_above disk (get_or extents i d).first (get_or extents i d).begin lbn 0 (get_or extents i d).count (omega arith))

pub it_is_nowhere : (disk : Shape) (extents : List Extent) (n lbn : ℕ) → length extents ≤ n
    → passing lbn (all_passages_of disk (drop n extents)) ≡ None
it_is_nowhere disk extents n lbn within = ap (λ es. passing lbn (all_passages_of disk es)) (drop_all n extents within)
