-- One more put.
use Rattle.std.proofs.lemmas.Option.{same_Some}
use Rattle.fb_units.proofs.Lists.{all_left, none_of_any, all_right, append_at}
use Rattle.fb_puts.proofs.Words.{get_right, all_push, ◌≡◌, ℕ, ◌+◌, ◌-◌, ◌<◌, List, [], ◌∷◌, ◌++◌, true}
use Rattle.fb_puts.proofs.Words.{false, Some, slice_get, length, inl, inr, refl, sym, ap, ◌∙◌, arith, if◌then◌else◌, AllByRecursion}
use Rattle.fb_puts.proofs.Words.{list_any, nat_cmp, BTreeMap, get, is_at, cases_Bool, nat_tests, SectorRange, share}
use Rattle.fb_puts.proofs.Words.{AreApart, AreTaken}
use Rattle.fb_puts.proofs.{Sharing.is_shares, Sharing.share_either}

pub apart_push : (ranges : List SectorRange) (range : SectorRange) → AreApart ranges
    → AllByRecursion (λ other. share range other ≡ false) ranges → AreApart (ranges ++ range ∷ [])
apart_push [] range apart off = (tt, tt)
apart_push (r ∷ rs) range apart off =
    (all_push (λ other. share r other ≡ false) rs range apart.0 (share_either range r off.0), apart_push rs range apart.1 off.1)

pub apart_pop : (ranges : List SectorRange) (range : SectorRange) → AreApart (ranges ++ range ∷ []) → AreApart ranges
    × (list_any (share range) ranges ≡ false)
apart_pop [] range apart = (tt, refl)
apart_pop (r ∷ rs) range apart =
    let last = all_right (λ other. share r other ≡ false) rs (range ∷ []) apart.0 in
    let rest = apart_pop rs range apart.1 in
    let off : share range r ≡ false = share_either r range last.0 in
    ((all_left (λ other. share r other ≡ false) rs (range ∷ []) apart.0, rest.0), rw off rest.1)

pub at_last : {X : Type 0} (xs : List X) (x : X) → slice_get (xs ++ x ∷ []) (length xs) ≡ Some x
at_last xs x = get_right xs (x ∷ []) 0 (length xs) (omega arith)

same_key : (key : ℕ) → is_at (nat_cmp key) key ≡ true
same_key key = grind (arith, nat_tests)

key_is : (key at : ℕ) → is_at (nat_cmp key) at ≡ true → at ≡ key
key_is key at is = grind (arith, nat_tests)

other_key : (key at : ℕ) → (at ≡ key → ⊥) → is_at (nat_cmp key) at ≡ false
other_key key at other = elim (cases_Bool (is_at (nat_cmp key) at)) [
  | inl is ↦ absurd (other (key_is key at is))
  | inr not' ↦ not'
]

module _ (ends new : BTreeMap ℕ ℕ) (ranges : List SectorRange) (range : SectorRange) (taken : AreTaken ends ranges)
    (off : list_any (share range) ranges ≡ false) (some : 0 < range.count)
    (now : (q : ℕ) → get nat_cmp new q ≡ (if is_at (nat_cmp (range.first + range.count)) q then Some range.first
    else get nat_cmp ends q)) where
  here : get nat_cmp new (range.first + range.count) ≡ Some range.first
  here = now (range.first + range.count) ∙ ap (λ b. if b then Some range.first else get nat_cmp ends (range.first + range.count))
      (same_key (range.first + range.count))

  elsewhere : (q : ℕ) → (q ≡ range.first + range.count → ⊥) → get nat_cmp new q ≡ get nat_cmp ends q
  elsewhere q other = now q ∙ ap (λ b. if b then Some range.first else get nat_cmp ends q) (other_key (range.first + range.count) q other)

  -- another range ends elsewhere
  ends_apart : (other : SectorRange) → share range other ≡ false → 0 < other.count → other.first + other.count
      ≡ range.first + range.count → ⊥
  ends_apart other apart some_other same = let on = is_shares range other (omega arith) (omega arith) some
      some_other in absurd (grind arith)

  kept : (rs : List SectorRange) → AllByRecursion (λ r. get nat_cmp ends (r.first + r.count) ≡ Some r.first) rs
      → AllByRecursion (λ other. share range other ≡ false) rs → AllByRecursion (λ r. 0 < r.count) rs
      → AllByRecursion (λ r. get nat_cmp new (r.first + r.count) ≡ Some r.first) rs
  kept [] each apart all = tt
  kept (r ∷ rs) each apart all = (elsewhere (r.first + r.count) (ends_apart r apart.0 all.0) ∙ each.0, kept rs each.1 apart.1 all.1)

  abbrev Holds : ℕ → ℕ → Type 0
  Holds end first = (i : ℕ) × (slice_get (ranges ++ range ∷ []) i ≡ Some (let own : SectorRange =
      record { first = first; count = end - first } in own)) × (first < end)

  its_own : (end first : ℕ) → end ≡ range.first + range.count → first ≡ range.first → Holds end first
  its_own end first at_end at_first =
      let count : end - first ≡ range.count = omega arith in
      let same : (let own : SectorRange = record { first = first; count = end - first } in own) ≡ range =
      ap (λ f. let own : SectorRange = record { first = f; count = end - first } in own) at_first
      ∙ ap (λ c. let own : SectorRange = record { first = range.first; count = c } in own) count in
      (length ranges, at_last ranges range ∙ sym (ap Some same), omega arith)

  only : (end first : ℕ) → get nat_cmp new end ≡ Some first → Holds end first
  only end first has = elim (cases_Bool (is_at (nat_cmp (range.first + range.count)) end)) [
    | inl is ↦ let at = key_is (range.first + range.count) end is in
        its_own end first at (same_Some first range.first (sym has ∙ ap (get nat_cmp new) at ∙ here))
    | inr other ↦
        let old = taken.only end first (sym (now end ∙ ap (λ b. if b then Some range.first else get nat_cmp ends end) other) ∙ has) in (
          old.0,
          append_at ranges (range ∷ []) old.0 (let own : SectorRange =
              record { first = first; count = end - first } in own) old.1,
          old.2,
        )
  ]

  -- the ranges with one more
  pub taken_push : AreTaken new (ranges ++ range ∷ [])
  taken_push =
      let apart = none_of_any (share range) ranges off in
      record {
        each = all_push (λ r. get nat_cmp new (r.first + r.count) ≡ Some r.first) ranges range
            (kept ranges taken.each apart taken.some) here;
        only = only;
        apart = apart_push ranges range taken.apart apart;
        some = all_push (λ r. 0 < r.count) ranges range taken.some some;
      }
