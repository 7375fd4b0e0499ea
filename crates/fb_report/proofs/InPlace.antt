-- Lines in their places.
use Rattle.fb_report.proofs.Words.{◌≡◌, ℕ, ◌+◌, ◌<◌, ◌≤◌, List, length, true, false, sym, subst, inl, inr, Some, arith, ◌==◌, slice_get}
use Rattle.fb_report.proofs.Words.{cases_lt, slice_get_within, nat_tests, Grammar, IsLine, IsReadBack, is_first, is_row, is_last}
use Rattle.fb_report.proofs.Words.{is_in_place}
use Rattle.fb_report.proofs.ReadBack.{printed_are_read_back}

module _ (grammar : Grammar) (many index : ℕ) (line : List ℕ) where
  pub at_first : index ≡ 0 → IsLine (is_first grammar) line → IsLine (is_in_place grammar many index) line
  at_first at is = let here : (index == 0) ≡ true = grind (arith, nat_tests) in
      record { part = is.part; is_ended = is.is_ended; whole = is.whole; passes = rw here is.passes }

  pub at_row : 0 < index → index + 1 < many → IsLine (is_row grammar) line → IsLine (is_in_place grammar many index) line
  at_row behind before is =
      let later : (index == 0) ≡ false = grind (arith, nat_tests) in
      let more : (index + 1 == many) ≡ false = grind (arith, nat_tests) in
      record { part = is.part; is_ended = is.is_ended; whole = is.whole; passes = rw (later, more) is.passes }

  pub at_last : 0 < index → index + 1 ≡ many → IsLine (is_last grammar) line → IsLine (is_in_place grammar many index) line
  at_last behind at is =
      let later : (index == 0) ≡ false = grind (arith, nat_tests) in
      let here : (index + 1 == many) ≡ true = grind (arith, nat_tests) in
      record { part = is.part; is_ended = is.is_ended; whole = is.whole; passes = rw (later, here) is.passes }

-- the first line and the last
pub ruleset at_ends = (at_first, at_last)

-- what holds of the lines before an index and of the line there holds of one more
pub one_line_more : (P : ℕ → List ℕ → Type 0) (lines : List (List ℕ)) (now : ℕ) (here : List ℕ) → slice_get lines now ≡ Some here
    → ((index : ℕ) (line : List ℕ) → index < now → slice_get lines index ≡ Some line → P index line) → P now here
    → (index : ℕ) (line : List ℕ) → index < now + 1 → slice_get lines index ≡ Some line → P index line
one_line_more P lines now here at before is index line inside got = elim (cases_lt index now) [
  | inl earlier ↦ before index line earlier got
  | inr later ↦
      let same : now ≡ index = omega arith in
      let there : slice_get lines index ≡ Some here = subst (λ k. slice_get lines k ≡ Some here) same at in
      let one : here ≡ line = cc in
      subst (P index) one (subst (λ k. P k here) same is)
]

-- lines that are all in their places are read back
pub all_in_place : (grammar : Grammar) (lines : List (List ℕ)) (now many : ℕ) → length lines ≡ many → 2 ≤ many → many ≤ now
    → ((index : ℕ) (line : List ℕ) → index < now → slice_get lines index ≡ Some line → IsLine (is_in_place grammar many index) line)
    → IsReadBack grammar lines
all_in_place grammar lines now many same ends all in_place = printed_are_read_back grammar lines (record {
  ends = omega arith;
  in_place = λ index line got. subst (λ n. IsLine (is_in_place grammar n index) line) (sym same)
      (in_place index line (omega (arith, slice_get_within lines index line got)) got);
})
