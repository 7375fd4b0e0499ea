-- The streaks of a task's blocks.
use Rattle.fb_wanted.proofs.Words.{◌≡◌, ◌≤◌, ℕ, zero, suc, ◌⊎◌, inl, inr, ◌==◌, List, [], ◌∷◌, ◌++◌, true, false, Some, length, filter}
use Rattle.fb_wanted.proofs.Words.{slice_get, refl, ap, sym, ◌∙◌, arith, subst, option_map, BTreeSet, contains, cases_Bool, cases_lt}
use Rattle.fb_wanted.proofs.Words.{true≢false, nat_tests, length-map, slice_get-map, slice_get_within, same_Some, none-some, element_at}
use Rattle.fb_wanted.proofs.Words.{old_or_last, Entry, State, Streak, is_of_task, lbns, region_of, key_of, streak_cmp, IsInStreak}
use Rattle.fb_wanted.proofs.Words.{BeginsStreak, AreNoted, AreShort, with_state}
use Rattle.std.proofs.Common.{◌↔◌}
use Rattle.fb_wanted.proofs.Elements.{at_left, at_end}

-- the LBN of the k-th block of a task
pub lbn_at : (task : ℕ) (es : List Entry) (k : ℕ) (e : Entry) → slice_get (filter (is_of_task task) es) k ≡ Some e
    → slice_get (lbns task es) k ≡ Some e.block.lbn
lbn_at task es k e at = slice_get-map (λ x. x.block.lbn) (filter (is_of_task task) es) k ∙ ap (option_map (λ x. x.block.lbn)) at

pub length-lbns : (task : ℕ) (es : List Entry) → length (lbns task es) ≡ length (filter (is_of_task task) es)
length-lbns task es = length-map (filter (is_of_task task) es) (λ e. e.block.lbn)

-- a change of states doesn't change the LBNs
pub lbns-with_state : (task : ℕ) (s : State) (n : ℕ) (es : List Entry) → lbns task (with_state s n es) ≡ lbns task es
lbns-with_state task s n [] = refl
lbns-with_state task s zero (e ∷ es) = elim (cases_Bool (e.block.task == task)) [ inl own ↦ rw own refl | inr other ↦ rw other refl ]
lbns-with_state task s (suc n) (e ∷ es) = elim (cases_Bool (e.block.task == task)) [
  | inl own ↦ rw own (ap (λ l. e.block.lbn ∷ l) (lbns-with_state task s n es))
  | inr other ↦ rw other (lbns-with_state task s n es)
]

pub noted-with_state : (s : State) (n : ℕ) (es : List Entry) (streaks : BTreeSet (ℕ × ℕ × ℕ)) → AreNoted es streaks
    → AreNoted (with_state s n es) streaks
noted-with_state s n es streaks h task streak =
    subst (λ l. (contains streak_cmp streaks (key_of task streak) ≡ true) ↔ BeginsStreak l streak) (sym (lbns-with_state task s n es))
    (h task streak)

pub lbns-own : (task : ℕ) (es : List Entry) (e : Entry) → (e.block.task == task) ≡ true
    → lbns task (es ++ e ∷ []) ≡ lbns task es ++ e.block.lbn ∷ []
lbns-own task [] e own = rw own refl
lbns-own task (x ∷ es) e own = elim (cases_Bool (x.block.task == task)) [
  | inl yes' ↦ rw yes' (ap (λ l. x.block.lbn ∷ l) (lbns-own task es e own))
  | inr no' ↦ rw no' (lbns-own task es e own)
]

pub lbns-other : (task : ℕ) (es : List Entry) (e : Entry) → (e.block.task == task) ≡ false → lbns task (es ++ e ∷ []) ≡ lbns task es
lbns-other task [] e other = rw other refl
lbns-other task (x ∷ es) e other = elim (cases_Bool (x.block.task == task)) [
  | inl yes' ↦ rw yes' (ap (λ l. x.block.lbn ∷ l) (lbns-other task es e other))
  | inr no' ↦ rw no' (lbns-other task es e other)
]

-- the streaks of a list of LBNs are streaks when one more follows
pub streaks_stay : (xs : List ℕ) (y : ℕ) (streak : Streak) → BeginsStreak xs streak → BeginsStreak (xs ++ y ∷ []) streak
streaks_stay xs y streak h = record {
  lbn = h.lbn;
  at = at_left xs y h.lbn streak.number h.at;
  region = h.region;
  anew = λ i before next at. elim (old_or_last xs y before i at) [
    | inl old ↦ h.anew i before next old.1
    | inr last ↦ absurd (omega (arith, last.0, next, slice_get_within xs streak.number h.lbn h.at))
  ];
}

-- the last LBN begins a streak, or it is none that is new
pub last_begins : (xs : List ℕ) (y : ℕ) (streak : Streak) → streak.number ≡ length xs → streak.region ≡ region_of y
    → ((i before : ℕ) → suc i ≡ streak.number → slice_get xs i ≡ Some before → region_of before ≡ streak.region → ⊥)
    → BeginsStreak (xs ++ y ∷ []) streak
last_begins [] y streak here region anew =
    record {
      lbn = y;
      at = ap (slice_get (y ∷ [])) here;
      region = sym region;
      anew =
          λ i before next at. absurd (omega (arith, next, here));
    }
last_begins (x ∷ xs) y streak here region anew = record {
  lbn = y;
  at = ap (slice_get ((x ∷ xs) ++ y ∷ [])) here ∙ at_end (x ∷ xs) y;
  region = sym region;
  anew = λ i before next at. elim (old_or_last (x ∷ xs) y before i at) [
    | inl old ↦ anew i before next old.1
    | inr last ↦ absurd (omega (arith, last.0, next, here))
  ];
}

pub streak_or_last : (xs : List ℕ) (y : ℕ) (streak : Streak) → BeginsStreak (xs ++ y ∷ []) streak
    → BeginsStreak xs streak ⊎ ((streak.number ≡ length xs) × (streak.region ≡ region_of y)
    × ((i before : ℕ) → suc i ≡ streak.number → slice_get xs i ≡ Some before → region_of before ≡ streak.region → ⊥))
streak_or_last xs y streak h = elim (old_or_last xs y h.lbn streak.number h.at) [
  | inl old ↦ inl (record {
    lbn = h.lbn;
    at = old.1;
    region = h.region;
    anew =
        λ i before next at. h.anew i before next (at_left xs y before i at);
  })
  | inr last ↦ inr (last.0, sym h.region ∙ ap region_of last.1, λ i before next at. h.anew i before next (at_left xs y before i at))
]

-- each block lies in a streak
pub streak_of : (xs : List ℕ) (k lbn : ℕ) → slice_get xs k ≡ Some lbn
    → (streak : Streak) × BeginsStreak xs streak × (streak.region ≡ region_of lbn) × IsInStreak xs streak k
streak_of xs zero lbn at =
    let streak : Streak = record { region = region_of lbn; number = 0 } in (
      streak,
      record { lbn = lbn; at = at; region = refl; anew = λ i before next there. absurd (omega (arith, next)) },
      refl,
      (
        omega arith,
        λ j other low high there. ap region_of
            (same_Some other lbn (sym there ∙ (ap (slice_get xs) (omega (arith, high)) ∙ at))),
      ),
    )
streak_of xs (suc k) lbn at =
    let before = element_at xs k (omega (arith, slice_get_within xs (suc k) lbn at)) in
    elim (cases_Bool (region_of before.0 == region_of lbn)) [
      | inl same ↦
          let r = streak_of xs k before.0 before.1 in
          let region : r.0.region ≡ region_of lbn = r.2 ∙ grind (arith, nat_tests) in (
            r.0,
            r.1,
            region,
            (
              omega (arith, r.3.0),
              λ j other low high there. elim (cases_lt j (suc k)) [
                | inl less ↦ r.3.1 j other low (omega (arith, less)) there
                | inr most ↦ ap region_of (same_Some other lbn (sym there ∙ (ap (slice_get xs) (omega (arith, most, high)) ∙ at)))
                    ∙ sym region
              ],
            ),
          )
      | inr other ↦
          let streak : Streak = record { region = region_of lbn; number = suc k } in (
            streak,
            record {
              lbn = lbn;
              at = at;
              region = refl;
              anew = λ i last next there same.
                  let one : last ≡ before.0 = same_Some last before.0 (sym there ∙ (ap (slice_get xs) (omega (arith, next)) ∙ before.1)) in
                  absurd (true≢false (sym (grind (arith, nat_tests)) ∙ other));
            },
            refl,
            (
              omega arith,
              λ j last low high there. ap region_of
                  (same_Some last lbn (sym there ∙ (ap (slice_get xs) (omega (arith, low, high)) ∙ at))),
            ),
          )
    ]

-- a change of states leaves the blocks as long as they are
pub short-with_state : (longest : ℕ) (s : State) (n : ℕ) (es : List Entry) → AreShort longest es → AreShort longest (with_state s n es)
short-with_state longest s n [] h i e at = absurd (none-some e at)
short-with_state longest s zero (x ∷ es) h zero e at = subst (λ y. y.block.count ≤ longest) (same_Some _ e at) (h 0 x refl)
short-with_state longest s zero (x ∷ es) h (suc i) e at = h (suc i) e at
short-with_state longest s (suc n) (x ∷ es) h zero e at = h 0 e at
short-with_state longest s (suc n) (x ∷ es) h (suc i) e at = short-with_state longest s n es (λ j y there. h (suc j) y there) i e at
