-- What is noted of streaks as a block is registered.
use Rattle.fb_wanted.proofs.Words.{◌≡◌, ℕ, suc, ◌-◌, ◌<◌, ◌≤◌, ◌⊎◌, inl, inr, ◌==◌, List, [], ◌∷◌, ◌++◌, Bool, true, false, Some, length}
use Rattle.fb_wanted.proofs.Words.{filter, slice_get, refl, ap, sym, ◌∙◌, arith, subst, BTreeSet, contains, cases_Bool, true≢false}
use Rattle.fb_wanted.proofs.Words.{nat_tests, slice_get_within, old_or_last, Entry, Streak, is_of_task, lbns, region_of, key_of}
use Rattle.fb_wanted.proofs.Words.{streak_cmp, BeginsStreak, AreNoted, AreShort}
use Rattle.fb_wanted.proofs.Regions.{length-lbns, lbns-own, lbns-other, streaks_stay, last_begins, streak_or_last}

-- no streak begins with a block that isn't registered
none_yet : (xs : List ℕ) (streak : Streak) → streak.number ≡ length xs → BeginsStreak xs streak → ⊥
none_yet xs streak is h = omega (arith, is, slice_get_within xs streak.number h.lbn h.at)

-- no block is longer than the longest when one more follows
pub short_more : (es : List Entry) (e : Entry) (old new : ℕ) → AreShort old es → old ≤ new → e.block.count ≤ new
    → AreShort new (es ++ e ∷ [])
short_more es e old new h more short i x at = elim (old_or_last es e x i at) [
  | inl there ↦ let few = h i x there.1 in omega (arith, few, more)
  | inr last ↦ omega (arith, short, ap (λ y. y.block.count) last.1)
]

same_triple : (a b c d e f : ℕ) → a ≡ b → c ≡ d → e ≡ f → ◌≡◌ {A = ℕ × ℕ × ℕ} (a, c, e) (b, d, f)
same_triple a b c d e f x y z = rw (x, y, z) refl

module _ (es : List Entry) (task region number : ℕ) (old noted : BTreeSet (ℕ × ℕ × ℕ)) (begins : Bool) (h : AreNoted es old)
    (next : number ≡ length (filter (is_of_task task) es))
    (stay : (k : ℕ × ℕ × ℕ) → contains streak_cmp old k ≡ true → contains streak_cmp noted k ≡ true)
    (more : (k : ℕ × ℕ × ℕ) → contains streak_cmp noted k ≡ true
    → (contains streak_cmp old k ≡ true) ⊎ ((begins ≡ true) × (k ≡ (task, region, number)))) where
  at_end : number ≡ length (lbns task es)
  at_end = next ∙ sym (length-lbns task es)

  -- what was noted, and taken back
  pub noted_back : (back : BTreeSet (ℕ × ℕ × ℕ)) → contains streak_cmp back (task, region, number) ≡ false
      → ((k : ℕ × ℕ × ℕ) → contains streak_cmp back k ≡ true → contains streak_cmp noted k ≡ true)
      → ((k : ℕ × ℕ × ℕ) → contains streak_cmp noted k ≡ true → (contains streak_cmp back k ≡ true) ⊎ (k ≡ (task, region, number)))
      → AreNoted es back
  noted_back back gone only others t streak = (
    λ has. elim (more (key_of t streak) (only (key_of t streak) has)) [
      | inl was ↦ (h t streak).0 was
      | inr new ↦ absurd (true≢false (sym has ∙ (ap (contains streak_cmp back) new.1 ∙ gone)))
    ],
    λ streaks. let was = (h t streak).1 streaks in elim (others (key_of t streak) (stay (key_of t streak) was)) [
      | inl has ↦ has
      | inr new ↦
          let same_task : t ≡ task = ap (λ (k : ℕ × ℕ × ℕ). k.0) new in
          let here : streak.number ≡ number = ap (λ (k : ℕ × ℕ × ℕ). k.2) new in
          absurd (none_yet (lbns t es) streak (here ∙ (at_end ∙ ap (λ x. length (lbns x es)) (sym same_task))) streaks)
    ],
  )

  -- after the block is registered that begins a streak, or lies in the region of the one before it
  pub noted_more : (e : Entry) → e.block.task ≡ task → region_of e.block.lbn ≡ region
      → (begins ≡ true → contains streak_cmp noted (task, region, number) ≡ true)
      → (begins ≡ false → (last : ℕ) × (0 < number) × (slice_get (lbns task es) (number - 1) ≡ Some last) × (region_of last ≡ region))
      → (begins ≡ true → (i before : ℕ) → suc i ≡ number → slice_get (lbns task es) i ≡ Some before → region_of before ≡ region → ⊥)
      → AreNoted (es ++ e ∷ []) noted
  noted_more e same_task its_region is last fresh t streak = elim (cases_Bool (e.block.task == t)) [
    | inl own ↦
        let here : t ≡ task = grind (arith, nat_tests, same_task) in
        let list : lbns t (es ++ e ∷ []) ≡ lbns t es ++ e.block.lbn ∷ [] = lbns-own t es e own in
        let end : number ≡ length (lbns t es) = at_end ∙ ap (λ x. length (lbns x es)) (sym here) in (
          λ has. subst (λ l. BeginsStreak l streak) (sym list) (elim (more (key_of t streak) has) [
            | inl was ↦ streaks_stay (lbns t es) e.block.lbn streak ((h t streak).0 was)
            | inr new ↦ last_begins (lbns t es) e.block.lbn streak (ap (λ (k : ℕ × ℕ × ℕ). k.2) new.1 ∙ end)
                (ap (λ (k : ℕ × ℕ × ℕ). k.1) new.1 ∙ sym its_region) (λ i before next_to at same.
                fresh new.0 i before (next_to ∙ ap (λ (k : ℕ × ℕ × ℕ). k.2) new.1) (ap (λ x. slice_get (lbns x es) i) (sym here) ∙ at) (same
                ∙ ap (λ (k : ℕ × ℕ × ℕ). k.1) new.1))
          ]),
          λ streaks. elim (streak_or_last (lbns t es) e.block.lbn streak (subst (λ l. BeginsStreak l streak) list streaks)) [
            | inl old_streak ↦ stay (key_of t streak) ((h t streak).1 old_streak)
            | inr new ↦ elim (cases_Bool begins) [
              | inl yes' ↦
                  ap (contains streak_cmp noted) (same_triple t task streak.region region streak.number number here (new.1 ∙ its_region)
                  (new.0 ∙ sym end)) ∙ is yes'
              | inr no' ↦ let before = last no' in absurd
                  (new.2 (number - 1) before.0 (omega (arith, before.1, new.0, end)) (ap (λ x. slice_get (lbns x es) (number - 1)) here
                  ∙ before.2) (before.3 ∙ sym (new.1 ∙ its_region)))
            ]
          ],
        )
    | inr other ↦
        let list = lbns-other t es e other in (
          λ has. subst (λ l. BeginsStreak l streak) (sym list) (elim (more (key_of t streak) has) [
            | inl was ↦ (h t streak).0 was
            | inr new ↦ let same : t ≡ task = ap (λ (k : ℕ × ℕ × ℕ). k.0) new.1 in
                absurd (true≢false (sym (grind (arith, nat_tests, same, same_task)) ∙ other))
          ]),
          λ streaks. stay (key_of t streak) ((h t streak).1 (subst (λ l. BeginsStreak l streak) list streaks)),
        )
  ]
