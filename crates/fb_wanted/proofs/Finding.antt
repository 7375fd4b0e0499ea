-- The blocks of a task that share a sector with a range lie in streaks that begin near it.
use Rattle.fb_wanted.proofs.Words.{◌≡◌, ℕ, ◌+◌, ◌-◌, ◌*◌, ◌^◌, ◌<◌, ◌≤◌, ◌⊎◌, inl, inr, List, Bool, true, Some, length, slice_get, ap, sym}
use Rattle.fb_wanted.proofs.Words.{◌∙◌, arith, cases_Bool, cases_eq, cases_lt, nat_tests, slice_get_within, element_at, Change, Entry}
use Rattle.fb_wanted.proofs.Words.{Streak, shares, after, AreInOrder, blocks_of, is_of_task, lbns, region_of, IsUpTo, IsInStreak}
use Rattle.fb_wanted.proofs.Words.{BeginsStreak, AreShort, changed_where}
use Rattle.fb_wanted.specs.LookUp.{IsWithin}
use Rattle.fb_wanted.proofs.Standing.{among}
use Rattle.fb_wanted.proofs.Numbers.{number_at}
use Rattle.fb_wanted.proofs.OfTask.{own_after, others_after}
use Rattle.fb_wanted.proofs.Regions.{lbn_at, streak_of}
use Rattle.fb_wanted.proofs.Choosing.{all_chosen}

pub up_or_not : (a b : Streak) → IsUpTo a b ⊎ (IsUpTo a b → ⊥)
up_or_not a b = elim (cases_lt a.region b.region) [
  | inl less ↦ inl (inl less)
  | inr most ↦ elim (cases_lt b.region a.region) [
    | inl more ↦ inr (λ up. elim up [ inl less ↦ omega (arith, less, more) | inr same ↦ omega (arith, same.0, more) ])
    | inr not_more ↦ elim (cases_lt b.number a.number) [
      | inl before ↦ inr (λ up. elim up [ inl less ↦ omega (arith, less, most) | inr same ↦ omega (arith, same.1, before) ])
      | inr there ↦ inl (inr (omega (arith, most, not_more), there))
    ]
  ]
]

-- a streak that comes no earlier than another one, and before a number of its region, lies in its region before that number
pub streak_between : (a b : Streak) (end : ℕ) → IsUpTo a b → (IsUpTo (record { region = a.region; number = end }) b → ⊥)
    → (b.region ≡ a.region) × (b.number < end)
streak_between a b end (inl less) not_next = absurd (not_next (inl less))
streak_between a b end (inr same) not_next = elim (cases_lt b.number end) [
  | inl before ↦ (sym same.0, before)
  | inr there ↦ absurd (not_next (inr (same.0, there)))
]

-- a number whose block begins in another region than the streak isn't that of its first block
pub behind_first : (lbns : List ℕ) (streak : Streak) (end : ℕ) → BeginsStreak lbns streak → streak.number ≤ end
    → ((last : ℕ) → slice_get lbns end ≡ Some last → region_of last ≡ streak.region → ⊥) → streak.number < end
behind_first lbns streak end begins since over = elim (cases_eq streak.number end) [
  | inl same ↦ absurd (over begins.lbn (ap (slice_get lbns) (sym same) ∙ begins.at) begins.region)
  | inr other ↦ omega (arith, since, other)
]

-- the blocks of a streak that begins before such a number come before it
pub before_end : (lbns : List ℕ) (streak : Streak) (end k : ℕ) → streak.number < end → k < length lbns → IsInStreak lbns streak k
    → ((last : ℕ) → slice_get lbns end ≡ Some last → region_of last ≡ streak.region → ⊥) → k < end
before_end lbns streak end k begin within own over = elim (cases_lt k end) [
  | inl before ↦ before
  | inr past ↦
      let last = element_at lbns end (omega (arith, past, within)) in
      absurd (over last.0 last.1 (own.1 end last.0 (omega (arith, begin)) past last.1))
]

-- the measure of a walk over streaks
pub comes_later : (region number end : ℕ) (streak : Streak) → IsUpTo (record { region = region; number = number }) streak
    → streak.region < 2 ^ 64 → streak.number < end → end < 2 ^ 32
    → (2 ^ 64 - streak.region) * 2 ^ 32 + (2 ^ 32 - end) < (2 ^ 64 - region) * 2 ^ 32 + (2 ^ 32 - number)
comes_later region number end streak (inl less) fits later few = omega (arith, less, fits, few)
comes_later region number end streak (inr same) fits later few = omega (arith, same.0, same.1, later, fits, few)

-- the streaks before this one that can reach the range are chosen
abbrev pub AreChosen : (task first longest : ℕ) (es : List Entry) (chosen : ℕ → Bool) (from : Streak) → Type 0
AreChosen task first longest es chosen from = (streak : Streak) (k : ℕ) → BeginsStreak (lbns task es) streak
    → region_of (first - (longest - 1)) ≤ streak.region → (IsUpTo from streak → ⊥) → k < length (lbns task es)
    → IsInStreak (lbns task es) streak k → chosen k ≡ true

-- those from this one on begin behind the range
abbrev pub AreBehind : (task first count : ℕ) (es : List Entry) (from : Streak) → Type 0
AreBehind task first count es from = (streak : Streak) (lbn : ℕ) → BeginsStreak (lbns task es) streak → IsUpTo from streak
    → region_of lbn ≡ streak.region → first + count ≤ lbn

-- a block of a task that shares a sector with the range is chosen, or it begins behind the range
shared : (task first count longest : ℕ) (es : List Entry) (chosen : ℕ → Bool) (from : Streak)
    → AreInOrder (blocks_of es) → AreShort longest es
    → AreChosen task first longest es chosen from → AreBehind task first count es from
    → (i : ℕ) (e : Entry) → slice_get es i ≡ Some e → is_of_task task e ≡ true
    → shares first count e.block ≡ true → chosen e.block.index ≡ true
shared task first count longest es chosen from in_order short done rest i e at own inside =
    let it = among (is_of_task task) es i e at own in
    let number = number_at es task it.0 e in_order it.2 in
    let lbn = lbn_at task es it.0 e it.2 in
    let streak = streak_of (lbns task es) it.0 e.block.lbn lbn in
    let few = short i e at in
    elim (up_or_not from streak.0) [
      | inl up ↦
          let behind = rest streak.0 e.block.lbn streak.1 up (sym streak.2) in
          let before : e.block.lbn < first + count = grind (arith, nat_tests) in absurd (omega (arith, behind, before))
      | inr not_up ↦
          let near : first < e.block.lbn + e.block.count = grind (arith, nat_tests) in
          let region : region_of (first - (longest - 1)) ≤ streak.0.region = omega (arith, near, few, streak.2) in
          let within = slice_get_within (lbns task es) it.0 e.block.lbn lbn in
          ap chosen number ∙ done streak.0 it.0 streak.1 region not_up within streak.3
    ]

-- so all blocks of the task are as after the change
pub finished : (task first count longest : ℕ) (change : Change) (es : List Entry) (chosen : ℕ → Bool) (from : Streak)
    → IsWithin change first count → AreInOrder (blocks_of es) → AreShort longest es
    → AreChosen task first longest es chosen from → AreBehind task first count es from
    → changed_where chosen task change es ≡ after task change es
finished task first count longest change es chosen from within in_order short done rest =
    all_chosen chosen task change es (λ i e at. elim (cases_Bool (is_of_task task e)) [
      | inl own ↦ elim (cases_Bool (shares first count e.block)) [
        | inl inside ↦ inl (shared task first count longest es chosen from in_order short done rest i e at own inside)
        | inr outside ↦ inr (own_after task change e e.state own (sym (within e.block e.state outside)))
      ]
      | inr other ↦ inr (others_after task change e other)
    ])
