-- The turns of the spots of a ring.
use Rattle.fb_fastq.proofs.Words.{◌≡◌, ℕ, ◌+◌, ◌-◌, ◌%◌, ◌<◌, ◌≤◌, arith, inl, inr, ap, sym, ◌∙◌, IfSome, Option, Some, None, cases_lt}
use Rattle.fb_fastq.proofs.Words.{add-mod_left, mod-eq_of_lt, mod-add-mod, mod-le, mod-lt, BTreeMap, Request, Waits, IsNoLater, turn}

-- the platter turns on from the angle of an instant as from the instant
pub turns_on : (rotation instant angle time : ℕ) → angle ≡ instant % rotation → (angle + time) % rotation ≡ (instant + time) % rotation
turns_on rotation instant angle time e = ap (λ a. (a + time) % rotation) e ∙ mod-add-mod instant rotation time

pub ahead : (c h n : ℕ) → h ≤ c → c < n → (c + n - h) % n ≡ c - h
ahead c h n le lt =
    let sum : c + n - h ≡ n + (c - h) = omega arith in
    let small : c - h < n = omega arith in
    ap (λ x. x % n) sum ∙ (add-mod_left n (c - h) ∙ mod-eq_of_lt small)

pub round : (c h n : ℕ) → c < h → h < n → (c + n - h) % n ≡ c + n - h
round c h n lt below = let small : c + n - h < n = omega arith in mod-eq_of_lt small

-- the platter stands at a spot when it has turned to it
turned_to : (n h b : ℕ) → h < n → b < n → (h + turn n h b) % n ≡ b
turned_to n h b on_h on_b = elim (cases_lt b h) [
  | inl behind ↦
      let sum : h + turn n h b ≡ n + b = (let turns = round b h n behind on_h in omega (arith, turns, on_h)) in
      ap (λ x. x % n) sum ∙ (add-mod_left n b ∙ mod-eq_of_lt on_b)
  | inr front ↦
      let sum : h + turn n h b ≡ b = (let turns = ahead b h n front on_b in omega (arith, turns, front)) in
      ap (λ x. x % n) sum ∙ mod-eq_of_lt on_b
]

-- and turns to it no later than by any other time after which it stands there
turns_first : (n h b x : ℕ) → h < n → (h + x) % n ≡ b → turn n h b ≤ x
turns_first n h b x on_h there =
    let sum : h + x + (n - h) ≡ n + x = omega arith in
    let put : b + n - h ≡ b + (n - h) = omega (arith, on_h) in
    let is : turn n h b ≡ x % n =
    ap (λ s. s % n) put
    ∙ (ap (λ s. (s + (n - h)) % n) (sym there) ∙ (mod-add-mod (h + x) n (n - h) ∙ (ap (λ s. s % n) sum ∙ add-mod_left n x))) in
    let le = mod-le x n in omega (arith, is, le)

-- who comes later sees no spot sooner
pub no_sooner : (n now early late b : ℕ) → 0 < n → b < n → early ≤ late
    → early + turn n ((now + early) % n) b ≤ late + turn n ((now + late) % n) b
no_sooner n now early late b some on_b le =
    let h = (now + early) % n in
    let later = (now + late) % n in
    let on_h : h < n = mod-lt (now + early) some in
    let on_later : later < n = mod-lt (now + late) some in
    let rest = turn n later b in
    let gap : now + early + (late - early) ≡ now + late = omega (arith, le) in
    let sum : h + (late - early + rest) ≡ h + (late - early) + rest = omega arith in
    let at : (h + (late - early)) % n ≡ later = mod-add-mod (now + early) n (late - early) ∙ ap (λ s. s % n) gap in
    let there : (h + (late - early + rest)) % n ≡ b =
    ap (λ s. s % n) sum
    ∙ (sym (mod-add-mod (h + (late - early)) n rest) ∙ (ap (λ s. (s + rest) % n) at ∙ turned_to n later b on_later on_b)) in
    let first = turns_first n h b (late - early + rest) on_h there in omega (arith, first, le)

-- the least spot from the first one on comes first
onwards_ahead : (h a b n : ℕ) → a < n → b < n → h < n → h ≤ a → (h ≤ b → a ≤ b) → (a + n - h) % n ≤ (b + n - h) % n
onwards_ahead h a b n on_a on_b on_h from least = elim (cases_lt b h) [
  | inl behind ↦ omega (arith, ahead a h n from on_a, round b h n behind on_h)
  | inr front ↦ omega (arith, ahead a h n from on_a, ahead b h n front on_b, least front)
]

-- where there is none from there on, the least of all comes first
onwards_round : (h a b n : ℕ) → h < n → a < h → b < h → a ≤ b → (a + n - h) % n ≤ (b + n - h) % n
onwards_round h a b n on_h under_a under_b least = omega (arith, least, round a h n under_a on_h, round b h n under_b on_h)

-- spots of the same turn are the same
same_turn : (h a b n : ℕ) → a < n → b < n → h < n → (a + n - h) % n ≡ (b + n - h) % n → a ≡ b
same_turn h a b n la lb lh e = elim (cases_lt a h) [
  | inl da ↦ elim (cases_lt b h) [
    | inl db ↦ omega (arith, e, round a h n da lh, round b h n db lh)
    | inr ub ↦ omega (arith, e, round a h n da lh, ahead b h n ub lb)
  ]
  | inr ua ↦ elim (cases_lt b h) [
    | inl db ↦ omega (arith, e, ahead a h n ua la, round b h n db lh)
    | inr ub ↦ omega (arith, e, ahead a h n ua la, ahead b h n ub lb)
  ]
]

-- of two spots the one of no later turn comes first, and those at one spot in order of joining
no_later : (n h a m b p : ℕ) → a < n → b < n → h < n → turn n h a ≤ turn n h b → (a ≡ b → m ≤ p) → IsNoLater (turn n h a) m (turn n h b) p
no_later n h a m b p on_a on_b on_h least joined = elim (cases_lt (turn n h a) (turn n h b)) [
  | inl less ↦ inl less
  | inr tied ↦ let both : turn n h a ≡ turn n h b = omega (arith, least, tied) in inr (both, joined (same_turn h a b n on_a on_b on_h both))
]

-- a request comes first in a ring from this spot on
abbrev pub ComesFirst : BTreeMap (ℕ × ℕ) Request → ℕ → ℕ → ℕ → (ℕ × ℕ) × Request → Type 0
ComesFirst waiting start n h w = (k : ℕ × ℕ) → Waits waiting k → start ≤ k.0 → k.0 < start + n
    → IsNoLater (turn n h (w.0.0 - start)) w.0.1 (turn n h (k.0 - start)) k.1

module _ (waiting : BTreeMap (ℕ × ℕ) Request) (start n h : ℕ) (on_h : h < n) where
  pub next_ahead : (w : (ℕ × ℕ) × Request) → start + h ≤ w.0.0 → w.0.0 < start + n
      → ((k : ℕ × ℕ) → Waits waiting k → start + h ≤ k.0 → w.0.0 ≤ k.0)
      → ((k : ℕ × ℕ) → Waits waiting k → k.0 ≡ w.0.0 → w.0.1 ≤ k.1) → ComesFirst waiting start n h w
  next_ahead w from below least first = λ k has inside under.
      no_later n h (w.0.0 - start) w.0.1 (k.0 - start) k.1 (omega arith) (omega arith) on_h
      (onwards_ahead h (w.0.0 - start) (k.0 - start) n (omega arith) (omega arith) on_h (omega arith)
      (λ ahead. let le = least k has (omega arith) in omega (arith, le)))
      (λ same. first k has (omega arith))

  -- where none is ahead, the first before comes first
  pub next_behind : (o : Option ((ℕ × ℕ) × Request)) → ((k : ℕ × ℕ) → Waits waiting k → start + h ≤ k.0 → start + n ≤ k.0)
      → IfSome o (λ w. (start ≤ w.0.0) × (w.0.0 < start + h))
      → IfSome o (λ w. (k : ℕ × ℕ) → Waits waiting k → start ≤ k.0 → w.0.0 ≤ k.0)
      → IfSome o (λ w. (k : ℕ × ℕ) → Waits waiting k → k.0 ≡ w.0.0 → w.0.1 ≤ k.1) → IfSome o (ComesFirst waiting start n h)
  next_behind None none inside least first = tt
  next_behind (Some w) none inside least first = λ k has from below.
      let in_front : w.0.0 < start + h = inside.1 in
      let at_start : start ≤ w.0.0 = inside.0 in
      let behind : k.0 < start + h =
      elim (cases_lt k.0 (start + h)) [ inl lt ↦ lt | inr ahead ↦ let over = none k has ahead in absurd (omega (arith, over, below)) ] in
      let le = least k has from in
      no_later n h (w.0.0 - start) w.0.1 (k.0 - start) k.1 (omega arith) (omega arith) on_h
      (onwards_round h (w.0.0 - start) (k.0 - start) n on_h (omega arith) (omega arith) (omega arith))
      (λ same. first k has (omega arith))
