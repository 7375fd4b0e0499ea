-- What is held under a name is read in one way.
use Rattle.fb_top.proofs.Words.{◌≡◌, ℕ, ◌<◌, ◌≤◌, List, length, Option, Some, None, Result, Ok, Err, true, refl, sym, ap, subst, ◌∙◌}
use Rattle.fb_top.proofs.Words.{arith, IfSome, is_some, DeskView, IsHeld, IsLonger, ReadsAs, HoldAlike}

-- what was read are the bytes that are told
pub held_here : (told : Option (List ℕ)) (bytes here : List ℕ) → told ≡ Some here → IfSome told (λ held. bytes ≡ held) → bytes ≡ here
held_here told bytes here e is = subst (λ (t : Option (List ℕ)). IfSome t (λ held. bytes ≡ held)) e is

told_twice : (told : Option (List ℕ)) → is_some told ≡ true → (bytes : List ℕ) × (told ≡ Some bytes) × (told ≡ Some bytes)
told_twice (Some bytes) is = (bytes, refl, refl)
told_twice None is = cc

-- a desk that tells what it holds
pub alike : (desk : DeskView) (name : List ℕ) → is_some (desk.held name) ≡ true → HoldAlike desk desk name
alike desk name told = told_twice (desk.held name) told

same_ok : {A E : Type 0} (a b : A) → ◌≡◌ {A = Result A E} (Ok a) (Ok b) → a ≡ b
same_ok a b e = cc

not_both : {A E : Type 0} (a : A) (e : E) → ◌≡◌ {A = Result A E} (Ok a) (Err e) → ⊥
not_both a e is = cc

not_longer : (held : List ℕ) (limit : ℕ) → length held ≤ limit → limit < length held → ⊥
not_longer held limit few many = absurd (omega (arith, few, many))

-- the same bytes are held under a name
module _ (one other : DeskView) (name : List ℕ) (alike : HoldAlike one other name) where
  pub held_there : (bytes : List ℕ) → IsHeld one name bytes → IsHeld other name bytes
  held_there bytes held = subst (λ (told : Option (List ℕ)). IfSome told (λ here. bytes ≡ here)) (sym alike.2)
      (held_here (one.held name) bytes alike.0 alike.1 held)

  pub reads_there : {A : Type 0} {limit : ℕ} {read : List ℕ → A} {verdict : A} → ReadsAs one name limit read verdict
      → ReadsAs other name limit read verdict
  reads_there reads =
      record { bytes = reads.bytes; held = held_there reads.bytes reads.held; within = reads.within; spells = reads.spells }

  read_once : {A : Type 0} {limit : ℕ} {read : List ℕ → A} {verdict again : A} → ReadsAs one name limit read verdict
      → ReadsAs other name limit read again → verdict ≡ again
  read_once {read = read} reads others =
      sym reads.spells
      ∙ ap read (held_here (one.held name) reads.bytes alike.0 alike.1 reads.held
      ∙ sym (held_here (other.held name) others.bytes alike.0 alike.2 others.held))
      ∙ others.spells

  -- it is accepted as one value
  pub accepted_once : {A E : Type 0} {limit : ℕ} {read : List ℕ → Result A E} {a b : A} → ReadsAs one name limit read (Ok a)
      → ReadsAs other name limit read (Ok b) → a ≡ b
  accepted_once {a = a} {b = b} reads others = same_ok a b (read_once reads others)

  -- and then not refused
  pub never_refused : {A E : Type 0} {limit : ℕ} {read : List ℕ → Result A E} {a : A} {e : E} → ReadsAs one name limit read (Ok a)
      → ReadsAs other name limit read (Err e) → ⊥
  never_refused {a = a} {e = e} reads others = not_both a e (read_once reads others)

  -- nor too long
  pub never_longer : {A : Type 0} {limit : ℕ} {read : List ℕ → A} {verdict : A} → ReadsAs one name limit read verdict
      → IsLonger other name limit → ⊥
  never_longer {limit = limit} reads longer =
      not_longer alike.0 limit (subst (λ (bytes : List ℕ). length bytes ≤ limit)
      (held_here (one.held name) reads.bytes alike.0 alike.1 reads.held) reads.within)
      (subst (λ (told : Option (List ℕ)). IfSome told (λ held. limit < length held)) alike.2 longer)
