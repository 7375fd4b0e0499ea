use Rattle.std.proofs.Common.{◌≡◌, ℕ, ◌+◌, ◌<◌, ◌≤◌, List, ◌∷◌, true, false, Some, None, map, drop, length, get_or, refl, ap, sym, ◌∙◌}
use Rattle.std.specs.Str.{bytes_eq}
use Rattle.std.proofs.lemmas.List.{drop_all, drop_more}
use Rattle.fb_calls.specs.Words.{meaning}
use Rattle.fb_calls.proofs.words.meaning.Goals as goal

-- the words from one on, after none before it was the one that is meant
module _ {X T : Type 0} (f : X → List ℕ × T) (xs : List X) (i : ℕ) (word : List ℕ)
    (passed : meaning (map f xs) word ≡ meaning (map f (drop i xs)) word) where
  next : (x : X) → i < length xs → x ≡ get_or xs i x → meaning (map f xs) word ≡ meaning (map f (x ∷ drop (i + 1) xs)) word
  next x within at = passed ∙ ap (λ ys. meaning (map f ys) word) (drop_more xs i x within ∙ ap (λ y. y ∷ drop (i + 1) xs) (sym at))

  found : (x : X) → i < length xs → x ≡ get_or xs i x → bytes_eq (f x).0 word ≡ true → Some (f x).1 ≡ meaning (map f xs) word
  found x within at same = sym (next x within at ∙ rw same refl)

  passed_over : (x : X) → i < length xs → x ≡ get_or xs i x → bytes_eq (f x).0 word ≡ false
      → meaning (map f xs) word ≡ meaning (map f (drop (i + 1) xs)) word
  passed_over x within at other = next x within at ∙ rw other refl

  none_left : length xs ≤ i → None ≡ meaning (map f xs) word
  none_left all = sym (passed ∙ ap (λ ys. meaning (map f ys) word) (drop_all i xs all))

pub returns-then-eq : goal.returns-then-eq
returns-then-eq g c =
    found _ c.args.names.now c.loop-name.name-index c.args.word.now c.loop-name.invariant c.loop-name-item.result c.loop-name-test.true
    c.loop-name-item.is (sym c.eq.ensures ∙ c.if-eq.true)

pub loop-name-preserved : goal.loop-name-preserved
loop-name-preserved g c =
    passed_over _ c.args.names.now c.loop-name.name-index c.args.word.now c.loop-name.invariant c.loop-name-item.result
    c.loop-name-test.true c.loop-name-item.is (sym c.eq.ensures ∙ c.if-eq.false)

pub returns : goal.returns
returns g c = none_left _ c.args.names.now c.loop-name.name-index c.args.word.now c.loop-name.invariant c.loop-name-test.false
