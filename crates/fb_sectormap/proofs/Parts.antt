-- A list that is made of parts, one for each number below a bound.
use Rattle.fb_sectormap.proofs.Words.{◌≡◌, ℕ, zero, suc, ◌+◌, ◌-◌, ◌*◌, ◌<◌, ◌≤◌, List, [], ◌++◌, length, refl, ap, sym, ◌∙◌, arith, inl}
use Rattle.fb_sectormap.proofs.Words.{inr, slice_get, flat_map, range_with_len, cases_lt}
use Rattle.std.proofs.lemmas.List.{length-append}
use Rattle.std.proofs.lemmas.List.Concat.{flat_map-append}
use Rattle.fb_units.proofs.Alike.{flat_same}
use Rattle.fb_units.proofs.Lists.{all_range, get_left, get_right}
use Rattle.fb_units.proofs.Parts.{range-append}

-- a range is one range after another
pub range-split : (a m n b k : ℕ) → b ≡ a + m → k ≡ m + n → range_with_len a k ≡ range_with_len a m ++ range_with_len b n
range-split a m n b k e h = ap (range_with_len a) h ∙ range-append a m n ∙ ap (λ c. range_with_len a m ++ range_with_len c n) (sym e)

-- the parts of a range are those of one range after those of another
pub parts-split : {A : Type 0} (f : ℕ → List A) (a m n b k : ℕ) → b ≡ a + m → k ≡ m + n
    → flat_map f (range_with_len a k) ≡ flat_map f (range_with_len a m) ++ flat_map f (range_with_len b n)
parts-split f a m n b k e h = ap (flat_map f) (range-split a m n b k e h) ∙ flat_map-append f (range_with_len a m) (range_with_len b n)

-- parts that are equal make equal lists
pub same-parts : {A : Type 0} (f g : ℕ → List A) (a n : ℕ) → ((x : ℕ) → a ≤ x → x < a + n → f x ≡ g x)
    → flat_map f (range_with_len a n) ≡ flat_map g (range_with_len a n)
same-parts f g a n same = flat_same f g (range_with_len a n) (all_range (λ x. f x ≡ g x) a n same)

-- the length of a list of n parts that are all of one length
pub length-same : {A : Type 0} (f : ℕ → List A) (a n m : ℕ) → ((x : ℕ) → a ≤ x → x < a + n → length (f x) ≡ m)
    → length (flat_map f (range_with_len a n)) ≡ n * m
length-same f a zero m each = omega arith
length-same f a (suc n) m each =
    let first = each a (omega arith) (omega arith) in
    let rest = length-same f (a + 1) n m (λ x from below. each x (omega arith) (omega arith)) in
    length-append (f a) (flat_map f (range_with_len (a + 1) n)) ∙ grind (arith, first, rest)

-- a list of n parts is no longer than n times the greatest length of a part
pub length-most : {A : Type 0} (f : ℕ → List A) (a n m : ℕ) → ((x : ℕ) → a ≤ x → x < a + n → length (f x) ≤ m)
    → length (flat_map f (range_with_len a n)) ≤ n * m
length-most f a zero m each = omega arith
length-most f a (suc n) m each =
    let first = each a (omega arith) (omega arith) in
    let rest = length-most f (a + 1) n m (λ x from below. each x (omega arith) (omega arith)) in
    omega (arith, length-append (f a) (flat_map f (range_with_len (a + 1) n)), first, rest)

-- how many elements the first n parts have
abbrev pub before : {A : Type 0} → (ℕ → List A) → ℕ → ℕ
before f n = length (flat_map f (range_with_len 0 n))

pub before-upto : {A : Type 0} (f : ℕ → List A) (a n b : ℕ) → b ≡ a + n → before f b ≡ before f a + length (flat_map f (range_with_len a n))
before-upto f a n b e = ap length (parts-split f 0 a n a b (omega arith) e)
    ∙ length-append (flat_map f (range_with_len 0 a)) (flat_map f (range_with_len a n))

pub before-more : {A : Type 0} (f : ℕ → List A) (n : ℕ) → before f (n + 1) ≡ before f n + length (f n)
before-more f n = before-upto f n 1 (n + 1) refl ∙ ap (λ x. before f n + x) (length-append (f n) [] ∙ omega arith)

pub before-rises : {A : Type 0} (f : ℕ → List A) (a b : ℕ) → a ≤ b → before f a ≤ before f b
before-rises f a b h = omega (arith, before-upto f a (b - a) b (omega arith))

-- the j-th element of the c-th part
pub in_part : {A : Type 0} (f : ℕ → List A) (n c j i : ℕ) → c < n → j < length (f c) → i ≡ before f c + j
    → slice_get (flat_map f (range_with_len 0 n)) i ≡ slice_get (f c) j
in_part f n c j i h k e =
    ap (λ xs. slice_get xs i) (parts-split f 0 c (n - c) c n (omega arith) (omega arith))
    ∙ get_right (flat_map f (range_with_len 0 c)) (flat_map f (range_with_len c (n - c))) j i e
    ∙ ap (λ xs. slice_get xs j) (parts-split f c 1 (n - c - 1) (c + 1) (n - c) refl (omega arith))
    ∙ get_left (f c ++ []) (flat_map f (range_with_len (c + 1) (n - c - 1))) j (omega (arith, length-append (f c) []))
    ∙ get_left (f c) [] j k

-- the i-th element is in one of the first n parts
pub record IsIn {A : Type 0} (f : ℕ → List A) (n i : ℕ) : Type 0 where
  pub part : ℕ
  pub index : ℕ
  pub below : part < n
  pub inside : index < length (f part)
  pub at : i ≡ before f part + index

-- each element is in one of the parts
pub some_part : {A : Type 0} (f : ℕ → List A) (n i : ℕ) → i < before f n → IsIn f n i
some_part f zero i h = absurd (omega arith)
some_part f (suc n) i h = elim (cases_lt i (before f n)) [
  | inl low ↦ let found = some_part f n i low in
      record { part = found.part; index = found.index; below = omega (arith, found.below); inside = found.inside; at = found.at }
  | inr from ↦ record {
    part = n;
    index = i - before f n;
    below = omega arith;
    inside =
        omega (arith, before-more f n, ap (before f) (let next : n + 1 ≡ suc n = omega arith in next));
    at = omega arith;
  }
]
