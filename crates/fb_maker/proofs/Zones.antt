-- The first zone.
use Rattle.fb_maker.proofs.Words.{length-same, ◌≡◌, ℕ, ◌+◌, ◌-◌, ◌*◌, ◌<◌, ◌≤◌, List, [], ◌∷◌, length, Bool, true, ◌++◌, append_assoc}
use Rattle.fb_maker.proofs.Words.{append-nil, min, refl, sym, ap, ◌∙◌, arith, Some, None, inl, inr, ◌==◌, slice_get, nat_le, ◌&&◌, decimal}
use Rattle.fb_maker.proofs.Words.{codes, flat_map, cases_Bool, nat_tests, Zone, none-some, get_or_from_slice_get, first_apart, Shape}
use Rattle.fb_maker.proofs.Words.{cylinders_of, data_list, list_among, places, first_zone, most, script_lines, script_text}

-- the first of the zones begins at the first cylinder
pub begins_at_first : (zones : List Zone) (zone : Zone) → first_apart 0 0 zones ≡ None → slice_get zones 0 ≡ Some zone → zone.first ≡ 0
begins_at_first [] zone contiguous is = cc
begins_at_first (first ∷ zones) zone contiguous is = elim (cases_Bool (first.first == 0)) [
  | inl begins ↦ let same : first ≡ zone = get_or_from_slice_get (first ∷ zones) 0 zone zone is in
      ap (λ (z : Zone). z.first) (sym same) ∙ grind (arith, nat_tests)
  | inr apart ↦ absurd (none-some 0 (sym contiguous ∙ rw apart refl))
]

pub both_true : (a b : Bool) → a ≡ true → b ≡ true → (a && b) ≡ true
both_true a b e f = rw (e, f) refl

pub some_cylinders : (zones : List Zone) → 0 < length zones → 0 < cylinders_of zones
some_cylinders [] some = absurd (omega arith)
some_cylinders (zone ∷ []) some = omega arith
some_cylinders (zone ∷ next ∷ zones) some = some_cylinders (next ∷ zones) (omega arith)

-- the sectors of the first zone are as many on each of its cylinders as on the first
pub first_zone_is : (disk : Shape) (zones : List Zone) (zone : Zone) (n : ℕ) → slice_get zones 0 ≡ Some zone → zone.first ≤ zone.last
    → n ≡ length (list_among disk zones zone.first)
    → ((k : ℕ) → zone.first ≤ k → k ≤ zone.last → length (data_list disk zone k) ≡ length (data_list disk zone zone.first))
    → (zone.last + 1 - zone.first) * n ≡ first_zone disk zones
first_zone_is disk [] zone n is some count same = cc
first_zone_is disk (first ∷ zones) zone n is some count same =
    let here : first ≡ zone = get_or_from_slice_get (first ∷ zones) 0 zone zone is in
    let chosen : nat_le zone.first first.last ≡ true = grind (arith, nat_tests, ap (λ (z : Zone). z.last) here) in
    let held : n ≡ length (data_list disk zone zone.first) = count ∙ rw chosen (ap (λ z. length (data_list disk z zone.first)) here) in
    ap (λ m. (zone.last + 1 - zone.first) * m) held
    ∙ sym (length-same (data_list disk zone) zone.first (zone.last + 1 - zone.first) (length (data_list disk zone zone.first))
    (λ k low high. same k low (omega arith)))
    ∙ ap (λ z. first_zone disk (z ∷ zones)) (sym here)

four_lines : (a b c d : List ℕ) → ((a ++ b) ++ c) ++ d ≡ flat_map (λ line. line) (a ∷ b ∷ c ∷ d ∷ [])
four_lines a b c d = simp (append_assoc, append-nil)

-- the text of four lines, one behind the other
pub is_script : (disk : Shape) (none one two three four : List ℕ) (scrubbed saved : ℕ) → none ≡ []
    → one ≡ none ++ codes "0.000000 open scrub scrub 1 16\n"
    → two ≡ one ++ (codes "0.000000 want scrub 0 " ++ decimal scrubbed ++ 10 ∷ [])
    → three ≡ two ++ codes "0.000000 open backup backup 2 16\n"
    → four ≡ three ++ (codes "0.000000 want backup 0 " ++ decimal saved ++ 10 ∷ [])
    → scrubbed ≡ min (length (places disk)) (most disk) → saved ≡ min (first_zone disk disk.zones) (most disk) → four ≡ script_text disk
unfolding script_lines
is_script disk none one two three four scrubbed saved e0 e1 e2 e3 e4 es ez =
    let scrub = codes "0.000000 want scrub 0 " ++ decimal (min (length (places disk)) (most disk)) ++ 10 ∷ [] in
    let backup = codes "0.000000 want backup 0 " ++ decimal (min (first_zone disk disk.zones) (most disk)) ++ 10 ∷ [] in
    rw (e4, e3, e2, e1, e0, es, ez)
    (four_lines (codes "0.000000 open scrub scrub 1 16\n") scrub (codes "0.000000 open backup backup 2 16\n") backup)
