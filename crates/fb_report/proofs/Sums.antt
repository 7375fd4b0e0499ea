-- Sums over the rows of a run, so far and from there on.
use Rattle.fb_units.proofs.Lists.{drop_at}
use Rattle.fb_report.proofs.Words.{◌≡◌, ℕ, ◌+◌, ◌≤◌, max, List, [], ◌∷◌, ◌++◌, length, refl, sym, ap, ◌∙◌, arith, append_assoc, append-nil}
use Rattle.fb_report.proofs.Words.{drop, Option, Some, None, slice_get, cons_option, filter_map, flat_map, fold, nat_tests, drop_all}
use Rattle.fb_report.proofs.Words.{gap_in, delivery_in, task_in}
use Rattle.std.specs.Ordering.{nat_cmp, ord_max}
use Rattle.fb_rows.specs.declared.back.GapRow.{GapRow}
use Rattle.fb_rows.specs.declared.back.DeliveryRow.{DeliveryRow}
use Rattle.fb_rows.specs.declared.back.TaskRow.{TaskRow}
use Rattle.fb_rows.specs.declared.back.BackRow.{BackRow}
use Rattle.fb_rows.specs.declared.back.BackRow.TheVariants.{Gap, Got, Task}

module _ {X Y : Type 0} (h : X → Option Y) (xs : List X) (i : ℕ) where
  -- what is found at an element, of those from there on
  pub found_at : (x : X) (y : Y) → slice_get xs i ≡ Some x → h x ≡ Some y → filter_map h (drop i xs) ≡ y ∷ filter_map h (drop (i + 1) xs)
  found_at x y at is = ap (filter_map h) (drop_at xs i x at) ∙ ap (λ o. cons_option o (filter_map h (drop (i + 1) xs))) is

  pub nothing_at : (x : X) → slice_get xs i ≡ Some x → h x ≡ None → filter_map h (drop i xs) ≡ filter_map h (drop (i + 1) xs)
  nothing_at x at is = ap (filter_map h) (drop_at xs i x at) ∙ ap (λ o. cons_option o (filter_map h (drop (i + 1) xs))) is

  pub none_left : length xs ≤ i → filter_map h (drop i xs) ≡ []
  none_left past = ap (filter_map h) (drop_all i xs past)

-- a sum goes on with one element, or with none, and ends
module _ {Y : Type 0} (g : ℕ → Y → ℕ) (now new whole : ℕ) (ys rest : List Y) (so_far : fold g now ys ≡ whole) where
  pub goes_on : (y : Y) → ys ≡ y ∷ rest → new ≡ g now y → fold g new rest ≡ whole
  goes_on y e is = ap (λ n. fold g n rest) is ∙ sym (ap (fold g now) e) ∙ so_far

  pub stays : ys ≡ rest → new ≡ now → fold g new rest ≡ whole
  stays e is = ap (λ n. fold g n rest) is ∙ sym (ap (fold g now) e) ∙ so_far

pub ends : {Y : Type 0} (g : ℕ → Y → ℕ) (now whole : ℕ) (ys : List Y) → fold g now ys ≡ whole → ys ≡ [] → now ≡ whole
ends g now whole ys so_far e = sym (ap (fold g now) e) ∙ so_far

pub no_gap : (row : BackRow) → ((gap : GapRow) → row ≡ Gap gap → ⊥) → gap_in row ≡ None
no_gap (Gap gap) never = absurd (never gap refl)
no_gap (_) never = refl

pub no_delivery : (row : BackRow) → ((delivery : DeliveryRow) → row ≡ Got delivery → ⊥) → delivery_in row ≡ None
no_delivery (Got delivery) never = absurd (never delivery refl)
no_delivery (_) never = refl

pub no_task : (row : BackRow) → ((task : TaskRow) → row ≡ Task task → ⊥) → task_in row ≡ None
no_task (Task task) never = absurd (never task refl)
no_task (_) never = refl

-- a line more of a text of lines
pub line_more : (now new line : List ℕ) (rest : List (List ℕ)) (whole : List ℕ) → now ++ flat_map (λ x. x) (line ∷ rest) ≡ whole
    → new ≡ now ++ line → new ++ flat_map (λ x. x) rest ≡ whole
line_more now new line rest whole so_far is =
    ap (λ xs. xs ++ flat_map (λ x. x) rest) is ∙ append_assoc now line (flat_map (λ x. x) rest) ∙ so_far

pub greater : (a b : ℕ) → ord_max nat_cmp a b ≡ max a b
greater a b = grind (arith, nat_tests)

-- a text of ten lines, each added to those before it
pub ten_lines : (a b c d e f g h i j t1 t2 t3 t4 t5 t6 t7 t8 t9 t10 : List ℕ) → t1 ≡ a → t2 ≡ t1 ++ b → t3 ≡ t2 ++ c → t4 ≡ t3 ++ d
    → t5 ≡ t4 ++ e → t6 ≡ t5 ++ f → t7 ≡ t6 ++ g → t8 ≡ t7 ++ h → t9 ≡ t8 ++ i → t10 ≡ t9 ++ j
    → t10 ≡ flat_map (λ x. x) (a ∷ b ∷ c ∷ d ∷ e ∷ f ∷ g ∷ h ∷ i ∷ j ∷ [])
ten_lines a b c d e f g h i j t1 t2 t3 t4 t5 t6 t7 t8 t9 t10 e1 e2 e3 e4 e5 e6 e7 e8 e9 e10 =
    rw (e10, e9, e8, e7, e6, e5, e4, e3, e2, e1) (simp (append_assoc, append-nil))
