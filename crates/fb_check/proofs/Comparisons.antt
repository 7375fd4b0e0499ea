-- Lists of lines, of which the first ones were compared.
use Rattle.fb_check.proofs.Words.{◌≡◌, ℕ, ◌+◌, ◌≤◌, List, [], ◌∷◌, ◌++◌, length, map, take, drop, refl, ap, sym, subst, ◌∙◌, arith, inl}
use Rattle.fb_check.proofs.Words.{inr, append_assoc, length-append, Option, Some, None, slice_get, map-append, length-map, take-append-le}
use Rattle.fb_check.proofs.Words.{take_all, LineFields, ended, spelled, BeginsLikeEnd, Comparison, Rule, Mismatch, lines_of, IsMismatch}
use Rattle.fb_check.proofs.Words.{CanCompare, HasComparedOne, SoFar}
use Rattle.std.specs.Prelude.{true, is_some, option_map}
use Rattle.std.proofs.lemmas.List.{take-append-drop}
use Rattle.std.proofs.lemmas.Bool.{cases_lt}
use Rattle.std.proofs.lemmas.Option.{slice_get-map, slice_get_within}
use Rattle.fb_units.proofs.Lists.{get_right, take_at, append_at}
use Rattle.fb_desk.specs.declared.desk.Input.{Input}
use Rattle.fb_report.specs.Reading.{EndsOnce}
use Rattle.fb_check.specs.declared.lines.PrintedLines.{PrintedLines}
use Rattle.fb_check.specs.Comparing.{IsDue, NamesLine, NextIs, OneMore, HasCompared}

-- ---- a mismatch

take_in : {X : Type 0} (xs ys : List X) (i : ℕ) (x : X) → slice_get xs i ≡ Some x → take i (xs ++ ys) ≡ take i xs
take_in xs ys i x e = take-append-le i xs ys (omega (arith, slice_get_within xs i x e))

-- a mismatch of these due lines is one of any more of them
pub still_wrong : (due more : List (List ℕ)) (rules more_rules : List (ℕ → Rule)) (printed : List LineFields) (mismatch : Mismatch)
    → IsMismatch due rules printed mismatch → IsMismatch (due ++ more) (rules ++ more_rules) printed mismatch
still_wrong due more rules more_rules printed mismatch wrong =
    let there = append_at due more wrong.index (ended wrong.due_line) wrong.is_due in
    record {
      index = wrong.index;
      line = wrong.line;
      lines = record {
        before = take_in due more wrong.index (ended wrong.due_line) wrong.is_due ∙ wrong.lines.before;
        there = λ e. wrong.lines.there (wrong.is_due ∙ (sym there ∙ e));
      };
      due_line = wrong.due_line;
      is_due = there;
      printed_line = wrong.printed_line;
      is_printed = wrong.is_printed;
      field_index = wrong.field_index;
      field = wrong.field;
      fields = wrong.fields;
      rule_by = wrong.rule_by;
      is_rule = append_at rules more_rules wrong.index wrong.rule_by wrong.is_rule;
      rule = wrong.rule;
    }

-- the first due line that isn't the printed one is a mismatch
pub first_wrong : (lines : List (List ℕ)) (rules : List (ℕ → Rule)) (due : List ℕ) (rule_by : ℕ → Rule) (input : Input)
    (printed : List LineFields) (index : ℕ) (mismatch : Mismatch)
    → SoFar None lines rules input printed index → NamesLine due rule_by input printed index mismatch
    → IsMismatch (lines ++ due ∷ []) (rules ++ rule_by ∷ []) printed mismatch
first_wrong lines rules due rule_by input printed index mismatch so_far named =
    let not_due = named.not_due in
    let due_there : slice_get (lines ++ due ∷ []) index ≡ Some due = get_right lines (due ∷ []) 0 index (omega arith) in
    record {
      index = index;
      line = named.line_is;
      lines = record {
        before = take-append-le index lines (due ∷ []) (omega arith) ∙ (take_all index lines (omega arith) ∙ sym so_far.first);
        there = λ e.
            let printed_there = slice_get-map spelled printed index ∙ ap (option_map spelled) not_due.is_printed in
            let both : Some due ≡ Some (spelled not_due.line) = sym due_there ∙ (e ∙ printed_there) in
            not_due.differs (let one : due ≡ spelled not_due.line = cc in one);
      };
      due_line = not_due.due_line;
      is_due = due_there ∙ ap Some not_due.is_due;
      printed_line = not_due.line;
      is_printed = not_due.is_printed;
      field_index = not_due.field_index;
      field = not_due.field_is;
      fields = not_due.fields;
      rule_by = rule_by;
      is_rule = get_right rules (rule_by ∷ []) 0 index (omega arith);
      rule = named.rule_is;
    }

-- ---- one more line

so_far_next : (wrong : Option Mismatch) (lines : List (List ℕ)) (rules : List (ℕ → Rule)) (due : List ℕ) (rule_by : ℕ → Rule)
    (before : Comparison) (same : ℕ)
    → SoFar None lines rules before.input (lines_of before.lines) before.same → NextIs wrong rule_by due before same
    → SoFar wrong (lines ++ due ∷ []) (rules ++ rule_by ∷ []) before.input (lines_of before.lines) same
so_far_next None lines rules due rule_by before same so_far next =
    let is_due = next.1 in
    record {
      count = omega (arith, length-append lines (due ∷ []), next.0);
      ruled = omega (arith, length-append rules (rule_by ∷ []), next.0);
      first = ap (λ n. take n (map spelled (lines_of before.lines))) next.0
          ∙ (take_at (map spelled (lines_of before.lines)) before.same due
          (slice_get-map spelled (lines_of before.lines) before.same ∙ (ap (option_map spelled) is_due.is_printed ∙ ap Some (sym is_due.is_due)))
          ∙ ap (λ xs. xs ++ due ∷ []) so_far.first);
    }
so_far_next (Some mismatch) lines rules due rule_by before same so_far next =
    (first_wrong lines rules due rule_by before.input (lines_of before.lines) before.same mismatch so_far next, next.input_is)

so_far_more : (wrong : Option Mismatch) (lines : List (List ℕ)) (rules : List (ℕ → Rule)) (due : List ℕ) (rule_by : ℕ → Rule)
    (before after : Comparison)
    → SoFar wrong lines rules before.input (lines_of before.lines) before.same → OneMore wrong rule_by due before after
    → SoFar after.wrong (lines ++ due ∷ []) (rules ++ rule_by ∷ []) before.input (lines_of before.lines) after.same
so_far_more None lines rules due rule_by before after so_far one =
    so_far_next after.wrong lines rules due rule_by before after.same so_far one
so_far_more (Some mismatch) lines rules due rule_by before after so_far one =
    subst (λ wrong. SoFar wrong (lines ++ due ∷ []) (rules ++ rule_by ∷ []) before.input (lines_of before.lines) after.same) (sym one)
    (still_wrong lines (due ∷ []) rules (rule_by ∷ []) (lines_of before.lines) mismatch so_far.0, so_far.1)

-- one more due line was compared
pub one_line : (lines : List (List ℕ)) (rules : List (ℕ → Rule)) (due : List ℕ) (rule_by : ℕ → Rule) (before after : Comparison)
    → SoFar before.wrong lines rules before.input (lines_of before.lines) before.same → HasComparedOne rule_by due before after
    → SoFar after.wrong (lines ++ due ∷ []) (rules ++ rule_by ∷ []) after.input (lines_of after.lines) after.same
one_line lines rules due rule_by before after so_far one =
    subst (λ r. SoFar after.wrong (lines ++ due ∷ []) (rules ++ rule_by ∷ []) r (lines_of after.lines) after.same) (sym one.input)
    (subst (λ p. SoFar after.wrong (lines ++ due ∷ []) (rules ++ rule_by ∷ []) before.input p after.same) (sym one.lines)
    (so_far_more before.wrong lines rules due rule_by before after so_far one.one))

some_is : (wrong : Option Mismatch) → is_some wrong ≡ true → (mismatch : Mismatch) × (wrong ≡ Some mismatch)
some_is None e = cc
some_is (Some mismatch) e = (mismatch, refl)

module _ {X : Type 0} (input : Input) (first : List ℕ) (first_rule : Rule) (line : X → List ℕ) (rule : X → ℕ → Rule)
    (printed : List LineFields) where
  -- one more row's line was compared
  pub one_row : (before after : Comparison) (rows : List X) (row : X) (due : List ℕ) → due ≡ line row
      → HasComparedOne (rule row) due before after
      → HasCompared input first first_rule line rule printed before rows
      → HasCompared input first first_rule line rule printed after (rows ++ row ∷ [])
  one_row before after rows row due is one h = record {
    input_is = one.input ∙ h.input_is;
    lines_are = one.lines ∙ h.lines_are;
    so_far = simp map-append (subst (λ d. SoFar after.wrong (first ∷ (map line rows ++ d ∷ []))
        ((λ field. first_rule) ∷ (map rule rows ++ rule row ∷ [])) after.input (lines_of after.lines) after.same) is
        (one_line (first ∷ map line rows) ((λ field. first_rule) ∷ map rule rows) due (rule row) before after h.so_far one));
  }

  -- one more of these rows
  pub one_more_row : (before after : Comparison) (rows more : List X) (i : ℕ) (row : X) (due : List ℕ) → slice_get more i ≡ Some row
      → due ≡ line row → HasComparedOne (rule row) due before after
      → HasCompared input first first_rule line rule printed before (rows ++ take i more)
      → HasCompared input first first_rule line rule printed after (rows ++ take (i + 1) more)
  one_more_row before after rows more i row due at is one h =
      subst (HasCompared input first first_rule line rule printed after)
      (append_assoc rows (take i more) (row ∷ []) ∙ ap (λ xs. rows ++ xs) (sym (take_at more i row at)))
      (one_row before after (rows ++ take i more) row due is one h)

  -- more rows, where a line was wrong
  wrong_rows : (comparison : Comparison) (mismatch : Mismatch) (rows more : List X) → comparison.wrong ≡ Some mismatch
      → HasCompared input first first_rule line rule printed comparison rows
      → HasCompared input first first_rule line rule printed comparison (rows ++ more)
  wrong_rows comparison mismatch rows more wrong h =
      let so_far = subst (λ w. SoFar w (first ∷ map line rows)
      ((λ field. first_rule) ∷ map rule rows) comparison.input (lines_of comparison.lines) comparison.same) wrong h.so_far in
      record {
        input_is = h.input_is;
        lines_are = h.lines_are;
        so_far = subst (λ w. SoFar w (first ∷ map line (rows ++ more))
            ((λ field. first_rule) ∷ map rule (rows ++ more)) comparison.input (lines_of comparison.lines) comparison.same) (sym wrong) (
              simp map-append (still_wrong (first ∷ map line rows) (map line more) ((λ field. first_rule) ∷ map rule rows)
                  (map rule more) (lines_of comparison.lines) mismatch so_far.0),
              so_far.1,
            );
      }

  pub more_rows : (comparison : Comparison) (rows more : List X) (i : ℕ)
      → is_some comparison.wrong ≡ true → HasCompared input first first_rule line rule printed comparison (rows ++ take i more)
      → HasCompared input first first_rule line rule printed comparison (rows ++ more)
  more_rows comparison rows more i wrong h =
      let some = some_is comparison.wrong wrong in
      subst (HasCompared input first first_rule line rule printed comparison)
      (append_assoc rows (take i more) (drop i more) ∙ ap (λ xs. rows ++ xs) (take-append-drop i more))
      (wrong_rows comparison some.0 (rows ++ take i more) (drop i more) some.1 h)

  pub all_rows : (comparison : Comparison) (rows more : List X) (i : ℕ) → length more ≤ i
      → HasCompared input first first_rule line rule printed comparison (rows ++ take i more)
      → HasCompared input first first_rule line rule printed comparison (rows ++ more)
  all_rows comparison rows more i past h =
      subst (λ xs. HasCompared input first first_rule line rule printed comparison (rows ++ xs)) (take_all i more past) h

-- ---- the first line and the last

module _ {X : Type 0} (input : Input) (first : List ℕ) (first_rule : Rule) (line : X → List ℕ) (rule : X → ℕ → Rule) where
  -- the first line was compared
  pub begun : (lines : PrintedLines) (after : Comparison) (due : List ℕ) → due ≡ first
      → HasComparedOne (λ field. first_rule) due (record { input = input; lines = lines; same = 0; wrong = None }) after
      → HasCompared input first first_rule line rule (lines_of lines) after []
  begun lines after due is one = record {
    input_is = one.input;
    lines_are = one.lines;
    so_far = subst (λ d. SoFar after.wrong (d ∷ []) ((λ field. first_rule) ∷ []) after.input (lines_of after.lines) after.same) is
        (one_line [] [] due (λ field. first_rule) (record { input = input; lines = lines; same = 0; wrong = None }) after
        (record { count = refl; ruled = refl; first = refl }) one);
  }

ends_there : (due : List ℕ) (lines : List LineFields) (index : ℕ) → EndsOnce lines → IsDue due lines index → BeginsLikeEnd due
    → index + 1 ≡ length lines
ends_there due lines index ends is_due begins = elim (cases_lt (index + 1) (length lines)) [
  | inl behind ↦ absurd (ends.others is_due.line index behind is_due.is_printed (subst BeginsLikeEnd is_due.is_due begins))
  | inr last ↦ omega (arith, slice_get_within lines index is_due.line is_due.is_printed)
]

complete_by : (wrong : Option Mismatch) (lines : List (List ℕ)) (rules : List (ℕ → Rule)) (due : List ℕ) (rule_by : ℕ → Rule)
    (before after : Comparison)
    → SoFar wrong lines rules before.input (lines_of before.lines) before.same → OneMore wrong rule_by due before after
    → EndsOnce (lines_of before.lines) → BeginsLikeEnd due → after.wrong ≡ None → lines ++ due ∷ [] ≡ map spelled (lines_of before.lines)
complete_by None lines rules due rule_by before after so_far one ends begins right =
    let next : NextIs None rule_by due before after.same = subst (λ w. NextIs w rule_by due before after.same) right one in
    let more = so_far_next None lines rules due rule_by before after.same so_far next in
    let there = ends_there due (lines_of before.lines) before.same ends next.1 begins in
    sym more.first ∙ take_all after.same (map spelled (lines_of before.lines)) (omega (arith, length-map (lines_of before.lines) spelled, next.0))
complete_by (Some mismatch) lines rules due rule_by before after so_far one ends begins right =
    absurd (none_some mismatch (sym right ∙ one))
  where
    none_some : (mismatch : Mismatch) → None ≡ Some mismatch → ⊥
    none_some mismatch e = cc

-- where no line was wrong, the lines with the last one are the printed ones
pub complete : (lines : List (List ℕ)) (rules : List (ℕ → Rule)) (due : List ℕ) (rule_by : ℕ → Rule) (before after : Comparison)
    → SoFar before.wrong lines rules before.input (lines_of before.lines) before.same → HasComparedOne rule_by due before after
    → CanCompare before
    → BeginsLikeEnd due → after.wrong ≡ None → lines ++ due ∷ [] ≡ map spelled (lines_of before.lines)
complete lines rules due rule_by before after so_far one ready begins right =
    complete_by before.wrong lines rules due rule_by before after so_far one.one ready.ends begins right
