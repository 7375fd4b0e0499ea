-- The lines of a report: a first one, one for each row in order, and a last one.
use Rattle.fb_units.proofs.Lists.{drop_at, get_left, get_right}
use Rattle.fb_report.proofs.Words.{◌≡◌, ℕ, suc, ◌+◌, ◌-◌, ◌<◌, ◌≤◌, List, [], ◌∷◌, ◌++◌, length, map, refl, sym, ap, ◌∙◌, arith}
use Rattle.fb_report.proofs.Words.{append_assoc, append-nil, drop, drop_all, flat_map}
use Rattle.fb_report.proofs.Words.{Some, slice_get, option_map, length-map, slice_get-map, slice_get_within}
use Rattle.fb_report.proofs.Words.{Bytes, fore_line, fore_first, fore_last, fore_lines, back_line, back_first, back_last, back_lines}
use Rattle.std.proofs.lemmas.List.{length-append}
use Rattle.fb_rows.specs.declared.run.Run.{Run}

-- these lines are a first one, a line for each row, and a last one
pub record AreLines {X : Type 0} (first : List ℕ) (line : X → List ℕ) (rows : List X) (last : List ℕ) (lines : List (List ℕ)) : Type 0 where
  pub are : lines ≡ first ∷ (map line rows ++ last ∷ [])

module _ {X : Type 0} (first : List ℕ) (line : X → List ℕ) (rows : List X) (last : List ℕ) (lines : List (List ℕ))
    (h : AreLines first line rows last lines) where
  pub length_lines : length lines ≡ length rows + 2
  length_lines = ap length h.are ∙ omega (arith, length-append (map line rows) (last ∷ []), length-map rows line)

  pub line_first : (k : ℕ) → k ≡ 0 → slice_get lines k ≡ Some first
  line_first k e = ap (slice_get lines) e ∙ ap (λ xs. slice_get xs 0) h.are

  pub line_row : (k : ℕ) (row : X) → 0 < k → slice_get rows (k - 1) ≡ Some row → slice_get lines k ≡ Some (line row)
  line_row k row some f =
      let next : k ≡ suc (k - 1) = omega arith in
      ap (slice_get lines) next
      ∙ ap (λ xs. slice_get xs (suc (k - 1))) h.are
      ∙ get_left (map line rows) (last ∷ []) (k - 1) (omega (arith, length-map rows line, slice_get_within rows (k - 1) row f))
      ∙ slice_get-map line rows (k - 1) ∙ ap (option_map line) f

  pub line_last : (k : ℕ) → k ≡ suc (length rows) → slice_get lines k ≡ Some last
  line_last k e =
      ap (slice_get lines) e
      ∙ ap (λ xs. slice_get xs (suc (length rows))) h.are
      ∙ get_right (map line rows) (last ∷ []) 0 (length rows) (omega (arith, length-map rows line))

pub fore_are : (size : ℕ) (bytes : Bytes) (run : Run)
    → AreLines fore_first (fore_line size bytes) run.fore (fore_last (length run.fore) run.passed_over) (fore_lines size bytes run)
unfolding fore_lines
fore_are size bytes run = record { are = refl }

pub back_are : (names : List (List ℕ)) (size : ℕ) (bytes : Bytes) (run : Run)
    → AreLines back_first (back_line names size bytes) run.back (back_last run.end) (back_lines names size bytes run)
unfolding back_lines
back_are names size bytes run = record { are = refl }

-- a text that has the lines before an index goes on with the line there, and ends behind the last
module _ (lines : List (List ℕ)) (k : ℕ) (now whole : List ℕ) (so_far : now ++ flat_map (λ line. line) (drop k lines) ≡ whole) where
  pub text_more : (line new : List ℕ) → slice_get lines k ≡ Some line → new ≡ now ++ line
      → new ++ flat_map (λ line. line) (drop (k + 1) lines) ≡ whole
  text_more line new at is =
      let rest = flat_map (λ line. line) (drop (k + 1) lines) in
      ap (λ text. text ++ rest) is
      ∙ append_assoc now line rest
      ∙ sym (ap (λ lines. now ++ flat_map (λ line. line) lines) (drop_at lines k line at))
      ∙ so_far

  pub text_ends : length lines ≤ k → now ≡ whole
  text_ends past = sym (append-nil now) ∙ sym (ap (λ lines. now ++ flat_map (λ line. line) lines) (drop_all k lines past)) ∙ so_far
