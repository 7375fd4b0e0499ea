-- Lines in the sections of an array's text.
use Rattle.std.proofs.Common.{◌≡◌, ◌∙◌, ℕ, ◌+◌, ◌<◌, ◌≤◌, List, [], ◌∷◌, ◌++◌, length, drop, refl, ap, arith, Some}
use Rattle.std.specs.Prelude.{slice_get}
use Rattle.std.proofs.lemmas.List.{length-append}
use Rattle.std.proofs.lemmas.Option.{slice_get_within}
use Rattle.fb_units.proofs.Lists.{drop_at, get_left, get_right}
use Rattle.fb_rows.specs.declared.run.Run.{Run}
use Rattle.fb_report.specs.declared.bytes.Bytes.{Bytes}
use Rattle.fb_texts.specs.Sections.{array_first, array_last, array_lines, section, sections}
use Rattle.fb_texts.proofs.Counted.{fore_counted}

module _ (size : ℕ) (bytes : Bytes) where
  pub section_counted : (device : ℕ) (run : Run) → length (section size bytes device run) ≡ length run.fore + 3
  section_counted device run = omega (arith, fore_counted size bytes run)

  -- the section of a device, and those behind it
  sections_here : (runs : List Run) (device : ℕ) (run : Run) → slice_get runs device ≡ Some run
      → sections size bytes device (drop device runs) ≡ section size bytes device run
      ++ sections size bytes (device + 1) (drop (device + 1) runs)
  sections_here runs device run at = ap (sections size bytes device) (drop_at runs device run at)

  -- the lines from one device on, and those from the next on
  pub one_counted : (runs : List Run) (device : ℕ) (run : Run) → slice_get runs device ≡ Some run
      → length (sections size bytes device (drop device runs))
      ≡ (length run.fore + 3) + length (sections size bytes (device + 1) (drop (device + 1) runs))
  one_counted runs device run at =
      omega (
        arith,
        ap length (sections_here runs device run at),
        length-append (section size bytes device run) (sections size bytes (device + 1) (drop (device + 1) runs)),
        section_counted device run,
      )

  -- a line in the section of a device
  pub line_here : (runs : List Run) (device : ℕ) (run : Run) (index rest : ℕ) → slice_get runs device ≡ Some run
      → rest < length run.fore + 3
      → slice_get (sections size bytes 0 runs) index ≡ slice_get (sections size bytes device (drop device runs)) rest
      → slice_get (sections size bytes 0 runs) index ≡ slice_get (section size bytes device run) rest
  line_here runs device run index rest at inside same =
      same ∙ ap (λ lines. slice_get lines rest) (sections_here runs device run at)
      ∙ get_left (section size bytes device run) (sections size bytes (device + 1) (drop (device + 1) runs)) rest
      (omega (arith, section_counted device run))

  -- or behind it
  pub line_later : (runs : List Run) (device : ℕ) (run : Run) (index rest later : ℕ) → slice_get runs device ≡ Some run
      → rest ≡ (length run.fore + 3) + later
      → slice_get (sections size bytes 0 runs) index ≡ slice_get (sections size bytes device (drop device runs)) rest
      → slice_get (sections size bytes 0 runs) index ≡ slice_get (sections size bytes (device + 1) (drop (device + 1) runs)) later
  line_later runs device run index rest later at is same =
      same ∙ ap (λ lines. slice_get lines rest) (sections_here runs device run at)
      ∙ get_right (section size bytes device run) (sections size bytes (device + 1) (drop (device + 1) runs)) later rest
      (omega (arith, section_counted device run))

  pub array_counted : (runs : List Run) → length (array_lines size bytes runs) ≡ length (sections size bytes 0 runs) + 2
  unfolding array_lines
  array_counted runs = omega (arith, length-append (sections size bytes 0 runs) (array_last (length runs) ∷ []))

  pub first_of_array : (runs : List Run) → slice_get (array_lines size bytes runs) 0 ≡ Some array_first
  unfolding array_lines
  first_of_array runs = refl

  behind_first : (runs : List Run) (index k : ℕ) → index ≡ k + 1
      → slice_get (array_lines size bytes runs) index ≡ slice_get (sections size bytes 0 runs ++ array_last (length runs) ∷ []) k
  unfolding array_lines
  behind_first runs index k is =
      get_right (array_first ∷ []) (sections size bytes 0 runs ++ array_last (length runs) ∷ []) k index (omega arith)

  -- a line of the sections
  pub line_of_array : (runs : List Run) (index k : ℕ) (line : List ℕ) → index ≡ k + 1 → slice_get (sections size bytes 0 runs) k ≡ Some line
      → slice_get (array_lines size bytes runs) index ≡ Some line
  line_of_array runs index k line is at =
      behind_first runs index k is ∙ get_left (sections size bytes 0 runs) (array_last (length runs)
      ∷ []) k (slice_get_within (sections size bytes 0 runs) k line at) ∙ at

  pub last_of_array : (runs : List Run) (index k : ℕ) → index ≡ k + 1 → index < length (array_lines size bytes runs)
      → length (sections size bytes 0 runs) ≤ k → slice_get (array_lines size bytes runs) index ≡ Some (array_last (length runs))
  last_of_array runs index k is inside behind =
      behind_first runs index k is
      ∙ get_right (sections size bytes 0 runs) (array_last (length runs) ∷ []) 0 k (omega (arith, array_counted runs))
