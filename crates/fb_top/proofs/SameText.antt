-- When two runs have the same foreground text.
use Rattle.fb_top.proofs.Words.{◌≡◌, ℕ, List, [], ◌∷◌, ◌++◌, length, map, ap, ◌∙◌, decimal, codes, ForeRow, Run, Bytes, fore_lines}
use Rattle.fb_top.proofs.Words.{fore_text, joined}
use Rattle.fb_report.specs.Fore.{fore_first, fore_line}
use Rattle.fb_report.specs.Lines.{line_of}

-- the lines of these rows
unfoldable lines_by : ℕ → Bytes → List ForeRow → ℕ → List (List ℕ)
lines_by size bytes rows passed_over =
    fore_first ∷ (map (fore_line size bytes) rows ++ line_of (codes "end") (decimal (length rows) ∷ decimal passed_over ∷ []) ∷ [])

pub same_text : (size other : ℕ) (bytes : Bytes) (run run' : Run) → size ≡ other → run.fore ≡ run'.fore
    → run.passed_over ≡ run'.passed_over → fore_text size bytes run ≡ fore_text other bytes run'
unfolding fore_lines lines_by
same_text size other bytes run run' sizes fore passed =
    ap (λ s. fore_text s bytes run) sizes
    ∙ ap (λ rows. joined (lines_by other bytes rows run.passed_over)) fore
    ∙ ap (λ passed_over. joined (lines_by other bytes run'.fore passed_over)) passed
