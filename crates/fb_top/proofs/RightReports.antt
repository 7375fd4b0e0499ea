-- The verdict on right reports.
use Rattle.fb_top.proofs.Words.{◌≡◌, ℕ, List, refl, sym, ap, ◌∙◌, inl, inr, slice_get, Run, IsAccepted, IsFull, Inputs, back_lines}
use Rattle.fb_top.proofs.Words.{DeskView, Grammar, LineFields, report_of, spelled, IsVerdict, Reports, Verdict, Yes, ReadsReport}
use Rattle.fb_top.proofs.Words.{HoldsLines, joined}
use Rattle.std.specs.Prelude.{Ok, Result, map}
use Rattle.fb_model.specs.Known.{OneFullRun}
use Rattle.fb_check.specs.Verdict.{HasBackLines, HasForeLines, IsWrong}
use Rattle.fb_check.specs.declared.verdict.Mismatch.{Mismatch}
use Rattle.fb_check.specs.declared.verdict.Verdict.TheVariants.{No}
use Rattle.fb_top.proofs.Alike.{held_here}

module _ (one_run : OneFullRun) (inputs : Inputs) (printed : Reports) (run : Run) (accepted : IsAccepted inputs) (full : IsFull inputs run)
    (fore : HasForeLines inputs printed run) (back : HasBackLines inputs printed run) where
  not_wrong : (mismatch : Mismatch) → IsWrong inputs printed mismatch → ⊥
  not_wrong mismatch wrong = elim wrong [
    | inl is ↦
        let there = is.1 run (record { fore = full.sound.fore; passed_over = full.sound.passed_over }) in
        there.lines.there (ap (λ lines. slice_get lines there.index) fore)
    | inr is ↦
        let here = is.1 in
        here.wrong.lines.there (ap (λ lines. slice_get lines here.wrong.index) (ap (λ (r : Run).
        back_lines printed.names inputs.disk.sector_bytes printed.bytes r) (one_run inputs here.run run accepted here.full full) ∙ back))
  ]

  -- right reports are not refused
  pub is_yes : (verdict : Verdict) → IsVerdict inputs printed verdict → verdict ≡ Yes
  is_yes Yes h = refl
  is_yes (No mismatch) h = absurd (not_wrong mismatch h)

lines_once : {E : Type 0} (verdict : Result (List LineFields) E) (one two : List LineFields) → verdict ≡ Ok one → verdict ≡ Ok two
    → one ≡ two
lines_once verdict one two e f = cc

-- a report of these lines is read as these lines
pub read_as : (desk : DeskView) (name : List ℕ) (grammar : Grammar) (lines : List (List ℕ)) (found : List LineFields)
    → HoldsLines desk name grammar lines → ReadsReport desk name grammar found → lines ≡ map spelled found
read_as desk name grammar lines found holds reads =
    sym holds.read.are ∙ ap (map spelled) (lines_once (report_of grammar reads.bytes) holds.read.parts found
    (ap (report_of grammar) (held_here (desk.held name) reads.bytes (joined lines) holds.held reads.held) ∙ holds.read.read)
    reads.spells)
