-- Reports that a replay printed, and that a check reads.
use Rattle.fb_top.proofs.Words.{◌≡◌, ◌⊎◌, ℕ, List, length, Option, Some, None, refl, sym, ap, subst, ◌∙◌, inl, inr, IfSome, is_some, Disk}
use Rattle.fb_top.proofs.Words.{Run, Grammar, report_of, spelled, IsReadBack, Verdict, Yes, DeskView, OutputView, Spill, CheckTerms}
use Rattle.fb_top.proofs.Words.{ReplayTerms, Outcome, CheckHasCause, IsVerdictOf, IsJudged, TellsReport, AreReadBack, IsRunOf}
use Rattle.fb_top.proofs.Words.{report_texts, spill_told, all_left, Accepts, Files, ReadsScript, FileNames, HoldAlike, HoldFilesAlike}
use Rattle.fb_top.proofs.Words.{HoldsLines, HoldsTexts, HoldsWhole, given_text, joined}
use Rattle.std.proofs.lemmas.List.Folds.{flat_map-map}
use Rattle.fb_calls.specs.Reading.{Accepted as Script}
use Rattle.fb_top.specs.declared.outcome.Outcome.TheVariants as outcomes
use Rattle.fb_top.specs.Untouched.{HasReplayed, HoldsWritten}
use Rattle.fb_top.proofs.Alike.{reads_there}

-- what a replay has printed, without puts or with them
pub record Prints (old new : DeskView) (terms : ReplayTerms) (run : Run) : Type 0 where
  pub is_run : IsRunOf old terms run
  pub reports : HoldsTexts (report_texts terms is_run.files run) new
  pub read : AreReadBack terms is_run.files run

pub prints : (old new : DeskView) (terms : ReplayTerms) (run : Run) → HasReplayed old new terms run → Prints old new terms run
prints old new terms run (inl done) = record { is_run = done.is_run; reports = done.texts.whole; read = done.read }
prints old new terms run (inr h) = record {
  is_run = h.1.is_run;
  reports = all_left (λ text. HoldsWhole (new.outputs text.output) text.name text.text) (report_texts terms h.1.is_run.files run)
      (given_text Spill terms.spill (spill_told terms h.1.is_run.files h.0)) h.1.texts.whole;
  read = h.1.read;
}

-- a text that is read back, that was written to an output and is held under a name
module _ (output : OutputView) (desk : DeskView) (name under : List ℕ) (grammar : Grammar) (lines : List (List ℕ))
    (holds : HoldsWritten output desk name) (whole : HoldsWhole output under (joined lines)) (read : IsReadBack grammar lines) where
  one_text : holds.bytes ≡ joined lines
  one_text = subst (λ (told : Option (List ℕ)). IfSome told (λ bytes. bytes ≡ joined lines)) holds.written whole.written

  pub held_lines : HoldsLines desk name grammar lines
  held_lines = record { held = holds.held ∙ ap Some one_text; read = read }

  pub told_lines : TellsReport desk grammar name
  told_lines = record {
    lines = read.parts;
    reads = record {
      bytes = holds.bytes;
      held = subst (λ (told : Option (List ℕ)). IfSome told (λ bytes. holds.bytes ≡ bytes)) (sym holds.held) refl;
      within = holds.within;
      spells = ap (report_of grammar) one_text ∙ read.read;
      whole = sym (flat_map-map (λ (line : List ℕ). line) spelled read.parts) ∙ ap joined read.are ∙ sym one_text;
    };
    told = ap is_some holds.held;
  }

-- files of the same bytes are accepted on both desks
module _ (one other : DeskView) where
  script_there : (given : Option (List ℕ)) (disk : Disk) (traced : ℕ) (script : Script) → IfSome given (HoldAlike one other)
      → ReadsScript one given disk traced script → ReadsScript other given disk traced script
  script_there None disk traced script alike reads = reads
  script_there (Some name) disk traced script alike reads = reads_there one other name alike reads

  pub accepted_there : (terms : FileNames) (files : Files) → HoldFilesAlike one other terms → Accepts one terms files
      → Accepts other terms files
  accepted_there terms files alike reads = record {
    disk = reads_there one other terms.params alike.params reads.disk;
    trace = reads_there one other terms.trace alike.trace reads.trace;
    script = script_there terms.calls files.disk (length files.trace.requests) files.script alike.calls reads.script;
  }

-- a judgement whose only verdict is yes
pub answers_yes : (old new : DeskView) (terms : CheckTerms) (outcome : Outcome)
    → ((verdict : Verdict) → IsVerdictOf old terms verdict → verdict ≡ Yes) → CheckHasCause terms old new outcome → IsJudged outcome
    → (outcome ≡ outcomes.Checked Yes) ⊎ (outcome ≡ outcomes.NoMemory)
answers_yes old new terms (outcomes.Checked verdict) right cause judged = inl (ap outcomes.Checked (right verdict cause.is_verdict))
answers_yes old new terms outcomes.NoMemory right cause judged = inr refl
answers_yes old new terms _ right cause judged = absurd judged
