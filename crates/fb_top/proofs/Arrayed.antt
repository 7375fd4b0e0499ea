-- What an array has written, and why it has its answer.
use Rattle.fb_top.proofs.Words.{◌≡◌, ◌≢◌, ◌∙◌, ℕ, List, ◌++◌, Option, Some, None, true, length, refl, sym, ap, subst, arith, inl, inr}
use Rattle.fb_top.proofs.Words.{slice_get, AllByRecursion, option_map, Run, copy_lines, Rebuilt, DeskView, Trace, Output, Fore, Back}
use Rattle.fb_top.proofs.Words.{Copied, ArrayTerms, RebuildTerms, ArrayHasCause, IsRunOfDevice, array_texts, rebuild_texts, replacement}
use Rattle.fb_top.proofs.Words.{sectors_of, survivor, RunsOut, Array, StopsArray, is_rebuilt_from, array_names, KeepsOutputs, InputsError}
use Rattle.fb_top.proofs.Words.{TextsError, StopsTexts, Text, WritesAll, joined, one_text, unwritten, unread, stops_texts, writes_all}
use Rattle.fb_top.proofs.Words.{ends_at}
use Rattle.std.proofs.lemmas.Bool.Decides.{nat_tests}
use Rattle.fb_report.specs.Back.{back_text}
use Rattle.fb_top.specs.Array.{AreRunsOf, IsArrayCut, IsArrayed}
use Rattle.fb_top.specs.Taken.{TakesArray}
use Rattle.fb_inputs.specs.declared.error.InputsError.TheVariants as inputs
use Rattle.fb_texts.specs.declared.error.TextsError.TheVariants as faults
use Rattle.fb_texts.proofs.Texts.{IsApart}

-- what holds of the outputs of a rebuild holds of the texts that it asks for
pub all_rebuild : (P : Output → Type 0) (terms : ArrayTerms) (array : Array) (rebuild : Option RebuildTerms) (run : Option Run) → P Back
    → P Copied → AllByRecursion (λ text. P text.output) (rebuild_texts terms array rebuild run)
all_rebuild P terms array (Some rebuild) (Some run) back copied = (back, (copied, tt))
all_rebuild P terms array (Some rebuild) None back copied = tt
all_rebuild P terms array None (Some run) back copied = tt
all_rebuild P terms array None None back copied = tt

-- the text of the sections has an output of its own
pub sections_apart : (terms : ArrayTerms) (array : Array) (runs : List Run) (name text : List ℕ)
    → AllByRecursion (IsApart (rebuild_texts terms array terms.rebuild (survivor terms.rebuild runs))) (one_text Fore name text)
sections_apart terms array runs name text = (
  all_rebuild (λ output. Fore ≢ output) terms array terms.rebuild (survivor terms.rebuild runs) (λ e. cc) (λ e. cc),
  tt,
)

-- the inputs were read, and then the texts were written
module _ (terms : ArrayTerms) (old mid new : DeskView) (runs : List Run) (are_runs : AreRunsOf old terms runs)
    (first : KeepsOutputs old mid) where
  pub arrayed : (copy : Option Rebuilt) → copy ≡ option_map (replacement (sectors_of are_runs.array)) (survivor terms.rebuild runs)
      → WritesAll (array_texts terms are_runs.array runs) mid new → IsArrayed old new terms runs copy
  arrayed copy copied wrote = record {
    are_runs = are_runs;
    copied = copied;
    texts = writes_all old mid new first (array_texts terms are_runs.array runs) wrote;
  }

  array_cut : (error : TextsError) → StopsTexts (array_texts terms are_runs.array runs) mid new error → IsArrayCut old new terms error
  array_cut error h = record {
    runs = runs;
    are_runs = are_runs;
    stops = stops_texts old mid new first (array_texts terms are_runs.array runs) error h;
  }

  -- why the texts were not written
  pub at_texts : (error : TextsError) → StopsTexts (array_texts terms are_runs.array runs) mid new error
      → ArrayHasCause terms old new (unwritten error)
  at_texts (faults.WriteFault output) h = array_cut (faults.WriteFault output) h
  at_texts faults.NoMemory h = inr (array_cut faults.NoMemory h)

-- why the inputs were not accepted
pub array_stopped : (terms : ArrayTerms) (old new : DeskView) (error : InputsError) → StopsArray terms old new error
    → ArrayHasCause terms old new (unread error)
array_stopped terms old new inputs.NoMemory h = inl h
array_stopped terms old new error h = (error, refl, h)

-- memory ran out after the files were read
pub ran_out : {terms : ArrayTerms} {array : Array} {old new : DeskView} → TakesArray terms array old new
    → RunsOut old new (array_names terms)
ran_out {array = array} takes = record {
  input = Trace;
  before = record { disk = array.disk; latent = array.latent; reads_disk = takes.accepts.disk };
  ends = ends_at takes.account;
}

-- the runs of files that were taken
abbrev pub runs_taken : {terms : ArrayTerms} {array : Array} {old new : DeskView} → TakesArray terms array old new → (runs : List Run)
    → length runs ≡ terms.devices → ((device : ℕ) (run : Run) → slice_get runs device ≡ Some run → IsRunOfDevice terms array device run)
    → AreRunsOf old terms runs
runs_taken {array = array} takes runs count each =
    record { array = array; accepts = takes.accepts; sound = takes.sound; count = count; each = each }

pub one_copy : (one other : Rebuilt) → ◌≡◌ {A = Option Rebuilt} (Some one) (Some other) → one ≡ other
one_copy one other e = cc

-- what is told of a rebuild is what its texts are
module _ (terms : ArrayTerms) (array : Array) (rebuild : RebuildTerms) (run : Run) (sectors : ℕ) (are : sectors ≡ sectors_of array) where
  abbrev told : ℕ → Rebuilt → List Text
  told n copy =
      one_text Back rebuild.back (back_text array.script.names array.disk.sector_bytes terms.bytes run)
      ++ one_text Copied rebuild.copy (joined (copy_lines copy n))

  pub rebuild_told : (given : Option RebuildTerms) (there : Option Run) (copy : Rebuilt) → given ≡ Some rebuild → there ≡ Some run
      → Some copy ≡ option_map (replacement (sectors_of array)) there
      → told sectors copy ≡ rebuild_texts terms array given there
  rebuild_told given there copy is at made =
      subst (λ (r : Option RebuildTerms). told sectors copy ≡ rebuild_texts terms array r there) (sym is)
      (subst (λ (o : Option Run). Some copy ≡ option_map (replacement (sectors_of array)) o
      → told sectors copy ≡ rebuild_texts terms array (Some rebuild) o) (sym at) (λ same.
      ap (λ n. told n copy) are ∙ ap (told (sectors_of array)) (one_copy copy (replacement (sectors_of array) run) same)) made)

-- the rebuild is made from its device
pub is_from : (given : Option RebuildTerms) (rebuild : RebuildTerms) → given ≡ Some rebuild → is_rebuilt_from given rebuild.device ≡ true
is_from given rebuild is = subst (λ (r : Option RebuildTerms). is_rebuilt_from r rebuild.device ≡ true) (sym is) (grind (arith, nat_tests))
