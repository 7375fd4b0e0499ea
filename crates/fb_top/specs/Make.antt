-- What a make writes, and why it ends as it does.
use Rattle.std.specs.Prelude.{◌≡◌, ◌⊎◌, ℕ, List, [], ◌∷◌, ◌++◌, length, true, is_some, Ok, codes}
use Rattle.fb_geometry.specs.Places.{places}
use Rattle.fb_service.specs.declared.disk.Disk.{Disk}
use Rattle.fb_trace.specs.Reading.{trace_of}
use Rattle.fb_maker.specs.Trace.{made_requests, made_trace}
use Rattle.fb_maker.specs.Script.{script_text, script_calls}
use Rattle.fb_calls.specs.Reading.{calls_of}
use Rattle.fb_desk.specs.View.{DeskView}
use Rattle.fb_desk.specs.declared.desk.Input.TheVariants.{Params}
use Rattle.fb_desk.specs.declared.desk.Output.TheVariants.{MadeTrace, MadeCalls}
use Rattle.fb_words.specs.Command.{MakeTerms}
use Rattle.fb_top.specs.declared.outcome.Outcome.{Outcome}
use Rattle.fb_top.specs.declared.outcome.Outcome.TheVariants as outcomes
use Rattle.fb_inputs.specs.Read.{RefusesDisk}
use Rattle.fb_streams.specs.Streams.{IsLonger, KeepsOutputs}
use Rattle.fb_texts.specs.declared.error.TextsError.{TextsError}
use Rattle.fb_texts.specs.declared.error.TextsError.TheVariants as faults
use Rattle.fb_texts.specs.Written.{OutputFaultsRose, StopsTexts, Text, WritesAll, one_text}
use Rattle.fb_inputs.specs.Limits.{limit_of}
use Rattle.fb_inputs.specs.Causes.{AcceptsDisk, FaultsRose}

abbrev pub sectors_of : Disk → ℕ
sectors_of disk = length (places disk.map)

-- the trace that the words ask for
abbrev pub trace_text : MakeTerms → Disk → List ℕ
trace_text terms disk = made_trace terms.number terms.device (sectors_of disk) terms.requests

-- what a make writes, in this order: the trace and the script, under the names that the words give
abbrev pub make_texts : MakeTerms → Disk → List Text
make_texts terms disk =
    one_text MadeTrace terms.trace (trace_text terms disk) ++ one_text MadeCalls terms.calls (script_text disk.map)

-- both texts are written, nothing else was written, and what was written can be read for that disk and device
pub record WritesBoth (old new : DeskView) (terms : MakeTerms) (n : ℕ) : Type 0 where
  pub count : n ≡ terms.requests
  pub makes : AcceptsDisk old terms.params
  pub texts : WritesAll (make_texts terms makes.disk) old new
  pub trace_read : trace_of terms.device (sectors_of makes.disk) (trace_text terms makes.disk)
      ≡ Ok (record { requests = made_requests terms.number (sectors_of makes.disk) terms.requests; passed_over = 0 })
  pub calls_read : calls_of makes.disk.map terms.requests (script_text makes.disk.map)
      ≡ Ok (record { names = codes "scrub" ∷ codes "backup" ∷ []; calls = script_calls makes.disk.map })

-- the disk was accepted, and its texts were not all written
pub record IsMakeCut (old new : DeskView) (terms : MakeTerms) (error : TextsError) : Type 0 where
  pub makes : AcceptsDisk old terms.params
  pub stops : StopsTexts (make_texts terms makes.disk) old new error

-- the cause of each answer to the terms of a make
abbrev pub MakeHasCause : MakeTerms → DeskView → DeskView → Outcome → Type 0
MakeHasCause terms old new (outcomes.Made n) = WritesBoth old new terms n
MakeHasCause terms old new (outcomes.Params fault) = RefusesDisk old terms.params fault × KeepsOutputs old new
MakeHasCause terms old new (outcomes.TooLong Params) = IsLonger old terms.params (limit_of Params) × KeepsOutputs old new
MakeHasCause terms old new (outcomes.ReadFault Params) = FaultsRose old new Params × KeepsOutputs old new
MakeHasCause terms old new (outcomes.WriteFault output) = IsMakeCut old new terms (faults.WriteFault output)
MakeHasCause terms old new outcomes.NoMemory = KeepsOutputs old new ⊎ IsMakeCut old new terms faults.NoMemory
MakeHasCause terms old new _ = ⊥

-- the desk tells what the parameter file holds, it is accepted, and no count of faults rises
pub record MakeGoesWell (old new : DeskView) (terms : MakeTerms) : Type 0 where
  pub makes : AcceptsDisk old terms.params
  pub params_told : is_some (old.held terms.params) ≡ true
  pub params : FaultsRose old new Params → ⊥
  pub trace : OutputFaultsRose old new MadeTrace → ⊥
  pub calls : OutputFaultsRose old new MadeCalls → ⊥

-- as many requests were made as the words ask for, unless memory ran out
abbrev pub MakesAll : MakeTerms → Outcome → Type 0
MakesAll terms (outcomes.Made n) = n ≡ terms.requests
MakesAll terms outcomes.NoMemory = Unit {0}
MakesAll terms outcome = ⊥
