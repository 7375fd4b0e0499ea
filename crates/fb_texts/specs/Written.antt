-- What outputs hold.
use Rattle.std.specs.Prelude.{◌≡◌, ◌≢◌, ℕ, List, [], ◌∷◌, ◌++◌, true, IfSome, Option, Some, None, Result, Ok, Err}
use Rattle.std.specs.List.{AllByRecursion, flat_map}
use Rattle.fb_desk.specs.Calls.{Rose}
use Rattle.fb_desk.specs.View.{DeskView, OutputView}
use Rattle.fb_desk.specs.declared.desk.Output.{Output}
use Rattle.fb_texts.specs.declared.error.TextsError.{TextsError}
use Rattle.fb_texts.specs.declared.error.TextsError.TheVariants as faults
use Rattle.fb_streams.specs.Streams.{IsFront}

-- lines one after another
abbrev pub joined : List (List ℕ) → List ℕ
joined lines = flat_map (λ line. line) lines

-- the output is begun, with this name and this text where the desk tells them
pub record HoldsWhole (output : OutputView) (name text : List ℕ) : Type 0 where
  pub begun : output.begun ≡ true
  pub named : IfSome output.name (λ told. told ≡ name)
  pub written : IfSome output.written (λ bytes. bytes ≡ text)

-- the output has this name and a front of this text, where the desk tells them
pub record IsCut (output : OutputView) (name text : List ℕ) : Type 0 where
  pub named : IfSome output.name (λ told. told ≡ name)
  pub written : IfSome output.written (λ bytes. IsFront bytes text)

-- if the output is begun, then under this name, with a front of this text
abbrev pub HoldsFront : OutputView → List ℕ → List ℕ → Type 0
HoldsFront output name text = output.begun ≡ true → IsCut output name text

-- a count of faults rose
abbrev pub OutputFaultsRose : DeskView → DeskView → Output → Type 0
OutputFaultsRose old new output = Rose (old.outputs output).faults (new.outputs output).faults

-- a text, with the output and the name under which it is written
pub record Text : Type 0 where
  pub output : Output
  pub name : List ℕ
  pub text : List ℕ

-- one text alone
abbrev pub one_text : Output → List ℕ → List ℕ → List Text
one_text output name text = record { output = output; name = name; text = text } ∷ []

-- a text under the name that is given; without a name there is none
abbrev pub given_text : Output → Option (List ℕ) → List ℕ → List Text
given_text output None text = []
given_text output (Some name) text = one_text output name text

-- no output but those of these texts has changed
abbrev pub KeepsButTexts : List Text → DeskView → DeskView → Type 0
KeepsButTexts texts old new = (output : Output) → AllByRecursion (λ text. output ≢ text.output) texts
    → new.outputs output ≡ old.outputs output

-- each of these texts stands whole in its output
abbrev pub HoldsTexts : List Text → DeskView → Type 0
HoldsTexts texts desk = AllByRecursion (λ text. HoldsWhole (desk.outputs text.output) text.name text.text) texts

-- these texts were written whole, and nothing else
pub record WritesAll (texts : List Text) (old new : DeskView) : Type 0 where
  pub others : KeepsButTexts texts old new
  pub whole : HoldsTexts texts new

-- the text of this output was cut off: those before it were written whole, and nothing else was written
pub record CutsAt (which : Output) (texts : List Text) (old new : DeskView) : Type 0 where
  pub before : List Text
  pub cut : Text
  pub behind : List Text
  pub are : texts ≡ before ++ cut ∷ behind
  pub here : cut.output ≡ which
  pub others : KeepsButTexts (before ++ cut ∷ []) old new
  pub whole : HoldsTexts before new
  pub front : HoldsFront (new.outputs which) cut.name cut.text

-- why texts were not all written
abbrev pub StopsTexts : List Text → DeskView → DeskView → TextsError → Type 0
StopsTexts texts old new (faults.WriteFault output) = OutputFaultsRose old new output × CutsAt output texts old new
StopsTexts texts old new faults.NoMemory = (output : Output) × CutsAt output texts old new

-- texts were written: all of them, or the error says why not
abbrev pub WritesTexts : {T : Type 0} → List Text → DeskView → DeskView → Result T TextsError → Type 0
WritesTexts texts old new (Ok x) = WritesAll texts old new
WritesTexts texts old new (Err error) = StopsTexts texts old new error
