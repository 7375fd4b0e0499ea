-- What is held, read and appended under names.
use Rattle.std.specs.Prelude.{◌≡◌, ℕ, ◌≤◌, ◌++◌, ◌<◌, true, List, take, length, Option, IfSome}
use Rattle.fb_desk.specs.Calls.{behind}
use Rattle.fb_desk.specs.declared.desk.Output.{Output}
use Rattle.fb_desk.specs.View.{DeskView, InputView}

-- these are the bytes held under a name, where the desk tells them
abbrev pub IsHeld : DeskView → List ℕ → List ℕ → Type 0
IsHeld desk name bytes = IfSome (desk.held name) (λ held. bytes ≡ held)

-- the bytes under a name, at most so many, are read as this
pub record ReadsAs {A : Type 0} (desk : DeskView) (name : List ℕ) (limit : ℕ) (read : List ℕ → A) (verdict : A) : Type 0 where
  pub bytes : List ℕ
  pub held : IsHeld desk name bytes
  pub within : length bytes ≤ limit
  pub spells : read bytes ≡ verdict

-- more bytes than this are held under a name, where the desk tells them
abbrev pub IsLonger : DeskView → List ℕ → ℕ → Type 0
IsLonger desk name limit = IfSome (desk.held name) (λ held. limit < length held)

-- the text begins with the bytes
abbrev pub IsFront : List ℕ → List ℕ → Type 0
IsFront bytes text = (rest : List ℕ) × (bytes ++ rest ≡ text)

-- a front of the text was appended
abbrev pub AppendsFront : Option (List ℕ) → Option (List ℕ) → List ℕ → Type 0
AppendsFront old new text = (n : ℕ) × (n ≤ length text) × (new ≡ behind old (take n text))

-- the bytes left are an end of those held, where the desk tells both
abbrev pub IsLeftOf : Option (List ℕ) → Option (List ℕ) → Type 0
IsLeftOf held left = IfSome left (λ rest. IfSome held (λ bytes. (taken : List ℕ) × (taken ++ rest ≡ bytes)))

-- an input that is opened was opened under this name
abbrev pub IsOpenedAs : List ℕ → DeskView → InputView → Type 0
IsOpenedAs name desk input = input.opened ≡ true → IsLeftOf (desk.held name) input.left

-- no output has changed
abbrev pub KeepsOutputs : DeskView → DeskView → Type 0
KeepsOutputs old new = (output : Output) → new.outputs output ≡ old.outputs output
