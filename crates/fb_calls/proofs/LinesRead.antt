-- Reading a text goes on after its first line.
use Rattle.std.proofs.Common.{◌≡◌, ℕ, ◌+◌, List, [], ◌∷◌, sym, ap, ◌∙◌, Result, Ok, Err}
use Rattle.fb_units.specs.Judging.{◌>>=◌}
use Rattle.fb_geometry.specs.Shape.{Shape}
use Rattle.fb_calls.specs.declared.fault.CallsFault.{CallsFault}
use Rattle.fb_units.specs.declared.read_error.ReadError.{ReadError}
use Rattle.fb_units.specs.declared.read_error.ReadError.TheVariants.{Fault, NoMemory}
use Rattle.fb_calls.specs.Judgement.{Progress}
use Rattle.fb_calls.specs.Reading.{Accepted, at_end, next_progress, lines_from}
use Rattle.fb_calls.specs.Verdict.{Answers, accepted}

module _ (disk : Shape) (number : ℕ) (so_far : Progress) (lines : List (List ℕ)) (whole : Result Accepted CallsFault) where
  -- after one more line, the rest of the text gives the same result
  pub read_more : (next : Progress) (line : List ℕ) (rest : List (List ℕ)) → lines ≡ line ∷ rest
      → next_progress disk number so_far line ≡ Ok next
      → lines_from disk number so_far lines ≡ whole → lines_from disk (number + 1) next rest ≡ whole
  unfolding lines_from
  read_more next line rest split step read =
      sym (ap (λ r. r >>= (λ p. lines_from disk (number + 1) p rest)) step) ∙ ap (lines_from disk number so_far) (sym split) ∙ read

  -- the fault of a line is the result of the whole text
  read_fault : (line : List ℕ) (rest : List (List ℕ)) (fault : CallsFault) → lines ≡ line ∷ rest
      → next_progress disk number so_far line ≡ Err fault
      → lines_from disk number so_far lines ≡ whole → whole ≡ Err fault
  unfolding lines_from
  read_fault line rest fault split step read =
      sym read ∙ ap (lines_from disk number so_far) split ∙ ap (λ r. r >>= (λ p. lines_from disk (number + 1) p rest)) step

  -- the error of a line that wasn't read is one of the whole text
  pub read_error : (new : Progress) (line : List ℕ) (rest : List (List ℕ)) (error : ReadError CallsFault) → lines ≡ line ∷ rest
      → Answers {A = Unit {0}} (λ _. new) (Err error) (next_progress disk number so_far line) → lines_from disk number so_far lines ≡ whole
      → Answers accepted (Err error) whole
  read_error new line rest (Fault fault) split step read = read_fault line rest fault split step read
  read_error new line rest NoMemory split step read = tt

  -- if no line is left, what was read is the result
  pub read_end : lines ≡ [] → lines_from disk number so_far lines ≡ whole → whole ≡ Ok (at_end so_far)
  unfolding lines_from
  read_end none read = sym read ∙ ap (lines_from disk number so_far) none
