-- Reading a text goes on after its first line.
use Rattle.std.proofs.Common.{◌≡◌, ℕ, ◌+◌, List, [], ◌∷◌, sym, ap, ◌∙◌, Result, Ok, Err}
use Rattle.fb_trace.specs.declared.trace.TraceFault.{TraceFault}
use Rattle.fb_units.specs.declared.read_error.ReadError.{ReadError}
use Rattle.fb_units.specs.declared.read_error.ReadError.TheVariants.{Fault, NoMemory}
use Rattle.fb_units.specs.Judging.{◌>>=◌}
use Rattle.fb_trace.specs.Reading.{Accepted, Progress, next_progress, lines_from}
use Rattle.fb_trace.specs.Verdict.{Answers, accepted}

-- equal devices and numbers of sectors give the same result
same_terms : (device sectors own_device own_sectors number : ℕ) (so_far : Progress) (line : List ℕ) (next : Result Progress TraceFault)
    → own_device ≡ device → own_sectors ≡ sectors
    → next_progress own_device own_sectors number so_far line ≡ next → next_progress device sectors number so_far line ≡ next
same_terms device sectors own_device own_sectors number so_far line next d s e =
    ap (λ x. next_progress x sectors number so_far line) (sym d) ∙ ap (λ x. next_progress own_device x number so_far line) (sym s) ∙ e

-- after one more line, the rest of the text gives the same result
pub read_more : (device sectors number : ℕ) (so_far next : Progress) (line : List ℕ) (lines rest : List (List ℕ))
    (whole : Result Accepted TraceFault)
    → lines ≡ line ∷ rest → next_progress device sectors number so_far line ≡ Ok next
    → lines_from device sectors number so_far lines ≡ whole → lines_from device sectors (number + 1) next rest ≡ whole
unfolding lines_from
read_more device sectors number so_far next line lines rest whole split step read =
    sym (ap (λ r. r >>= (λ p. lines_from device sectors (number + 1) p rest)) step)
    ∙ ap (lines_from device sectors number so_far) (sym split) ∙ read

-- the fault of a line is the result of the whole text
pub read_fault : (device sectors number : ℕ) (so_far : Progress) (line : List ℕ) (lines rest : List (List ℕ))
    (whole : Result Accepted TraceFault) (fault : TraceFault)
    → lines ≡ line ∷ rest → next_progress device sectors number so_far line ≡ Err fault
    → lines_from device sectors number so_far lines ≡ whole → whole ≡ Err fault
unfolding lines_from
read_fault device sectors number so_far line lines rest whole fault split step read =
    sym read ∙ ap (lines_from device sectors number so_far) split
    ∙ ap (λ r. r >>= (λ p. lines_from device sectors (number + 1) p rest)) step

-- if no line is left, what was read is the result
pub read_end : (device sectors number : ℕ) (so_far : Progress) (lines : List (List ℕ)) (whole : Result Accepted TraceFault)
    → lines ≡ [] → lines_from device sectors number so_far lines ≡ whole → whole ≡ Ok so_far.trace
unfolding lines_from
read_end device sectors number so_far lines whole none read = sym read ∙ ap (lines_from device sectors number so_far) none

-- the error of a line that wasn't read is one of the whole text
pub read_error : (device sectors number : ℕ) (so_far new : Progress) (line : List ℕ) (lines rest : List (List ℕ))
    (whole : Result Accepted TraceFault) (error : ReadError TraceFault)
    → lines ≡ line ∷ rest → Answers {A = Unit {0}} (λ _. new) (Err error) (next_progress device sectors number so_far line)
    → lines_from device sectors number so_far lines ≡ whole → Answers accepted (Err error) whole
read_error device sectors number so_far new line lines rest whole (Fault fault) split step read =
    read_fault device sectors number so_far line lines rest whole fault split step read
read_error device sectors number so_far new line lines rest whole NoMemory split step read = tt
