-- The fields of printed rows are those of the grammar.
use Rattle.fb_units.proofs.Lists.{all_at}
use Rattle.fb_report.proofs.Words.{◌≡◌, ℕ, ◌<◌, List, [], ◌∷◌, ◌++◌, length, Global, Bool, true, false, refl, sym, ap, ◌∙◌, arith, subst}
use Rattle.fb_report.proofs.Words.{inl, inr, codes, decimal, if◌then◌else◌, Result, IfOk, IfOk-weaker, decimal_digit, is_name, ContentRun}
use Rattle.fb_report.proofs.Words.{Bytes, shown, line_of, with_fields, kind_text, fore_first, fore_last, task_text, task_kind_text}
use Rattle.fb_report.proofs.Words.{how_text, is_complete_text, back_first, back_last, is_number, is_request, is_word, is_one_of, are_bytes}
use Rattle.fb_report.proofs.Words.{numbers, fore_grammar, back_grammar, IsField, AreFields, AreOneOf, HasSectors, AreNames, IsLine}
use Rattle.fb_report.proofs.Words.{is_first, is_last}
use Rattle.fb_units.specs.declared.types.NoMemory.{NoMemory}
use Rattle.std.specs.declared.vec.Vec.{Vec}
use Rattle.fb_script.specs.declared.call.Kind.{Kind}
use Rattle.fb_script.specs.declared.call.Kind.TheVariants.{Plain, Backup, Scrub, Clean}
use Rattle.fb_rows.specs.declared.gap.How.{How}
use Rattle.fb_rows.specs.declared.gap.How.TheVariants.{Gap as ByGap, Idle as ByIdle, Ride as ByRide}
use Rattle.fb_report.proofs.{Fields.in_first, Fields.in_last, PrintedForms.word_is, PrintedForms.task_is, ShownForms.dash_is}
use Rattle.fb_report.proofs.{ShownForms.shown_is}

infixr 5 ◌&◌
-- one field, and then others
abbrev pub ◌&◌ : {A B : Type 0} → A → B → A × B
a & b = (a, b)

-- a line that was ended has what the line has
pub ended_as : (P : List ℕ → Type 0) (result : Result (Vec ℕ Global) NoMemory) (front first : List ℕ) (fields : List (List ℕ))
    → IfOk result (λ bytes. bytes.items ≡ front ++ 10 ∷ [])
    → front ≡ with_fields first fields → P (line_of first fields) → IfOk result (λ line. P line.items)
ended_as P result front first fields ends is has =
    IfOk-weaker result (λ bytes. bytes.items ≡ front ++ 10 ∷ []) (λ bytes. P bytes.items)
    (λ bytes e. subst P (sym (e ∙ ap (λ x. x ++ 10 ∷ []) is)) has) ends

-- ---- the foreground

pub fore_first_is : IsLine (is_first fore_grammar) fore_first
fore_first_is = in_first fore_grammar (codes "freeblock") (codes "fore" ∷ codes "1"
    ∷ []) (word_is (codes "freeblock") refl & word_is (codes "fore") refl & word_is (codes "1") refl & tt)

pub fore_last_is : (rows passed : ℕ) → IsField is_number (decimal rows) → IsField is_number (decimal passed)
    → IsLine (is_last fore_grammar) (fore_last rows passed)
fore_last_is rows passed is too =
    in_last fore_grammar (codes "end") (decimal rows ∷ decimal passed ∷ []) (word_is (codes "end") refl & is & too & tt) refl

pub found_is : (write : Bool) (bytes : Bytes) (size : ℕ) (runs : List ContentRun) → 0 < size → (write ≡ false → HasSectors runs)
    → IsField are_bytes (if write then codes "-" else shown bytes size runs)
found_is true bytes size runs big reads = dash_is
found_is false bytes size runs big reads = shown_is bytes size runs big (reads refl)

-- a read, or a write, which has no bad sectors and no bytes
pub fore_row_is : (write : Bool) (name lbn count arrival start media finish found : List ℕ) (bad : ℕ) → IsField is_request name
    → AreFields (is_one_of (codes "R" ∷ codes "W" ∷ []) ∷ numbers 7 ++ are_bytes ∷ []) (kind_text write ∷ lbn ∷ count ∷ arrival ∷ start
    ∷ media ∷ finish ∷ decimal (if write then 0 else bad) ∷ (if write then codes "-" else found) ∷ [])
    → AreOneOf fore_grammar.rows (name ∷ kind_text write ∷ lbn ∷ count ∷ arrival ∷ start ∷ media ∷ finish
    ∷ decimal (if write then 0 else bad) ∷ (if write then codes "-" else found) ∷ [])
fore_row_is true name lbn count arrival start media finish found bad is are =
    let zero : IsField (is_word (codes "0")) (decimal 0) =
    subst (IsField (is_word (codes "0"))) (sym (decimal_digit 0 (omega arith))) (word_is (codes "0") refl) in
    inr (inl (is & word_is (codes "W") refl & are.1.0 & are.1.1.0 & are.1.1.1.0 & are.1.1.1.1.0 & are.1.1.1.1.1.0 & are.1.1.1.1.1.1.0 & zero
    & word_is (codes "-") refl & tt))
fore_row_is false name lbn count arrival start media finish found bad is are = inl (is & word_is (codes "R") refl & are.1)

-- ---- the background

pub back_first_is : IsLine (is_first back_grammar) back_first
back_first_is = in_first back_grammar (codes "freeblock") (codes "back" ∷ codes "1"
    ∷ []) (word_is (codes "freeblock") refl & word_is (codes "back") refl & word_is (codes "1") refl & tt)

pub back_last_is : (end : ℕ) → IsField is_number (decimal end) → IsLine (is_last back_grammar) (back_last end)
back_last_is end is = in_last back_grammar (codes "end") (decimal end ∷ []) (word_is (codes "end") refl & is & tt) refl

pub named_is : (names : List (List ℕ)) (task : ℕ) → AreNames names → task < length names → IsField is_name (task_text names task)
named_is names task named within = task_is (task_text names task) (all_at (λ name. is_name name ≡ true) names task [] named within)

pub how_is : (how : How) → IsField (is_one_of (codes "gap" ∷ codes "idle" ∷ codes "ride" ∷ [])) (how_text how)
how_is ByGap = record { fits = refl; whole = refl }
how_is ByIdle = record { fits = refl; whole = refl }
how_is ByRide = record { fits = refl; whole = refl }

pub task_kind_is : (kind : Kind)
    → IsField (is_one_of (codes "plain" ∷ codes "backup" ∷ codes "scrub" ∷ codes "clean" ∷ [])) (task_kind_text kind)
task_kind_is Plain = record { fits = refl; whole = refl }
task_kind_is Backup = record { fits = refl; whole = refl }
task_kind_is Scrub = record { fits = refl; whole = refl }
task_kind_is Clean = record { fits = refl; whole = refl }

pub complete_is : (complete : Bool) → IsField (is_one_of (codes "complete" ∷ codes "open" ∷ [])) (is_complete_text complete)
complete_is true = record { fits = refl; whole = refl }
complete_is false = record { fits = refl; whole = refl }
