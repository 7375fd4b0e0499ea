-- Notes that were written, or cut off.
use Rattle.std.proofs.Common.{◌≡◌, ◌≤◌, ℕ, List, [], ◌++◌, take, drop, ap, refl, ◌∙◌, inl, inr, Option, Some, None, Result, Ok, Err, true, false}
use Rattle.std.specs.Prelude.{IfSome, OnOk, OnErr, codes, is_ok}
use Rattle.std.proofs.lemmas.List.{take-append-drop}
use Rattle.fb_desk.specs.Calls.{MakesCall, Rose, behind}
use Rattle.fb_desk.specs.View.{OutputView, begins}
use Rattle.fb_desk.specs.declared.desk.Failed.{Failed}
use Rattle.fb_desk.specs.declared.desk.Output.TheVariants.{Note}
use Rattle.fb_streams.specs.Called.{AreServed, Ends, Told, failed_writing, of_output}
use Rattle.fb_streams.specs.Streams.{AppendsFront}
use Rattle.fb_streams.proofs.Called.{one_call, one_failed, then_calls, then_stops}
use Rattle.fb_texts.proofs.Pieces.{rose_since}
use Rattle.fb_top.specs.Noted.{IsNote, MakesNote, asks_note}

whole_note : (first last : OutputView) (old new : Option (List ℕ)) (text line : List ℕ) → IfSome old (λ bytes. bytes ≡ []) → text ≡ line
    → new ≡ behind old text → IfSome new (IsNote line first last)
whole_note first last None new text line empty is whole = rw whole tt
whole_note first last (Some bytes) new text line empty is whole = rw whole (inl (ap (λ front. front ++ text) empty ∙ is))

cut_note : (first last : OutputView) (old new : Option (List ℕ)) (text line : List ℕ) → IfSome old (λ bytes. bytes ≡ []) → text ≡ line
    → AppendsFront old new text → Rose first.faults last.faults
    → IfSome new (IsNote line first last)
cut_note first last None new text line empty is front rose = rw front.2 tt
cut_note first last (Some bytes) new text line empty is front rose =
    rw front.2 (inr (inr (
      (drop front.0 text, ap (λ xs. (xs ++ take front.0 text) ++ drop front.0 text) empty ∙ take-append-drop front.0 text ∙ is),
      rose,
    )))

-- a count that didn't fall, and then rose, has risen
pub rose_on : {T E : Type 0} (result : Result T E) (old now new : ℕ) → old ≤ now → OnErr result (Rose now new) → OnErr result (Rose old new)
rose_on (Ok x) old now new later rose = tt
rose_on (Err e) old now new later rose = rose_since old now new later rose

-- a note that was written, or cut off
pub note_written : {T E : Type 0} (result : Result T E) (first old new : OutputView) (text line : List ℕ)
    → IfSome old.written (λ bytes. bytes ≡ []) → text ≡ line
    → OnOk result (new.written ≡ behind old.written text) → OnErr result (AppendsFront old.written new.written text)
    → OnErr result (Rose first.faults new.faults)
    → IfSome new.written (IsNote line first new)
note_written (Ok x) first old new text line empty is whole front rose =
    whole_note first new old.written new.written text line empty is whole
note_written (Err e) first old new text line empty is whole front rose =
    cut_note first new old.written new.written text line empty is front rose

-- the note was begun, or not
pub note_begun : {T : Type 0} (result : Result T Failed) (old new : Told) → MakesCall (begins Note (codes "-") (is_ok result)) old new
    → MakesNote old new
note_begun (Ok x) old new makes =
    inl (one_call asks_note (begins Note (codes "-") true) old new makes (record { asked_for = refl; succeeded = refl }))
note_begun (Err failed) old new makes =
    inr (one_failed asks_note (of_output Note) (begins Note (codes "-") false) old new makes
    (record { asked_for = refl; of = refl; failed = refl }))

-- the note was begun, and written or cut off
pub note_made : {T : Type 0} (result : Result T Failed) {a b : Told} (c : Told) → AreServed asks_note a b
    → Ends (failed_writing Note) asks_note result b c → MakesNote a c
note_made (Ok x) c first second = inl (then_calls first second)
note_made (Err failed) c first second = inr (then_stops first second)
