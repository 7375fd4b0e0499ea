-- Texts that are written piece by piece.
use Rattle.std.proofs.Common.{◌≡◌, ℕ, ◌+◌, ◌≤◌, List, [], ◌∷◌, ◌++◌, length, take, drop, refl, sym, ap, ◌∙◌, append_assoc, append-nil}
use Rattle.std.proofs.Common.{Option, Some, None, Result, Ok, Err, arith, subst, false, true≢false}
use Rattle.std.specs.Prelude.{IfSome, slice_get}
use Rattle.std.proofs.lemmas.List.{take_more, take_all, take-append-drop}
use Rattle.std.proofs.lemmas.List.Concat.{flat_map-append}
use Rattle.std.proofs.lemmas.Option.{slice_get_within, get_or_from_slice_get}
use Rattle.fb_desk.specs.Calls.{Rose, behind}
use Rattle.fb_desk.specs.View.{DeskView, OutputView}
use Rattle.fb_desk.specs.declared.desk.Output.{Output}
use Rattle.fb_streams.specs.Streams.{IsFront, AppendsFront}
use Rattle.fb_streams.proofs.Called.{no_call}
use Rattle.fb_texts.specs.Written.{CutsAt, HoldsFront, OutputFaultsRose, StopsTexts, WritesTexts, joined, one_text}
use Rattle.fb_texts.specs.Writing.{HasStopped, HasWritten, Writes}
use Rattle.fb_texts.specs.declared.error.TextsError.{TextsError}
use Rattle.fb_texts.specs.declared.error.TextsError.TheVariants as faults
use Rattle.fb_texts.proofs.Texts.{cut_one, wrote_one}

-- a count that didn't fall, and then rose, has risen
pub rose_since : (old now new : ℕ) → old ≤ now → Rose now new → Rose old new
rose_since old now new later rose = omega arith

-- a name that stays
pub same_name : (name : List ℕ) (old new : Option (List ℕ)) → new ≡ old → IfSome old (λ told. told ≡ name)
    → IfSome new (λ told. told ≡ name)
same_name name old new same h = subst (λ (told : Option (List ℕ)). IfSome told (λ it. it ≡ name)) (sym same) h

-- more was written behind a text
pub more_written : (old new : Option (List ℕ)) (text more : List ℕ) → IfSome old (λ bytes. bytes ≡ text) → new ≡ behind old more
    → IfSome new (λ bytes. bytes ≡ text ++ more)
more_written None new text more h whole = rw whole tt
more_written (Some bytes) new text more h whole = rw whole (ap (λ front. front ++ more) h)

-- or a part of it
pub part_written : (old new : Option (List ℕ)) (text more : List ℕ) → IfSome old (λ bytes. bytes ≡ text) → AppendsFront old new more
    → IfSome new (λ bytes. IsFront bytes (text ++ more))
part_written None new text more h front = rw front.2 tt
part_written (Some bytes) new text more h front =
    rw front.2 (
      drop front.0 more,
      append_assoc bytes (take front.0 more) (drop front.0 more) ∙ ap (λ xs. bytes ++ xs) (take-append-drop front.0 more)
          ∙ ap (λ xs. xs ++ more) h,
    )

-- a front of a front
front_within : (written : Option (List ℕ)) (text whole : List ℕ) → IsFront text whole → IfSome written (λ bytes. IsFront bytes text)
    → IfSome written (λ bytes. IsFront bytes whole)
front_within None text whole within h = tt
front_within (Some bytes) text whole within h =
    (h.0 ++ within.0, sym (append_assoc bytes h.0 within.0) ∙ ap (λ front. front ++ within.0) h.1 ∙ within.1)

front_in : (written : Option (List ℕ)) (text whole : List ℕ) → IsFront text whole → IfSome written (λ bytes. bytes ≡ text)
    → IfSome written (λ bytes. IsFront bytes whole)
front_in None text whole within h = tt
front_in (Some bytes) text whole within h = (within.0, ap (λ front. front ++ within.0) h ∙ within.1)

module _ (which : Output) (name : List ℕ) (old new : DeskView) where
  -- what was written of a text was written of a longer one
  stopped_within : (text whole : List ℕ) (error : TextsError) → IsFront text whole → HasStopped which name text old new error
      → HasStopped which name whole old new error
  stopped_within text whole error within h = record {
    only = h.only;
    cause = h.cause;
    calls = h.calls;
    front = λ begun. record {
      named = (h.front begun).named;
      written = front_within (new.outputs which).written text whole within (h.front begun).written;
    };
  }

  stops_one : (text : List ℕ) (error : TextsError) → HasStopped which name text old new error
      → StopsTexts (one_text which name text) old new error
  stops_one text (faults.WriteFault output) h =
      subst (λ (output : Output). OutputFaultsRose old new output × CutsAt output (one_text which name text) old new) (sym h.cause.0)
      (h.cause.1, cut_one which name text old new h.only h.front)
  stops_one text faults.NoMemory h = (which, cut_one which name text old new h.only h.front)

  -- the same told of the longer text
  pub stops_within : (text whole : List ℕ) (error : TextsError) → IsFront text whole → HasStopped which name text old new error
      → StopsTexts (one_text which name whole) old new error
  stops_within text whole error within h = stops_one whole error (stopped_within text whole error within h)

  pub writes_one : {T : Type 0} (text : List ℕ) (result : Result T TextsError) → Writes which name text old new result
      → WritesTexts (one_text which name text) old new result
  writes_one text (Ok x) h = wrote_one which name text old new h.only h.whole
  writes_one text (Err error) h = stops_one text error h

  -- the lines up to an index
  module _ (lines : List (List ℕ)) (k : ℕ) where
    front_of_lines : IsFront (joined (take k lines)) (joined lines)
    front_of_lines = (
      joined (drop k lines),
      sym (flat_map-append (λ (line : List ℕ). line) (take k lines) (drop k lines)) ∙ ap joined (take-append-drop k lines),
    )

    pub all_lines : length lines ≤ k → HasWritten which name (joined (take k lines)) old new → HasWritten which name (joined lines) old new
    all_lines le h = subst (λ (text : List ℕ). HasWritten which name text old new) (ap joined (take_all k lines le)) h

    -- behind which memory ran out
    pub lines_stop : HasWritten which name (joined (take k lines)) old new
        → StopsTexts (one_text which name (joined lines)) old new faults.NoMemory
    lines_stop h = (
      which,
      cut_one which name (joined lines) old new h.only (λ begun. record {
        named = h.whole.named;
        written = front_in (new.outputs which).written (joined (take k lines)) (joined lines) front_of_lines h.whole.written;
      }),
    )

  -- and the next
  module _ (lines : List (List ℕ)) (k : ℕ) (line : List ℕ) (at : slice_get lines k ≡ Some line) where
    line_more : joined (take k lines) ++ line ≡ joined (take (k + 1) lines)
    line_more =
        sym (ap joined (take_more lines k line (slice_get_within lines k line at)
        ∙ ap (λ y. take k lines ++ y ∷ []) (get_or_from_slice_get lines k line line at))
        ∙ flat_map-append (λ (l : List ℕ). l) (take k lines) (line ∷ [])
        ∙ ap (λ l. joined (take k lines) ++ l) (append-nil line))

    pub next_line : HasWritten which name (joined (take k lines) ++ line) old new
        → HasWritten which name (joined (take (k + 1) lines)) old new
    next_line h = subst (λ (text : List ℕ). HasWritten which name text old new) line_more h

    pub line_stops : (error : TextsError) → HasStopped which name (joined (take k lines) ++ line) old new error
        → StopsTexts (one_text which name (joined lines)) old new error
    line_stops error h =
        stops_within (joined (take k lines) ++ line) (joined lines) error
        (subst (λ (text : List ℕ). IsFront text (joined lines)) (sym line_more) (front_of_lines lines (k + 1))) h

-- an output that is not begun
pub front_of_none : (output : OutputView) (name text : List ℕ) → output.begun ≡ false → HoldsFront output name text
front_of_none output name text not_begun = λ begun. absurd (true≢false (sym begun ∙ not_begun))

pub never_begun : (which : Output) (name : List ℕ) (desk : DeskView) → (desk.outputs which).begun ≡ false
    → HasStopped which name [] desk desk faults.NoMemory
never_begun which name desk not_begun = record {
  only = record { held = λ name. refl; inputs = λ other. refl; outputs = λ other not_it. refl };
  cause = tt;
  calls = λ asked given. no_call;
  front = front_of_none (desk.outputs which) name [] not_begun;
}
