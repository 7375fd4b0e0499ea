-- What a make wrote, told of the desk at the start.
use Rattle.fb_top.proofs.Words.{◌≡◌, ℕ, ◌<◌, length, subst, sym, ap, ◌∙◌, inl, inr, Some, slice_get, range_with_len}
use Rattle.fb_top.proofs.Words.{length-map-range_with_len, slice_get-map, option_map, request_at, line_of, made_lines, DeskView, Params}
use Rattle.fb_top.proofs.Words.{MakeTerms, AcceptsDisk, StopsDisk, TextsError, StopsTexts, WritesAll, stops_texts, writes_all}
use Rattle.fb_top.proofs.Words.{KeepsOutputs, unwritten, unread, MakeHasCause, make_texts, counted, InputsError}
use Rattle.std.proofs.lemmas.List.{length-map}
use Rattle.fb_maker.specs.Trace.{made_requests}
use Rattle.fb_desk.specs.Calls.{ChangesInput}
use Rattle.fb_inputs.specs.Causes.{StopsReading}
use Rattle.fb_texts.specs.declared.error.TextsError.TheVariants as faults
use Rattle.fb_top.specs.Make.{IsMakeCut}
use Rattle.fb_inputs.specs.declared.error.InputsError.TheVariants as inputs

-- why the parameter file was not read
unread_stopped : (terms : MakeTerms) (old new : DeskView) (error : InputsError) → KeepsOutputs old new
    → StopsReading Params terms.params old new error → MakeHasCause terms old new (unread error)
unread_stopped terms old new (inputs.TooLong Params) keeps h = (h.1, keeps)
unread_stopped terms old new (inputs.ReadFault Params) keeps h = (h.1, keeps)
unread_stopped terms old new inputs.NoMemory keeps h = inl keeps
unread_stopped terms old new (inputs.TooLong input) keeps h = absurd (let other = h.0 in cc)
unread_stopped terms old new (inputs.ReadFault input) keeps h = absurd (let other = h.0 in cc)
unread_stopped terms old new _ keeps h = absurd h

-- or was refused
pub disk_stopped : (terms : MakeTerms) (old new : DeskView) (error : InputsError) → ChangesInput Params old new
    → StopsDisk terms.params old new error → MakeHasCause terms old new (unread error)
disk_stopped terms old new error only (inl h) =
    subst (λ (e : InputsError). MakeHasCause terms old new (unread e)) (sym h.1) (h.2, only.outputs)
disk_stopped terms old new error only (inr h) = unread_stopped terms old new error only.outputs h

-- the parameter file was read, and then the texts were written
module _ (terms : MakeTerms) (old mid new : DeskView) (makes : AcceptsDisk old terms.params) (only : ChangesInput Params old mid) where
  pub wrote_both : WritesAll (make_texts terms makes.disk) mid new → WritesAll (make_texts terms makes.disk) old new
  wrote_both wrote = writes_all old mid new only.outputs (make_texts terms makes.disk) wrote

  make_cut : (error : TextsError) → StopsTexts (make_texts terms makes.disk) mid new error → IsMakeCut old new terms error
  make_cut error h = record { makes = makes; stops = stops_texts old mid new only.outputs (make_texts terms makes.disk) error h }

  -- or not all
  pub make_stopped : (error : TextsError) → StopsTexts (make_texts terms makes.disk) mid new error
      → MakeHasCause terms old new (unwritten error)
  make_stopped (faults.WriteFault output) h = make_cut (faults.WriteFault output) h
  make_stopped faults.NoMemory h = inr (make_cut faults.NoMemory h)

-- the i-th line of a made trace
pub line_at : (number device sectors n i : ℕ) → i < n
    → slice_get (made_lines number device sectors n) i ≡ Some (line_of device (request_at number sectors i))
line_at number device sectors n i inside =
    slice_get-map (line_of device) (made_requests number sectors n) i
    ∙ ap (option_map (line_of device))
    (slice_get-map (request_at number sectors) (range_with_len 0 n) i ∙ ap (option_map (request_at number sectors)) (counted n i inside))

pub lines_counted : (number device sectors n : ℕ) → length (made_lines number device sectors n) ≡ n
lines_counted number device sectors n =
    length-map (made_requests number sectors n) (line_of device) ∙ length-map-range_with_len (request_at number sectors) 0 n
