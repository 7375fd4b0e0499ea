-- The values of the fields of a line.
use Rattle.std.specs.Prelude.{ℕ, List, [], ◌∷◌, length, Bool, true, not, ◌&&◌, ◌==◌, Option, Some, None, Result, Ok, Err}
use Rattle.fb_units.specs.Judging.{◌>>=◌, ◌>>◌, or_refuse, refuse}
use Rattle.fb_units.specs.Numbers.{millis_of, number_of}
use Rattle.fb_script.specs.declared.call.Action.{Action}
use Rattle.fb_script.specs.declared.call.Action.TheVariants.{Open, Want, Abort, Promote, Suspend, Resume, Close, Segment}
use Rattle.fb_calls.specs.declared.fault.CallsReason.{CallsReason}
use Rattle.fb_calls.specs.declared.fault.CallsReason.TheVariants.{BadLine, BadTime, BadNumber, UnknownVerb, UnknownKind}
use Rattle.fb_calls.specs.declared.words.Verb.{Verb}
use Rattle.fb_calls.specs.declared.words.Verb.TheVariants.{Open as OpenVerb, Want as WantVerb, Abort as AbortVerb, Promote as PromoteVerb}
use Rattle.fb_calls.specs.declared.words.Verb.TheVariants.{Suspend as SuspendVerb, Resume as ResumeVerb, Close as CloseVerb}
use Rattle.fb_calls.specs.declared.words.Verb.TheVariants.{Segment as SegmentVerb}
use Rattle.fb_calls.specs.Live.{live_of}
use Rattle.fb_script.specs.Names.{is_name}
use Rattle.fb_calls.specs.Words.{verb_of, kind_of, fields_behind}

-- the values of a line: an instant, the name of a task, and what is asked for, or that the verb or the kind is unknown
pub record Entry : Type 0 where
  pub instant : ℕ
  pub name : List ℕ
  pub asked : Result Action CallsReason

-- the number in a field; fields are counted from 1
abbrev pub number : ℕ → List ℕ → Result ℕ CallsReason
number field text = or_refuse (BadNumber field) (number_of text)

-- the first sector of a range and the number of its sectors
abbrev pub range_of : List (List ℕ) → Result (ℕ × ℕ) CallsReason
range_of (first_text ∷ count_text ∷ []) = do
  first ← number 4 first_text
  count ← number 5 count_text
  Ok (first, count)
range_of _ = Err BadLine

-- what a verb asks for with the fields that follow the name of the task
unfoldable pub asked_by : Option Verb → List (List ℕ) → Result (Result Action CallsReason) CallsReason
asked_by None more = Ok (Err UnknownVerb)
asked_by (Some OpenVerb) (kind ∷ weight_text ∷ block_text ∷ []) = do
  weight ← number 5 weight_text
  block ← number 6 block_text
  Ok (or_refuse UnknownKind (kind_of kind) >>= (λ kind. Ok (Open kind weight block)))
asked_by (Some WantVerb) more = range_of more >>= (λ range. Ok (Ok (Want range.0 range.1)))
asked_by (Some AbortVerb) more = range_of more >>= (λ range. Ok (Ok (Abort range.0 range.1)))
asked_by (Some PromoteVerb) more = range_of more >>= (λ range. Ok (Ok (Promote range.0 range.1)))
asked_by (Some SuspendVerb) [] = Ok (Ok Suspend)
asked_by (Some ResumeVerb) [] = Ok (Ok Resume)
asked_by (Some CloseVerb) [] = Ok (Ok Close)
asked_by (Some SegmentVerb) (first_text ∷ blocks_text ∷ age_text ∷ live_text ∷ []) = do
  first ← number 4 first_text
  blocks ← number 5 blocks_text
  age ← number 6 age_text
  live ← or_refuse (BadNumber 7) (live_of blocks live_text)
  Ok (Ok (Segment first blocks age live))
asked_by _ _ = Err BadLine

-- a known verb is followed by its number of fields; an unknown one may have any
abbrev pub has_its_fields : Option Verb → ℕ → Bool
has_its_fields None fields = true
has_its_fields (Some verb) fields = fields == fields_behind verb

-- the values of a time, a verb, the name of a task and what the verb asks for, or the first reason why they have none
unfoldable pub entry_of : List (List ℕ) → Result Entry CallsReason
entry_of (time ∷ verb ∷ name ∷ more) = do
  refuse BadLine (not (has_its_fields (verb_of verb) (length more) && is_name name))
  instant ← or_refuse BadTime (millis_of time)
  asked ← asked_by (verb_of verb) more
  Ok (record { instant = instant; name = name; asked = asked })
entry_of _ = Err BadLine
