-- The command that the words of a command line give.
use Rattle.std.specs.Prelude.{ℕ, List, [], ◌∷◌, length, Bool, not, ◌&&◌, ◌||◌, nat_le, false, Option, Some, None, Result, Ok, Err, is_some}
use Rattle.std.specs.Prelude.{unwrap_or, option_and_then}
use Rattle.std.specs.Option.{option_map}
use Rattle.fb_report.specs.declared.bytes.Bytes.{Bytes}
use Rattle.fb_report.specs.declared.bytes.Bytes.TheVariants.{Nothing}
use Rattle.fb_units.specs.Judging.{◌>>=◌, ◌>>◌, or_refuse, refuse, refused_as}
use Rattle.fb_words.specs.declared.command.Policy.{Policy}
use Rattle.fb_words.specs.declared.fault.UsageFault.{UsageFault}
use Rattle.fb_words.specs.declared.fault.UsageReason.{UsageReason}
use Rattle.fb_words.specs.declared.fault.UsageReason.TheVariants.{NoCommand, UnknownCommand, MissingOption, CallsAndBack, PutsAndSpill}
use Rattle.fb_words.specs.declared.fault.UsageReason.TheVariants.{RebuildIncomplete, RebuildBeyond}
use Rattle.fb_words.specs.declared.names.Verb.{Verb}
use Rattle.fb_words.specs.declared.names.Verb.TheVariants.{Replay, Make, Check, Array}
use Rattle.fb_words.specs.Names.{verb_of}
use Rattle.fb_words.specs.Options.{Options, no_options}
use Rattle.fb_words.specs.Reading.{ready, fault_at, options_from}

-- the options of a replay
pub record ReplayTerms : Type 0 where
  pub params : List ℕ
  pub trace : List ℕ
  pub policy : Policy
  pub calls : Option (List ℕ)
  pub back : Option (List ℕ)
  pub puts : Option (List ℕ)
  pub spill : Option (List ℕ)
  pub until : ℕ
  pub device : ℕ
  pub bytes : Bytes
  pub summary : Bool

-- the options for generating a trace and a call script
pub record MakeTerms : Type 0 where
  pub params : List ℕ
  pub trace : List ℕ
  pub calls : List ℕ
  pub number : ℕ
  pub requests : ℕ
  pub device : ℕ

-- the options for judging a foreground and a background report
pub record CheckTerms : Type 0 where
  pub params : List ℕ
  pub trace : List ℕ
  pub policy : Policy
  pub calls : List ℕ
  pub fore : List ℕ
  pub back : List ℕ
  pub until : ℕ
  pub device : ℕ
  pub bytes : Bytes

-- the options for rebuilding the replacement of a lost disk: the device to rebuild from, its background report, and the text of the
-- replacement
pub record RebuildTerms : Type 0 where
  pub device : ℕ
  pub back : List ℕ
  pub copy : List ℕ

-- the options for replaying the trace of several devices
pub record ArrayTerms : Type 0 where
  pub params : List ℕ
  pub trace : List ℕ
  pub policy : Policy
  pub devices : ℕ
  pub rebuild : Option RebuildTerms
  pub until : ℕ
  pub bytes : Bytes

-- a command: a replay, generating a trace and a script, judging two reports, or a replay of several devices
pub data Terms : Type 0 where
  replays : ReplayTerms → Terms
  makes : MakeTerms → Terms
  checks : CheckTerms → Terms
  arrays : ArrayTerms → Terms

-- both options are given, or neither is
abbrev pub go_together : {A B : Type 0} → Option A → Option B → Bool
go_together one other = (is_some one && is_some other) || not (is_some one || is_some other)

-- a replay with these options: the required ones, and the defaults of the others
unfoldable pub replay_of : Options → Result ReplayTerms UsageReason
replay_of given = do
  params ← or_refuse (MissingOption 0) given.params
  trace ← or_refuse (MissingOption 1) given.trace
  policy ← or_refuse (MissingOption 2) given.policy
  refuse CallsAndBack (not (go_together given.calls given.back))
  refuse PutsAndSpill (not (go_together given.puts given.spill))
  Ok (record {
    params = params;
    trace = trace;
    policy = policy;
    calls = given.calls;
    back = given.back;
    puts = given.puts;
    spill = given.spill;
    until = unwrap_or given.until 0;
    device = unwrap_or given.device 0;
    bytes = unwrap_or given.bytes Nothing;
    summary = given.summary;
  })

-- the generation of a trace and a script with these options: the required ones, and device 0 by default
unfoldable pub make_of : Options → Result MakeTerms UsageReason
make_of given = do
  params ← or_refuse (MissingOption 0) given.params
  trace ← or_refuse (MissingOption 1) given.trace
  calls ← or_refuse (MissingOption 2) given.calls
  number ← or_refuse (MissingOption 3) given.number
  requests ← or_refuse (MissingOption 4) given.requests
  Ok (record { params = params; trace = trace; calls = calls; number = number; requests = requests; device = unwrap_or given.device 0 })

-- the judging of two reports with these options: the required ones, and the defaults of the others
unfoldable pub check_of : Options → Result CheckTerms UsageReason
check_of given = do
  params ← or_refuse (MissingOption 0) given.params
  trace ← or_refuse (MissingOption 1) given.trace
  policy ← or_refuse (MissingOption 2) given.policy
  calls ← or_refuse (MissingOption 3) given.calls
  fore ← or_refuse (MissingOption 4) given.fore
  back ← or_refuse (MissingOption 5) given.back
  Ok (record {
    params = params;
    trace = trace;
    policy = policy;
    calls = calls;
    fore = fore;
    back = back;
    until = unwrap_or given.until 0;
    device = unwrap_or given.device 0;
    bytes = unwrap_or given.bytes Nothing;
  })

-- some of the three options of a rebuild are given, but not all
abbrev pub rebuild_incomplete : Options → Bool
rebuild_incomplete given = (is_some given.rebuild || is_some given.back || is_some given.copy)
    && not (is_some given.rebuild && is_some given.back && is_some given.copy)

-- a device to rebuild from is given, and isn't below the number of devices
abbrev pub rebuild_beyond : ℕ → Option ℕ → Bool
rebuild_beyond devices None = false
rebuild_beyond devices (Some device) = nat_le devices device

-- the rebuild of a device with a background report and a copy, if all three are given
abbrev pub rebuild_with : Option ℕ → Option (List ℕ) → Option (List ℕ) → Option RebuildTerms
rebuild_with device back copy =
    option_and_then (λ d. option_and_then (λ b. option_map (λ c. record { device = d; back = b; copy = c }) copy) back) device

-- the rebuild of an array of so many devices, if its options are given
unfoldable pub rebuild_of : ℕ → Options → Result (Option RebuildTerms) UsageReason
rebuild_of devices given = do
  refuse RebuildIncomplete (rebuild_incomplete given)
  refuse RebuildBeyond (rebuild_beyond devices given.rebuild)
  Ok (rebuild_with given.rebuild given.back given.copy)

-- the replay of several devices with these options: the required ones, and the defaults of the others
unfoldable pub array_of : Options → Result ArrayTerms UsageReason
array_of given = do
  params ← or_refuse (MissingOption 0) given.params
  trace ← or_refuse (MissingOption 1) given.trace
  policy ← or_refuse (MissingOption 2) given.policy
  devices ← or_refuse (MissingOption 3) given.devices
  rebuild ← rebuild_of devices given
  Ok (record {
    params = params;
    trace = trace;
    policy = policy;
    devices = devices;
    rebuild = rebuild;
    until = unwrap_or given.until 0;
    bytes = unwrap_or given.bytes Nothing;
  })

-- the command with this verb and these options
unfoldable pub terms_of : Verb → Options → Result Terms UsageReason
terms_of Replay given = replay_of given >>= (λ terms. Ok (replays terms))
terms_of Make given = make_of given >>= (λ terms. Ok (makes terms))
terms_of Check given = check_of given >>= (λ terms. Ok (checks terms))
terms_of Array given = array_of given >>= (λ terms. Ok (arrays terms))

-- the verb is the word with index 1, and the options follow it; what is missing is missing at index `count`
unfoldable pub with_verb : ℕ → List ℕ → List (List ℕ) → Result Terms UsageFault
with_verb count name words = do
  verb ← refused_as (fault_at 1) (or_refuse UnknownCommand (verb_of name))
  given ← options_from verb 2 (ready no_options) words
  refused_as (fault_at count) (terms_of verb given)

-- the command that words give; the first word is the name of the program and isn't looked at
abbrev pub command_of : List (List ℕ) → Result Terms UsageFault
command_of [] = Err (fault_at 0 NoCommand)
command_of (program ∷ []) = Err (fault_at 1 NoCommand)
command_of (program ∷ name ∷ words) = with_verb (length (program ∷ name ∷ words)) name words
