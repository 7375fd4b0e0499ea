-- The line that says why there is no report.
use Rattle.std.specs.Prelude.{ℕ, List, [], ◌∷◌, ◌++◌, decimal, codes}
use Rattle.fb_units.specs.declared.types.Place.{Place}
use Rattle.fb_geometry.specs.declared.fault.GeometryFault.{GeometryFault}
use Rattle.fb_geometry.specs.declared.fault.GeometryFault.TheVariants as geometry
use Rattle.fb_seek.specs.declared.fault.SeekFault.{SeekFault}
use Rattle.fb_seek.specs.declared.fault.SeekFault.TheVariants as seek
use Rattle.fb_params.specs.declared.fault.ParamsFault.{ParamsFault}
use Rattle.fb_params.specs.declared.fault.ParamsFault.TheVariants as params
use Rattle.fb_trace.specs.declared.trace.TraceReason.{TraceReason}
use Rattle.fb_trace.specs.declared.trace.TraceReason.TheVariants as trace
use Rattle.fb_calls.specs.declared.fault.CallsReason.{CallsReason}
use Rattle.fb_calls.specs.declared.fault.CallsReason.TheVariants as calls
use Rattle.fb_puts.specs.declared.fault.PutsReason.{PutsReason}
use Rattle.fb_puts.specs.declared.fault.PutsReason.TheVariants as puts
use Rattle.fb_report.specs.Lines.{track_text}
use Rattle.fb_words.specs.declared.fault.UsageReason.{UsageReason}
use Rattle.fb_words.specs.declared.fault.UsageReason.TheVariants as usage
use Rattle.fb_desk.specs.declared.desk.Input.{Input}
use Rattle.fb_desk.specs.declared.desk.Input.TheVariants as inputs
use Rattle.fb_desk.specs.declared.desk.Output.{Output}
use Rattle.fb_desk.specs.declared.desk.Output.TheVariants as outputs
use Rattle.fb_top.specs.declared.outcome.Outcome.{Outcome}
use Rattle.fb_top.specs.declared.outcome.Outcome.TheVariants as outcomes
use Rattle.fb_top.specs.Verdicts.{report_word}

-- a reason's name and, after a space, the value that it carries
abbrev pub valued : List ℕ → List ℕ → List ℕ
valued name value = name ++ 32 ∷ value

-- track, point, slot
abbrev pub place_text : Place → List ℕ
place_text place = track_text place.track ++ 46 ∷ decimal place.slot

-- why a word is refused
abbrev pub usage_reason : UsageReason → List ℕ
usage_reason usage.NoCommand = codes "NoCommand"
usage_reason usage.UnknownCommand = codes "UnknownCommand"
usage_reason usage.UnknownOption = codes "UnknownOption"
usage_reason usage.NoValue = codes "NoValue"
usage_reason usage.OptionTwice = codes "OptionTwice"
usage_reason usage.BadValue = codes "BadValue"
usage_reason (usage.MissingOption number) = valued (codes "MissingOption") (decimal number)
usage_reason usage.CallsAndBack = codes "CallsAndBack"
usage_reason usage.PutsAndSpill = codes "PutsAndSpill"
usage_reason usage.RebuildIncomplete = codes "RebuildIncomplete"
usage_reason usage.RebuildBeyond = codes "RebuildBeyond"

-- why a line of a trace is refused
abbrev pub trace_reason : TraceReason → List ℕ
trace_reason trace.TooFewFields = codes "TooFewFields"
trace_reason trace.BadTime = codes "BadTime"
trace_reason (trace.BadNumber field) = valued (codes "BadNumber") (decimal field)
trace_reason trace.OutOfOrder = codes "OutOfOrder"
trace_reason trace.Empty = codes "Empty"
trace_reason trace.TooLarge = codes "TooLarge"
trace_reason trace.BeyondDisk = codes "BeyondDisk"
trace_reason trace.TooMany = codes "TooMany"

-- why a line of a script is refused
abbrev pub calls_reason : CallsReason → List ℕ
calls_reason calls.BadLine = codes "BadLine"
calls_reason calls.BadTime = codes "BadTime"
calls_reason (calls.BadNumber field) = valued (codes "BadNumber") (decimal field)
calls_reason calls.OutOfOrder = codes "OutOfOrder"
calls_reason calls.UnknownVerb = codes "UnknownVerb"
calls_reason calls.UnknownKind = codes "UnknownKind"
calls_reason calls.TaskTaken = codes "TaskTaken"
calls_reason calls.UnknownTask = codes "UnknownTask"
calls_reason calls.Closed = codes "Closed"
calls_reason calls.WrongKind = codes "WrongKind"
calls_reason calls.WantedTwice = codes "WantedTwice"
calls_reason calls.Empty = codes "Empty"
calls_reason calls.BeyondDisk = codes "BeyondDisk"
calls_reason calls.TooLarge = codes "TooLarge"
calls_reason calls.WeightOutOfRange = codes "WeightOutOfRange"
calls_reason calls.BlockOutOfRange = codes "BlockOutOfRange"
calls_reason calls.TooManyBlocks = codes "TooManyBlocks"
calls_reason calls.TooMany = codes "TooMany"

-- why a line of a puts file is refused
abbrev pub puts_reason : PutsReason → List ℕ
puts_reason puts.BadLine = codes "BadLine"
puts_reason puts.BadTime = codes "BadTime"
puts_reason (puts.BadNumber field) = valued (codes "BadNumber") (decimal field)
puts_reason puts.OutOfOrder = codes "OutOfOrder"
puts_reason puts.Empty = codes "Empty"
puts_reason puts.BeyondDisk = codes "BeyondDisk"
puts_reason puts.TooLarge = codes "TooLarge"
puts_reason puts.Touched = codes "Touched"
puts_reason puts.OutsideReserve = codes "OutsideReserve"
puts_reason puts.PutTwice = codes "PutTwice"
puts_reason puts.TooMany = codes "TooMany"

-- why no disk has this geometry
abbrev pub geometry_fault : GeometryFault → List ℕ
geometry_fault geometry.OutOfRange = codes "OutOfRange"
geometry_fault (geometry.ZonesNotContiguous index) = valued (codes "ZonesNotContiguous") (decimal index)
geometry_fault (geometry.SkewTooLarge index) = valued (codes "SkewTooLarge") (decimal index)
geometry_fault (geometry.DefectOutside place) = valued (codes "DefectOutside") (place_text place)
geometry_fault (geometry.DefectTwice place) = valued (codes "DefectTwice") (place_text place)
geometry_fault (geometry.TooManyDefects track) = valued (codes "TooManyDefects") (track_text track)
geometry_fault (geometry.GrownOutside place) = valued (codes "GrownOutside") (place_text place)
geometry_fault (geometry.GrownTwice place) = valued (codes "GrownTwice") (place_text place)
geometry_fault (geometry.TooManyInCylinder cylinder) = valued (codes "TooManyInCylinder") (decimal cylinder)

-- why a seek table is refused
abbrev pub seek_fault : SeekFault → List ℕ
seek_fault seek.NoPoints = codes "NoPoints"
seek_fault seek.FirstNotOne = codes "FirstNotOne"
seek_fault (seek.DistanceNotRising index) = valued (codes "DistanceNotRising") (decimal index)
seek_fault (seek.TimeFalls index) = valued (codes "TimeFalls") (decimal index)
seek_fault seek.TooShort = codes "TooShort"
seek_fault seek.OutOfRange = codes "OutOfRange"

-- why a parameter file is refused
abbrev pub params_fault : ParamsFault → List ℕ
params_fault params.NotToml = codes "NotToml"
params_fault (params.UnknownKey key) = valued (codes "UnknownKey") key
params_fault (params.MissingKey key) = valued (codes "MissingKey") key
params_fault (params.WrongKind key) = valued (codes "WrongKind") key
params_fault (params.OutOfRange key) = valued (codes "OutOfRange") key
params_fault (params.Geometry fault) = valued (codes "Geometry") (geometry_fault fault)
params_fault (params.Seek fault) = valued (codes "Seek") (seek_fault fault)
params_fault (params.LatentOutside lbn) = valued (codes "LatentOutside") (decimal lbn)

-- what an input is called
abbrev pub input_text : Input → List ℕ
input_text inputs.Params = codes "params"
input_text inputs.Trace = codes "trace"
input_text inputs.Calls = codes "calls"
input_text inputs.Puts = codes "puts"
input_text inputs.ForeReport = codes "fore report"
input_text inputs.BackReport = codes "back report"

-- what an output is called
abbrev pub output_text : Output → List ℕ
output_text outputs.Fore = codes "fore"
output_text outputs.Back = codes "back"
output_text outputs.Spill = codes "spill"
output_text outputs.Note = codes "note"
output_text outputs.MadeTrace = codes "trace"
output_text outputs.MadeCalls = codes "calls"
output_text outputs.Copied = codes "copy"

-- which word or line it is
abbrev pub numbered : List ℕ → ℕ → List ℕ
numbered what number = what ++ decimal number ++ codes ": "

-- why a command failed
abbrev pub cause_text : Outcome → List ℕ
cause_text (outcomes.Done run) = []
cause_text (outcomes.Made n) = []
cause_text (outcomes.Checked verdict) = []
cause_text (outcomes.Arrayed runs copy) = []
cause_text (outcomes.Spilled run spill) = []
cause_text (outcomes.Usage fault) = numbered (codes "usage: word ") fault.place ++ usage_reason fault.reason
cause_text (outcomes.Params fault) = codes "params: " ++ params_fault fault
cause_text (outcomes.Trace fault) = numbered (codes "trace: line ") fault.line ++ trace_reason fault.reason
cause_text (outcomes.Calls fault) = numbered (codes "calls: line ") fault.line ++ calls_reason fault.reason
cause_text (outcomes.Puts fault) = numbered (codes "puts: line ") fault.line ++ puts_reason fault.reason
cause_text (outcomes.Reports fault) = codes "reports: " ++ report_word fault.input ++ codes " line " ++ decimal fault.line
cause_text (outcomes.TooLong input) = codes "too long: " ++ input_text input
cause_text (outcomes.ReadFault input) = codes "read fault: " ++ input_text input
cause_text (outcomes.WriteFault output) = codes "write fault: " ++ output_text output
cause_text outcomes.NoMemory = codes "no memory"

-- a line that names the program first
abbrev pub note_line : List ℕ → List ℕ
note_line words = codes "freeblock: " ++ words ++ 10 ∷ []

-- the note of an outcome, empty where the command was done
abbrev pub note_of : Outcome → List ℕ
note_of (outcomes.Done run) = []
note_of (outcomes.Made n) = []
note_of (outcomes.Checked verdict) = []
note_of (outcomes.Arrayed runs copy) = []
note_of (outcomes.Spilled run spill) = []
note_of outcome = note_line (cause_text outcome)
