-- A desk whose calls never fail.
use Rattle.std.specs.Prelude.{ℕ, List, [], is_some, unwrap_or, Option, Some, None}
use Rattle.fb_desk.specs.declared.desk.Input.{Input}
use Rattle.fb_desk.specs.declared.desk.Output.{Output}
use Rattle.fb_desk.specs.declared.honest.HonestDesk.{HonestDesk}
use Rattle.fb_desk.specs.Holdings.{NamedBytes}
use Rattle.fb_desk.specs.Each.{of_output}
use Rattle.fb_desk.specs.Holdings.{held_under, left_in}
use Rattle.fb_desk.specs.Silent.{silent_output}
use Rattle.fb_desk.specs.View.{InputView, OutputView, DeskView}

-- the bytes held under a name; an empty list if nothing is
abbrev pub held_or_empty : List NamedBytes → List ℕ → Option (List ℕ)
held_or_empty entries name = Some (unwrap_or (held_under entries name) [])

-- an input: its bytes are told, and its count of faults stays 0
abbrev pub honest_input : HonestDesk → Input → InputView
honest_input desk which = record { opened = is_some (left_in desk.holdings which); left = left_in desk.holdings which; faults = 0 }

-- an output: its name and bytes aren't told, and its count of faults stays 0
abbrev pub honest_output : HonestDesk → Output → OutputView
honest_output desk which = silent_output (of_output desk.begun which) 0

-- what such a desk shows: its calls aren't told
abbrev pub honest_view : HonestDesk → DeskView
honest_view desk = record { held = held_or_empty desk.holdings.entries; inputs = honest_input desk; outputs = honest_output desk; calls = None }
