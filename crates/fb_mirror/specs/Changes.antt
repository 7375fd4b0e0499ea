-- Events as changes of single runs.
use Rattle.std.specs.Prelude.{List, map}
use Rattle.std.specs.List.{flat_map}
use Rattle.fb_mirror.specs.declared.changes.Change.{Change}
use Rattle.fb_mirror.specs.Replacement.{Event}

-- the changes of an event, one for each of its runs
abbrev pub changes_in : Event → List Change
changes_in event = map (λ run. record { instant = event.instant; run = run }) event.contents

-- the changes of events
abbrev pub changes_of : List Event → List Change
changes_of events = flat_map changes_in events
