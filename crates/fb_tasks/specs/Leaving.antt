-- What a call leaves that ran out of memory.
use Rattle.std.specs.Prelude.{◌≡◌, ℕ, List, ◌++◌, Bool, false, Some, length, map, drop, slice_get}
use Rattle.fb_geometry.specs.Shape.{Shape}
use Rattle.fb_script.specs.declared.call.Call.{Call}
use Rattle.fb_script.specs.declared.call.Kind.{Kind}
use Rattle.fb_wanted.specs.declared.block.Entry.{Entry}
use Rattle.fb_rows.specs.declared.back.BackRow.{BackRow}
use Rattle.fb_model.specs.History.{Past, registered}
use Rattle.fb_model.specs.Segments.{with_choices}
use Rattle.fb_model.specs.Steps.{blocks_by, take_call}
use Rattle.fb_tasks.specs.declared.session.Session.{Session}
use Rattle.fb_tasks.specs.Standing.{entry_of}
use Rattle.fb_tasks.specs.Taken.{segment_rows_found}

-- what stood still stands, as it was, and at most more follows it
pub record HasGrown {A : Type 0} (old new : List A) : Type 0 where
  pub added : List A
  pub is : new ≡ old ++ added

-- what stood still stands, as it was, and at most the first of what was due follow it
pub record HasBegun {A : Type 0} (old due new : List A) : Type 0 where
  pub added : List A
  pub left : List A
  pub is : new ≡ old ++ added
  pub first : due ≡ added ++ left

-- the blocks that a call registers, in their states
abbrev pub entries_by : Shape → Past → Call → List Entry
entries_by disk past call = map (entry_of (take_call disk past call)) (blocks_by disk past call.task call.action)

-- the registered blocks, in their states
abbrev pub entries_after : Past → List Entry
entries_after past = map (entry_of past) (registered past)

-- the blocks that the choices of segments register, in their states
abbrev pub entries_chosen : Shape → Past → List Entry
entries_chosen disk past = drop (length (registered past)) (entries_after (with_choices disk past))

-- choices up to a later history were begun: blocks and rows are those that stood and at most the first of what these choices add
pub record HasBegunUpTo (past new : Past) (task now : ℕ) (was held : List Entry) (old more : List BackRow) : Type 0 where
  pub blocks : HasGrown was held × HasGrown held (entries_after new)
  pub rows : (before : List BackRow) → old ≡ before ++ segment_rows_found past now task
      → HasGrown old more × HasGrown more (before ++ segment_rows_found new now task)

-- what calls alone make of a session: its terms, and whether it is suspended and closed
abbrev pub by_calls : Session → Kind × ℕ × ℕ × Bool × Bool
by_calls session = (session.kind, session.weight, session.block, session.suspended, session.closed)

-- nothing that calls make of a session has changed, and nothing at all of one that was not touched since then
pub record OnlyTouched (old new : List Session) : Type 0 where
  pub calls : map by_calls new ≡ map by_calls old
  pub untouched : (task : ℕ) (session : Session) → slice_get old task ≡ Some session → session.touched ≡ false
      → slice_get new task ≡ Some session
