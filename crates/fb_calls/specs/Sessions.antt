-- The sessions that a script has opened.
use Rattle.std.specs.Prelude.{ℕ, List, [], ◌∷◌, ◌++◌, true, false, Option, position, set}
use Rattle.std.specs.List.{slice_index_or}
use Rattle.std.specs.Str.{bytes_eq}
use Rattle.fb_script.specs.declared.call.Kind.TheVariants.{Plain}
use Rattle.fb_script.specs.declared.call.Action.{Action}
use Rattle.fb_script.specs.declared.call.Action.TheVariants.{Open, Want, Close}
use Rattle.fb_calls.specs.declared.opened_task.OpenedTask.{OpenedTask}

-- the number of the task with this name, from 0 in order of opening
abbrev pub task_of : List (List ℕ) → List ℕ → Option ℕ
task_of names name = position (bytes_eq name) names

-- the session of a task
abbrev pub session_of : List OpenedTask → ℕ → OpenedTask
session_of sessions task = slice_index_or sessions task (record { kind = Plain; block = 1; wanted = false; closed = false })

-- the names after an action: an open adds one
abbrev pub names_after : List (List ℕ) → List ℕ → Action → List (List ℕ)
names_after names name (Open kind weight block) = names ++ name ∷ []
names_after names name _ = names

-- the sessions after an action: an open adds one, and a want and a close are noted in that of the task
abbrev pub sessions_after : List OpenedTask → ℕ → Action → List OpenedTask
sessions_after sessions task (Open kind weight block) =
    sessions ++ record { kind = kind; block = block; wanted = false; closed = false } ∷ []
sessions_after sessions task (Want first count) = set sessions task (record (session_of sessions task) { wanted = true })
sessions_after sessions task Close = set sessions task (record (session_of sessions task) { closed = true })
sessions_after sessions task _ = sessions
