-- The table of the tasks' names.
use Rattle.std.specs.Prelude.{◌≡◌, ℕ, List, Vec}
use Rattle.std.specs.declared.alloc.Global.{Global}
use Rattle.std.specs.BTreeMap.{BTreeMap, get_by}
use Rattle.std.specs.Cmp.Lexicographic.{slice_cmp}
use Rattle.std.specs.Ordering.{nat_cmp}
use Rattle.fb_calls.specs.Sessions.{task_of}

-- the table has for each name the number of its task, and no other name
abbrev pub AreNumbers : BTreeMap (Vec ℕ Global) ℕ → List (List ℕ) → Type 0
AreNumbers numbers names = (name : List ℕ) → get_by (λ key. slice_cmp nat_cmp name key.items) numbers ≡ task_of names name
