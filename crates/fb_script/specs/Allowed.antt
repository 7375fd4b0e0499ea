-- What every script that was read obeys.
use Rattle.std.specs.Prelude.{◌≡◌, ℕ, ◌+◌, ◌*◌, ◌^◌, ◌<◌, ◌≤◌, List, [], ◌∷◌, ◌++◌, length, Bool, true, false, ◌&&◌, ◌==◌, map}
use Rattle.std.specs.List.{list_any, flat_map, slice_index_or}
use Rattle.fb_units.specs.Rising.{IsRising}
use Rattle.fb_geometry.specs.Shape.{Shape}
use Rattle.fb_geometry.specs.Places.{places}
use Rattle.fb_script.specs.declared.call.Action.{Action}
use Rattle.fb_script.specs.declared.call.Action.TheVariants.{Open, Want, Abort, Promote, Close, Segment}
use Rattle.fb_script.specs.declared.call.Call.{Call}
use Rattle.fb_script.specs.declared.call.Kind.{Kind}
use Rattle.fb_script.specs.declared.call.Kind.TheVariants.{Plain}
use Rattle.fb_script.specs.Blocks.{blocks_in}
use Rattle.fb_script.specs.Promoted.{promoted}
use Rattle.fb_script.specs.Sessions.{is_backup, is_clean}

-- what a task was opened with
pub record Terms : Type 0 where
  pub kind : Kind
  pub weight : ℕ
  pub block : ℕ

-- the terms of the task that an action opens, if it opens one
abbrev pub terms_in : Action → List Terms
terms_in (Open kind weight block) = record { kind = kind; weight = weight; block = block } ∷ []
terms_in _ = []

-- the tasks that calls open, in order
abbrev pub tasks : List Call → List Terms
tasks calls = flat_map (λ call. terms_in call.action) calls

-- the terms of a task by its number
abbrev pub terms_of : List Call → ℕ → Terms
terms_of calls task = slice_index_or (tasks calls) task (record { kind = Plain; weight = 1; block = 1 })

abbrev pub is_close : Action → Bool
is_close Close = true
is_close _ = false

-- one of the calls closes the task
abbrev pub is_closed : List Call → ℕ → Bool
is_closed calls task = list_any (λ call. (call.task == task) && is_close call.action) calls

abbrev pub is_want : Action → Bool
is_want (Want first count) = true
is_want _ = false

-- one of the calls wants a range for the task
abbrev pub has_want : List Call → ℕ → Bool
has_want calls task = list_any (λ call. (call.task == task) && is_want call.action) calls

-- the task is opened, and not closed
pub record IsOpen (before : List Call) (task : ℕ) : Type 0 where
  pub opened : task < length (tasks before)
  pub not_closed : is_closed before task ≡ false

-- n sectors from first on, at least one, all of them on the disk
pub record IsRange (disk : Shape) (first n : ℕ) : Type 0 where
  pub some : 0 < n
  pub inside : first + n ≤ length (places disk)

-- what a call may ask for after the calls before it
abbrev pub MayAsk : Shape → List Call → ℕ → Action → Type 0
MayAsk disk before task (Open kind weight block) =
    (task ≡ length (tasks before)) × (1 ≤ weight) × (weight ≤ 1000) × (1 ≤ block) × (block ≤ 2048)
MayAsk disk before task (Want first count) = IsOpen before task × (is_clean (terms_of before task).kind ≡ false)
    × (is_backup (terms_of before task).kind && has_want before task ≡ false) × IsRange disk first count
MayAsk disk before task (Abort first count) = IsOpen before task × (is_clean (terms_of before task).kind ≡ false) × IsRange disk first count
MayAsk disk before task (Promote first count) = IsOpen before task × IsRange disk first count × (count ≤ 2048)
MayAsk disk before task (Segment first blocks age live) = IsOpen before task × (is_clean (terms_of before task).kind ≡ true)
    × IsRange disk first (blocks * (terms_of before task).block) × (blocks ≤ 4096) × (age ≤ 10 ^ 15) × (length live ≡ blocks)
MayAsk disk before task _ = IsOpen before task

-- each call obeys these rules after the calls before it
abbrev pub AreAllowed : Shape → List Call → List Call → Type 0
AreAllowed disk before [] = Unit {0}
AreAllowed disk before (call ∷ calls) =
    (call.instant ≤ 10 ^ 15) × MayAsk disk before call.task call.action × AreAllowed disk (before ++ call ∷ []) calls

-- into how many blocks the ranges and live blocks of the calls are cut
abbrev pub blocks_from : Shape → List Call → List Call → ℕ
blocks_from disk before [] = 0
blocks_from disk before (call ∷ calls) =
    blocks_in disk (terms_of before call.task).block call.action + blocks_from disk (before ++ call ∷ []) calls

-- the calls of a script for a trace of this many requests
pub record IsScript (disk : Shape) (traced : ℕ) (calls : List Call) : Type 0 where
  pub instants : IsRising (map (λ call. call.instant) calls)
  pub allowed : AreAllowed disk [] calls
  pub few_calls : length calls < 2 ^ 32
  pub few_blocks : blocks_from disk [] calls ≤ 16 * 10 ^ 6
  pub few_reads : traced ≤ 10 ^ 6 → traced + length (promoted calls) ≤ 10 ^ 6
