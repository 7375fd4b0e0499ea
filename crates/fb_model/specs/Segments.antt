-- The choice of segments, by benefit and cost (Rosenblum and Ousterhout, The Design and Implementation of a Log-Structured File System);
-- ties are this project's.
use Rattle.std.specs.Prelude.{ℕ, zero, suc, ◌+◌, ◌-◌, ◌*◌, List, [], ◌∷◌, length, Bool, ◌&&◌, not, nat_lt, filter, if◌then◌else◌}
use Rattle.std.specs.List.{list_any, fold, best_of}
use Rattle.fb_geometry.specs.Shape.{Shape}
use Rattle.fb_script.specs.Blocks.{live_cuts}
use Rattle.fb_script.specs.Sessions.{is_clean}
use Rattle.fb_sectormap.specs.declared.cut.Cut.{Cut}
use Rattle.fb_wanted.specs.declared.block.Block.{Block}
use Rattle.fb_model.specs.History.{chose, Past, LogSegment, terms_of, task_numbers, blocks_of}
use Rattle.fb_model.specs.Completion.{Choice, Work, work, segments, is_choice_of, is_closed, is_cleaned}

-- blocks for cut ranges, numbered from n on
abbrev pub numbered : ℕ → ℕ → ℕ → List Cut → List Block
numbered task weight n [] = []
numbered task weight n (cut ∷ cuts) =
    record { task = task; index = n; lbn = cut.lbn; count = cut.count; track = cut.track; weight = weight; sweep = cut.sweep }
    ∷ numbered task weight (n + 1) cuts

-- the next blocks of a task
abbrev pub next_blocks : Past → ℕ → List Cut → List Block
next_blocks past task cuts = numbered task (terms_of past task).weight (length (blocks_of past task)) cuts

-- how many blocks of a segment are live
abbrev pub live_count : LogSegment → ℕ
live_count segment = length (filter (λ live. live) segment.live)

-- a greater ratio of benefit to cost, (N - L) * age / (N + L), compared by cross products
abbrev pub is_better : LogSegment → LogSegment → Bool
is_better a b =
    nat_lt ((b.blocks - live_count b) * b.age * (a.blocks + live_count a)) ((a.blocks - live_count a) * a.age * (b.blocks + live_count b))

-- the segment has been chosen
abbrev pub is_chosen : List Choice → LogSegment → Bool
is_chosen choices segment = list_any (is_choice_of segment) choices

-- the segments that a task has not chosen
abbrev pub unchosen : Work → List LogSegment
unchosen work = filter (λ segment. not (is_chosen work.choices segment)) work.segments

-- one of the chosen segments isn't cleaned yet
abbrev pub is_busy : Work → Bool
is_busy work = list_any (λ choice. not (is_cleaned work choice)) work.choices

-- the task chooses the first segment with the greatest ratio
abbrev pub choose_best : Shape → ℕ → Past → List LogSegment → Past
choose_best disk task past [] = past
choose_best disk task past (segment ∷ segments) =
    let best = best_of is_better segment segments in
    chose task best (next_blocks past task (live_cuts disk (terms_of past task).block best.first best.live)) ∷ past

-- and only if all that it has chosen are cleaned
abbrev pub choose_once : Shape → ℕ → Past → Past
choose_once disk task past = if is_busy (work past task) then past else choose_best disk task past (unchosen (work past task))

-- at most n times
abbrev pub choose_up_to : ℕ → Shape → ℕ → Past → Past
choose_up_to zero disk task past = past
choose_up_to (suc n) disk task past = choose_up_to n disk task (choose_once disk task past)

-- until a segment with live blocks is chosen or none is left
abbrev pub choose_in : Shape → Past → ℕ → Past
choose_in disk past task = if is_clean (terms_of past task).kind && not (is_closed past task)
    then choose_up_to (length (segments past task)) disk task past
    else past

-- task by task in order of opening
unfoldable pub with_choices : Shape → Past → Past
with_choices disk past = fold (choose_in disk) past (task_numbers past)
