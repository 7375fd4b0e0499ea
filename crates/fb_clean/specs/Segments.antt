-- The segments of a log that a session cleans, and the choice among them by benefit and cost (Rosenblum and Ousterhout,
-- The Design and Implementation of a Log-Structured File System); ties are this project's.
use Rattle.std.specs.Prelude.{ℕ, ◌+◌, ◌-◌, ◌*◌, List, [], ◌∷◌, ◌++◌, Option, None, Some, Bool, true, false, ◌==◌, nat_lt, length, filter}
use Rattle.std.specs.Prelude.{map, if◌then◌else◌}
use Rattle.std.specs.List.{best_of, flat_map, range_with_len, slice_index_or}
use Rattle.fb_store.specs.declared.content.Content.{Content}
use Rattle.fb_store.specs.Ranges.{held_at}
use Rattle.fb_store.specs.Sparse.{held_in}

-- a segment: its number of blocks, the first LBNs of its live ones, ascending, and whether it is still to be chosen
pub record LogSegment : Type 0 where
  pub number : ℕ
  pub blocks : ℕ
  pub age : ℕ
  pub live : List ℕ
  pub waits : Bool

-- a session's block size in sectors, its segments in order of adding, the chosen one while unfinished, and what was taken for each
pub record Cleaning : Type 0 where
  pub block : ℕ
  pub segments : List LogSegment
  pub unfinished : Option ℕ
  pub taken : List (List (ℕ × Option Content))

-- the first LBNs of the live blocks of a segment that begins at an LBN
abbrev pub live_blocks : ℕ → ℕ → List Bool → List ℕ
live_blocks block lbn [] = []
live_blocks block lbn (live ∷ lives) = (if live then lbn ∷ [] else []) ++ live_blocks block (lbn + block) lives

-- with one more segment
abbrev pub after_add : ℕ → ℕ → ℕ → List Bool → Cleaning → Cleaning
after_add first blocks age live before = record before {
  segments = before.segments ++ record {
    number = length before.segments + 1;
    blocks = blocks;
    age = age;
    live = live_blocks before.block first live;
    waits = true;
  } ∷ [];
  taken = before.taken ++ [] ∷ [];
}

-- the benefit of cleaning it: its free blocks times its age, (N - L) * age
abbrev pub gain : LogSegment → ℕ
gain segment = (segment.blocks - length segment.live) * segment.age

-- and the cost: all blocks read and the live ones written again, N + L
abbrev pub cost : LogSegment → ℕ
cost segment = segment.blocks + length segment.live

-- a greater ratio of benefit to cost
abbrev pub is_better : LogSegment → LogSegment → Bool
is_better a b = nat_lt (gain b * cost a) (gain a * cost b)

-- the first one with the greatest ratio
abbrev pub first_best : List LogSegment → Option LogSegment
first_best [] = None
first_best (segment ∷ segments) = Some (best_of is_better segment segments)

-- the segments still to be chosen
abbrev pub waiting : List LogSegment → List LogSegment
waiting segments = filter (λ segment. segment.waits) segments

abbrev pub number_of : Option LogSegment → Option ℕ
number_of None = None
number_of (Some segment) = Some segment.number

-- no choice while a chosen segment is unfinished, and else the first of greatest ratio among those left
abbrev pub choice_while : Option ℕ → List LogSegment → Option ℕ
choice_while None segments = number_of (first_best (waiting segments))
choice_while (Some unfinished) segments = None

abbrev pub choice_of : Cleaning → Option ℕ
choice_of cleaning = choice_while cleaning.unfinished cleaning.segments

abbrev pub no_longer_waiting : LogSegment → LogSegment
no_longer_waiting segment = record segment { waits = false }

-- the chosen segment is no longer left to choose
abbrev pub without : ℕ → List LogSegment → List LogSegment
without number segments = map (λ segment. if segment.number == number then no_longer_waiting segment else segment) segments

abbrev pub after_choice : Option ℕ → Cleaning → Cleaning
after_choice None before = before
after_choice (Some number) before = record before { segments = without number before.segments; unfinished = Some number }

-- no segment is left to choose
abbrev pub after_drop : Cleaning → Cleaning
after_drop before = record before { segments = map no_longer_waiting before.segments }

-- the first LBNs of a segment's live blocks
abbrev pub live_of : Cleaning → ℕ → List ℕ
live_of cleaning number = slice_index_or (map (λ segment. segment.live) cleaning.segments) (number - 1) []

-- what was taken for a segment, sector by sector
abbrev pub taken_for : Cleaning → ℕ → ℕ → Option Content
taken_for cleaning number lbn = held_at (slice_index_or cleaning.taken (number - 1) []) lbn

-- the sectors of a segment's live blocks, in order, each with what was taken
abbrev pub packed_sectors : Cleaning → ℕ → List (ℕ × Content)
packed_sectors cleaning number =
    flat_map (λ lbn. held_in (taken_for cleaning number) (range_with_len lbn cleaning.block)) (live_of cleaning number)
