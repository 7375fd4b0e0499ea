-- What the replacement of a lost disk holds: what the writes and the deliveries of the survivor's run give it.
use Rattle.std.specs.Prelude.{◌≡◌, ℕ, ◌+◌, ◌<◌, ◌≤◌, List, [], ◌∷◌, ◌++◌, length, Option, None, Some, nat_lt, map, filter, is_some}
use Rattle.std.specs.Prelude.{if◌then◌else◌}
use Rattle.std.specs.List.{AllByRecursion, flat_map, range_with_len}
use Rattle.std.specs.Option.{option_map, unwrap_or}
use Rattle.fb_store.specs.declared.content.Content.{Content}
use Rattle.fb_store.specs.declared.content.Content.TheVariants.{Filled, Unreadable}
use Rattle.fb_store.specs.declared.content.ContentRun.{ContentRun}
use Rattle.fb_store.specs.Runs.{runs_of, sectors_of}
use Rattle.fb_store.specs.Sparse.{after_taking}
use Rattle.fb_rows.specs.declared.fore.ForeRow.{ForeRow}
use Rattle.fb_rows.specs.declared.back.BackRow.{BackRow}
use Rattle.fb_rows.specs.declared.back.BackRow.TheVariants.{Got, Seal}
use Rattle.fb_rows.specs.declared.run.Run.{Run}
use Rattle.fb_store.specs.Writes.{writer_of}

-- an event: at an instant the sectors of some runs get contents
pub record Event : Type 0 where
  pub instant : ℕ
  pub contents : List ContentRun

-- a foreground write takes effect at its finish, and leaves its number in its sectors
abbrev pub writes_in : ForeRow → List Event
writes_in row = if row.request.write
    then record {
      instant = row.finish;
      contents = record { first = row.request.lbn; count = row.request.count; content = Filled (writer_of row.request.name) } ∷ [];
    } ∷ []
    else []

-- a delivery takes effect at its end, and gives its block's sectors what they held
abbrev pub deliveries_in : BackRow → List Event
deliveries_in (Got row) = record { instant = row.end; contents = row.content } ∷ []
deliveries_in _ = []

-- the events of a run: the writes in their order, and then the deliveries in theirs
abbrev pub events : Run → List Event
events run = flat_map writes_in run.fore ++ flat_map deliveries_in run.back

-- the runs of an event end by this sector
abbrev pub IsWithin : ℕ → Event → Type 0
IsWithin end event = AllByRecursion (λ run. run.first + run.count ≤ end) event.contents

-- what an event gives a sector, and when, if it concerns it
abbrev pub given : ℕ → Event → Option (ℕ × Content)
given lbn event = option_map (λ content. (event.instant, content)) (after_taking (sectors_of event.contents) lbn None)

-- of two the one that decides: the later one, and of equals the second
abbrev pub later : Option (ℕ × Content) → Option (ℕ × Content) → Option (ℕ × Content)
later None second = second
later (Some first) None = Some first
later (Some first) (Some second) = if nat_lt second.0 first.0 then Some first else Some second

-- of the events that concern a sector the latest decides, and of equals the one that stands last
abbrev pub decided : ℕ → List Event → Option (ℕ × Content)
decided lbn [] = None
decided lbn (event ∷ events) = later (given lbn event) (decided lbn events)

-- an event of the list gives a sector this at this instant; those before it that concern the sector are no later, those behind it are
-- earlier
pub record Decides (lbn : ℕ) (events : List Event) (last : ℕ × Content) : Type 0 where
  pub before : List Event
  pub event : Event
  pub behind : List Event
  pub split : events ≡ before ++ event ∷ behind
  pub gives : given lbn event ≡ Some last
  pub no_later : AllByRecursion (λ other. (that : ℕ × Content) → given lbn other ≡ Some that → that.0 ≤ last.0) before
  pub earlier : AllByRecursion (λ other. (that : ℕ × Content) → given lbn other ≡ Some that → that.0 < last.0) behind

-- what a sector holds after the events, if one of them concerned it
abbrev pub held_after : List Event → ℕ → Option Content
held_after events lbn = option_map (λ last. last.1) (decided lbn events)

-- the fewest runs of a disk of `count` sectors after the events; what none of them concerned can't be read
abbrev pub contents_after : List Event → ℕ → List ContentRun
contents_after events count = runs_of (map (λ lbn. (lbn, unwrap_or (held_after events lbn) Unreadable)) (range_with_len 0 count))

-- how many sectors of the disk an event concerned
abbrev pub covered_after : List Event → ℕ → ℕ
covered_after events count = length (filter (λ lbn. is_some (held_after events lbn)) (range_with_len 0 count))

-- a seal's instant, or what the rows behind it say
abbrev pub sealed_by : BackRow → Option ℕ → Option ℕ
sealed_by (Seal row) behind = Some row.instant
sealed_by _ behind = behind

-- the instant of the seal in these rows, the first if there were several; none where there is none
abbrev pub sealed_in : List BackRow → Option ℕ
sealed_in [] = None
sealed_in (row ∷ rows) = sealed_by row (sealed_in rows)
