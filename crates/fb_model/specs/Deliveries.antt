-- The deliveries that are due: what dwells catch and what foreground reads carry.
use Rattle.std.specs.Prelude.{ℕ, ◌+◌, ◌-◌, List, [], ◌∷◌, ◌++◌, Bool, ◌&&◌, ◌||◌, not, ◌==◌, nat_le, nat_lt, filter, find, map}
use Rattle.std.specs.Prelude.{if◌then◌else◌}
use Rattle.std.specs.Option.{option_map_or}
use Rattle.std.specs.List.{fold}
use Rattle.fb_units.specs.declared.types.Request.{Request}
use Rattle.fb_service.specs.declared.disk.Disk.{Disk}
use Rattle.fb_service.specs.declared.passage.Passage.{Passage}
use Rattle.fb_store.specs.Runs.{runs_of, bad_of}
use Rattle.fb_wanted.specs.declared.block.Block.{Block}
use Rattle.fb_rows.specs.declared.gap.Catch.{Catch}
use Rattle.fb_rows.specs.declared.gap.Gap.{Gap}
use Rattle.fb_rows.specs.declared.gap.Dwell.{Dwell}
use Rattle.fb_rows.specs.declared.gap.How.{How}
use Rattle.fb_rows.specs.declared.gap.How.TheVariants.{Gap as ByGap, Idle as ByIdle, Ride as ByRide}
use Rattle.fb_rows.specs.declared.gap.Plan.{Plan}
use Rattle.fb_rows.specs.declared.back.DeliveryRow.{DeliveryRow}
use Rattle.fb_model.specs.PlainReplay.{Served, media, target}
use Rattle.fb_model.specs.Content.{ContentsAt}
use Rattle.fb_model.specs.Plans.{block_begin, block_end, catches, early_dwell, late_dwell}
use Rattle.fb_model.specs.Decisions.{Act, serving, idling, ending}

-- the gap of a request
abbrev pub gap_of : Disk → Served → Gap
gap_of disk served = record {
  source = served.source;
  target = target disk served;
  now = served.start;
  deadline = media served;
  write = served.request.write;
}

-- the first is delivered before the second: by end, then by task, then by number
abbrev pub is_before : Catch → Catch → Bool
is_before a b = nat_lt a.end b.end
    || ((a.end == b.end) && (nat_lt a.block.task b.block.task || ((a.block.task == b.block.task) && nat_lt a.block.index b.block.index)))

-- a catch put in its place among catches in the order of delivery
abbrev pub placed : List Catch → Catch → List Catch
placed [] catch = catch ∷ []
placed (first ∷ others) catch = if is_before catch first then catch ∷ first ∷ others else first ∷ placed others catch

-- these in the order of delivery
abbrev pub in_order : List Catch → List Catch
in_order found = fold placed [] found

-- how a block passes in a dwell
abbrev pub catch_of : Disk → Dwell → Block → Catch
catch_of disk dwell block = record {
  block = block;
  begin = block_begin disk.map block dwell.begin;
  end = block_end disk.map block dwell.begin;
}

-- what a dwell catches of these blocks, in their order
abbrev pub caught_among : Disk → Dwell → List Block → List Catch
caught_among disk dwell blocks = map (catch_of disk dwell) (filter (catches disk dwell) blocks)

-- the same in the order of delivery
unfoldable pub caught_of : Disk → Dwell → List Block → List Catch
caught_of disk dwell blocks = in_order (caught_among disk dwell blocks)

-- those of these blocks that a dwell doesn't catch
abbrev pub missed : Disk → Dwell → List Block → List Block
missed disk dwell blocks = filter (λ block. not (catches disk dwell block)) blocks

-- all sectors of the block are the request's
abbrev pub lies_in : Request → Block → Bool
lies_in request block = nat_le request.lbn block.lbn && nat_le (block.lbn + block.count) (request.lbn + request.count)

-- when a sector's passage begins; 0 for a sector that isn't passed, which is never asked
abbrev pub begin_at : List Passage → ℕ → ℕ
begin_at passages lbn = option_map_or (λ passage. passage.begin) (find (λ passage. passage.lbn == lbn) passages) 0

-- when a sector's passage ends; 0 for a sector that isn't passed, which is never asked
abbrev pub end_at : List Passage → ℕ → ℕ
end_at passages lbn = option_map_or (λ passage. passage.end) (find (λ passage. passage.lbn == lbn) passages) 0

-- how a block passes with a read that has all its sectors
abbrev pub ride_of : List Passage → Block → Catch
ride_of passages block = record { block = block; begin = begin_at passages block.lbn; end = end_at passages (block.lbn + block.count - 1) }

-- what a read carries of these blocks, in the order of delivery
unfoldable pub carried_of : List Passage → Request → List Block → List Catch
carried_of passages request blocks = in_order (map (ride_of passages) (filter (lies_in request) blocks))

-- the row of a delivery, with what the block's sectors hold as its passage begins
abbrev pub delivery_row : ContentsAt → How → Catch → DeliveryRow
delivery_row contents how catch =
    let runs = runs_of (contents catch.block.lbn catch.block.count catch.begin) in
    record { block = catch.block; begin = catch.begin; end = catch.end; how = how; bad = bad_of runs; content = runs }

-- the rows of what a dwell catches of these blocks
abbrev pub caught_rows : Disk → ContentsAt → How → Dwell → List Block → List DeliveryRow
caught_rows disk contents how dwell blocks = map (delivery_row contents how) (caught_of disk dwell blocks)

-- the rows of what a read carries of these blocks; a write carries none
abbrev pub carried_rows : ContentsAt → Served → List Block → List DeliveryRow
carried_rows contents served blocks =
    if served.request.write then [] else map (delivery_row contents ByRide) (carried_of served.passages served.request blocks)

-- what the early dwell of a gap catches, and then what the late dwell catches of the blocks that are left
abbrev pub caught_in_gap : Disk → ContentsAt → Gap → Plan → List Block → List DeliveryRow
caught_in_gap disk contents gap plan wanted = caught_rows disk contents ByGap (early_dwell disk gap plan) wanted
    ++ caught_rows disk contents ByGap (late_dwell disk gap plan) (missed disk (early_dwell disk gap plan) wanted)

-- the blocks that neither dwell of the gap catches
abbrev pub missed_in_gap : Disk → Gap → Plan → List Block → List Block
missed_in_gap disk gap plan wanted = missed disk (late_dwell disk gap plan) (missed disk (early_dwell disk gap plan) wanted)

-- the deliveries that are due at a decision, given the blocks that are wanted there: what the gap's dwells catch, and then what the ride
-- carries of the blocks that are left; or what the idle dwell catches
unfoldable pub due : Disk → ContentsAt → Act → List Block → List DeliveryRow
due disk contents (serving served plan) wanted =
    let gap = gap_of disk served in
    caught_in_gap disk contents gap plan wanted ++ carried_rows contents served (missed_in_gap disk gap plan wanted)
due disk contents (idling dwell) wanted = caught_rows disk contents ByIdle dwell wanted
due disk contents (ending now) wanted = []
