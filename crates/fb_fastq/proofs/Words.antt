-- The names that the proofs cite, of this crate's words and of the crates below: each proof takes them from here.
pub use Rattle.std.proofs.Common.{Bool, IfNone, IfSome, IsSome, List, None, Option, Some, [], ap, append-nil}
pub use Rattle.std.proofs.Common.{append_assoc, arith, drop, false, get_or, inl, inr, length, map, refl, set, slice_get, subst, suc, sym}
pub use Rattle.std.proofs.Common.{take, true, zero, ℕ, ◌%◌, ◌*◌, ◌++◌, ◌+◌, ◌-◌, ◌<◌, ◌^◌, ◌∙◌, ◌∷◌, ◌≡◌, ◌≢◌, ◌≤◌, ◌⊎◌}
pub use Rattle.std.specs.BTreeMap.{BTreeMap, insert_entry, is_at, keys}
pub use Rattle.std.specs.BTreeSet.{BTreeSet, contains}
pub use Rattle.std.specs.List.{AllByRecursion, filter, list_any}
unfoldable pub use Rattle.std.specs.List.Sorted.{IsStrictlySortedBy}
pub use Rattle.std.specs.Map.{lookup, remove_entry}
pub use Rattle.std.specs.Ordering.{is_eq, is_gt, is_le, is_lt, match_ordering, nat_cmp, ordering_then}
pub use Rattle.std.specs.Prelude.{MatchOption, if◌then◌else◌, nat_le, nat_lt, not, option_and_then, remove, ◌&&◌, ◌==◌}
pub use Rattle.std.specs.declared.cmp.Ordering.{Ordering}
pub use Rattle.std.specs.declared.cmp.Ordering.TheVariants.{Equal, Greater, Less}
pub use Rattle.std.proofs.Math.Nat.{add-mod_left, mod-add-mod, mod-eq_of_lt, mod-le, mod-lt}
pub use Rattle.std.proofs.lemmas.Bool.{cases_Bool, cases_lt, true≢false}
pub use Rattle.std.proofs.lemmas.Bool.Decides.{nat_tests}
pub use Rattle.std.proofs.lemmas.List.{length-append, length-set, map-append, map-id, nil_from_length}
pub use Rattle.std.proofs.lemmas.Map.Entries.{place_from_lookup}
pub use Rattle.std.proofs.lemmas.Option.{none-some, slice_get-get_or, slice_get_read, slice_get_within}
pub use Rattle.fb_units.proofs.Among.{Among, among-append, among-filtered, among-right, among-tail, any-among}
pub use Rattle.fb_units.proofs.Each.{all_unmapped}
pub use Rattle.fb_units.proofs.Filtered.{filter_to}
pub use Rattle.fb_units.proofs.Lists.{all_append, all_filter, all_from_index, all_get, all_left, all_push, all_right, all_weaker}
pub use Rattle.fb_units.proofs.Lists.{append_at, on_err}
pub use Rattle.fb_units.specs.declared.types.Request.{Request}
pub use Rattle.fb_units.specs.declared.types.Track.{Track}
pub use Rattle.fb_geometry.specs.Shape.{cylinders_of}
pub use Rattle.fb_sectormap.specs.LookUp.{place_at, track_at}
pub use Rattle.fb_seek.specs.Positioning.{distance_of, seek}
unfoldable pub use Rattle.fb_seek.specs.Positioning.{pos}
pub use Rattle.fb_seek.specs.Rising.{SeeksRise}
pub use Rattle.fb_service.specs.Passing.{begin_angle}
unfoldable pub use Rattle.fb_service.specs.Passing.{begin_from}
pub use Rattle.fb_service.specs.declared.approach.Departure.{Departure}
pub use Rattle.fb_service.specs.declared.disk.Disk.{Disk}
pub use Rattle.fb_model.specs.PlainReplay.{better, first_least, sptf}
pub use Rattle.fb_fastq.specs.ByCylinder.{AreOccupied, AreRows, IsArrival, IsAt, IsDivided, IsOnCylinder, IsPick, Row, RulesOut}
pub use Rattle.fb_fastq.specs.ByCylinder.{RulesOutAll}
pub use Rattle.fb_fastq.specs.ByCylinder.{all_of_rows, at_position}
pub use Rattle.fb_fastq.specs.Candidates.{ComesNoLater, ComesNoLaterBetween, ComesNoLaterOn, ComesNoLaterUntil, IsBefore, IsCandidate}
pub use Rattle.fb_fastq.specs.Joining.{AllHeld, NumbersDiffer, HaveOwnNumbers, Holds, IsFirst, IsFirstHeld, IsNoLater, Waiting, Waits}
pub use Rattle.fb_fastq.specs.Joining.{in_order, join_in, number_of, order, pending_of}
pub use Rattle.fb_fastq.specs.Lanes.{IsAlong, IsLane, lane_start}
pub use Rattle.fb_fastq.specs.More.{IsMore}
pub use Rattle.fb_fastq.specs.Sides.{AreThose, IsNearer, IsNoFarther, IsOn, IsReached, beyond, on_side}
pub use Rattle.fb_fastq.specs.Turns.{turn}
pub use Rattle.fb_fastq.specs.Visits.{IsVisit}
pub use Rattle.fb_fastq.specs.declared.arrival.Arrival.{Arrival}
pub use Rattle.fb_fastq.specs.declared.lanes.Lane.{Lane}
pub use Rattle.fb_fastq.specs.declared.ray.Ray.{Ray}
pub use Rattle.fb_fastq.specs.declared.rows.Pick.{Pick}
pub use Rattle.fb_fastq.specs.declared.rows.Position.{Position}
pub use Rattle.fb_fastq.specs.declared.side.Side.{Side}
pub use Rattle.fb_fastq.specs.declared.side.Side.TheVariants.{Above, Below}
pub use Rattle.fb_fastq.specs.declared.soonest.Candidate.{Candidate}
pub use Rattle.fb_fastq.specs.declared.visit.Visit.{Visit}
