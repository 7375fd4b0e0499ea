-- The names that the proofs cite, of this crate's words and of the crates below: each proof takes them from here.
pub use Rattle.std.proofs.Common.{Bool, List, Some, [], ap, arith, false, filter, get_or, if◌then◌else◌, inl, inr, length, length-append}
pub use Rattle.std.proofs.Common.{map, max, option_map, refl, set, slice_get, subst, suc, sym, true, zero, ℕ, ◌*◌, ◌++◌, ◌+◌, ◌-◌, ◌/◌}
pub use Rattle.std.proofs.Common.{◌<◌, ◌==◌, ◌^◌, ◌||◌, ◌∙◌, ◌∷◌, ◌≡◌, ◌≤◌, ◌⊎◌}
pub use Rattle.std.proofs.lemmas.Bool.{cases_Bool, cases_eq, cases_lt, true≢false}
pub use Rattle.std.proofs.lemmas.Bool.Decides.{nat_tests}
pub use Rattle.std.proofs.lemmas.Grind.{get_or-set_at, get_or_default_zero}
pub use Rattle.std.proofs.lemmas.List.{get_or-set_other, get_or_default, get_or_past, length-map, length-set, length_push, map-append}
pub use Rattle.std.proofs.lemmas.List.{set-get_or}
pub use Rattle.std.proofs.lemmas.List.Elements.{filter-append}
pub use Rattle.std.proofs.lemmas.List.Sums.{sum_by-append, sum_by-cons}
pub use Rattle.std.proofs.lemmas.Option.{get_or_from_slice_get, none-some, same_Some, slice_get-get_or, slice_get-map, slice_get_read}
pub use Rattle.std.proofs.lemmas.Option.{slice_get_within}
pub use Rattle.std.proofs.lemmas.Result.{IfOk-from_err}
pub use Rattle.std.specs.BTreeMap.{is_at}
pub use Rattle.std.specs.BTreeSet.{BTreeSet, contains}
pub use Rattle.std.specs.List.{sum_by}
pub use Rattle.std.specs.Ordering.{is_gt}
pub use Rattle.fb_units.proofs.Changed.{old_or_last, one_blank_more, one_changed}
pub use Rattle.fb_units.proofs.Counts.{filter-le}
pub use Rattle.fb_units.proofs.Filtered.{filter_from}
pub use Rattle.fb_units.proofs.Lists.{element_at, on_err}
pub use Rattle.fb_units.proofs.Tracks.{same_tracks, track_itself}
pub use Rattle.fb_units.specs.Tracks.{same_track}
pub use Rattle.fb_units.specs.declared.types.Track.{Track}
pub use Rattle.fb_wanted.specs.Counting.{AreNoMore, Fit, counted, counts_of, is_in_group, is_of, no_counts, recounted, sum_of}
pub use Rattle.fb_wanted.specs.Depth.{AreDeep, band_depth, depth_at, no_depth}
pub use Rattle.fb_wanted.specs.Groups.{AreGrouped}
pub use Rattle.fb_wanted.specs.LookUp.{AreChanged, AreGreatest, AreNoted, AreOffered, ArePeaks, AreShort, BeginsStreak, IsChanged}
pub use Rattle.fb_wanted.specs.LookUp.{IsInStreak, IsKept, IsNextTrack, IsStable, IsTaskChanged, IsUpTo, LeavesAll, NoneIsBetween, OnTrack}
pub use Rattle.fb_wanted.specs.LookUp.{change_nth, changed_where, counted_anew, grown, grown_task, indexes_of, is_of_task, is_of_track}
pub use Rattle.fb_wanted.specs.LookUp.{joined, key_of, lbns, no_block_on, no_blocks, no_offer, offers_at, region_of, reweighed, streak_cmp}
pub use Rattle.fb_wanted.specs.LookUp.{track_at, weight_kept, with_state}
pub use Rattle.fb_wanted.specs.Numbering.{AreInOrder, AreSmall, blocks_of, registered_count}
pub use Rattle.fb_wanted.specs.Offers.{AreFound, AreOffers, AreSameBlocks, no_block, offer_of, offered_blocks}
pub use Rattle.fb_wanted.specs.States.{after, entry_after, is_aborted, is_delivered, is_open, is_wanted, on_track, shares, state_after}
pub use Rattle.fb_wanted.specs.States.{wanted_of}
pub use Rattle.fb_wanted.specs.Tracks.{IsNextRegistered, NoneIsRegistered, wanted_weight}
pub use Rattle.fb_wanted.specs.declared.block.Block.{Block}
pub use Rattle.fb_wanted.specs.declared.block.Change.{Change}
pub use Rattle.fb_wanted.specs.declared.block.Change.TheVariants.{Abort, Resume, Suspend}
pub use Rattle.fb_wanted.specs.declared.block.Counts.{Counts}
pub use Rattle.fb_wanted.specs.declared.block.Entry.{Entry}
pub use Rattle.fb_wanted.specs.declared.block.State.{State}
pub use Rattle.fb_wanted.specs.declared.block.State.TheVariants.{Aborted, Delivered, Suspended, Wanted}
pub use Rattle.fb_wanted.specs.declared.depths.Depth.{Depth}
pub use Rattle.fb_wanted.specs.declared.offer.Offer.{Offer}
pub use Rattle.fb_wanted.specs.declared.streaks.Streak.{Streak}
pub use Rattle.fb_wanted.specs.declared.tasks.OfTask.{OfTask}
