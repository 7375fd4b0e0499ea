-- The names that the proofs cite, of this crate's words and of the crates below: each proof takes them from here.
pub use Rattle.std.proofs.Common.{Bool, List, None, Ok, Some, [], add-one, ap, append-nil, append_assoc, arith, drop, false, get_or, inl}
pub use Rattle.std.proofs.Common.{inr, length, map, min, refl, subst, suc, sym, take, true, zero, ℕ, ◌%◌, ◌*◌, ◌++◌, ◌+◌, ◌-◌, ◌/◌, ◌<◌}
pub use Rattle.std.proofs.Common.{◌^◌, ◌∙◌, ◌∷◌, ◌≡◌, ◌≤◌}
pub use Rattle.std.specs.List.{AllByRecursion, flat_map, list_all, range_with_len, slice_split}
pub use Rattle.std.specs.Prelude.{codes, decimal, filter, if◌then◌else◌, nat_le, nat_lt, not, slice_get, ◌&&◌, ◌==◌}
pub use Rattle.std.proofs.Math.Nat.{add-mod_left, mod-eq_of_lt, mod-lt}
pub use Rattle.std.proofs.lemmas.Bool.{cases_Bool, cases_lt}
pub use Rattle.std.proofs.lemmas.Bool.Decides.{nat_tests}
pub use Rattle.std.proofs.lemmas.List.{drop_more, get_or-drop, length-append, length-drop, length-take, length_push}
pub use Rattle.std.proofs.lemmas.List.Folds.{list_all-append, list_all_at, list_all_more}
pub use Rattle.std.proofs.lemmas.Option.{get_or_from_slice_get, none-some, slice_get-get_or, slice_get_within}
pub use Rattle.fb_units.specs.Lines.{but_empty_last, is_blank}
unfoldable pub use Rattle.fb_units.specs.Lines.{fields_of, lines_of}
pub use Rattle.fb_units.specs.Numbers.{flags_of, last_six, millis_of, number_of}
unfoldable pub use Rattle.fb_units.specs.Numbers.{millis_text}
pub use Rattle.fb_units.specs.declared.types.Name.TheVariants.{Traced}
pub use Rattle.fb_units.specs.declared.types.Place.{Place}
pub use Rattle.fb_units.specs.declared.types.Request.{Request}
pub use Rattle.fb_units.proofs.Written.{read_back, whole_number}
pub use Rattle.fb_geometry.specs.Faults.{first_apart}
pub use Rattle.fb_geometry.specs.Places.{data_list, data_list_by, good_track, list_among, turn, zone_places}
unfoldable pub use Rattle.fb_geometry.specs.Places.{places}
pub use Rattle.fb_geometry.specs.Shape.{Shape, cylinders_of, is_among, offset_at, offset_in, slots_at, turn_position}
pub use Rattle.fb_geometry.specs.Sound.{IsSound, cylinder_size_by}
pub use Rattle.fb_geometry.specs.declared.layout.Layout.TheVariants.{PerCylinder, PerTrack}
pub use Rattle.fb_geometry.specs.declared.zone.Zone.{Zone}
pub use Rattle.fb_sectormap.specs.Cutting.{is_cut_before, is_later, with_sector}
unfoldable pub use Rattle.fb_sectormap.specs.Cutting.{cutting}
pub use Rattle.fb_sectormap.proofs.Parts.{length-most, length-same}
pub use Rattle.fb_maker.specs.Script.{call_at, first_zone, has_long_tracks, is_long, most, script_calls, script_text}
unfoldable pub use Rattle.fb_maker.specs.Script.{script_lines}
pub use Rattle.fb_maker.specs.Trace.{arrival_before, flags_text, made_requests, made_trace, size_of}
unfoldable pub use Rattle.fb_maker.specs.Trace.{line_of, request_at}
unfoldable pub use Rattle.fb_maker.specs.Words.{generator_after, word}
