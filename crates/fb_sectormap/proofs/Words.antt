-- The names that the proofs cite, of this crate's words and of the crates below: each proof takes them from here.
pub use Rattle.std.proofs.Common.{List, Some, [], ap, arith, false, inl, inr, length, map, refl, subst, suc, sym, take, true, zero, ℕ, ◌%◌}
pub use Rattle.std.proofs.Common.{◌*◌, ◌++◌, ◌+◌, ◌-◌, ◌<◌, ◌^◌, ◌∙◌, ◌∷◌, ◌≡◌, ◌≤◌}
pub use Rattle.std.proofs.Math.Nat.{mod-add-mod, mod-eq_of_lt, mod-lt}
pub use Rattle.std.proofs.lemmas.Bool.{and_from, cases_Bool, cases_lt, eq-eqb}
pub use Rattle.std.proofs.lemmas.Option.{get_or_from_slice_get, none-some, same_Some, slice_get_within}
pub use Rattle.std.specs.List.{flat_map, range_with_len}
pub use Rattle.std.specs.Prelude.{nat_le, slice_get, ◌==◌}
pub use Rattle.fb_geometry.specs.Places.{data_list, data_list_at}
unfoldable pub use Rattle.fb_geometry.specs.Places.{places}
pub use Rattle.fb_geometry.specs.Shape.{Shape, cylinders_of, slots_at, turn_position}
pub use Rattle.fb_geometry.specs.Sound.{IsSound, cylinder_size}
pub use Rattle.fb_geometry.specs.Stretches.{IsStretch}
pub use Rattle.fb_geometry.specs.declared.zone.Zone.{Zone}
pub use Rattle.fb_sectormap.specs.Cutting.{is_later}
unfoldable pub use Rattle.fb_sectormap.specs.Cutting.{cutting}
pub use Rattle.fb_sectormap.specs.Cylinders.{IsFirstOf, IsMapped, IsSectorOf, start_of}
unfoldable pub use Rattle.fb_sectormap.specs.Cylinders.{sectors_before}
pub use Rattle.fb_sectormap.specs.LookUp.{IsAt, neighbour, track_at}
unfoldable pub use Rattle.fb_sectormap.specs.LookUp.{place_at}
unfoldable pub use Rattle.fb_sectormap.specs.Sweeps.{sweep_of}
pub use Rattle.fb_sectormap.specs.declared.numbering.ZoneStart.{ZoneStart}
pub use Rattle.fb_units.proofs.Lists.{element_at}
pub use Rattle.fb_units.specs.Tracks.{same_track}
pub use Rattle.fb_units.specs.declared.types.Place.{Place}
pub use Rattle.fb_units.specs.declared.types.Track.{Track}
