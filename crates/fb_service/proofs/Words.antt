-- The names that the proofs cite, of this crate's words and of the crates below: each proof takes them from here.
pub use Rattle.std.proofs.Common.{List, [], ap, append-nil, append_assoc, arith, inl, inr, map, refl, subst, suc, sym, zero, ℕ, ◌%◌, ◌*◌}
pub use Rattle.std.proofs.Common.{◌++◌, ◌+◌, ◌-◌, ◌<◌, ◌∙◌, ◌∷◌, ◌≡◌, ◌≤◌}
pub use Rattle.std.proofs.lemmas.Bool.{cases_lt}
pub use Rattle.std.specs.List.{AllByRecursion, range_with_len}
pub use Rattle.fb_geometry.specs.Angles.{slot_begin}
pub use Rattle.fb_geometry.specs.Shape.{IsTrackOf, Shape, slots_at}
unfoldable pub use Rattle.fb_sectormap.specs.LookUp.{place_at}
unfoldable pub use Rattle.fb_seek.specs.Positioning.{pos}
pub use Rattle.fb_service.specs.Extents.{FollowOn, IsUnbroken, all_passages_of, passages_of}
pub use Rattle.fb_service.specs.Passing.{ArePassing, begin_angle, end_angle, length_of, turned}
unfoldable pub use Rattle.fb_service.specs.Passing.{begin_from}
pub use Rattle.fb_service.specs.Service.{passage_from}
unfoldable pub use Rattle.fb_service.specs.Service.{passages}
pub use Rattle.fb_service.specs.declared.passage.Extent.{Extent}
pub use Rattle.fb_service.specs.declared.passage.Passage.{Passage}
pub use Rattle.fb_units.proofs.Waits.{least_of, least_unique, wait_least}
pub use Rattle.fb_units.specs.Wait.{wait}
pub use Rattle.fb_units.specs.declared.types.Place.{Place}
