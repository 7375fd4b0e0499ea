-- The names that the proofs cite, of this crate's words and of the crates below: each proof takes them from here.
pub use Rattle.std.proofs.Common.{Bool, Equal, Global, Greater, Less, List, None, Ok, Option, Ordering, Some, String, [], ap, append_assoc}
pub use Rattle.std.proofs.Common.{arith, codes, drop, false, get_or, inl, inr, length, map, nat_le, negsuc, not, option_map, pos, refl}
pub use Rattle.std.proofs.Common.{rules, slice_get, slice_index, string_bytes, subst, suc, sym, take, tests, true, unwrap_or, zero, ℕ, ◌%◌}
pub use Rattle.std.proofs.Common.{◌++◌, ◌+◌, ◌<◌, ◌==◌, ◌^◌, ◌∙◌, ◌∷◌, ◌≡◌, ◌≤◌}
pub use Rattle.std.specs.List.{AllByRecursion, cons_option, filter, filter_map, find, list_all, list_any}
pub use Rattle.std.specs.Option.{option_and_then, option_or, option_to_list}
pub use Rattle.std.specs.Ordering.{match_ordering, nat_cmp, ordering_reverse}
pub use Rattle.std.specs.Str.{bytes_eq}
unfoldable pub use Rattle.std.specs.Str.{chars, is_utf8}
pub use Rattle.std.proofs.lemmas.Bool.{and_parts, cases_Bool, false≢true, not-false, true≢false}
pub use Rattle.std.proofs.lemmas.Iterator.{YieldsList-from_slice}
pub use Rattle.std.proofs.lemmas.Iterator.Search.{all_from_yields_List, any_from_yields_List}
pub use Rattle.std.proofs.lemmas.List.{map_more, map_push, take_all}
pub use Rattle.std.proofs.lemmas.List.Folds.{list_all-map}
pub use Rattle.toml.specs.Data.{Data, Items, Members, array, as_array, as_table, boolean, datetime, float, get_member, integer, string}
pub use Rattle.toml.specs.Data.{table}
pub use Rattle.toml.specs.View.{array_view, items_of, members_view, table_view, view}
pub use Rattle.toml.specs.declared.value.Value.{Value}
pub use Rattle.fb_geometry.specs.Faults.{FitsLayout, least, lesser}
unfoldable pub use Rattle.fb_geometry.specs.Faults.{first_fault}
pub use Rattle.fb_geometry.specs.Shape.{Shape, cylinders_of}
pub use Rattle.fb_geometry.specs.declared.layout.Layout.{Layout}
pub use Rattle.fb_geometry.specs.declared.layout.Layout.TheVariants.{PerCylinder, PerTrack}
pub use Rattle.fb_params.specs.Keys.{Key, back_keys, defects_key, from_to, front_keys, grown_key, key_of, must, spares_key, zone_keys}
pub use Rattle.fb_params.specs.ParamsValue.{ascending, grown_of, nth, place_of, point_of, zone_of}
pub use Rattle.fb_params.specs.Reading.{unless_fault}
unfoldable pub use Rattle.fb_params.specs.Reading.{document_of, keeps, params_of, params_of_document, params_of_table}
pub use Rattle.fb_params.specs.Rules.{breaks, comes_before, first_in, first_some, is_integer, is_name_of, is_of, is_row, is_row_within}
pub use Rattle.fb_params.specs.Rules.{is_table, is_within}
pub use Rattle.fb_params.specs.Tables.{elements, elements_at, listed, names_of, number_at, number_of, zones_of}
pub use Rattle.fb_params.specs.declared.key.Key.{Key as DeclaredKey}
pub use Rattle.fb_params.specs.declared.key.Kind.TheVariants.{Number, Rows}
pub use Rattle.fb_params.specs.declared.rule.Rule.{Rule}
pub use Rattle.fb_params.specs.declared.rule.Rule.TheVariants.{InRange, Known, OfKind, Present}
