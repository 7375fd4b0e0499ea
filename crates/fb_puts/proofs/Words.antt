-- The names that the proofs cite, of this crate's words and of the crates below: each proof takes them from here.
pub use Rattle.std.proofs.Common.{Err, List, None, Ok, Option, Result, Some, [], ap, arith, drop, false, if◌then◌else◌, inl}
pub use Rattle.std.proofs.Common.{inr, length, map, max, min, refl, rules, slice_get, subst, suc, sym, take, true, zero, ℕ, ◌++◌}
pub use Rattle.std.proofs.Common.{◌+◌, ◌-◌, ◌<◌, ◌∙◌, ◌∷◌, ◌≡◌, ◌≤◌}
pub use Rattle.std.specs.BTreeMap.{BTreeMap, ContainsKey, get, is_at}
pub use Rattle.std.specs.List.{AllByRecursion, flat_map, list_any, sum_by}
pub use Rattle.std.specs.Option.{IsSome}
pub use Rattle.std.specs.Ordering.{nat_cmp}
pub use Rattle.std.specs.Prelude.{IsPermutation, nat_le, nat_lt}
pub use Rattle.std.proofs.lemmas.Bool.{and_parts, cases_Bool, cases_lt, leb-true, ltb-true, true≢false}
pub use Rattle.std.proofs.lemmas.Bool.Decides.{nat_tests}
pub use Rattle.std.proofs.lemmas.List.{drop_all, length_push, map_push}
pub use Rattle.std.proofs.lemmas.List.Sums.{sum_by-cons}
pub use Rattle.std.proofs.lemmas.Result.{err_from_is_err_and}
pub use Rattle.fb_units.proofs.Comparing.{rising_push}
pub use Rattle.fb_units.proofs.Lists.{all_get, get_right, all_push, all_weaker}
pub use Rattle.fb_units.specs.Lines.{fields_of, lines_of}
pub use Rattle.fb_units.specs.Rising.{IsRising}
pub use Rattle.fb_script.specs.Allowed.{tasks, terms_of}
pub use Rattle.fb_puts.specs.Asked.{ranges_in, request_range}
pub use Rattle.fb_puts.specs.Ranges.{AreApart, share}
pub use Rattle.fb_puts.specs.Reader.{IsApart, IsNextPut, IsNextReserve, IsReader, MayFollow, progress, with_step}
pub use Rattle.fb_puts.specs.Reading.{Accepted, Progress, Terms, at_end, fault_at, next_progress, next_read, puts_of, range_of}
pub use Rattle.fb_puts.specs.Reading.{reserve_or_none}
unfoldable pub use Rattle.fb_puts.specs.Reading.{lines_from}
pub use Rattle.fb_puts.specs.Rules.{IsPutOf}
pub use Rattle.fb_puts.specs.Taken.{AreTaken, HasTaken, IsKnown}
pub use Rattle.fb_puts.specs.Verdict.{Answers, accepted}
pub use Rattle.fb_puts.specs.declared.puts.Put.{Put}
pub use Rattle.fb_puts.specs.declared.range.SectorRange.{SectorRange}
