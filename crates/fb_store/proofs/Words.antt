-- The names that the proofs cite, of this crate's words and of the crates below: each proof takes them from here.
pub use Rattle.std.proofs.Common.{Bool, Global, List, None, Option, Some, [], ap, ap₂, arith, cond, drop, eqb→eq, false, get_or, inl, inr}
pub use Rattle.std.proofs.Common.{length, map, refl, set, slice_get, subst, suc, sym, take, true, true≢false, zero, ℕ, ◌%◌, ◌&&◌, ◌++◌}
pub use Rattle.std.proofs.Common.{◌+◌, ◌-◌, ◌<◌, ◌==◌, ◌^◌, ◌∙◌, ◌∷◌, ◌≡◌, ◌≤◌}
pub use Rattle.std.proofs.lemmas.Bool.{cases_lt}
pub use Rattle.std.proofs.lemmas.Bool.Decides.{nat_tests}
pub use Rattle.std.proofs.lemmas.Option.{get_or_from_slice_get}
pub use Rattle.std.proofs.lemmas.Result.{on_ok_weaker}
pub use Rattle.std.specs.BTreeMap.{ContainsKey, get, is_at}
pub use Rattle.std.specs.List.{AllByRecursion, range_with_len, sum_by}
pub use Rattle.std.specs.Option.{IsSome, unwrap_or}
pub use Rattle.std.specs.Ordering.{nat_cmp}
pub use Rattle.std.specs.declared.vec.Vec.{Vec}
unfoldable pub use Rattle.fb_store.specs.Fill.{mark}
pub use Rattle.fb_store.specs.Kept.{kept_runs, run_of}
pub use Rattle.fb_store.specs.Ranges.{begins_at, content_in, held_at, held_of}
pub use Rattle.fb_store.specs.Runs.{IsInRange, IsRun, bad_in, joins, runs_of, same_content, sectors_in, sectors_of, with_content}
pub use Rattle.fb_store.specs.Sparse.{EndsBy, after_dropping, after_taking, ascend, held_in}
pub use Rattle.fb_store.specs.Writes.{after_write, is_within, unwritten}
pub use Rattle.fb_store.specs.declared.content.Content.{Content}
pub use Rattle.fb_store.specs.declared.content.Content.TheVariants.{Filled, Unreadable}
pub use Rattle.fb_store.specs.declared.content.ContentRun.{ContentRun}
pub use Rattle.fb_store.specs.declared.contents.ShortRun.{ShortRun}
pub use Rattle.fb_units.proofs.Lists.{on_err}
