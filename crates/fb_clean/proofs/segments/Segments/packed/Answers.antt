use Rattle.std.proofs.Common.{◌≡◌, ap, subst, length, arith, IfOk}
use Rattle.fb_store.specs.Runs.{runs_of}
use Rattle.fb_clean.specs.Segments.{packed_sectors}
use Rattle.fb_clean.proofs.Kept.{packed_at, runs_same}
use Rattle.fb_clean.proofs.segments.Segments.packed.Goals as goal

pub returns : goal.returns
returns c =
    let added = c.requires in
    let size = ap (λ v. length v.segments) c.self.view_is in
    let as_many = c.self.invariant.0.as_many in
    subst (λ v. IfOk c.pack.result (λ runs. runs ≡ runs_of (packed_sectors v c.args.segment))) c.self.view_is
    (runs_same c.pack.result _ _
    (packed_at (record {
      block = c.self.inside.block;
      segments = c.self.inside.segments.items;
      unfinished = c.self.inside.unfinished;
      taken = c.self.inside.taken.items;
    }) c.args.segment c.index.result.now c.index-2.result.now c.live.result.now (omega (arith, added.0, added.1))
    (omega (arith, added.0, added.1)) c.index.ensures c.index-2.ensures c.live.ensures.value)
    c.pack.ensures)
