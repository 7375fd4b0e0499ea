use Rattle.fb_bgwrite.proofs.Words.{◌≡◌, ◌≤◌, ◌∙◌, Some, slice_get, inl, inr, ap, sym, subst, arith, cases_lt, Track, Shape, IsSound}
use Rattle.fb_bgwrite.proofs.Words.{on_track, AreOnDisk}
use Rattle.fb_bgwrite.proofs.Lengths.{all_of_cylinder, renewed}
use Rattle.fb_bgwrite.proofs.pending.Pending.renew.Goals as goal

pub loop-head-init : goal.loop-head-init
loop-head-init c = λ head i e less. absurd (omega (arith, less))

pub loop-head-preserved : goal.loop-head-preserved
loop-head-preserved c = λ head i e less at wanted. elim (cases_lt head c.loop-head.head) [
  | inl earlier ↦ omega (arith, c.loop-head.invariant head i e earlier at wanted, c.least_on-least.ensures.start)
  | inr here ↦
      let same : head ≡ c.loop-head.head = omega (arith, here, less) in
      let own = subst (λ h. slice_get (on_track (let t : Track = record { cylinder = c.args.cylinder; head = h } in t) c.self.inside.blocks)
      i ≡ Some e) same at in
      c.least_on-least.ensures.each i e (ap (λ xs. slice_get xs i) (c.on.ensures
      ∙ ap (on_track (let t : Track = record { cylinder = c.args.cylinder; head = c.loop-head.head } in t)) c.all.ensures) ∙ own) wanted
]

pub invariant_of-self : goal.invariant_of-self
invariant_of-self c =
    let old = c.self.inside in
    let disk = c.args.disk.now in
    let on_disk = subst (AreOnDisk disk) (sym c.self.view_is) c.requires.blocks in
    let heads = ap (λ (d : Shape). d.heads) c.geometry-2.ensures in
    let all : disk.map.heads ≤ c.loop-head.head = omega (arith, c.loop-head-test.false, c.heads-head-end.ensures.value, heads) in
    let own = all_of_cylinder disk (subst IsSound c.geometry.ensures c.sound.ensures) c.args.cylinder c.loop-head.head c.loop-head.least
    old.blocks on_disk c.self.invariant.1 all c.loop-head.invariant in
    let bounds =
    renewed old.shortest c.renew.new.self c.args.cylinder c.loop-head.least c.renew.ensures old.blocks c.self.invariant.0 own in
    (bounds, c.self.invariant.1)
