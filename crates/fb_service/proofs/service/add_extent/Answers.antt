use Rattle.fb_service.proofs.Words.{◌≡◌, ◌+◌, ◌≤◌, [], ◌++◌, refl, ap, sym, ◌∙◌, subst, arith, append_assoc, append-nil, AllByRecursion}
use Rattle.fb_service.proofs.Words.{Shape, passages_of, all_passages_of, IsUnbroken}
use Rattle.std.proofs.lemmas.Bool.{true≢false, eqb-true}
use Rattle.fb_units.proofs.{Tracks.same_tracks, Lists.all_push}
use Rattle.fb_service.proofs.{Joining.joined-passages, Joining.joined-unbroken, Serving.all_served}
use Rattle.fb_service.proofs.service.add_extent.Goals as goal
use Rattle.fb_service.proofs.service.add_extent.Goals.{then-eq, else-eq}

-- the extent goes on where the last one ends
goes-on : (c : goal.After-last-then-next-last-1) → (c.args.next.track ≡ c.args.last.now.track) × (c.args.next.begin ≡ c.args.last.now.end)
goes-on c = elim c.if-eq.branch [
  | then-eq w ↦ (
    same_tracks c.args.next.track c.args.last.now.track (sym w.if-eq.ensures),
    eqb-true c.args.next.begin c.args.last.now.end (sym w.without_wait-is ∙ c.if-without_wait.true),
  )
  | else-eq w ↦ absurd (true≢false (sym c.if-without_wait.true ∙ w.without_wait-is ∙ w.if-eq.false))
]

pub returns-then-next-last : goal.returns-then-next-last
returns-then-next-last c =
    let disk = c.args.disk.now.map in
    let on = goes-on c in
    let turn : c.args.next.end ≤ c.args.last.now.begin + disk.rotation =
    omega (arith, c.if-next-last.true, c.rotation-rotation.ensures.value, ap (λ (d : Shape). d.rotation) c.geometry.ensures) in
    record {
      passages = ap (λ ps. all_passages_of disk c.args.extents.now.items ++ ps)
          (joined-passages disk c.args.last.now c.args.next _ c.requires.unbroken c.requires.next_unbroken c.requires.timed c.requires.next
          on.0 on.1 c.requires.forward turn refl refl refl refl refl)
          ∙ sym
          (append_assoc (all_passages_of disk c.args.extents.now.items) (passages_of disk c.args.last.now) (passages_of disk c.args.next));
      unbroken = joined-unbroken disk c.args.last.now c.args.next _ c.requires.unbroken c.requires.next_unbroken c.requires.timed
          c.requires.next on.0 on.1 c.requires.forward turn refl refl refl refl refl;
      extents = c.requires.extents;
      track = sym on.0;
      next = omega (arith, c.requires.next);
      few = omega arith;
      forward = omega (arith, c.requires.takes_time, c.requires.after);
      end = refl;
    }

pub returns-in_ok-push-clause-passages : goal.returns-in_ok-push-clause-passages
returns-in_ok-push-clause-passages c = ap (λ ps. ps ++ passages_of c.args.disk.now.map c.args.next)
    (all_served c.args.disk.now.map c.args.extents.now.items c.push.new.self.items c.args.last.now [] _ c.in_ok-push.ensures.ok refl
    (append-nil _))

pub returns-in_ok-push-clause-extents : goal.returns-in_ok-push-clause-extents
returns-in_ok-push-clause-extents c = subst (AllByRecursion (IsUnbroken c.args.disk.now.map)) (sym c.in_ok-push.ensures.ok)
    (all_push (IsUnbroken c.args.disk.now.map) c.args.extents.now.items c.args.last.now c.requires.extents c.requires.unbroken)
