-- A request is served: the gap before it, when its extents begin, and what the gap and the passages deliver.
use Rattle.fb_decide.proofs.Words.{◌≡◌, ℕ, zero, suc, ◌+◌, ◌<◌, ◌≤◌, ◌^◌, List, [], ◌∷◌, ◌++◌, Bool, map, sym, arith, subst}
use Rattle.fb_decide.proofs.Words.{AllByRecursion, range_with_len, all_weaker, all_left, all_right, Track, Shape, IsTrackOf, pos, track_at}
use Rattle.fb_decide.proofs.Words.{Disk, Service, Passage, Extent, passages, media_of, passage_from, passages_of, all_passages_of}
use Rattle.fb_decide.proofs.Words.{IsUnbroken, Holding, Block, BackRow, DeliveryRow, serving, Past, finished, wanted, Served, IsBest, due}
use Rattle.fb_decide.proofs.Words.{carried_rows, caught_in_gap, passed_between, Tells, Background, Start, IsServiceOf, served_from}
use Rattle.fb_decide.proofs.Words.{TellsUpToDate, HasDelivered, HasServed, past_with, held_now}
use Rattle.fb_service.specs.Extents.{FollowOn}
use Rattle.fb_rows.specs.declared.gap.Gap.{Gap}
use Rattle.fb_rows.specs.declared.gap.Plan.{Plan}
use Rattle.fb_rows.specs.declared.back.BackRow.TheVariants.{Gap as BackGap}
use Rattle.fb_model.specs.Deliveries.{gap_of, missed_in_gap}
use Rattle.fb_model.proofs.Passages.{from_on}
use Rattle.fb_plan.specs.Ways.{IsGap}
use Rattle.fb_decide.specs.Start.{IsStartOn}
use Rattle.fb_decide.specs.Deliveries.{HasDeliveredAround}
use Rattle.fb_decide.proofs.Delivering.{delivered-join}

-- the first passage begins when the head has come to its track
in_time : (disk : Disk) (head : Track) (start : ℕ) (write : Bool) (lbn n : ℕ) → 0 < n
    → start + pos disk.mechanism head (track_at disk.map lbn) write ≤ media_of (passages disk head start write lbn n)
unfolding passages
in_time disk head start write lbn zero some = absurd (omega arith)
in_time disk head start write lbn (suc n) some = from_on disk lbn (start + pos disk.mechanism head (track_at disk.map lbn) write)

-- so the planner can plan for the gap before the request
pub is-gap : (disk : Disk) (start : Start) (service : Service) (to : Track) → IsStartOn disk start → IsServiceOf disk start service
    → IsTrackOf disk.map to → to ≡ track_at disk.map start.request.lbn
    → IsGap disk (record { source = start.head; target = to; now = start.instant; deadline = service.media; write = start.request.write })
is-gap disk start service to begins passes on_disk same = record {
  source = begins.head;
  target = on_disk;
  in_time = rw (same, passes.media)
      (in_time disk start.head start.instant start.request.write start.request.lbn start.request.count begins.request.range.some);
  early_enough = omega (arith, passes.later, passes.early);
}

-- an extent begins with its first passage
first_begins : (f : ℕ → Passage) (n from to most : ℕ) → 0 < n → FollowOn from (map f (range_with_len 0 n)) to
    → AllByRecursion (λ (p : Passage). p.begin ≤ most) (map f (range_with_len 0 n)) → from ≤ most
first_begins f zero from to most some follow all = absurd (omega arith)
first_begins f (suc n) from to most some follow all = omega (arith, follow.0, all.0)

extents_begin : (disk : Shape) (extents : List Extent) (most : ℕ) → AllByRecursion (IsUnbroken disk) extents
    → AllByRecursion (λ (p : Passage). p.begin ≤ most) (all_passages_of disk extents)
    → AllByRecursion (λ (e : Extent). e.begin ≤ most) extents
extents_begin disk [] most unbroken all = tt
extents_begin disk (e ∷ es) most unbroken all = (
  first_begins (λ i. passage_from disk (e.first + i) e.begin) e.count e.begin e.end most unbroken.0.some unbroken.0.without_wait
      (all_left (λ (p : Passage). p.begin ≤ most) (passages_of disk e) (all_passages_of disk es) all),
  extents_begin disk es most unbroken.1 (all_right (λ (p : Passage). p.begin ≤ most) (passages_of disk e) (all_passages_of disk es) all),
)

-- no extent begins later than the service ends
pub extents-begin : (disk : Disk) (start : Start) (service : Service) → IsServiceOf disk start service
    → AllByRecursion (λ (e : Extent). e.begin ≤ 10 ^ 19) service.extents.items
extents-begin disk start service passes = extents_begin disk.map service.extents.items (10 ^ 19) passes.unbroken
    (subst (AllByRecursion (λ (p : Passage). p.begin ≤ 10 ^ 19)) (sym passes.passages)
    (all_weaker _ (λ (p : Passage). p.begin ≤ 10 ^ 19) (λ (p : Passage) h. omega (arith, h.1, h.2, passes.finish, passes.early))
    (served_from disk start).passages
    (passed_between disk start.head start.instant start.request.write start.request.lbn start.request.count).1))

-- the gap's deliveries, then those of the ride
module _ (disk : Disk) (holding : Holding) (served : Served) (plan : Plan) (past : Past) where
  abbrev in_gap : Gap → List DeliveryRow
  in_gap gap = caught_in_gap disk (held_now holding) gap plan (wanted past)

  abbrev left : Gap → List Block
  left gap = missed_in_gap disk gap plan (wanted past)

  abbrev opening : Gap → BackRow
  opening gap = BackGap (record { name = served.request.name; gap = gap; plan = plan })

  pub has-delivered-around : (gap : Gap) (rows : List BackRow) (middle after : Background) → gap ≡ gap_of disk served
      → IsBest disk gap (wanted past) plan
      → HasDelivered disk.map past (in_gap gap) (rows ++ opening gap ∷ []) middle → wanted (past_with past (in_gap gap)) ≡ left gap
      → ((later : Past) → TellsUpToDate disk.map later middle
      → HasDelivered disk.map later (carried_rows (held_now holding) served (wanted later)) middle.rows after)
      → HasDeliveredAround disk holding past served rows after
  unfolding due
  has-delivered-around gap rows middle after its_own best first are_left next = record {
    plan = plan;
    best = subst (λ g. IsBest disk g (wanted past) plan) its_own best;
    delivered = subst (λ g. HasDelivered disk.map past (in_gap g ++ carried_rows (held_now holding) served (left g))
        (rows ++ opening g ∷ []) after)
        its_own (delivered-join first (subst (λ bs. HasDelivered disk.map (past_with past (in_gap gap))
        (carried_rows (held_now holding) served bs) middle.rows after) are_left (next (past_with past (in_gap gap)) first.current)));
  }

-- and then the request has finished
pub has-served : (disk : Disk) (holding : Holding) (past : Past) (served : Served) (rows : List BackRow) (middle after : Background)
    → HasDeliveredAround disk holding past served rows middle
    → ((later : Past) → Tells disk.map later middle.sessions middle.blocks
    → Tells disk.map (finished served.request ∷ later) after.sessions after.blocks)
    → after.rows ≡ middle.rows → HasServed disk holding past served rows after
has-served disk holding past served rows middle after all ends same = record {
  around = middle;
  delivered_around = all;
  tells = ends (past_with past (due disk (held_now holding) (serving served all.plan) (wanted past))) all.delivered.current.tells;
  same_rows = same;
}
