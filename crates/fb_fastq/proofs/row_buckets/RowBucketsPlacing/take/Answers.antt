use Rattle.fb_fastq.proofs.Words.{◌≡◌, List, ◌++◌, ◌<◌, ◌∙◌, ap, sym, subst, Some, None, IfSome, IsSome, refl, arith, length, MatchOption}
use Rattle.fb_fastq.proofs.Words.{AllByRecursion, sptf, first_least, Position, Waiting, pending_of, IsFirst, IsAlong}
use Rattle.fb_fastq.proofs.Words.{IsCandidate, IsMore, Row, all_of_rows, at_position, IsAt}
use Rattle.fb_fastq.proofs.Least.{waits_there, held_is_in, length_pending}
use Rattle.fb_fastq.proofs.Swept.{some_injective}
use Rattle.fb_fastq.proofs.OneMore.{remove_more, more_left, more_right, least_more, all_less, length_more}
use Rattle.fb_fastq.proofs.Divided.{numbered_left, rows_taken, map_taken}
use Rattle.fb_fastq.proofs.row_buckets.RowBucketsPlacing.take.Goals.{After-self, After-soonest_of_all-pick, After-free_if_empty}
use Rattle.fb_fastq.proofs.row_buckets.RowBucketsPlacing.take.Goals as goal

-- each spot is its request's
spots : (c : After-self)
    → AllByRecursion (λ (w : Waiting). IsAlong c.args.disk.now w.1 w.0.0)
    (c.self.inside.overflow.entries ++ all_of_rows c.self.inside.rows.items)
spots c =
    subst (AllByRecursion (λ (w : Waiting). IsAlong c.args.disk.now w.1 w.0.0))
    (sym (ap (λ v. v.waiting) c.self.view_is)) c.requires.fits

-- what is picked is the map's or the rows'
found : (c : After-soonest_of_all-pick) → MatchOption c.soonest_of_all-pick.result.position
    (IsCandidate c.args.disk.now c.args.head c.args.now c.self.inside.overflow c.soonest_of_all-pick.result.best)
    (λ position. IsAt c.args.disk.now c.args.head c.args.now c.self.inside.rows.items position c.soonest_of_all-pick.result.best)
found c =
    let pick = c.soonest_of_all-pick.result in
    subst (λ (rows : List Row). MatchOption pick.position
    (IsCandidate c.args.disk.now c.args.head c.args.now c.self.inside.overflow pick.best)
    (λ position. IsAt c.args.disk.now c.args.head c.args.now rows position pick.best)) c.as_slice.ensures.value
    c.soonest_of_all-pick.ensures.found

in_rows : (c : After-soonest_of_all-pick) (position : Position) → c.soonest_of_all-pick.result.position ≡ Some position
    → IsAt c.args.disk.now c.args.head c.args.now c.self.inside.rows.items position c.soonest_of_all-pick.result.best
in_rows c position is =
    let best = c.soonest_of_all-pick.result.best in
    subst (λ o. MatchOption o (IsCandidate c.args.disk.now c.args.head c.args.now c.self.inside.overflow best)
    (λ position. IsAt c.args.disk.now c.args.head c.args.now c.self.inside.rows.items position best)) is (found c)

of_map : (c : After-soonest_of_all-pick) → c.soonest_of_all-pick.result.position ≡ None
    → IsCandidate c.args.disk.now c.args.head c.args.now c.self.inside.overflow c.soonest_of_all-pick.result.best
of_map c is =
    let best = c.soonest_of_all-pick.result.best in
    subst (λ o. MatchOption o (IsCandidate c.args.disk.now c.args.head c.args.now c.self.inside.overflow best)
    (λ position. IsAt c.args.disk.now c.args.head c.args.now c.self.inside.rows.items position best)) is (found c)

-- it is no later than any
first : (c : After-soonest_of_all-pick) (w : Waiting) → c.soonest_of_all-pick.result.best.key ≡ w.0
    → c.soonest_of_all-pick.result.best.wait ≡ sptf c.args.disk.now c.args.head c.args.now w.1
    → IsFirst (sptf c.args.disk.now c.args.head c.args.now) w (c.self.inside.overflow.entries ++ all_of_rows c.self.inside.rows.items)
first c w key wait =
    subst (λ (rows : List Row). IsFirst (sptf c.args.disk.now c.args.head c.args.now) w (c.self.inside.overflow.entries ++ all_of_rows rows))
    c.as_slice.ensures.value (c.soonest_of_all-pick.ensures.first w key wait)

pub soonest_of_all-pick-requires : goal.soonest_of_all-pick-requires
soonest_of_all-pick-requires c =
    let entries = c.self.inside.overflow.entries in
    let rows = c.self.inside.rows.items in
    let all = length_pending (entries ++ all_of_rows rows) in
    let some = subst (λ ws. 0 < length (pending_of ws)) (sym (ap (λ v. v.waiting) c.self.view_is)) c.requires.some in
    rw c.as_slice.ensures.value (record {
      some = omega (arith, all, some);
      apart = c.self.invariant.0.numbers.numbered;
      rows = c.self.invariant.0.own_rows;
      occupied = c.self.invariant.1;
      spots = spots ((goal.at.soonest_of_all-pick-requires c).After-self);
      head = c.requires.head;
      now = c.requires.now;
    })

pub take_from-request-requires : goal.take_from-request-requires
take_from-request-requires c =
    record {
      there =
          subst IsSome
          (sym (in_rows ((goal.at.take_from-request-requires c).After-soonest_of_all-pick) c.in-Some.position c.in-Some.is).there)
          refl;
    }

pub overflow_sub-self : goal.overflow_sub-self
overflow_sub-self c =
    let at = in_rows ((goal.at.overflow_sub-self c).After-soonest_of_all-pick) c.in-Some.position c.in-Some.is in
    let new = c.take_from-request.new.rows.items in
    let less =
    subst (λ o. IfSome o (λ w. IsMore w (all_of_rows new) (all_of_rows c.self.inside.rows.items))) at.there
    c.take_from-request.ensures.less in
    let one = length_more at.waiting (all_of_rows new) (all_of_rows c.self.inside.rows.items) less in
    let all = c.self.invariant.0.counted in omega (arith, one, all)

-- the rows have one request less
one_less : (c : After-free_if_empty) (w : Waiting) → at_position c.self.inside.rows.items c.in-Some.position ≡ Some w
    → IsMore w (all_of_rows c.free_if_empty.new.rows.items) (all_of_rows c.self.inside.rows.items)
one_less c w there =
    subst (λ ws. IsMore w ws (all_of_rows c.self.inside.rows.items)) (sym c.free_if_empty.ensures.same)
    (subst (λ o. IfSome o (λ w. IsMore w (all_of_rows c.take_from-request.new.rows.items) (all_of_rows c.self.inside.rows.items))) there
    c.take_from-request.ensures.less)

pub invariant_of-self : goal.invariant_of-self
invariant_of-self c =
    let at = in_rows ((goal.at.invariant_of-self c).After-soonest_of_all-pick) c.in-Some.position c.in-Some.is in
    let inside = c.self.inside in
    let new = c.free_if_empty.new.rows.items in
    let less = one_less ((goal.at.invariant_of-self c).After-free_if_empty) at.waiting at.there in
    let own = c.free_if_empty.ensures.rows (c.take_from-request.ensures.rows c.self.invariant.0.own_rows) in (
      rows_taken inside.overflow.entries inside.rows.items new inside.in_rows inside.joined at.waiting c.self.invariant.0 less own,
      c.free_if_empty.ensures.occupied (c.take_from-request.ensures.occupied inside.occupied c.self.invariant.1),
    )

pub take_out-requires : goal.take_out-requires
take_out-requires c =
    let is = of_map ((goal.at.take_out-requires c).After-soonest_of_all-pick) c.in-None.is in
    record { has = waits_there c.self.inside.overflow c.soonest_of_all-pick.result.best.key is.request is.waits }

pub invariant_of-self-in-None : goal.invariant_of-self-in-None
invariant_of-self-in-None c =
    let inside = c.self.inside in
    let map = inside.overflow in
    let key = c.soonest_of_all-pick.result.best.key in
    let is = of_map ((goal.at.invariant_of-self-in-None c).After-soonest_of_all-pick) c.in-None.is in
    let w : Waiting = (key, is.request) in
    let apart = numbered_left map.entries (all_of_rows inside.rows.items) c.self.invariant.0.numbers.numbered in
    let less =
    subst (λ es. IsMore w es map.entries) (sym c.take_out.ensures.entries)
    (remove_more w map.entries apart (held_is_in key.0 key.1 is.request map.entries is.waits)) in (
      map_taken map.entries c.take_out.new.waiting.entries inside.rows.items inside.in_rows inside.joined w c.self.invariant.0 less,
      c.self.invariant.1,
    )

pub returns-in-Some-clause-least : goal.returns-in-Some-clause-least
returns-in-Some-clause-least c =
    let at = in_rows ((goal.at.returns-in-Some-clause-least c).After-soonest_of_all-pick) c.in-Some.position c.in-Some.is in
    let inside = c.self.inside in
    let rank = sptf c.args.disk.now c.args.head c.args.now in
    let new = c.free_if_empty.new.rows.items in
    let entries = inside.overflow.entries in
    let w = at.waiting in
    let less = one_less ((goal.at.returns-in-Some-clause-least c).After-free_if_empty) at.waiting at.there in
    let value = subst (λ o. IfSome o (λ w. c.take_from-request.result ≡ w.1)) at.there c.take_from-request.ensures.value in
    let earliest = first ((goal.at.returns-in-Some-clause-least c).After-soonest_of_all-pick) w at.key at.wait in
    subst (λ ws. first_least rank (pending_of ws) ≡ Some (c.take_from-request.result, pending_of (entries ++ all_of_rows new)))
    (ap (λ v. v.waiting) c.self.view_is)
    (subst (λ r. first_least rank (pending_of (entries ++ all_of_rows inside.rows.items))
    ≡ Some (r, pending_of (entries ++ all_of_rows new))) (sym value)
    (least_more w (entries ++ all_of_rows new) (entries ++ all_of_rows inside.rows.items)
    (more_left w (all_of_rows new) (all_of_rows inside.rows.items) less entries) rank c.self.invariant.0.numbers.numbered earliest))

pub returns-in-Some-clause-fits : goal.returns-in-Some-clause-fits
returns-in-Some-clause-fits c =
    let at = in_rows ((goal.at.returns-in-Some-clause-fits c).After-soonest_of_all-pick) c.in-Some.position c.in-Some.is in
    let inside = c.self.inside in
    let new = c.free_if_empty.new.rows.items in
    let entries = inside.overflow.entries in
    let less = one_less ((goal.at.returns-in-Some-clause-fits c).After-free_if_empty) at.waiting at.there in
    all_less at.waiting (entries ++ all_of_rows new) (entries ++ all_of_rows inside.rows.items)
    (more_left at.waiting (all_of_rows new) (all_of_rows inside.rows.items) less entries)
    (λ w. IsAlong c.args.disk.now w.1 w.0.0) (spots ((goal.at.returns-in-Some-clause-fits c).After-self))

pub returns-in-None-clause-least : goal.returns-in-None-clause-least
returns-in-None-clause-least c =
    let inside = c.self.inside in
    let map = inside.overflow in
    let rank = sptf c.args.disk.now c.args.head c.args.now in
    let new = c.take_out.new.waiting.entries in
    let rows = all_of_rows inside.rows.items in
    let best = c.soonest_of_all-pick.result.best in
    let is = of_map ((goal.at.returns-in-None-clause-least c).After-soonest_of_all-pick) c.in-None.is in
    let w : Waiting = (best.key, is.request) in
    let apart = numbered_left map.entries rows c.self.invariant.0.numbers.numbered in
    let less =
    subst (λ es. IsMore w es map.entries) (sym c.take_out.ensures.entries)
    (remove_more w map.entries apart (held_is_in best.key.0 best.key.1 is.request map.entries is.waits)) in
    let value = some_injective is.request c.take_out.result (sym is.waits ∙ c.take_out.ensures.value) in
    let earliest =
    first ((goal.at.returns-in-None-clause-least c).After-soonest_of_all-pick) w refl is.wait in
    subst (λ ws. first_least rank (pending_of ws) ≡ Some (c.take_out.result, pending_of (new ++ rows))) (ap (λ v. v.waiting) c.self.view_is)
    (subst (λ r. first_least rank (pending_of (map.entries ++ rows)) ≡ Some (r, pending_of (new ++ rows))) value
    (least_more w (new ++ rows) (map.entries ++ rows)
    (more_right w new map.entries less rows) rank c.self.invariant.0.numbers.numbered earliest))

pub returns-in-None-clause-fits : goal.returns-in-None-clause-fits
returns-in-None-clause-fits c =
    let inside = c.self.inside in
    let map = inside.overflow in
    let new = c.take_out.new.waiting.entries in
    let rows = all_of_rows inside.rows.items in
    let key = c.soonest_of_all-pick.result.best.key in
    let is = of_map ((goal.at.returns-in-None-clause-fits c).After-soonest_of_all-pick) c.in-None.is in
    let w : Waiting = (key, is.request) in
    let apart = numbered_left map.entries rows c.self.invariant.0.numbers.numbered in
    let less =
    subst (λ es. IsMore w es map.entries) (sym c.take_out.ensures.entries)
    (remove_more w map.entries apart (held_is_in key.0 key.1 is.request map.entries is.waits)) in
    all_less w (new ++ rows) (map.entries ++ rows) (more_right w new map.entries less rows) (λ x. IsAlong c.args.disk.now x.1 x.0.0)
    (spots ((goal.at.returns-in-None-clause-fits c).After-self))
