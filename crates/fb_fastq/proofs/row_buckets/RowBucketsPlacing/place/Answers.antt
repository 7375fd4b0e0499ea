use Rattle.std.proofs.lemmas.Result.{IfOk-from_err}
use Rattle.fb_fastq.proofs.Words.{◌≡◌, ◌++◌, ◌∷◌, ◌∙◌, [], ℕ, List, ap, sym, subst, AllByRecursion, Waiting, order, insert_entry}
use Rattle.fb_fastq.proofs.Words.{on_err, pending_of, IsAlong, IsMore, all_of_rows}
use Rattle.fb_fastq.proofs.OneMore.{insert_more, more_left, more_right, pending_more, all_more}
use Rattle.fb_fastq.proofs.Divided.{numbers_left, map_joined, rows_joined}
use Rattle.fb_fastq.proofs.row_buckets.RowBucketsPlacing.place.Goals.{After-self}
use Rattle.fb_fastq.proofs.row_buckets.RowBucketsPlacing.place.Goals as goal

pub add-requires : goal.add-requires
add-requires c =
    numbers_left c.self.inside.overflow.entries (all_of_rows c.self.inside.rows.items) c.self.inside.joined c.self.invariant.0.numbers

module _ (c : After-self) (spot : ℕ) where
  -- the one that joins
  abbrev one : Waiting
  one = ((spot, c.self.inside.joined), c.args.request)

  abbrev all : List Waiting
  all = c.self.inside.overflow.entries ++ all_of_rows c.self.inside.rows.items

  in_map : (new : List Waiting) → new ≡ insert_entry order c.self.inside.overflow.entries (spot, c.self.inside.joined) c.args.request
      → IsMore one c.self.inside.overflow.entries new
  in_map new is =
      let entries = c.self.inside.overflow.entries in
      let own = numbers_left entries (all_of_rows c.self.inside.rows.items) c.self.inside.joined c.self.invariant.0.numbers in
      subst (IsMore one entries) (sym is) (insert_more spot c.self.inside.joined c.args.request entries own.given)

  beside_rows : (new : List Waiting) → new ≡ insert_entry order c.self.inside.overflow.entries (spot, c.self.inside.joined) c.args.request
      → IsMore one all (new ++ all_of_rows c.self.inside.rows.items)
  beside_rows new is = more_right one c.self.inside.overflow.entries new (in_map new is) (all_of_rows c.self.inside.rows.items)

  beside_map : (new : List Waiting) → IsMore one (all_of_rows c.self.inside.rows.items) new
      → IsMore one all (c.self.inside.overflow.entries ++ new)
  beside_map new more = more_left one (all_of_rows c.self.inside.rows.items) new more c.self.inside.overflow.entries

  module _ (new : List Waiting) (more : IsMore one all new) where
    pending_then : pending_of new ≡ pending_of c.args.self.now.waiting ++ c.args.request ∷ []
    pending_then =
        subst (λ ws. pending_of new ≡ pending_of ws ++ c.args.request ∷ []) (ap (λ v. v.waiting) c.self.view_is)
        (pending_more one all new more c.self.invariant.0.numbers.given)

    -- each spot is its request's
    along_then : IsAlong c.args.disk.now c.args.request spot → AllByRecursion (λ w. IsAlong c.args.disk.now w.1 w.0.0) new
    along_then along = all_more one all new more (λ w. IsAlong c.args.disk.now w.1 w.0.0) along
        (subst (AllByRecursion (λ (w : Waiting). IsAlong c.args.disk.now w.1 w.0.0))
        (sym (ap (λ v. v.waiting) c.self.view_is)) c.requires.fits)

pub invariant_of-self-then-not-has_room : goal.invariant_of-self-then-not-has_room
invariant_of-self-then-not-has_room c =
    let inside = c.self.inside in
    let spot = c.along-spot.result in
    let more = in_map ((goal.at.invariant_of-self-then-not-has_room c).After-self) spot
    c.add.new.waiting.entries c.in_ok-add.ensures.entries in (
      map_joined inside.overflow.entries c.add.new.waiting.entries inside.rows.items inside.in_rows spot inside.joined c.args.request
          c.self.invariant.0 more,
      c.self.invariant.1,
    )

pub returns-then-not-has_room-clause-ok : goal.returns-then-not-has_room-clause-ok
returns-then-not-has_room-clause-ok c =
    let at = (goal.at.returns-then-not-has_room-clause-ok c).After-self in
    pending_then at c.along-spot.result _ (beside_rows at c.along-spot.result c.add.new.waiting.entries c.in_ok-add.ensures.entries)

pub returns-then-not-has_room-clause-fits : goal.returns-then-not-has_room-clause-fits
returns-then-not-has_room-clause-fits c =
    let at = (goal.at.returns-then-not-has_room-clause-fits c).After-self in
    along_then at c.along-spot.result _ (beside_rows at c.along-spot.result c.add.new.waiting.entries c.in_ok-add.ensures.entries)
    c.along-spot.ensures

pub invariant_of-self-2 : goal.invariant_of-self-2
invariant_of-self-2 c =
    let inside = c.self.inside in (
      rows_joined inside.overflow.entries inside.rows.items c.put.new.rows.items inside.in_rows c.along-spot.result inside.joined
          c.args.request c.self.invariant.0 c.in_ok-put.ensures.more (c.in_ok-put.ensures.rows c.self.invariant.0.own_rows),
      c.in_ok-put.ensures.occupied,
    )

pub returns-clause-ok : goal.returns-clause-ok
returns-clause-ok c =
    let at = (goal.at.returns-clause-ok c).After-self in
    pending_then at c.along-spot.result _ (beside_map at c.along-spot.result (all_of_rows c.put.new.rows.items) c.in_ok-put.ensures.more)

pub returns-clause-fits : goal.returns-clause-fits
returns-clause-fits c =
    let at = (goal.at.returns-clause-fits c).After-self in
    along_then at c.along-spot.result _ (beside_map at c.along-spot.result (all_of_rows c.put.new.rows.items) c.in_ok-put.ensures.more)
    c.along-spot.ensures

pub put-requires-clause-on : goal.put-requires-clause-on
put-requires-clause-on c = c.cylinder_around-row.ensures

-- out of memory for the map
pub invariant_of-self : goal.invariant_of-self
invariant_of-self c = rw c.in_err-add.ensures.err c.self.invariant

pub returns-in_err-add : goal.returns-in_err-add
returns-in_err-add c =
    let result = c.from_residual.result in
    let rows = all_of_rows c.self.inside.rows.items in
    let same = ap (λ (ws : List Waiting). ws ++ rows) c.in_err-add.ensures.err ∙ ap (λ v. v.waiting) c.self.view_is in record {
      ok = IfOk-from_err result _ c.from_residual.ensures.0;
      err = on_err result (ap pending_of same);
      fits = subst (AllByRecursion (λ (w : Waiting). IsAlong c.args.disk.now w.1 w.0.0)) (sym same) c.requires.fits;
    }

-- out of memory for a row
pub invariant_of-self-in_err-put : goal.invariant_of-self-in_err-put
invariant_of-self-in_err-put c =
    let is = c.self.invariant.0 in
    let put = c.in_err-put.ensures in (
      record {
        numbers = rw put.err is.numbers;
        own_rows = put.rows is.own_rows;
        counted = rw put.err is.counted;
        few = is.few;
      },
      put.occupied,
    )

pub returns-in_err-put : goal.returns-in_err-put
returns-in_err-put c =
    let result = c.from_residual-in_err-put.result in
    let entries = c.self.inside.overflow.entries in
    let same = ap (λ (ws : List Waiting). entries ++ ws) c.in_err-put.ensures.err ∙ ap (λ v. v.waiting) c.self.view_is in record {
      ok = IfOk-from_err result _ c.from_residual-in_err-put.ensures.0;
      err = on_err result (ap pending_of same);
      fits = subst (AllByRecursion (λ (w : Waiting). IsAlong c.args.disk.now w.1 w.0.0)) (sym same) c.requires.fits;
    }
