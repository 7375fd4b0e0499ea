use Rattle.fb_units.proofs.Lists.{all_from_index}
use Rattle.fb_units.specs.declared.types.Name.TheVariants.{Traced}
use Rattle.fb_fastq.proofs.Words.{◌≡◌, Some, slice_get, get_or, length, false, refl, sym, subst, ap, ◌∙◌, arith, inl, inr, cases_lt}
use Rattle.fb_fastq.proofs.Words.{slice_get_read, slice_get-get_or, slice_get_within, Candidate, Position, Waiting, IsAlong, Row, RulesOut}
use Rattle.fb_fastq.proofs.Words.{RulesOutAll, IsOnCylinder}
use Rattle.fb_fastq.proofs.{Swept.some_injective, Sweeps.no_later_trans, InRows.held_in_row, InRows.held_on}
use Rattle.fb_fastq.proofs.{InRows.same_row_of, InRows.still_ruled_out, InRows.rules_out_own, InRows.picks_one, InRows.in_row}
use Rattle.fb_fastq.proofs.rows.soonest_of_row.Goals.{After-index-rows-number, In-loop-index}
use Rattle.fb_fastq.proofs.rows.soonest_of_row.Goals as goal

abbrev blank : Waiting
blank = ((0, 0), record { name = Traced 0; arrival = 0; lbn = 0; count = 0; write = false })

pub loop-index-init : goal.loop-index-init
loop-index-init c = record {
  pick = λ limit is. is;
  before = inr (refl, omega arith);
  seen = λ k w lt e. absurd (omega (arith, lt));
}

-- the row is that of the cylinder of the arrival
there : (c : After-index-rows-number) → slice_get c.args.rows.now c.args.arrival.now.cylinder ≡ Some c.index-rows-number.result
there c = slice_get_read c.args.rows.now (length c.args.rows.now) c.args.arrival.now.cylinder c.index-rows-number.result refl
    (omega (arith, c.if-rows-number.false)) c.index-rows-number.is

-- the request of a turn is along the disk, and on the cylinder
fits : (c : In-loop-index) → IsAlong c.args.disk.now (get_or c.as_slice-row.result.now c.loop-index.index blank).1
    (get_or c.as_slice-row.result.now c.loop-index.index blank).0.0
    × IsOnCylinder c.args.arrival.now.cylinder (get_or c.as_slice-row.result.now c.loop-index.index blank).0.0
fits c =
    let ws = c.as_slice-row.result.now in
    let w = get_or ws c.loop-index.index blank in
    let is = there (goal.at.least_wait-requires-clause-along c).After-index-rows-number in
    let at = slice_get-get_or ws c.loop-index.index blank c.loop-index-test.true in (
      held_in_row (λ w. IsAlong c.args.disk.now w.1 w.0.0) c.args.rows.now c.args.arrival.now.cylinder c.index-rows-number.result ws
          c.loop-index.index w c.requires.spots is c.as_slice-row.ensures.value at,
      held_on c.args.rows.now c.args.arrival.now.cylinder c.index-rows-number.result ws c.loop-index.index w c.requires.rows is
          c.as_slice-row.ensures.value at,
    )

pub least_wait-requires-clause-along : goal.least_wait-requires-clause-along
least_wait-requires-clause-along c = (fits c).0

pub least_wait-requires-clause-on : goal.least_wait-requires-clause-on
least_wait-requires-clause-on c = (fits c).1

pub wait-wait-requires-clause-along : goal.wait-wait-requires-clause-along
wait-wait-requires-clause-along c = (fits (goal.at.wait-wait-requires-clause-along c).In-loop-index).0

pub wait-wait-requires-clause-on : goal.wait-wait-requires-clause-on
wait-wait-requires-clause-on c = (fits (goal.at.wait-wait-requires-clause-on c).In-loop-index).1

pub loop-index-preserved-then-pick-least_wait : goal.loop-index-preserved-then-pick-least_wait
loop-index-preserved-then-pick-least_wait c =
    let disk = c.args.disk.now in
    let head = c.args.from.now.track in
    let now = c.args.from.now.instant in
    let ws = c.as_slice-row.result.now in
    let index = c.loop-index.index in
    let best = c.loop-index.pick.best in
    let w = get_or ws index blank in
    let at = slice_get-get_or ws index blank c.loop-index-test.true in
    let longer = c.if-pick-least_wait.true in
    let least = c.least_wait.ensures.least in
    let soon = c.least_wait.ensures.soon in record {
      pick = c.loop-index.invariant.pick;
      before = c.loop-index.invariant.before;
      seen = λ k x lt e. elim (cases_lt k index) [
        | inl less ↦ c.loop-index.invariant.seen k x less e
        | inr ge ↦
            let same : k ≡ index = omega (arith, lt, ge) in
            let one : w ≡ x = some_injective w x (sym at ∙ (ap (slice_get ws) (sym same) ∙ e)) in
            subst (RulesOut disk head now best) one (inl (omega (arith, longer, least)), omega (arith, longer, soon))
      ];
    }

pub loop-index-preserved : goal.loop-index-preserved
loop-index-preserved c =
    let disk = c.args.disk.now in
    let head = c.args.from.now.track in
    let now = c.args.from.now.instant in
    let rows = c.args.rows.now in
    let ws = c.as_slice-row.result.now in
    let index = c.loop-index.index in
    let row = c.index-rows-number.result in
    let old = c.loop-index.pick in
    let new = c.sooner-pick.result in
    let is = c.sooner-pick.ensures in
    let w = get_or ws index blank in
    let next : Candidate = record { key = w.0; wait = c.wait-wait.result } in
    let position : Position = record { row = c.args.arrival.now.cylinder; index = index } in
    let is_there = there (goal.at.loop-index-preserved c).After-index-rows-number in
    let at = slice_get-get_or ws index blank c.loop-index-test.true in
    let stands = in_row disk head now rows position row w is_there (subst (λ xs. slice_get xs index ≡ Some w) c.as_slice-row.ensures.value
    at) in
    record {
      pick = λ limit was. picks_one disk head now rows limit old new next position w
          (c.loop-index.invariant.pick limit was) stands refl c.wait-wait.ensures.value is.one is.first;
      before = no_later_trans new.best.wait new.best.key.1 old.best.wait old.best.key.1 c.args.pick.best.wait c.args.pick.best.key.1
          is.first c.loop-index.invariant.before;
      seen = λ k x lt e. elim (cases_lt k index) [
        | inl less ↦ still_ruled_out disk head now new.best old.best x is.first (c.loop-index.invariant.seen k x less e)
        | inr ge ↦
            let same : k ≡ index = omega (arith, lt, ge) in
            let one : w ≡ x = some_injective w x (sym at ∙ (ap (slice_get ws) (sym same) ∙ e)) in
            subst (RulesOut disk head now new.best) one
            (rules_out_own disk head now new.best next w is.second refl c.wait-wait.ensures.value c.wait-wait.ensures.soon)
      ];
    }

pub returns-clause-least : goal.returns-clause-least
returns-clause-least c = λ row e.
    let disk = c.args.disk.now in
    let head = c.args.from.now.track in
    let now = c.args.from.now.instant in
    let rows = c.args.rows.now in
    let ws = c.as_slice-row.result.now in
    let best = c.loop-index.pick.best in
    let one = same_row_of rows c.args.arrival.now.cylinder c.index-rows-number.result row
    (there (goal.at.returns-clause-least c).After-index-rows-number) e in
    subst (λ (r : Row). RulesOutAll disk head now best r.items) one
    (subst (RulesOutAll disk head now best) c.as_slice-row.ensures.value
    (all_from_index (RulesOut disk head now best) ws (λ k w at.
    c.loop-index.invariant.seen k w (let within = slice_get_within ws k w at in omega (arith, within, c.loop-index-test.false)) at)))
