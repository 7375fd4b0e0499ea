use Rattle.std.proofs.Common.{ap, arith, length, length-append, refl, rules, take, true, false, Some, ◌≡◌, ◌∙◌}
use Rattle.std.specs.Prelude.{is_some}
use Rattle.std.proofs.lemmas.List.{length-take-le}
use Rattle.fb_desk.specs.Calls.{before}
use Rattle.fb_desk.specs.View.{opens, reads}
use Rattle.fb_streams.proofs.Called.{one_call, one_failed, then_calls, then_stops}
use Rattle.fb_streams.specs.Called.{AreServed, Asked, of_input}
use Rattle.std.proofs.lemmas.Result.{err_from_is_err_and}
use Rattle.fb_streams.proofs.streams.read_whole.Given as given
use Rattle.fb_streams.proofs.streams.read_whole.Goals as goal
use Rattle.fb_streams.proofs.streams.read_whole.Goals.{In_ok-taken}
use Rattle.fb_streams.proofs.Pieces.{input_on, read_all, read_long, read_more}
use Rattle.fb_streams.proofs.Left.{left_here, left_kept}

pub returns-in_err-open_input-clause-calls : goal.returns-in_err-open_input-clause-calls
returns-in_err-open_input-clause-calls g c = λ asked given.
    let gives = err_from_is_err_and c.from_residual.result c.from_residual.ensures.1 in
    rw (gives.1, gives.2) (one_failed asked (of_input c.args.which) (opens c.args.which c.args.name.now false)
    (g.D.Desk.seen c.args.desk.now).calls (g.D.Desk.seen c.open_input.new.self).calls c.in_err-open_input.ensures.call
    (record { asked_for = given; of = refl; failed = refl }))

pub pieces-init : goal.pieces-init
pieces-init g c = record {
  short = omega (arith, ap length c.new-bytes.ensures.items);
  only = c.in_ok-open_input.ensures.only;
  later = c.in_ok-open_input.ensures.cause.later;
  calls = λ asked given. one_call asked (opens c.args.which c.args.name.now true) (g.D.Desk.seen c.args.desk.now).calls
      (g.D.Desk.seen c.open_input.new.self).calls c.in_ok-open_input.ensures.call (record { asked_for = given; succeeded = refl });
  opened = c.in_ok-open_input.ensures.opened;
  left = search rules;
}

-- a read that succeeded, behind the calls so far
one_read : (g : given.Over) (c : In_ok-taken g) (asked : Asked) → asked.inputs c.args.which ≡ Some c.args.name.now
    → AreServed asked (g.D.Desk.seen c.args.desk.now).calls (g.D.Desk.seen c.read_some.new.self).calls
one_read g c asked given =
    then_calls (c.pieces.invariant.calls asked given)
    (one_call asked (reads c.args.which (length c.read_some.new.into) true) (g.D.Desk.seen c.pieces.desk).calls
    (g.D.Desk.seen c.read_some.new.self).calls c.in_ok-taken.ensures.call
    (record { asked_for = (ap is_some given, (let kept = c.read_some.auto.into in omega arith)); succeeded = refl }))

pub pieces-preserved : goal.pieces-preserved
pieces-preserved g c =
    let old = g.D.Desk.seen c.args.desk.now in
    let now = g.D.Desk.seen c.pieces.desk in
    let next = g.D.Desk.seen c.read_some.new.self in
    let told = c.in_ok-taken.ensures in
    let kept = c.pieces.invariant in
    let more = c.in_ok-extend_from_slice.ensures.items in
    let piece = take c.in_ok-taken.taken c.read_some.new.into in
    record {
      short = omega (
        arith,
        ap length more,
        length-append c.pieces.bytes.items piece,
        told.fits,
        length-take-le c.in_ok-taken.taken c.read_some.new.into told.fits,
      );
      only = input_on c.args.which old now next kept.only told.only;
      later = omega (arith, kept.later, told.cause.later);
      calls = one_read g (goal.at.pieces-preserved g c).In_ok-taken;
      opened = told.opened;
      left = ap (λ bytes. before bytes (next.inputs c.args.which).left) more
          ∙ read_more c.pieces.bytes.items piece (now.inputs c.args.which).left (next.inputs c.args.which).left
          (old.held c.args.name.now) kept.left told.bytes;
    }

pub returns-in_err-taken-clause-calls : goal.returns-in_err-taken-clause-calls
returns-in_err-taken-clause-calls g c = λ asked given.
    let gives = err_from_is_err_and c.from_residual-in_err-taken.result c.from_residual-in_err-taken.ensures.1 in
    rw (gives.1, gives.2) (then_stops (c.pieces.invariant.calls asked given)
    (one_failed asked (of_input c.args.which) (reads c.args.which (length c.read_some.new.into) false)
    (g.D.Desk.seen c.pieces.desk).calls (g.D.Desk.seen c.read_some.new.self).calls c.in_err-taken.ensures.call
    (record {
      asked_for = (ap is_some given, (let kept = c.read_some.auto.into in omega arith));
      of = refl;
      failed = refl;
    })))

pub returns-then-taken-eq0-clause-calls : goal.returns-then-taken-eq0-clause-calls
returns-then-taken-eq0-clause-calls g c = one_read g (goal.at.returns-then-taken-eq0-clause-calls g c).In_ok-taken

pub returns-in_err-extend_from_slice-clause-calls : goal.returns-in_err-extend_from_slice-clause-calls
returns-in_err-extend_from_slice-clause-calls g c = λ asked given.
    let gives = err_from_is_err_and c.from_residual-in_err-extend_from_slice.result c.from_residual-in_err-extend_from_slice.ensures.1 in
    rw (gives.1, gives.2) (one_read g (goal.at.returns-in_err-extend_from_slice-clause-calls g c).In_ok-taken asked given)

pub returns-in_err-taken-clause-only : goal.returns-in_err-taken-clause-only
returns-in_err-taken-clause-only g c =
    input_on c.args.which (g.D.Desk.seen c.args.desk.now) (g.D.Desk.seen c.pieces.desk) (g.D.Desk.seen c.read_some.new.self)
    c.pieces.invariant.only c.read_some.ensures.only

pub returns-in_err-taken-clause-opened : goal.returns-in_err-taken-clause-opened
returns-in_err-taken-clause-opened g c = λ _. left_kept c.pieces.bytes.items ((g.D.Desk.seen c.pieces.desk).inputs c.args.which).left _ _
    c.in_err-taken.ensures.kept c.pieces.invariant.left

pub returns-then-taken-eq0-clause-only : goal.returns-then-taken-eq0-clause-only
returns-then-taken-eq0-clause-only g c =
    input_on c.args.which (g.D.Desk.seen c.args.desk.now) (g.D.Desk.seen c.pieces.desk) (g.D.Desk.seen c.read_some.new.self)
    c.pieces.invariant.only c.in_ok-taken.ensures.only

pub returns-then-taken-eq0-clause-opened : goal.returns-then-taken-eq0-clause-opened
returns-then-taken-eq0-clause-opened g c =
    let next = (g.D.Desk.seen c.read_some.new.self).inputs c.args.which in
    λ _. left_here _ next.left _ (read_more c.pieces.bytes.items (take c.in_ok-taken.taken c.read_some.new.into) _ next.left _
    c.pieces.invariant.left c.in_ok-taken.ensures.bytes)

pub returns-then-taken-eq0-clause-whole : goal.returns-then-taken-eq0-clause-whole
returns-then-taken-eq0-clause-whole g c =
    read_all c.pieces.bytes.items _ _ c.pieces.invariant.left (c.in_ok-taken.ensures.at_end c.if-taken-eq0.true)

pub returns-in_err-extend_from_slice-clause-only : goal.returns-in_err-extend_from_slice-clause-only
returns-in_err-extend_from_slice-clause-only g c =
    input_on c.args.which (g.D.Desk.seen c.args.desk.now) (g.D.Desk.seen c.pieces.desk) (g.D.Desk.seen c.read_some.new.self)
    c.pieces.invariant.only c.in_ok-taken.ensures.only

pub returns-in_err-extend_from_slice-clause-opened : goal.returns-in_err-extend_from_slice-clause-opened
returns-in_err-extend_from_slice-clause-opened g c =
    let next = (g.D.Desk.seen c.read_some.new.self).inputs c.args.which in
    λ _. left_here _ next.left _ (read_more c.pieces.bytes.items (take c.in_ok-taken.taken c.read_some.new.into) _ next.left _
    c.pieces.invariant.left c.in_ok-taken.ensures.bytes)

pub returns-clause-opened : goal.returns-clause-opened
returns-clause-opened g c = λ _. left_here _ _ _ c.pieces.invariant.left

pub returns-clause-long : goal.returns-clause-long
returns-clause-long g c = λ _. read_long c.pieces.bytes.items _ _ c.args.limit c.pieces.invariant.left (omega (arith, c.pieces-test.false))
