use Rattle.fb_decide.proofs.Words.{◌++◌, ap, ◌∙◌, fold, take_call, calls_due, test_rows_by}
use Rattle.fb_model.specs.Segments.{with_choices}
use Rattle.fb_tasks.proofs.Calls.{called-chosen, called-tested}
use Rattle.fb_decide.proofs.Calling.{may-choose}
use Rattle.fb_decide.proofs.background.Background.prepare.Goals as goal

pub settle-requires : goal.settle-requires
settle-requires c =
    let disk = c.args.disk.now.map in
    let calls = c.args.calls.now.calls.items in
    let past = c.requires.called.0 in
    let taken = fold (take_call disk) past (calls_due calls past c.args.now) in (
      taken,
      may-choose disk calls c.requires.script taken c.in_ok-next.next c.apply_calls.new.self.sessions c.apply_calls.new.self.blocks
          (c.in_ok-next.ensures.called past c.requires.called.1 c.requires.called.2)
          (c.in_ok-next.ensures.tells past c.requires.called.1 c.requires.called.2),
    )

pub returns : goal.returns
returns c = λ past called tells.
    let disk = c.args.disk.now.map in
    let calls = c.args.calls.now.calls.items in
    let next = c.in_ok-next.next in
    let taken = fold (take_call disk) past (calls_due calls past c.args.now) in
    let taken_called = c.in_ok-next.ensures.called past called tells in
    let taken_tells = c.in_ok-next.ensures.tells past called tells in
    let may = may-choose disk calls c.requires.script taken next c.apply_calls.new.self.sessions c.apply_calls.new.self.blocks taken_called
    taken_tells in
    record {
      current = record {
        tells = c.in_ok-settle.ensures.tells taken may;
        up_to_date = c.in_ok-settle.ensures.up_to_date taken may;
      };
      called = called-tested disk calls (with_choices disk taken) next (called-chosen disk calls taken next taken_called
          c.apply_calls.new.self.sessions c.apply_calls.new.self.blocks taken_tells) (test_rows_by disk calls past c.args.now);
      rows_after = c.in_ok-settle.ensures.rows taken may
          ∙ ap (λ rows. rows ++ test_rows_by disk calls past c.args.now) c.in_ok-next.ensures.rows;
      ahead = c.in_ok-next.ensures.ahead;
    }
