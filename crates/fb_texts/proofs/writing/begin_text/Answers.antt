use Rattle.std.proofs.Common.{[], false, refl, true}
use Rattle.fb_desk.specs.View.{begins}
use Rattle.fb_streams.proofs.Called.{one_call, one_failed}
use Rattle.fb_streams.specs.Called.{of_output}
use Rattle.fb_texts.proofs.Pieces.{front_of_none}
use Rattle.fb_texts.proofs.writing.begin_text.Goals as goal

pub returns-clause-written : goal.returns-clause-written
returns-clause-written g c =
    let told = c.in-Ok.ensures in
    record {
      only = told.only;
      later = told.cause.later;
      calls = λ asked given. one_call asked (begins c.args.which c.args.name.now true) (g.D.Desk.seen c.args.desk.now).calls
          (g.D.Desk.seen c.begin_output.new.self).calls told.call (record { asked_for = given; succeeded = refl });
      whole = record { begun = told.begun; named = told.named; written = told.empty };
    }

pub returns-in_default-clause-written : goal.returns-in_default-clause-written
returns-in_default-clause-written g c =
    let told = c.in_default.ensures in
    record {
      only = told.only;
      cause = (refl, told.cause.failed);
      calls = λ asked given. one_failed asked (of_output c.args.which) (begins c.args.which c.args.name.now false)
          (g.D.Desk.seen c.args.desk.now).calls (g.D.Desk.seen c.begin_output.new.self).calls told.call
          (record { asked_for = given; of = refl; failed = refl });
      front = front_of_none ((g.D.Desk.seen c.begin_output.new.self).outputs c.args.which) c.args.name.now [] told.not_begun;
    }
