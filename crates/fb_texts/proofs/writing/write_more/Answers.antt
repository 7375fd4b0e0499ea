use Rattle.std.proofs.Common.{ap, arith, refl}
use Rattle.std.specs.Prelude.{is_some}
use Rattle.fb_streams.proofs.Called.{then_calls, then_stops}
use Rattle.fb_streams.proofs.Pieces.{output_on}
use Rattle.fb_texts.proofs.Pieces.{more_written, part_written, rose_since, same_name}
use Rattle.fb_texts.proofs.writing.write_more.Goals as goal

pub returns-in-Ok-clause-written : goal.returns-in-Ok-clause-written
returns-in-Ok-clause-written g c = λ first name text wrote.
    let which = c.args.which in
    let old = g.D.Desk.seen c.args.desk.now in
    let new = g.D.Desk.seen c.write_whole.new.desk in
    let told = c.in-Ok.ensures in
    record {
      only = output_on which first old new wrote.only told.only;
      later = omega (arith, told.cause.later, wrote.later);
      calls = λ asked given. then_calls (wrote.calls asked given) (told.calls asked (ap is_some given));
      whole = record {
        begun = told.begun;
        named = same_name name (old.outputs which).name (new.outputs which).name told.name wrote.whole.named;
        written = more_written (old.outputs which).written (new.outputs which).written text c.args.more.now wrote.whole.written told.whole;
      };
    }

pub returns-in-Err-clause-written : goal.returns-in-Err-clause-written
returns-in-Err-clause-written g c = λ first name text wrote.
    let which = c.args.which in
    let old = g.D.Desk.seen c.args.desk.now in
    let new = g.D.Desk.seen c.write_whole.new.desk in
    let told = c.in-Err.ensures in
    record {
      only = output_on which first old new wrote.only told.only;
      cause = (
        refl,
        rose_since (first.outputs which).faults (old.outputs which).faults (new.outputs which).faults wrote.later told.cause.failed,
      );
      calls = λ asked given. then_stops (wrote.calls asked given) (told.calls asked (ap is_some given));
      front = λ begun. record {
        named = same_name name (old.outputs which).name (new.outputs which).name told.name wrote.whole.named;
        written = part_written (old.outputs which).written (new.outputs which).written text c.args.more.now wrote.whole.written told.front;
      };
    }
