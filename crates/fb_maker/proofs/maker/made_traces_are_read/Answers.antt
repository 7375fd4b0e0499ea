use Rattle.fb_maker.proofs.TraceRead.{trace_read}
use Rattle.fb_maker.proofs.maker.made_traces_are_read.Goals as goal

pub returns : goal.returns
returns c = trace_read
