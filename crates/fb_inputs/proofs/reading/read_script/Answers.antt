use Rattle.fb_streams.proofs.Called.{no_call}
use Rattle.fb_inputs.proofs.reading.read_script.Goals as goal

pub returns-in-None-clause-calls : goal.returns-in-None-clause-calls
returns-in-None-clause-calls g c = λ asked given. no_call
