use Rattle.std.proofs.Common.{map}
use Rattle.std.specs.String.{string_bytes}
use Rattle.fb_words.proofs.Bounds.{answer_within}
use Rattle.fb_words.proofs.words.read_words.Goals as goal

pub returns-clause-limits : goal.returns-clause-limits
returns-clause-limits c = answer_within (map string_bytes c.args.words.now) c.command_of.result c.command_of.ensures
