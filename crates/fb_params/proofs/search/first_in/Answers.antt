use Rattle.fb_params.proofs.Words.{◌∙◌, table_view}
use Rattle.fb_params.proofs.Searches.{broken-key_of}
use Rattle.fb_params.proofs.search.first_in.Goals as goal

pub returns-in_default : goal.returns-in_default
returns-in_default c = c.broken_in.ensures ∙ broken-key_of c.args.rule c.args.known.now (table_view c.args.table.now) c.in_default.not-Known
