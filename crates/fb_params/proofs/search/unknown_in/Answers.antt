use Rattle.fb_params.proofs.Words.{◌++◌, map, ap, Some, None, ◌∙◌, key_of}
use Rattle.fb_params.proofs.Searches.{unknown-view}
use Rattle.fb_params.proofs.search.unknown_in.Goals as goal

pub returns-in_err-name : goal.returns-in_err-name
returns-in_err-name c =
    rw c.from_residual.ensures (unknown-view (map key_of c.args.front.now ++ map key_of c.args.back.now) c.args.table.now.entries None
    c.in_err-name.ensures.first c.in_err-name.ensures.ordered)

pub returns : goal.returns
returns c =
    ap Some c.as_str.ensures.value ∙ unknown-view (map key_of c.args.front.now ++ map key_of c.args.back.now) c.args.table.now.entries
    (Some c.in_ok-name.name.now) c.in_ok-name.ensures.first c.in_ok-name.ensures.ordered
