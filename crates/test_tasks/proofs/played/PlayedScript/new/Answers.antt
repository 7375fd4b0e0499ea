use Rattle.fb_tasks.proofs.Words.{false, sym, subst}
use Rattle.test_tasks.specs.Following.{Follows}
use Rattle.test_tasks.proofs.Script.{follows-first}
use Rattle.test_tasks.proofs.played.PlayedScript.new.Goals as goal

pub returns : goal.returns
returns c =
    let calls = c.in_ok-calls.calls.calls.items in
    let first = follows-first c.in_ok-map.map calls c.new-2.result c.in_ok-calls.ensures.script (c.new-2.ensures c.in_ok-map.map) in
    let empty = subst (λ held. Follows false c.in_ok-map.map calls 0 c.new-2.result held) (sym c.new-3.ensures) first in
    subst (λ m. Follows false m calls 0 c.new-2.result c.new-3.result) (sym c.map.view_is) empty
