use Rattle.fb_puts.proofs.TakenRanges.{first_taken, none_taken}
use Rattle.fb_puts.proofs.taken.is_taken.Goals as goal

pub returns-in-Some : goal.returns-in-Some
returns-in-Some c = λ ranges taken.
    let found = c.in-Some.ensures.found in
    first_taken c.args.ends.now ranges c.args.range taken c.requires.some found.0 c.in-Some.first found.1 found.2 found.3

pub returns-in-None : goal.returns-in-None
returns-in-None c = λ ranges taken. none_taken c.args.ends.now ranges c.args.range taken c.requires.some c.in-None.ensures.none
