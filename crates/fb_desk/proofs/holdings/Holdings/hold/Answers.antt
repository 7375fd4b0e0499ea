use Rattle.std.proofs.Common.{rules}
use Rattle.fb_desk.proofs.Entries.{held_under-here, held_under-elsewhere, left_of-push, IsWithin-push}
use Rattle.fb_desk.proofs.holdings.Holdings.hold.Goals as goal

pub returns-clause-here : goal.returns-clause-here
returns-clause-here c = search (rules, held_under-here)

pub returns-clause-elsewhere : goal.returns-clause-elsewhere
returns-clause-elsewhere c = search (rules, held_under-elsewhere)

pub returns-clause-left : goal.returns-clause-left
returns-clause-left c = search (rules, left_of-push)

pub invariant_of-self-2 : goal.invariant_of-self-2
invariant_of-self-2 c = λ which. rw c.in_ok-push.ensures.items (IsWithin-push _ _ _ (c.self.invariant which))
