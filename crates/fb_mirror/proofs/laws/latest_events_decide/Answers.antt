use Rattle.fb_mirror.proofs.EventLaws.{only_decides}
use Rattle.fb_mirror.proofs.laws.latest_events_decide.Goals as goal

pub returns-clause-only : goal.returns-clause-only
returns-clause-only c = only_decides
