use Rattle.by_hand.proofs.WrongPlans.{late_refuted, soon_refuted, equal_refuted, direct_refuted}
use Rattle.by_hand.proofs.wrong.wrong_plans.Goals as goal

pub returns : goal.returns
returns c = record { late = late_refuted; soon = soon_refuted; equal = equal_refuted; direct = direct_refuted }
