use Rattle.by_hand.proofs.FullRuns.{run_without_third_is_full, run_with_third_is_full}
use Rattle.by_hand.proofs.KnownRuns.{inputs_agree, same_known}
use Rattle.by_hand.proofs.known.runs_known_in_part.Goals as goal

pub returns : goal.returns
returns c = record { without = run_without_third_is_full; with = run_with_third_is_full; agree = inputs_agree; same = same_known }
