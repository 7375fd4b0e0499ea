use Rattle.by_hand.proofs.FullRuns.{overwritten_backup_is_full, backup_without_aborted_is_full}
use Rattle.by_hand.proofs.backups.worked_backups.Goals as goal

pub returns : goal.returns
returns c = record { overwritten_backup = overwritten_backup_is_full; backup_without_aborted = backup_without_aborted_is_full }
