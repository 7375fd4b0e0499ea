use Rattle.fb_check.proofs.PrintingRows.{can_be_printed}
use Rattle.fb_check.proofs.printing.runs_can_be_printed.Goals as goal

pub returns : goal.returns
returns c = can_be_printed
