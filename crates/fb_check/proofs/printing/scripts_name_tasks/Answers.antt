use Rattle.fb_check.proofs.PrintingNames.{scripts_name}
use Rattle.fb_check.proofs.printing.scripts_name_tasks.Goals as goal

pub returns : goal.returns
returns c = scripts_name
