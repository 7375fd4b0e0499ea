use Rattle.fb_report.proofs.PrintedForms.{number_is}
use Rattle.fb_report.proofs.line.push_number.Goals as goal

pub returns-clause-form : goal.returns-clause-form
returns-clause-form c = number_is c.args.number c.ranges.number.fits
