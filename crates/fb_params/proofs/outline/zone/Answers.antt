use Rattle.fb_params.proofs.Words.{arith, table_view}
use Rattle.fb_params.proofs.Fields.{cylinder_spares-within}
use Rattle.fb_params.proofs.outline.zone.Goals as goal

pub small_number_at-requires-in-PerCylinder : goal.small_number_at-requires-in-PerCylinder
small_number_at-requires-in-PerCylinder c =
    omega (arith, cylinder_spares-within c.args.layout (table_view c.args.table.now) c.requires c.in-PerCylinder.is)
