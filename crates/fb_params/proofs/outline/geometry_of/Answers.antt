use Rattle.fb_params.proofs.Words.{table_view}
use Rattle.fb_params.proofs.{Kept.in_range}
use Rattle.fb_params.proofs.outline.geometry_of.Goals as goal

pub zones-requires : goal.zones-requires
zones-requires c = rw c.elements_at.ensures (in_range c.args.layout (table_view c.args.table.now) c.requires).zones
