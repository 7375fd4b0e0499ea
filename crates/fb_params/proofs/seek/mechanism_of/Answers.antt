use Rattle.fb_params.proofs.seek.mechanism_of.Goals as goal

pub points-requires : goal.points-requires
points-requires c = rw c.elements_at.ensures c.requires
