use Rattle.std.proofs.Common.{ap, ◌∙◌}
use Rattle.std.specs.List.{list_any}
use Rattle.fb_clean.proofs.Ranked.{rest_is}
use Rattle.fb_clean.proofs.segments.Segments.has_rest.Goals as goal

pub returns : goal.returns
returns c = rest_is c.self.invariant.0.numbered c.self.invariant.0.few c.self.invariant.1 c.is_empty.result c.is_empty.ensures
    ∙ ap (λ v. list_any (λ segment. segment.waits) v.segments) c.self.view_is
