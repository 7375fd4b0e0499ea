use Rattle.std.proofs.Common.{ap₂, ◌∙◌, sym, map}
use Rattle.std.specs.List.{range_with_len}
use Rattle.fb_store.specs.declared.content.Content.TheVariants.{Filled}
use Rattle.test_background.proofs.cleaning.take_all.Goals as goal

pub take-requires-clause-covers : goal.take-requires-clause-covers
take-requires-clause-covers c = (
  λ l. Filled 0,
  c.in_ok-content.ensures.gives
      ∙ ap₂ (λ first n. map (λ lbn. (lbn, Filled 0)) (range_with_len first n)) (sym c.block.ensures.0) (sym c.block.ensures.1),
)
