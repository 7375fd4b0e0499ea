use Rattle.std.proofs.Common.{ap₂, ◌∙◌, sym, map, cond, ◌==◌}
use Rattle.std.specs.List.{range_with_len}
use Rattle.test_background.proofs.backups.take.Goals as goal

pub take-requires : goal.take-requires
take-requires c = record {
  covers = (
    λ l. cond (l == c.args.lbn) c.args.content c.args.next,
    c.in_ok-contents.ensures.gives
        ∙ ap₂ (λ first n. map (λ l. (l, cond (l == c.args.lbn) c.args.content c.args.next)) (range_with_len first n))
        (sym c.block.ensures.0)
        (sym c.block.ensures.1),
  );
}
