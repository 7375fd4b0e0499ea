use Rattle.fb_maker.proofs.Words.{arith, refl, ◌∙◌}
use Rattle.fb_maker.proofs.Drawing.{none_drawn}
use Rattle.fb_maker.proofs.maker.Maker.new.Goals as goal

pub invariant_of-result : goal.invariant_of-result
invariant_of-result c =
    let at = c.seed_from_u64-words.ensures.same ∙ none_drawn c.args.number in
    record {
      known_device = c.requires.device;
      some_sectors = c.requires.some;
      few_sectors = c.requires.few;
      few_lines = omega arith;
      drawn = c.draw-next.ensures.request c.args.number at refl;
      left = c.draw-next.ensures.words c.args.number at;
      early = c.draw-next.ensures.early;
    }
