use Rattle.fb_maker.proofs.Words.{arith, ap}
use Rattle.fb_maker.specs.Making.{Making}
use Rattle.fb_maker.proofs.Drawing.{arrival_of}
use Rattle.fb_maker.proofs.maker.Maker.next_line.Goals as goal

pub invariant_of-self : goal.invariant_of-self
invariant_of-self c =
    let kept = c.self.invariant in
    let number = c.self.inside.number in
    record {
      known_device = kept.known_device;
      some_sectors = kept.some_sectors;
      few_sectors = kept.few_sectors;
      few_lines = omega (arith, c.requires, ap (λ (making : Making). making.made) c.self.view_is);
      drawn = c.draw-self-inside.ensures.request number kept.left
          (arrival_of number c.self.inside.sectors c.self.inside.made c.self.inside.next kept.drawn);
      left = c.draw-self-inside.ensures.words number kept.left;
      early = c.draw-self-inside.ensures.early;
    }
