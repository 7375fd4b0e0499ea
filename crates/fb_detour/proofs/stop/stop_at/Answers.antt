use Rattle.fb_detour.proofs.Words.{sym, ◌∙◌, offers-in-turn}
use Rattle.fb_detour.proofs.stop.stop_at.Goals as goal

pub returns-clause-stop : goal.returns-clause-stop
returns-clause-stop c = record {
  track = c.requires.track;
  ready = record {
    weight = c.offers.ensures.its (λ sweep n. n) ∙ sym c.wanted_weight.ensures.sum;
    small = c.wanted_weight.ensures.small;
    in_turn = offers-in-turn c.offers.result.now c.args.blocks.now c.offers.ensures.its
        c.args.disk.now c.new.result c.new.ensures.turning c.requires.on_disk;
    stands = c.new.ensures.turning.stands;
  };
  its = c.offers.ensures.its;
  on_disk = c.requires.on_disk;
  turning = c.new.ensures.turning;
}
