use Rattle.fb_model.specs.Blocks.{IsBlockOn}
use Rattle.fb_plan.proofs.AnyOrder.{caught-whole, on-its-track}
use Rattle.fb_plan.proofs.catching.wanted_on.Goals as goal

pub returns : goal.returns
returns c =
    let dwell = c.args.dwell in
    let entries = c.args.wanted.now in
    let its = c.blocks_on.ensures.its in
    let numbers = c.numbered_in_order.ensures in
    let on = on-its-track dwell.track entries c.blocks_on.result c.wanted.result numbers its c.wanted.ensures in
    record {
      on_disk = λ disk fits i b at. (on (IsBlockOn disk.map) fits i b at).0;
      track = λ i b at. (on (λ b. Unit {0}) (λ i e there. tt) i b at).1;
      caught = λ disk. caught-whole disk dwell entries c.blocks_on.result c.wanted.result numbers its c.wanted.ensures;
    }
