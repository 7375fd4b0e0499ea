use Rattle.fb_store.specs.Ranges.{content_in}
use Rattle.fb_tasks.proofs.Words.{ap, ◌∙◌, map, range_with_len, on_ok_weaker, DeliveryRow, sectors_of, Wanted}
use Rattle.fb_tasks.proofs.Leaving.{on_ok_both}
use Rattle.test_tasks.proofs.Script.{within-at, follows-may-deliver, follows-delivered}
use Rattle.test_tasks.proofs.played.PlayedScript.deliver.Goals as goal

pub runs-requires : goal.runs-requires
runs-requires c =
    within-at c.requires.follows.tells c.requires.wanted.0 (record { block = c.args.block; state = Wanted }) c.requires.wanted.1

pub delivered-requires : goal.delivered-requires
delivered-requires c =
    let block = c.args.block in
    let now = content_in c.args.self.now.store in
    let gives = ap sectors_of c.in_ok-content.ensures.fewest
    ∙ (c.runs_are_fewest.ensures (map (λ lbn. (lbn, now lbn)) (range_with_len block.lbn block.count))).contents in
    let got : DeliveryRow = record {
      block = block;
      begin = c.args.begin;
      end = c.args.end;
      how = c.args.how;
      bad = c.bad.result;
      content = c.in_ok-content.content;
    } in (
      c.args.self.now.map,
      c.requires.follows.past,
      follows-may-deliver c.requires.follows got c.requires.wanted.0 now c.requires.wanted.1 gives,
    )

pub returns : goal.returns
returns c =
    let block = c.args.block in
    let now = content_in c.args.self.now.store in
    let gives = ap sectors_of c.in_ok-content.ensures.fewest
    ∙ (c.runs_are_fewest.ensures (map (λ lbn. (lbn, now lbn)) (range_with_len block.lbn block.count))).contents in
    let got : DeliveryRow = record {
      block = block;
      begin = c.args.begin;
      end = c.args.end;
      how = c.args.how;
      bad = c.bad.result;
      content = c.in_ok-content.content;
    } in
    let may = follows-may-deliver c.requires.follows got c.requires.wanted.0 now c.requires.wanted.1 gives in
    on_ok_weaker c.delivered.result (λ all. follows-delivered c.requires.follows got c.delivered.new.self c.delivered.new.wanted
    (all.0 c.args.self.now.map c.requires.follows.past may)
    (all.1 c.args.self.now.map c.requires.follows.past may) c.args.self.now.up_to_date)
    (on_ok_both _ _ c.delivered.result c.delivered.ensures.tells c.delivered.ensures.up_to_date)
