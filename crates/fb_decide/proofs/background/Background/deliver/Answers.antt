use Rattle.fb_decide.proofs.Words.{ap, ◌∙◌, ◌≡◌, ℕ, Some, map, range_with_len, on_ok_weaker, Shape, content_in, sectors_of, Past, wanted}
use Rattle.fb_decide.proofs.Words.{MayDeliver, TellsUpToDate}
use Rattle.std.proofs.Common.{slice_get}
use Rattle.fb_tasks.proofs.Leaving.{on_ok_both}
use Rattle.fb_decide.proofs.Delivering.{wanted-on_disk, may-deliver, delivered-one, row-is, made}
use Rattle.fb_decide.proofs.background.Background.deliver.Goals.{After-bad}
use Rattle.fb_decide.proofs.background.Background.deliver.Goals as goal

pub runs-requires : goal.runs-requires
runs-requires c = wanted-on_disk c.requires.wanted.0 c.requires.wanted.1 c.requires.wanted.2 c.args.catch.block c.args.self.now
    c.requires.wanted.3 c.requires.wanted.4

may : (c : After-bad) (disk : Shape) (past : Past) (index : ℕ) → TellsUpToDate disk past c.args.self.now
    → slice_get (wanted past) index ≡ Some c.args.catch.block → MayDeliver disk past c.args.self.now.sessions c.args.self.now.blocks
    (made c.args.how c.args.catch.block c.args.catch.begin c.args.catch.end c.bad.result c.in_ok-content.content)
may c disk past index current at =
    let block = c.args.catch.block in
    let gives = ap sectors_of c.in_ok-content.ensures.fewest
    ∙ (c.runs_are_fewest.ensures (map (λ lbn. (lbn, content_in c.args.store.now lbn)) (range_with_len block.lbn block.count))).contents in
    may-deliver disk past index _ c.args.self.now (content_in c.args.store.now) current at gives

pub delivered-requires : goal.delivered-requires
delivered-requires c =
    let any = c.requires.wanted in
    (any.0, any.1, may (goal.at.delivered-requires c).After-bad any.0 any.1 any.2 any.3 any.4)

pub returns : goal.returns
returns c = on_ok_weaker c.delivered.result (λ all disk past index current at.
    let allowed = may (goal.at.returns c).After-bad disk past index current at in
    delivered-one disk past index _ _ c.args.self.now
    (record { sessions = c.delivered.new.self; blocks = c.delivered.new.wanted; rows = c.delivered.new.rows })
    (row-is c.args.store.now c.args.how c.args.catch.block c.args.catch.begin c.args.catch.end c.bad.result c.in_ok-content.content
    c.in_ok-content.ensures.fewest c.bad.ensures.value)
    at (all.0 disk past allowed) (all.1.0 disk past allowed) (all.1.1 disk past allowed))
    (on_ok_both _ _ c.delivered.result c.delivered.ensures.tells
    (on_ok_both _ _ c.delivered.result c.delivered.ensures.up_to_date c.delivered.ensures.rows))
