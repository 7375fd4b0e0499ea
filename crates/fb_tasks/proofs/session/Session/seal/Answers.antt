use Rattle.fb_tasks.proofs.Words.{ap, ◌∙◌, arith, ◌≡◌, true, ℕ, filter, true≢false, IfOk-weaker, held_at, range_with_len, Shape, held_in}
use Rattle.fb_tasks.proofs.Words.{EndsBy, runs_of, is_delivered, Past, is_open_backup, view, is_complete, found_for, without_aborted}
use Rattle.fb_tasks.proofs.Words.{entry_in, HoldsBlocks, Stands, Session}
use Rattle.fb_tasks.proofs.States.{seen}
use Rattle.fb_tasks.proofs.Sealed.{entry_at, block_at, all_blocks, dropped, dropped_next, sealed_content}
use Rattle.fb_tasks.proofs.session.Session.seal.Goals as goal

pub drop_aborted-requires : goal.drop_aborted-requires
drop_aborted-requires c =
    let past = c.requires.blocks.1 in
    let holds = c.requires.blocks.2 in
    let block = block_at holds c.args.task c.loop-number.number c.args.registered c.requires.registered c.loop-number-test.true in
    let entry = entry_at holds c.args.task c.loop-number.number block.0 block.1 in
    (entry_in (view past c.args.task) block.0, entry.index, entry.at, entry.is_block, entry.within)

pub loop-number-preserved : goal.loop-number-preserved
loop-number-preserved c = record {
  sealed = record {
    same = c.drop_aborted.ensures.session
        ∙ ap (λ (s : Session). record s { image = c.drop_aborted.new.self.image }) c.loop-number.invariant.sealed.same;
    image = λ never. absurd (true≢false never);
  };
  image = λ disk past holds lbn.
      let block = block_at holds c.args.task c.loop-number.number c.args.registered c.requires.registered c.loop-number-test.true in
      let entry = entry_at holds c.args.task c.loop-number.number block.0 block.1 in
      c.in_ok-drop_aborted.ensures.image (entry_in (view past c.args.task) block.0) entry.index lbn entry.at entry.is_block
      ∙ (ap (without_aborted (entry_in (view past c.args.task) block.0) lbn) (c.loop-number.invariant.image disk past holds lbn)
      ∙ dropped_next (view past c.args.task) lbn (held_at c.args.self.now.image lbn)
      (view past c.args.task).blocks c.loop-number.number block.0 block.1);
}

pub returns-clause-content : goal.returns-clause-content
returns-clause-content c = IfOk-weaker c.contents.result
    (λ runs. (end : ℕ) → EndsBy (held_at c.loop-number.self.image) end
    → runs ≡ runs_of (held_in (held_at c.loop-number.self.image) (range_with_len 0 end)))
    (λ content. (disk : Shape) (past : Past) → HoldsBlocks disk past c.args.wanted.now → Stands (view past c.args.task) c.args.self.now
    → is_open_backup past c.args.task ≡ true → is_complete past c.args.task ≡ true
    → content ≡ found_for (view past c.args.task).work (filter (λ block. is_delivered ((view past c.args.task).bare block))
    (view past c.args.task).blocks))
    (λ content gives disk past holds stands is_open complete.
    let whole : c.loop-number.number ≡ c.args.registered = omega (arith, c.loop-number-test.false, c.loop-number.auto.number-end) in
    sealed_content holds c.args.task c.args.self.now (held_at c.loop-number.self.image) content stands
    ((seen past c.args.task).unsealed ∙ is_open) ((seen past c.args.task).done ∙ complete)
    (λ lbn. c.loop-number.invariant.image disk past holds lbn ∙ ap (dropped (view past c.args.task) lbn (held_at c.args.self.now.image lbn))
    (all_blocks holds c.args.task c.loop-number.number (whole ∙ c.requires.registered)))
    c.contents.ensures.ends gives) c.contents.ensures.fewest
