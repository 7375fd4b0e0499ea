use Rattle.fb_tasks.proofs.Words.{Some, ap, ◌∙◌, Counts, view, entry_in}
use Rattle.fb_tasks.proofs.Sealed.{entry_at, block_at}
use Rattle.test_tasks.proofs.played.PlayedScript.entry.Goals as goal

pub entry-requires : goal.entry-requires
entry-requires c =
    let h = c.requires.tells.blocks in
    let block = block_at h c.args.task c.args.number c.counts.result.registered (ap (λ (x : Counts). x.registered)
    c.counts.ensures) c.if-number-counts.true in
    let entry = entry_at h c.args.task c.args.number block.0 block.1 in
    (entry_in (view c.requires.past c.args.task) block.0, entry.index, entry.at, entry.is_block)

pub returns-then-number-counts : goal.returns-then-number-counts
returns-then-number-counts c =
    let h = c.requires.tells.blocks in
    let block = block_at h c.args.task c.args.number c.counts.result.registered (ap (λ (x : Counts). x.registered)
    c.counts.ensures) c.if-number-counts.true in
    let entry = entry_at h c.args.task c.args.number block.0 block.1 in (
      entry.index,
      entry.at ∙ ap Some (c.entry.ensures (entry_in (view c.requires.past c.args.task) block.0) entry.index entry.at entry.is_block),
    )
