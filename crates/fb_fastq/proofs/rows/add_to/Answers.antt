use Rattle.fb_fastq.proofs.Words.{on_err}
use Rattle.fb_fastq.proofs.OneMore.{row_there, push_more, set_same, set_more, more_rows, occupied_set}
use Rattle.fb_fastq.proofs.rows.add_to.Goals as goal

pub returns-in_err-push-clause-err : goal.returns-in_err-push-clause-err
returns-in_err-push-clause-err c =
    let there = row_there c.args.rows.now.items c.args.number c.index_mut.result.now c.requires.there c.index_mut.ensures.value in
    on_err c.from_residual.result (set_same _ c.args.number _ c.push.new.self there (c.in_err-push.ensures).items)

pub returns-clause-more : goal.returns-clause-more
returns-clause-more c =
    let there = row_there c.args.rows.now.items c.args.number c.index_mut.result.now c.requires.there c.index_mut.ensures.value in
    let more = push_more c.args.waiting c.index_mut.result.now.items c.push.new.self.items (c.in_ok-push.ensures).items in
    set_more c.args.waiting _ c.args.number _ c.push.new.self there more

pub returns-clause-rows : goal.returns-clause-rows
returns-clause-rows c =
    let there = row_there c.args.rows.now.items c.args.number c.index_mut.result.now c.requires.there c.index_mut.ensures.value in
    let more = push_more c.args.waiting c.index_mut.result.now.items c.push.new.self.items (c.in_ok-push.ensures).items in
    more_rows c.args.waiting _ c.args.number _ c.push.new.self there more c.requires.on

pub returns-clause-occupied : goal.returns-clause-occupied
returns-clause-occupied c = λ occupied has are. occupied_set occupied c.args.rows.now.items c.args.number c.push.new.self (λ some. has) are

pub returns-in_err-push-clause-occupied : goal.returns-in_err-push-clause-occupied
returns-in_err-push-clause-occupied c =
    λ occupied has are. occupied_set occupied c.args.rows.now.items c.args.number c.push.new.self (λ some. has) are
