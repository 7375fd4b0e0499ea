use Rattle.std.proofs.lemmas.Option.{slice_get_read}
use Rattle.fb_tasks.proofs.Words.{◌∙◌}
use Rattle.test_tasks.proofs.Script.{follows-may, follows-more}
use Rattle.test_tasks.proofs.played.PlayedScript.call.Goals as goal

pub apply-requires : goal.apply-requires
apply-requires c =
    let calls = c.loop-self.self.calls.calls.items in
    let at = slice_get_read calls c.len.result c.loop-self.self.called c.index-call.result.now (c.len.ensures
    ∙ c.loop-self.self.calls.calls.ok.0) c.loop-self-test.true c.index-call.ensures in
    (c.loop-self.invariant.past, follows-may c.loop-self.invariant c.index-call.result.now at)

pub loop-self-preserved : goal.loop-self-preserved
loop-self-preserved c =
    let calls = c.loop-self.self.calls.calls.items in
    let call = c.index-call.result.now in
    let at = slice_get_read calls c.len.result c.loop-self.self.called call (c.len.ensures
    ∙ c.loop-self.self.calls.calls.ok.0) c.loop-self-test.true c.index-call.ensures in
    follows-more c.loop-self.invariant call at c.apply.new.self c.apply.new.wanted
    (c.in_ok-apply.ensures.ok c.loop-self.invariant.past (follows-may c.loop-self.invariant call at))
