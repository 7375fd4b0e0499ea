use Rattle.fb_bgwrite.proofs.Words.{◌+◌, ◌∙◌, arith, ap}
use Rattle.fb_bgwrite.proofs.Choices.{last_beats, last_valued, nothing_there}
use Rattle.fb_bgwrite.proofs.search.spill_on.Goals as goal

pub returns-then-written-eq0-clause-tried : goal.returns-then-written-eq0-clause-tried
returns-then-written-eq0-clause-tried c = λ leave is.
    let written = c.written_on-written.ensures in
    let begin = c.new-turning.ensures.from ∙ ap (λ x. c.args.search.now.gap.now.now + x) c.pos.ensures.value in
    nothing_there _ c.args.search.now.gap.now _ c.requires.search.blocks c.args.track _ c.requires.its c.requires.on_disk
    c.new-turning.ensures.turning begin written.its
    written.sum written.is_last c.if-written-eq0.true leave (omega (arith, is.in_time, c.pos-on.ensures.value))

pub returns-clause-valued : goal.returns-clause-valued
returns-clause-valued c =
    let written = c.written_on-written.ensures in
    let begin = c.new-turning.ensures.from ∙ ap (λ x. c.args.search.now.gap.now.now + x) c.pos.ensures.value in
    last_valued _ c.args.search.now.gap.now _ c.requires.search.blocks c.args.track _ c.requires.its c.requires.on_disk
    c.new-turning.ensures.turning begin written.its
    written.sum written.is_last (omega (arith, c.if-written-eq0.false)) c.requires.track
    (omega (arith, c.if-gap-begin.false, c.pos-on.ensures.value))

pub returns-clause-tried : goal.returns-clause-tried
returns-clause-tried c = λ leave is.
    let written = c.written_on-written.ensures in
    let begin = c.new-turning.ensures.from ∙ ap (λ x. c.args.search.now.gap.now.now + x) c.pos.ensures.value in
    last_beats _ c.args.search.now.gap.now _ c.requires.search.blocks c.args.track _ c.requires.its c.requires.on_disk
    c.new-turning.ensures.turning begin written.its
    written.sum written.is_last (omega (arith, c.if-written-eq0.false)) leave (omega (arith, is.in_time, c.pos-on.ensures.value))
