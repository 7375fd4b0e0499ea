use Rattle.fb_plan.proofs.Words.{◌≡◌, ◌∙◌, ap, block_begin, block_end}
use Rattle.fb_plan.proofs.Swept.{turning-begin, turning-end}
use Rattle.fb_plan.proofs.catching.catch_of.Goals as goal

pub returns : goal.returns
returns c = λ disk dwell turns fits from.
    let block = c.args.block in
    let turning = c.args.turning.now in
    let begin : c.begin.result ≡ block_begin disk.map block dwell.begin =
    c.begin.ensures.value ∙ (turning-begin disk turning block turns fits ∙ ap (block_begin disk.map block) from) in
    let end : c.end.result ≡ block_end disk.map block dwell.begin =
    c.end.ensures.value ∙ (turning-end disk turning block turns fits ∙ ap (block_end disk.map block) from) in
    ap (λ b. record { block = block; begin = b; end = c.end.result }) begin
    ∙ ap (λ e. record { block = block; begin = block_begin disk.map block dwell.begin; end = e }) end
