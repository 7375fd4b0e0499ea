use Rattle.fb_wanted.proofs.Words.{◌∙◌, ap, sym, length, arith, length-map}
use Rattle.fb_wanted.proofs.Found.{block_at}
use Rattle.fb_wanted.proofs.wanted_blocks.WantedBlocks.len.Goals as goal

pub overflow_cast-result : goal.overflow_cast-result
overflow_cast-result c = omega (arith, c.self.invariant.1)

pub returns-clause-count : goal.returns-clause-count
returns-clause-count c = sym (length-map c.self.inside.offers.now (λ o. block_at c.self.inside.entries.now o.index))
    ∙ ap length c.self.view_is

pub returns-clause-few : goal.returns-clause-few
returns-clause-few c = c.self.invariant.1
