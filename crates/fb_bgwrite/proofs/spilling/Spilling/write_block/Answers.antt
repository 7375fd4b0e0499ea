use Rattle.fb_bgwrite.proofs.Words.{◌+◌, ◌++◌, ◌∷◌, [], refl, ap, ◌∙◌, arith, ItemWrote, WroteRow}
use Rattle.fb_bgwrite.proofs.Adding.{block_added, wanted_there, written_few}
use Rattle.fb_bgwrite.proofs.spilling.Spilling.write_block.Goals as goal

pub deliver-requires : goal.deliver-requires
deliver-requires c = wanted_there c.args.self.now c.args.catch c.requires.spilling c.requires.pending

pub overflow_add-self : goal.overflow_add-self
overflow_add-self c = let few = written_few c.args.self.now c.args.catch c.requires.spilling c.requires.puts c.requires.pending in
    omega (arith, few)

pub returns-clause-spilling : goal.returns-clause-spilling
returns-clause-spilling c =
    let old = c.args.self.now in
    block_added old c.args.catch c.deliver.new.self c.push.new.self
    (old.written + c.args.catch.block.count) c.requires.spilling c.requires.puts c.requires.pending
    (c.in_ok-push.ensures.ok ∙ ap (λ (row : WroteRow). old.items ++ ItemWrote row ∷ []) c.wrote_row.ensures) c.deliver.ensures refl
