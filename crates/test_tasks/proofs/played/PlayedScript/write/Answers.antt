use Rattle.fb_tasks.proofs.Words.{true, refl, Request}
use Rattle.fb_units.specs.declared.types.Name.TheVariants.{Traced}
use Rattle.test_tasks.proofs.Script.{follows-finished}
use Rattle.test_tasks.proofs.played.PlayedScript.write.Goals as goal

pub returns : goal.returns
returns c =
    let request : Request = record { name = Traced 1; arrival = 0; lbn = c.args.first; count = c.args.count; write = true } in
    follows-finished c.requires request c.after_write.new.self c.after_write.new.wanted
    (c.after_write.ensures c.args.self.now.map c.requires.past request refl refl refl c.requires.tells)
