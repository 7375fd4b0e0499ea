use Rattle.fb_desk.specs.declared.holdings.Reading.TheVariants.{Empty}
use Rattle.fb_desk.specs.Holdings.{IsWithin}
use Rattle.fb_desk.proofs.Every.{every-with_input}
use Rattle.fb_desk.proofs.holdings.Holdings.open_empty.Goals as goal

pub invariant_of-self : goal.invariant_of-self
invariant_of-self c = every-with_input (IsWithin c.self.inside.entries.items) c.self.inside.readings c.args.which Empty c.self.invariant tt
