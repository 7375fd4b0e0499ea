use Rattle.std.proofs.Common.{subst}
use Rattle.fb_desk.specs.Holdings.{IsWithin}
use Rattle.fb_desk.proofs.Every.{every-with_input}
use Rattle.fb_desk.proofs.holdings.Holdings.read.Goals as goal

pub invariant_of-self : goal.invariant_of-self
invariant_of-self c =
    let reading = c.read_on.new.reading in
    every-with_input (IsWithin c.self.inside.entries.items) c.self.inside.readings c.args.which reading c.self.invariant
    (subst (λ entries. IsWithin entries reading) c.deref.ensures.value c.read_on.ensures.within)
