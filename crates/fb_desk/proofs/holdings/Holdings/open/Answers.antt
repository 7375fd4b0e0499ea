use Rattle.fb_desk.specs.declared.holdings.Reading.TheVariants.{At}
use Rattle.std.proofs.Common.{◌<◌, length, sym, subst}
use Rattle.fb_desk.specs.Holdings.{Held, IsWithin}
use Rattle.fb_desk.proofs.Entries.{IsWithin-start}
use Rattle.fb_desk.proofs.Every.{every-with_input}
use Rattle.fb_desk.proofs.holdings.Holdings.open.Goals as goal

pub invariant_of-self : goal.invariant_of-self
invariant_of-self c =
    let entries = c.self.inside.entries.items in
    let index = c.args.index in
    every-with_input (IsWithin entries) c.self.inside.readings c.args.which (At index 0) c.self.invariant
    (IsWithin-start entries index (subst (λ (held : Held). index < length held.entries) (sym c.self.view_is) c.requires))
