use Rattle.fb_wanted.proofs.Words.{◌≡◌, ◌++◌, ◌∷◌, [], ◌∙◌, ap, sym, length, Entry, Suspended, Wanted, with_state}
use Rattle.fb_wanted.specs.States.{wanted_unless}
use Rattle.fb_wanted.proofs.Elements.{state_last}
use Rattle.fb_wanted.proofs.wanted.Wanted.register.Goals as goal

pub returns-then-not-suspended-clause-ok : goal.returns-then-not-suspended-clause-ok
returns-then-not-suspended-clause-ok c =
    let now = c.args.self.now in
    let entry : Entry = record { block = c.args.block; state = Suspended } in
    let index : c.len-index.result ≡ length now = c.len-index.ensures ∙ (c.self.inside.entries.ok.0 ∙ ap length c.self.view_is) in
    c.set_state.ensures
    ∙ (ap (λ n. with_state Wanted n c.add.new.self) index ∙ (ap (with_state Wanted (length now)) c.in_ok-add.ensures.ok
    ∙ state_last Wanted now entry))
    ∙ ap (λ b. let e : Entry = record { block = c.args.block; state = wanted_unless b } in now ++ e ∷ []) (sym c.if-not-suspended.true)
