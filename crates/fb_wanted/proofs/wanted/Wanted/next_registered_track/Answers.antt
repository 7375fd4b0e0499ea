use Rattle.fb_wanted.proofs.Words.{◌<◌, ap, ◌∙◌, sym, subst, length, get_or, arith, IsNextRegistered, NoneIsRegistered}
use Rattle.fb_wanted.proofs.Reading.{are_marked, first_of_track, first_within, next_registered, none_registered}
use Rattle.fb_wanted.proofs.wanted.Wanted.next_registered_track.Goals as goal

pub next_track-requires : goal.next_track-requires
next_track-requires c =
    let self = c.self.inside in
    are_marked self.entries.items self.tasks.items self.tracks c.self.invariant.0 self.depths c.self.invariant.3

pub index-requires : goal.index-requires
index-requires c =
    let self = c.self.inside in
    let next = c.in-Some.ensures.some in
    let some = subst (λ o. 0 < length o.indexes) (sym next.1) next.2.some in
    let within = first_within self.entries.items self.tasks.items self.tracks c.self.invariant.0 next.0 c.in-Some.on.now next.1 some in
    omega (arith, within, ap (λ ps. get_or ps 0 0) c.indexes.ensures, self.entries.ok.0)

pub returns-in-Some-clause-some : goal.returns-in-Some-clause-some
returns-in-Some-clause-some c =
    let self = c.self.inside in
    let es = self.entries.items in
    let next = c.in-Some.ensures.some in
    let some = subst (λ o. 0 < length o.indexes) (sym next.1) next.2.some in
    let first = c.index.result.now in
    let at = c.index.ensures ∙ ap (λ ps. get_or es (get_or ps 0 0) first) c.indexes.ensures in
    let its = ap (λ e. e.block.track) at
    ∙ first_of_track es self.tasks.items self.tracks c.self.invariant.0 next.0 c.in-Some.on.now next.1 some first in
    subst (λ held. IsNextRegistered held c.args.from first.block.track) c.self.view_is
    (subst (IsNextRegistered es c.args.from) (sym its)
    (next_registered es self.tasks.items self.tracks c.self.invariant.0 c.args.from next.0 next.2))

pub returns-in-None-clause-none : goal.returns-in-None-clause-none
returns-in-None-clause-none c =
    let self = c.self.inside in
    subst (λ es. NoneIsRegistered es c.args.from) c.self.view_is
    (none_registered self.entries.items self.tasks.items self.tracks c.self.invariant.0 c.args.from c.in-None.ensures.none)
