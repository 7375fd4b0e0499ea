use Rattle.std.proofs.Common.{◌≡◌, ◌<◌, ◌-◌, ℕ, List, [], length, get_or, slice_get, ap, sym, ◌∙◌, subst, arith}
use Rattle.std.proofs.lemmas.List.{get_or-map}
use Rattle.std.proofs.lemmas.Option.{slice_get-get_or}
use Rattle.fb_clean.specs.Segments.{LogSegment, Cleaning, live_of}
use Rattle.fb_clean.proofs.segments.Segments.live_block.Goals as goal

own-live : (cleaning : Cleaning) (number : ℕ) (s : LogSegment) (lbns : List ℕ) → number - 1 < length cleaning.segments
    → s ≡ get_or cleaning.segments (number - 1) s → lbns ≡ s.live → lbns ≡ live_of cleaning number
own-live cleaning number s lbns within at live =
    let lives = λ (t : LogSegment). t.live in
    live ∙ (ap lives at ∙ sym (get_or-map lives cleaning.segments (number - 1) s [] within))

pub bounds-live-i : goal.bounds-live-i
bounds-live-i c =
    let s = c.index.result.now in
    let same = own-live c.args.self.now c.args.segment s c.live.result.now (omega (arith, c.requires.added))
    (c.index.ensures ∙ ap (λ v. get_or v.segments (c.args.segment - 1) s) c.self.view_is) c.live.ensures.value in
    subst (λ lbns. c.args.i < length lbns) (sym same) c.requires.within

pub returns : goal.returns
returns c =
    let s = c.index.result.now in
    let same = own-live c.args.self.now c.args.segment s c.live.result.now (omega (arith, c.requires.added))
    (c.index.ensures ∙ ap (λ v. get_or v.segments (c.args.segment - 1) s) c.self.view_is) c.live.ensures.value in
    ap (λ lbns. slice_get lbns c.args.i) (sym same) ∙ slice_get-get_or c.live.result.now c.args.i 0
    (subst (λ lbns. c.args.i < length lbns) (sym same) c.requires.within)
