use Rattle.std.proofs.Common.{◌+◌, ◌<◌, ◌≤◌, ap, sym, ◌∙◌, subst, length, arith}
use Rattle.std.proofs.lemmas.List.{length_push}
use Rattle.fb_clean.specs.Segments.{cost}
use Rattle.fb_clean.specs.Ranks.{AreRanked}
use Rattle.fb_clean.proofs.Kept.{sound_more}
use Rattle.fb_clean.proofs.Ranked.{ranked_added, ranked_back}
use Rattle.fb_clean.proofs.segments.Segments.add.Goals as goal

pub invariant_of-self-in-Ok : goal.invariant_of-self-in-Ok
invariant_of-self-in-Ok c =
    let h = c.self.invariant in
    let new = c.in_ok-segment.segment in
    let number = ap (λ s. s.number) c.in_ok-segment.ensures.value ∙ ap (λ n. n + 1) (c.len.ensures ∙ c.self.inside.segments.ok.0) in
    let room = c.requires.room in
    let size = ap (λ v. length v.segments) c.self.view_is in
    let few : length c.self.inside.segments.items < 4294967295 = omega (arith, room, size) in
    let small : cost new ≤ 8192 = subst (λ s. cost s ≤ 8192) c.segment.view_is
    (omega (arith, c.segment.invariant.0, c.segment.invariant.1)) in (
      sound_more c.self.inside.block c.self.inside.segments.items _ c.self.inside.unfinished (length c.self.inside.taken.items) _ new h.0
          c.in-Ok.ensures.ok.0 (ap length c.in-Ok.ensures.ok.1 ∙ length_push c.self.inside.taken.items c.new-held.result) number
          c.in_ok-segment.ensures.within few,
      subst (λ xs. AreRanked xs c.insert.new.self c.self.inside.passed) (sym c.in-Ok.ensures.ok.0)
          (ranked_added h.0.numbered h.0.few h.1 new c.insert.new.self number few
          (rw c.rank-rank.ensures at c.in_ok-insert.ensures.updates.0) small (ap (λ s. s.waits) c.in_ok-segment.ensures.value)),
    )

pub invariant_of-self-in-Err : goal.invariant_of-self-in-Err
invariant_of-self-in-Err c =
    let h = c.self.invariant in
    let number = ap (λ s. s.number) c.in_ok-segment.ensures.value ∙ ap (λ n. n + 1) (c.len.ensures ∙ c.self.inside.segments.ok.0) in
    let room = c.requires.room in
    let size = ap (λ v. length v.segments) c.self.view_is in
    let few : length c.self.inside.segments.items < 4294967295 = omega (arith, room, size) in
    rw (c.in-Err.ensures.err.0, c.in-Err.ensures.err.1) (
      h.0,
      ranked_back h.0.numbered h.0.few h.1 c.in_ok-segment.segment c.insert.new.self
          number few (rw c.rank-rank.ensures at c.in_ok-insert.ensures.updates.0) c.remove.new.self
          (rw c.rank-rank.ensures at c.remove.ensures.updates.0),
    )
