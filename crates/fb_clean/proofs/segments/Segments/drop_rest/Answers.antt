use Rattle.std.proofs.Common.{ap, ◌∙◌, map, length}
use Rattle.std.proofs.lemmas.List.{take_at, length-map}
use Rattle.fb_clean.specs.Segments.{no_longer_waiting}
use Rattle.fb_clean.proofs.Kept.{sound_left}
use Rattle.fb_clean.proofs.Ranked.{ranked_dropped}
use Rattle.fb_clean.proofs.segments.Segments.drop_rest.Goals as goal

pub invariant_of-self : goal.invariant_of-self
invariant_of-self c =
    let dropped = take_at c.stop_all_waiting.new.segments _ c.self.inside.segments.len
    (ap length c.stop_all_waiting.ensures ∙ (length-map c.deref_mut.result.now no_longer_waiting ∙ c.deref_mut.ensures.len))
    ∙ (c.stop_all_waiting.ensures ∙ ap (map no_longer_waiting) c.deref_mut.ensures.value) in (
      sound_left c.self.inside.block c.self.inside.segments.items _ c.self.inside.unfinished
          (length c.self.inside.taken.items) c.self.invariant.0 dropped,
      ranked_dropped c.self.invariant.0.numbered c.self.invariant.0.few c.self.invariant.1 _ c.clear.new.self dropped c.clear.ensures.empty,
    )
