use Rattle.fb_bgwrite.proofs.Words.{inl, inr, arith, Spill}
use Rattle.fb_bgwrite.proofs.Choices.{by_weight}
use Rattle.fb_bgwrite.proofs.search.part_of.Goals as goal

pub returns-clause-part : goal.returns-clause-part
returns-clause-part c =
    let search = c.args.search.now in
    let entries = search.pending.now in
    let blocks = c.requires.search.blocks in
    record {
      order = omega (arith, c.requires.some);
      within = c.requires.within;
      share = c.requires.share;
      most = λ track low high leave is.
          let spill : Spill = record { track = track; leave = leave } in
          let time = c.most_passing-slots.ensures entries spill blocks low high is in
          elim c.unless_lighter-most.ensures [
            | inl same ↦ omega (arith, time, same)
            | inr light ↦ omega (arith, by_weight search.disk.now search.gap.now entries blocks track leave, light.1 track low high)
          ];
    }
