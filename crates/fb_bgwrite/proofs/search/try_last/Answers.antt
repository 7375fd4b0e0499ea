use Rattle.fb_bgwrite.proofs.Words.{◌+◌, ◌-◌, ◌≤◌, arith, Spill}
use Rattle.fb_bgwrite.proofs.{Choices.range_more, Choices.same_share, Lengths.range_beaten}
use Rattle.fb_bgwrite.proofs.search.try_last.Goals as goal

pub returns-then-end-part-clause-tried : goal.returns-then-end-part-clause-tried
returns-then-end-part-clause-tried c =
    let short = c.end_short-end in
    range_beaten c.args.search.now c.requires.search c.args.best c.requires.best c.args.part c.requires.part (c.min-short.result + 1)
    short.result c.args.part.end short.ensures.after (omega arith) (omega (arith, c.min-short.ensures)) short.ensures.each

pub returns-then-is_light-clause-tried : goal.returns-then-is_light-clause-tried
returns-then-is_light-clause-tried c =
    let search = c.args.search.now in
    let short = c.end_short-end in
    let behind = range_beaten search c.requires.search c.args.best c.requires.best c.args.part c.requires.part (c.min-short.result + 1)
    short.result c.args.part.end short.ensures.after (omega arith) (omega (arith, c.min-short.ensures)) short.ensures.each in
    range_more search.disk.now search.gap.now _ c.args.best (short.result - 1) short.result c.args.part.end
    (λ track low high. c.is_light.ensures c.if-is_light.true track low (omega (arith, high))) behind

pub try_cylinder-requires-clause-part : goal.try_cylinder-requires-clause-part
try_cylinder-requires-clause-part c =
    let search = c.args.search.now in
    let part = c.args.part in
    let whole = c.requires.part in
    let short = c.end_short-end in
    record {
      order = omega arith;
      within = omega (arith, whole.within, short.ensures.within);
      share = same_share search.disk.now part.from part.end (short.result - 1) short.result part.share whole.share
          (omega (arith, short.ensures.after, c.if-end-part.false)) short.ensures.within;
      most = λ track low high leave is.
          let spill : Spill = record { track = track; leave = leave } in
          let before : part.from ≤ track.cylinder = omega (arith, low, short.ensures.after, c.if-end-part.false) in
          let passing = c.most_passing-slots.ensures search.pending.now spill c.requires.search.blocks before high is in
          let few = whole.most track before (omega (arith, high, short.ensures.within)) leave is in
          omega (arith, passing, few, c.min-most.ensures);
    }

pub returns-clause-rest : goal.returns-clause-rest
returns-clause-rest c =
    let search = c.args.search.now in
    let part = c.args.part in
    let whole = c.requires.part in
    let short = c.end_short-end in
    record {
      order = omega (arith, short.ensures.after, c.if-end-part.false);
      within = omega (arith, whole.within, short.ensures.within);
      share = same_share search.disk.now part.from part.end part.from (short.result - 1) part.share whole.share (omega arith)
          (omega (arith, short.ensures.within));
      most = λ track low high leave is.
          let spill : Spill = record { track = track; leave = leave } in
          let passing = c.most_passing-slots.ensures search.pending.now spill c.requires.search.blocks low (omega (arith, high)) is in
          let few = whole.most track low (omega (arith, high, short.ensures.within)) leave is in
          omega (arith, passing, few, c.min-most.ensures);
    }

pub returns-clause-tried : goal.returns-clause-tried
returns-clause-tried c =
    let search = c.args.search.now in
    let short = c.end_short-end in
    let best = c.try_cylinder in
    let behind = range_beaten search c.requires.search best.result best.ensures.valued c.args.part c.requires.part
    (c.min-short.result + 1) short.result c.args.part.end short.ensures.after (omega arith) (omega (arith, c.min-short.ensures))
    short.ensures.each in
    range_more search.disk.now search.gap.now _ best.result (short.result - 1) short.result c.args.part.end best.ensures.tried behind
