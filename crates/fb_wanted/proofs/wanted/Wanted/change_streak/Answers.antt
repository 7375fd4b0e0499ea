use Rattle.fb_wanted.proofs.Words.{◌∙◌, arith, ap, sym, slice_get, same_Some, slice_get_within, lbns, region_of}
use Rattle.fb_wanted.proofs.Changing.{none_yet, further, as_many, lbns_same}
use Rattle.fb_wanted.proofs.Regions.{lbn_at, length-lbns}
use Rattle.fb_wanted.proofs.wanted.Wanted.change_streak.Goals as goal

pub loop-number-init : goal.loop-number-init
loop-number-init c = record { changed = none_yet c.args.task c.args.change c.args.streak.number c.args.self.now; since = omega arith }

pub entry_of-requires : goal.entry_of-requires
entry_of-requires c = omega (
  arith,
  as_many c.args.task c.args.change c.args.streak.number c.loop-number.number c.args.self.now c.loop-number.self
      c.loop-number.invariant.changed,
  c.loop-number-test.true,
  c.registered_count-end.ensures,
)

pub change_at-number-requires-clause-there : goal.change_at-number-requires-clause-there
change_at-number-requires-clause-there c = omega (
  arith,
  as_many c.args.task c.args.change c.args.streak.number c.loop-number.number c.args.self.now c.loop-number.self
      c.loop-number.invariant.changed,
  c.loop-number-test.true,
  c.registered_count-end.ensures,
)

pub loop-number-preserved : goal.loop-number-preserved
loop-number-preserved c = record {
  changed = further c.args.task c.args.change c.args.streak.number c.loop-number.number c.change_at-number.result c.args.self.now
      c.loop-number.self c.change_at-number.new.self c.loop-number.invariant.changed c.change_at-number.ensures.changed;
  since = omega (arith, c.loop-number.invariant.since, c.change_at-number.ensures.on);
}

-- the streak is over where a block begins in another region
pub returns-then-region_of-streak-clause-over : goal.returns-then-region_of-streak-clause-over
returns-then-region_of-streak-clause-over c = λ last at same.
    let task = c.args.task in
    let number = c.loop-number.number in
    let lbn = ap (λ l. slice_get l number) (sym (lbns_same task c.args.change c.args.streak.number number c.args.self.now c.loop-number.self
    c.loop-number.invariant.changed)) ∙ lbn_at task c.loop-number.self number c.entry_of.result c.entry_of.ensures in
    c.if-region_of-streak.true (c.region_of.ensures ∙ (ap region_of (same_Some c.entry_of.result.block.lbn last (sym lbn ∙ at)) ∙ same))

-- there is no block behind the last one
pub returns-clause-over : goal.returns-clause-over
returns-clause-over c = λ last at same. absurd (omega (
  arith,
  slice_get_within (lbns c.args.task c.args.self.now) c.loop-number.number last at,
  length-lbns c.args.task c.args.self.now,
  c.loop-number-test.false,
  c.registered_count-end.ensures,
))
