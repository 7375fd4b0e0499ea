use Rattle.fb_bgwrite.proofs.Words.{◌+◌, ◌∙◌, sym, ap, subst, arith, length, IsSound, places, accepted, Put, sum_by, Spilling}
use Rattle.fb_bgwrite.proofs.{Going.all_gone, Going.all_in_time, Going.all_written, Going.going_busy, Going.going_first, Going.going_free}
use Rattle.fb_bgwrite.proofs.{Going.going_puts, Going.IsGoing, Holding.holds, Totals.puts_on}
use Rattle.fb_bgwrite.proofs.spills.spill.Goals.{in-Some+in_ok-spill_in, in_default}
use Rattle.fb_bgwrite.proofs.spills.spill.Goals as goal

pub loop-i-init : goal.loop-i-init
loop-i-init c =
    let new = c.new-spilling.ensures in
    going_first c.args.disk.now c.args.puts.now.puts.items c.args.run.now c.new-spilling.result
    (subst IsSound c.geometry.ensures c.sound.ensures)
    c.requires.possible c.requires.early c.requires.gaps new.spilling new.disk (new.puts ∙ c.deref.ensures.value) new.instant new.items

pub spill_in-requires-clause-puts : goal.spill_in-requires-clause-puts
spill_in-requires-clause-puts c =
    going_puts c.loop-i.invariant (puts_on (length (places c.args.disk.now.map)) (accepted c.args.puts.now) c.requires.puts)

pub loop-i-preserved : goal.loop-i-preserved
loop-i-preserved c =
    let going = c.loop-i.invariant in
    let Goes : Spilling → Type 0 = IsGoing c.args.disk.now c.args.puts.now.puts.items c.args.run.now.back (c.loop-i.i + 1) in
    elim c.match-free_gap.branch [
      | in-Some+in_ok-spill_in w ↦
          let done = w.in_ok-spill_in.ensures in
          subst Goes (sym w.spilling-is) (going_free going w.in-Some.row.now w.spill_in.new.self w.in-Some.ensures.free done.spilling
          done.kept done.instant done.chosen)
      | in_default w ↦ subst Goes (sym w.spilling-is) (going_busy going w.in_default.ensures.none)
    ]

pub sectors_of-requires : goal.sectors_of-requires
sectors_of-requires c =
    let few = (puts_on (length (places c.args.disk.now.map)) (accepted c.args.puts.now) c.requires.puts).few_sectors in
    omega (arith, few, ap (sum_by (λ (put : Put). put.count)) c.deref-2.ensures.value)

pub overflow_sub-left : goal.overflow_sub-left
overflow_sub-left c =
    let sectors = ap (sum_by (λ (put : Put). put.count)) c.deref-2.ensures.value in
    omega (arith, all_written c.loop-i.invariant, c.sectors_of.ensures, sectors)

pub returns-clause-spills : goal.returns-clause-spills
returns-clause-spills c =
    all_gone c.args.disk.now c.args.puts.now.puts.items c.args.run.now c.loop-i.i c.loop-i.spilling
    (subst IsSound c.geometry.ensures c.sound.ensures)
    c.requires.possible c.requires.gaps (omega (arith, c.loop-i-test.false, c.len-i-end.ensures.value)) c.loop-i.invariant

pub returns-clause-in_time : goal.returns-clause-in_time
returns-clause-in_time c = all_in_time c.loop-i.invariant

pub returns-clause-left : goal.returns-clause-left
returns-clause-left c =
    let sectors = ap (sum_by (λ (put : Put). put.count)) c.deref-2.ensures.value in
    omega (arith, all_written c.loop-i.invariant, c.sectors_of.ensures, sectors)

pub returns-clause-holds : goal.returns-clause-holds
returns-clause-holds c =
    holds c.args.disk.now c.args.run.now c.args.puts.now c.loop-i.spilling.items c.requires.puts c.requires.apart
    (all_in_time c.loop-i.invariant)
