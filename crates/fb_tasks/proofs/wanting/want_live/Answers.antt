use Rattle.fb_units.proofs.Lists.{drop_at}
use Rattle.fb_tasks.proofs.Words.{◌+◌, ◌++◌, length, drop, refl, ap, ◌∙◌, length-append, arith, cutting, live_of, cuts_of, blocks_of}
use Rattle.fb_tasks.proofs.Words.{numbered, new_entries}
use Rattle.fb_tasks.proofs.{Leaving.grown_more, Leaving.begun_next, Cuts.live-more}
use Rattle.fb_wanted.specs.Numbering.{registered_count}
use Rattle.fb_tasks.proofs.wanting.want_live.Goals as goal

pub want_range-requires-clause-few : goal.want_range-requires-clause-few
want_range-requires-clause-few c =
    let block = c.args.session.now.block in
    let lbns = live_of c.args.session.now.log c.args.segment in
    let cs = cutting c.args.map.now block c.live_block-lbn.result block in
    omega (
      arith,
      c.loop-i.invariant.few,
      ap (λ xs. length (cuts_of c.args.map.now block xs)) (drop_at lbns c.loop-i.i c.live_block-lbn.result c.live_block-lbn.ensures),
      length-append cs (cuts_of c.args.map.now block (drop (c.loop-i.i + 1) lbns)),
    )

pub loop-i-preserved : goal.loop-i-preserved
loop-i-preserved c =
    let session = c.args.session.now in
    let more = live-more c.args.map.now c.args.task session.block session.weight session c.loop-i.wanted c.want_range.new.wanted
    (live_of session.log c.args.segment) c.loop-i.i c.live_block-lbn.result c.live_block-lbn.ensures c.in_ok-want_range.ensures.all in
    record {
      all = more.0 ∙ c.loop-i.invariant.all;
      few = omega (arith, more.1, c.loop-i.invariant.few);
      grown = grown_more _ _ _ c.loop-i.invariant.grown (record { added = _; is = c.in_ok-want_range.ensures.all });
    }

pub returns-in_err-want_range-clause-begun : goal.returns-in_err-want_range-clause-begun
returns-in_err-want_range-clause-begun c =
    let session = c.args.session.now in
    let held = c.loop-i.wanted in
    let due = new_entries session (numbered c.args.task session.weight (registered_count c.args.task (blocks_of held))
    (cutting c.args.map.now session.block c.live_block-lbn.result session.block)) in
    let more = live-more c.args.map.now c.args.task session.block session.weight session held (held ++ due)
    (live_of session.log c.args.segment) c.loop-i.i c.live_block-lbn.result c.live_block-lbn.ensures refl in
    begun_next _ c.loop-i.invariant.grown c.want_range.ensures.begun (more.0 ∙ c.loop-i.invariant.all)
