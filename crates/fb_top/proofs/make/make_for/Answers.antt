use Rattle.fb_top.proofs.Words.{arith, length, refl, subst, sym, places, IsSound, some_sectors, make_terms, make_asks, Outcome, EndsAs}
use Rattle.fb_top.proofs.Words.{MakeHasCause}
use Rattle.fb_top.proofs.Ends.{unwritten_ends}
use Rattle.fb_top.proofs.Making.{make_stopped, wrote_both}
use Rattle.fb_top.proofs.make.make_for.Goals as goal

pub returns-in-Ok-clause-cause : goal.returns-in-Ok-clause-cause
returns-in-Ok-clause-cause g c = λ first latent reads only.
    let mid = g.D.Desk.seen c.args.desk.now in
    let new = g.D.Desk.seen c.write_both.new.desk in
    let terms = make_terms c.args.words.now in
    let disk = c.args.disk.now in
    record {
      count = refl;
      makes = record { disk = disk; latent = latent; reads_disk = reads };
      texts = wrote_both terms first mid new (record { disk = disk; latent = latent; reads_disk = reads }) only c.in-Ok.ensures.texts;
      trace_read = c.made_traces_are_read.ensures terms.number terms.device (length (places disk.map)) terms.requests c.requires.limits.2
          (omega (arith, some_sectors disk.map (subst IsSound c.geometry.ensures c.sound.ensures))) disk.few_blocks c.requires.limits.1;
      calls_read = c.made_scripts_are_read.ensures terms.requests;
    }

pub returns-in-Err-clause-cause : goal.returns-in-Err-clause-cause
returns-in-Err-clause-cause g c = λ first latent reads only.
    let new = g.D.Desk.seen c.write_both.new.desk in
    let terms = make_terms c.args.words.now in
    subst (λ (outcome : Outcome). MakeHasCause terms first new outcome) (sym c.from.ensures)
    (make_stopped terms first (g.D.Desk.seen c.args.desk.now) new
    (record { disk = c.args.disk.now; latent = latent; reads_disk = reads }) only c.in-Err.error c.in-Err.ensures.texts)

pub returns-in-Err-clause-calls : goal.returns-in-Err-clause-calls
returns-in-Err-clause-calls g c =
    let asks = make_asks (make_terms c.args.words.now) in
    let old = (g.D.Desk.seen c.args.desk.now).calls in
    let new = (g.D.Desk.seen c.write_both.new.desk).calls in
    subst (λ (outcome : Outcome). EndsAs asks outcome old new) (sym c.from.ensures)
    (unwritten_ends asks c.in-Err.error old new c.in-Err.ensures.calls)
