use Rattle.fb_puts.specs.Verdict.{accepted, reserve}
use Rattle.fb_inputs.specs.Read.{files_of, inputs_of_files}
use Rattle.fb_inputs.specs.Puts.{CanBeSpilled}
use Rattle.fb_top.proofs.Spills.{holds_of}
use Rattle.fb_top.proofs.RunGaps.{run_gaps}
use Rattle.fb_top.proofs.Untouching.{untouched_rows}
use Rattle.fb_top.proofs.replay.spill_given.Goals as goal

pub spill-requires : goal.spill-requires
spill-requires c =
    let run = c.args.run.now in
    let full = c.requires.full.full in
    let inputs = inputs_of_files (files_of c.args.read.now.files) c.requires.full.key c.requires.full.until in
    let fit : CanBeSpilled (files_of c.args.read.now.files) (accepted c.in-Some.puts) =
    holds_of _ c.args.read.now.puts c.in-Some.puts c.in-Some.is c.requires.fit in
    record {
      possible = full.sound.possible;
      early = c.requires.early;
      gaps = run_gaps inputs run full;
      puts = fit.rules;
      apart = untouched_rows (reserve c.in-Some.puts) inputs run full fit.untouched;
    }
