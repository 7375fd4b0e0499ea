use Rattle.fb_bgwrite.proofs.Words.{refl}
use Rattle.fb_bgwrite.proofs.Adding.{new_spilling}
use Rattle.fb_bgwrite.proofs.spilling.Spilling.new.Goals as goal

pub returns-clause-spilling : goal.returns-clause-spilling
returns-clause-spilling c = new_spilling (record {
  alloc = c.args.alloc;
  disk = c.args.disk;
  puts = c.args.puts;
  pending = c.new.result;
  admitted = 0;
  instant = 0;
  items = c.new-2.result;
  written = 0;
}) c.new-2.ensures c.new.ensures refl refl
