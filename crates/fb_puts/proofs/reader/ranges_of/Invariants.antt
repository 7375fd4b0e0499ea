use Rattle.fb_puts.proofs.Words.{◌≡◌, map, take, range_of}
use Rattle.fb_puts.proofs.reader.ranges_of.Given as goal

abbrev pub invariant-loop-put : goal.invariant-loop-put
invariant-loop-put l = l.ranges.items ≡ map range_of (take l.put-index l.puts)
