use Rattle.fb_puts.proofs.Words.{◌≡◌, ◌+◌, ◌≤◌, length, map, lines_of, AreApart, lines_from, puts_of, range_of, progress, IsReader}
use Rattle.fb_puts.proofs.Words.{IsKnown}
use Rattle.fb_puts.specs.Reader.{terms_of}
use Rattle.fb_puts.proofs.reader.read_lines.Given as goal

abbrev pub invariant-loop-line : goal.invariant-loop-line
invariant-loop-line l = record {
  read : AreApart (map range_of l.reader.puts.items) → lines_from (terms_of l.terms) (l.number + 1) (progress l.reader) (lines_of l.rest)
      ≡ puts_of (terms_of l.terms) l.bytes;
  known : IsKnown l.fn.start.taken → IsKnown l.reader.taken;
  number : l.number + length l.rest ≤ length l.bytes;
  reader : IsReader (terms_of l.terms) l.reader;
}

abbrev pub decreases-loop-line : goal.decreases-loop-line
decreases-loop-line l = length l.rest
