use Rattle.std.proofs.Common.{◌≡◌, ◌+◌, length}
use Rattle.fb_units.specs.Lines.{fields_of}
use Rattle.fb_calls.proofs.entry.has_fields.Given as goal

abbrev pub invariant-loop : goal.invariant-loop
invariant-loop l = length (fields_of l.line) ≡ l.counter + length (fields_of l.rest)
