use Rattle.std.proofs.Common.{◌≡◌, ◌<◌, ◌^◌, drop}
use Rattle.fb_units.proofs.Flags.{hex_from}
use Rattle.fb_units.proofs.numbers.read_flags.Given as goal

abbrev pub invariant-loop-byte : goal.invariant-loop-byte
invariant-loop-byte l = record {
  small : l.value < 16 ^ l.byte-index;
  rest : hex_from l.value (drop l.byte-index l.digits) ≡ hex_from 0 l.digits;
}
