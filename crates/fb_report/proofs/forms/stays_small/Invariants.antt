use Rattle.fb_report.proofs.Words.{◌≡◌, ◌<◌, ◌^◌, drop}
use Rattle.fb_report.proofs.Numbers.{stays_below}
use Rattle.fb_report.proofs.forms.stays_small.Given as goal

abbrev pub invariant-loop-byte : goal.invariant-loop-byte
invariant-loop-byte l = record {
  small : l.value < 2 ^ 64;
  rest : stays_below l.value (drop l.byte-index l.text) ≡ stays_below 0 l.text;
}
