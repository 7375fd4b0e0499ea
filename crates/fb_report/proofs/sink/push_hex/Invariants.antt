use Rattle.fb_report.proofs.Words.{◌≡◌, ◌++◌, drop, encode_lower}
use Rattle.fb_report.proofs.sink.push_hex.Given as goal

abbrev pub invariant-loop-byte : goal.invariant-loop-byte
invariant-loop-byte l = l.text.items ++ encode_lower (drop l.byte-index l.bytes) ≡ l.fn.text.items ++ encode_lower l.bytes
