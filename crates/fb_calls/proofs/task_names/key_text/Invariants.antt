use Rattle.std.proofs.Common.{◌≡◌, take}
use Rattle.fb_calls.proofs.task_names.key_text.Given as goal

abbrev pub invariant-loop-byte : goal.invariant-loop-byte
invariant-loop-byte l = l.text ≡ take l.byte-index l.name
