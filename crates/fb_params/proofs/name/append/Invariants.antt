use Rattle.fb_params.proofs.Words.{◌≡◌, ◌++◌, take}
use Rattle.fb_params.proofs.name.append.Given as goal

abbrev pub invariant-loop-byte : goal.invariant-loop-byte
invariant-loop-byte l = l.text ≡ l.initial.text ++ take l.byte-index l.bytes
