use Rattle.std.proofs.Common.{◌≡◌, map, drop}
use Rattle.fb_calls.specs.Words.{meaning}
use Rattle.fb_calls.proofs.words.meaning.Given as goal

-- none of those passed over is the word
abbrev pub invariant-loop-name : goal.invariant-loop-name
invariant-loop-name g l = meaning (map (λ name. (name.0.now, name.1)) l.names) l.word
    ≡ meaning (map (λ name. (name.0.now, name.1)) (drop l.name-index l.names)) l.word
