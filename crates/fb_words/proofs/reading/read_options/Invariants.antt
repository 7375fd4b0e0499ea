use Rattle.std.proofs.Common.{◌≡◌, ◌+◌, map, drop}
use Rattle.std.specs.String.{string_bytes}
use Rattle.fb_words.specs.Options.{no_options}
use Rattle.fb_words.specs.Progress.{progress}
use Rattle.fb_words.specs.Reading.{ready, options_from}
use Rattle.fb_words.proofs.reading.read_options.Given as goal

-- what is left of the words reads to the whole
abbrev pub invariant-loop-index : goal.invariant-loop-index
invariant-loop-index l = options_from l.verb (l.index + 2) (progress l.so_far) (map string_bytes (drop l.index l.words))
    ≡ options_from l.verb 2 (ready no_options) (map string_bytes l.words)
