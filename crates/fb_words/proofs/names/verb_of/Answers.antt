use Rattle.std.proofs.Common.{refl}
use Rattle.fb_words.specs.Names.{verb_of}
use Rattle.fb_words.proofs.Meanings.{bytes_differ}
use Rattle.fb_words.proofs.names.verb_of.Goals as goal

pub returns-in_default : goal.returns-in_default
unfolding verb_of
returns-in_default c =
    let is = c.in_default in
    rw (bytes_differ is.not-replay, bytes_differ is.not-make, bytes_differ is.not-check, bytes_differ is.not-array) refl
