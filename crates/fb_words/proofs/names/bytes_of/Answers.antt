use Rattle.std.proofs.Common.{refl}
use Rattle.fb_words.specs.Names.{bytes_of}
use Rattle.fb_words.proofs.Meanings.{bytes_differ}
use Rattle.fb_words.proofs.names.bytes_of.Goals as goal

pub returns-in_default : goal.returns-in_default
unfolding bytes_of
returns-in_default c =
    rw (bytes_differ c.in_default.not-none, bytes_differ c.in_default.not-sha256, bytes_differ c.in_default.not-hex) refl
