use Rattle.std.proofs.Common.{refl}
use Rattle.fb_words.specs.Names.{policy_of}
use Rattle.fb_words.proofs.Meanings.{bytes_differ}
use Rattle.fb_words.proofs.names.policy_of.Goals as goal

pub returns-in_default : goal.returns-in_default
unfolding policy_of
returns-in_default c =
    let is = c.in_default in
    rw (bytes_differ is.not-fcfs, bytes_differ is.not-sstf, bytes_differ is.not-clook, bytes_differ is.not-sptf) refl
