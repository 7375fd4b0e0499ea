use Rattle.by_hand.proofs.FullRuns.{overwritten_between_is_full, latent_until_written_is_full, read_as_the_write_ends_is_full}
use Rattle.by_hand.proofs.FullRuns.{scrub_finds_latent_is_full}
use Rattle.by_hand.proofs.written.worked_contents.Goals as goal

pub returns : goal.returns
returns c = record {
  overwritten_between = overwritten_between_is_full;
  latent_until_written = latent_until_written_is_full;
  read_as_the_write_ends = read_as_the_write_ends_is_full;
  scrub_finds_latent = scrub_finds_latent_is_full;
}
