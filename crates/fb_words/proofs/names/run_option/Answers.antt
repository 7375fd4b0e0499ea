use Rattle.fb_words.specs.Names.{run_options}
use Rattle.fb_words.proofs.Meanings.{no_meaning}
use Rattle.fb_words.proofs.names.run_option.Goals as goal

pub returns-in_default : goal.returns-in_default
returns-in_default c = no_meaning run_options c.args.name.now (
  c.in_default.not-text,
  (
    c.in_default.not-text-2,
    (
      c.in_default.not-text-3,
      (
        c.in_default.not-text-4,
        (c.in_default.not-text-5, (c.in_default.not-text-6, (c.in_default.not-text-7, (c.in_default.not-text-8, tt)))),
      ),
    ),
  ),
)
