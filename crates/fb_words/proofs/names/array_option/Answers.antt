use Rattle.fb_words.specs.declared.names.Verb.TheVariants.{Array}
use Rattle.fb_words.specs.Names.{option_of, options_of}
use Rattle.fb_words.proofs.Meanings.{no_meaning}
use Rattle.fb_words.proofs.names.array_option.Goals as goal

pub returns-in_default : goal.returns-in_default
unfolding option_of
returns-in_default c = no_meaning (options_of Array) c.args.name.now (
  c.in_default.not-text,
  (
    c.in_default.not-text-2,
    (
      c.in_default.not-text-3,
      (
        c.in_default.not-text-4,
        (
          c.in_default.not-text-5,
          (c.in_default.not-text-6, (c.in_default.not-text-7, (c.in_default.not-text-8, (c.in_default.not-text-9, tt)))),
        ),
      ),
    ),
  ),
)
