use Rattle.std.proofs.Common.{codes, ◌∷◌, ◌∙◌}
use Rattle.fb_words.specs.declared.names.OptionName.TheVariants.{Puts, Spill}
use Rattle.fb_words.specs.Names.{option_of, run_options}
use Rattle.fb_words.proofs.Meanings.{other_meaning}
use Rattle.fb_words.proofs.names.replay_option.Goals as goal

pub returns-in_default : goal.returns-in_default
unfolding option_of
returns-in_default c =
    c.run_option.ensures ∙ other_meaning (codes "--spill", Spill) run_options c.args.name.now c.in_default.not-text-2
    ∙ other_meaning (codes "--puts", Puts) ((codes "--spill", Spill) ∷ run_options) c.args.name.now c.in_default.not-text
