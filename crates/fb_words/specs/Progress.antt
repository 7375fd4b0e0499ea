-- What the code holds of the words so far, as the values of the definitions.
use Rattle.std.specs.Option.{option_copied}
use Rattle.fb_words.specs.declared.reading.Parts.{Parts}
use Rattle.fb_words.specs.declared.reading.Progress.{Progress}
use Rattle.fb_words.specs.declared.reading.Progress.TheVariants.{Ready, Awaits}
use Rattle.fb_words.specs.Given.{options}
use Rattle.fb_words.specs.Reading as reading
use Rattle.fb_words.specs.Reading.{ready, awaits}

abbrev pub parts : Parts → reading.Parts
parts word = record { name = word.name.now; value = option_copied word.value }

abbrev pub progress : Progress → reading.Progress
progress (Ready given) = ready (options given)
progress (Awaits given option position) = awaits (options given) option position
