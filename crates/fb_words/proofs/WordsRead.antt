-- Reading words goes on after the first one that is left.
use Rattle.std.proofs.Common.{◌≡◌, ℕ, ◌+◌, ◌<◌, ◌≤◌, List, ◌∷◌, map, length, drop, get_or, sym, ap, ◌∙◌, Result, Ok, Err}
use Rattle.std.proofs.lemmas.List.{drop_more, drop_all}
use Rattle.fb_units.specs.Judging.{◌>>=◌}
use Rattle.fb_words.specs.declared.fault.UsageFault.{UsageFault}
use Rattle.fb_words.specs.declared.names.Verb.{Verb}
use Rattle.fb_words.specs.Options.{Options}
use Rattle.fb_words.specs.Reading.{Progress, with_word, at_end, options_from}

module _ {X : Type 0} (bytes : X → List ℕ) (verb : Verb) where
  split : (words : List X) (i : ℕ) (x : X) (word : List ℕ) → i < length words → x ≡ get_or words i x → word ≡ bytes x
      → map bytes (drop i words) ≡ word ∷ map bytes (drop (i + 1) words)
  split words i x word inside is at =
      ap (map bytes) (drop_more words i x inside) ∙ ap (λ y. bytes y ∷ map bytes (drop (i + 1) words)) (sym is)
      ∙ ap (λ w. w ∷ map bytes (drop (i + 1) words)) (sym at)

  -- after one more word, the rest of the words gives the same result
  pub read_more : (position next_position : ℕ) (so_far next : Progress) (words : List X) (i : ℕ) (x : X) (word : List ℕ)
      (whole : Result Options UsageFault) → next_position ≡ position + 1
      → i < length words → x ≡ get_or words i x → word ≡ bytes x → with_word verb position so_far word ≡ Ok next
      → options_from verb position so_far (map bytes (drop i words)) ≡ whole
      → options_from verb next_position next (map bytes (drop (i + 1) words)) ≡ whole
  unfolding options_from
  read_more position next_position so_far next words i x word whole step inside is at taken read =
      ap (λ p. options_from verb p next (map bytes (drop (i + 1) words))) step
      ∙ sym (ap (λ r. r >>= (λ n. options_from verb (position + 1) n (map bytes (drop (i + 1) words)))) taken)
      ∙ ap (options_from verb position so_far) (sym (split words i x word inside is at)) ∙ read

  -- the fault of a word is the result of all words
  pub read_fault : (position : ℕ) (so_far : Progress) (words : List X) (i : ℕ) (x : X) (word : List ℕ) (whole : Result Options UsageFault)
      (fault : UsageFault)
      → i < length words → x ≡ get_or words i x → word ≡ bytes x → with_word verb position so_far word ≡ Err fault
      → options_from verb position so_far (map bytes (drop i words)) ≡ whole → whole ≡ Err fault
  unfolding options_from
  read_fault position so_far words i x word whole fault inside is at refused read =
      sym read ∙ ap (options_from verb position so_far) (split words i x word inside is at)
      ∙ ap (λ r. r >>= (λ n. options_from verb (position + 1) n (map bytes (drop (i + 1) words)))) refused

  -- if no word is left, what was read is the result
  pub read_end : (position : ℕ) (so_far : Progress) (words : List X) (i : ℕ) (whole : Result Options UsageFault) → length words ≤ i
      → options_from verb position so_far (map bytes (drop i words)) ≡ whole → at_end so_far ≡ whole
  unfolding options_from
  read_end position so_far words i whole past read =
      sym (ap (λ rest. options_from verb position so_far (map bytes rest)) (drop_all i words past)) ∙ read
