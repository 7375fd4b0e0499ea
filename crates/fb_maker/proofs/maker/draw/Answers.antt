use Rattle.fb_maker.proofs.Words.{◌≡◌, ℕ, ◌+◌, ◌*◌, arith, refl, generator_after}
use Rattle.fb_maker.proofs.Drawing.{is_word, is_state, is_request}
use Rattle.fb_maker.proofs.maker.draw.Goals as goal

-- the generator behind each of the first three words
behind_words : (c : goal.After-next_word-4) (number : ℕ) → c.args.words.now ≡ generator_after number (4 * c.args.behind)
    → (c.next_word.new.self ≡ generator_after number (4 * c.args.behind + 1))
    × (c.next_word-2.new.self ≡ generator_after number (4 * c.args.behind + 2))
    × (c.next_word-3.new.self ≡ generator_after number (4 * c.args.behind + 3))
behind_words c number at =
    let one = is_state _ _ _ _ _ _ refl at c.next_word.ensures in
    let two = is_state _ _ (4 * c.args.behind + 2) _ _ _ (omega arith) one c.next_word-2.ensures in
    (one, two, is_state _ _ _ _ _ _ (omega arith) two c.next_word-3.ensures)

pub returns-clause-request : goal.returns-clause-request
returns-clause-request c = λ number at before.
    let behind = behind_words c number at in
    is_request number c.args.sectors c.args.behind c.args.before _ _ _ _ _ before (is_word _ _ _ _ _ at c.next_word.ensures)
    (is_word _ _ _ _ _ behind.0 c.next_word-2.ensures) (is_word _ _ _ _ _ behind.1 c.next_word-3.ensures)
    (is_word _ _ _ _ _ behind.2 c.next_word-4.ensures) c.min-count.ensures

pub returns-clause-words : goal.returns-clause-words
returns-clause-words c = λ number at.
    is_state _ _ _ _ _ _ (omega arith) (behind_words c number at).2 c.next_word-4.ensures
