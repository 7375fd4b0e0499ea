-- Words that are drawn one after another.
use Rattle.fb_maker.proofs.Words.{◌≡◌, ℕ, ◌+◌, ◌-◌, ◌*◌, ◌%◌, refl, sym, ap, ◌∙◌, add-one, min, ◌==◌, Request, Traced, generator_after}
use Rattle.fb_maker.proofs.Words.{word, arrival_before, request_at}
use Rattle.rand_xoshiro.specs.SplitMix64.{mix_u64}

state_next : (number k : ℕ) → generator_after number (k + 1) ≡ (mix_u64 (generator_after number k)).1
unfolding generator_after
state_next number k = rw add-one refl

-- a word that is drawn from the state after k words is the k-th word, from 0
pub is_word : (number k word' old new : ℕ) → old ≡ generator_after number k → (word', new) ≡ mix_u64 old → word' ≡ word number k
unfolding word
is_word number k word' old new at drawn = ap (λ (p : ℕ × ℕ). p.0) drawn ∙ ap (λ s. (mix_u64 s).0) at

pub is_state : (number k next word' old new : ℕ) → next ≡ k + 1 → old ≡ generator_after number k → (word', new) ≡ mix_u64 old
    → new ≡ generator_after number next
is_state number k next word' old new e at drawn =
    ap (λ (p : ℕ × ℕ). p.1) drawn ∙ ap (λ s. (mix_u64 s).1) at ∙ sym (state_next number k) ∙ ap (generator_after number) (sym e)

-- the request that is made from four words
pub is_request : (number sectors i before a b c d count : ℕ) → before ≡ arrival_before number i → a ≡ word number (4 * i)
    → b ≡ word number (4 * i + 1) → c ≡ word number (4 * i + 2) → d ≡ word number (4 * i + 3)
    → count ≡ min (8 * (1 + b % 16)) sectors
    → ◌≡◌ {A = Request} (record {
      name = Traced (i + 1);
      arrival = before + a % 12000001;
      lbn = c % (sectors - count + 1);
      count = count;
      write = d % 3 == 0;
    }) (request_at number sectors i)
unfolding request_at
is_request number sectors i before a b c d count at ea eb ec ed size = rw (size, at, ea, eb, ec, ed) refl

pub none_drawn : (number : ℕ) → number ≡ generator_after number 0
unfolding generator_after
none_drawn number = refl

-- the arrival of a request is the one before the next request
pub arrival_of : (number sectors i : ℕ) (request : Request) → request ≡ request_at number sectors i
    → request.arrival ≡ arrival_before number (i + 1)
unfolding request_at
arrival_of number sectors i request is = ap (λ (r : Request). r.arrival) is ∙ rw (add-one) refl
