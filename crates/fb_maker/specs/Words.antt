-- The random words of a seed, by SplitMix64: Steele, Lea and Flood, "Fast splittable pseudorandom number generators", 2014.
use Rattle.std.specs.Prelude.{ℕ, zero, suc}
use Rattle.rand_xoshiro.specs.SplitMix64.{mix_u64}

-- the state of SplitMix64 after this many words of a seed
unfoldable pub generator_after : ℕ → ℕ → ℕ
generator_after number zero = number
generator_after number (suc words) = (mix_u64 (generator_after number words)).1

-- the k-th word of a seed, from 0
unfoldable pub word : ℕ → ℕ → ℕ
word number k = (mix_u64 (generator_after number k)).0
