-- The blocks of a segment, one after another.
use Rattle.std.proofs.Common.{◌≡◌, ℕ, ◌+◌, ◌*◌, ◌<◌, false, Bool, List, [], length, take, drop, get_or, true, length-take, length-append}
use Rattle.std.proofs.Common.{inl, inr, refl, sym, ap, ◌∙◌, arith}
use Rattle.std.specs.Prelude.{if◌then◌else◌}
use Rattle.std.proofs.lemmas.Bool.{cases_lt}
use Rattle.std.proofs.lemmas.List.{drop_more, drop_all, get_or-take}
use Rattle.fb_geometry.specs.Shape.{Shape}
use Rattle.fb_sectormap.specs.Cutting.{cutting}
use Rattle.fb_script.specs.Blocks.{live_cuts}
use Rattle.fb_calls.specs.Live.{bits, is_live}
use Rattle.fb_calls.proofs.Bits.{length-bits, live_length}

-- into how many blocks the live blocks from the i-th on are cut
abbrev rest : Shape → ℕ → ℕ → List Bool → ℕ → ℕ
rest disk block first lives i = length (live_cuts disk block (first + i * block) (drop i lives))

module _ (disk : Shape) (block first : ℕ) (lives : List Bool) where
  -- the first block that is left, and those behind it
  block_first : (i j : ℕ) → j ≡ i + 1 → i < length lives
      → rest disk block first lives i
      ≡ length (if get_or lives i false then cutting disk block (first + i * block) block else []) + rest disk block first lives j
  block_first i j next inside =
      let lbn : first + i * block + block ≡ first + j * block = rw next (omega arith) in
      rw (drop_more lives i false inside)
      (length-append (if get_or lives i false then cutting disk block (first + i * block) block else [])
      (live_cuts disk block (first + i * block + block) (drop (i + 1) lives))
      ∙ ap (λ n. length (if get_or lives i false then cutting disk block (first + i * block) block else [])
      + length (live_cuts disk block n (drop (i + 1) lives))) lbn
      ∙ ap (λ k. length (if get_or lives i false then cutting disk block (first + i * block) block else [])
      + length (live_cuts disk block (first + j * block) (drop k lives))) (sym next))

  -- a block that isn't live adds nothing
  dead_first : (i j : ℕ) → j ≡ i + 1 → get_or lives i false ≡ false → rest disk block first lives i ≡ rest disk block first lives j
  dead_first i j next dead = elim (cases_lt i (length lives)) [
    | inl inside ↦ block_first i j next inside ∙ rw dead (omega arith)
    | inr past ↦ rw (drop_all i lives past, drop_all j lives (omega arith)) refl
  ]

  -- four blocks of which none is live add nothing
  pub four_dead : (i : ℕ) → ((k : ℕ) → k < 4 → get_or lives (i + k) false ≡ false)
      → rest disk block first lives i ≡ rest disk block first lives (i + 4)
  four_dead i dead =
      dead_first i (i + 1) (omega arith) (ap (λ place. get_or lives place false) (omega arith) ∙ dead 0 (omega arith))
      ∙ dead_first (i + 1) (i + 2) (omega arith) (dead 1 (omega arith))
      ∙ dead_first (i + 2) (i + 3) (omega arith) (dead 2 (omega arith))
      ∙ dead_first (i + 3) (i + 4) (omega arith) (dead 3 (omega arith))

-- the block at a place, and those behind it
pub one_block : (disk : Shape) (block blocks first i : ℕ) (digits : List ℕ) (live : Bool) → is_live blocks digits ≡ true → i < blocks
    → live ≡ get_or (bits digits) i false
    → rest disk block first (take blocks (bits digits)) i
    ≡ length (if live then cutting disk block (first + i * block) block else []) + rest disk block first (take blocks (bits digits)) (i + 1)
one_block disk block blocks first i digits live form within is =
    let lives = take blocks (bits digits) in
    let inside : i < length lives = omega (arith, length-bits digits, length-take blocks (bits digits), live_length blocks digits form) in
    let same : get_or lives i false ≡ live = get_or-take blocks (bits digits) i false within ∙ sym is in
    block_first disk block first lives i (i + 1) refl inside
    ∙ ap (λ l. length (if l then cutting disk block (first + i * block) block else []) + rest disk block first lives (i + 1)) same
