-- Where the live blocks of a segment begin.
use Rattle.std.proofs.Common.{◌≡◌, ℕ, ◌+◌, ◌*◌, ◌≤◌, List, [], ◌∷◌, ◌++◌, Bool, true, false, refl, arith, ap, sym, ◌∙◌, length, filter}
use Rattle.std.proofs.Common.{cond, drop, append_assoc, Some, slice_get, subst, zero, suc}
use Rattle.std.specs.List.{AllByRecursion}
use Rattle.std.proofs.lemmas.Option.{same_Some}
use Rattle.fb_clean.specs.Segments.{live_blocks}

-- they are as many as are named live
pub live_blocks-count : (block first : ℕ) (live : List Bool)
    → length (live_blocks block first live) ≡ length (filter (λ is_live. is_live) live)
live_blocks-count block first [] = refl
live_blocks-count block first (true ∷ live) = ap suc (live_blocks-count block (first + block) live)
live_blocks-count block first (false ∷ live) = live_blocks-count block (first + block) live

pub live_blocks-few : (block first : ℕ) (live : List Bool) → length (live_blocks block first live) ≤ length live
live_blocks-few block first [] = omega arith
live_blocks-few block first (true ∷ live) = let rest = live_blocks-few block (first + block) live in omega arith
live_blocks-few block first (false ∷ live) = let rest = live_blocks-few block (first + block) live in omega arith

-- they end where the segment does
pub live_blocks-within : (block first bound : ℕ) (live : List Bool) → first + length live * block ≤ bound
    → AllByRecursion (λ lbn. lbn + block ≤ bound) (live_blocks block first live)
live_blocks-within block first bound [] within = tt
live_blocks-within block first bound (true ∷ live) within = (omega arith, live_blocks-within block (first + block) bound live (omega arith))
live_blocks-within block first bound (false ∷ live) within = live_blocks-within block (first + block) bound live (omega arith)

drop_one : (live : List Bool) (i : ℕ) (is_live : Bool) → slice_get live i ≡ Some is_live → drop i live ≡ is_live ∷ drop (i + 1) live
drop_one [] i is_live at = absurd (grind arith)
drop_one (x ∷ live) zero is_live at = ap (λ y. y ∷ live) (same_Some x is_live at)
drop_one (x ∷ live) (suc i) is_live at = let more : suc i + 1 ≡ suc (i + 1) = omega arith in rw more (drop_one live i is_live at)

less_room : (n m lbn block bound : ℕ) → n ≡ suc m → lbn + n * block ≤ bound → lbn + block + m * block ≤ bound
less_room n m lbn block bound e room = let one = subst (λ k. lbn + k * block ≤ bound) e room in omega arith

-- room for the blocks after one block
pub room_after : (live : List Bool) (i lbn block bound : ℕ) (is_live : Bool) → slice_get live i ≡ Some is_live
    → lbn + length (drop i live) * block ≤ bound → lbn + block + length (drop (i + 1) live) * block ≤ bound
room_after live i lbn block bound is_live at room =
    less_room (length (drop i live)) (length (drop (i + 1) live)) lbn block bound (ap length (drop_one live i is_live at)) room

-- one more block
pub blocks_more : (live : List Bool) (i lbn block : ℕ) (is_live : Bool) (lbns now whole : List ℕ) → slice_get live i ≡ Some is_live
    → now ≡ lbns ++ cond is_live (lbn ∷ []) []
    → lbns ++ live_blocks block lbn (drop i live) ≡ whole → now ++ live_blocks block (lbn + block) (drop (i + 1) live) ≡ whole
blocks_more live i lbn block is_live lbns now whole at e so_far =
    let rest = live_blocks block (lbn + block) (drop (i + 1) live) in
    ap (λ xs. xs ++ rest) e ∙ (append_assoc lbns (cond is_live (lbn ∷ []) []) rest
    ∙ (ap (λ d. lbns ++ live_blocks block lbn d) (sym (drop_one live i is_live at)) ∙ so_far))
