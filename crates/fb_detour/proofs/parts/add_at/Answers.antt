use Rattle.fb_detour.proofs.Words.{arith, false, nat_lt, refl, ◌≡◌, nat_tests}
use Rattle.fb_detour.proofs.Arrays.{sum-set}
use Rattle.fb_detour.proofs.parts.add_at.Goals as goal

pub returns-then-index-numbers : goal.returns-then-index-numbers
returns-then-index-numbers c = λ n le.
    sum-set c.args.numbers.now c.args.index n _ c.args.worth (omega (arith, c.if-index-numbers.true)) refl

pub returns-else-index-numbers : goal.returns-else-index-numbers
returns-else-index-numbers c = λ n le.
    let over = c.if-index-numbers.false in
    let none : nat_lt c.args.index n ≡ false = grind (arith, nat_tests) in rw none (omega arith)
