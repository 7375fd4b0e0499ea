-- The change of one block by its number as a change of the blocks of its task.
use Rattle.fb_wanted.proofs.Words.{◌≡◌, ℕ, ◌==◌, List, true, false, refl, ap, sym, arith, nat_tests, Change, Entry, State, after}
use Rattle.fb_wanted.proofs.Words.{entry_after, state_after, AreInOrder, blocks_of, is_of_task, change_nth}
use Rattle.fb_wanted.specs.declared.block.Change.TheVariants.{Deliver}
use Rattle.fb_wanted.proofs.Numbers.{number_at}
use Rattle.fb_wanted.proofs.Standing.{nth_alone, passes}

pub own_after : (task : ℕ) (change : Change) (e : Entry) (s : State) → is_of_task task e ≡ true → s ≡ state_after change e.block e.state
    → entry_after task change e ≡ record { block = e.block; state = s }
own_after task change e s own is = rw own (ap (λ t. let x : Entry = record { block = e.block; state = t } in x) (sym is))

pub others_after : (task : ℕ) (change : Change) (e : Entry) → is_of_task task e ≡ false → entry_after task change e ≡ e
others_after task change e other = rw other refl

not_delivered : (task number : ℕ) (e : Entry) → is_of_task task e ≡ true → (e.block.index == number) ≡ false
    → entry_after task (Deliver number) e ≡ e
not_delivered task number e own other = rw (own, other) refl

pub delivered_alone : (task number : ℕ) (es : List Entry) → AreInOrder (blocks_of es)
    → change_nth (is_of_task task) (entry_after task (Deliver number)) number es ≡ after task (Deliver number) es
delivered_alone task number es h = nth_alone (is_of_task task) (entry_after task (Deliver number)) number es
    (others_after task (Deliver number)) (λ j e at ne.
    let is = number_at es task j e h at in
    not_delivered task number e (passes (is_of_task task) es j e at) (grind (arith, nat_tests)))
