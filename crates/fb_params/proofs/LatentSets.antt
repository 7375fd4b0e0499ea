-- Numbers kept in order.
use Rattle.fb_params.proofs.Words.{ℕ, Ordering, Less, Equal, Greater, List, [], ◌∷◌, AllByRecursion, nat_cmp, match_ordering}
use Rattle.std.specs.BTreeSet.{insert_key}

all-placed : (P : ℕ → Type 0) (order : Ordering) (number other : ℕ) (rest placed : List ℕ) → P number → P other → AllByRecursion P rest
    → AllByRecursion P placed
    → AllByRecursion P (match_ordering order (number ∷ other ∷ rest) (other ∷ rest) (other ∷ placed))
all-placed P Less number other rest placed here next all more = (here, (next, all))
all-placed P Equal number other rest placed here next all more = (next, all)
all-placed P Greater number other rest placed here next all more = (next, more)

-- what holds of the numbers and of one more holds of all where it is put in its place
pub all-insert_key : (P : ℕ → Type 0) (numbers : List ℕ) (number : ℕ) → P number → AllByRecursion P numbers
    → AllByRecursion P (insert_key nat_cmp numbers number)
all-insert_key P [] number here all = (here, tt)
all-insert_key P (other ∷ numbers) number here all =
    all-placed P (nat_cmp number other) number other numbers _ here all.0 all.1 (all-insert_key P numbers number here all.1)
