-- Pending requests by spot and number of joining.
use Rattle.std.specs.Prelude.{◌≡◌, ℕ, ◌<◌, ◌≤◌, ◌≢◌, List, [], ◌∷◌, Some, nat_lt, map, if◌then◌else◌, ◌⊎◌}
use Rattle.std.specs.List.{AllByRecursion}
use Rattle.std.specs.Ordering.{nat_cmp, ordering_then}
use Rattle.std.specs.declared.cmp.Ordering.{Ordering}
use Rattle.std.specs.BTreeMap.{BTreeMap, ContainsKey, get}
use Rattle.fb_units.specs.declared.types.Request.{Request}

-- by spot, and of one spot by number of joining
abbrev pub order : ℕ × ℕ → ℕ × ℕ → Ordering
order a b = ordering_then (nat_cmp a.0 b.0) (nat_cmp a.1 b.1)

-- a request waits under this key
abbrev pub Waits : BTreeMap (ℕ × ℕ) Request → ℕ × ℕ → Type 0
Waits waiting key = ContainsKey order waiting key

-- this request waits under this key
abbrev pub Holds : BTreeMap (ℕ × ℕ) Request → ℕ × ℕ → Request → Type 0
Holds waiting key request = get order waiting key ≡ Some request

-- each request that waits, with its key, is so
abbrev pub AllHeld : (ℕ × ℕ → Request → Type 0) → BTreeMap (ℕ × ℕ) Request → Type 0
AllHeld P waiting = (key : ℕ × ℕ) (request : Request) → Holds waiting key request → P key request

-- a request that waits, with its spot and its number of joining
abbrev pub Waiting : Type 0
Waiting = (ℕ × ℕ) × Request

abbrev pub number_of : Waiting → ℕ
number_of w = w.0.1

-- a request put where it belongs among others in order of joining
abbrev pub join_in : Waiting → List Waiting → List Waiting
join_in w [] = w ∷ []
join_in w (x ∷ xs) = if nat_lt (number_of w) (number_of x) then w ∷ x ∷ xs else x ∷ join_in w xs

-- in order of joining
abbrev pub in_order : List Waiting → List Waiting
in_order [] = []
in_order (w ∷ ws) = join_in w (in_order ws)

-- the requests alone, in order of joining
abbrev pub pending_of : List Waiting → List Request
pending_of ws = map (λ w. w.1) (in_order ws)

-- no two have the same number
abbrev pub NumbersDiffer : List Waiting → Type 0
NumbersDiffer [] = Unit {0}
NumbersDiffer (w ∷ ws) = AllByRecursion (λ x. number_of x ≢ number_of w) ws × NumbersDiffer ws

-- each has a number of its own that was given already
pub record HaveOwnNumbers (ws : List Waiting) (joined : ℕ) : Type 0 where
  pub given : AllByRecursion (λ w. number_of w < joined) ws
  pub numbered : NumbersDiffer ws

-- of two requests, by rank and then by number of joining, the first comes no later than the second
abbrev pub IsNoLater : ℕ → ℕ → ℕ → ℕ → Type 0
IsNoLater rank number other_rank other_number = (rank < other_rank) ⊎ ((rank ≡ other_rank) × (number ≤ other_number))

-- no rank is less than that of this request, and none of its rank joined before it
abbrev pub IsFirst : (Request → ℕ) → Waiting → List Waiting → Type 0
IsFirst rank w ws = AllByRecursion (λ x. IsNoLater (rank w.1) (number_of w) (rank x.1) (number_of x)) ws

-- the same of the request under a key among all that wait
abbrev pub IsFirstHeld : (Request → ℕ) → BTreeMap (ℕ × ℕ) Request → ℕ × ℕ → Type 0
IsFirstHeld rank waiting key = (request : Request) → Holds waiting key request
    → AllHeld (λ other_key other. IsNoLater (rank request) key.1 (rank other) other_key.1) waiting

-- what a queue keeps: the requests that wait, and how many joined
pub record QueueState : Type 0 where
  pub waiting : List Waiting
  pub joined : ℕ
