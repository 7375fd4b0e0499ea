-- The list of the tasks that choosing and testing look at, and the notes of those that a write looks at. Contracts of inner
-- functions cite it.
use Rattle.std.specs.Prelude.{◌≡◌, ◌<◌, ◌^◌, ℕ, List, length, true, Some, slice_get}
use Rattle.std.specs.BTreeSet.{BTreeSet, contains}
use Rattle.std.specs.Ordering.{nat_cmp}
use Rattle.fb_tasks.specs.declared.session.Session.{Session}
use Rattle.fb_tasks.specs.Nearby.{IsAmong, pair_cmp}

-- each touched session stands on the list, and nothing but sessions; and each session is noted in each of its chunks
pub record AreListed (sessions : List Session) (listed_touched : BTreeSet ℕ) (near : BTreeSet (ℕ × ℕ)) : Type 0 where
  pub room : length sessions < 2 ^ 32
  pub listed : (task : ℕ) (session : Session) → slice_get sessions task ≡ Some session → session.touched ≡ true
      → contains nat_cmp listed_touched task ≡ true
  pub within : (task : ℕ) → contains nat_cmp listed_touched task ≡ true → task < length sessions
  pub noted : (task : ℕ) (session : Session) → slice_get sessions task ≡ Some session → (chunk : ℕ) → IsAmong session.chunks chunk
      → contains pair_cmp near (chunk, task) ≡ true
