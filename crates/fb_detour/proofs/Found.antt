-- What the best so far is no worse than, in a search.
use Rattle.fb_detour.proofs.Words.{arith, inl, inr, ℕ, ◌<◌, ◌≡◌, ◌≤◌, ◌⊎◌, cases_lt, Track, wanted_of, Plan, Detour, IsNoLater}
use Rattle.fb_detour.proofs.Words.{IsTrackBefore, Scored, IsEnough, IsFound, IsNoWorseIn, value_in, Search}
use Rattle.fb_model.proofs.Ties.{no_worse-self, no_worse-trans}

module _ (search : Search) where
  pub itself : (plan : Plan) → IsNoWorseIn search plan plan
  itself plan = no_worse-self search.disk.now search.gap.now (wanted_of search.wanted.now) plan

  pub through : (a b c : Plan) → IsNoWorseIn search a b → IsNoWorseIn search b c → IsNoWorseIn search a c
  through a b c first second = no_worse-trans search.disk.now search.gap.now (wanted_of search.wanted.now) a b c first second

  -- a plan of no more value than a ceiling that is less, or the same and not ahead in the order of ties
  pub no_better_plan : (best : Scored) (ceiling : ℕ) (other : Plan) → IsFound search best
      → (ceiling < best.value) ⊎ ((ceiling ≡ best.value) × IsNoLater best.plan other) → value_in search other ≤ ceiling
      → IsNoWorseIn search best.plan other
  no_better_plan best ceiling other scored enough le = elim enough [
    | inl less ↦ inl (omega (arith, scored.score, le, less))
    | inr same ↦ elim (cases_lt (value_in search other) (value_in search best.plan)) [
      | inl less ↦ inl less
      | inr more ↦ inr (omega (arith, scored.score, le, same.0, more), same.1)
    ]
  ]

  -- so a detour of no more value than that
  pub not_better : (best : Scored) (ceiling : ℕ) (first track : Track) (leave : ℕ) → IsFound search best → IsEnough best ceiling first
      → (IsTrackBefore track first → ⊥) → value_in search (Detour track leave) ≤ ceiling
      → IsNoWorseIn search best.plan (Detour track leave)
  not_better best ceiling first track leave scored enough later le = elim enough [
    | inl less ↦ no_better_plan best ceiling (Detour track leave) scored (inl less) le
    | inr same ↦ no_better_plan best ceiling (Detour track leave) scored (inr (same.0, same.1 track leave later)) le
  ]
