-- What comes no later, in the order of ties, than the earliest detour over a track.
use Rattle.fb_units.proofs.Tracks.{same_fields}
use Rattle.fb_detour.proofs.Words.{arith, inl, inr, subst, sym, ℕ, ◌≤◌, cases_lt, Track, Plan, Detour, Direct, IsAhead}
use Rattle.fb_detour.proofs.Words.{IsNoLater, IsTrackBefore}

-- what comes before a track comes before each track that isn't before that one
before_rest : (a b c : Track) → IsTrackBefore a b → (IsTrackBefore c b → ⊥) → IsTrackBefore a c
before_rest a b c before behind = elim (cases_lt a.cylinder c.cylinder) [
  | inl less ↦ inl less
  | inr past ↦ elim before [
    | inl x ↦ absurd (behind (inl (omega (arith, past, x))))
    | inr x ↦ elim (cases_lt c.cylinder a.cylinder) [
      | inl under ↦ absurd (behind (inl (omega (arith, under, x.0))))
      | inr level ↦ elim (cases_lt a.head c.head) [
        | inl less ↦ inr (omega (arith, past, level), less)
        | inr over ↦ absurd (behind (inr (omega (arith, past, level, x.0), omega (arith, over, x.1))))
      ]
    ]
  ]
]

-- the earliest detour over a track comes no later than one over this track or a later one
earliest : (track other : Track) (first leave : ℕ) → first ≤ 0 → (IsTrackBefore other track → ⊥)
    → IsNoLater (Detour track first) (Detour other leave)
earliest track other first leave none behind = elim (cases_lt track.cylinder other.cylinder) [
  | inl less ↦ inl (inl less)
  | inr past ↦ elim (cases_lt other.cylinder track.cylinder) [
    | inl under ↦ absurd (behind (inl under))
    | inr level ↦ elim (cases_lt track.head other.head) [
      | inl less ↦ inl (inr (omega (arith, past, level), less))
      | inr over ↦ elim (cases_lt other.head track.head) [
        | inl under ↦ absurd (behind (inr (omega (arith, past, level), under)))
        | inr even ↦ inr (same_fields track other (omega (arith, past, level)) (omega (arith, over, even)), omega (arith, none))
      ]
    ]
  ]
]

pub ahead-earliest : (plan : Plan) (track : Track) → IsNoLater plan (Detour track 0) → IsAhead plan track
ahead-earliest (Direct leave) track h = λ other later behind. tt
ahead-earliest (Detour own leave) track h = λ other later behind. elim h [
  | inl before ↦ inl (before_rest own track other before behind)
  | inr same ↦ subst (λ t. IsNoLater (Detour t leave) (Detour other later)) (sym same.0)
      (earliest track other leave later same.1 behind)
]
