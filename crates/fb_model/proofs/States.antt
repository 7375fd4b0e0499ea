-- The state of a block begins with its registration.
use Rattle.fb_model.proofs.Words.{◌≡◌, List, [], ◌∷◌, ◌++◌, Bool, true, false, ap, refl, sym, inl, inr, arith, list_any, cases_Bool}
use Rattle.fb_model.proofs.Words.{true≢false, list_any-append, Block, State, Wanted, Event, called, chose, Past, registered, registers}
use Rattle.fb_model.proofs.Words.{same_block}
use Rattle.fb_model.specs.History.{state_after_event, state_from}

first_any : {X : Type 0} (p : X → Bool) (xs ys : List X) → list_any p ys ≡ false → list_any p (xs ++ ys) ≡ true → list_any p xs ≡ true
first_any p xs ys none some = grind (arith, list_any-append p xs ys)

-- a block that an event doesn't register was registered before it
registered_before : (past : Past) (event : Event) (block : Block) → registers event block ≡ false
    → list_any (same_block block) (registered (event ∷ past)) ≡ true
    → list_any (same_block block) (registered past) ≡ true
registered_before past (called call blocks) block other h = first_any (same_block block) (registered past) blocks other h
registered_before past (chose task segment blocks) block other h = first_any (same_block block) (registered past) blocks other h
registered_before past _ block other h = h

pub states_begin : (past : Past) (block : Block) (before : State) → list_any (same_block block) (registered past) ≡ true
    → state_from before past block ≡ state_from Wanted past block
states_begin [] block before h = absurd (true≢false (sym h))
states_begin (event ∷ past) block before h = elim (cases_Bool (registers event block)) [
  | inl now ↦ rw now refl
  | inr other ↦ ap (state_after_event past event block) (states_begin past block before (registered_before past event block other h))
]
