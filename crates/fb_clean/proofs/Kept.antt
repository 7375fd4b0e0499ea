-- What stays so of the segments of a session.
use Rattle.std.proofs.Common.{◌≡◌, ◌≤◌, ℕ, ◌+◌, ◌<◌, List, [], ◌∷◌, ◌++◌, Option, Some, None, Bool, true, false, refl, arith, ap, ap₂, sym}
use Rattle.std.proofs.Common.{◌∙◌, length, map, cond, set, get_or, slice_get, zero, suc, ◌==◌, subst, ◌^◌, ◌-◌, Result}
use Rattle.std.proofs.Common.{IfOk, true≢false}
use Rattle.std.specs.Option.{is_some}
use Rattle.std.specs.List.{AllByRecursion, flat_map, range_with_len}
use Rattle.std.proofs.lemmas.List.{length_push, length-map, get_or_default, get_or-map}
use Rattle.std.proofs.lemmas.Option.{same_Some}
use Rattle.fb_units.proofs.Comparing.{less_differs, same_number as own_number, more_differs}
use Rattle.fb_store.specs.declared.content.Content.{Content}
use Rattle.fb_store.specs.declared.content.ContentRun.{ContentRun}
use Rattle.fb_store.specs.Ranges.{held_at}
use Rattle.fb_store.specs.Sparse.{held_in}
use Rattle.fb_store.specs.Runs.{runs_of}
use Rattle.fb_clean.specs.Segments.{LogSegment, Cleaning, no_longer_waiting, without, number_of, first_best, waiting, choice_while}
use Rattle.fb_clean.specs.Segments.{packed_sectors}
use Rattle.fb_clean.specs.Numbers.{AreNumbered, AreWithin, AreInPlace}

-- the number of a segment says its index
pub number_at : (n : ℕ) (segments : List LogSegment) (i : ℕ) (s : LogSegment) → AreNumbered n segments → slice_get segments i ≡ Some s
    → s.number ≡ n + i
number_at n [] i s numbered at = absurd (grind arith)
number_at n (x ∷ segments) zero s numbered at = let own = ap (λ y. y.number) (same_Some x s at) in let first = numbered.0 in omega arith
number_at n (x ∷ segments) (suc i) s numbered at = let rest = number_at (n + 1) segments i s numbered.1 at in omega arith

pub numbered_map : (f : LogSegment → LogSegment) → ((s : LogSegment) → (f s).number ≡ s.number) → (n : ℕ) (segments : List LogSegment)
    → AreNumbered n segments → AreNumbered n (map f segments)
numbered_map f same n [] numbered = tt
numbered_map f same n (s ∷ segments) numbered = (same s ∙ numbered.0, numbered_map f same (n + 1) segments numbered.1)

pub within_map : (f : LogSegment → LogSegment) → ((s : LogSegment) → (f s).live ≡ s.live) → (block : ℕ) (segments : List LogSegment)
    → AreWithin block segments → AreWithin block (map f segments)
within_map f same block [] within = tt
within_map f same block (s ∷ segments) within =
    (subst (AllByRecursion (λ lbn. lbn + block ≤ 10 ^ 12)) (sym (same s)) within.0, within_map f same block segments within.1)

pub numbered_more : (n : ℕ) (segments : List LogSegment) (s : LogSegment) → AreNumbered n segments → s.number ≡ n + length segments
    → AreNumbered n (segments ++ s ∷ [])
numbered_more n [] s numbered e = (omega arith, tt)
numbered_more n (x ∷ segments) s numbered e = (numbered.0, numbered_more (n + 1) segments s numbered.1 (omega arith))

pub within_more : (block : ℕ) (segments : List LogSegment) (s : LogSegment) → AreWithin block segments
    → AllByRecursion (λ lbn. lbn + block ≤ 10 ^ 12) s.live → AreWithin block (segments ++ s ∷ [])
within_more block [] s within here = (here, tt)
within_more block (x ∷ segments) s within here = (within.0, within_more block segments s within.1 here)

-- a segment with this number no longer waits
abbrev pub stop_at : ℕ → LogSegment → LogSegment
stop_at number s = cond (s.number == number) (no_longer_waiting s) s

same_number : (b : Bool) (s : LogSegment) → (cond b (no_longer_waiting s) s).number ≡ s.number
same_number true s = refl
same_number false s = refl

same_live : (b : Bool) (s : LogSegment) → (cond b (no_longer_waiting s) s).live ≡ s.live
same_live true s = refl
same_live false s = refl

without_none : (number n : ℕ) (segments : List LogSegment) → AreNumbered n segments → number < n → without number segments ≡ segments
without_none number n [] numbered less = refl
without_none number n (s ∷ segments) numbered less =
    let own = numbered.0 in
    ap₂ (λ b rest. cond b (no_longer_waiting s) s ∷ rest) (more_differs s.number number (omega arith))
    (without_none number (n + 1) segments numbered.1 (omega arith))

pub without_set : (n : ℕ) (segments : List LogSegment) (i : ℕ) (s : LogSegment) → AreNumbered n segments → slice_get segments i ≡ Some s
    → set segments i (no_longer_waiting s) ≡ without (n + i) segments
without_set n [] i s numbered at = absurd (grind arith)
without_set n (x ∷ segments) zero s numbered at =
    let own = numbered.0 in
    let here : n + 0 ≡ n = omega arith in
    ap (λ y. no_longer_waiting y ∷ segments) (sym (same_Some x s at))
    ∙ sym (ap₂ (λ b rest. cond b (no_longer_waiting x) x ∷ rest) (own_number x.number (n + 0) (omega arith))
    (without_none (n + 0) (n + 1) segments numbered.1 (omega arith)))
without_set n (x ∷ segments) (suc i) s numbered at =
    let own = numbered.0 in
    let next : n + 1 + i ≡ n + suc i = omega arith in
    ap (λ rest. x ∷ rest) (without_set (n + 1) segments i s numbered.1 at ∙ ap (λ k. without k segments) next)
    ∙ sym (ap (λ b. cond b (no_longer_waiting x) x ∷ without (n + suc i) segments) (less_differs x.number (n + suc i) (omega arith)))

pub numbered_without : (number n : ℕ) (segments : List LogSegment) → AreNumbered n segments → AreNumbered n (without number segments)
numbered_without number n segments numbered = numbered_map (stop_at number) (λ s. same_number (s.number == number) s) n segments numbered

pub within_without : (number block : ℕ) (segments : List LogSegment) → AreWithin block segments → AreWithin block (without number segments)
within_without number block segments within = within_map (stop_at number) (λ s. same_live (s.number == number) s) block segments within

-- one more segment
pub sound_more : (block : ℕ) (segments more : List LogSegment) (unfinished : Option ℕ) (taken more_taken : ℕ) (s : LogSegment)
    → AreInPlace block segments unfinished taken → more ≡ segments ++ s ∷ [] → more_taken ≡ taken + 1
    → s.number ≡ length segments + 1 → AllByRecursion (λ lbn. lbn + block ≤ 10 ^ 12) s.live → length segments < 2 ^ 32 - 1
    → AreInPlace block more unfinished more_taken
sound_more block segments more unfinished taken more_taken s sound e taken_more number within room =
    let size = ap length e ∙ length_push segments s in
    let as_many = sound.as_many in
    record {
      numbered = subst (AreNumbered 1) (sym e) (numbered_more 1 segments s sound.numbered (omega arith));
      few = omega arith;
      within = subst (AreWithin block) (sym e) (within_more block segments s sound.within within);
      as_many = omega arith;
      known = λ n is. let at = sound.known n is in (at.0, omega (arith, at.1));
    }

-- one no longer waits
pub sound_chosen : (block : ℕ) (segments now : List LogSegment) (unfinished : Option ℕ) (taken i : ℕ) (s : LogSegment)
    → AreInPlace block segments unfinished taken → slice_get segments i ≡ Some s → i < length segments
    → now ≡ without (1 + i) segments → AreInPlace block now (Some (i + 1)) taken
sound_chosen block segments now unfinished taken i s sound at less e =
    let size = ap length e ∙ length-map segments (stop_at (1 + i)) in
    let few = sound.few in
    let as_many = sound.as_many in
    record {
      numbered = subst (AreNumbered 1) (sym e) (numbered_without (1 + i) 1 segments sound.numbered);
      few = omega arith;
      within = subst (AreWithin block) (sym e) (within_without (1 + i) block segments sound.within);
      as_many = omega arith;
      known = λ n is. let same = same_Some (i + 1) n is in (omega arith, omega arith);
    }

-- none waits any longer
pub sound_left : (block : ℕ) (segments now : List LogSegment) (unfinished : Option ℕ) (taken : ℕ) → AreInPlace block segments unfinished taken
    → now ≡ map no_longer_waiting segments → AreInPlace block now unfinished taken
sound_left block segments now unfinished taken sound e =
    let size = ap length e ∙ length-map segments no_longer_waiting in
    let few = sound.few in
    let as_many = sound.as_many in
    record {
      numbered = subst (AreNumbered 1) (sym e) (numbered_map no_longer_waiting (λ s. refl) 1 segments sound.numbered);
      few = omega arith;
      within = subst (AreWithin block) (sym e) (within_map no_longer_waiting (λ s. refl) block segments sound.within);
      as_many = omega arith;
      known = λ n is. let at = sound.known n is in (at.0, omega (arith, at.1));
    }

pub get_one : (segments : List LogSegment) (i : ℕ) (s d : LogSegment) → slice_get segments i ≡ Some s → get_or segments i d ≡ s
get_one [] i s d at = absurd (grind arith)
get_one (x ∷ segments) zero s d at = same_Some x s at
get_one (x ∷ segments) (suc i) s d at = get_one segments i s d at

-- the segment at an index no longer waits
pub stopped_at : (segments : List LogSegment) (i : ℕ) (s d now : LogSegment) → AreNumbered 1 segments → slice_get segments i ≡ Some s
    → now ≡ no_longer_waiting (get_or segments i d) → set segments i now ≡ without (1 + i) segments
stopped_at segments i s d now numbered at e =
    ap (set segments i) (e ∙ ap no_longer_waiting (get_one segments i s d at)) ∙ without_set 1 segments i s numbered at

pub none_unfinished : (o : Option ℕ) → is_some o ≡ false → o ≡ None
none_unfinished None e = refl
none_unfinished (Some n) e = absurd (true≢false e)

-- the number of the best
pub number_chosen : (segments : List LogSegment) (unfinished : Option ℕ) (i : ℕ) (s : LogSegment) → AreNumbered 1 segments
    → slice_get segments i ≡ Some s → unfinished ≡ None → slice_get segments i ≡ first_best (waiting segments)
    → Some (i + 1) ≡ choice_while unfinished segments
number_chosen segments unfinished i s numbered at none best =
    let number = number_at 1 segments i s numbered at in
    let same : i + 1 ≡ s.number = omega arith in
    ap Some same ∙ (ap number_of (sym at ∙ best) ∙ ap (λ o. choice_while o segments) (sym none))

-- what is packed, by the index
pub packed_at : (cleaning : Cleaning) (number : ℕ) (held : List (ℕ × Option Content)) (s : LogSegment) (lbns : List ℕ)
    → number - 1 < length cleaning.taken → number - 1 < length cleaning.segments
    → held ≡ get_or cleaning.taken (number - 1) held → s ≡ get_or cleaning.segments (number - 1) s → lbns ≡ s.live
    → flat_map (λ lbn. held_in (held_at held) (range_with_len lbn cleaning.block)) lbns ≡ packed_sectors cleaning number
packed_at cleaning number held s lbns in_taken in_segments at_taken at_segments live =
    ap₂ (λ ps ls. flat_map (λ lbn. held_in (held_at ps) (range_with_len lbn cleaning.block)) ls)
    (at_taken ∙ get_or_default cleaning.taken (number - 1) held [] in_taken)
    (live ∙ (ap (λ t. t.live) at_segments ∙ sym (get_or-map (λ (t : LogSegment). t.live) cleaning.segments (number - 1) s [] in_segments)))

pub runs_same : {E : Type 0} (r : Result (List ContentRun) E) (xs ys : List (ℕ × Content)) → xs ≡ ys → IfOk r (λ runs. runs ≡ runs_of xs)
    → IfOk r (λ runs. runs ≡ runs_of ys)
runs_same r xs ys e h = subst (λ zs. IfOk r (λ runs. runs ≡ runs_of zs)) e h
