-- The runs of a disk over which contents were taken.
use Rattle.fb_mirror.proofs.Words.{◌≡◌, ℕ, ◌+◌, ◌<◌, ◌≤◌, List, [], ◌∷◌, ◌++◌, map, length, Option, Some, None, Bool, cond, refl, sym, ap}
use Rattle.fb_mirror.proofs.Words.{ap₂, ◌∙◌, arith, append-nil, inl, inr, filter, is_some, ◌&&◌, ◌==◌, AllByRecursion, range_with_len}
use Rattle.fb_mirror.proofs.Words.{sum_by, unwrap_or, cases_Bool, length-append, length-range_with_len, all_any, all_weaker, Content}
use Rattle.fb_mirror.proofs.Words.{Unreadable, ContentRun, runs_of, sectors_in, sectors_of, after_taking, held_in, EndsBy, inside}
use Rattle.fb_mirror.proofs.Words.{sectors_of-runs_of, taken_block, Event, IsWithin}
use Rattle.std.proofs.lemmas.List.{length-map}
use Rattle.std.proofs.lemmas.List.Sums.{sum_by-cons}
use Rattle.fb_units.proofs.Alike.{filter_same}
use Rattle.fb_units.proofs.Counts.{filter-le}
use Rattle.fb_store.specs.Runs.{same_content, with_content}
use Rattle.fb_store.specs.Sparse.{held_sector}
use Rattle.fb_store.proofs.Originals.{after}
use Rattle.fb_store.proofs.Taken.{taken_past, held_all}
use Rattle.fb_mirror.proofs.Taking.{over, taken_over}

-- what is held of some sectors, told by another function
held_same : (f g : ℕ → Option Content) (lbns : List ℕ) → ((lbn : ℕ) → f lbn ≡ g lbn) → held_in f lbns ≡ held_in g lbns
held_same f g [] same = refl
held_same f g (lbn ∷ lbns) same = ap₂ (λ o rest. held_sector lbn o ++ rest) (same lbn) (held_same f g lbns same)

-- contents that were taken where nothing was held
pub taken_runs : (contents runs : List ContentRun) (held old : ℕ → Option Content) → ((lbn : ℕ) → old lbn ≡ None)
    → ((lbn : ℕ) → held lbn ≡ after_taking (sectors_of contents) lbn (old lbn))
    → ((end : ℕ) → EndsBy held end → runs ≡ runs_of (held_in held (range_with_len 0 end)))
    → (end : ℕ) → AllByRecursion (λ run. run.first + run.count ≤ end) contents
    → runs ≡ runs_of (held_in (λ lbn. after_taking (sectors_of contents) lbn None) (range_with_len 0 end))
taken_runs contents runs held old none took fewest end within =
    let at = λ (lbn : ℕ). took lbn ∙ ap (after_taking (sectors_of contents) lbn) (none lbn) in
    fewest end (λ lbn past. at lbn ∙ taken_past end lbn contents None within past)
    ∙ ap runs_of (held_same held (λ lbn. after_taking (sectors_of contents) lbn None) (range_with_len 0 end) at)

over_some : (top : Option Content) → over top (Some Unreadable) ≡ Some (unwrap_or top Unreadable)
over_some None = refl
over_some (Some content) = refl

lost_here : (count lbn : ℕ) → lbn < count
    → after_taking (sectors_of (record { first = 0; count = count; content = Unreadable } ∷ [])) lbn None ≡ Some Unreadable
lost_here count lbn less =
    taken_block (λ lbn. Unreadable) 0 count lbn (sectors_of (record { first = 0; count = count; content = Unreadable } ∷ [])) None
    (append-nil (sectors_in (record { first = 0; count = count; content = Unreadable })))
    ∙ ap (λ b. cond b (Some Unreadable) None) (inside 0 count lbn (omega arith) (omega arith))

lost_past : (count lbn : ℕ) → count ≤ lbn
    → after_taking (sectors_of (record { first = 0; count = count; content = Unreadable } ∷ [])) lbn None ≡ None
lost_past count lbn past =
    taken_block (λ lbn. Unreadable) 0 count lbn (sectors_of (record { first = 0; count = count; content = Unreadable } ∷ [])) None
    (append-nil (sectors_in (record { first = 0; count = count; content = Unreadable })))
    ∙ ap (λ b. cond b (Some Unreadable) None) (after 0 count lbn (omega arith))

-- contents that were taken over a disk that can't be read
pub whole_runs : (count : ℕ) (contents lost runs : List ContentRun) (held base old : ℕ → Option Content)
    → lost ≡ record { first = 0; count = count; content = Unreadable } ∷ [] → ((lbn : ℕ) → old lbn ≡ None)
    → ((lbn : ℕ) → base lbn ≡ after_taking (sectors_of lost) lbn (old lbn))
    → ((lbn : ℕ) → held lbn ≡ after_taking (sectors_of contents) lbn (base lbn))
    → AllByRecursion (λ run. run.first + run.count ≤ count) contents
    → ((end : ℕ) → EndsBy held end → runs ≡ runs_of (held_in held (range_with_len 0 end)))
    → runs ≡ runs_of (map (λ lbn. (lbn, unwrap_or (after_taking (sectors_of contents) lbn None) Unreadable)) (range_with_len 0 count))
whole_runs count contents lost runs held base old is none took_lost took within fewest =
    let before =
    λ (lbn : ℕ). took_lost lbn ∙ ap (after_taking (sectors_of lost) lbn) (none lbn) ∙ ap (λ rs. after_taking (sectors_of rs) lbn None) is in
    fewest count (λ lbn past. took lbn ∙ taken_past count lbn contents (base lbn) within past ∙ before lbn ∙ lost_past count lbn past)
    ∙ ap runs_of (held_all held (λ lbn. unwrap_or (after_taking (sectors_of contents) lbn None) Unreadable) 0 count
    (λ lbn from to. took lbn ∙ ap (after_taking (sectors_of contents) lbn) (before lbn ∙ lost_here count lbn (omega arith))
    ∙ taken_over (sectors_of contents) lbn (Some Unreadable) ∙ over_some (after_taking (sectors_of contents) lbn None)))

runs_long : (runs : List ContentRun) → length (sectors_of runs) ≡ sum_by (λ run. run.count) runs
runs_long [] = refl
runs_long (run ∷ runs) =
    length-append (sectors_in run) (sectors_of runs)
    ∙ ap₂ (λ here rest. here + rest)
    (length-map (range_with_len run.first run.count) (λ lbn. (lbn, run.content)) ∙ length-range_with_len run.first run.count)
    (runs_long runs)
    ∙ sym (sum_by-cons (λ (r : ContentRun). r.count) run runs)

held_long : (held : ℕ → Option Content) (lbns : List ℕ) → length (held_in held lbns) ≡ length (filter (λ lbn. is_some (held lbn)) lbns)
held_long held [] = refl
held_long held (lbn ∷ lbns) = one (held lbn) (held_long held lbns) where
  one : (here : Option Content) → length (held_in held lbns) ≡ length (filter (λ lbn. is_some (held lbn)) lbns)
      → length (held_sector lbn here ++ held_in held lbns)
      ≡ length (cond (is_some here) (lbn ∷ filter (λ lbn. is_some (held lbn)) lbns) (filter (λ lbn. is_some (held lbn)) lbns))
  one None rest = rest
  one (Some content) rest = omega arith

-- the sectors of the runs of what is held
pub held_sum : (held kept : ℕ → Option Content) (runs : List ContentRun) (lbns : List ℕ) → runs ≡ runs_of (held_in held lbns)
    → ((lbn : ℕ) → held lbn ≡ kept lbn) → sum_by (λ run. run.count) runs ≡ length (filter (λ lbn. is_some (kept lbn)) lbns)
held_sum held kept runs lbns are same =
    sym (runs_long runs) ∙ ap (λ rs. length (sectors_of rs)) are ∙ ap length (sectors_of-runs_of (held_in held lbns)) ∙ held_long held lbns
    ∙ ap length (filter_same _ _ lbns (all_any _ (λ lbn. ap is_some (same lbn)) lbns))

pub kept_few : (p : ℕ → Bool) (first n : ℕ) → length (filter p (range_with_len first n)) ≤ n
kept_few p first n = omega (arith, filter-le p (range_with_len first n), length-range_with_len first n)

with_long : (lbn : ℕ) (content : Content) (runs : List ContentRun) → length (with_content lbn content runs) ≤ 1 + length runs
with_long lbn content [] = omega arith
with_long lbn content (run ∷ runs) = elim (cases_Bool ((run.first == lbn + 1) && same_content content run.content)) [
  | inl joined ↦ rw joined (omega arith)
  | inr apart ↦ rw apart (omega arith)
]

few_runs : (sectors : List (ℕ × Content)) → length (runs_of sectors) ≤ length sectors
few_runs [] = omega arith
few_runs (sector ∷ sectors) = omega (arith, with_long sector.0 sector.1 (runs_of sectors), few_runs sectors)

-- a disk has no more runs than sectors
pub whole_few : (f : ℕ → ℕ × Content) (runs : List ContentRun) (count : ℕ) → runs ≡ runs_of (map f (range_with_len 0 count))
    → length runs ≤ count
whole_few f runs count are =
    let all = range_with_len 0 count in
    omega (arith, ap length are, few_runs (map f all), length-map all f, length-range_with_len 0 count)

-- events that end by a sector end by each later one
pub within_more : (end most : ℕ) (events : List Event) → end ≤ most → AllByRecursion (IsWithin end) events
    → AllByRecursion (IsWithin most) events
within_more end most events less all = all_weaker (IsWithin end) (IsWithin most) one events all where
  one : (event : Event) → IsWithin end event → IsWithin most event
  one event within = all_weaker (λ run. run.first + run.count ≤ end) (λ run. run.first + run.count ≤ most)
      (λ run here. omega (arith, less, here)) event.contents within
