-- What sectors hold after contents were taken or a range was dropped, and the contents of ranges.
use Rattle.fb_store.proofs.Words.{◌≡◌, ℕ, ◌+◌, ◌-◌, ◌<◌, ◌≤◌, List, [], ◌∷◌, ◌++◌, Option, Some, None, refl, true, false, map, Bool, cond}
use Rattle.fb_store.proofs.Words.{length, arith, sym, ap, ap₂, ◌∙◌, ◌==◌, suc, zero, inl, inr, take, slice_get, subst, IsSome}
use Rattle.fb_store.proofs.Words.{range_with_len, AllByRecursion, cases_lt, Content, ContentRun, runs_of, sectors_of, sectors_in}
use Rattle.fb_store.proofs.Words.{is_within, held_at, begins_at, after_taking, after_dropping, held_in, EndsBy}
use Rattle.std.proofs.Common.{append_assoc, append-nil}
use Rattle.std.specs.Option.{option_or}
use Rattle.std.proofs.lemmas.Option.{same_Some}
use Rattle.fb_units.proofs.Lists.{take_at}
use Rattle.fb_units.proofs.Comparing.{less_differs, same_number as here, more_differs}
use Rattle.fb_store.specs.Sparse.{after_take, held_sector}
use Rattle.fb_store.proofs.Held.{none_held}
use Rattle.fb_store.proofs.Originals.{inside, before, after, goes_on}
use Rattle.fb_store.proofs.Joined.{fewest_again}
use Rattle.fb_store.proofs.Runs.{sectors_of-runs_of}

pub after_taking-append : (sectors more : List (ℕ × Content)) (lbn : ℕ) (held : Option Content)
    → after_taking (sectors ++ more) lbn held ≡ after_taking more lbn (after_taking sectors lbn held)
after_taking-append [] more lbn held = refl
after_taking-append (sector ∷ sectors) more lbn held = after_taking-append sectors more lbn (cond (sector.0 == lbn) (Some sector.1) held)

-- the contents of neighbouring sectors are taken
on : (content_of : ℕ → Content) (first n lbn : ℕ) (held : Option Content) (b : Bool) → (first == lbn) ≡ b
    → after_taking (map (λ l. (l, content_of l)) (range_with_len first (suc n))) lbn held
    ≡ after_taking (map (λ l. (l, content_of l)) (range_with_len (first + 1) n)) lbn (cond b (Some (content_of first)) held)
on content_of first n lbn held b e =
    ap (λ x. after_taking (map (λ l. (l, content_of l)) (range_with_len (first + 1) n)) lbn (cond x (Some (content_of first)) held)) e

taken_before : (content_of : ℕ → Content) (first n lbn : ℕ) (held : Option Content) → lbn < first
    → after_taking (map (λ l. (l, content_of l)) (range_with_len first n)) lbn held ≡ held
taken_before content_of first zero lbn held less = refl
taken_before content_of first (suc n) lbn held less =
    on content_of first n lbn held false (more_differs first lbn less) ∙ taken_before content_of (first + 1) n lbn held (omega arith)

taken_after : (content_of : ℕ → Content) (first n lbn : ℕ) (held : Option Content) → first + n ≤ lbn
    → after_taking (map (λ l. (l, content_of l)) (range_with_len first n)) lbn held ≡ held
taken_after content_of first zero lbn held more = refl
taken_after content_of first (suc n) lbn held more = on content_of first n lbn held false (less_differs first lbn (omega arith))
    ∙ taken_after content_of (first + 1) n lbn held (omega arith)

taken_inside : (content_of : ℕ → Content) (first n lbn : ℕ) (held : Option Content) → first ≤ lbn → lbn < first + n
    → after_taking (map (λ l. (l, content_of l)) (range_with_len first n)) lbn held ≡ Some (content_of lbn)
taken_inside content_of first zero lbn held from to = absurd (omega arith)
taken_inside content_of first (suc n) lbn held from to = elim (cases_lt first lbn) [
  | inl less ↦ on content_of first n lbn held false (less_differs first lbn less)
      ∙ taken_inside content_of (first + 1) n lbn held (omega arith) (omega arith)
  | inr more ↦ let same : first ≡ lbn = omega arith in
      on content_of first n lbn held true (here first lbn same)
      ∙ (taken_before content_of (first + 1) n lbn (Some (content_of first)) (omega arith) ∙ ap (λ l. Some (content_of l)) same)
]

-- the contents of a block are taken
pub taken_block : (content_of : ℕ → Content) (first n lbn : ℕ) (sectors : List (ℕ × Content)) (held : Option Content)
    → sectors ≡ map (λ l. (l, content_of l)) (range_with_len first n)
    → after_taking sectors lbn held ≡ after_take content_of first n lbn held
taken_block content_of first n lbn sectors held e = ap (λ ss. after_taking ss lbn held) e ∙ elim (cases_lt lbn first) [
  | inl a ↦ taken_before content_of first n lbn held a ∙ ap (λ b. cond b (Some (content_of lbn)) held) (sym (before first n lbn a))
  | inr a ↦ elim (cases_lt lbn (first + n)) [
    | inl b ↦ taken_inside content_of first n lbn held a b ∙ ap (λ c. cond c (Some (content_of lbn)) held) (sym (inside first n lbn a b))
    | inr b ↦ taken_after content_of first n lbn held b ∙ ap (λ c. cond c (Some (content_of lbn)) held) (sym (after first n lbn b))
  ]
]

-- a run is taken
pub taken_run : (run : ContentRun) (lbn : ℕ) (was is : Option Content)
    → (run.first ≤ lbn → lbn < run.first + run.count → is ≡ Some run.content) → (lbn < run.first → is ≡ was)
    → (run.first + run.count ≤ lbn → is ≡ was)
    → is ≡ after_taking (sectors_in run) lbn was
taken_run run lbn was is within less more = elim (cases_lt lbn run.first) [
  | inl a ↦ less a ∙ sym (taken_before (λ l. run.content) run.first run.count lbn was a)
  | inr a ↦ elim (cases_lt lbn (run.first + run.count)) [
    | inl b ↦ within a b ∙ sym (taken_inside (λ l. run.content) run.first run.count lbn was a b)
    | inr b ↦ more b ∙ sym (taken_after (λ l. run.content) run.first run.count lbn was b)
  ]
]

-- one more run is taken
pub taken_more : (runs : List ContentRun) (i : ℕ) (run : ContentRun) (lbn : ℕ) (original was is : Option Content)
    → slice_get runs i ≡ Some run
    → was ≡ after_taking (sectors_of (take i runs)) lbn original → is ≡ after_taking (sectors_in run) lbn was
    → is ≡ after_taking (sectors_of (take (i + 1) runs)) lbn original
taken_more runs i run lbn original was is at so_far next =
    next ∙ (ap (after_taking (sectors_in run) lbn) so_far
    ∙ sym (ap (λ rs. after_taking (sectors_of rs) lbn original) (take_at runs i run at)
    ∙ (ap (λ ss. after_taking ss lbn original) (sectors_more (take i runs) run)
    ∙ after_taking-append (sectors_of (take i runs)) (sectors_in run) lbn original))) where
      sectors_more : (runs : List ContentRun) (run : ContentRun) → sectors_of (runs ++ run ∷ []) ≡ sectors_of runs ++ sectors_in run
      sectors_more [] run = append-nil (sectors_in run)
      sectors_more (first ∷ runs) run = ap (λ rest. sectors_in first ++ rest) (sectors_more runs run)
          ∙ sym (append_assoc (sectors_in first) (sectors_of runs) (sectors_in run))

-- one run alone
pub sectors_of-one : (runs : List ContentRun) (run : ContentRun) → length runs ≡ 1 → slice_get runs 0 ≡ Some run
    → sectors_of runs ≡ sectors_in run
sectors_of-one [] run one at = absurd (omega arith)
sectors_of-one (only ∷ []) run one at = append-nil (sectors_in only) ∙ ap sectors_in (same_Some only run at)
sectors_of-one (only ∷ next ∷ runs) run one at = absurd (omega arith)

-- what a sector holds after a range was dropped
pub dropped : (first n lbn : ℕ) (was is : Option Content) → (first ≤ lbn → lbn < first + n → is ≡ None) → (lbn < first → is ≡ was)
    → (first + n ≤ lbn → is ≡ was)
    → is ≡ after_dropping first n lbn was
dropped first n lbn was is within less more = elim (cases_lt lbn first) [
  | inl a ↦ less a ∙ ap (λ b. cond b None was) (sym (before first n lbn a))
  | inr a ↦ elim (cases_lt lbn (first + n)) [
    | inl b ↦ within a b ∙ ap (λ c. cond c None was) (sym (inside first n lbn a b))
    | inr b ↦ more b ∙ ap (λ c. cond c None was) (sym (after first n lbn b))
  ]
]

-- without any range, no sector holds anything
pub held_at_empty : (ranges : List (ℕ × Option Content)) (lbn : ℕ) → ranges ≡ [] → held_at ranges lbn ≡ None
held_at_empty ranges lbn none = ap (λ rs. held_at rs lbn) none ∙ none_held (begins_at []) lbn (λ begin le. refl)

-- the contents of two neighbouring ranges
pub held_in-split : (content_of : ℕ → Option Content) (first m n : ℕ) → held_in content_of (range_with_len first (m + n))
    ≡ held_in content_of (range_with_len first m) ++ held_in content_of (range_with_len (first + m) n)
held_in-split content_of first zero n =
    let at : first + 0 ≡ first = omega arith in
    let all : 0 + n ≡ n = omega arith in
    rw (at, all) refl
held_in-split content_of first (suc m) n =
    let at : first + 1 + m ≡ first + suc m = omega arith in
    let all : suc m + n ≡ suc (m + n) = omega arith in
    rw all (ap (λ rest. held_sector first (content_of first) ++ rest) (held_in-split content_of (first + 1) m n)
    ∙ (sym (append_assoc (held_sector first (content_of first)) (held_in content_of (range_with_len (first + 1) m))
    (held_in content_of (range_with_len (first + 1 + m) n)))
    ∙ ap (λ lbn. held_in content_of (range_with_len first (suc m)) ++ held_in content_of (range_with_len lbn n)) at))

held_some : (content_of : ℕ → Option Content) (content : Content) (first n : ℕ)
    → ((lbn : ℕ) → first ≤ lbn → lbn < first + n → content_of lbn ≡ Some content)
    → held_in content_of (range_with_len first n) ≡ map (λ lbn. (lbn, content)) (range_with_len first n)
held_some content_of content first zero all = refl
held_some content_of content first (suc n) all =
    ap₂ (λ o rest. held_sector first o ++ rest) (all first (omega arith) (omega arith))
    (held_some content_of content (first + 1) n (λ lbn a b. all lbn (omega arith) (omega arith)))

pub held_none : (content_of : ℕ → Option Content) (first n : ℕ) → ((lbn : ℕ) → first ≤ lbn → lbn < first + n → content_of lbn ≡ None)
    → held_in content_of (range_with_len first n) ≡ []
held_none content_of first zero all = refl
held_none content_of first (suc n) all =
    ap₂ (λ o rest. held_sector first o ++ rest) (all first (omega arith) (omega arith))
    (held_none content_of (first + 1) n (λ lbn a b. all lbn (omega arith) (omega arith)))

-- the contents of the sectors up to the next range are one run, or none
pub held_range : (ranges : List (ℕ × Option Content)) (lbn next : ℕ) (content : Content) → lbn < next
    → ((begin : ℕ) → IsSome (begins_at ranges begin) → lbn < begin → next ≤ begin)
    → Some content ≡ held_at ranges lbn → held_in (held_at ranges) (range_with_len lbn (next - lbn))
    ≡ sectors_in (record { first = lbn; count = next - lbn; content = content })
held_range ranges lbn next content some least held =
    held_some (held_at ranges) content lbn (next - lbn) (λ l a b. goes_on ranges lbn next l least a (omega arith) ∙ sym held)

pub held_gap : (ranges : List (ℕ × Option Content)) (lbn next : ℕ) → lbn < next
    → ((begin : ℕ) → IsSome (begins_at ranges begin) → lbn < begin → next ≤ begin)
    → None ≡ held_at ranges lbn → held_in (held_at ranges) (range_with_len lbn (next - lbn)) ≡ []
held_gap ranges lbn next some least held =
    held_none (held_at ranges) lbn (next - lbn) (λ l a b. goes_on ranges lbn next l least a (omega arith) ∙ sym held)

pub none_added : (runs : List ContentRun) (sectors : List (ℕ × Content)) → sectors ≡ [] → runs ≡ runs_of (sectors_of runs)
    → runs ≡ runs_of (sectors_of runs ++ sectors)
none_added runs sectors none fewest = fewest ∙ ap runs_of (sym (append-nil (sectors_of runs)) ∙ ap (λ ss. sectors_of runs ++ ss) (sym none))

-- the runs of a range so far, and those up to the next range
pub added_more : (content_of : ℕ → Option Content) (start : List (ℕ × Content)) (runs more : List ContentRun) (first lbn next : ℕ)
    → first ≤ lbn → lbn ≤ next
    → runs ≡ runs_of (start ++ held_in content_of (range_with_len first (lbn - first)))
    → more ≡ runs_of (sectors_of runs ++ held_in content_of (range_with_len lbn (next - lbn)))
    → more ≡ runs_of (start ++ held_in content_of (range_with_len first (next - first)))
added_more content_of start runs more first lbn next from to so_far added =
    let before = held_in content_of (range_with_len first (lbn - first)) in
    let next_sectors = held_in content_of (range_with_len lbn (next - lbn)) in
    let own = (fewest_again (start ++ before) runs so_far).0 in
    let at : first + (lbn - first) ≡ lbn = omega arith in
    let size : next - first ≡ lbn - first + (next - lbn) = omega arith in
    let whole = ap (λ n. held_in content_of (range_with_len first n)) size ∙ (held_in-split content_of first (lbn - first) (next - lbn)
    ∙ ap (λ l. before ++ held_in content_of (range_with_len l (next - lbn))) at) in
    added ∙ ap runs_of (ap (λ ss. ss ++ next_sectors) own ∙ (append_assoc start before next_sectors ∙ ap (λ ss. start ++ ss) (sym whole)))

-- what holds of the first i runs and of the next one holds of the first i + 1
pub so_far_more : (P : ContentRun → Type 0) (runs : List ContentRun) (i : ℕ) (run : ContentRun) → slice_get runs i ≡ Some run
    → ((j : ℕ) (r : ContentRun) → j < i → slice_get runs j ≡ Some r → P r) → P run
    → (j : ℕ) (r : ContentRun) → j < i + 1 → slice_get runs j ≡ Some r → P r
so_far_more P runs i run at before here j r less there = elim (cases_lt j i) [
  | inl l ↦ before j r l there
  | inr m ↦ let same : j ≡ i = omega arith in subst P (same_Some run r (sym at ∙ (ap (slice_get runs) (sym same) ∙ there))) here
]

-- contents that end by a sector change nothing from that sector on
pub taken_past : (end lbn : ℕ) (runs : List ContentRun) (held : Option Content) → AllByRecursion (λ run. run.first + run.count ≤ end) runs
    → end ≤ lbn → after_taking (sectors_of runs) lbn held ≡ held
taken_past end lbn [] held all past = refl
taken_past end lbn (run ∷ runs) held all past =
    let here = all.0 in
    after_taking-append (sectors_in run) (sectors_of runs) lbn held
    ∙ (taken_past end lbn runs (after_taking (sectors_in run) lbn held) all.1 past
    ∙ taken_after (λ l. run.content) run.first run.count lbn held (omega arith))

pub dropped_past : (first n lbn : ℕ) (held : Option Content) → held ≡ None → after_dropping first n lbn held ≡ None
dropped_past first n lbn held none = go (is_within first n lbn) where
  go : (b : Bool) → cond b None held ≡ None
  go true = refl
  go false = none

-- sectors from which on nothing is held add nothing
held_in-further : (content_of : ℕ → Option Content) (end more : ℕ) → EndsBy content_of end
    → held_in content_of (range_with_len 0 (end + more)) ≡ held_in content_of (range_with_len 0 end)
held_in-further content_of end more none =
    held_in-split content_of 0 end more
    ∙ (ap (λ rest. held_in content_of (range_with_len 0 end) ++ rest)
    (held_none content_of (0 + end) more (λ lbn a b. none lbn (omega arith)))
    ∙ append-nil (held_in content_of (range_with_len 0 end)))

held_in-ends : (content_of : ℕ → Option Content) (end other : ℕ) → EndsBy content_of end → EndsBy content_of other
    → held_in content_of (range_with_len 0 end) ≡ held_in content_of (range_with_len 0 other)
held_in-ends content_of end other none nothing = elim (cases_lt end other) [
  | inl less ↦ let more : end + (other - end) ≡ other = omega arith in
      sym (ap (λ n. held_in content_of (range_with_len 0 n)) (sym more) ∙ held_in-further content_of end (other - end) none)
  | inr le ↦ let more : other + (end - other) ≡ end = omega arith in
      ap (λ n. held_in content_of (range_with_len 0 n)) (sym more) ∙ held_in-further content_of other (end - other) nothing
]

pub contents_to : (content_of : ℕ → Option Content) (runs : List ContentRun) (end other : ℕ) → EndsBy content_of end
    → runs ≡ runs_of (held_in content_of (range_with_len 0 end)) → EndsBy content_of other
    → runs ≡ runs_of (held_in content_of (range_with_len 0 other))
contents_to content_of runs end other ends e nothing = e ∙ ap runs_of (held_in-ends content_of end other ends nothing)

pub held_all : (f : ℕ → Option Content) (content_at : ℕ → Content) (a n : ℕ)
    → ((lbn : ℕ) → a ≤ lbn → lbn < a + n → f lbn ≡ Some (content_at lbn))
    → held_in f (range_with_len a n) ≡ map (λ lbn. (lbn, content_at lbn)) (range_with_len a n)
held_all f content_at a zero same = refl
held_all f content_at a (suc n) same =
    rw (same a (omega arith) (omega arith), held_all f content_at (a + 1) n (λ lbn le lt. same lbn (omega arith) (omega arith))) refl

-- a sector that contents speak of holds what they say, whatever it held
pub said_first : (sectors : List (ℕ × Content)) (lbn : ℕ) (held : Option Content)
    → after_taking sectors lbn held ≡ option_or (after_taking sectors lbn None) held
said_first [] lbn held = refl
said_first (sector ∷ sectors) lbn held = go (after_taking sectors lbn) (said_first sectors lbn) (sector.0 == lbn) where
  again : (said : Option Content) → option_or said (Some sector.1) ≡ option_or (option_or said (Some sector.1)) held
  again None = refl
  again (Some content) = refl

  go : (rest : Option Content → Option Content) → ((h : Option Content) → rest h ≡ option_or (rest None) h) → (b : Bool)
      → rest (cond b (Some sector.1) held) ≡ option_or (rest (cond b (Some sector.1) None)) held
  go rest over true = over (Some sector.1) ∙ (again (rest None) ∙ ap (λ o. option_or o held) (sym (over (Some sector.1))))
  go rest over false = over held

elsewhere : (o : Option Content) (n lbn : ℕ) (held : Option Content) → (n == lbn) ≡ false → after_taking (held_sector n o) lbn held ≡ held
elsewhere None n lbn held differs = refl
elsewhere (Some content) n lbn held differs = ap (λ b. cond b (Some content) held) differs

there : (o : Option Content) (n lbn : ℕ) → (n == lbn) ≡ true → after_taking (held_sector n o) lbn None ≡ o
there None n lbn same = refl
there (Some content) n lbn same = ap (λ b. cond b (Some content) None) same

-- what the sectors below n hold says of each of them what it holds, and nothing of any other
taken_held : (content_of : ℕ → Option Content) (n lbn : ℕ)
    → (lbn < n → after_taking (held_in content_of (range_with_len 0 n)) lbn None ≡ content_of lbn)
    × (n ≤ lbn → after_taking (held_in content_of (range_with_len 0 n)) lbn None ≡ None)
taken_held content_of zero lbn = (λ less. absurd (omega arith), λ le. refl)
taken_held content_of (suc n) lbn =
    let below = held_in content_of (range_with_len 0 n) in
    let before = taken_held content_of n lbn in
    let more : n + 1 ≡ suc n = omega arith in
    let start : 0 + n ≡ n = omega arith in
    let whole = ap (λ k. after_taking (held_in content_of (range_with_len 0 k)) lbn None) (sym more)
    ∙ (ap (λ ss. after_taking ss lbn None) (held_in-split content_of 0 n 1
    ∙ ap (λ ss. below ++ ss) (ap (λ l. held_in content_of (range_with_len l 1)) start ∙ append-nil (held_sector n (content_of n))))
    ∙ after_taking-append below (held_sector n (content_of n)) lbn None) in (
      λ less. whole ∙ elim (cases_lt lbn n) [
        | inl l ↦ elsewhere (content_of n) n lbn (after_taking below lbn None) (more_differs n lbn l) ∙ before.0 l
        | inr m ↦ let same : n ≡ lbn = omega arith in
            ap (after_taking (held_sector n (content_of n)) lbn) (before.1 m)
            ∙ (there (content_of n) n lbn (here n lbn same) ∙ ap content_of same)
      ],
      λ le. whole ∙ (elsewhere (content_of n) n lbn (after_taking below lbn None) (less_differs n lbn (omega arith)) ∙ before.1 (omega arith)),
    )

-- runs of all that is said in the end are taken as the runs that say it are
pub said_again : (content_of : ℕ → Option Content) (said runs : List ContentRun) (end : ℕ) → EndsBy content_of end
    → said ≡ runs_of (held_in content_of (range_with_len 0 end))
    → ((lbn : ℕ) → content_of lbn ≡ after_taking (sectors_of runs) lbn None)
    → (lbn : ℕ) (held : Option Content) → after_taking (sectors_of said) lbn held ≡ after_taking (sectors_of runs) lbn held
said_again content_of said runs end ends e all lbn held =
    let sectors = ap sectors_of e ∙ sectors_of-runs_of (held_in content_of (range_with_len 0 end)) in
    let first = ap (λ ss. after_taking ss lbn None) sectors ∙ elim (cases_lt lbn end) [
      | inl less ↦ (taken_held content_of end lbn).0 less
      | inr le ↦ (taken_held content_of end lbn).1 le ∙ sym (ends lbn le)
    ] in
    said_first (sectors_of said) lbn held ∙ (ap (λ o. option_or o held) (first ∙ all lbn) ∙ sym (said_first (sectors_of runs) lbn held))
