-- The segments of a log, as the history and as the session have them.
use Rattle.fb_tasks.proofs.Words.{◌≡◌, ℕ, zero, suc, ◌+◌, ◌-◌, ◌*◌, ◌^◌, ◌<◌, ◌≤◌, ◌==◌, not, if◌then◌else◌, List, [], ◌∷◌, ◌++◌, Bool}
use Rattle.fb_tasks.proofs.Words.{true, false, Some, None, Option, inl, inr, length, filter, map, slice_get, length-append, refl, ap, sym}
use Rattle.fb_tasks.proofs.Words.{◌∙◌, arith, subst, AllByRecursion, flat_map, range_with_len, slice_index_or, sum_by, best_of, cases_Bool}
use Rattle.fb_tasks.proofs.Words.{sum_by-cons, flat_map-append, get_or_from_slice_get, Shape, places, Cut, cutting, with_sector, Action}
use Rattle.fb_tasks.proofs.Words.{Segment, live_cuts, Block, Past, LogSegment, called, Work, segments, segment_by, numbered, live_count}
use Rattle.fb_tasks.proofs.Words.{is_better, is_chosen, unchosen, cuts_of, kept_segment, Ascend, IsBlockOf, same_Some, all_append}
use Rattle.fb_tasks.proofs.Words.{all_weaker, map_at, cuts_are}
use Rattle.fb_tasks.proofs.Cuts.{cuts_placed, cuts_ascend, cuts_end, cuts_cover, numbered_append}
use Rattle.fb_clean.specs.Segments as clean
use Rattle.fb_clean.proofs.Live.{live_blocks-count}

abbrev pub NumberedFrom : ℕ → List LogSegment → Type 0
NumberedFrom n [] = Unit {0}
NumberedFrom n (s ∷ ss) = (s.number ≡ n) × NumberedFrom (n + 1) ss

numbered_push : (n : ℕ) (ss : List LogSegment) (s : LogSegment) → NumberedFrom n ss → s.number ≡ n + length ss
    → NumberedFrom n (ss ++ s ∷ [])
numbered_push n [] s h e = (omega (arith, e), tt)
numbered_push n (x ∷ ss) s h e = (h.0, numbered_push (n + 1) ss s h.1 (omega (arith, e)))

-- segments are numbered from 1
pub numbered_given : (past : Past) (task : ℕ) → NumberedFrom 1 (segments past task)
numbered_given [] task = tt
numbered_given (called call blocks ∷ past) task = elim (cases_Bool (call.task == task)) [
  | inl own ↦ rw own (by_action call.action (numbered_given past task))
  | inr other ↦ rw other (numbered_given past task)
] where
  by_action : (a : Action) → NumberedFrom 1 (segments past task) → NumberedFrom 1 (segment_by a (segments past task))
  by_action (Segment first blocks age live) before = numbered_push 1 (segments past task)
      (record { number = length (segments past task) + 1; first = first; blocks = blocks; age = age; live = live }) before (omega arith)
  by_action _ before = before
numbered_given (_ ∷ past) task = numbered_given past task

-- a segment stands at its number
pub at_number : (n : ℕ) (ss : List LogSegment) → NumberedFrom n ss
    → AllByRecursion (λ s. (n ≤ s.number) × (slice_get ss (s.number - n) ≡ Some s)) ss
at_number n [] h = tt
at_number n (x ∷ ss) h = (
  (omega (arith, h.0), ap (slice_get (x ∷ ss)) (let e : x.number - n ≡ 0 = omega (arith, h.0) in e)),
  all_weaker (λ s. (n + 1 ≤ s.number) × (slice_get ss (s.number - (n + 1)) ≡ Some s))
      (λ s. (n ≤ s.number) × (slice_get (x ∷ ss) (s.number - n) ≡ Some s))
      (λ s there. (
        omega (arith, there.0),
        ap (slice_get (x ∷ ss)) (let e : s.number - n ≡ suc (s.number - (n + 1)) = omega (arith, there.0) in e) ∙ there.1,
      )) ss (at_number (n + 1) ss h.1),
)

-- where a session finds the live blocks of a segment
pub live_there : (w : Work) (ss : List LogSegment) (s : LogSegment) → slice_get ss (s.number - 1) ≡ Some s
    → slice_index_or (map (λ (x : clean.LogSegment). x.live) (map (kept_segment w) ss)) (s.number - 1) []
    ≡ clean.live_blocks w.terms.block s.first s.live
live_there w ss s at = get_or_from_slice_get (map (λ (x : clean.LogSegment). x.live) (map (kept_segment w) ss)) (s.number - 1)
    (clean.live_blocks w.terms.block s.first s.live) []
    (map_at (λ (x : clean.LogSegment). x.live) (map (kept_segment w) ss) (s.number - 1) (kept_segment w s)
    (map_at (kept_segment w) ss (s.number - 1) s at))

-- a test that is the same gives the same best one
pub best_map : {X Y : Type 0} (f : X → Y) (p : X → X → Bool) (q : Y → Y → Bool) → ((a b : X) → q (f a) (f b) ≡ p a b)
    → (x : X) (xs : List X) → best_of q (f x) (map f xs) ≡ f (best_of p x xs)
best_map f p q same x [] = refl
best_map f p q same x (y ∷ ys) =
    ap (λ z. best_of q z (map f ys)) (ap (λ t. if t then f y else f x) (same y x) ∙ pushed (p y x))
    ∙ best_map f p q same (if p y x then y else x) ys where
      pushed : (b : Bool) → (if b then f y else f x) ≡ f (if b then y else x)
      pushed b = grind arith

-- the number of the best of those left to choose
abbrev pub number_of_best : List LogSegment → Option ℕ
number_of_best [] = None
number_of_best (s ∷ ss) = Some (best_of is_better s ss).number

module _ (w : Work) (going : w.closed ≡ false) where
  pub waiting_kept : (ss : List LogSegment)
      → clean.waiting (map (kept_segment w) ss) ≡ map (kept_segment w) (filter (λ s. not (is_chosen w.choices s)) ss)
  waiting_kept [] = refl
  waiting_kept (s ∷ ss) = elim (cases_Bool (is_chosen w.choices s)) [
    | inl chosen ↦ rw chosen (waiting_kept ss)
    | inr left ↦ rw (left, going, waiting_kept ss, left) refl
  ]

  better_same : (a b : LogSegment) → clean.is_better (kept_segment w a) (kept_segment w b) ≡ is_better a b
  better_same a b =
      let x : length (kept_segment w a).live ≡ live_count a = live_blocks-count w.terms.block a.first a.live in
      let y : length (kept_segment w b).live ≡ live_count b = live_blocks-count w.terms.block b.first b.live in
      rw (x, y) refl

  -- the session's choice is the history's
  pub choice_kept : (log : clean.Cleaning) → log.segments ≡ map (kept_segment w) w.segments → log.unfinished ≡ None
      → (left : List LogSegment) → unchosen w ≡ left → clean.choice_of log ≡ number_of_best left
  choice_kept log all idle left is_left = rw (idle, all, waiting_kept w.segments, is_left) (of_left left) where
    of_left : (xs : List LogSegment) → clean.number_of (clean.first_best (map (kept_segment w) xs)) ≡ number_of_best xs
    of_left [] = refl
    of_left (s ∷ ss) = ap (λ (x : clean.LogSegment). Some x.number) (best_map (kept_segment w) is_better clean.is_better better_same s ss)

-- the cuttings of live blocks, by either list of them
pub cuts_of_live : (disk : Shape) (block first : ℕ) (live : List Bool)
    → cuts_of disk block (clean.live_blocks block first live) ≡ live_cuts disk block first live
cuts_of_live disk block first [] = refl
cuts_of_live disk block first (true ∷ live) = ap (λ xs. cutting disk block first block ++ xs) (cuts_of_live disk block (first + block) live)
cuts_of_live disk block first (false ∷ live) = cuts_of_live disk block (first + block) live

pub live_placed : (disk : Shape) (tasks task weight block n first : ℕ) (live : List Bool) → task < tasks → weight ≤ 1000 → 0 < block
    → block ≤ 2048 → first + length live * block ≤ length (places disk) → first + length live * block ≤ 10 ^ 12
    → AllByRecursion (IsBlockOf disk tasks) (numbered task weight n (live_cuts disk block first live))
live_placed disk tasks task weight block n first [] opened light some short on_disk within = tt
live_placed disk tasks task weight block n first (true ∷ live) opened light some short on_disk within =
    subst (AllByRecursion (IsBlockOf disk tasks))
    (sym (numbered_append task weight n (cutting disk block first block) (live_cuts disk block (first + block) live)))
    (all_append (IsBlockOf disk tasks) (numbered task weight n (cutting disk block first block))
    (numbered task weight (n + length (cutting disk block first block)) (live_cuts disk block (first + block) live))
    (cuts_placed disk tasks task weight block n first (first + block) (cutting disk block first block) opened light short (omega arith)
    (omega arith) (cuts_are disk block first block some))
    (live_placed disk tasks task weight block (n + length (cutting disk block first block)) (first + block) live opened light some short
    (omega arith) (omega arith)))
live_placed disk tasks task weight block n first (false ∷ live) opened light some short on_disk within =
    live_placed disk tasks task weight block n (first + block) live opened light some short (omega arith) (omega arith)

-- laid end to end they are the live blocks
pub live_cover : (disk : Shape) (task weight block n first : ℕ) (live : List Bool) → 0 < block
    → flat_map (λ part. range_with_len part.lbn part.count) (numbered task weight n (live_cuts disk block first live))
    ≡ flat_map (λ lbn. range_with_len lbn block) (clean.live_blocks block first live)
live_cover disk task weight block n first [] some = refl
live_cover disk task weight block n first (true ∷ live) some =
    let size : first + block - first ≡ block = omega arith in
    let cuts = cutting disk block first block in
    let cover = cuts_cover disk task weight block n first (first + block) cuts (cuts_are disk block first block some) in
    rw (numbered_append, flat_map-append, cover, size, live_cover disk task weight block (n + length cuts) (first + block) live some) refl
live_cover disk task weight block n first (false ∷ live) some = live_cover disk task weight block n (first + block) live some

ascend_append : (low next : ℕ) (xs ys : List Block) → Ascend low xs → low ≤ next → AllByRecursion (λ b. b.lbn + b.count ≤ next) xs
    → Ascend next ys → Ascend low (xs ++ ys)
ascend_append low next [] [] p le ends q = tt
ascend_append low next [] (y ∷ ys) p le ends q = (omega (arith, q.0), q.1)
ascend_append low next (x ∷ xs) ys p le ends q = (p.0, ascend_append (x.lbn + x.count) next xs ys p.1 ends.0 ends.1 q)

-- they ascend
pub live_ascend : (disk : Shape) (task weight block n first low : ℕ) (live : List Bool) → 0 < block → low ≤ first
    → Ascend low (numbered task weight n (live_cuts disk block first live))
live_ascend disk task weight block n first low [] some le = tt
live_ascend disk task weight block n first low (true ∷ live) some le =
    let are = cuts_are disk block first block some in
    subst (Ascend low) (sym (numbered_append task weight n (cutting disk block first block) (live_cuts disk block (first + block) live)))
    (ascend_append low (first + block) (numbered task weight n (cutting disk block first block))
    (numbered task weight (n + length (cutting disk block first block)) (live_cuts disk block (first + block) live))
    (cuts_ascend disk task weight block n first (first + block) low (cutting disk block first block) le are) (omega arith)
    (cuts_end disk task weight block n first (first + block) (cutting disk block first block) are)
    (live_ascend disk task weight block (n + length (cutting disk block first block)) (first + block) (first + block) live some
    (omega arith)))
live_ascend disk task weight block n first low (false ∷ live) some le =
    live_ascend disk task weight block n (first + block) low live some (omega arith)

-- a range of some sectors has a block
cutting_some : (disk : Shape) (block lbn n : ℕ) → 0 < n → 0 < length (cutting disk block lbn n)
unfolding cutting
cutting_some disk block lbn zero some = absurd (omega arith)
cutting_some disk block lbn (suc n) some = with_some (cutting disk block (lbn + 1) n) where
  with_some : (cs : List Cut) → 0 < length (with_sector disk block lbn cs)
  with_some [] = omega arith
  with_some (c ∷ cs) = grind arith

pub live_some : (disk : Shape) (block first : ℕ) (live : List Bool) → 0 < block → 0 < length (clean.live_blocks block first live)
    → 0 < length (live_cuts disk block first live)
live_some disk block first [] some h = absurd (omega arith)
live_some disk block first (true ∷ live) some h = omega (
  arith,
  length-append (cutting disk block first block) (live_cuts disk block (first + block) live),
  cutting_some disk block first block some,
)
live_some disk block first (false ∷ live) some h = live_some disk block (first + block) live some h

-- without one element a sum is less by what it gave
sum_less : {X : Type 0} (f : X → ℕ) (p q : X → Bool) → ((x : X) → q x ≡ true → p x ≡ true) → (xs : List X)
    → sum_by f (filter q xs) ≤ sum_by f (filter p xs)
sum_less f p q weaker [] = omega arith
sum_less f p q weaker (x ∷ xs) =
    grind (arith, sum_less f p q weaker xs, weaker x, sum_by-cons f x (filter p xs), sum_by-cons f x (filter q xs))

pub sum_without : {X : Type 0} (f : X → ℕ) (p q : X → Bool) → ((x : X) → q x ≡ true → p x ≡ true) → (xs : List X) (i : ℕ) (x : X)
    → slice_get xs i ≡ Some x → p x ≡ true → q x ≡ false → sum_by f (filter q xs) + f x ≤ sum_by f (filter p xs)
sum_without f p q weaker [] i x at in_p out_q = absurd (cc)
sum_without f p q weaker (y ∷ ys) zero x at in_p out_q =
    grind (arith, sum_less f p q weaker ys, same_Some y x at, sum_by-cons f y (filter p ys))
sum_without f p q weaker (y ∷ ys) (suc i) x at in_p out_q =
    grind (arith, sum_without f p q weaker ys i x at in_p out_q, weaker y, sum_by-cons f y (filter p ys), sum_by-cons f y (filter q ys))
