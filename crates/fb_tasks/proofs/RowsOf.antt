-- The sectors that can't be read, and what the rows of a test say of each task.
use Rattle.fb_units.proofs.Each.{all_map_any}
use Rattle.fb_units.proofs.Parts.{range-append}
use Rattle.fb_tasks.proofs.Words.{◌≡◌, ℕ, ◌+◌, ◌-◌, ◌≤◌, List, [], ◌∷◌, ◌++◌, true, false, Some, if◌then◌else◌, take, slice_get, append-nil}
use Rattle.fb_tasks.proofs.Words.{append_assoc, sym, arith, refl, zero, suc, ◌<◌, ◌==◌, ◌&&◌, ◌||◌, Bool, inl, inr, length, filter}
use Rattle.fb_tasks.proofs.Words.{map, ap, ◌∙◌, range_with_len, flat_map, list_any, Unreadable, ContentRun, same_content, bad_sectors}
use Rattle.fb_tasks.proofs.Words.{test_rows_found, segment_rows_found, seal_rows_found, complete_rows, is_newly_cleaned, findings, is_scrub}
use Rattle.fb_tasks.proofs.Words.{take_more, get_or_past, slice_get_within, get_or_from_slice_get, flat_map-append, and-false, or-false}
use Rattle.fb_tasks.proofs.Words.{cases_Bool, nat_tests, list_any-append, BackRow, BackBad, segment_row}
use Rattle.fb_tasks.proofs.Words.{DeliveryRow, Past, tasks, task_numbers, terms_of, is_seal_of, is_open_backup, Choice, view, work, choices}
use Rattle.fb_tasks.proofs.Words.{is_complete, is_segment_of, AreTestRowsOf, all_any, any_same, any_of_none, Plain}
use Rattle.fb_tasks.proofs.Words.{AreReported, none_kept, found_for}

pub range_pushed : (before now : List ℕ) (first lbn : ℕ) → first ≤ lbn → now ≡ before ++ range_with_len first (lbn - first)
    → now ++ lbn ∷ [] ≡ before ++ range_with_len first (lbn + 1 - first)
range_pushed before now first lbn from so_far =
    let more : lbn + 1 - first ≡ (lbn - first) + 1 = omega arith in
    let same : first + (lbn - first) ≡ lbn = omega arith in
    rw (so_far, more, range-append first (lbn - first) 1, same, append_assoc) refl

-- one more run
pub bad_more : (runs : List ContentRun) (i : ℕ) (run : ContentRun) → slice_get runs i ≡ Some run
    → bad_sectors (take (i + 1) runs) ≡ bad_sectors (take i runs)
    ++ (if same_content run.content Unreadable then range_with_len run.first run.count else [])
bad_more runs i run h =
    rw (take_more runs i run (slice_get_within runs i run h), get_or_from_slice_get runs i run run h, flat_map-append, append-nil) refl

module _ (runs : List ContentRun) (i : ℕ) (run : ContentRun) (at : slice_get runs i ≡ Some run) (before now : List ℕ)
    (so_far : before ≡ bad_sectors (take i runs)) where
  pub bad_pushed : same_content run.content Unreadable ≡ true → now ≡ before ++ range_with_len run.first run.count
      → now ≡ bad_sectors (take (i + 1) runs)
  bad_pushed bad is = rw (is, so_far, bad_more runs i run at, bad) refl

  pub bad_passed : same_content run.content Unreadable ≡ false → now ≡ before → now ≡ bad_sectors (take (i + 1) runs)
  bad_passed good is = rw (is, so_far, bad_more runs i run at, good) (sym (append-nil (bad_sectors (take i runs))))

-- a test of what lists are made of
pub any_flat : {X Y : Type 0} (p : Y → Bool) (f : X → List Y) (xs : List X)
    → list_any p (flat_map f xs) ≡ list_any (λ x. list_any p (f x)) xs
any_flat p f [] = refl
any_flat p f (x ∷ xs) = list_any-append p (f x) (flat_map f xs) ∙ ap (λ b. list_any p (f x) || b) (any_flat p f xs)

any_mapped_none : {X Y : Type 0} (p : Y → Bool) (f : X → Y) → ((x : X) → p (f x) ≡ false) → (xs : List X) → list_any p (map f xs) ≡ false
any_mapped_none p f none xs = any_of_none p (map f xs) (all_map_any (λ y. p y ≡ false) f none xs)

-- a test of one number of a range
no_one : (g : ℕ → Bool) (k a n : ℕ) → k < a → list_any (λ t. (t == k) && g t) (range_with_len a n) ≡ false
no_one g k a zero less = refl
no_one g k a (suc n) less = grind (arith, nat_tests, no_one g k (a + 1) n (omega arith))

any_one : (g : ℕ → Bool) (k a n : ℕ) → a ≤ k → (a + n ≤ k → g k ≡ false) → list_any (λ t. (t == k) && g t) (range_with_len a n) ≡ g k
any_one g k a zero from out = sym (out (omega arith))
any_one g k a (suc n) from out = elim (cases_Bool (a == k)) [
  | inl here ↦ grind (arith, nat_tests, no_one g k (a + 1) n)
  | inr other ↦ rw other (any_one g k (a + 1) n (grind (arith, nat_tests)) (λ past. out (omega arith)))
]

-- what one task alone can give
module _ (past : Past) (p : BackRow → Bool) (f : ℕ → List BackRow) where
  any_tasks : (g : ℕ → Bool) (task : ℕ) → ((t : ℕ) → list_any p (f t) ≡ ((t == task) && g t))
      → (length (tasks past) ≤ task → g task ≡ false)
      → list_any p (flat_map f (task_numbers past)) ≡ g task
  any_tasks g task same out =
      any_flat p f (task_numbers past) ∙ (any_same (λ t. list_any p (f t)) (λ t. (t == task) && g t) (task_numbers past)
      (all_any (λ t. list_any p (f t) ≡ ((t == task) && g t)) same (task_numbers past))
      ∙ any_one g task 0 (length (tasks past)) (omega arith) (λ more. out (omega (arith, more))))

  no_tasks : ((t : ℕ) → list_any p (f t) ≡ false) → list_any p (flat_map f (task_numbers past)) ≡ false
  no_tasks none = any_flat p f (task_numbers past)
      ∙ any_of_none (λ t. list_any p (f t)) (task_numbers past) (all_any (λ t. list_any p (f t) ≡ false) none (task_numbers past))

module _ (past : Past) (now : ℕ) where
  seals_by : (task t : ℕ) → list_any (is_seal_of task) (seal_rows_found past now t ++ complete_rows past now t)
      ≡ ((t == task) && (is_open_backup past t && is_complete past t))
  seals_by task t = grind arith

  no_seals : (task t : ℕ) → list_any (is_seal_of task) (segment_rows_found past now t) ≡ false
  no_seals task t = any_mapped_none (is_seal_of task)
      (λ (choice : Choice). segment_row now t (found_for (work past t) choice.blocks) choice) (λ choice. refl)
      (filter (is_newly_cleaned (work past t)) (choices past t))

  -- a test seals a backup that is complete
  pub seals_given : (task : ℕ) → list_any (is_seal_of task) (test_rows_found past now) ≡ (is_open_backup past task && is_complete past task)
  unfolding test_rows_found
  seals_given task =
      rw (list_any-append, no_tasks past (is_seal_of task) (segment_rows_found past now) (no_seals task))
      (any_tasks past (is_seal_of task) (λ t. seal_rows_found past now t ++ complete_rows past now t)
      (λ t. is_open_backup past t && is_complete past t) task (seals_by task)
      (λ beyond. rw (get_or_past (tasks past) task (record { kind = Plain; weight = 1; block = 1 }) beyond) refl))

  -- segments
  segments_by : (task t number : ℕ) (p : Choice → Bool) (cs : List Choice)
      → list_any (is_segment_of task number)
      (map (λ (choice : Choice). segment_row now t (found_for (work past t) choice.blocks) choice) (filter p cs))
      ≡ ((t == task) && list_any (λ choice. (choice.segment.number == number) && p choice) cs)
  segments_by task t number p [] = sym (and-false (t == task))
  segments_by task t number p (c ∷ cs) = grind (arith, segments_by task t number p cs)

  no_segments : (task number t : ℕ) → list_any (is_segment_of task number) (seal_rows_found past now t ++ complete_rows past now t) ≡ false
  no_segments task number t = grind arith

  -- a test reports the segments that are newly cleaned
  pub segments_given : (task number : ℕ) → (length (tasks past) ≤ task → choices past task ≡ [])
      → list_any (is_segment_of task number) (test_rows_found past now)
      ≡ list_any (λ choice. (choice.segment.number == number) && is_newly_cleaned (work past task) choice) (choices past task)
  unfolding test_rows_found
  segments_given task number unopened =
      rw (
        list_any-append,
        no_tasks past (is_segment_of task number) (λ t. seal_rows_found past now t ++ complete_rows past now t) (no_segments task number),
        or-false,
      )
      (any_tasks past (is_segment_of task number) (segment_rows_found past now)
      (λ t. list_any (λ choice. (choice.segment.number == number) && is_newly_cleaned (work past t) choice) (choices past t)) task
      (λ t. segments_by task t number (is_newly_cleaned (work past t)) (choices past t)) (λ beyond. rw (unopened beyond) refl))

-- where each segment has its row none is given
pub reported_rows : (past : Past) (now task : ℕ) → AreReported (view past task).work
    → segment_rows_found past now task ≡ []
unfolding view
reported_rows past now task h = rw (none_kept (is_newly_cleaned (view past task).work) (view past task).choices h) refl

-- rows that neither seal a task nor report a segment
pub record AreMute (rows : List BackRow) : Type 0 where
  pub seals : (task : ℕ) → list_any (is_seal_of task) rows ≡ false
  pub segments : (task number : ℕ) → list_any (is_segment_of task number) rows ≡ false

pub nothing-mute : AreMute []
nothing-mute = record { seals = λ task. refl; segments = λ task number. refl }

pub findings-mute : (past : Past) (got : DeliveryRow) → AreMute (findings past got)
findings-mute past got = for (is_scrub (terms_of past got.block.task).kind) where
  for : (b : Bool)
      → AreMute (if b then map (λ lbn. BackBad (record { task = got.block.task; lbn = lbn })) (bad_sectors got.content) else [])
  for true = record {
    seals = λ task. any_mapped_none (is_seal_of task) (λ lbn. BackBad (record { task = got.block.task; lbn = lbn })) (λ lbn. refl)
        (bad_sectors got.content);
    segments = λ task number. any_mapped_none (is_segment_of task number) (λ lbn. BackBad (record { task = got.block.task; lbn = lbn }))
        (λ lbn. refl) (bad_sectors got.content);
  }
  for false = nothing-mute

-- a test's rows are such as a test has to give
pub rows-given : (past : Past) (now : ℕ) (before : List BackRow) → AreMute before → (task : ℕ)
    → (length (tasks past) ≤ task → (view past task).choices ≡ [])
    → AreTestRowsOf task (view past task) (before ++ test_rows_found past now)
unfolding view is_complete
rows-given past now before mute task unopened = record {
  seals = rw (list_any-append, mute.seals task) (seals_given past now task);
  segments = λ number. rw (list_any-append, mute.segments task number) (segments_given past now task number unopened);
}
