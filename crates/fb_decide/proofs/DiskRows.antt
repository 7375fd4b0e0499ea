-- Where deliveries found what the disk held, the rows of a test are the disk's own.
use Rattle.fb_decide.proofs.Words.{◌≡◌, ℕ, ◌≤◌, ◌==◌, ◌&&◌, if◌then◌else◌, List, [], ◌∷◌, ◌++◌, Bool, true, false, filter, map, refl, ap}
use Rattle.fb_decide.proofs.Words.{ap₂, sym, ◌∙◌, arith, AllByRecursion, range_with_len, and_parts, all_filter, all_any, all_pass}
use Rattle.fb_decide.proofs.Words.{all_with, map_same, Content, ContentRun, runs_of, sectors_of, Holding, content_in, Block, is_delivered}
use Rattle.fb_decide.proofs.Words.{Medium, content, contents_at, Past, registered, blocks_of, bare_state, content_of, is_open_backup}
use Rattle.fb_decide.proofs.Words.{Choice, choices, view, held_at_delivery, test_rows, IsRegistered, Mirrors, IsTrue, own}
use Rattle.fb_units.proofs.Each.{list_all_each}
use Rattle.fb_units.proofs.Alike.{flat_same}
use Rattle.fb_store.proofs.Runs.{sectors_of-runs_of}
use Rattle.fb_rows.specs.declared.back.BackRow.TheVariants.{Seal as BackSeal}
use Rattle.fb_model.specs.History.{task_numbers}
use Rattle.fb_model.specs.Completion.{work, own_of, is_cleaned, is_complete}
use Rattle.fb_model.specs.Images.{image, packed, is_newly_cleaned, segment_row, segment_rows, seal_rows}
use Rattle.fb_model.specs.Images.{complete_rows}
use Rattle.fb_tasks.specs.Taken.{found_for, segment_rows_found, seal_rows_found, test_rows_found}
use Rattle.fb_decide.proofs.RegisteredBlocks.{AreOwn, each_in, chosen_there}

-- what sectors hold now is what they hold at an instant at which the disk is as it is now
pub mirrored : (medium : Medium) (holding : Holding) (from to : ℕ) → Mirrors medium holding from to → (lbn n t : ℕ) → from ≤ t → t ≤ to
    → map (λ lbn. (lbn, content_in holding lbn)) (range_with_len lbn n) ≡ contents_at medium lbn n t
mirrored medium holding from to mirrors lbn n t after before =
    map_same (λ lbn. (lbn, content_in holding lbn)) (λ lbn. (lbn, content medium lbn t)) (range_with_len lbn n)
    (all_any (λ lbn. ◌≡◌ {A = ℕ × Content} (lbn, content_in holding lbn) (lbn, content medium lbn t))
    (λ lbn. ap (λ c. (lbn, c)) (sym (mirrors lbn t after before))) (range_with_len lbn n))

module _ (medium : Medium) (holding : Holding) (past : Past) (true_so_far : IsTrue medium holding past) (chosen_own : AreOwn past) where
  -- a registered block of the task
  abbrev IsBlockHere : ℕ → Block → Type 0
  IsBlockHere task block = IsRegistered past block × (block.task ≡ task)

  as_own : (task : ℕ) (block : Block) → IsBlockHere task block → own_of task block ≡ block
  as_own task block here = ap (λ t. own_of t block) (sym here.1)

  was_delivered : (task : ℕ) (block : Block) → IsBlockHere task block → is_delivered ((work past task).bare block) ≡ true
      → is_delivered (bare_state past block) ≡ true
  was_delivered task block here done = ap (λ b. is_delivered (bare_state past b)) (sym (as_own task block here)) ∙ done

  -- a delivered block of a choice was found as it was when its delivery began
  packed_block : (task : ℕ) (block : Block) → IsBlockHere task block → is_delivered ((work past task).bare block) ≡ true
      → sectors_of ((work past task).found block) ≡ held_at_delivery medium past block
  packed_block task block here done = ap (λ b. sectors_of (content_of past b)) (as_own task block here)
      ∙ (ap sectors_of (true_so_far.found block here.0 (was_delivered task block here done))
      ∙ sectors_of-runs_of (held_at_delivery medium past block))

  packed-true : (task : ℕ) (choice : Choice) → is_newly_cleaned (work past task) choice ≡ true
      → AllByRecursion (IsBlockHere task) choice.blocks → found_for (work past task) choice.blocks ≡ packed medium past choice
  packed-true task choice newly here =
      ap runs_of (flat_same (λ block. sectors_of ((work past task).found block)) (held_at_delivery medium past) choice.blocks
      (all_with (IsBlockHere task) (λ block. is_delivered ((work past task).bare block) ≡ true)
      (λ block. sectors_of ((work past task).found block) ≡ held_at_delivery medium past block) (packed_block task) choice.blocks here
      (list_all_each (λ block. is_delivered ((work past task).bare block)) choice.blocks
      (and_parts (is_cleaned (work past task) choice) _ newly).0)))

  chosen_here : (task : ℕ) → AllByRecursion (λ (choice : Choice). AllByRecursion (IsBlockHere task) choice.blocks) (choices past task)
  chosen_here task = all_with (λ (choice : Choice). AllByRecursion (IsRegistered past) choice.blocks)
      (λ choice. AllByRecursion (λ block. block.task ≡ task) choice.blocks) (λ choice. AllByRecursion (IsBlockHere task) choice.blocks)
      (λ choice there mine. all_with (IsRegistered past) (λ block. block.task ≡ task) (IsBlockHere task)
      (λ block a b. (a, b)) choice.blocks there mine) (choices past task) (chosen_there past task) (chosen_own task)

  segments-true : (now task : ℕ) → segment_rows_found past now task ≡ segment_rows (packed medium past) past now task
  segments-true now task = map_same
      (λ (choice : Choice). segment_row now task (found_for (work past task) choice.blocks) choice)
      (λ (choice : Choice). segment_row now task (packed medium past choice) choice)
      (filter (is_newly_cleaned (work past task)) (choices past task))
      (all_with (λ choice. is_newly_cleaned (work past task) choice ≡ true)
      (λ (choice : Choice). AllByRecursion (IsBlockHere task) choice.blocks) _
      (λ choice newly here. ap (λ content. segment_row now task content choice) (packed-true task choice newly here))
      (filter (is_newly_cleaned (work past task)) (choices past task))
      (all_pass (is_newly_cleaned (work past task)) (choices past task))
      (all_filter (λ (choice : Choice). AllByRecursion (IsBlockHere task) choice.blocks) (is_newly_cleaned (work past task))
      (choices past task) (chosen_here task)))

  module _ (now : ℕ) (mirrors : Mirrors medium holding now now) where
    -- a delivered block of an open backup was found as it is now
    kept_block : (task : ℕ) → is_open_backup past task ≡ true → (block : Block) → IsBlockHere task block
        → is_delivered ((work past task).bare block) ≡ true
        → sectors_of ((work past task).found block) ≡ contents_at medium block.lbn block.count now
    kept_block task is_open block here done =
        ap (λ b. sectors_of (content_of past b)) (as_own task block here)
        ∙ (ap sectors_of (true_so_far.kept block here.0 (was_delivered task block here done) (ap (is_open_backup past) here.1 ∙ is_open))
        ∙ (sectors_of-runs_of (map (λ lbn. (lbn, content_in holding lbn)) (range_with_len block.lbn block.count))
        ∙ mirrored medium holding now now mirrors block.lbn block.count now (let e : now ≤ now = omega arith in e)
        (let e : now ≤ now = omega arith in e)))

    own_blocks : (task : ℕ) → AllByRecursion (IsBlockHere task) (blocks_of past task)
    unfolding view
    own_blocks task = all_with (IsRegistered past) (λ block. block.task ≡ task) (IsBlockHere task) (λ block there mine. (there, mine))
        (blocks_of past task)
        (all_filter (IsRegistered past) (λ block. block.task == task) (registered past) (each_in (registered past))) (own past task)

    image-true : (task : ℕ) → is_open_backup past task ≡ true → found_for (work past task)
        (filter (λ block. is_delivered ((work past task).bare block)) (blocks_of past task)) ≡ image medium past task now
    image-true task is_open =
        let done = λ (block : Block). is_delivered ((work past task).bare block) in
        ap runs_of (flat_same (λ block. sectors_of ((work past task).found block)) (λ block. contents_at medium block.lbn block.count now)
        (filter done (blocks_of past task))
        (all_with (IsBlockHere task) (λ block. done block ≡ true)
        (λ block. sectors_of ((work past task).found block) ≡ contents_at medium block.lbn block.count now) (kept_block task is_open)
        (filter done (blocks_of past task)) (all_filter (IsBlockHere task) done (blocks_of past task) (own_blocks task))
        (all_pass done (blocks_of past task))))

    seal_if : (task : ℕ) (seals : Bool) (a b : List ContentRun) → (seals ≡ true → a ≡ b)
        → (if seals then BackSeal (record { task = task; instant = now; content = a }) ∷ [] else [])
        ≡ (if seals then BackSeal (record { task = task; instant = now; content = b }) ∷ [] else [])
    seal_if task true a b h = ap (λ content. BackSeal (record { task = task; instant = now; content = content }) ∷ []) (h refl)
    seal_if task false a b h = refl

    seals-true : (task : ℕ) → seal_rows_found past now task ≡ seal_rows (image medium past task now) past now task
    seals-true task = seal_if task (is_open_backup past task && is_complete past task) (found_for (work past task)
        (filter (λ block. is_delivered ((work past task).bare block)) (blocks_of past task))) (image medium past task now)
        (λ seals. image-true task (and_parts (is_open_backup past task) (is_complete past task) seals).0)

    -- the rows of a test are those that the disk gives
    pub rows-true : test_rows_found past now ≡ test_rows medium past now
    unfolding test_rows test_rows_found
    rows-true = ap₂ (λ a b. a ++ b)
        (flat_same (segment_rows_found past now) (segment_rows (packed medium past) past now) (task_numbers past)
        (all_any (λ task. segment_rows_found past now task ≡ segment_rows (packed medium past) past now task) (segments-true now)
        (task_numbers past)))
        (flat_same (λ task. seal_rows_found past now task ++ complete_rows past now task)
        (λ task. seal_rows (image medium past task now) past now task ++ complete_rows past now task) (task_numbers past)
        (all_any (λ task. seal_rows_found past now task
        ++ complete_rows past now task ≡ seal_rows (image medium past task now) past now task ++ complete_rows past now task)
        (λ task. ap (λ rows. rows ++ complete_rows past now task) (seals-true task)) (task_numbers past)))
