-- Nothing looks at the number of a call's line: without it the history says the same.
use Rattle.fb_model.proofs.Words.{◌≡◌, ℕ, zero, suc, List, [], ◌∷◌, ◌++◌, length, map, drop, refl, ap, ap₂, sym, subst, ◌∙◌, arith, Bool}
use Rattle.fb_model.proofs.Words.{true, false, nat_le, filter, ◌&&◌, ◌||◌, ◌==◌, not, if◌then◌else◌, fold, flat_map, list_any}
use Rattle.fb_model.proofs.Words.{range_with_len, best_of, kept_map, flat_map_same, same_map, Shape, Action, Want, Call, Terms, live_cuts}
use Rattle.fb_model.proofs.Words.{is_clean, cutting, runs_of, Block, State, Wanted, is_wanted, is_delivered, DeliveryRow, Inputs, Medium}
use Rattle.fb_model.proofs.Words.{contents_at, Decision, serves, idles, ends, instant_of, Event, called, chose, tested, delivered, Past}
use Rattle.fb_model.proofs.Words.{LogSegment, calls_of, opened_by, tasks, task_numbers, terms_of, registered, blocks_of, same_block}
use Rattle.fb_model.proofs.Words.{registers, is_open_backup, bare_state, content_of, state, wanted, segments, Choice, choices, is_closed}
use Rattle.fb_model.proofs.Words.{own_of, work, is_complete, was_complete, numbered, is_better, unchosen, is_busy, choose_best}
use Rattle.fb_model.proofs.Words.{choose_once, choose_up_to, choose_in, with_choices, bad_sectors, is_scrub, findings, held_at_delivery}
use Rattle.fb_model.proofs.Words.{packed, is_newly_cleaned, segment_rows, image, segment_row, seal_rows, complete_rows, test_rows, due}
use Rattle.fb_model.proofs.Words.{Delivery, Step, decision_in, blocks_by, take_call, calls_due, chosen_past, with_delivery, with_finish}
use Rattle.fb_model.proofs.Words.{tested_past, past_after, AtEach, AreFollowed, HasBestPlan, without_line}
use Rattle.std.proofs.Common.{length-append}
use Rattle.std.proofs.lemmas.List.{drop-map}
use Rattle.std.proofs.lemmas.List.Elements.{filter_agree}
use Rattle.fb_script.specs.Sessions.{is_backup}
use Rattle.fb_wanted.specs.declared.block.State.TheVariants.{Suspended, Delivered, Aborted}
use Rattle.fb_rows.specs.declared.back.BackRow.TheVariants.{Bad as BackBad, Seal as BackSeal}
use Rattle.fb_rows.specs.declared.back.BackRow.TheVariants.{Complete as BackComplete}
use Rattle.fb_model.specs.History.{delivers, aborts, overwrites}
use Rattle.fb_model.specs.History.{is_seal_of, is_sealed, suspended_after, is_suspended}
use Rattle.fb_model.specs.Completion.{segment_by, is_close, is_segment_of, is_reported, Work}
use Rattle.fb_model.specs.Completion.{is_done}
use Rattle.fb_model.proofs.FullRuns.{IsFullStep}

abbrev unlined : Event → Event
unlined (called call blocks) = called (without_line call) blocks
unlined event = event

abbrev pub unlined_past : Past → Past
unlined_past past = map unlined past

abbrev pub unlined_inputs : Inputs → Inputs
unlined_inputs inputs = record inputs { calls = map without_line inputs.calls }

-- ---- tasks and blocks

same_tasks : (past : Past) → tasks (unlined_past past) ≡ tasks past
same_tasks [] = refl
same_tasks (called call blocks ∷ past) = ap (opened_by call.action) (same_tasks past)
same_tasks (_ ∷ past) = same_tasks past

same_terms : (past : Past) (task : ℕ) → terms_of (unlined_past past) task ≡ terms_of past task
same_terms past task = rw (same_tasks past) refl

same_numbers : (past : Past) → task_numbers (unlined_past past) ≡ task_numbers past
same_numbers past = ap (λ tasks. range_with_len 0 (length tasks)) (same_tasks past)

same_registered : (past : Past) → registered (unlined_past past) ≡ registered past
same_registered [] = refl
same_registered (called call blocks ∷ past) = ap (λ before. before ++ blocks) (same_registered past)
same_registered (chose task segment blocks ∷ past) = ap (λ before. before ++ blocks) (same_registered past)
same_registered (_ ∷ past) = same_registered past

same_blocks : (past : Past) (task : ℕ) → blocks_of (unlined_past past) task ≡ blocks_of past task
same_blocks past task = ap (filter (λ (block : Block). block.task == task)) (same_registered past)

same_sealed : (past : Past) (task : ℕ) → is_sealed (unlined_past past) task ≡ is_sealed past task
same_sealed [] task = refl
same_sealed (tested rows ∷ past) task = ap (λ b. list_any (is_seal_of task) rows || b) (same_sealed past task)
same_sealed (_ ∷ past) task = same_sealed past task

same_open : (past : Past) (task : ℕ) → is_open_backup (unlined_past past) task ≡ is_open_backup past task
same_open past task = ap₂ (λ (terms : Terms) sealed. is_backup terms.kind && not sealed) (same_terms past task) (same_sealed past task)

-- ---- states

abbrev after_event : Bool → Event → Block → State → State
after_event open_backup event block before =
    if registers event block then Wanted
    else if delivers event block then Delivered
    else if aborts event block && not (is_delivered before) then Aborted
    else if overwrites event block && is_delivered before && open_backup then Wanted
    else before

same_event : (open_backup : Bool) (event : Event) (block : Block) (before : State)
    → after_event open_backup (unlined event) block before ≡ after_event open_backup event block before
same_event open_backup (called call blocks) block before = refl
same_event open_backup _ block before = refl

same_bare : (past : Past) (block : Block) → bare_state (unlined_past past) block ≡ bare_state past block
unfolding bare_state
same_bare [] block = refl
same_bare (event ∷ past) block =
    ap₂ (λ open_backup before. after_event open_backup (unlined event) block before) (same_open past block.task) (same_bare past block)
    ∙ same_event (is_open_backup past block.task) event block (bare_state past block)

same_found : (past : Past) (block : Block) → content_of (unlined_past past) block ≡ content_of past block
unfolding content_of
same_found [] block = refl
same_found (delivered row ∷ past) block = ap (λ before. if same_block row.block block then row.content else before) (same_found past block)
same_found (_ ∷ past) block = same_found past block

same_suspended : (past : Past) (task : ℕ) → is_suspended (unlined_past past) task ≡ is_suspended past task
same_suspended [] task = refl
same_suspended (called call blocks ∷ past) task =
    ap (λ before. if call.task == task then suspended_after call.action before else before) (same_suspended past task)
same_suspended (_ ∷ past) task = same_suspended past task

same_state : (past : Past) (block : Block) → state (unlined_past past) block ≡ state past block
same_state past block =
    ap₂ (λ bare suspended. if is_wanted bare && suspended then Suspended else bare) (same_bare past block) (same_suspended past block.task)

pub same_wanted : (past : Past) → wanted (unlined_past past) ≡ wanted past
unfolding wanted
same_wanted past = ap (filter (λ block. is_wanted (state (unlined_past past) block))) (same_registered past)
    ∙ filter_agree (λ block. is_wanted (state (unlined_past past) block)) (λ block. is_wanted (state past block))
    (λ block. ap is_wanted (same_state past block)) (registered past)

-- ---- how a task stands

same_segments : (past : Past) (task : ℕ) → segments (unlined_past past) task ≡ segments past task
same_segments [] task = refl
same_segments (called call blocks ∷ past) task =
    ap (λ before. if call.task == task then segment_by call.action before else before) (same_segments past task)
same_segments (_ ∷ past) task = same_segments past task

same_choices : (past : Past) (task : ℕ) → choices (unlined_past past) task ≡ choices past task
same_choices [] task = refl
same_choices (chose chooser segment blocks ∷ past) task =
    ap (λ before. if chooser == task then before ++ record { segment = segment; blocks = blocks } ∷ [] else before) (same_choices past task)
same_choices (_ ∷ past) task = same_choices past task

same_closed : (past : Past) (task : ℕ) → is_closed (unlined_past past) task ≡ is_closed past task
same_closed [] task = refl
same_closed (called call blocks ∷ past) task = ap (λ b. ((call.task == task) && is_close call.action) || b) (same_closed past task)
same_closed (_ ∷ past) task = same_closed past task

same_reported : (past : Past) (task number : ℕ) → is_reported (unlined_past past) task number ≡ is_reported past task number
same_reported [] task number = refl
same_reported (tested rows ∷ past) task number = ap (λ b. list_any (is_segment_of task number) rows || b) (same_reported past task number)
same_reported (_ ∷ past) task number = same_reported past task number

same_work : (past : Past) (task : ℕ) → work (unlined_past past) task ≡ work past task
same_work past task =
    let reported = λ (number : ℕ). same_reported past task number in
    let bare = λ (block : Block). same_bare past (own_of task block) in
    let found = λ (block : Block). same_found past (own_of task block) in
    simp (
      same_terms past task,
      same_closed past task,
      same_segments past task,
      same_choices past task,
      reported,
      same_blocks past task,
      bare,
      found,
    )

same_complete : (past : Past) (task : ℕ) → is_complete (unlined_past past) task ≡ is_complete past task
unfolding is_complete
same_complete past task = ap is_done (same_work past task)

same_was : (past : Past) (task : ℕ) → was_complete (unlined_past past) task ≡ was_complete past task
same_was [] task = refl
same_was (tested rows ∷ past) task = same_complete past task
same_was (_ ∷ past) task = same_was past task

same_held : (medium : Medium) (past : Past) (block : Block)
    → held_at_delivery medium (unlined_past past) block ≡ held_at_delivery medium past block
same_held medium [] block = refl
same_held medium (delivered row ∷ past) block =
    ap (λ held. if same_block row.block block then contents_at medium block.lbn block.count row.begin else held)
    (same_held medium past block)
same_held medium (_ ∷ past) block = same_held medium past block

-- ---- calls and choices

same_by : (disk : Shape) (past : Past) (task : ℕ) (action : Action)
    → blocks_by disk (unlined_past past) task action ≡ blocks_by disk past task action
same_by disk past task (Want first count) = ap₂ (λ (terms : Terms) (blocks : List Block).
    numbered task terms.weight (length blocks) (cutting disk terms.block first count)) (same_terms past task) (same_blocks past task)
same_by disk past task _ = refl

take_all : (disk : Shape) (calls : List Call) (past : Past)
    → fold (take_call disk) (unlined_past past) (map without_line calls) ≡ unlined_past (fold (take_call disk) past calls)
take_all disk [] past = refl
take_all disk (call ∷ calls) past =
    ap (λ blocks. fold (take_call disk) (called (without_line call) blocks ∷ unlined_past past) (map without_line calls))
    (same_by disk past call.task call.action)
    ∙ take_all disk calls (take_call disk past call)

same_taken : (past : Past) → length (calls_of (unlined_past past)) ≡ length (calls_of past)
same_taken [] = refl
same_taken (called call blocks ∷ past) = omega (
  arith,
  same_taken past,
  length-append (calls_of (unlined_past past)) (without_line call ∷ []),
  length-append (calls_of past) (call ∷ []),
)
same_taken (_ ∷ past) = same_taken past

same_calls : (calls : List Call) (past : Past) (now : ℕ)
    → calls_due (map without_line calls) (unlined_past past) now ≡ map without_line (calls_due calls past now)
same_calls calls past now =
    let come = λ (call : Call). nat_le call.instant now in
    ap (λ n. filter come (drop n (map without_line calls))) (same_taken past)
    ∙ (ap (filter come) (drop-map without_line (length (calls_of past)) calls)
    ∙ kept_map come without_line (drop (length (calls_of past)) calls))

either : (b : Bool) (x y x' y' : Past) → x' ≡ unlined_past x → y' ≡ unlined_past y
    → (if b then x' else y') ≡ unlined_past (if b then x else y)
either true x y x' y' e f = e
either false x y x' y' e f = f

choose_best_same : (disk : Shape) (task : ℕ) (past : Past) (left : List LogSegment)
    → choose_best disk task (unlined_past past) left ≡ unlined_past (choose_best disk task past left)
choose_best_same disk task past [] = refl
choose_best_same disk task past (segment ∷ left) =
    let best = best_of is_better segment left in
    ap₂ (λ (terms : Terms) (blocks : List Block). chose task best (numbered task terms.weight (length blocks)
    (live_cuts disk terms.block best.first best.live)) ∷ unlined_past past) (same_terms past task) (same_blocks past task)

choose_once_same : (disk : Shape) (task : ℕ) (past : Past)
    → choose_once disk task (unlined_past past) ≡ unlined_past (choose_once disk task past)
choose_once_same disk task past =
    ap (λ (w : Work). if is_busy w then unlined_past past else choose_best disk task (unlined_past past) (unchosen w)) (same_work past task)
    ∙ either (is_busy (work past task)) past (choose_best disk task past (unchosen (work past task))) (unlined_past past)
    (choose_best disk task (unlined_past past) (unchosen (work past task))) refl
    (choose_best_same disk task past (unchosen (work past task)))

choose_up_to_same : (n : ℕ) (disk : Shape) (task : ℕ) (past : Past)
    → choose_up_to n disk task (unlined_past past) ≡ unlined_past (choose_up_to n disk task past)
choose_up_to_same zero disk task past = refl
choose_up_to_same (suc n) disk task past =
    ap (choose_up_to n disk task) (choose_once_same disk task past) ∙ choose_up_to_same n disk task (choose_once disk task past)

choose_in_same : (disk : Shape) (past : Past) (task : ℕ) → choose_in disk (unlined_past past) task ≡ unlined_past (choose_in disk past task)
choose_in_same disk past task =
    let cleans = is_clean (terms_of past task).kind && not (is_closed past task) in
    let n = length (segments past task) in
    ap₂ (λ c (found : List LogSegment). if c then choose_up_to (length found) disk task (unlined_past past) else unlined_past past)
    (ap₂ (λ (terms : Terms) closed. is_clean terms.kind && not closed) (same_terms past task) (same_closed past task))
    (same_segments past task)
    ∙ either cleans (choose_up_to n disk task past) past (choose_up_to n disk task (unlined_past past)) (unlined_past past)
    (choose_up_to_same n disk task past) refl

choose_all_same : (disk : Shape) (numbers : List ℕ) (past : Past)
    → fold (choose_in disk) (unlined_past past) numbers ≡ unlined_past (fold (choose_in disk) past numbers)
choose_all_same disk [] past = refl
choose_all_same disk (task ∷ numbers) past = ap (λ past. fold (choose_in disk) past numbers) (choose_in_same disk past task)
    ∙ choose_all_same disk numbers (choose_in disk past task)

with_choices_same : (disk : Shape) (past : Past) → with_choices disk (unlined_past past) ≡ unlined_past (with_choices disk past)
unfolding with_choices
with_choices_same disk past =
    ap (fold (choose_in disk) (unlined_past past)) (same_numbers past) ∙ choose_all_same disk (task_numbers past) past

chosen_same : (inputs : Inputs) (past : Past) (decision : Decision)
    → chosen_past (unlined_inputs inputs) (unlined_past past) decision ≡ unlined_past (chosen_past inputs past decision)
unfolding chosen_past
chosen_same inputs past decision =
    let disk = inputs.disk.map in
    let due = calls_due inputs.calls past (instant_of decision) in
    ap (λ calls. with_choices disk (fold (take_call disk) (unlined_past past) calls)) (same_calls inputs.calls past (instant_of decision))
    ∙ (ap (with_choices disk) (take_all disk due past) ∙ with_choices_same disk (fold (take_call disk) past due))

deliver_all : (deliveries : List Delivery) (past : Past)
    → fold with_delivery (unlined_past past) deliveries ≡ unlined_past (fold with_delivery past deliveries)
deliver_all [] past = refl
deliver_all (delivery ∷ deliveries) past = deliver_all deliveries (with_delivery past delivery)

finish_same : (past : Past) (decision : Decision) → with_finish (unlined_past past) decision ≡ unlined_past (with_finish past decision)
finish_same past (serves served) = refl
finish_same past (idles dwell) = refl
finish_same past (ends now) = refl

after_same : (inputs : Inputs) (past : Past) (step : Step)
    → past_after (unlined_inputs inputs) (unlined_past past) step ≡ unlined_past (past_after inputs past step)
unfolding past_after
after_same inputs past step =
    ap (λ past. with_finish (fold with_delivery (tested step.test ∷ past) step.deliveries) (decision_in step))
    (chosen_same inputs past (decision_in step))
    ∙ (ap (λ past. with_finish past (decision_in step)) (deliver_all step.deliveries (tested_past inputs past step))
    ∙ finish_same (fold with_delivery (tested_past inputs past step) step.deliveries) (decision_in step))

-- ---- rows

findings_same : (past : Past) (row : DeliveryRow) → findings (unlined_past past) row ≡ findings past row
findings_same past row = ap (λ (terms : Terms). if is_scrub terms.kind then map
    (λ lbn. BackBad (record { task = row.block.task; lbn = lbn })) (bad_sectors row.content) else []) (same_terms past row.block.task)

module _ (medium : Medium) where
  packed_same : (past : Past) (choice : Choice) → packed medium (unlined_past past) choice ≡ packed medium past choice
  packed_same past choice = ap runs_of (flat_map_same (held_at_delivery medium (unlined_past past)) (held_at_delivery medium past)
      (same_held medium past) choice.blocks)

  segments_same : (past : Past) (now task : ℕ)
      → segment_rows (packed medium (unlined_past past)) (unlined_past past) now task ≡ segment_rows (packed medium past) past now task
  segments_same past now task =
      let row = segment_row now task in
      ap₂ (λ (w : Work) (found : List Choice). map (λ choice. row (packed medium (unlined_past past) choice) choice)
      (filter (is_newly_cleaned w) found)) (same_work past task) (same_choices past task)
      ∙ same_map (λ choice. row (packed medium (unlined_past past) choice) choice) (λ choice. row (packed medium past choice) choice)
      (λ choice. ap (λ content. row content choice) (packed_same past choice))
      (filter (is_newly_cleaned (work past task)) (choices past task))

  image_same : (past : Past) (task now : ℕ) → image medium (unlined_past past) task now ≡ image medium past task now
  image_same past task now =
      ap₂ (λ (w : Work) (blocks : List Block). runs_of (flat_map (λ block. contents_at medium block.lbn block.count now)
      (filter (λ block. is_delivered (w.bare block)) blocks))) (same_work past task) (same_blocks past task)

  seals_same : (past : Past) (now task : ℕ) → seal_rows (image medium (unlined_past past) task now) (unlined_past past) now task
      ≡ seal_rows (image medium past task now) past now task
  seals_same past now task =
      ap₂ (λ b content. if b then BackSeal (record { task = task; instant = now; content = content }) ∷ [] else [])
      (ap₂ (λ b c. b && c) (same_open past task) (same_complete past task)) (image_same past task now)

  completes_same : (past : Past) (now task : ℕ) → complete_rows (unlined_past past) now task ≡ complete_rows past now task
  completes_same past now task = ap (λ b. if b then BackComplete (record { task = task; instant = now }) ∷ [] else [])
      (ap₂ (λ b c. b && not c) (same_complete past task) (same_was past task))

  tests_same : (past : Past) (now : ℕ) → test_rows medium (unlined_past past) now ≡ test_rows medium past now
  unfolding test_rows
  tests_same past now =
      ap (λ numbers. flat_map (segment_rows (packed medium (unlined_past past)) (unlined_past past) now) numbers
      ++ flat_map (λ task. seal_rows (image medium (unlined_past past) task now) (unlined_past past) now task
      ++ complete_rows (unlined_past past) now task) numbers) (same_numbers past)
      ∙ ap₂ (λ rows more. rows ++ more)
      (flat_map_same (segment_rows (packed medium (unlined_past past)) (unlined_past past) now) (segment_rows (packed medium past) past now)
      (segments_same past now) (task_numbers past))
      (flat_map_same (λ task. seal_rows (image medium (unlined_past past) task now) (unlined_past past) now task ++ complete_rows
      (unlined_past past) now task) (λ task. seal_rows (image medium past task now) past now task ++ complete_rows past now task)
      (λ task. ap₂ (λ rows more. rows ++ more) (seals_same past now task) (completes_same past now task)) (task_numbers past))

  followed_same : (past : Past) (deliveries : List Delivery) → AreFollowed medium past deliveries
      → AreFollowed medium (unlined_past past) deliveries
  followed_same past [] followed = tt
  followed_same past (d ∷ ds) followed = (
    followed.0 ∙ sym (ap₂ (λ rows more. rows ++ more) (findings_same past d.got) (tests_same (delivered d.got ∷ past) d.got.end)),
    followed_same (with_delivery past d) ds followed.1,
  )

  -- ---- steps

  step_same : (inputs : Inputs) (past : Past) (step : Step) → IsFullStep inputs medium past step
      → IsFullStep (unlined_inputs inputs) medium (unlined_past past) step
  step_same inputs past step full =
      let chosen = chosen_past inputs past (decision_in step) in
      let is = chosen_same inputs past (decision_in step) in
      let blocks : wanted chosen ≡ wanted (chosen_past (unlined_inputs inputs) (unlined_past past) (decision_in step)) =
      sym (ap wanted is ∙ same_wanted chosen) in
      record {
        tests = record {
          test = full.tests.test ∙ sym (ap (λ past. test_rows medium past (instant_of (decision_in step))) is
              ∙ tests_same chosen (instant_of (decision_in step)));
          followed = subst (λ past. AreFollowed medium (tested step.test ∷ past) step.deliveries) (sym is)
              (followed_same (tested step.test ∷ chosen) step.deliveries full.tests.followed);
        };
        best = subst (λ blocks. HasBestPlan inputs.disk blocks step.act) blocks full.best;
        all = full.all ∙ ap (due medium.disk (contents_at medium) step.act) blocks;
      }

  pub steps_same : (inputs : Inputs) (past : Past) (steps : List Step) → AtEach (IsFullStep inputs medium) inputs past steps
      → AtEach (IsFullStep (unlined_inputs inputs) medium) (unlined_inputs inputs) (unlined_past past) steps
  steps_same inputs past [] full = tt
  steps_same inputs past (step ∷ steps) full = (
    step_same inputs past step full.0,
    subst (λ past. AtEach (IsFullStep (unlined_inputs inputs) medium) (unlined_inputs inputs) past steps)
        (sym (after_same inputs past step)) (steps_same inputs (past_after inputs past step) steps full.1),
  )

-- ---- instants

pub instants_same : (calls : List Call)
    → map (λ (call : Call). call.instant) (map without_line calls) ≡ map (λ (call : Call). call.instant) calls
instants_same [] = refl
instants_same (call ∷ calls) = ap (λ rest. call.instant ∷ rest) (instants_same calls)
