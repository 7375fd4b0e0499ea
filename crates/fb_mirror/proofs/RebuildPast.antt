-- The history of a rebuild: its two calls, and then nothing but deliveries, tests and finished requests.
use Rattle.fb_mirror.proofs.Words.{◌≡◌, ◌⊎◌, ◌<◌, ℕ, zero, suc, ◌+◌, List, [], ◌∷◌, ◌++◌, length, map, drop, Some, Bool, true, false, refl}
use Rattle.fb_mirror.proofs.Words.{ap, sym, subst, ◌∙◌, arith, inl, inr, nat_le, filter, nat_lt, ◌&&◌, ◌==◌, not, if◌then◌else◌}
use Rattle.fb_mirror.proofs.Words.{AllByRecursion, fold, list_all, range_with_len, slice_index_or, cases_Bool, true≢false, eqb-true}
use Rattle.fb_mirror.proofs.Words.{same_Some, Among, all_unmapped, all_weaker, by_is, Shape, places, Cut, cutting, Open, Want, Call}
use Rattle.fb_mirror.proofs.Words.{Backup, Plain, is_clean, Terms, Block, DeliveryRow, Inputs, Decision, instant_of, tested, delivered}
use Rattle.fb_mirror.proofs.Words.{Past, blocks_of, calls_of, is_open_backup, registered, tasks, terms_of, wanted, is_complete, segments}
use Rattle.fb_mirror.proofs.Words.{work, numbered, Delivery, Step, decision_in, past_after, chosen_past, take_call, rebuild_calls}
use Rattle.fb_mirror.proofs.Words.{wanted_all}
use Rattle.std.specs.Prelude.{slice_get}
use Rattle.std.proofs.lemmas.Bool.{and_parts}
use Rattle.fb_units.proofs.Each.{all_with, list_all_each}
use Rattle.fb_units.proofs.Lists.{all_from_index}
use Rattle.fb_script.specs.Sessions.{is_backup}
use Rattle.fb_wanted.specs.declared.block.State.{State}
use Rattle.fb_wanted.specs.declared.block.State.TheVariants.{Wanted, Delivered}
use Rattle.fb_wanted.specs.States.{is_delivered}
use Rattle.fb_model.specs.History.{Event, called, chose, finished, aborts, bare_state}
use Rattle.fb_model.specs.History.{is_sealed, overwrites, registers, same_block, state_after_event}
use Rattle.fb_model.specs.Completion.{is_complete_as, is_closed, is_over, own_of}
use Rattle.fb_model.specs.Segments.{choose_in, choose_up_to, with_choices}
use Rattle.fb_model.specs.Steps.{calls_due}
use Rattle.fb_model.proofs.Cuts.{cuts_have_sectors, blocks_have_sectors}
use Rattle.fb_model.proofs.Events.{by_step}

-- the blocks of the whole disk
abbrev pub disk_blocks : Shape → List Block
disk_blocks disk = numbered 0 1 0 (cutting disk 16 0 (length (places disk)))

abbrev open_call : Call
open_call = record { line = 1; instant = 0; task = 0; action = Open Backup 1 16 }

abbrev want_call : Shape → Call
want_call disk = record { line = 2; instant = 0; task = 0; action = Want 0 (length (places disk)) }

-- the calls have taken effect
abbrev pub begun : Shape → Past
begun disk = called (want_call disk) (disk_blocks disk) ∷ called open_call [] ∷ []

abbrev backup_terms : Terms
backup_terms = record { kind = Backup; weight = 1; block = 16 }

-- no call and no choice; a delivery has a property
abbrev pub IsQuiet : (DeliveryRow → Type 0) → Event → Type 0
IsQuiet P (called call blocks) = ⊥
IsQuiet P (chose task segment blocks) = ⊥
IsQuiet P (tested rows) = Unit {0}
IsQuiet P (delivered row) = P row
IsQuiet P (finished request) = Unit {0}

abbrev AreQuiet : (DeliveryRow → Type 0) → Past → Type 0
AreQuiet P events = AllByRecursion (IsQuiet P) events

pub record IsRebuilding (P : DeliveryRow → Type 0) (disk : Shape) (past : Past) : Type 0 where
  pub events : Past
  pub is : past ≡ events ++ begun disk
  pub quiet : AreQuiet P events

pub rebuilding_more : (P : DeliveryRow → Type 0) (disk : Shape) (past : Past) (event : Event) → IsRebuilding P disk past → IsQuiet P event
    → IsRebuilding P disk (event ∷ past)
rebuilding_more P disk past event is quiet =
    record { events = event ∷ is.events; is = ap (λ events. event ∷ events) is.is; quiet = (quiet, is.quiet) }

quiet_weaker : (P Q : DeliveryRow → Type 0) → ((row : DeliveryRow) → P row → Q row) → (event : Event) → IsQuiet P event → IsQuiet Q event
quiet_weaker P Q more (delivered row) quiet = more row quiet
quiet_weaker P Q more _ quiet = quiet

pub rebuilding_weaker : (P Q : DeliveryRow → Type 0) (disk : Shape) (past : Past) → ((row : DeliveryRow) → P row → Q row)
    → IsRebuilding P disk past → IsRebuilding Q disk past
rebuilding_weaker P Q disk past more is =
    record { events = is.events; is = is.is; quiet = all_weaker (IsQuiet P) (IsQuiet Q) (quiet_weaker P Q more) is.events is.quiet }

-- ---- its task and its blocks

module _ (P : DeliveryRow → Type 0) (disk : Shape) where
  -- quiet events leave the task, its blocks and the calls as they began
  kept_then : (events : Past) → AreQuiet P events
      → (tasks (events ++ begun disk) ≡ backup_terms ∷ []) × (registered (events ++ begun disk) ≡ disk_blocks disk)
      × (length (calls_of (events ++ begun disk)) ≡ 2)
  kept_then [] quiet = (refl, refl, refl)
  kept_then (called call blocks ∷ events) quiet = absurd quiet.0
  kept_then (chose task segment blocks ∷ events) quiet = absurd quiet.0
  kept_then (_ ∷ events) quiet = kept_then events quiet.1

  module _ (past : Past) (is : IsRebuilding P disk past) where
    task_is : tasks past ≡ backup_terms ∷ []
    task_is = ap tasks is.is ∙ (kept_then is.events is.quiet).0

    blocks_are : registered past ≡ disk_blocks disk
    blocks_are = ap registered is.is ∙ (kept_then is.events is.quiet).1

    taken_are : length (calls_of past) ≡ 2
    taken_are = ap (λ past. length (calls_of past)) is.is ∙ (kept_then is.events is.quiet).2

-- ---- decisions

no_choice : (disk : Shape) (past : Past) → tasks past ≡ backup_terms ∷ [] → with_choices disk past ≡ past
unfolding with_choices
no_choice disk past are =
    ap (λ tasks. fold (choose_in disk) past (range_with_len 0 (length tasks))) are
    ∙ ap (λ (tasks : List Terms). if is_clean (slice_index_or tasks 0 (record { kind = Plain; weight = 1; block = 1 })).kind
    && not (is_closed past 0) then choose_up_to (length (segments past 0)) disk 0 past else past) are

-- both calls are due from the beginning
both_due : (disk : Shape) (now : ℕ) → filter (λ (call : Call). nat_le call.instant now) (rebuild_calls disk) ≡ rebuild_calls disk
both_due disk now = rw (by_is 0 now (omega arith)) refl

first_chosen : (inputs : Inputs) (decision : Decision) → inputs.calls ≡ rebuild_calls inputs.disk.map
    → chosen_past inputs [] decision ≡ begun inputs.disk.map
unfolding chosen_past
first_chosen inputs decision calls =
    ap (λ calls. with_choices inputs.disk.map (fold (take_call inputs.disk.map) [] (calls_due calls [] (instant_of decision)))) calls
    ∙ ap (λ calls. with_choices inputs.disk.map (fold (take_call inputs.disk.map) [] calls))
    (both_due inputs.disk.map (instant_of decision))
    ∙ no_choice inputs.disk.map (begun inputs.disk.map) refl

none_due : (disk : Shape) (past : Past) (now : ℕ) → length (calls_of past) ≡ 2 → calls_due (rebuild_calls disk) past now ≡ []
none_due disk past now taken = ap (λ n. filter (λ (call : Call). nat_le call.instant now) (drop n (rebuild_calls disk))) taken

module _ (P : DeliveryRow → Type 0) (inputs : Inputs) (calls : inputs.calls ≡ rebuild_calls inputs.disk.map) where
  still_chosen : (past : Past) (decision : Decision) → IsRebuilding P inputs.disk.map past → chosen_past inputs past decision ≡ past
  unfolding chosen_past
  still_chosen past decision is =
      ap (λ calls. with_choices inputs.disk.map (fold (take_call inputs.disk.map) past (calls_due calls past (instant_of decision)))) calls
      ∙ ap (λ due. with_choices inputs.disk.map (fold (take_call inputs.disk.map) past due))
      (none_due inputs.disk.map past (instant_of decision) (taken_are P inputs.disk.map past is))
      ∙ no_choice inputs.disk.map past (task_is P inputs.disk.map past is)

  -- nothing has happened, or the calls have taken effect
  abbrev pub IsUnderWay : Past → Type 0
  IsUnderWay past = (past ≡ []) ⊎ IsRebuilding P inputs.disk.map past

  pub chosen_rebuilds : (past : Past) (decision : Decision) → IsUnderWay past
      → IsRebuilding P inputs.disk.map (chosen_past inputs past decision)
  chosen_rebuilds past decision (inl none) =
      record { events = []; is = ap (λ past. chosen_past inputs past decision) none ∙ first_chosen inputs decision calls; quiet = tt }
  chosen_rebuilds past decision (inr is) = subst (IsRebuilding P inputs.disk.map) (sym (still_chosen past decision is)) is

  pub after_rebuilds : (past : Past) (step : Step) → IsUnderWay past
      → AllByRecursion P (map (λ (delivery : Delivery). delivery.got) step.deliveries)
      → IsRebuilding P inputs.disk.map (past_after inputs past step)
  after_rebuilds past step is each =
      let disk = inputs.disk.map in
      by_step (IsRebuilding P disk) P (λ past rows is. rebuilding_more P disk past (tested rows) is tt)
      (λ past row have is. rebuilding_more P disk past (delivered row) is have)
      (λ past request is. rebuilding_more P disk past (finished request) is tt) inputs past step
      (all_unmapped P (λ (delivery : Delivery). delivery.got) step.deliveries each) (chosen_rebuilds past (decision_in step) is)

-- ---- blocks by their numbers

pub disk_ones : (disk : Shape) → AllByRecursion (Among (disk_blocks disk)) (disk_blocks disk)
disk_ones disk = all_from_index (Among (disk_blocks disk)) (disk_blocks disk) (λ i block at. (i, at))

-- each has a sector
pub disk_some : (disk : Shape) → AllByRecursion (λ (block : Block). 0 < block.count) (disk_blocks disk)
disk_some disk = blocks_have_sectors 0 1 0 (cutting disk 16 0 (length (places disk))) (cuts_have_sectors disk 16 0 (length (places disk)))

-- what the blocks of the disk have, the wanted ones have
pub wanted_have : (P : DeliveryRow → Type 0) (disk : Shape) (past : Past) (Q : Block → Type 0) → IsRebuilding P disk past
    → AllByRecursion Q (disk_blocks disk) → AllByRecursion Q (wanted past)
wanted_have P disk past Q is all = wanted_all Q past (subst (AllByRecursion Q) (sym (blocks_are P disk past is)) all)

numbered_at : (task weight n : ℕ) (cuts : List Cut) (i : ℕ) (block : Block) → slice_get (numbered task weight n cuts) i ≡ Some block
    → (block.task ≡ task) × (block.index ≡ n + i)
numbered_at task weight n [] i block at = absurd (grind arith)
numbered_at task weight n (cut ∷ cuts) zero block at =
    let same = some_is at in
    (sym (ap (λ (b : Block). b.task) same), omega (arith, ap (λ (b : Block). b.index) same))
  where
    some_is : {a b : Block} → Some a ≡ Some b → a ≡ b
    some_is e = grind arith
numbered_at task weight n (cut ∷ cuts) (suc i) block at = let rest = numbered_at task weight (n + 1) cuts i block at in
    (rest.0, omega (arith, rest.1))

-- blocks of a number are the same
one_number : (disk : Shape) (a b : Block) → Among (disk_blocks disk) a → Among (disk_blocks disk) b → same_block a b ≡ true → a ≡ b
one_number disk a b is_a is_b same =
    let cuts = cutting disk 16 0 (length (places disk)) in
    let number = eqb-true a.index b.index (and_parts (a.task == b.task) (a.index == b.index) same).1 in
    let place : is_a.0 ≡ is_b.0 =
    omega (arith, (numbered_at 0 1 0 cuts is_a.0 a is_a.1).1, (numbered_at 0 1 0 cuts is_b.0 b is_b.1).1, number) in
    same_Some a b (sym is_a.1 ∙ ap (slice_get (disk_blocks disk)) place ∙ is_b.1)

-- ---- a complete rebuild has delivered each block

abbrev HasRow : (DeliveryRow → Type 0) → Block → Type 0
HasRow P block = (row : DeliveryRow) × P row × (same_block row.block block ≡ true)

module _ (P : DeliveryRow → Type 0) (disk : Shape) (block : Block) where
  still_wanted : (past : Past) (call : Call) (blocks : List Block) → aborts (called call blocks) block ≡ false
      → state_after_event past (called call blocks) block Wanted ≡ Wanted
  still_wanted past call blocks none = elim (cases_Bool (registers (called call blocks) block)) [
    | inl here ↦ rw here refl
    | inr other ↦ rw (other, none) refl
  ]

  never : (b : Bool) → (b && false) ≡ false
  never true = refl
  never false = refl

  begun_wanted : bare_state (begun disk) block ≡ Wanted
  unfolding bare_state
  begun_wanted =
      ap (state_after_event (called open_call [] ∷ []) (called (want_call disk) (disk_blocks disk)) block)
      (still_wanted [] open_call [] (never (0 == block.task)))
      ∙ still_wanted (called open_call [] ∷ []) (want_call disk) (disk_blocks disk) (never (0 == block.task))

  over_if : (again : Bool) (before : State) → is_over (if again then Wanted else before) ≡ true → is_over before ≡ true
  over_if true before over = absurd (true≢false (sym over))
  over_if false before over = over

  has_row : (events : Past) → AreQuiet P events → is_over (bare_state (events ++ begun disk) block) ≡ true → HasRow P block
  unfolding bare_state
  has_row [] quiet over = absurd (true≢false (sym over ∙ ap is_over begun_wanted))
  has_row (called call blocks ∷ events) quiet over = absurd quiet.0
  has_row (chose task segment blocks ∷ events) quiet over = absurd quiet.0
  has_row (tested rows ∷ events) quiet over = has_row events quiet.1 over
  has_row (delivered row ∷ events) quiet over = elim (cases_Bool (same_block row.block block)) [
    | inl here ↦ (row, quiet.0, here)
    | inr other ↦
        has_row events quiet.1 (subst (λ b. is_over (if b then Delivered else bare_state (events ++ begun disk) block) ≡ true) other over)
  ]
  has_row (finished request ∷ events) quiet over = has_row events quiet.1
      (over_if (overwrites (finished request) block && is_delivered (bare_state (events ++ begun disk) block)
      && is_open_backup (events ++ begun disk) block.task) (bare_state (events ++ begun disk) block) over)

complete_over : (past : Past) → tasks past ≡ backup_terms ∷ [] → is_complete past 0 ≡ true
    → list_all (λ block. is_over (bare_state past (own_of 0 block))) (blocks_of past 0) ≡ true
unfolding is_complete
complete_over past are done =
    let as_backup : is_complete_as (work past 0) Backup ≡ true = subst (λ (tasks : List Terms).
    is_complete_as (work past 0) (slice_index_or tasks 0 (record { kind = Plain; weight = 1; block = 1 })).kind ≡ true) are done in
    (and_parts (nat_lt 0 (length (blocks_of past 0)))
    (list_all (λ block. is_over (bare_state past (own_of 0 block))) (blocks_of past 0)) as_backup).1

own_blocks : (weight n : ℕ) (cuts : List Cut)
    → filter (λ (block : Block). block.task == 0) (numbered 0 weight n cuts) ≡ numbered 0 weight n cuts
own_blocks weight n [] = refl
own_blocks weight n (cut ∷ cuts) = ap (λ blocks. record {
  task = 0;
  index = n;
  lbn = cut.lbn;
  count = cut.count;
  track = cut.track;
  weight = weight;
  sweep = cut.sweep;
} ∷ blocks) (own_blocks weight (n + 1) cuts)

all_passed : (test : Block → Bool) (Q : Block → Type 0) (blocks : List Block)
    → ((block : Block) → Among blocks block → test block ≡ true → Q block) → list_all test blocks ≡ true → AllByRecursion Q blocks
all_passed test Q blocks each passed = all_with (Among blocks) (λ block. test block ≡ true) Q each blocks
    (all_from_index (Among blocks) blocks (λ i block at. (i, at))) (list_all_each test blocks passed)

-- the only task is the backup
only_task : (past : Past) (task : ℕ) → tasks past ≡ backup_terms ∷ [] → is_open_backup past task ≡ true → task ≡ 0
only_task past task are unsealed =
    let backup = (and_parts (is_backup (terms_of past task).kind) (not (is_sealed past task)) unsealed).0 in
    by task (subst
    (λ (tasks : List Terms). is_backup (slice_index_or tasks task (record { kind = Plain; weight = 1; block = 1 })).kind ≡ true) are backup)
  where
    by : (n : ℕ) → is_backup (slice_index_or (backup_terms ∷ []) n (record { kind = Plain; weight = 1; block = 1 })).kind ≡ true → n ≡ 0
    by zero h = refl
    by (suc n) h = absurd (true≢false (sym h))

-- where it is complete, each block of the disk was delivered
pub complete_delivered : (P : DeliveryRow → Type 0) (disk : Shape) (past : Past) (task : ℕ)
    → ((row : DeliveryRow) → P row → Among (disk_blocks disk) row.block) → IsRebuilding P disk past → is_open_backup past task ≡ true
    → is_complete past task ≡ true
    → AllByRecursion (λ block. (row : DeliveryRow) × P row × (row.block ≡ block)) (disk_blocks disk)
complete_delivered P disk past task known is unsealed done =
    let are = task_is P disk past is in
    let cuts = cutting disk 16 0 (length (places disk)) in
    let over = complete_over past are (subst (λ t. is_complete past t ≡ true) (only_task past task are unsealed) done) in
    let blocks : blocks_of past 0 ≡ disk_blocks disk = ap (filter (λ (block : Block). block.task == 0)) (blocks_are P disk past is)
    ∙ own_blocks 1 0 cuts in
    all_passed (λ block. is_over (bare_state past (own_of 0 block))) (λ block. (row : DeliveryRow) × P row × (row.block ≡ block))
    (disk_blocks disk)
    (λ block there is_over_now.
    let own : own_of 0 block ≡ block = ap (λ t. own_of t block) (sym (numbered_at 0 1 0 cuts there.0 block there.1).0) in
    let found = has_row P disk block is.events is.quiet
    (ap is_over (ap (λ past. bare_state past block) (sym is.is) ∙ ap (bare_state past) (sym own)) ∙ is_over_now) in
    (found.0, found.1, one_number disk found.0.block block (known found.0 found.1) there found.2))
    (subst (λ blocks. list_all (λ block. is_over (bare_state past (own_of 0 block))) blocks ≡ true) blocks over)
