-- The tasks of a run's background rows are the script's.
use Rattle.fb_decide.proofs.Words.{◌≡◌, ℕ, ◌<◌, ◌≤◌, List, ◌∷◌, length, map, take, drop, ap, sym, subst, ◌∙◌, arith, AllByRecursion}
use Rattle.fb_decide.proofs.Words.{length-append, flat_map-append, all_left, all_weaker, all_any, Shape, Call, Block, Entry, DeliveryRow}
use Rattle.fb_decide.proofs.Words.{Inputs, Medium, medium_of, contents_at, due, IsDueRow, due_block, due_true, wanted_all, instant_of, Act}
use Rattle.fb_decide.proofs.Words.{Event, delivered, finished, tested, Past, tasks, registered, registered_by, wanted, Delivery, Step}
use Rattle.fb_decide.proofs.Words.{decision_in, chosen_past, past_after, step_rows, task_rows, Session, Tells, IsBlockOf, calls_of}
use Rattle.fb_decide.proofs.Words.{HasTaskBelow, IsMade}
use Rattle.std.proofs.lemmas.List.{take-append-drop}
use Rattle.fb_script.specs.Allowed as allowed
use Rattle.fb_model.proofs.EachRow.{RowsHave, AnyEnds, any_linked, step_has, tasks_have}
use Rattle.fb_model.proofs.Events.{by_step}
use Rattle.fb_model.proofs.Histories.{opened_same}
use Rattle.fb_decide.proofs.RegisteredBlocks.{registered_after, tasks_more}

-- ---- rows and histories

-- the task of a block is one of the first n
abbrev pub BlockFits : ℕ → Block → Type 0
BlockFits n block = block.task < n

-- so are those of a history's blocks, and no more tasks were opened
pub record PastFits (n : ℕ) (past : Past) : Type 0 where
  pub blocks : AllByRecursion (BlockFits n) (registered past)
  pub few : length (tasks past) ≤ n

module _ (n : ℕ) where
  fits_before : (past : Past) (event : Event) → PastFits n (event ∷ past) → PastFits n past
  fits_before past event fits = record {
    blocks = all_left (BlockFits n) (registered past) (registered_by event) (subst (AllByRecursion (BlockFits n))
        (registered_after past event) fits.blocks);
    few = (let few = fits.few in omega (arith, few, tasks_more past event));
  }

  fits_chosen : (inputs : Inputs) (past : Past) (step : Step) → PastFits n (past_after inputs past step)
      → PastFits n (chosen_past inputs past (decision_in step))
  fits_chosen inputs past step =
      let chosen = chosen_past inputs past (decision_in step) in
      by_step (λ past. PastFits n past → PastFits n chosen) (λ row. Unit {0})
      (λ past rows before fits. before (fits_before past (tested rows) fits))
      (λ past row any before fits. before (fits_before past (delivered row) fits))
      (λ past request before fits. before (fits_before past (finished request) fits)) inputs past step
      (all_any (λ (d : Delivery). Unit {0}) (λ d. tt) step.deliveries) (λ fits. fits)

  -- ---- rows

  fits_kept : (medium : Medium) → RowsHave medium (HasTaskBelow n) (λ now past. PastFits n past) AnyEnds
  fits_kept medium = record {
    test = λ now past fits. let few = fits.few in record {
      segments = λ task choice opened. omega (arith, opened, few);
      seals = λ task opened is_open done. omega (arith, opened, few);
      completes = λ task opened. omega (arith, opened, few);
    };
    finds = λ row lbn got. got;
    delivers = λ now past row fits got linked. record { blocks = fits.blocks; few = fits.few };
    tests = λ now past rows fits. record { blocks = fits.blocks; few = fits.few };
  }

  -- a delivery likewise
  abbrev pub GotFits : DeliveryRow → Type 0
  GotFits got = got.block.task < n

  due_fits : (medium : Medium) (act : Act) (blocks : List Block) → AllByRecursion (BlockFits n) blocks
      → AllByRecursion GotFits (due medium.disk (contents_at medium) act blocks)
  due_fits medium act blocks all = all_weaker (IsDueRow medium.disk (contents_at medium) act (BlockFits n)) GotFits
      (due_block medium.disk (contents_at medium) act (BlockFits n)) (due medium.disk (contents_at medium) act blocks)
      (due_true medium.disk (contents_at medium) act (BlockFits n) blocks all)

  pub step_fits : (inputs : Inputs) (past : Past) (step : Step) → IsMade inputs past step → PastFits n (past_after inputs past step)
      → AllByRecursion (HasTaskBelow n) (step_rows inputs.disk step)
  step_fits inputs past step made fits =
      let medium = medium_of inputs in
      let chosen = chosen_past inputs past (decision_in step) in
      let chosen_fits = fits_chosen inputs past step fits in
      step_has medium (HasTaskBelow n) (λ now past. PastFits n past) AnyEnds (fits_kept medium) inputs past step chosen_fits made.tested
      (λ row. tt) (λ dwell. tt)
      (subst (AllByRecursion GotFits) (sym made.all) (due_fits medium step.act (wanted chosen) (wanted_all (BlockFits n) chosen chosen_fits.blocks)))
      (any_linked (instant_of (decision_in step)) (map (λ delivery. delivery.got) step.deliveries))

  pub tasks_fit : (past : Past) → PastFits n past → AllByRecursion (HasTaskBelow n) (task_rows past)
  tasks_fit past fits = tasks_have (HasTaskBelow n) past (λ task opened. let few = fits.few in omega (arith, opened, few))

-- ---- of a history that is told

-- its tasks are the script's
few_tasks : (calls : List Call) (past : Past) (next : ℕ) → calls_of past ≡ take next calls
    → length (tasks past) ≤ length (allowed.tasks calls)
few_tasks calls past next taken = omega (
  arith,
  ap length (sym (opened_same past) ∙ ap allowed.tasks taken),
  length-append (allowed.tasks (take next calls)) (allowed.tasks (drop next calls)),
  ap length (sym (flat_map-append (λ (call : Call). allowed.terms_in call.action) (take next calls) (drop next calls))),
  ap (λ calls. length (allowed.tasks calls)) (take-append-drop next calls),
)

pub fits-told : (disk : Shape) (calls : List Call) (past : Past) (next : ℕ) (sessions : List Session) (held : List Entry)
    → Tells disk past sessions held → calls_of past ≡ take next calls → PastFits (length (allowed.tasks calls)) past
fits-told disk calls past next sessions held tells taken =
    let few = few_tasks calls past next taken in
    record {
      blocks = all_weaker (IsBlockOf disk (length (tasks past))) (BlockFits (length (allowed.tasks calls)))
          (λ block h. let task = h.task in omega (arith, task, few)) (registered past) tells.on_disk;
      few = few;
    }
