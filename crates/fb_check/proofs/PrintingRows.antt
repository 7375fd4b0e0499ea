-- Each delivery of a full run has a sector, and each sealed image fewer than 2^64.
use Rattle.fb_check.proofs.Words.{◌≡◌, ℕ, List, [], ◌∷◌, true, sym, subst, arith, not, AllByRecursion, flat_map, and_parts, all_append}
use Rattle.fb_check.proofs.Words.{is_backup, Block, Inputs, IsAccepted, Medium, medium_of, contents_at, Past, terms_of, blocks_of, Step}
use Rattle.fb_check.proofs.Words.{decision_in, step_rows, history, Seal}
use Rattle.std.specs.Prelude.{filter, map}
use Rattle.fb_units.proofs.Lists.{all_weaker}
use Rattle.fb_wanted.specs.States.{is_delivered}
use Rattle.fb_rows.specs.declared.back.DeliveryRow.{DeliveryRow}
use Rattle.fb_model.specs.Deliveries.{due}
use Rattle.fb_model.specs.Decisions.{instant_of}
use Rattle.fb_model.specs.History.{wanted, is_sealed, is_open_backup}
use Rattle.fb_model.specs.Completion.{work}
use Rattle.fb_model.specs.Images.{image}
use Rattle.fb_model.specs.Steps.{chosen_past, past_after, AtEach}
use Rattle.fb_model.specs.SoundRun.{IsTested}
use Rattle.fb_model.specs.FullRun.{IsAllDelivered}
use Rattle.fb_model.proofs.Due.{HasBytes, IsDueRow, due_block, due_bytes, due_true, wanted_all}
use Rattle.fb_model.proofs.Cuts.{HasSector}
use Rattle.fb_model.proofs.EachRow.{RowsHave, AnyEnds, any_linked, step_has, steps_have, tasks_have}
use Rattle.fb_model.proofs.Histories.{chosen_holds, after_holds}
use Rattle.fb_report.specs.Printed.{HasSectors, CountsSectors}
use Rattle.fb_check.specs.Printing.{RunsCanBePrinted}
use Rattle.fb_check.proofs.PrintingSectors.{runs_have, contents_have, some_have, blocks_have}
use Rattle.fb_check.proofs.PrintingHistories.{Holds, HoldsOf, at_first, holds_kept}
use Rattle.fb_check.proofs.PrintingReads.{reads_have}

-- ---- deliveries

bytes_some : (medium : Medium) (got : DeliveryRow) → HasBytes (contents_at medium) got → HasSector got.block → HasSectors got.content
bytes_some medium got bytes some =
    subst HasSectors (sym bytes.content) (omega (
      arith,
      some,
      runs_have (contents_at medium got.block.lbn got.block.count got.begin),
      contents_have medium got.block.lbn got.block.count got.begin,
    ))

-- ---- what rows have

module _ (inputs : Inputs) where
  abbrev medium : Medium
  medium = medium_of inputs

  gots_some : (past : Past) (step : Step) → HoldsOf inputs (chosen_past inputs past (decision_in step))
      → IsAllDelivered inputs medium past step
      → AllByRecursion (λ (got : DeliveryRow). HasSectors got.content) (map (λ delivery. delivery.got) step.deliveries)
  gots_some past step h all =
      let chosen = chosen_past inputs past (decision_in step) in
      subst (AllByRecursion (λ (got : DeliveryRow). HasSectors got.content)) (sym all)
      (all_weaker (IsDueRow medium.disk (contents_at medium) step.act HasSector) (λ got. HasSectors got.content)
      (λ got is_due. bytes_some medium got (due_bytes medium.disk (contents_at medium) step.act HasSector got is_due)
      (due_block medium.disk (contents_at medium) step.act HasSector got is_due))
      (due medium.disk (contents_at medium) step.act (wanted chosen))
      (due_true medium.disk (contents_at medium) step.act HasSector (wanted chosen) (wanted_all HasSector chosen h.1)))

  seal_counts : (past : Past) (now task : ℕ) → HoldsOf inputs past → is_open_backup past task ≡ true
      → CountsSectors (Seal (record { task = task; instant = now; content = image medium past task now }))
  seal_counts past now task h is_open =
      let is_delivered = λ (block : Block). is_delivered ((work past task).bare block) in
      let blocks = filter is_delivered (blocks_of past task) in
      let backup = and_parts (is_backup (terms_of past task).kind) (not (is_sealed past task)) is_open in
      let few = (h.2.backups task backup.0).few in
      omega (
        arith,
        few,
        some_have is_delivered (blocks_of past task),
        blocks_have medium now blocks,
        runs_have (flat_map (λ (block : Block). contents_at medium block.lbn block.count now) blocks),
        inputs.disk.few_blocks,
      )

  rows_count : RowsHave medium CountsSectors (λ now past. HoldsOf inputs past) AnyEnds
  rows_count = record {
    test = λ now past h. record {
      segments = λ task choice opened. tt;
      seals = λ task opened is_open done. seal_counts past now task h is_open;
      completes = λ task opened. tt;
    };
    finds = λ row lbn got. tt;
    delivers = λ now past row h got linked. h;
    tests = λ now past rows h. h;
  }

  -- ---- the rows of decisions

  module _ (accepted : IsAccepted inputs) where
    steps_count : (past : Past) (list : List Step) → HoldsOf inputs past → AtEach (IsTested inputs medium) inputs past list
        → AtEach (IsAllDelivered inputs medium) inputs past list
        → AtEach (λ past step. AllByRecursion CountsSectors (step_rows inputs.disk step)) inputs past list
    steps_count past [] h tests all = tt
    steps_count past (step ∷ list) h tests all =
        let disk = inputs.disk.map in
        let chosen = chosen_holds inputs (Holds disk) (holds_kept disk) accepted.instants past (decision_in step) h in (
          step_has medium CountsSectors (λ now past. HoldsOf inputs past) AnyEnds rows_count inputs past step chosen tests.0
              (λ row. tt) (λ dwell. tt) (gots_some past step chosen all.0)
              (any_linked (instant_of (decision_in step)) (map (λ delivery. delivery.got) step.deliveries)),
          steps_count (past_after inputs past step) list (after_holds inputs (Holds disk) (holds_kept disk) past step chosen)
              tests.1 all.1,
        )

pub can_be_printed : RunsCanBePrinted
can_be_printed inputs run accepted full =
    let list = full.steps in
    let rows = flat_map (step_rows inputs.disk) list in
    let sound = full.sound in (
      subst (AllByRecursion _) (sym sound.fore) (reads_have inputs accepted),
      subst (AllByRecursion CountsSectors) (sym sound.back)
          (all_append CountsSectors rows sound.tasks (steps_have CountsSectors inputs [] list
          (steps_count inputs accepted [] list (at_first inputs accepted) sound.tested full.all))
          (subst (AllByRecursion CountsSectors) (sym sound.counted)
          (tasks_have CountsSectors (history inputs list) (λ task opened. tt)))),
    )
