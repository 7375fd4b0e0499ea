-- What an answer unfolds to compute a run on a small disk, and a short word for a delivery.
use Rattle.std.specs.Prelude.{⊤, List}
use Rattle.fb_geometry.specs.Places.{places}
use Rattle.fb_sectormap.specs.LookUp.{place_at}
use Rattle.fb_sectormap.specs.Sweeps.{sweep_of}
use Rattle.fb_sectormap.specs.Cutting.{cutting}
use Rattle.fb_seek.specs.Positioning.{pos}
use Rattle.fb_service.specs.Passing.{begin_from}
use Rattle.fb_service.specs.Service.{passages}
use Rattle.fb_rows.specs.declared.back.BackRow.{BackRow}
use Rattle.fb_rows.specs.declared.back.DeliveryRow.{DeliveryRow}
use Rattle.fb_model.specs.PlainReplay.{plain}
use Rattle.fb_model.specs.Inputs.{served}
use Rattle.fb_model.specs.Content.{medium_of, fore_rows}
use Rattle.fb_model.specs.Timeline.{timeline, led_to}
use Rattle.fb_model.specs.Plans.{value}
use Rattle.fb_model.specs.BestPlan.{best_plan}
use Rattle.fb_model.specs.TheRun.{steps_at as the_steps_at}
use Rattle.fb_model.specs.Decisions.{decisions_from, decisions}
use Rattle.fb_model.specs.History.{bare_state, wanted}
use Rattle.fb_model.specs.Completion.{is_complete}
use Rattle.fb_model.specs.Segments.{with_choices}
use Rattle.fb_model.specs.Images.{test_rows}
use Rattle.fb_model.specs.Deliveries.{caught_of, carried_of, due}
use Rattle.fb_model.specs.Steps.{Delivery, chosen_past, past_after, task_rows}
use Rattle.by_hand.specs.SmallDisk.{small_disk, quick_disk, uneven_disk, one_sector_disk, skewed_disk, turned_disk, slipped_disk}
use Rattle.by_hand.specs.SmallDisk.{remapped_disk}

unfoldable pub on_small_disks : ⊤
unfolding places place_at sweep_of cutting pos begin_from passages plain served medium_of fore_rows timeline led_to value best_plan the_steps_at decisions_from decisions bare_state wanted is_complete with_choices test_rows caught_of carried_of due chosen_past past_after task_rows small_disk quick_disk uneven_disk one_sector_disk skewed_disk turned_disk slipped_disk remapped_disk
on_small_disks = tt

-- a delivery and the rows that follow it
abbrev pub with_rows : DeliveryRow → List BackRow → Delivery
with_rows row rows = record { got = row; after = rows }
