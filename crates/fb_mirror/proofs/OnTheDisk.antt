-- The events of a full run concern sectors of its disk alone.
use Rattle.fb_mirror.proofs.Words.{ℕ, ◌+◌, ◌≤◌, List, [], ◌∷◌, length, map, Bool, true, false, sym, subst, if◌then◌else◌, AllByRecursion}
use Rattle.fb_mirror.proofs.Words.{flat_map, all_weaker, all_append, IsRising, places, Disk, Filled, ContentRun, BackRow, Got, DeliveryRow}
use Rattle.fb_mirror.proofs.Words.{Run, Call, IsAccepted, writer_of, contents_at, Medium, content, fore_row, fore_rows, medium_of, IsFull}
use Rattle.fb_mirror.proofs.Words.{Past, Inputs, served, ForegroundListsAscend, OnePlainReplay, Served, finish, IsDelivered, IsTested}
use Rattle.fb_mirror.proofs.Words.{AtEach, Delivery, Step, decision_in, step_rows, past_after, chosen_past, HasBytes, IsDueRow, due_block}
use Rattle.fb_mirror.proofs.Words.{due_bytes, delivery_true, wanted_all, IsWithin, deliveries_in, events, writes_in, sectors}
use Rattle.fb_store.proofs.Longest.{ends-runs_of-held}
use Rattle.fb_mirror.proofs.LaidBlocks.{AreLaid, LiesOn, laid_after, laid_first, laid_chosen}
use Rattle.fb_mirror.proofs.RunRows.{NoFact, RowsFit, back_fits, gots_fit_step}
use Rattle.fb_mirror.proofs.Writing.{AreServed, are_served}

-- ---- writes

write_within : (disk : Disk) (medium : Medium) (served : Served) → served.request.lbn + served.request.count ≤ length (places disk.map)
    → AllByRecursion (IsWithin (length (places disk.map))) (writes_in (fore_row medium served))
write_within disk medium served within = by served.request.write
  where
    by : (write : Bool) → AllByRecursion (IsWithin (length (places disk.map))) (if write then record {
      instant = finish served;
      contents = record { first = served.request.lbn; count = served.request.count; content = Filled (writer_of served.request.name) } ∷ [];
    } ∷ [] else [])
    by true = ((within, tt), tt)
    by false = tt

writes_within : (disk : Disk) (medium : Medium) (now : ℕ) (replay : List Served) → AreServed disk now replay
    → AllByRecursion (IsWithin (length (places disk.map))) (flat_map writes_in (map (fore_row medium) replay))
writes_within disk medium now [] are = tt
writes_within disk medium now (served ∷ replay) are =
    all_append (IsWithin (length (places disk.map))) (writes_in (fore_row medium served))
    (flat_map writes_in (map (fore_row medium) replay))
    (write_within disk medium served are.2.inside) (writes_within disk medium (finish served) replay are.3)

-- ---- deliveries

-- its runs end by the end of the disk
abbrev EndsOn : ℕ → DeliveryRow → Type 0
EndsOn end row = AllByRecursion (λ (run : ContentRun). run.first + run.count ≤ end) row.content

ends_on : (medium : Medium) (end : ℕ) (row : DeliveryRow) → HasBytes (contents_at medium) row → row.block.lbn + row.block.count ≤ end
    → EndsOn end row
ends_on medium end row bytes within = subst (AllByRecursion (λ (run : ContentRun). run.first + run.count ≤ end)) (sym bytes.content)
    (ends-runs_of-held (λ lbn. content medium lbn row.begin) row.block.lbn row.block.count end within)

deliveries_within : (end : ℕ) (rows : List BackRow) → RowsFit (EndsOn end) NoFact rows
    → AllByRecursion (IsWithin end) (flat_map deliveries_in rows)
deliveries_within end [] fit = tt
deliveries_within end (Got row ∷ rows) fit = (fit.0, deliveries_within end rows fit.1)
deliveries_within end (_ ∷ rows) fit = deliveries_within end rows fit.1

steps_within : (inputs : Inputs) (medium : Medium) → IsRising (map (λ (call : Call). call.instant) inputs.calls)
    → (past : Past) (steps : List Step) → AreLaid inputs past
    → AtEach (IsDelivered inputs medium) inputs past steps → AtEach (IsTested inputs medium) inputs past steps
    → AtEach (λ past step. RowsFit (EndsOn (sectors inputs)) NoFact (step_rows inputs.disk step)) inputs past steps
steps_within inputs medium rising past [] laid some tests = tt
steps_within inputs medium rising past (step ∷ steps) laid some tests = (
  gots_fit_step (EndsOn (sectors inputs)) inputs medium past step tests.0
      (all_weaker (IsDueRow medium.disk (contents_at medium) step.act (LiesOn inputs.disk.map)) (EndsOn (sectors inputs))
      (λ row due_row. ends_on medium (sectors inputs) row (due_bytes medium.disk (contents_at medium) step.act
      (LiesOn inputs.disk.map) row due_row) (due_block medium.disk (contents_at medium) step.act (LiesOn inputs.disk.map) row due_row))
      (map (λ (delivery : Delivery). delivery.got) step.deliveries)
      (delivery_true inputs medium past step (LiesOn inputs.disk.map) some.0
      (wanted_all (LiesOn inputs.disk.map) (chosen_past inputs past (decision_in step))
      (laid_chosen inputs rising past (decision_in step) laid).2.blocks_lie))),
  steps_within inputs medium rising (past_after inputs past step) steps (laid_after inputs rising past step laid) some.1 tests.1,
)

-- ---- the law

pub all_within : ForegroundListsAscend → OnePlainReplay → (inputs : Inputs) (run : Run) → IsAccepted inputs → IsFull inputs run
    → AllByRecursion (IsWithin (sectors inputs)) (events run)
unfolding fore_rows
all_within ascend one inputs run accepted full =
    let end = sectors inputs in
    let medium = medium_of inputs in
    let rows = back_fits (EndsOn end) NoFact inputs run full.steps full.sound
    (steps_within inputs medium accepted.instants [] full.steps (laid_first inputs accepted) full.sound.deliveries full.sound.tested) in
    all_append (IsWithin end) (flat_map writes_in run.fore) (flat_map deliveries_in run.back)
    (subst (λ rows. AllByRecursion (IsWithin end) (flat_map writes_in rows)) (sym full.sound.fore)
    (writes_within inputs.disk medium 0 (served inputs) (are_served inputs accepted ascend one)))
    (deliveries_within end run.back rows)
