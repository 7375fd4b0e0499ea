-- Wrong runs, refuted.
use Rattle.std.proofs.Common.{◌++◌, length-append, ◌≡◌, ℕ, List, [], ◌∷◌, refl, lit≤, false, map, length, ◌≤◌, ap, true≢false, arith, suc}
use Rattle.std.proofs.Common.{subst, sym}
use Rattle.std.specs.Option.{is_none}
use Rattle.fb_units.proofs.Lists.{not_none, same_first, same_rest}
use Rattle.fb_script.specs.declared.call.Kind.TheVariants.{Plain}
use Rattle.fb_store.specs.declared.content.Content.{Content}
use Rattle.fb_store.specs.declared.content.Content.TheVariants.{Filled, Unreadable}
use Rattle.fb_store.specs.declared.content.ContentRun.{ContentRun}
use Rattle.fb_rows.specs.declared.gap.Dwell.{Dwell}
use Rattle.fb_rows.specs.declared.gap.Plan.TheVariants.{Detour}
use Rattle.fb_rows.specs.declared.gap.How.TheVariants.{Idle as ByIdle}
use Rattle.fb_rows.specs.declared.fore.ForeRow.{ForeRow}
use Rattle.fb_rows.specs.declared.back.DeliveryRow.{DeliveryRow}
use Rattle.fb_rows.specs.declared.back.BackRow.{BackRow}
use Rattle.fb_rows.specs.declared.back.BackRow.TheVariants.{Got as BackGot}
use Rattle.fb_model.specs.Plans.{IsPlan}
use Rattle.fb_model.specs.Decisions.{Decision, serves, idles, Act, serving, idling, ending}
use Rattle.fb_model.specs.Steps.{Delivery, Step, decisions_in}
use Rattle.fb_model.specs.SoundRun.{IsSublist, none, left_out, taken, IsSoundBy, IsSound, Throughout}
use Rattle.fb_model.specs.FullRun.{IsFull, IsAllDelivered}
use Rattle.by_hand.specs.Rows.{at, untouched, block, got, done_row, task_row}
use Rattle.by_hand.specs.SmallDisk.{small_disk}
use Rattle.by_hand.specs.Wrong.{delivered_too_late, delivered_twice, delivered_after_abort, completion_left_out, delivery_left_out}
use Rattle.by_hand.specs.Wrong.{contents_of_later, settling_gap, detour_without_settle, served_sooner}
use Rattle.by_hand.proofs.OnSmallDisks.{on_small_disks, with_rows}
use Rattle.fb_model.proofs.Steps.{is_dwelt}

-- a sublist is no longer than the list
no_longer : {A : Type 0} {xs ys : List A} → IsSublist xs ys → length xs ≤ length ys
no_longer none = lit≤ tt
no_longer (left_out p) = let few = no_longer p in omega arith
no_longer (taken p) = let few = no_longer p in omega arith

-- no deliveries, or the one that is due with the rows that follow it
pub data AtMost (row : DeliveryRow) : List Delivery → Type 0 where
  nothing : AtMost row []
  just : (after : List BackRow) → AtMost row (with_rows row after ∷ [])

at_most : {row : DeliveryRow} (deliveries : List Delivery) → IsSublist (map (λ delivery. delivery.got) deliveries) (row ∷ [])
    → AtMost row deliveries
at_most [] p = nothing
at_most (delivery ∷ []) (taken none) = just delivery.after
at_most (delivery ∷ []) (left_out p) = let few : 1 ≤ 0 = no_longer p in absurd (omega arith)
at_most (delivery ∷ other ∷ deliveries) p = let few : suc (suc (length (map (λ delivery. delivery.got) deliveries))) ≤ 1 = no_longer p in
    absurd (omega arith)

-- the first track, from the beginning until an instant
abbrev first_dwell : ℕ → Dwell
first_dwell until = record { track = at 0 0; begin = 0; end = until }

-- the head idles there
abbrev pub idle : ℕ → List BackRow → List Delivery → Step
idle until test deliveries = record { test = test; act = idling (first_dwell until); deliveries = deliveries }

-- and does nothing else
pub data OneIdle (until : ℕ) : List Step → Type 0 where
  one_idle : (test : List BackRow) (deliveries : List Delivery) → OneIdle until (idle until test deliveries ∷ [])

find_one : (until : ℕ) (steps : List Step) → decisions_in steps ≡ idles (first_dwell until) ∷ [] → OneIdle until steps
find_one until [] same = absurd (not_none _ _ (sym same))
find_one until (one ∷ []) same =
    subst (λ step. OneIdle until (step ∷ [])) (sym (is_dwelt one (first_dwell until) (same_first _ _ _ _ same)))
    (one_idle one.test one.deliveries)
find_one until (one ∷ other ∷ steps) same = absurd (not_none _ _ (same_rest _ _ _ _ same))

-- the dwell catches nothing
late_alone : (test : List BackRow) (deliveries : List Delivery)
    → IsSoundBy delivered_too_late.inputs (idle 599 test deliveries ∷ []) delivered_too_late.run → ⊥
unfolding on_small_disks
late_alone [] [] s =
    let rows : ◌≡◌ {A = ℕ} 4 (suc (length s.tasks)) = ap length s.back in
    let one : ◌≡◌ {A = ℕ} (length s.tasks) 1 = ap length s.counted in
    omega arith
late_alone [] (delivery ∷ deliveries) s =
    let few : suc (length (map (λ delivery. delivery.got) deliveries)) ≤ 0 = no_longer s.deliveries.0 in
    omega arith
late_alone (row ∷ rows) deliveries s =
    let no : ◌≡◌ {A = ℕ} (suc (length rows)) 0 = ap length s.tested.0.test in
    omega arith

late : (steps : List Step) → OneIdle 599 steps → IsSoundBy delivered_too_late.inputs steps delivered_too_late.run → ⊥
late steps (one_idle test deliveries) s = late_alone test deliveries s

pub delivered_too_late_refuted : IsSound delivered_too_late.inputs delivered_too_late.run → ⊥
unfolding on_small_disks
delivered_too_late_refuted p = late p.steps (find_one 599 p.steps p.sound.decided) p.sound

-- only one delivery is due
abbrev row_of_twice : DeliveryRow
row_of_twice = got (block 0 0 6 1 (at 0 0) 1) 600 700 ByIdle 0 (untouched 6 1 ∷ [])

twice_known : IsSoundBy delivered_twice.inputs (idle 2400 [] (with_rows row_of_twice (done_row 0 700 ∷ []) ∷ []) ∷ []) delivered_twice.run
    → ⊥
unfolding on_small_disks
twice_known s =
    let rows : ◌≡◌ {A = ℕ} 5 (suc (suc (suc (length s.tasks)))) = ap length s.back in
    let one : ◌≡◌ {A = ℕ} (length s.tasks) 1 = ap length s.counted in
    omega arith

twice_alone : (test : List BackRow) (deliveries : List Delivery) → AtMost row_of_twice deliveries
    → IsSoundBy delivered_twice.inputs (idle 2400 test deliveries ∷ []) delivered_twice.run → ⊥
unfolding on_small_disks
twice_alone [] deliveries nothing s =
    let rows : ◌≡◌ {A = ℕ} 5 (suc (length s.tasks)) = ap length s.back in
    let one : ◌≡◌ {A = ℕ} (length s.tasks) 1 = ap length s.counted in
    omega arith
twice_alone [] deliveries (just after) s =
    twice_known (subst (λ rows. IsSoundBy delivered_twice.inputs (idle 2400 [] (with_rows row_of_twice rows ∷ []) ∷ []) delivered_twice.run)
    s.tested.0.followed.0 s)
twice_alone (row ∷ rows) deliveries few s =
    let no : ◌≡◌ {A = ℕ} (suc (length rows)) 0 = ap length s.tested.0.test in
    omega arith

twice : (steps : List Step) → OneIdle 2400 steps → IsSoundBy delivered_twice.inputs steps delivered_twice.run → ⊥
unfolding on_small_disks
twice steps (one_idle test deliveries) s = twice_alone test deliveries (at_most deliveries s.deliveries.0) s

pub delivered_twice_refuted : IsSound delivered_twice.inputs delivered_twice.run → ⊥
unfolding on_small_disks
delivered_twice_refuted p = twice p.steps (find_one 2400 p.steps p.sound.decided) p.sound

-- only the block that is left is due
abbrev row_of_aborted : DeliveryRow
row_of_aborted = got (block 0 0 6 1 (at 0 0) 1) 600 700 ByIdle 0 (untouched 6 1 ∷ [])

aborted_known : IsSoundBy delivered_after_abort.inputs (idle 1200 [] (with_rows row_of_aborted (done_row 0 700 ∷ []) ∷ [])
    ∷ []) delivered_after_abort.run → ⊥
unfolding on_small_disks
aborted_known s =
    let rows : ◌≡◌ {A = ℕ} 5 (suc (suc (suc (length s.tasks)))) = ap length s.back in
    let one : ◌≡◌ {A = ℕ} (length s.tasks) 1 = ap length s.counted in
    omega arith

aborted_alone : (test : List BackRow) (deliveries : List Delivery) → AtMost row_of_aborted deliveries
    → IsSoundBy delivered_after_abort.inputs (idle 1200 test deliveries ∷ []) delivered_after_abort.run → ⊥
unfolding on_small_disks
aborted_alone [] deliveries nothing s =
    let rows : ◌≡◌ {A = ℕ} 5 (suc (length s.tasks)) = ap length s.back in
    let one : ◌≡◌ {A = ℕ} (length s.tasks) 1 = ap length s.counted in
    omega arith
aborted_alone [] deliveries (just after) s =
    aborted_known (subst (λ rows. IsSoundBy delivered_after_abort.inputs
    (idle 1200 [] (with_rows row_of_aborted rows ∷ []) ∷ []) delivered_after_abort.run) s.tested.0.followed.0 s)
aborted_alone (row ∷ rows) deliveries few s =
    let no : ◌≡◌ {A = ℕ} (suc (length rows)) 0 = ap length s.tested.0.test in
    omega arith

aborted : (steps : List Step) → OneIdle 1200 steps → IsSoundBy delivered_after_abort.inputs steps delivered_after_abort.run → ⊥
unfolding on_small_disks
aborted steps (one_idle test deliveries) s = aborted_alone test deliveries (at_most deliveries s.deliveries.0) s

pub delivered_after_abort_refuted : IsSound delivered_after_abort.inputs delivered_after_abort.run → ⊥
unfolding on_small_disks
delivered_after_abort_refuted p = aborted p.steps (find_one 1200 p.steps p.sound.decided) p.sound

-- a completion row follows the delivery
abbrev row_of_silent : DeliveryRow
row_of_silent = got (block 0 0 6 1 (at 0 0) 1) 600 700 ByIdle 0 (untouched 6 1 ∷ [])

silent_known : IsSoundBy completion_left_out.inputs (idle 1200 [] (with_rows row_of_silent (done_row 0 700 ∷ []) ∷ [])
    ∷ []) completion_left_out.run → ⊥
unfolding on_small_disks
silent_known s =
    let rows : ◌≡◌ {A = ℕ} 3 (suc (suc (suc (length s.tasks)))) = ap length s.back in
    let one : ◌≡◌ {A = ℕ} (length s.tasks) 1 = ap length s.counted in
    omega arith

silent_alone : (test : List BackRow) (deliveries : List Delivery) → AtMost row_of_silent deliveries
    → IsSoundBy completion_left_out.inputs (idle 1200 test deliveries ∷ []) completion_left_out.run → ⊥
unfolding on_small_disks
silent_alone [] deliveries nothing s =
    let rows : ◌≡◌ {A = ℕ} 3 (suc (length s.tasks)) = ap length s.back in
    let one : ◌≡◌ {A = ℕ} (length s.tasks) 1 = ap length s.counted in
    omega arith
silent_alone [] deliveries (just after) s =
    silent_known
    (subst (λ rows. IsSoundBy completion_left_out.inputs (idle 1200 [] (with_rows row_of_silent rows ∷ []) ∷ []) completion_left_out.run)
    s.tested.0.followed.0 s)
silent_alone (row ∷ rows) deliveries few s =
    let no : ◌≡◌ {A = ℕ} (suc (length rows)) 0 = ap length s.tested.0.test in
    omega arith

silent : (steps : List Step) → OneIdle 1200 steps → IsSoundBy completion_left_out.inputs steps completion_left_out.run → ⊥
unfolding on_small_disks
silent steps (one_idle test deliveries) s = silent_alone test deliveries (at_most deliveries s.deliveries.0) s

pub completion_left_out_refuted : IsSound completion_left_out.inputs completion_left_out.run → ⊥
unfolding on_small_disks
completion_left_out_refuted p = silent p.steps (find_one 1200 p.steps p.sound.decided) p.sound

-- who wrote what the second row gives, plus 1, or 0 where it isn't a delivery
abbrev writer : Content → ℕ
writer (Filled i) = i
writer Unreadable = 0

abbrev first_writer : List ContentRun → ℕ
first_writer [] = 0
first_writer (run ∷ runs) = suc (writer run.content)

abbrev writer_of : BackRow → ℕ
writer_of (BackGot row) = first_writer row.content
writer_of _ = 0

abbrev second_writer : List BackRow → ℕ
second_writer (first ∷ second ∷ rows) = writer_of second
second_writer _ = 0

-- the block is read before it is written
abbrev row_of_stale : DeliveryRow
row_of_stale = got (block 0 0 6 1 (at 0 0) 1) 600 700 ByIdle 0 (untouched 6 1 ∷ [])

-- the second decision is to serve
abbrev second_serves : List Decision → ℕ
second_serves (first ∷ serves served ∷ decisions) = 1
second_serves _ = 0

stale_next : (test : List BackRow) (act : Act) (deliveries : List Delivery) (steps : List Step)
    → IsSoundBy contents_of_later.inputs (idle 700 [] [] ∷ record { test = test; act = act; deliveries = deliveries }
    ∷ steps) contents_of_later.run → ⊥
unfolding on_small_disks
stale_next [] (serving served plan) deliveries steps s = let no : ◌≡◌ {A = ℕ} 2 0 = ap second_writer s.back in omega arith
stale_next [] (idling dwell) deliveries steps s = let no : ◌≡◌ {A = ℕ} 0 1 = ap second_serves s.decided in omega arith
stale_next [] (ending now) deliveries steps s = let no : ◌≡◌ {A = ℕ} 0 1 = ap second_serves s.decided in omega arith
stale_next (row ∷ rows) act deliveries steps s = let no : ◌≡◌ {A = ℕ} (suc (length rows)) 0 = ap length s.tested.1.0.test in omega arith

stale_first : (test : List BackRow) (deliveries : List Delivery) (next : Step) (steps : List Step) → AtMost row_of_stale deliveries
    → IsSoundBy contents_of_later.inputs (idle 700 test deliveries ∷ next ∷ steps) contents_of_later.run → ⊥
unfolding on_small_disks
stale_first [] deliveries next steps nothing s = stale_next next.test next.act next.deliveries steps s
stale_first [] deliveries next steps (just after) s = let no : ◌≡◌ {A = ℕ} 2 1 = ap second_writer s.back in omega arith
stale_first (row ∷ rows) deliveries next steps few s = let no : ◌≡◌ {A = ℕ} (suc (length rows)) 0 = ap length s.tested.0.test in omega arith

stale_idle : (test : List BackRow) (deliveries : List Delivery) (next : Step) (steps : List Step)
    → IsSoundBy contents_of_later.inputs (idle 700 test deliveries ∷ next ∷ steps) contents_of_later.run → ⊥
unfolding on_small_disks
stale_idle test deliveries next steps s = stale_first test deliveries next steps (at_most deliveries s.deliveries.0) s

stale : (steps : List Step) → IsSoundBy contents_of_later.inputs steps contents_of_later.run → ⊥
unfolding on_small_disks
stale [] s = let no : ◌≡◌ {A = ℕ} 0 3 = ap length s.decided in omega arith
stale (first ∷ []) s = let no : ◌≡◌ {A = ℕ} 1 3 = ap length s.decided in omega arith
stale (first ∷ next ∷ steps) s = stale_idle first.test first.deliveries next steps
    (subst (λ first. IsSoundBy contents_of_later.inputs (first ∷ next ∷ steps) contents_of_later.run)
    (is_dwelt first (first_dwell 700) (same_first _ _ _ _ s.decided)) s)

pub contents_of_later_refuted : IsSound contents_of_later.inputs contents_of_later.run → ⊥
contents_of_later_refuted p = stale p.steps p.sound

-- the way back with its settle ends after the deadline
pub no_plan_refuted : IsPlan small_disk settling_gap (Detour (at 0 1) 900) → ⊥
unfolding on_small_disks
no_plan_refuted plan = let fits : 1250 ≤ 1200 = plan.in_time in omega arith

pub detour_without_settle_refuted : IsSound detour_without_settle.inputs detour_without_settle.run → ⊥
unfolding on_small_disks
detour_without_settle_refuted p = true≢false (ap is_none p.sound.possible)

-- the plain replay serves the request later
abbrev media_of : List ForeRow → ℕ
media_of [] = 0
media_of (row ∷ rows) = row.media

pub served_sooner_refuted : IsSound served_sooner.inputs served_sooner.run → ⊥
unfolding on_small_disks
served_sooner_refuted p = let no : ◌≡◌ {A = ℕ} 300 1500 = ap media_of p.sound.fore in omega arith

-- a sound run may leave a delivery out
pub delivery_left_out_is_sound : IsSound delivery_left_out.inputs delivery_left_out.run
unfolding on_small_disks
delivery_left_out_is_sound = record {
  steps = idle 1200 [] [] ∷ [];
  sound = record {
    fore = refl;
    passed_over = refl;
    possible = refl;
    end = refl;
    decided = refl;
    tasks = task_row 0 Plain 1 0 0 false ∷ [];
    back = refl;
    planned = (tt, tt);
    deliveries = (left_out none, tt);
    tested = (record { test = refl; followed = tt }, tt);
    counted = refl;
  };
}

-- and a full run may not
left_alone : (test : List BackRow) (deliveries : List Delivery) → length (map (λ delivery. delivery.got) deliveries) ≡ 1
    → IsSoundBy delivery_left_out.inputs (idle 1200 test deliveries ∷ []) delivery_left_out.run → ⊥
unfolding on_small_disks
left_alone [] [] some s = let no : ◌≡◌ {A = ℕ} 0 1 = some in omega arith
left_alone [] (delivery ∷ []) some s =
    let one : ◌≡◌ {A = ℕ} (length s.tasks) 1 = ap length s.counted in
    let rows : ◌≡◌ {A = ℕ} 2 (suc (suc (length (((delivery.after ++ []) ++ []) ++ s.tasks)))) = ap length s.back in
    let more = length-append ((delivery.after ++ []) ++ []) s.tasks in
    omega arith
left_alone [] (delivery ∷ other ∷ deliveries) some s =
    let no : ◌≡◌ {A = ℕ} (suc (suc (length (map (λ delivery. delivery.got) deliveries)))) 1 = some in omega arith
left_alone (row ∷ rows) deliveries some s = let no : ◌≡◌ {A = ℕ} (suc (length rows)) 0 = ap length s.tested.0.test in omega arith

left : (steps : List Step) → OneIdle 1200 steps → IsSoundBy delivery_left_out.inputs steps delivery_left_out.run
    → Throughout IsAllDelivered delivery_left_out.inputs steps → ⊥
unfolding on_small_disks
left steps (one_idle test deliveries) s all = left_alone test deliveries (ap length all.0) s

pub delivery_left_out_is_not_full : IsFull delivery_left_out.inputs delivery_left_out.run → ⊥
unfolding on_small_disks
delivery_left_out_is_not_full p = left p.steps (find_one 1200 p.steps p.sound.decided) p.sound p.all
