-- What deliveries found is true from decision to decision, and the rows of a decision are the disk's own.
use Rattle.fb_decide.proofs.Words.{◌≡◌, ℕ, ◌<◌, ◌≤◌, ◌==◌, ◌&&◌, ◌||◌, not, if◌then◌else◌, List, [], ◌∷◌, ◌++◌, Bool, true, false, length}
use Rattle.fb_decide.proofs.Words.{refl, ap, sym, ◌∙◌, arith, ◌+◌, ◌⊎◌, Option, Some, None, inl, inr, map, ap₂, subst, fold, list_any}
use Rattle.fb_decide.proofs.Words.{AllByRecursion, range_with_len, true≢false, cases_Bool, nat_tests, Request, all_weaker, map_same, Shape}
use Rattle.fb_decide.proofs.Words.{Action, Call, runs_of, Holding, content_in, Block, State, is_delivered, BackRow, Medium, contents_at}
use Rattle.fb_decide.proofs.Words.{Event, called, chose, tested, Past, tasks, registered, bare_state, content_of, is_open_backup}
use Rattle.fb_decide.proofs.Words.{same_block, delivered, finished, Step, take_call, calls_due, with_delivery, chosen_past, past_after}
use Rattle.fb_decide.proofs.Words.{chosen_by, held_at_delivery, test_rows, test_rows_by, tested_by, IsRegistered, followed, past_with}
use Rattle.fb_decide.proofs.Words.{IsTrue, Mirrors, IsFoundIn, by_all, Content, writer_of, DeliveryRow, IsTested, delivery_of, rows_after}
use Rattle.fb_decide.proofs.Words.{left_by, Entry, Inputs, Decision, serves, idles, ends, instant_of, Act, serving, idling, ending}
use Rattle.fb_decide.proofs.Words.{decision_of, Session, Tells}
use Rattle.std.specs.List.{slice_index_or}
use Rattle.fb_units.proofs.Lists.{all_range}
use Rattle.fb_script.specs.declared.call.Action.TheVariants.{Open}
use Rattle.fb_script.specs.declared.call.Kind.TheVariants.{Plain}
use Rattle.fb_script.specs.Sessions.{is_backup}
use Rattle.fb_wanted.specs.declared.block.State.TheVariants.{Wanted, Aborted}
use Rattle.fb_wanted.specs.States.{shares}
use Rattle.fb_model.specs.History.{LogSegment, Terms, terms_of}
use Rattle.fb_model.specs.History.{is_sealed, is_seal_of, ends_block, opened_by}
use Rattle.fb_model.specs.Images.{findings}
use Rattle.fb_model.proofs.Events.{by_calls}
use Rattle.fb_model.proofs.Views.{index_other}
use Rattle.fb_decide.proofs.RegisteredBlocks.{AreOpened, all_in, there_before, tasks_more, AreOwn, AreDistinct, still_there, distinct-kept}
use Rattle.fb_decide.proofs.RegisteredBlocks.{opened-kept, opened-told, own-told, distinct-told}
use Rattle.fb_store.specs.declared.content.Content.TheVariants.{Filled}
use Rattle.fb_store.specs.Writes.{after_write, is_within}
use Rattle.fb_model.specs.SoundRun.{AreFollowed}
use Rattle.fb_decide.proofs.DiskRows.{mirrored, rows-true}

-- ---- calls, choices and tests deliver nothing and overwrite nothing: what deliveries found stays true

-- a delivered block was in none of the cases that end otherwise
pub if_delivered : (other : Bool) (there rest : State) → is_delivered there ≡ false → is_delivered (if other then there else rest) ≡ true
    → (other ≡ false) × (is_delivered rest ≡ true)
if_delivered true there rest none done = absurd (true≢false (sym done ∙ none))
if_delivered false there rest none done = (refl, done)

-- nothing was delivered, no block lost its delivery, and no task that was open became an open backup
pub record IsStill (past new : Past) : Type 0 where
  pub delivered : (block : Block) → IsRegistered new block → is_delivered (bare_state new block) ≡ true
      → IsRegistered past block × (is_delivered (bare_state past block) ≡ true)
  pub content : (block : Block) → content_of new block ≡ content_of past block
  pub held : (medium : Medium) (block : Block) → held_at_delivery medium new block ≡ held_at_delivery medium past block
  pub more : length (tasks past) ≤ length (tasks new)
  pub backup : (task : ℕ) → task < length (tasks past) → is_open_backup new task ≡ true → is_open_backup past task ≡ true

pub still-true : (medium : Medium) (holding : Holding) (past new : Past) → IsStill past new → AreOpened past → IsTrue medium holding past
    → IsTrue medium holding new
still-true medium holding past new still opened before = record {
  found = λ block there done.
      let known = still.delivered block there done in
      still.content block ∙ (before.found block known.0 known.1 ∙ ap runs_of (sym (still.held medium block)));
  kept = λ block there done is_open.
      let known = still.delivered block there done in
      still.content block ∙ before.kept block known.0 known.1 (still.backup block.task
      (all_in (λ (b : Block). b.task < length (tasks past)) (registered past) block opened known.0) is_open);
}

pub still-same : (past : Past) → IsStill past past
still-same past = record {
  delivered = λ block there done. (there, done);
  content = λ block. refl;
  held = λ medium block. refl;
  more = omega arith;
  backup = λ task less is_open. is_open;
}

pub still-then : (past mid new : Past) → IsStill past mid → IsStill mid new → IsStill past new
still-then past mid new first second = record {
  delivered = λ block there done. let known = second.delivered block there done in first.delivered block known.0 known.1;
  content = λ block. second.content block ∙ first.content block;
  held = λ medium block. second.held medium block ∙ first.held medium block;
  more = let a = first.more in let b = second.more in omega (arith, a, b);
  backup = λ task less is_open. first.backup task less (second.backup task (let a = first.more in omega (arith, a, less)) is_open);
}

-- the first tasks keep their terms
terms_kept : (past : Past) (action : Action) (task : ℕ) → task < length (tasks past)
    → slice_index_or (opened_by action (tasks past)) task (record { kind = Plain; weight = 1; block = 1 }) ≡ terms_of past task
terms_kept past (Open kind weight block) task less =
    let other : (length (tasks past) == task) ≡ false = grind (arith, nat_tests) in index_other (tasks past) _ _ task other
terms_kept past _ task less = refl

unsealed : (backup now before : Bool) → (backup && not (now || before)) ≡ true → (backup && not before) ≡ true
unsealed backup now before h = grind (arith, h)

-- a task that was open, and is an open backup after an event, was so before it
open_before : (past : Past) (event : Event) (task : ℕ) → task < length (tasks past) → is_open_backup (event ∷ past) task ≡ true
    → is_open_backup past task ≡ true
open_before past (called call blocks) task less is_open =
    ap (λ (terms : Terms). is_backup terms.kind && not (is_sealed past task)) (sym (terms_kept past call.action task less)) ∙ is_open
open_before past (tested rows) task less is_open =
    unsealed (is_backup (terms_of past task).kind) (list_any (is_seal_of task) rows) (is_sealed past task) is_open
open_before past (_) task less is_open = is_open

still-by : (past : Past) (event : Event) → ((block : Block) → IsRegistered (event ∷ past) block
    → is_delivered (bare_state (event ∷ past) block) ≡ true → IsRegistered past block × (is_delivered (bare_state past block) ≡ true))
    → ((block : Block) → content_of (event ∷ past) block ≡ content_of past block)
    → ((medium : Medium) (block : Block) → held_at_delivery medium (event ∷ past) block ≡ held_at_delivery medium past block)
    → IsStill past (event ∷ past)
still-by past event lasts content held =
    record { delivered = lasts; content = content; held = held; more = tasks_more past event; backup = open_before past event }

pub called-still : (past : Past) (call : Call) (blocks : List Block) → IsStill past (called call blocks ∷ past)
unfolding bare_state content_of
called-still past call blocks = still-by past (called call blocks)
    (λ block there done.
    let fresh = if_delivered (list_any (same_block block) blocks) Wanted _ refl done in
    let ended = if_delivered ((call.task == block.task) && ends_block call.action block
    && not (is_delivered (bare_state past block))) Aborted _ refl fresh.1 in
    (there_before past (called call blocks) block fresh.0 there, ended.1))
    (λ block. refl) (λ medium block. refl)

pub chosen-still : (past : Past) (task : ℕ) (segment : LogSegment) (blocks : List Block) → IsStill past (chose task segment blocks ∷ past)
unfolding bare_state content_of
chosen-still past task segment blocks = still-by past (chose task segment blocks)
    (λ block there done.
    let fresh = if_delivered (list_any (same_block block) blocks) Wanted (bare_state past block) refl done in
    (there_before past (chose task segment blocks) block fresh.0 there, fresh.1))
    (λ block. refl) (λ medium block. refl)

pub tested-still : (past : Past) (rows : List BackRow) → IsStill past (tested rows ∷ past)
unfolding bare_state content_of
tested-still past rows = still-by past (tested rows) (λ block there done. (there_before past (tested rows) block refl there, done))
    (λ block. refl) (λ medium block. refl)

-- the calls and choices of an instant
pub chosen_by-still : (disk : Shape) (calls : List Call) (past : Past) (now : ℕ) → IsStill past (chosen_by disk calls past now)
chosen_by-still disk calls past now =
    let due = calls_due calls past now in
    by_all (IsStill past) disk (λ p task segment blocks h. still-then past p _ h (chosen-still p task segment blocks))
    (fold (take_call disk) past due)
    (by_calls (IsStill past) disk (λ p call h. still-then past p _ h (called-still p call _)) due past (still-same past))

-- ---- what deliveries found is true from decision to decision, and the rows of a decision are the disk's own

-- at first nothing is registered
pub true_first : (medium : Medium) (holding : Holding) → IsTrue medium holding []
true_first medium holding = record {
  found = λ block there. absurd (nowhere block there.0 there.1);
  kept = λ block there. absurd (nowhere block there.0 there.1);
} where
  nowhere : (block : Block) (index : ℕ) → ◌≡◌ {A = Option Block} None (Some block) → ⊥
  nowhere block index h = grind arith

-- the disk stays as it is in part of the time
pub mirrors_within : (medium : Medium) (holding : Holding) (from to begin end : ℕ) → Mirrors medium holding from to → from ≤ begin
    → end ≤ to → Mirrors medium holding begin end
mirrors_within medium holding from to begin end mirrors after before lbn t late early =
    mirrors lbn t (omega (arith, after, late)) (omega (arith, before, early))

-- after calls and choices of an instant and their test
pub tests_true : (medium : Medium) (holding : Holding) (disk : Shape) (calls : List Call) (past : Past) (now end : ℕ)
    → IsTrue medium holding past → Mirrors medium holding now end → now ≤ end → AreOpened past → AreOwn (chosen_by disk calls past now)
    → (test_rows_by disk calls past now ≡ test_rows medium (chosen_by disk calls past now) now)
    × IsTrue medium holding (tested_by disk calls past now)
tests_true medium holding disk calls past now end before mirrors order opened own =
    let chosen = chosen_by disk calls past now in
    let still = chosen_by-still disk calls past now in (
      rows-true medium holding chosen (still-true medium holding past chosen still opened before) own now
          (mirrors_within medium holding now end now now mirrors (let e : now ≤ now = omega arith in e) order),
      still-true medium holding past (tested_by disk calls past now) (still-then past chosen (tested_by disk calls past now) still
          (tested-still chosen (test_rows_by disk calls past now))) opened before,
    )

module _ (medium : Medium) (holding : Holding) (from to : ℕ) (mirrors : Mirrors medium holding from to) where
  module _ (past : Past) (got : DeliveryRow) (found : IsFoundIn holding from to got) (there : IsRegistered past got.block)
      (distinct : AreDistinct past) where
    known_before : (block : Block) → IsRegistered (delivered got ∷ past) block → IsRegistered past block
    known_before block = there_before past (delivered got) block refl

    got_content : got.content ≡ runs_of (map (λ lbn. (lbn, content_in holding lbn)) (range_with_len got.block.lbn got.block.count))
    got_content = ap (λ (row : DeliveryRow). row.content) found.row

    got_then : got.content ≡ runs_of (contents_at medium got.block.lbn got.block.count got.begin)
    got_then = got_content ∙ ap runs_of (mirrored medium holding from to mirrors got.block.lbn got.block.count got.begin found.begin
        (let order = found.order in let end = found.end in omega (arith, order, end)))

    pub delivered_true : IsTrue medium holding past → IsTrue medium holding (delivered got ∷ past)
    unfolding bare_state content_of
    delivered_true before = record {
      found = λ block known done. elim (cases_Bool (same_block got.block block)) [
        | inl own ↦ rw own (subst (λ (b : Block). got.content ≡ runs_of (contents_at medium b.lbn b.count got.begin))
            (distinct got.block block there (known_before block known) own) got_then)
        | inr other ↦ rw other (before.found block (known_before block known) (rw other at done))
      ];
      kept = λ block known done is_open. elim (cases_Bool (same_block got.block block)) [
        | inl own ↦
            rw own (subst (λ (b : Block). got.content ≡ runs_of (map (λ lbn. (lbn, content_in holding lbn)) (range_with_len b.lbn b.count)))
            (distinct got.block block there (known_before block known) own) got_content)
        | inr other ↦ rw other (before.kept block (known_before block known) (rw other at done) is_open)
      ];
    }

    -- the rows behind a delivery are the disk's own
    pub own_rows : AreOwn past → IsTrue medium holding past
        → rows_after past got ≡ findings past got ++ test_rows medium (delivered got ∷ past) got.end
    own_rows own before =
        let begin = found.begin in let order = found.order in let end = found.end in
        ap (λ rows. findings past got ++ rows) (rows-true medium holding (delivered got ∷ past) (delivered_true before) own got.end
        (mirrors_within medium holding from to got.end got.end mirrors (omega (arith, begin, order)) end))

    pub delivery_true : AreOpened past → IsTrue medium holding past → IsTrue medium holding (with_delivery past (delivery_of past got))
    delivery_true opened before = still-true medium holding (delivered got
        ∷ past) (with_delivery past (delivery_of past got)) (tested-still (delivered got ∷ past) (rows_after past got))
        (opened-kept past (delivered got) refl opened) (delivered_true before)

  -- after these deliveries, one after another
  pub followed_true : (past : Past) (gots : List DeliveryRow) → AllByRecursion (IsFoundIn holding from to) gots
      → AllByRecursion (λ got. IsRegistered past got.block) gots
      → AreOpened past → AreOwn past → AreDistinct past → IsTrue medium holding past
      → AreFollowed medium past (followed past gots) × IsTrue medium holding (past_with past gots)
  followed_true past [] found there opened own distinct before = (tt, before)
  followed_true past (got ∷ gots) found there opened own distinct before =
      let new = delivered got ∷ past in
      let after = with_delivery past (delivery_of past got) in
      let rest = followed_true after gots found.1
      (all_weaker (λ got. IsRegistered past got.block) (λ got. IsRegistered after got.block) (λ row known.
      still_there new (tested (rows_after past got)) row.block (still_there past (delivered got) row.block known)) gots there.1)
      (opened-kept new (tested (rows_after past got)) refl (opened-kept past (delivered got) refl opened)) own
      (distinct-kept new (tested (rows_after past got)) refl (distinct-kept past (delivered got) refl distinct))
      (delivery_true past got found.0 there.0 distinct opened before) in
      ((own_rows past got found.0 there.0 distinct own before, rest.0), rest.1)

-- a sector that a range has not is none that a write of the range passes
apart : (lbn first n : ℕ) (block : Block) → shares first n block ≡ false → block.lbn ≤ lbn → lbn < block.lbn + block.count
    → is_within first n lbn ≡ false
apart lbn first n block none from before = grind (arith, nat_tests)

-- a request that wrote nothing into the block's sectors
not_rewanted : (write shared done free : Bool) → done ≡ true → free ≡ true → (((write && shared) && done) && free) ≡ false
    → (write ≡ false) ⊎ (shared ≡ false)
not_rewanted false shared was free_then done free h = inl refl
not_rewanted true true was free_then done free h = absurd (true≢false (sym (ap₂ (λ a b. a && b) done free) ∙ h))
not_rewanted true false was free_then done free h = inr refl

module _ (medium : Medium) (holding left : Holding) (past : Past) (request : Request)
    (contents : (lbn : ℕ) → content_in left lbn ≡ left_by request lbn (content_in holding lbn)) where
  not_overwritten : (block : Block) → is_delivered (bare_state (finished request ∷ past) block) ≡ true
      → ((((request.write && shares request.lbn request.count block) && is_delivered (bare_state past block))
      && is_open_backup past block.task) ≡ false) × (is_delivered (bare_state past block) ≡ true)
  unfolding bare_state
  not_overwritten block done =
      if_delivered (((request.write && shares request.lbn request.count block) && is_delivered (bare_state past block))
      && is_open_backup past block.task) Wanted (bare_state past block) refl done

  left_in : (block : Block) → (request.write ≡ false) ⊎ (shares request.lbn request.count block ≡ false) → (lbn : ℕ) → block.lbn ≤ lbn
      → lbn < block.lbn + block.count → content_in holding lbn ≡ content_in left lbn
  left_in block (inl reads) lbn from before = sym (contents lbn ∙ ap (λ b. if b
      then after_write request.lbn request.count (writer_of request.name) lbn (content_in holding lbn) else content_in holding lbn) reads)
  left_in block (inr none) lbn from before =
      sym (contents lbn ∙ either request.write (ap (λ b. if b then Filled (writer_of request.name) else content_in holding lbn)
      (apart lbn request.lbn request.count block none from before))) where
        either : (write : Bool) {c : Content} → c ≡ content_in holding lbn
            → (if write then c else content_in holding lbn) ≡ content_in holding lbn
        either true e = e
        either false e = refl

  finished_content : (block : Block) → content_of (finished request ∷ past) block ≡ content_of past block
  unfolding content_of
  finished_content block = refl

  -- after a request has passed, the disk holding what the request left
  pub finished_true : IsTrue medium holding past → IsTrue medium left (finished request ∷ past)
  finished_true before = record {
    found = λ block known done. finished_content block
        ∙ before.found block (there_before past (finished request) block refl known) (not_overwritten block done).1;
    kept = λ block known done is_open.
        let was = not_overwritten block done in
        let spared = not_rewanted request.write (shares request.lbn request.count block) (is_delivered (bare_state past block))
        (is_open_backup past block.task) was.1 is_open was.0 in
        finished_content block ∙ (before.kept block (there_before past (finished request) block refl known) was.1 is_open
        ∙ ap runs_of
        (map_same (λ lbn. (lbn, content_in holding lbn)) (λ lbn. (lbn, content_in left lbn)) (range_with_len block.lbn block.count)
        (all_range (λ lbn. ◌≡◌ {A = ℕ × Content} (lbn, content_in holding lbn) (lbn, content_in left lbn)) block.lbn block.count
        (λ lbn from end. ap (λ c. (lbn, c)) (left_in block spared lbn from end)))));
  }

-- ---- a decision's tests give the rows that the disk gives, and leave what deliveries found true

-- what a decision leaves on the disk
abbrev pub LeftBy : Decision → Holding → Holding → Type 0
LeftBy (serves served) holding left = (lbn : ℕ) → content_in left lbn ≡ left_by served.request lbn (content_in holding lbn)
LeftBy (idles dwell) holding left = left ≡ holding
LeftBy (ends now) holding left = left ≡ holding

-- the step that does this and delivers these
abbrev pub step_by : Shape → List Call → Past → Act → List DeliveryRow → Step
step_by disk calls past act gots =
    let now = instant_of (decision_of act) in
    record { test = test_rows_by disk calls past now; act = act; deliveries = followed (tested_by disk calls past now) gots }

module _ (inputs : Inputs) (medium : Medium) (holding : Holding) (past : Past) (act : Act) (end : ℕ) (gots : List DeliveryRow)
    (before : IsTrue medium holding past) (mirrors : Mirrors medium holding (instant_of (decision_of act)) end)
    (order : instant_of (decision_of act) ≤ end)
    {sessions tested_sessions : List Session} {held tested_held : List Entry} (tells : Tells inputs.disk.map past sessions held)
    (tells_tested : Tells inputs.disk.map
    (tested_by inputs.disk.map inputs.calls past (instant_of (decision_of act))) tested_sessions tested_held)
    (found : AllByRecursion (IsFoundIn holding (instant_of (decision_of act)) end) gots)
    (there : AllByRecursion (λ got. IsRegistered (tested_by inputs.disk.map inputs.calls past (instant_of (decision_of act))) got.block)
    gots) where
  pub decision_true : IsTested inputs medium past (step_by inputs.disk.map inputs.calls past act gots)
      × IsTrue medium holding (past_with (tested_by inputs.disk.map inputs.calls past (instant_of (decision_of act))) gots)
  unfolding chosen_past
  decision_true =
      let now = instant_of (decision_of act) in
      let tests = tested_by inputs.disk.map inputs.calls past now in
      let own = own-told inputs.disk.map tests tested_sessions tested_held tells_tested in
      let first = tests_true medium holding inputs.disk.map inputs.calls past now end before mirrors order (opened-told inputs.disk.map past
      sessions held tells) own in
      let second = followed_true medium holding now end mirrors tests gots found there
      (opened-told inputs.disk.map tests tested_sessions tested_held tells_tested) own
      (distinct-told inputs.disk.map tests tested_sessions tested_held tells_tested) first.1 in
      (record { test = first.0; followed = second.0 }, second.1)

-- and after the decision
pub after_true : (inputs : Inputs) (medium : Medium) (holding left : Holding) (past : Past) (act : Act) (gots : List DeliveryRow)
    → LeftBy (decision_of act) holding left
    → IsTrue medium holding (past_with (tested_by inputs.disk.map inputs.calls past (instant_of (decision_of act))) gots)
    → IsTrue medium left (past_after inputs past (step_by inputs.disk.map inputs.calls past act gots))
unfolding chosen_past past_after
after_true inputs medium holding left past (serving served plan) gots contents h =
    finished_true medium holding left (past_with (tested_by inputs.disk.map inputs.calls past served.start) gots) served.request contents h
after_true inputs medium holding left past (idling dwell) gots contents h =
    subst (λ disk_then. IsTrue medium disk_then (past_with (tested_by inputs.disk.map inputs.calls past dwell.begin) gots)) (sym contents) h
after_true inputs medium holding left past (ending now) gots contents h =
    subst (λ disk_then. IsTrue medium disk_then (past_with (tested_by inputs.disk.map inputs.calls past now) gots)) (sym contents) h
