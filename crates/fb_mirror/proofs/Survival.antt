-- A sector that an event concerned holds in the replacement what it holds on the survivor at the run's end.
use Rattle.fb_mirror.proofs.Words.{◌≡◌, ◌⊎◌, ℕ, ◌<◌, ◌≤◌, max, List, [], ◌∷◌, ◌++◌, map, Option, Some, None, Bool, true, false, cond, refl}
use Rattle.fb_mirror.proofs.Words.{ap, sym, subst, ◌∙◌, arith, inl, inr, append-nil, nat_lt, filter, ◌&&◌, AllByRecursion, flat_map, fold}
use Rattle.fb_mirror.proofs.Words.{option_map, unwrap_or, cases_Bool, nat_tests, same_Some, none-some, all_any, all_weaker, all_append}
use Rattle.fb_mirror.proofs.Words.{all_left, all_right, Track, IsSound, Disk, Content, Filled, sectors_of, is_within, writer_of, unwritten}
use Rattle.fb_mirror.proofs.Words.{sectors_of-runs_of, taken_block, Block, ForeRow, BackRow, Got, DeliveryRow, Run, Served, finish}
use Rattle.fb_mirror.proofs.Words.{first_track, last_track, Inputs, served, IsAccepted, Medium, Written, content, content_by, contents_at}
use Rattle.fb_mirror.proofs.Words.{fore_row, fore_rows, medium_of, writes_of, Decision, serves, decisions, decisions_from, end_of}
use Rattle.fb_mirror.proofs.Words.{idle_until, instant_of, instants_of, last_decision, Past, wanted, AtEach, Delivery, Step, decision_in}
use Rattle.fb_mirror.proofs.Words.{decisions_in, step_rows, past_after, chosen_past, HasPlan, IsDelivered, IsPlanned, IsTested}
use Rattle.fb_mirror.proofs.Words.{ForegroundListsAscend, OnePlainReplay, IsFull, HasBytes, IsDueRow, due_bytes, delivery_true}
use Rattle.fb_mirror.proofs.Words.{served_between, greatest_from, Event, decided, deliveries_in, events, given, held_after, later}
use Rattle.fb_mirror.proofs.Words.{writes_in, survives}
use Rattle.std.specs.Prelude.{nat_le}
use Rattle.std.proofs.lemmas.List.Sums.{fold-append}
use Rattle.fb_model.specs.Decisions.{run_end}
use Rattle.fb_model.proofs.DecisionsUpTo.{end_from}
use Rattle.fb_mirror.proofs.Deciding.{later-assoc}
use Rattle.fb_mirror.proofs.EventLaws.{write_gives}
use Rattle.fb_mirror.proofs.Between.{IsBetween, IsPlaced, between_within, decisions_placed, due_quiet, quiet_until}
use Rattle.fb_mirror.proofs.RunRows.{NoFact, RowsFit, back_fits, gots_fit_step}
use Rattle.fb_mirror.proofs.Writing.{AreServed, all_writes, are_served, content_then, ended, finishes_late, last_of, last_of-append}
use Rattle.fb_mirror.proofs.Writing.{last_of-more, left_after, left_by, medium_with}

-- ---- events one after another

pub decided-append : (lbn : ℕ) (xs ys : List Event) → decided lbn (xs ++ ys) ≡ later (decided lbn xs) (decided lbn ys)
decided-append lbn [] ys = refl
decided-append lbn (x ∷ xs) ys =
    ap (later (given lbn x)) (decided-append lbn xs ys) ∙ sym (later-assoc (given lbn x) (decided lbn xs) (decided lbn ys))

abbrev given_content : Option (ℕ × Content) → Option Content
given_content last = option_map (λ last. last.1) last

-- the instant has a property, if there is one
abbrev IsAt : (ℕ → Type 0) → Option (ℕ × Content) → Type 0
IsAt P None = Unit {0}
IsAt P (Some last) = P last.0

later_at : (P : ℕ → Type 0) (a b : Option (ℕ × Content)) → IsAt P a → IsAt P b → IsAt P (later a b)
later_at P None b p q = q
later_at P (Some a) None p q = p
later_at P (Some a) (Some b) p q = by (nat_lt b.0 a.0)
  where
    by : (c : Bool) → IsAt P (cond c (Some a) (Some b))
    by true = p
    by false = q

-- of two the later one is no earlier than the second
second_by : (t : ℕ) (a : Option (ℕ × Content)) (b : ℕ × Content) → IsAt (λ x. x ≤ t) (later a (Some b)) → b.0 ≤ t
second_by t None b h = h
second_by t (Some a) b h = elim (cases_Bool (nat_lt b.0 a.0)) [
  | inl less ↦
      let first : a.0 ≤ t = subst (λ c. IsAt (λ x. x ≤ t) (cond c (Some a) (Some b))) less h in
      grind (arith, nat_tests)
  | inr more ↦ subst (λ c. IsAt (λ x. x ≤ t) (cond c (Some a) (Some b))) more h
]

one_of_two : (a b : Option (ℕ × Content)) (last : ℕ × Content) → later a b ≡ Some last → (a ≡ Some last) ⊎ (b ≡ Some last)
one_of_two None b last is = inr is
one_of_two (Some a) None last is = inl is
one_of_two (Some a) (Some b) last is = elim (cases_Bool (nat_lt b.0 a.0)) [
  | inl less ↦ inl (sym (ap (λ c. cond c (Some a) (Some b)) less) ∙ is)
  | inr more ↦ inr (sym (ap (λ c. cond c (Some a) (Some b)) more) ∙ is)
]

-- what each event gives has a property, so what decides has it
pub one_decides : (R : ℕ × Content → Type 0) (lbn : ℕ) (events : List Event)
    → AllByRecursion (λ event. (last : ℕ × Content) → given lbn event ≡ Some last → R last) events
    → (last : ℕ × Content) → decided lbn events ≡ Some last → R last
one_decides R lbn [] all last is = absurd (none-some last is)
one_decides R lbn (event ∷ events) all last is = elim (one_of_two (given lbn event) (decided lbn events) last is) [
  | inl here ↦ all.0 last here
  | inr behind ↦ one_decides R lbn events all.1 last behind
]

-- ---- the writes of services

abbrev pub wrote : Medium → List Served → List Event
wrote medium replay = flat_map writes_in (map (fore_row medium) replay)

abbrev leaves : ℕ → ForeRow → Bool
leaves lbn row = row.request.write && is_within row.request.lbn row.request.count lbn

row_gives : (row : ForeRow) (lbn : ℕ)
    → decided lbn (writes_in row) ≡ cond (leaves lbn row) (Some (row.finish, Filled (writer_of row.request.name))) None
row_gives row lbn = by row.request.write refl
  where
    by : (write : Bool) → row.request.write ≡ write → decided lbn (writes_in row)
        ≡ cond (write && is_within row.request.lbn row.request.count lbn) (Some (row.finish, Filled (writer_of row.request.name))) None
    by true is = write_gives row lbn is
    by false is = rw is refl

row_at : (P : ℕ → Type 0) (medium : Medium) (served : Served) (lbn : ℕ) → (served.request.write ≡ true → P (finish served))
    → IsAt P (decided lbn (writes_in (fore_row medium served)))
row_at P medium served lbn each = by served.request.write refl
  where
    within : (b : Bool) → P (finish served) → IsAt P (cond b (Some (finish served, Filled (writer_of served.request.name))) None)
    within true h = h
    within false h = tt

    by : (write : Bool) → served.request.write ≡ write → IsAt P (decided lbn (writes_in (fore_row medium served)))
    by true is = subst (IsAt P) (sym (write_gives (fore_row medium served) lbn is))
        (within (is_within served.request.lbn served.request.count lbn) (each is))
    by false is = rw is tt

rows_at : (P : ℕ → Type 0) (medium : Medium) (lbn : ℕ) (replay : List Served)
    → AllByRecursion (λ (s : Served). s.request.write ≡ true → P (finish s)) replay → IsAt P (decided lbn (wrote medium replay))
rows_at P medium lbn [] all = tt
rows_at P medium lbn (served ∷ replay) all =
    subst (IsAt P) (sym (decided-append lbn (writes_in (fore_row medium served)) (wrote medium replay)))
    (later_at P (decided lbn (writes_in (fore_row medium served))) (decided lbn (wrote medium replay)) (row_at P medium served lbn all.0)
    (rows_at P medium lbn replay all.1))

wrote-append : (medium : Medium) (lbn : ℕ) (xs ys : List Served)
    → decided lbn (wrote medium (xs ++ ys)) ≡ later (decided lbn (wrote medium xs)) (decided lbn (wrote medium ys))
wrote-append medium lbn [] ys = refl
wrote-append medium lbn (x ∷ xs) ys =
    let here = decided lbn (writes_in (fore_row medium x)) in
    let rest = decided lbn (wrote medium ys) in
    decided-append lbn (writes_in (fore_row medium x)) (wrote medium (xs ++ ys))
    ∙ ap (later here) (wrote-append medium lbn xs ys)
    ∙ sym (later-assoc here (decided lbn (wrote medium xs)) rest)
    ∙ ap (λ d. later d rest) (sym (decided-append lbn (writes_in (fore_row medium x)) (wrote medium xs)))

finishes_from : (disk : Disk) (now : ℕ) (replay : List Served) → AreServed disk now replay
    → AllByRecursion (λ (s : Served). s.request.write ≡ true → now ≤ finish s) replay
finishes_from disk now [] are = tt
finishes_from disk now (served ∷ replay) are =
    let order = (served_between disk served are.1).0 in (
      λ is. omega (arith, are.0, order),
      all_weaker (λ (s : Served). s.request.write ≡ true → finish served ≤ finish s) (λ (s : Served). s.request.write ≡ true
          → now ≤ finish s) (λ s h is. omega (arith, h is, are.0, order)) replay (finishes_from disk (finish served) replay are.3),
    )

joined : (writes : Bool) (instant : ℕ) (left : Content) (behind : Option (ℕ × Content)) (first : Content) → IsAt (λ t. instant ≤ t) behind
    → unwrap_or (given_content (later (cond writes (Some (instant, left)) None) behind)) first
    ≡ unwrap_or (given_content behind) (cond writes left first)
joined true instant left None first h = refl
joined true instant left (Some last) first h = let behind : nat_lt last.0 instant ≡ false = grind (arith, nat_tests) in rw behind refl
joined false instant left behind first h = refl

-- the last of the services that passed a sector is the one whose event decides
left_decided : (disk : Disk) (medium : Medium) (lbn : ℕ) (first : Content) (now : ℕ) (replay : List Served) (before : Option Written)
    → AreServed disk now replay
    → content_by (last_of before lbn replay) first ≡ unwrap_or (given_content (decided lbn (wrote medium replay))) (content_by before first)
left_decided disk medium lbn first now [] before are = refl
left_decided disk medium lbn first now (served ∷ replay) before are =
    let row = fore_row medium served in
    let behind = decided lbn (wrote medium replay) in
    let left = Filled (writer_of served.request.name) in
    let mid = content_by before first in
    ap (λ o. content_by o first) (last_of-more before lbn served replay)
    ∙ left_decided disk medium lbn first (finish served) replay _ are.3
    ∙ ap (unwrap_or (given_content behind)) (left_by disk served are.1 lbn before first)
    ∙ sym (joined (leaves lbn row) (finish served) left behind mid
    (rows_at (λ t. finish served ≤ t) medium lbn replay (finishes_from disk (finish served) replay are.3)))
    ∙ ap (λ d. unwrap_or (given_content (later d behind)) mid) (sym (row_gives row lbn))
    ∙ ap (λ d. unwrap_or (given_content d) mid) (sym (decided-append lbn (writes_in row) (wrote medium replay)))

-- ---- what deliveries find

-- a sector's content after the first services, found while the others had nothing written yet
pub record IsFoundAfter (latent : List ℕ) (replay : List Served) (lbn : ℕ) (last : ℕ × Content) : Type 0 where
  pub before : List Served
  pub after : List Served
  pub is : replay ≡ before ++ after
  pub finished : AllByRecursion (λ (s : Served). finish s ≤ last.0) before
  pub holds : last.1 ≡ left_after latent before lbn
  pub to_come : AllByRecursion (λ (w : Written). last.0 < w.passage.end) (all_writes after)

are_behind : (disk : Disk) (now : ℕ) (before after : List Served) → AreServed disk now (before ++ after) → (t : ℕ) × AreServed disk t after
are_behind disk now [] after are = (now, are)
are_behind disk now (served ∷ before) after are = are_behind disk (finish served) before after are.3

finish_to_come : (disk : Disk) (now t : ℕ) (replay : List Served) → AreServed disk now replay
    → AllByRecursion (λ (w : Written). t < w.passage.end) (all_writes replay)
    → AllByRecursion (λ (s : Served). s.request.write ≡ true → t < finish s) replay
finish_to_come disk now t [] are all = tt
finish_to_come disk now t (served ∷ replay) are all = (
  finishes_late disk served t are.1 are.2 (all_left (λ (w : Written). t < w.passage.end) (writes_of served) (all_writes replay) all),
  finish_to_come disk (finish served) t replay are.3
      (all_right (λ (w : Written). t < w.passage.end) (writes_of served) (all_writes replay) all),
)

-- if no write of the sector decides later, nothing was written there since
module _ (disk : Disk) (medium : Medium) (latent : List ℕ) (lbn : ℕ) where
  nothing_since : (now : ℕ) (before after : List Served) (last : ℕ × Content) → AreServed disk now (before ++ after)
      → last.1 ≡ left_after latent before lbn → AllByRecursion (λ (w : Written). last.0 < w.passage.end) (all_writes after)
      → IsAt (λ t. t ≤ last.0) (decided lbn (wrote medium (before ++ after))) → last.1 ≡ left_after latent (before ++ after) lbn
  nothing_since now before after last are holds to_come by =
      let behind = are_behind disk now before after are in
      holds ∙ sym (
      ap (λ o. content_by o (unwritten latent lbn)) (last_of-append None lbn before after)
      ∙ left_decided disk medium lbn (unwritten latent lbn) behind.0 after (last_of None lbn before) behind.1
      ∙ ap (λ d. unwrap_or (given_content d) (left_after latent before lbn)) (none (decided lbn (wrote medium after)) refl)
      )
    where
      none : (d : Option (ℕ × Content)) → decided lbn (wrote medium after) ≡ d → decided lbn (wrote medium after) ≡ None
      none None is = is
      none (Some z) is =
          let behind = are_behind disk now before after are in
          let late : last.0 < z.0 = subst (IsAt (λ t. last.0 < t)) is (rows_at (λ t. last.0 < t) medium lbn after
          (finish_to_come disk behind.0 last.0 after behind.1 to_come)) in
          let early = second_by last.0 (decided lbn (wrote medium before)) z (subst (IsAt (λ t. t ≤ last.0))
          (wrote-append medium lbn before after ∙ ap (later (decided lbn (wrote medium before))) is) by) in
          absurd (omega arith)

  found_still : (now : ℕ) (replay : List Served) (last : ℕ × Content) → AreServed disk now replay → IsFoundAfter latent replay lbn last
      → IsAt (λ t. t ≤ last.0) (decided lbn (wrote medium replay))
      → last.1 ≡ left_after latent replay lbn
  found_still now replay last are found by =
      subst (λ replay. AreServed disk now replay → IsAt (λ t. t ≤ last.0) (decided lbn (wrote medium replay))
      → last.1 ≡ left_after latent replay lbn) (sym found.is)
      (λ are by. nothing_since now found.before found.after last are found.holds found.to_come by) are by

  -- what decides is what the services left
  pub survives_all : (now : ℕ) (replay : List Served) (last : ℕ × Content) → AreServed disk now replay
      → (wrote_last got_last : Option (ℕ × Content)) → decided lbn (wrote medium replay) ≡ wrote_last
      → ((that : ℕ × Content) → got_last ≡ Some that → IsFoundAfter latent replay lbn that) → later wrote_last got_last ≡ Some last
      → last.1 ≡ left_after latent replay lbn
  survives_all now replay last are None got_last wrote_is found is =
      found_still now replay last are (found last is) (subst (IsAt (λ t. t ≤ last.0)) (sym wrote_is) tt)
  survives_all now replay last are (Some one) None wrote_is found is = sym (written one last wrote_is (same_Some one last is))
    where
      written : (one last : ℕ × Content) → decided lbn (wrote medium replay) ≡ Some one → one ≡ last → left_after latent replay lbn ≡ last.1
      written one last wrote_is same = left_decided disk medium lbn (unwritten latent lbn) now replay None are
          ∙ ap (λ d. unwrap_or (given_content d) (unwritten latent lbn)) wrote_is ∙ ap (λ p. p.1) same
  survives_all now replay last are (Some one) (Some other) wrote_is found is = elim (cases_Bool (nat_lt other.0 one.0)) [
    | inl less ↦
        let same = same_Some one last (sym (ap (λ c. cond c (Some one) (Some other)) less) ∙ is) in
        sym (left_decided disk medium lbn (unwritten latent lbn) now replay None are
        ∙ ap (λ d. unwrap_or (given_content d) (unwritten latent lbn)) wrote_is ∙ ap (λ p. p.1) same)
    | inr more ↦
        let same = same_Some other last (sym (ap (λ c. cond c (Some one) (Some other)) more) ∙ is) in
        let order : one.0 ≤ last.0 = let at = ap (λ p. p.0) same in let behind : one.0 ≤ other.0 = grind (arith, nat_tests) in
        omega arith in
        found_still now replay last are (found last (ap Some same)) (subst (IsAt (λ t. t ≤ last.0)) (sym wrote_is) order)
  ]

-- a row has the bytes of its beginning, and nothing is written from then to its end
pub record IsFound (medium : Medium) (replay : List Served) (row : DeliveryRow) : Type 0 where
  pub bytes : HasBytes (contents_at medium) row
  pub order : 0 < row.block.count → row.begin ≤ row.end
  pub between : 0 < row.block.count → IsBetween replay row.begin row.end

abbrev pub event_of : DeliveryRow → Event
event_of row = record { instant = row.end; contents = row.content }

module _ (disk : Disk) (latent : List ℕ) (replay : List Served) where
  -- what such a row gives a sector
  row_found : (row : DeliveryRow) (lbn : ℕ) → IsFound (medium_with disk latent replay) replay row → (last : ℕ × Content)
      → given lbn (event_of row) ≡ Some last → IsFoundAfter latent replay lbn last
  row_found row lbn is last gives = by (is_within row.block.lbn row.block.count lbn) refl
    where
      medium : Medium
      medium = medium_with disk latent replay

      held : ℕ → Content
      held l = content medium l row.begin

      value : given lbn (event_of row)
          ≡ option_map (λ c. (row.end, c)) (cond (is_within row.block.lbn row.block.count lbn) (Some (held lbn)) None)
      value = ap (option_map (λ c. (row.end, c))) (taken_block held row.block.lbn row.block.count lbn (sectors_of row.content) None
          (ap sectors_of is.bytes.content ∙ sectors_of-runs_of (contents_at medium row.block.lbn row.block.count row.begin)))

      here : IsBetween replay row.begin row.end → row.begin ≤ row.end → (row.end, held lbn) ≡ last → IsFoundAfter latent replay lbn last
      here between order same = subst (IsFoundAfter latent replay lbn) same (record {
        before = between.before;
        after = between.after;
        is = between.is;
        finished = all_weaker _ _ (λ (s : Served) h. omega (arith, h, order)) between.before between.finished;
        holds = ap (λ services. content (medium_with disk latent services) lbn row.begin) between.is
            ∙ content_then disk latent between.before between.after lbn row.begin between.passed
            (all_weaker _ _ (λ (w : Written) h. omega (arith, h, order)) (all_writes between.after) between.to_come);
        to_come = between.to_come;
      })

      by : (within : Bool) → is_within row.block.lbn row.block.count lbn ≡ within → IsFoundAfter latent replay lbn last
      by true within =
          let some : 0 < row.block.count = grind (arith, nat_tests) in
          here (is.between some) (is.order some) (same_Some (row.end, held lbn) last
          (sym (value ∙ ap (λ b. option_map (λ c. (row.end, c)) (cond b (Some (held lbn)) None)) within) ∙ gives))
      by false without =
          absurd (none-some last (sym (value ∙ ap (λ b. option_map (λ c. (row.end, c)) (cond b (Some (held lbn)) None)) without) ∙ gives))

  -- what deliveries give a sector
  pub rows_found : (lbn : ℕ) (rows : List BackRow) → RowsFit (IsFound (medium_with disk latent replay) replay) NoFact rows
      → AllByRecursion (λ event. (last : ℕ × Content) → given lbn event ≡ Some last → IsFoundAfter latent replay lbn last)
      (flat_map deliveries_in rows)
  rows_found lbn [] fit = tt
  rows_found lbn (Got row ∷ rows) fit = (row_found row lbn fit.0, rows_found lbn rows fit.1)
  rows_found lbn (_ ∷ rows) fit = rows_found lbn rows fit.1

-- ---- decision by decision

abbrev AnyBlock : Block → Type 0
AnyBlock block = Unit {0}

module _ (inputs : Inputs) (medium : Medium) (replay : List Served) (same_disk : medium.disk ≡ inputs.disk) where
  got_found : (past : Past) (step : Step) → IsPlaced medium.disk 0 replay (decision_in step) → IsPlanned inputs medium past step
      → IsDelivered inputs medium past step
      → AllByRecursion (IsFound medium replay) (map (λ (delivery : Delivery). delivery.got) step.deliveries)
  got_found past step placed planned some =
      all_weaker (IsDueRow medium.disk (contents_at medium) step.act AnyBlock) (IsFound medium replay) (λ row due_row.
      let lies = λ (some : 0 < row.block.count).
      due_quiet medium step.act AnyBlock placed.of_disk (subst (λ disk. HasPlan disk step.act) (sym same_disk) planned) row some due_row in
      record {
        bytes = due_bytes medium.disk (contents_at medium) step.act AnyBlock row due_row;
        order = λ some. (lies some).in_turn;
        between = λ some. between_within replay (instant_of (decision_in step)) (quiet_until (decision_in step)) row.begin row.end
            (lies some).begins (lies some).ends placed.between;
      })
      (map (λ (delivery : Delivery). delivery.got) step.deliveries)
      (delivery_true inputs medium past step AnyBlock some (all_any _ (λ _. tt) (wanted (chosen_past inputs past (decision_in step)))))

  steps_found : (past : Past) (steps : List Step) → AllByRecursion (IsPlaced medium.disk 0 replay) (decisions_in steps)
      → AtEach (IsPlanned inputs medium) inputs past steps → AtEach (IsDelivered inputs medium) inputs past steps
      → AtEach (IsTested inputs medium) inputs past steps
      → AtEach (λ past step. RowsFit (IsFound medium replay) NoFact (step_rows inputs.disk step)) inputs past steps
  steps_found past [] placed planned some is = tt
  steps_found past (step ∷ steps) placed planned some is = (
    gots_fit_step (IsFound medium replay) inputs medium past step is.0 (got_found past step placed.0 planned.0 some.0),
    steps_found (past_after inputs past step) steps placed.1 planned.1 some.1 is.1,
  )

-- ---- the end of the run

last_end : (head : Track) (now until : ℕ) → now ≤ end_of (last_decision head now until)
last_end head now until = elim (cases_Bool (nat_lt now until)) [
  | inl before ↦ let less : now < until = grind (arith, nat_tests) in rw before (omega arith)
  | inr passed ↦ rw passed (omega arith)
]

module _ (disk : Disk) (instants : List ℕ) (until : ℕ) where
  end_after : (head : Track) (now : ℕ) (replay : List Served) (end : ℕ) → AreServed disk now replay
      → now ≤ end_from end (decisions_from disk instants until head now replay)
  unfolding decisions_from
  end_after head now [] end are =
      let last = last_decision head (fold max now instants) until in
      omega (
        arith,
        fold-append (λ (end : ℕ) (decision : Decision). end_of decision) end (idle_until head now instants) (last ∷ []),
        greatest_from now instants,
        last_end head (fold max now instants) until,
      )
  end_after head now (served ∷ later) end are =
      let rest = decisions_from disk instants until (last_track disk served) (finish served) later in
      let idle = idle_until head now (filter (λ instant. nat_le instant served.start) instants) in
      omega (
        arith,
        fold-append (λ (end : ℕ) (decision : Decision). end_of decision) end idle (serves served ∷ rest),
        end_after (last_track disk served) (finish served) later (finish served) are.3,
        are.0,
        (served_between disk served are.1).0,
      )

  -- everything has been written by then
  all_passed : (head : Track) (now : ℕ) (replay : List Served) (end : ℕ) → AreServed disk now replay → AllByRecursion
      (λ (w : Written). w.passage.end ≤ end_from end (decisions_from disk instants until head now replay)) (all_writes replay)
  unfolding decisions_from
  all_passed head now [] end are = tt
  all_passed head now (served ∷ later) end are =
      let f = λ (end : ℕ) (decision : Decision). end_of decision in
      let rest = decisions_from disk instants until (last_track disk served) (finish served) later in
      let idle = idle_until head now (filter (λ instant. nat_le instant served.start) instants) in
      let over = end_after (last_track disk served) (finish served) later (finish served) are.3 in
      subst (λ over. AllByRecursion (λ (w : Written). w.passage.end ≤ over) (all_writes (served ∷ later)))
      (sym (fold-append f end idle (serves served ∷ rest)))
      (all_append (λ (w : Written). w.passage.end ≤ end_from (finish served) rest) (writes_of served) (all_writes later)
      (all_weaker _ _ (λ (w : Written) h. omega (arith, h, over)) (writes_of served) (ended disk served are.1))
      (all_passed (last_track disk served) (finish served) later (finish served) are.3))

-- ---- the law

-- the background of a full run, delivery by delivery
abbrev pub IsFoundIn : Inputs → DeliveryRow → Type 0
IsFoundIn inputs row = IsFound (medium_with inputs.disk inputs.latent (served inputs)) (served inputs) row

pub back_found : (inputs : Inputs) (run : Run) → IsSound inputs.disk.map → AreServed inputs.disk 0 (served inputs) → IsFull inputs run
    → RowsFit (IsFoundIn inputs) NoFact run.back
unfolding decisions medium_of
back_found inputs run sound are full =
    let medium = medium_with inputs.disk inputs.latent (served inputs) in
    let placed = subst (AllByRecursion (IsPlaced inputs.disk 0 (served inputs))) (sym full.sound.decided)
    (decisions_placed inputs.disk sound (instants_of inputs) inputs.until first_track 0 (served inputs) are) in
    back_fits (IsFoundIn inputs) NoFact inputs run full.steps full.sound
    (steps_found inputs medium (served inputs) refl [] full.steps placed full.sound.planned full.sound.deliveries full.sound.tested)

end_holds : (inputs : Inputs) (run : Run) (lbn : ℕ) → AreServed inputs.disk 0 (served inputs) → IsFull inputs run
    → survives inputs run lbn ≡ left_after inputs.latent (served inputs) lbn
unfolding decisions medium_of
end_holds inputs run lbn are full =
    ap (content (medium_with inputs.disk inputs.latent (served inputs)) lbn) full.sound.end
    ∙ ap (λ replay. content (medium_with inputs.disk inputs.latent replay) lbn (run_end (decisions inputs)))
    (sym (append-nil (served inputs)))
    ∙ content_then inputs.disk inputs.latent (served inputs) [] lbn (run_end (decisions inputs))
    (all_passed inputs.disk (instants_of inputs) inputs.until first_track 0 (served inputs) 0 are) tt

pub some_decided : (last : Option (ℕ × Content)) (held : Content) → given_content last ≡ Some held
    → (one : ℕ × Content) × (last ≡ Some one) × (one.1 ≡ held)
some_decided None held is = absurd (none-some held is)
some_decided (Some one) held is = (one, refl, same_Some one.1 held is)

pub held_survives : ForegroundListsAscend → OnePlainReplay → (inputs : Inputs) (run : Run) (lbn : ℕ) (held : Content)
    → IsSound inputs.disk.map → IsAccepted inputs → IsFull inputs run → held_after (events run) lbn ≡ Some held
    → held ≡ survives inputs run lbn
unfolding medium_of fore_rows
held_survives ascend one inputs run lbn held sound accepted full is =
    let are = are_served inputs accepted ascend one in
    let replay = served inputs in
    let medium = medium_with inputs.disk inputs.latent replay in
    let last = some_decided (decided lbn (events run)) held is in
    let found = one_decides (IsFoundAfter inputs.latent replay lbn) lbn (flat_map deliveries_in run.back)
    (rows_found inputs.disk inputs.latent replay lbn run.back (back_found inputs run sound are full)) in
    let fore = ap (λ rows. decided lbn (flat_map writes_in rows)) full.sound.fore in
    sym last.2
    ∙ survives_all inputs.disk medium inputs.latent lbn 0 replay last.0 are (decided lbn (wrote medium replay))
    (decided lbn (flat_map deliveries_in run.back)) refl found
    (sym (ap (λ d. later d (decided lbn (flat_map deliveries_in run.back))) fore)
    ∙ sym (decided-append lbn (flat_map writes_in run.fore) (flat_map deliveries_in run.back)) ∙ last.1)
    ∙ sym (end_holds inputs run lbn are full)
