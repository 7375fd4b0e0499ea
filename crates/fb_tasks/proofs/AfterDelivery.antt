-- The rows that follow a delivery, and the sessions after them.
use Rattle.fb_tasks.proofs.Words.{◌≡◌, ℕ, zero, suc, ◌+◌, ◌<◌, ◌≤◌, ◌==◌, ◌&&◌, if◌then◌else◌, List, [], ◌∷◌, ◌++◌, true, false, Some}
use Rattle.fb_tasks.proofs.Words.{None, Option, inl, inr, length, map, set, get_or, slice_get, append-nil, append_assoc, refl, ap, ap₂, sym}
use Rattle.fb_tasks.proofs.Words.{◌∙◌, arith, subst, AllByRecursion, flat_map, list_any, range_with_len, cases_Bool, true≢false, nat_tests}
use Rattle.fb_tasks.proofs.Words.{length-set, slice_get_within, slice_get-get_or, Shape, is_clean, option_map, BackRow, BackBad, BackGot}
use Rattle.fb_tasks.proofs.Words.{DeliveryRow, Deliver, Entry, Wanted, after, is_block, Content, Gives, Past, tested, delivered, tasks}
use Rattle.fb_tasks.proofs.Words.{terms_of, registered, is_seal_of, Choice, TaskView, view, delivered_view, is_unsealed, is_done}
use Rattle.fb_tasks.proofs.Words.{is_cleaned, delivered-silent, delivered-view, tested-view, same_number, test_rows_found}
use Rattle.fb_tasks.proofs.Words.{segment_rows_found}
use Rattle.fb_tasks.proofs.Words.{seal_rows_found, complete_rows, is_newly_cleaned, findings, is_scrub, bad_sectors, Session}
use Rattle.fb_tasks.proofs.Words.{rows_after, HasTaken, entry_of, choice_in, AreReported, MayFinish, IsBlockOf, IsAtWork, HoldsBlocks}
use Rattle.fb_tasks.proofs.Words.{Stands, Told, HasNoChoice, Tells, IsUpToDate, MayDeliver, all_get, ne_eqb, eqb-true, other_number}
use Rattle.fb_tasks.proofs.Words.{element_at, map_at, each_set, flat_none, all_range, HasBegun, Delivers, HasChosen, ends_of}
use Rattle.fb_tasks.proofs.Words.{StandsAfterTest}
use Rattle.fb_tasks.proofs.{RowsOf.rows-given, RowsOf.seals_given, RowsOf.findings-mute, Tested.up_to_date-tested, Tested.AreAllRows}
use Rattle.fb_tasks.proofs.{Tested.tells-tested, Tested.still-stands, Tested.no-ends, Frames.touched-tells, Deliveries.delivered-entries}
use Rattle.fb_tasks.proofs.{Deliveries.WasWanted, Deliveries.was_wanted, Deliveries.delivered-holds, Deliveries.delivered-stands}
use Rattle.fb_tasks.proofs.{Deliveries.at_work_now, States.seen, RowsOf.reported_rows}
use Rattle.fb_tasks.proofs.{Leaving.begun_after, Leaving.begun_longer, Leaving.begun_same}

-- where one number alone gives anything
flat_one : {X : Type 0} (f : ℕ → List X) (k a n : ℕ) → a ≤ k → k < a + n → ((j : ℕ) → a ≤ j → j < a + n → (j ≡ k → ⊥) → f j ≡ [])
    → flat_map f (range_with_len a n) ≡ f k
flat_one f k a zero from to others = absurd (omega arith)
flat_one f k a (suc n) from to others = elim (cases_Bool (a == k)) [
  | inl here ↦
      let e = eqb-true a k here in
      let rest = flat_none f (range_with_len (a + 1) n) (all_range (λ j. f j ≡ []) (a + 1) n
      (λ j after below. others j (omega arith) (omega arith) (λ same. absurd (omega (arith, e, same, after))))) in
      rw rest (append-nil (f a) ∙ ap f e)
  | inr other ↦
      let differ = other_number a k other in
      rw (others a (omega arith) (omega arith) differ)
      (flat_one f k (a + 1) n (grind (arith, nat_tests)) (omega arith) (λ j after below. others j (omega arith) (omega arith)))
]

module _ {disk : Shape} {past : Past} {sessions : List Session} {held : List Entry} (got : DeliveryRow)
    (may : MayDeliver disk past sessions held got) where
  pub placed : WasWanted past got.block
  placed = was_wanted past got.block may.index may.wanted

  pub opened : got.block.task < length (tasks past)
  opened = (all_get (IsBlockOf disk (length (tasks past)))
      (registered past) placed.index got.block may.tells.on_disk placed.registered_there).task

  pub within_sessions : got.block.task < length sessions
  within_sessions = omega (arith, opened, may.tells.as_many)

  module _ (task : ℕ) (other : got.block.task ≡ task → ⊥) (less : task < length (tasks past)) where
    silent : view (delivered got ∷ past) task ≡ view past task
    silent = delivered-silent past got task (ne_eqb got.block.task task other)

    told-other : (session : Session) → slice_get sessions task ≡ Some session → Told (view (delivered got ∷ past) task) session
    told-other session at = rw silent (may.tells.each task session at)

    there : (session : Session) × (slice_get sessions task ≡ Some session)
    there = element_at sessions task (subst (λ n. task < n) (sym may.tells.as_many) less)

    done-other : (is_unsealed (view past task) && is_done (view past task).work) ≡ false
    done-other = rw ((seen past task).unsealed, (seen past task).done) (sym (seals_given past 0 task)
        ∙ ap (list_any (is_seal_of task)) (may.up_to_date.no_rows 0))

    tested-other : (view past task).was_complete ≡ is_done (view past task).work
    tested-other = rw ((seen past task).was, (seen past task).done) (may.up_to_date.tested task)

    no_segments : (now : ℕ) → segment_rows_found (delivered got ∷ past) now task ≡ []
    no_segments now = reported_rows (delivered got ∷ past) now task (told-other there.0 there.1).reported

    no_ends : (now : ℕ) → (seal_rows_found (delivered got ∷ past) now task ++ complete_rows (delivered got ∷ past) now task) ≡ []
    no_ends now = no-ends (delivered got ∷ past) now task (rw silent done-other) (rw silent tested-other)

  -- the block's own task alone gives rows
  pub own-rows : (now : ℕ) → test_rows_found (delivered got ∷ past) now
      ≡ segment_rows_found (delivered got ∷ past) now got.block.task
      ++ (seal_rows_found (delivered got ∷ past) now got.block.task ++ complete_rows (delivered got ∷ past) now got.block.task)
  unfolding test_rows_found
  own-rows now = ap₂ (λ a b. a ++ b)
      (flat_one (segment_rows_found (delivered got ∷ past) now) got.block.task 0 (length (tasks past)) (omega arith) (omega (arith, opened))
      (λ j from less differ. no_segments j (λ e. differ (sym e)) (omega (arith, less)) now))
      (flat_one (λ task. seal_rows_found (delivered got ∷ past) now task ++ complete_rows (delivered got ∷ past) now task) got.block.task 0
      (length (tasks past)) (omega arith) (omega (arith, opened))
      (λ j from less differ. no_ends j (λ e. differ (sym e)) (omega (arith, less)) now))

  module _ (now : List Entry) (h : HoldsBlocks disk (delivered got ∷ past) now) where
    pub all-given : AreAllRows (delivered got ∷ past) (rows_after past got)
    all-given task =
        rows-given (delivered got ∷ past) got.end (findings past got) (findings-mute past got) task (λ more. (h.unopened task more).choices)

    pub up_to_date-delivered : IsUpToDate (tested (rows_after past got) ∷ delivered got ∷ past)
    up_to_date-delivered = up_to_date-tested (delivered got ∷ past) (rows_after past got) (λ task less. all-given task)

    other-tested : (task : ℕ) (session : Session) → (got.block.task ≡ task → ⊥) → slice_get sessions task ≡ Some session
        → (Stands (view (tested (rows_after past got) ∷ delivered got ∷ past) task) session)
        × (IsAtWork (view (tested (rows_after past got) ∷ delivered got ∷ past) task).work session)
    other-tested task session other at =
        let less : task < length (tasks past) = rw may.tells.as_many at (slice_get_within sessions task session at) in
        let told = told-other task other less session at in
        rw (tested-view (delivered got ∷ past) (rows_after past got) task)
        (still-stands task (view (delivered got ∷ past) task) (rows_after past got) (all-given task) session
        (rw (silent task other less) (done-other task other less))
        (told.complete ∙ rw (silent task other less) (tested-other task other less)) told.stands told.at_work)

    -- the sessions tell the history with its delivery and its test
    pub tells-delivered : (new : Session) → new.touched ≡ true
        → Stands (view (tested (rows_after past got) ∷ delivered got ∷ past) got.block.task) new
        → IsAtWork (view (tested (rows_after past got) ∷ delivered got ∷ past) got.block.task).work new
        → Tells disk (tested (rows_after past got) ∷ delivered got ∷ past) (set sessions got.block.task new) now
    tells-delivered new touched stands at_work =
        let after : Past = tested (rows_after past got) ∷ delivered got ∷ past in
        tells-tested (rows_after past got) (set sessions got.block.task new) h
        (length-set sessions got.block.task new ∙ may.tells.as_many) all-given
        (each_set (λ task session. (Stands (view after task) session) × (IsAtWork (view after task).work session)) sessions got.block.task
        new (stands, at_work) (λ task session other at. other-tested task session other at))
        (each_set (λ task session. session.touched ≡ false → HasNoChoice (view (delivered got ∷ past) task)) sessions got.block.task new
        (λ untouched. absurd (true≢false (sym touched ∙ untouched)))
        (λ task session other at untouched.
        let less : task < length (tasks past) = rw may.tells.as_many at (slice_get_within sessions task session at) in
        ((told-other task other less session at).quiet untouched).chosen))

-- before the test each cleaned segment but the chosen one has its row
module _ (v : TaskView) (got : DeliveryRow) (old mid : Session) (stands : Stands v old) (reported : AreReported v.work)
    (same : mid.log.unfinished ≡ old.log.unfinished) where
  abbrev IsSilent : Choice → Type 0
  IsSilent choice = (mid.log.unfinished ≡ Some choice.segment.number → ⊥) → is_newly_cleaned (delivered_view got v).work choice ≡ false

  chosen-silent : (done : List Choice) (current : Option Choice) → old.log.unfinished ≡ option_map (λ choice. choice.segment.number) current
      → AllByRecursion (λ choice. is_cleaned v.work choice ≡ true) done
      → AllByRecursion (λ choice. is_newly_cleaned v.work choice ≡ false) (done ++ choice_in current)
      → AllByRecursion IsSilent (done ++ choice_in current)
  chosen-silent [] None unfinished cleaned none = tt
  chosen-silent [] (Some current) unfinished cleaned none = ((λ not_it. absurd (not_it (same ∙ unfinished))), tt)
  chosen-silent (c ∷ cs) current unfinished cleaned none =
      ((λ _. grind (arith, cleaned.0, none.0)), chosen-silent cs current unfinished cleaned.1 none.1)

  pub others-silent : AllByRecursion IsSilent v.choices
  others-silent = elim (cases_Bool (is_clean old.kind)) [
    | inl cleans ↦ let log = stands.log cleans in
        rw log.chosen (chosen-silent log.done log.current log.unfinished log.cleaned (rw log.chosen at reported))
    | inr other ↦ rw (stands.unchosen other) tt
  ]

module _ {disk : Shape} {past : Past} {sessions : List Session} {held : List Entry} (got : DeliveryRow)
    (may : MayDeliver disk past sessions held got) where
  pub held-now : (now : List Entry) → now ≡ after got.block.task (Deliver got.block.index) held
      → HoldsBlocks disk (delivered got ∷ past) now
  held-now now is = delivered-holds disk past got held now (delivered-entries past got held now may.tells.entries is) may.tells.blocks

  pub wanted-entry : (e : Entry) × (i : ℕ) × (slice_get held i ≡ Some e) × (is_block got.block.task got.block.index e ≡ true)
      × (e.state ≡ Wanted)
  wanted-entry =
      let was = placed got may in (
        entry_of past got.block,
        was.index,
        ap (λ es. slice_get es was.index) may.tells.entries
            ∙ map_at (entry_of past) (registered past) was.index got.block was.registered_there,
        ap₂ (λ a b. a && b) (same_number got.block.task got.block.task refl) (same_number got.block.index got.block.index refl),
        was.shown_wanted,
      )

  -- its session may be touched before
  pub may-touched : {touched : List Session} → ((session : Session) → slice_get sessions got.block.task ≡ Some session
      → touched ≡ set sessions got.block.task (record session { touched = true })) → MayDeliver disk past touched held got
  may-touched flagged = record {
    tells = touched-tells sessions (within_sessions got may) flagged may.tells;
    up_to_date = may.up_to_date;
    index = may.index;
    wanted = may.wanted;
    content_at = may.content_at;
    content = may.content;
  }

  -- the session of the delivered block
  pub delivers : {items : List Session} {now : List Entry} {old : Session} → items ≡ sessions → old ≡ get_or items got.block.task old
      → now ≡ after got.block.task (Deliver got.block.index) held → Delivers disk past sessions held got old now
  delivers {items} {now} {old} same says is =
      let there = slice_get-get_or sessions got.block.task old (within_sessions got may) in
      record { may = may; at = there ∙ ap Some (sym (rw same at says)); is = is }

module _ {disk : Shape} {past : Past} {sessions : List Session} {held now : List Entry} {got : DeliveryRow} {old : Session}
    (t : Delivers disk past sessions held got old now) where
  told-own : Told (view past got.block.task) old
  told-own = t.may.tells.each got.block.task old t.at

  was : WasWanted past got.block
  was = placed got t.may

  pub busy-own : is_clean old.kind ≡ true → old.log.unfinished ≡ None → ⊥
  busy-own cleans idle =
      at_work_now (view past got.block.task) got was.own_place was.own_there was.bare old.log (told-own.stands.log cleans) idle

  module _ {mid : Session} (takes : (content_at : ℕ → Content) → Gives got.content content_at got.block.lbn got.block.count
      → HasTaken content_at got.block old mid) where
    taken : HasTaken t.may.content_at got.block old mid
    taken = takes t.may.content_at t.may.content

    may-finish : MayFinish disk (delivered got ∷ past) got.block.task mid now
    may-finish = record {
      blocks = held-now got t.may now t.is;
      stands = rw (delivered-view past got got.block.task refl)
          (delivered-stands (view past got.block.task) got was.own_place was.own_there was.bare
          t.may.content_at old mid (t.may.tells.placed got.block.task).numbered t.may.content taken told-own.stands);
      reported = rw (delivered-view past got got.block.task refl)
          (others-silent (view past got.block.task) got old mid told-own.stands told-own.reported
          (ap (λ (s : Session). s.log.unfinished) taken.same));
    }

    -- the rows of the session's test, one after the other
    module _ (rows : List BackRow) {with_got : List BackRow} {lbns : List ℕ}
        (is : lbns ≡ (if is_scrub mid.kind then bad_sectors got.content else [])) (pushed : with_got ≡ rows ++ BackGot got ∷ []) where
      abbrev found : List BackRow
      found = map (λ lbn. BackBad (record { task = got.block.task; lbn = lbn })) lbns

      abbrev segments : List BackRow
      segments = segment_rows_found (delivered got ∷ past) got.end got.block.task

      abbrev ends : List BackRow
      ends = ends_of (delivered got ∷ past) got.end got.block.task

      -- its findings are those of its session
      findings_same : found ≡ findings past got
      findings_same =
          let kind : (terms_of past got.block.task).kind ≡ mid.kind =
          ap (λ t. t.kind) (sym (seen past got.block.task).terms ∙ told-own.stands.terms) ∙ sym (ap (λ (s : Session). s.kind) taken.same) in
          rw (kind, is) (grind arith)

      due_is : BackGot got ∷ rows_after past got ≡ ((BackGot got ∷ found) ++ segments) ++ ends
      due_is = ap (λ more. BackGot got ∷ findings past got ++ more) (own-rows got t.may got.end)
          ∙ ap (λ rows. BackGot got ∷ rows) (ap (λ rows. rows ++ (segments ++ ends)) (sym findings_same)
          ∙ sym (append_assoc found segments ends))

      due : {new : List BackRow} → HasBegun rows (((BackGot got ∷ found) ++ segments) ++ ends) new
          → HasBegun rows (BackGot got ∷ rows_after past got) new
      due {new} h = subst (λ due. HasBegun rows due new) (sym due_is) h

      pub begun-findings : {new : List BackRow} → HasBegun with_got found new → HasBegun rows (BackGot got ∷ rows_after past got) new
      begun-findings h = due (begun_longer ends (begun_longer segments (begun_after (BackGot got ∷ []) pushed h)))

      module _ {with_findings : List BackRow} (added : with_findings ≡ with_got ++ found) where
        all_found : with_findings ≡ rows ++ (BackGot got ∷ found)
        all_found = rw (added, pushed) (append_assoc rows (BackGot got ∷ []) found)

        pub begun-segment : {new : List BackRow} → new ≡ with_findings → HasBegun rows (BackGot got ∷ rows_after past got) new
        begun-segment none = due (begun_longer ends (begun_after (BackGot got ∷ found) all_found (begun_same none)))

        module _ {with_segment : List BackRow} {finished : Session}
            (finishes : (disk : Shape) (past : Past) → MayFinish disk past got.block.task mid now
            → (Stands (view past got.block.task) finished) × (IsAtWork (view past got.block.task).work finished)
            × (with_segment ≡ with_findings ++ segment_rows_found past got.end got.block.task)) where
          pub has-chosen : HasChosen disk (delivered got ∷ past) got.block.task finished now
          has-chosen =
              let is = finishes disk (delivered got ∷ past) may-finish in
              record { blocks = held-now got t.may now t.is; stands = is.0; at_work = is.1 }

          with_all : with_segment ≡ rows ++ ((BackGot got ∷ found) ++ segments)
          with_all = (finishes disk (delivered got ∷ past) may-finish).2
              ∙ (ap (λ rows. rows ++ segments) all_found ∙ append_assoc rows (BackGot got ∷ found) segments)

          pub begun-ends : {new : List BackRow} → ((disk : Shape) (past : Past) → HasChosen disk past got.block.task finished now
              → HasBegun with_segment (ends_of past got.end got.block.task) new) → HasBegun rows (BackGot got ∷ rows_after past got) new
          begun-ends begins = due (begun_after ((BackGot got ∷ found) ++ segments) with_all (begins disk (delivered got ∷ past) has-chosen))

          pub has-delivered : {new : Session} {more : List BackRow}
              → ((disk : Shape) (past : Past) → HasChosen disk past got.block.task finished now
              → StandsAfterTest past got.block.task got.end new with_segment more)
              → (Stands (view (tested (rows_after past got) ∷ delivered got ∷ past) got.block.task) new)
              × (IsAtWork (view (tested (rows_after past got) ∷ delivered got ∷ past) got.block.task).work new)
              × (more ≡ rows ++ BackGot got ∷ rows_after past got)
          has-delivered tests =
              let is = tests disk (delivered got ∷ past) has-chosen in
              let own = is.session (rows_after past got) (all-given got t.may now (held-now got t.may now t.is) got.block.task) in (
                own.0,
                own.1,
                is.rows ∙ (ap (λ rows. rows ++ ends) with_all
                    ∙ (append_assoc rows ((BackGot got ∷ found) ++ segments) ends ∙ ap (λ due. rows ++ due) (sym due_is))),
              )
