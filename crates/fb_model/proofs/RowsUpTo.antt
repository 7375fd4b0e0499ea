-- Which rows are known by an instant: none of a test or a delivery after it. And what is known by then is the same where the disk holds the
-- same.
use Rattle.fb_model.proofs.Words.{◌≡◌, ℕ, ◌<◌, ◌≤◌, List, [], ◌∷◌, ◌++◌, map, refl, ap, ap₂, sym, subst, ◌∙◌, arith, append_assoc, Bool}
use Rattle.fb_model.proofs.Words.{true, false, inl, inr, nat_le, filter, ◌&&◌, if◌then◌else◌, AllByRecursion, cases_Bool, after_is}
use Rattle.fb_model.proofs.Words.{is_after, is_by, all_dropped, all_weaker, not_none, same_first, same_rest, none_kept, flat_map_same}
use Rattle.fb_model.proofs.Words.{same_map, runs_of, Block, is_delivered, BackRow, DeliveryRow, Medium, contents_at, Past, delivered}
use Rattle.fb_model.proofs.Words.{task_numbers, terms_of, blocks_of, same_block, is_open_backup, Choice, choices, work, is_complete}
use Rattle.fb_model.proofs.Words.{bad_sectors, is_scrub, findings, held_at_delivery, packed, is_newly_cleaned, segment_rows, image}
use Rattle.fb_model.proofs.Words.{segment_row, seal_rows, complete_rows, test_rows, Delivery, with_delivery, task_row, task_rows}
use Rattle.fb_model.proofs.Words.{delivery_rows, AreFollowed, only_if, known_from}
use Rattle.fb_rows.specs.declared.back.BackRow.TheVariants.{Got as BackGot, Bad as BackBad, Seal as BackSeal}
use Rattle.fb_model.specs.Known.{is_known, follows_known}
use Rattle.fb_model.proofs.FullRuns.{gots}
use Rattle.fb_model.proofs.ContentsUpTo.{HoldSame, same_contents}
use Rattle.fb_model.proofs.HistoriesUpTo.{AreFine, HasBegun}
use Rattle.fb_model.proofs.EachRow.{tests_have}

-- ---- rows that are known

-- nothing of these rows is known
abbrev pub AreUnknown : ℕ → List BackRow → Type 0
AreUnknown t rows = (follows : Bool) → known_from t follows rows ≡ []

-- the same of both is known
abbrev pub AreKnownAlike : ℕ → List BackRow → List BackRow → Type 0
AreKnownAlike t xs ys = (follows : Bool) → known_from t follows xs ≡ known_from t follows ys

-- the row isn't known, whatever it follows
abbrev pub IsUnknown : ℕ → BackRow → Type 0
IsUnknown t row = (follows : Bool) → is_known t follows row ≡ false

module _ (t : ℕ) where
  pub unknown_before : (rows more : List BackRow) → AllByRecursion (IsUnknown t) rows → AreUnknown t more → AreUnknown t (rows ++ more)
  unknown_before [] more all h = h
  unknown_before (row ∷ rows) more all h = λ follows.
      ap (λ b. only_if b row (known_from t (follows_known t follows row) (rows ++ more))) (all.0 follows)
      ∙ unknown_before rows more all.1 h (follows_known t follows row)

  pub alike_behind : (rows xs ys : List BackRow) → AreKnownAlike t xs ys → AreKnownAlike t (rows ++ xs) (rows ++ ys)
  alike_behind [] xs ys h = h
  alike_behind (row ∷ rows) xs ys h =
      λ follows. ap (only_if (is_known t follows row) row) (alike_behind rows xs ys h (follows_known t follows row))

  -- a test after t
  pub tests_unknown : (medium : Medium) (past : Past) (now : ℕ) → t < now → AllByRecursion (IsUnknown t) (test_rows medium past now)
  tests_unknown medium past now h =
      let late : nat_le now t ≡ false = after_is now t h in
      tests_have medium (IsUnknown t) now past (record {
        segments = λ task choice opened follows. late;
        seals = λ task opened is_open done follows. late;
        completes = λ task opened follows. late;
      })

  pub tasks_unknown : (past : Past) → AreUnknown t (task_rows past)
  unfolding task_rows
  tasks_unknown past = each (task_numbers past)
    where
      each : (tasks : List ℕ) → AreUnknown t (map (task_row past) tasks)
      each [] = λ follows. refl
      each (task ∷ tasks) = λ follows. each tasks false

  -- findings that follow what isn't known
  sectors_unknown : (task : ℕ) (lbns : List ℕ) (more : List BackRow) → AreUnknown t more
      → known_from t false (map (λ lbn. BackBad (record { task = task; lbn = lbn })) lbns ++ more) ≡ []
  sectors_unknown task [] more h = h false
  sectors_unknown task (lbn ∷ lbns) more h = sectors_unknown task lbns more h

  findings_unknown : (b : Bool) (task : ℕ) (lbns : List ℕ) (more : List BackRow) → AreUnknown t more
      → known_from t false ((if b then map (λ lbn. BackBad (record { task = task; lbn = lbn })) lbns else []) ++ more) ≡ []
  findings_unknown true task lbns more h = sectors_unknown task lbns more h
  findings_unknown false task lbns more h = h false

  -- a delivery after t, and what follows it
  delivery_unknown : (medium : Medium) (past next : Past) (got : DeliveryRow) (more : List BackRow) → t < got.end → AreUnknown t more
      → AreUnknown t (BackGot got ∷ (findings past got ++ test_rows medium next got.end) ++ more)
  delivery_unknown medium past next got more h unknown = λ follows.
      let late : nat_le got.end t ≡ false = after_is got.end t h in
      ap (λ b. only_if b (BackGot got) (known_from t b ((findings past got ++ test_rows medium next got.end) ++ more))) late
      ∙ (ap (known_from t false) (append_assoc (findings past got) (test_rows medium next got.end) more)
      ∙ findings_unknown (is_scrub (terms_of past got.block.task).kind) got.block.task (bad_sectors got.content)
      (test_rows medium next got.end ++ more)
      (unknown_before (test_rows medium next got.end) more (tests_unknown medium next got.end h) unknown))

module _ (t : ℕ) (medium : Medium) where
  pub deliveries_unknown : (past : Past) (deliveries : List Delivery) (more : List BackRow) → AreFollowed medium past deliveries
      → AllByRecursion (λ (row : DeliveryRow). t < row.end) (gots deliveries)
      → AreUnknown t more → AreUnknown t (delivery_rows deliveries ++ more)
  deliveries_unknown past [] more followed late h = h
  deliveries_unknown past (d ∷ ds) more followed late h =
      subst (AreUnknown t) (sym (append_assoc (BackGot d.got ∷ d.after) (delivery_rows ds) more))
      (subst (λ after. AreUnknown t (BackGot d.got ∷ after ++ (delivery_rows ds ++ more))) (sym followed.0)
      (delivery_unknown t medium past (delivered d.got ∷ past) d.got (delivery_rows ds ++ more) late.0
      (deliveries_unknown (with_delivery past d) ds more followed.1 late.1 h)))

-- ---- tests by then give the same rows where the disk holds the same

-- the delivery begins and ends by then
abbrev pub IsOver : ℕ → DeliveryRow → Type 0
IsOver done row = (row.begin ≤ done) × (row.end ≤ done)

module _ (done : ℕ) (a b : Medium) (same : HoldSame done a b) where
  same_held : (past : Past) (block : Block) → AreFine (HasBegun done) past
      → held_at_delivery a past block ≡ held_at_delivery b past block
  same_held [] block fine = refl
  same_held (delivered row ∷ past) block fine = ap₂ (λ x y. if same_block row.block block then x else y)
      (same_contents done a b same block.lbn block.count row.begin fine.0) (same_held past block fine.1)
  same_held (_ ∷ past) block fine = same_held past block fine.1

  same_packed : (past : Past) (choice : Choice) → AreFine (HasBegun done) past → packed a past choice ≡ packed b past choice
  same_packed past choice fine =
      ap runs_of (flat_map_same (held_at_delivery a past) (held_at_delivery b past) (λ block. same_held past block fine) choice.blocks)

  same_image : (past : Past) (task now : ℕ) → now ≤ done → image a past task now ≡ image b past task now
  same_image past task now h = ap runs_of (flat_map_same (λ (block : Block). contents_at a block.lbn block.count now)
      (λ (block : Block). contents_at b block.lbn block.count now)
      (λ block. same_contents done a b same block.lbn block.count now h)
      (filter (λ block. is_delivered ((work past task).bare block)) (blocks_of past task)))

  same_segments : (past : Past) (now task : ℕ) → AreFine (HasBegun done) past
      → segment_rows (packed a past) past now task ≡ segment_rows (packed b past) past now task
  same_segments past now task fine = same_map
      (λ (choice : Choice). segment_row now task (packed a past choice) choice)
      (λ (choice : Choice). segment_row now task (packed b past choice) choice)
      (λ choice. ap (λ content. segment_row now task content choice) (same_packed past choice fine))
      (filter (is_newly_cleaned (work past task)) (choices past task))

  same_seals : (past : Past) (now task : ℕ) → now ≤ done
      → seal_rows (image a past task now) past now task ≡ seal_rows (image b past task now) past now task
  same_seals past now task h = ap (λ content. if is_open_backup past task && is_complete past task
      then BackSeal (record { task = task; instant = now; content = content }) ∷ [] else []) (same_image past task now h)

  pub same_tests : (past : Past) (now : ℕ) → AreFine (HasBegun done) past → now ≤ done → test_rows a past now ≡ test_rows b past now
  unfolding test_rows
  same_tests past now fine h = ap₂ (λ segments others. segments ++ others)
      (flat_map_same (segment_rows (packed a past) past now) (segment_rows (packed b past) past now)
      (λ task. same_segments past now task fine) (task_numbers past))
      (flat_map_same (λ task. seal_rows (image a past task now) past now task ++ complete_rows past now task)
      (λ task. seal_rows (image b past task now) past now task ++ complete_rows past now task)
      (λ task. ap (λ rows. rows ++ complete_rows past now task) (same_seals past now task h)) (task_numbers past))

  same_after : (past : Past) (got : DeliveryRow) → AreFine (HasBegun done) past → IsOver done got
      → findings past got ++ test_rows a (delivered got ∷ past) got.end ≡ findings past got ++ test_rows b (delivered got ∷ past) got.end
  same_after past got fine over = ap (λ rows. findings past got ++ rows) (same_tests (delivered got ∷ past) got.end (over.0, fine) over.1)

  pub same_followed : (past : Past) (deliveries : List Delivery) → AreFine (HasBegun done) past
      → AllByRecursion (IsOver done) (gots deliveries) → AreFollowed b past deliveries → AreFollowed a past deliveries
  same_followed past [] fine over followed = tt
  same_followed past (d ∷ ds) fine over followed = (
    followed.0 ∙ sym (same_after past d.got fine over.0),
    same_followed (with_delivery past d) ds (tt, (over.0.0, fine)) over.1 followed.1,
  )

-- ---- deliveries of a dwell that is under way: those that end by t are the same

abbrev pub ends_by_then : ℕ → DeliveryRow → Bool
ends_by_then t row = nat_le row.end t

-- they stand in the order of their ends
abbrev pub RisingEnds : List DeliveryRow → Type 0
RisingEnds [] = Unit {0}
RisingEnds (row ∷ rows) = AllByRecursion (λ (later : DeliveryRow). row.end ≤ later.end) rows × RisingEnds rows

ends_late : (t : ℕ) (rows : List DeliveryRow) → AllByRecursion (λ row. ends_by_then t row ≡ false) rows
    → AllByRecursion (λ (row : DeliveryRow). t < row.end) rows
ends_late t = all_weaker _ _ (λ (row : DeliveryRow). is_after row.end t)

pub rest_late : (t : ℕ) (row : DeliveryRow) (rows : List DeliveryRow) → RisingEnds (row ∷ rows) → ends_by_then t row ≡ false
    → AllByRecursion (λ (row : DeliveryRow). t < row.end) (row ∷ rows)
rest_late t row rows rising late =
    let h = is_after row.end t late in
    (h, all_weaker _ _ (λ later from. omega (arith, from, h)) rows rising.0)

late_kept : (t : ℕ) (rows : List DeliveryRow) → AllByRecursion (λ (row : DeliveryRow). t < row.end) rows → filter (ends_by_then t) rows ≡ []
late_kept t rows all = none_kept (ends_by_then t) rows (all_weaker _ _ (λ (row : DeliveryRow). after_is row.end t) rows all)

module _ (t done : ℕ) (since : t ≤ done) (a b : Medium) (same : HoldSame done a b) where
  pub alike_deliveries : (past : Past) (xs ys : List Delivery) (more_x more_y : List BackRow) → AreFine (HasBegun done) past
      → AreFollowed a past xs → AreFollowed b past ys
      → RisingEnds (gots xs) → RisingEnds (gots ys) → AllByRecursion (λ (row : DeliveryRow). row.begin ≤ row.end) (gots xs)
      → filter (ends_by_then t) (gots xs) ≡ filter (ends_by_then t) (gots ys) → AreUnknown t more_x → AreUnknown t more_y
      → AreKnownAlike t (delivery_rows xs ++ more_x) (delivery_rows ys ++ more_y)
  alike_deliveries past [] ys more_x more_y fine follow_x follow_y rising_x rising_y order e unknown_x unknown_y = λ follows.
      unknown_x follows ∙ sym (deliveries_unknown t b past ys more_y follow_y
      (ends_late t (gots ys) (all_dropped (ends_by_then t) (gots ys) (sym e))) unknown_y follows)
  alike_deliveries past (x ∷ xs) [] more_x more_y fine follow_x follow_y rising_x rising_y order e unknown_x unknown_y = λ follows.
      deliveries_unknown t a past (x ∷ xs) more_x follow_x (ends_late t (gots (x ∷ xs))
      (all_dropped (ends_by_then t) (gots (x ∷ xs)) e)) unknown_x follows ∙ sym (unknown_y follows)
  alike_deliveries past (x ∷ xs) (y ∷ ys) more_x more_y fine follow_x follow_y rising_x rising_y order e unknown_x unknown_y =
      elim (cases_Bool (ends_by_then t x.got)) [
        | inl by_x ↦
            let kept : x.got ∷ filter (ends_by_then t) (gots xs) ≡ filter (ends_by_then t) (gots (y ∷ ys)) = rw by_x at e in
            elim (cases_Bool (ends_by_then t y.got)) [
              | inl by_y ↦
                  let both : x.got ∷ filter (ends_by_then t) (gots xs) ≡ y.got ∷ filter (ends_by_then t) (gots ys) = rw by_y at kept in
                  let got = same_first x.got y.got (filter (ends_by_then t) (gots xs)) (filter (ends_by_then t) (gots ys)) both in
                  let end : x.got.end ≤ t = is_by x.got.end t by_x in
                  let over : IsOver done x.got = (let from = order.0 in omega arith, omega arith) in
                  let after : x.after ≡ y.after = follow_x.0 ∙ (same_after done a b same past x.got fine over
                  ∙ (ap (λ got. findings past got ++ test_rows b (delivered got ∷ past) got.end) got ∙ sym follow_y.0)) in
                  let one : x ≡ y = ap₂ (λ got after. record { got = got; after = after }) got after in
                  subst (λ d. AreKnownAlike t (delivery_rows (x ∷ xs) ++ more_x) (delivery_rows (d ∷ ys) ++ more_y)) one
                  (λ follows. ap (known_from t follows) (append_assoc (BackGot x.got ∷ x.after) (delivery_rows xs) more_x)
                  ∙ (alike_behind t (BackGot x.got ∷ x.after) (delivery_rows xs ++ more_x) (delivery_rows ys ++ more_y)
                  (alike_deliveries (with_delivery past x) xs ys more_x more_y (tt, (over.0, fine)) follow_x.1
                  (subst (λ d. AreFollowed b (with_delivery past d) ys) (sym one) follow_y.1)
                  rising_x.1 rising_y.1 order.1 (same_rest x.got y.got (filter (ends_by_then t) (gots xs))
                  (filter (ends_by_then t) (gots ys)) both) unknown_x unknown_y) follows
                  ∙ sym (ap (known_from t follows) (append_assoc (BackGot x.got ∷ x.after) (delivery_rows ys) more_y))))
              | inr late_y ↦ absurd (not_none x.got (filter (ends_by_then t) (gots xs))
                  (kept ∙ late_kept t (gots (y ∷ ys)) (rest_late t y.got (gots ys) rising_y late_y)))
            ]
        | inr late_x ↦
            let late = rest_late t x.got (gots xs) rising_x late_x in
            let none = late_kept t (gots (x ∷ xs)) late in
            λ follows.
            deliveries_unknown t a past (x ∷ xs) more_x follow_x late unknown_x follows
            ∙ sym (deliveries_unknown t b past (y ∷ ys) more_y follow_y
            (ends_late t (gots (y ∷ ys)) (all_dropped (ends_by_then t) (gots (y ∷ ys)) (sym e ∙ none))) unknown_y follows)
      ]
