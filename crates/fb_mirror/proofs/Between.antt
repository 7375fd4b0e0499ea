-- When decisions and their deliveries are: all writes have passed before, or pass after.
use Rattle.fb_mirror.proofs.Words.{◌≡◌, ℕ, ◌<◌, ◌≤◌, max, List, [], ◌∷◌, ◌++◌, Bool, true, false, refl, ap, arith, inl, inr, nat_le}
use Rattle.fb_mirror.proofs.Words.{filter, nat_lt, if◌then◌else◌, AllByRecursion, fold, cases_Bool, nat_tests, all_any, all_weaker}
use Rattle.fb_mirror.proofs.Words.{all_append, Track, is_by, IsSound, Disk, Block, DeliveryRow, Served, finish, last_track, media}
use Rattle.fb_mirror.proofs.Words.{contents_at, Medium, Written, writes_of, Decision, serves, instant_of, Act, decision_of, idle_until}
use Rattle.fb_mirror.proofs.Words.{last_decision, decisions_from, HasPlan, IsDueRow, IsServiceOf, LiesOnDisk, greatest_from}
use Rattle.fb_units.proofs.Each.{all_pass}
use Rattle.fb_model.specs.Decisions.{idles, ends}
use Rattle.fb_model.proofs.Passages.{media_by}
use Rattle.fb_model.proofs.DecisionsUpTo.{IsMade}
use Rattle.fb_model.proofs.DueUpTo.{LiesBetween, DeliversBy, due_between}
use Rattle.fb_mirror.proofs.Writing.{AreServed, all_late, all_writes, ended, free_until, free_within, late}

-- from one instant to another nothing is written: what the first services write has passed by then, and what the others write passes later
pub record IsBetween (replay : List Served) (from to : ℕ) : Type 0 where
  pub before : List Served
  pub after : List Served
  pub is : replay ≡ before ++ after
  pub finished : AllByRecursion (λ (s : Served). finish s ≤ from) before
  pub passed : AllByRecursion (λ (w : Written). w.passage.end ≤ from) (all_writes before)
  pub to_come : AllByRecursion (λ (w : Written). to < w.passage.end) (all_writes after)

-- it is so in a part of the time too
pub between_within : (replay : List Served) (from to begin end : ℕ) → from ≤ begin → end ≤ to → IsBetween replay from to
    → IsBetween replay begin end
between_within replay from to begin end later earlier is = record {
  before = is.before;
  after = is.after;
  is = is.is;
  finished = all_weaker _ _ (λ (s : Served) h. omega (arith, h, later)) is.before is.finished;
  passed = all_weaker _ _ (λ (w : Written) h. omega (arith, h, later)) (all_writes is.before) is.passed;
  to_come = all_weaker _ _ (λ (w : Written) h. omega (arith, h, earlier)) (all_writes is.after) is.to_come;
}

-- ---- decisions

-- until when a decision writes nothing
abbrev pub quiet_until : Decision → ℕ
quiet_until (serves served) = free_until served
quiet_until (idles dwell) = dwell.end
quiet_until (ends now) = now

abbrev pub IsOfDisk : Disk → Decision → Type 0
IsOfDisk disk (serves served) = IsServiceOf disk served × LiesOnDisk disk.map served.request
IsOfDisk disk (idles dwell) = Unit {0}
IsOfDisk disk (ends now) = Unit {0}

-- how a decision lies among the services that begin at an instant or later
pub record IsPlaced (disk : Disk) (now : ℕ) (replay : List Served) (decision : Decision) : Type 0 where
  pub from : now ≤ instant_of decision
  pub of_disk : IsOfDisk disk decision
  pub between : IsBetween replay (instant_of decision) (quiet_until decision)

idle_all : (P : Decision → Type 0) (Q : ℕ → Type 0) (head : Track) (now : ℕ) (instants : List ℕ)
    → ((begin end : ℕ) → now ≤ begin → Q end → P (idles (record { track = head; begin = begin; end = end })))
    → AllByRecursion Q instants → AllByRecursion P (idle_until head now instants)
idle_all P Q head now [] each all = tt
idle_all P Q head now (x ∷ instants) each all = elim (cases_Bool (nat_lt now x)) [
  | inl before ↦
      let less : now < x = grind (arith, nat_tests) in
      rw before (each now x (omega arith) all.0, idle_all P Q head x instants (λ begin end from is. each begin end (omega arith) is) all.1)
  | inr passed ↦ rw passed (idle_all P Q head now instants each all.1)
]

pub kept_by : (t : ℕ) (instants : List ℕ) → AllByRecursion (λ x. x ≤ t) (filter (λ instant. nat_le instant t) instants)
kept_by t instants = all_weaker _ _ (λ x. is_by x t) _ (all_pass (λ instant. nat_le instant t) instants)

-- where all that is written passes later
none_before : (replay : List Served) (from to : ℕ) → AllByRecursion (λ (w : Written). to < w.passage.end) (all_writes replay)
    → IsBetween replay from to
none_before replay from to passes = record { before = []; after = replay; is = refl; finished = tt; passed = tt; to_come = passes }

last_placed : (disk : Disk) (head : Track) (now last until : ℕ) → now ≤ last → IsPlaced disk now [] (last_decision head last until)
last_placed disk head now last until from = elim (cases_Bool (nat_lt last until)) [
  | inl before ↦ rw before (record { from = from; of_disk = tt; between = none_before _ _ _ tt })
  | inr passed ↦ rw passed (record { from = from; of_disk = tt; between = none_before _ _ _ tt })
]

-- what comes behind a service is placed behind it
placed_behind : (disk : Disk) (now : ℕ) (served : Served) (later : List Served) (decision : Decision) → now ≤ finish served
    → IsServiceOf disk served → IsPlaced disk (finish served) later decision
    → IsPlaced disk now (served ∷ later) decision
placed_behind disk now served later decision order is placed =
    let from = placed.from in record {
      from = omega (arith, order, from);
      of_disk = placed.of_disk;
      between = record {
        before = served ∷ placed.between.before;
        after = placed.between.after;
        is = ap (λ rest. served ∷ rest) placed.between.is;
        finished = (from, placed.between.finished);
        passed = all_append (λ (w : Written). w.passage.end ≤ instant_of decision) (writes_of served) (all_writes placed.between.before)
            (all_weaker _ _ (λ (w : Written) h. omega (arith, h, from)) (writes_of served) (ended disk served is)) placed.between.passed;
        to_come = placed.between.to_come;
      };
    }

module _ (disk : Disk) (sound : IsSound disk.map) where
  -- what a service and those behind it write passes later
  all_to_come : (to : ℕ) (served : Served) (later : List Served) → IsServiceOf disk served → LiesOnDisk disk.map served.request
      → AreServed disk (finish served) later → to ≤ free_until served
      → AllByRecursion (λ (w : Written). to < w.passage.end) (all_writes (served ∷ later))
  all_to_come to served later is lies are order =
      let within = free_within disk served is lies in
      all_append (λ (w : Written). to < w.passage.end) (writes_of served) (all_writes later)
      (all_weaker _ _ (λ (w : Written) h. omega (arith, h, order)) (writes_of served) (late disk sound served is lies))
      (all_weaker _ _ (λ (w : Written) h. omega (arith, h, order, within.1)) (all_writes later)
      (all_late disk sound (finish served) later are))

  pub decisions_placed : (instants : List ℕ) (until : ℕ) (head : Track) (now : ℕ) (replay : List Served) → AreServed disk now replay
      → AllByRecursion (IsPlaced disk now replay) (decisions_from disk instants until head now replay)
  unfolding decisions_from
  decisions_placed instants until head now [] are =
      all_append (IsPlaced disk now []) (idle_until head now instants) (last_decision head (fold max now instants) until ∷ [])
      (idle_all (IsPlaced disk now []) (λ x. Unit {0}) head now instants
      (λ begin end from is. record { from = from; of_disk = tt; between = none_before _ _ _ tt }) (all_any _ (λ _. tt) instants))
      (last_placed disk head now (fold max now instants) until (greatest_from now instants), tt)
  decisions_placed instants until head now (served ∷ later) are =
      let within = free_within disk served are.1 are.2 in
      all_append (IsPlaced disk now (served ∷ later)) (idle_until head now (filter (λ instant. nat_le instant served.start) instants))
      (serves served ∷ decisions_from disk instants until (last_track disk served) (finish served) later)
      (idle_all (IsPlaced disk now (served ∷ later)) (λ x. x ≤ served.start) head now
      (filter (λ instant. nat_le instant served.start) instants)
      (λ begin end from is. record {
        from = from;
        of_disk = tt;
        between = none_before _ _ _ (all_to_come end served later are.1 are.2 are.3 (omega (arith, is, within.0)));
      })
      (kept_by served.start instants)) (
        record {
          from = are.0;
          of_disk = (are.1, are.2);
          between = none_before _ _ _ (all_to_come (free_until served) served later are.1 are.2 are.3 (omega arith));
        },
        all_weaker (IsPlaced disk (finish served) later) (IsPlaced disk now (served ∷ later))
            (λ decision placed. placed_behind disk now served later decision (omega (arith, are.0, within.0, within.1)) are.1 placed)
            (decisions_from disk instants until (last_track disk served) (finish served) later)
            (decisions_placed instants until (last_track disk served) (finish served) later are.3),
      )

-- ---- deliveries

-- a read is over at its finish, and a write begins to pass at its media
media_free : (served : Served) → media served ≤ finish served → media served ≤ free_until served
media_free served order = by served.request.write
  where
    by : (write : Bool) → media served ≤ (if write then media served else finish served)
    by true = omega arith
    by false = order

read_free : (served : Served) → served.request.write ≡ false → finish served ≤ free_until served
read_free served reads = rw reads (omega arith)

quiet_delivers : (disk : Disk) (decision : Decision) → IsOfDisk disk decision → DeliversBy (quiet_until decision) decision
quiet_delivers disk (serves served) of_disk = (media_free served (media_by disk served of_disk.0), read_free served)
quiet_delivers disk (idles dwell) of_disk = omega arith
quiet_delivers disk (ends now) of_disk = tt

made_of : (disk : Disk) (decision : Decision) → IsOfDisk disk decision → IsMade disk decision
made_of disk (serves served) of_disk = of_disk.0
made_of disk (idles dwell) of_disk = tt
made_of disk (ends now) of_disk = tt

-- what is due at a decision is delivered before the decision writes
pub due_quiet : (medium : Medium) (act : Act) (Q : Block → Type 0)
    → IsOfDisk medium.disk (decision_of act) → HasPlan medium.disk act → (row : DeliveryRow) → 0 < row.block.count
    → IsDueRow medium.disk (contents_at medium) act Q row
    → LiesBetween (instant_of (decision_of act)) (quiet_until (decision_of act)) row
due_quiet medium act Q of_disk is row some due_row =
    due_between medium.disk (contents_at medium) act Q (quiet_until (decision_of act))
    (made_of medium.disk (decision_of act) of_disk) is (quiet_delivers medium.disk (decision_of act) of_disk) row some due_row
