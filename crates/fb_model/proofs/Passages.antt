-- The passages of a service: one after another between its start and its finish, each for some time.
use Rattle.fb_model.proofs.Words.{◌≡◌, ℕ, zero, suc, ◌+◌, ◌-◌, ◌<◌, ◌≤◌, List, [], ◌∷◌, ◌++◌, length, refl, ap, sym, subst, ◌∙◌, arith}
use Rattle.fb_model.proofs.Words.{Bool, Some, true, false, inl, inr, nat_le, slice_get, ◌==◌, AllByRecursion, fold, cases_Bool, nat_tests}
use Rattle.fb_model.proofs.Words.{all_weaker, all_append, Track, Place, Request, all_both, all_map, Zone, Shape, slots_at, places, IsSound}
use Rattle.fb_model.proofs.Words.{place_at, track_at, has_place, pos, Action, Promote, Call, AreAllowed, MayAsk, Disk, Passage, begin_from}
use Rattle.fb_model.proofs.Words.{length_of, passages, passage_from, finish_of, media_of, Block, Key, Served, service, finish, media}
use Rattle.fb_model.proofs.Words.{last_track, behind, promoted, Inputs, requests, IsAccepted, Written, writes_of, begin_at, end_at}
use Rattle.fb_model.proofs.Words.{lies_in}
use Rattle.fb_geometry.proofs.Rotation.{cover}
use Rattle.fb_script.specs.Allowed.{IsRange}
use Rattle.fb_model.specs.Foreground.{read_of, promoted_from}
use Rattle.fb_model.specs.Accepted.{IsRequestOf}
use Rattle.fb_store.specs.Writes.{writer_of}
use Rattle.fb_model.proofs.Picks.{all_picked}
use Rattle.fb_model.proofs.Replays.{AreTurns, IsTurn}

-- ---- between start and finish

-- a slot begins no earlier than it is waited for
pub from_on : (disk : Disk) (lbn t : ℕ) → t ≤ (passage_from disk.map lbn t).begin
unfolding begin_from
from_on disk lbn t = omega arith

-- every passage begins after the way to it and ends by the finish
pub passed_between : (disk : Disk) (source : Track) (now : ℕ) (write : Bool) (lbn n : ℕ)
    → (now ≤ finish_of now (passages disk source now write lbn n))
    × AllByRecursion (λ (p : Passage). (now ≤ p.begin) × (p.begin ≤ p.end) × (p.end ≤ finish_of now (passages disk source now write lbn n)))
    (passages disk source now write lbn n)
unfolding passages
passed_between disk source now write lbn zero = (omega arith, tt)
passed_between disk source now write lbn (suc n) =
    let begins = from_on disk lbn (now + pos disk.mechanism source (track_at disk.map lbn) write) in
    let rest = passed_between disk (track_at disk.map lbn) (passage_from disk.map lbn
    (now + pos disk.mechanism source (track_at disk.map lbn) write)).end write (lbn + 1) n in (
      omega (arith, begins, rest.0),
      ((omega (arith, begins), omega arith, rest.0), all_weaker _ _ (λ p h. (omega (arith, begins, h.0), h.1, h.2)) _ rest.1),
    )

-- the sectors pass one after another
abbrev pub IsPassedBetween : List Passage → ℕ → ℕ → ℕ → ℕ → Type 0
IsPassedBetween ps from to x y = (from ≤ begin_at ps x) × (begin_at ps x ≤ end_at ps y) × (end_at ps y ≤ to)

pub sectors_pass : (disk : Disk) (source : Track) (now : ℕ) (write : Bool) (lbn n x y : ℕ) → lbn ≤ x → x ≤ y → y < lbn + n
    → IsPassedBetween (passages disk source now write lbn n) now (finish_of now (passages disk source now write lbn n)) x y
unfolding passages
sectors_pass disk source now write lbn zero x y from order to = absurd (omega arith)
sectors_pass disk source now write lbn (suc n) x y from order to =
    let at = now + pos disk.mechanism source (track_at disk.map lbn) write in
    let first = passage_from disk.map lbn at in
    let later = from_on disk lbn at in
    let rest = passed_between disk (track_at disk.map lbn) first.end write (lbn + 1) n in
    elim (cases_Bool (lbn == x)) [
      | inl here ↦ elim (cases_Bool (lbn == y)) [
        | inl both ↦ rw (here, both) (omega (arith, later), omega arith, rest.0)
        | inr behind ↦
            let next = sectors_pass disk (track_at disk.map lbn) first.end write (lbn
            + 1) n y y (grind (arith, nat_tests)) (omega arith) (omega arith) in
            rw (here, behind) (omega (arith, later), omega (arith, next.0, next.1), next.2)
      ]
      | inr behind ↦
          let other : (lbn == y) ≡ false = grind (arith, nat_tests) in
          let next =
          sectors_pass disk (track_at disk.map lbn) first.end write (lbn + 1) n x y (grind (arith, nat_tests)) order (omega arith) in
          rw (behind, other) (omega (arith, later, next.0), next.1, next.2)
    ]

-- how a service is made
abbrev pub IsServiceOf : Disk → Served → Type 0
IsServiceOf disk served = served ≡ service disk served.source served.start served.request

-- a block that lies in a request passes with it
pub block_passes : (disk : Disk) (served : Served) (block : Block) → IsServiceOf disk served → 0 < block.count
    → lies_in served.request block ≡ true
    → IsPassedBetween served.passages served.start (finish served) block.lbn (block.lbn + block.count - 1)
block_passes disk served block is some lies =
    let from : served.request.lbn ≤ block.lbn = grind (arith, nat_tests) in
    let to : block.lbn + block.count ≤ served.request.lbn + served.request.count = grind (arith, nat_tests) in
    subst
    (λ (s : Served). IsPassedBetween s.passages served.start (finish_of served.start s.passages) block.lbn (block.lbn + block.count - 1))
    (sym is)
    (sectors_pass disk served.source served.start served.request.write served.request.lbn served.request.count block.lbn
    (block.lbn + block.count - 1) from (omega arith) (omega arith))

pub served_between : (disk : Disk) (served : Served) → IsServiceOf disk served
    → (served.start ≤ finish served)
    × AllByRecursion (λ (p : Passage). (served.start ≤ p.begin) × (p.begin ≤ p.end) × (p.end ≤ finish served)) served.passages
served_between disk served is =
    subst (λ (s : Served). (served.start ≤ finish_of served.start s.passages)
    × AllByRecursion (λ (p : Passage). (served.start ≤ p.begin) × (p.begin ≤ p.end) × (p.end ≤ finish_of served.start s.passages))
    s.passages) (sym is)
    (passed_between disk served.source served.start served.request.write served.request.lbn served.request.count)

-- whatever is asked of passages that end by an instant begins and ends by it
module _ (until : ℕ) where
  abbrev PassBy : List Passage → Type 0
  PassBy ps = AllByRecursion (λ (p : Passage). (p.begin ≤ until) × (p.end ≤ until)) ps

  end_at-by : (ps : List Passage) (lbn : ℕ) → PassBy ps → end_at ps lbn ≤ until
  end_at-by [] lbn all = omega arith
  end_at-by (p ∷ ps) lbn all = elim (cases_Bool (p.lbn == lbn)) [
    | inl here ↦ rw here (all.0.1)
    | inr behind ↦ rw behind (end_at-by ps lbn all.1)
  ]

  media_of-by : (ps : List Passage) → PassBy ps → media_of ps ≤ until
  media_of-by [] all = omega arith
  media_of-by (p ∷ ps) all = all.0.0

module _ (disk : Disk) (served : Served) (is : IsServiceOf disk served) where
  pub pass_by : AllByRecursion (λ (p : Passage). (p.begin ≤ finish served) × (p.end ≤ finish served)) served.passages
  pass_by = all_weaker (λ (p : Passage). (served.start ≤ p.begin) × (p.begin ≤ p.end) × (p.end ≤ finish served))
      (λ (p : Passage). (p.begin ≤ finish served) × (p.end ≤ finish served))
      (λ p h. (omega (arith, h.1, h.2), h.2)) served.passages (served_between disk served is).1

  pub ends_by : (lbn : ℕ) → end_at served.passages lbn ≤ finish served
  ends_by lbn = end_at-by (finish served) served.passages lbn pass_by

  pub media_by : media served ≤ finish served
  media_by = media_of-by (finish served) served.passages pass_by

-- ---- each for some time

pub slots_short : (rotation : ℕ) (zones : List Zone) (cylinder : ℕ)
    → ((i : ℕ) (zone : Zone) → slice_get zones i ≡ Some zone → zone.sectors ≤ rotation) → slots_at zones cylinder ≤ rotation
slots_short rotation [] cylinder short = omega arith
slots_short rotation (zone ∷ zones) cylinder short = elim (cases_Bool (nat_le cylinder zone.last)) [
  | inl here ↦ rw here (short 0 zone refl)
  | inr on ↦ rw on (slots_short rotation zones cylinder (λ i. short (suc i)))
]

-- each sector takes some time to pass
abbrev pub TakeTime : Shape → Type 0
TakeTime disk = (lbn : ℕ) → lbn < length (places disk) → 0 < length_of disk (place_at disk lbn)

pub long_slots : (disk : Shape) → IsSound disk → TakeTime disk
long_slots disk sound = λ lbn inside.
    let found = has_place disk sound lbn inside in
    let lies = found.lies in
    let n = slots_at disk.zones found.place.track.cylinder in
    let slot : found.place.slot < n = subst (λ c. found.place.slot < slots_at disk.zones c) (sym lies.cylinder_is) lies.slot in
    let more = (cover disk.rotation n (omega (arith, slot))
    (slots_short disk.rotation disk.zones found.place.track.cylinder sound.short_slots)).ascend found.place.slot slot in
    subst (λ (place : Place). 0 < length_of disk place) (sym found.placed_at) (omega (arith, more))

pub passages_long : (disk : Disk) → TakeTime disk.map → (source : Track) (now : ℕ) (write : Bool) (lbn n : ℕ)
    → lbn + n ≤ length (places disk.map)
    → AllByRecursion (λ (p : Passage). p.begin < p.end) (passages disk source now write lbn n)
unfolding passages
passages_long disk long source now write lbn zero inside = tt
passages_long disk long source now write lbn (suc n) inside =
    let some = long lbn (omega (arith, inside)) in (
      (let h : (passage_from disk.map lbn (now + pos disk.mechanism source (track_at disk.map lbn) write)).begin
          < (passage_from disk.map lbn (now + pos disk.mechanism source (track_at disk.map lbn) write)).end = omega (arith, some) in h),
      passages_long disk long (track_at disk.map lbn) (passage_from disk.map lbn
          (now + pos disk.mechanism source (track_at disk.map lbn) write)).end write (lbn + 1) n (omega (arith, inside)),
    )

-- what a service writes ends after its start
abbrev pub WritesLate : Served → Type 0
WritesLate served = AllByRecursion (λ (w : Written). served.start < w.passage.end) (writes_of served)

abbrev pub written_by : ℕ → Passage → Written
written_by writer passage = record { writer = writer; passage = passage }

pub passes_late : (disk : Disk) → TakeTime disk.map → (source : Track) (start : ℕ) (request : Request)
    → IsRange disk.map request.lbn request.count → WritesLate (service disk source start request)
passes_late disk long source start request range = elim (cases_Bool request.write) [
  | inl writes ↦ rw writes (all_map (λ (w : Written). start < w.passage.end) (written_by (writer_of request.name))
      (passages disk source start true request.lbn request.count)
      (all_weaker _ _ (λ (p : Passage) h. omega (arith, h.0.0, h.1)) (passages disk source start true request.lbn request.count)
      (all_both _ _ (passages disk source start true request.lbn request.count)
      (passed_between disk source start true request.lbn request.count).1
      (passages_long disk long source start true request.lbn request.count range.inside))))
  | inr reads ↦ rw reads tt
]

-- ---- of accepted inputs

-- the request's sectors are sectors of the disk, at least one
abbrev pub LiesOnDisk : Shape → Request → Type 0
LiesOnDisk disk request = IsRange disk request.lbn request.count

pub read_lies : (disk : Shape) (before : List Call) (n : ℕ) (call : Call) (action : Action) → MayAsk disk before call.task action
    → AllByRecursion (LiesOnDisk disk) (read_of n call action)
read_lies disk before n call (Promote first count) may = (may.1, tt)
read_lies disk before n call _ may = tt

pub reads_lie : (disk : Shape) (before calls : List Call) (n : ℕ) → AreAllowed disk before calls
    → AllByRecursion (LiesOnDisk disk) (promoted_from n calls)
reads_lie disk before [] n allowed = tt
reads_lie disk before (call ∷ calls) n allowed =
    all_append (LiesOnDisk disk) (read_of n call call.action) (promoted_from (n + length (read_of n call call.action)) calls)
    (read_lies disk before n call call.action allowed.1)
    (reads_lie disk (before ++ call ∷ []) calls (n + length (read_of n call call.action)) allowed.2)

pub all_behind : (P : Request → Type 0) (requests : List Request) (read : Request) → AllByRecursion P requests → P read
    → AllByRecursion P (behind requests read)
all_behind P [] read all h = (h, tt)
all_behind P (request ∷ requests) read all h = elim (cases_Bool (nat_le request.arrival read.arrival)) [
  | inl first ↦ rw first (all.0, all_behind P requests read all.1 h)
  | inr later ↦ rw later (h, all)
]

pub all_requests : (P : Request → Type 0) (reads requests : List Request) → AllByRecursion P requests → AllByRecursion P reads
    → AllByRecursion P (fold behind requests reads)
all_requests P [] requests all more = all
all_requests P (read ∷ reads) requests all more = all_requests P reads (behind requests read) (all_behind P requests read all more.0) more.1

pub requests_lie : (inputs : Inputs) → IsAccepted inputs → AllByRecursion (LiesOnDisk inputs.disk.map) (requests inputs)
requests_lie inputs accepted = all_requests (LiesOnDisk inputs.disk.map) (promoted inputs.calls) inputs.trace
    (all_weaker (IsRequestOf inputs.disk.map) (LiesOnDisk inputs.disk.map) (λ (r : Request) h. h.range) inputs.trace accepted.requests)
    (reads_lie inputs.disk.map [] inputs.calls 1 accepted.calls)

-- ---- of all turns

turn_service : (disk : Disk) (key : Key) (head : Track) (now : ℕ) (left others : List Request) (served : Served)
    → IsTurn disk key head now left served others → IsServiceOf disk served
turn_service disk key head now left others served turn =
    turn.passes ∙ ap (λ h. service disk h served.start served.request) (sym (ap (λ (s : Served). s.source) turn.passes))

pub are_services : (disk : Disk) (key : Key) (head : Track) (now : ℕ) (left : List Request) (replay : List Served)
    → AreTurns disk key head now left replay → AllByRecursion (IsServiceOf disk) replay
are_services disk key head now left [] turns = tt
are_services disk key head now left (served ∷ later) turns = (
  turn_service disk key head now left turns.0 served turns.1,
  are_services disk key (last_track disk served) (finish served) turns.0 later turns.2,
)

-- a property of all requests is one of each that is served
pub turn_all : (P : Request → Type 0) (disk : Disk) (key : Key) (head : Track) (now : ℕ) (left others : List Request) (served : Served)
    → IsTurn disk key head now left served others
    → AllByRecursion P left → P served.request × AllByRecursion P others
turn_all P disk key head now left others served turn all =
    all_picked P (key disk head served.start) served.start left others served.request turn.pick all

pub write_late : (disk : Disk) (key : Key) → IsSound disk.map → (head : Track) (now : ℕ) (left : List Request) (replay : List Served)
    → AreTurns disk key head now left replay
    → AllByRecursion (LiesOnDisk disk.map) left → AllByRecursion WritesLate replay
write_late disk key sound head now left [] turns lie = tt
write_late disk key sound head now left (served ∷ later) turns lie =
    let all = turn_all (LiesOnDisk disk.map) disk key head now left turns.0 served turns.1 lie in (
      subst WritesLate (sym turns.1.passes) (passes_late disk (long_slots disk.map sound) head served.start served.request all.0),
      write_late disk key sound (last_track disk served) (finish served) turns.0 later turns.2 all.1,
    )
