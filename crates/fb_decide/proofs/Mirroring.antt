-- What the disk holds between two decisions it holds until the next write has passed.
use Rattle.fb_decide.proofs.Words.{◌≡◌, ℕ, zero, suc, ◌<◌, ◌≤◌, List, [], ◌∷◌, map, Bool, true, false, Option, Some, None, ap, sym, ◌∙◌}
use Rattle.fb_decide.proofs.Words.{arith, unwrap_or, option_map, AllByRecursion, all_weaker, all_append, Track, Request, all_both, all_map}
use Rattle.fb_decide.proofs.Words.{Disk, Passage, passages, finish_of, media_of, Holding, Key, Served, plain, service, media, finish}
use Rattle.fb_decide.proofs.Words.{last_track, start_of, first_ready, IsRequestOf, Inputs, served, writer_of, Written, medium_of}
use Rattle.fb_decide.proofs.Words.{writes_of, content, passed_between, written_by, PassagesTakeTime, Mirrors, Replayed, all_writes}
use Rattle.std.specs.Prelude.{if◌then◌else◌}
use Rattle.fb_model.proofs.Passages.{passages_long, passes_late}
use Rattle.fb_decide.proofs.Replayed.{medium_by, content_then}
use Rattle.fb_model.proofs.Replays.{start_from as start_after}
use Rattle.fb_model.proofs.Picks.{all_picked, ready_pick}
use Rattle.fb_model.proofs.Written.{begun_after, media_first}
use Rattle.fb_model.specs.Laws.{IsReadyPickOf}

-- ---- the pick and the others are among those that are left

abbrev pub PicksOf : (Request → Type 0) → Option (Request × List Request) → Type 0
PicksOf P None = Unit {0}
PicksOf P (Some best) = P best.0 × AllByRecursion P best.1

picks_ready : (P : Request → Type 0) (key : Request → ℕ) (now : ℕ) (rs : List Request) → AllByRecursion P rs
    → PicksOf P (first_ready key now rs)
picks_ready P key now rs all = of (first_ready key now rs) (ready_pick key now rs)
  where
    of : (pick : Option (Request × List Request)) → IsReadyPickOf key now rs pick → PicksOf P pick
    of None m = tt
    of (Some best) m = all_picked P key now rs best.1 best.0 m all

-- ---- what is served later is written later

late_pick : (n : ℕ) (disk : Disk) → PassagesTakeTime disk.map → (key : Key) (head : Track) (now start : ℕ) → now ≤ start
    → (pick : Option (Request × List Request)) → PicksOf (IsRequestOf disk.map) pick
    → ((head : Track) (now : ℕ) (left : List Request) → AllByRecursion (IsRequestOf disk.map) left
    → AllByRecursion (λ (w : Written). now < w.passage.end) (all_writes (plain n disk key head now left)))
    → AllByRecursion (λ (w : Written). now < w.passage.end) (all_writes (unwrap_or (option_map (λ pick.
    let served = service disk head start pick.0 in
    served ∷ plain n disk key (last_track disk served) (finish served) pick.1) pick) []))
late_pick n disk long key head now start late None picks later = tt
late_pick n disk long key head now start late (Some pick) picks later =
    let served = service disk head start pick.0 in
    let ends = passed_between disk head start pick.0.write pick.0.lbn pick.0.count in
    all_append _ (writes_of served) (all_writes (plain n disk key (last_track disk served) (finish served) pick.1))
    (all_weaker _ _ (λ (w : Written) h. omega (arith, h, late)) (writes_of served) (passes_late disk long head start pick.0 picks.0.range))
    (all_weaker _ _ (λ (w : Written) h. omega (arith, h, ends.0, late)) _ (later (last_track disk served) (finish served) pick.1 picks.1))

pub all_late : (n : ℕ) (disk : Disk) → PassagesTakeTime disk.map → (key : Key) (head : Track) (now : ℕ) (left : List Request)
    → AllByRecursion (IsRequestOf disk.map) left
    → AllByRecursion (λ (w : Written). now < w.passage.end) (all_writes (plain n disk key head now left))
unfolding plain
all_late zero disk long key head now left on_disk = tt
all_late (suc n) disk long key head now left on_disk = late_pick n disk long key head now (start_of now left) (start_after now left)
    (first_ready (key disk head (start_of now left)) (start_of now left) left)
    (picks_ready (IsRequestOf disk.map) (key disk head (start_of now left)) (start_of now left) left on_disk) (all_late n disk long key)

-- ---- and until then the disk holds what it holds

pub mirrors_run : (inputs : Inputs) (done rest : List Served) (now to : ℕ) (holding : Holding)
    → Replayed inputs.latent (served inputs) rest now holding done → AllByRecursion (λ (w : Written). to < w.passage.end) (all_writes rest)
    → Mirrors (medium_of inputs) holding now to
unfolding medium_of
mirrors_run inputs done rest now to holding so_far after = λ lbn t from upto.
    ap (λ served. content (medium_by inputs.disk inputs.latent served) lbn t) (sym so_far.all)
    ∙ content_then inputs.disk inputs.latent done rest now lbn t so_far.ended from
    (all_weaker _ _ (λ (w : Written) h. omega (arith, h, upto)) _ after)
    ∙ sym (so_far.holds lbn)

-- ---- while a request is served

-- until when nothing that a request writes has ended: the first passage of a write, the end of a read
abbrev pub held_until : Served → ℕ
held_until served = if served.request.write then media served else finish served

own_late : (disk : Disk) (head : Track) (start : ℕ) (request : Request)
    → AllByRecursion (λ (p : Passage). p.begin < p.end) (passages disk head start request.write request.lbn request.count)
    → AllByRecursion (λ (w : Written). held_until (service disk head start request) < w.passage.end)
    (writes_of (service disk head start request))
own_late disk head start request each = by request.write each
  where
    by : (b : Bool) → AllByRecursion (λ (p : Passage). p.begin < p.end) (passages disk head start b request.lbn request.count)
        → AllByRecursion (λ (w : Written). (if b then media_of (passages disk head start b request.lbn request.count)
        else finish_of start (passages disk head start b request.lbn request.count)) < w.passage.end)
        (if b then map (written_by (writer_of request.name)) (passages disk head start b request.lbn request.count) else [])
    by true long = all_map (λ (w : Written). media_of (passages disk head start true request.lbn request.count) < w.passage.end)
        (written_by (writer_of request.name)) (passages disk head start true request.lbn request.count)
        (all_weaker _ _ (λ (p : Passage) h. omega (arith, h.0, h.1)) (passages disk head start true request.lbn request.count)
        (all_both _ _ (passages disk head start true request.lbn request.count)
        (begun_after disk head start true request.lbn request.count) long))
    by false long = tt

pub held_between : (disk : Disk) (head : Track) (start : ℕ) (request : Request) → 0 < request.count
    → (start ≤ held_until (service disk head start request))
    × (held_until (service disk head start request) ≤ finish (service disk head start request))
held_between disk head start request some = grind (
  arith,
  media_first disk head start request.write request.lbn request.count some,
  (passed_between disk head start request.write request.lbn request.count).0,
)

pub media_held : (served : Served) → media served ≤ finish served → media served ≤ held_until served
media_held served order = grind (arith, order)

pub finish_held : (served : Served) → served.request.write ≡ false → finish served ≤ held_until served
finish_held served reads = rw reads (omega arith)

pub media_before : (disk : Disk) (head : Track) (start : ℕ) (request : Request) → 0 < request.count
    → media (service disk head start request) ≤ finish (service disk head start request)
media_before disk head start request some = (media_first disk head start request.write request.lbn request.count some).1

-- what a request and those after it write has not ended by then
pub served_late : (n : ℕ) (disk : Disk) → PassagesTakeTime disk.map
    → (key : Key) (head : Track) (start : ℕ) (request : Request) (track : Track) (others : List Request)
    → IsRequestOf disk.map request → AllByRecursion (IsRequestOf disk.map) others
    → AllByRecursion (λ (w : Written). held_until (service disk head start request) < w.passage.end)
    (all_writes (service disk head start request ∷ plain n disk key track (finish (service disk head start request)) others))
served_late n disk long key head start request track others on_disk left =
    let until = held_between disk head start request on_disk.range.some in
    all_append _ (writes_of (service disk head start request))
    (all_writes (plain n disk key track (finish (service disk head start request)) others))
    (own_late disk head start request (passages_long disk long head start request.write request.lbn request.count on_disk.range.inside))
    (all_weaker _ _ (λ (w : Written) h. omega (arith, h, until.1)) _
    (all_late n disk long key track (finish (service disk head start request)) others left))
