-- The services of a replay: one after another, what they write takes time, and what it leaves.
use Rattle.fb_mirror.proofs.Words.{◌≡◌, ℕ, zero, suc, ◌+◌, ◌<◌, ◌≤◌, List, [], ◌∷◌, ◌++◌, length, map, Option, None, Bool, true, false}
use Rattle.fb_mirror.proofs.Words.{refl, ap, sym, subst, ◌∙◌, arith, filter, ◌&&◌, if◌then◌else◌, AllByRecursion, flat_map, filter-append}
use Rattle.fb_mirror.proofs.Words.{flat_map-append, all_weaker, all_append, Track, all_both, all_map, all_unmapped, places, IsSound, Disk}
use Rattle.fb_mirror.proofs.Words.{Passage, passages, media_of, Content, Filled, is_within, writer_of, unwritten, Served, finish}
use Rattle.fb_mirror.proofs.Words.{first_track, last_track, media, Inputs, served, IsAccepted, Medium, Written, content, content_by}
use Rattle.fb_mirror.proofs.Words.{writes_of, ForegroundListsAscend, OnePlainReplay, IsServiceOf, LiesOnDisk, passed_between}
use Rattle.fb_mirror.proofs.Words.{served_between, begun_after}
use Rattle.std.specs.List.{last_or}
use Rattle.fb_units.specs.declared.types.Request.{Request}
use Rattle.fb_service.specs.Service.{finish_of}
use Rattle.fb_model.specs.PlainReplay.{Key, plain_replay, service}
use Rattle.fb_model.specs.Inputs.{requests}
use Rattle.fb_model.specs.Laws.{FollowsRules}
use Rattle.fb_model.proofs.Passages.{long_slots, requests_lie, passages_long}
use Rattle.fb_model.proofs.Passages.{written_by}
use Rattle.fb_model.proofs.ContentsUpTo.{is_of_by}
use Rattle.fb_model.proofs.Picks.{all_picked}
use Rattle.fb_model.proofs.Written.{content_then as writes_then, is_of, last_joined, media_first, own_writes}

-- ---- one after another

-- from an instant on, each of a request for sectors of the disk
abbrev pub AreServed : Disk → ℕ → List Served → Type 0
AreServed disk now [] = Unit {0}
AreServed disk now (served ∷ later) =
    (now ≤ served.start) × IsServiceOf disk served × LiesOnDisk disk.map served.request × AreServed disk (finish served) later

follow : (disk : Disk) (key : Key) (head : Track) (now : ℕ) (left : List Request) (replay : List Served)
    → FollowsRules disk key head now left replay → AllByRecursion (LiesOnDisk disk.map) left → AreServed disk now replay
follow disk key head now left [] rules lie = tt
follow disk key head now left (served ∷ later) rules lie =
    let next = rules.1 in
    let all = all_picked (LiesOnDisk disk.map) (key disk head served.start) served.start left rules.0 served.request next.pick lie in (
      next.start.from,
      next.passes ∙ ap (λ h. service disk h served.start served.request) (sym (ap (λ (s : Served). s.source) next.passes)),
      all.0,
      follow disk key (last_track disk served) (finish served) rules.0 later rules.2 all.1,
    )

-- those of accepted inputs
pub are_served : (inputs : Inputs) → IsAccepted inputs → ForegroundListsAscend → OnePlainReplay → AreServed inputs.disk 0 (served inputs)
unfolding served
are_served inputs accepted ascend one =
    follow inputs.disk inputs.key first_track 0 (requests inputs) (plain_replay inputs.disk inputs.key (requests inputs))
    (one inputs.disk inputs.key (requests inputs) (ascend inputs accepted).ascend).follows (requests_lie inputs accepted)

-- ---- until when nothing of a service's writes has passed: the first passage of a write, the end of a read

abbrev free : Bool → ℕ → List Passage → ℕ
free write start passages = if write then media_of passages else finish_of start passages

abbrev pub free_until : Served → ℕ
free_until served = if served.request.write then media served else finish served

abbrev writes_by : Bool → ℕ → List Passage → List Written
writes_by write number passages = if write then map (written_by number) passages else []

free_between : (disk : Disk) (source : Track) (start : ℕ) (write : Bool) (lbn n : ℕ) (way : Bool) → 0 < n
    → (start ≤ free write start (passages disk source start way lbn n))
    × (free write start (passages disk source start way lbn n) ≤ finish_of start (passages disk source start way lbn n))
free_between disk source start true lbn n way some = media_first disk source start way lbn n some
free_between disk source start false lbn n way some = ((passed_between disk source start way lbn n).0, omega arith)

pub free_within : (disk : Disk) (served : Served) → IsServiceOf disk served → LiesOnDisk disk.map served.request
    → (served.start ≤ free_until served) × (free_until served ≤ finish served)
free_within disk served is lies = subst (λ (s : Served). (served.start ≤ free served.request.write served.start s.passages)
    × (free served.request.write served.start s.passages ≤ finish_of served.start s.passages)) (sym is)
    (free_between disk served.source served.start served.request.write served.request.lbn served.request.count served.request.write
    lies.some)

late_by : (disk : Disk) → IsSound disk.map → (source : Track) (start : ℕ) (write way : Bool) (lbn n number : ℕ)
    → lbn + n ≤ length (places disk.map)
    → AllByRecursion (λ (w : Written). free write start (passages disk source start way lbn n) < w.passage.end)
    (writes_by write number (passages disk source start way lbn n))
late_by disk sound source start true way lbn n number inside =
    all_map (λ (w : Written). media_of (passages disk source start way lbn n) < w.passage.end) (written_by number)
    (passages disk source start way lbn n)
    (all_weaker _ _ (λ (p : Passage) h. omega (arith, h.0, h.1)) (passages disk source start way lbn n)
    (all_both _ _ (passages disk source start way lbn n) (begun_after disk source start way lbn n)
    (passages_long disk (long_slots disk.map sound) source start way lbn n inside)))
late_by disk sound source start false way lbn n number inside = tt

-- what is written by a service has passed after that
pub late : (disk : Disk) → IsSound disk.map → (served : Served) → IsServiceOf disk served → LiesOnDisk disk.map served.request
    → AllByRecursion (λ (w : Written). free_until served < w.passage.end) (writes_of served)
late disk sound served is lies =
    subst (λ (s : Served). AllByRecursion (λ (w : Written). free served.request.write served.start s.passages < w.passage.end)
    (writes_by served.request.write (writer_of served.request.name) s.passages)) (sym is)
    (late_by disk sound served.source served.start served.request.write served.request.write served.request.lbn served.request.count
    (writer_of served.request.name) lies.inside)

-- and by its finish
pub ended : (disk : Disk) (served : Served) → IsServiceOf disk served
    → AllByRecursion (λ (w : Written). w.passage.end ≤ finish served) (writes_of served)
ended disk served is = by served.request.write
  where
    by : (write : Bool)
        → AllByRecursion (λ (w : Written). w.passage.end ≤ finish served) (writes_by write (writer_of served.request.name) served.passages)
    by true = all_map (λ (w : Written). w.passage.end ≤ finish served) (written_by (writer_of served.request.name)) served.passages
        (all_weaker _ _ (λ (p : Passage) h. h.2) served.passages (served_between disk served is).1)
    by false = tt

-- the writes of services
abbrev pub all_writes : List Served → List Written
all_writes replay = flat_map writes_of replay

pub all_late : (disk : Disk) → IsSound disk.map → (now : ℕ) (replay : List Served) → AreServed disk now replay
    → AllByRecursion (λ (w : Written). now < w.passage.end) (all_writes replay)
all_late disk sound now [] are = tt
all_late disk sound now (served ∷ later) are =
    let between = free_within disk served are.1 are.2 in
    all_append (λ (w : Written). now < w.passage.end) (writes_of served) (all_writes later)
    (all_weaker _ _ (λ (w : Written) h. omega (arith, h, are.0, between.0)) (writes_of served) (late disk sound served are.1 are.2))
    (all_weaker _ _ (λ (w : Written) h. omega (arith, h, are.0, between.0, between.1)) (all_writes later)
    (all_late disk sound (finish served) later are.3))

-- ---- what they leave

-- the last of these writes that passed a sector
abbrev pub last_of : Option Written → ℕ → List Served → Option Written
last_of before lbn replay = last_or before (filter (is_of lbn) (all_writes replay))

-- what a sector holds after these services
abbrev pub left_after : List ℕ → List Served → ℕ → Content
left_after latent replay lbn = content_by (last_of None lbn replay) (unwritten latent lbn)

abbrev pub medium_with : Disk → List ℕ → List Served → Medium
medium_with disk latent replay = record { disk = disk; latent = latent; writes = all_writes replay }

-- at an instant by which some of the services have written all, and the others nothing
pub content_then : (disk : Disk) (latent : List ℕ) (before after : List Served) (lbn t : ℕ)
    → AllByRecursion (λ (w : Written). w.passage.end ≤ t) (all_writes before)
    → AllByRecursion (λ (w : Written). t < w.passage.end) (all_writes after)
    → content (medium_with disk latent (before ++ after)) lbn t ≡ left_after latent before lbn
content_then disk latent before after lbn t passed to_come =
    ap (λ ws. content_by (last_or None (filter (is_of_by lbn t) ws)) (unwritten latent lbn)) (flat_map-append writes_of before after)
    ∙ writes_then disk latent (all_writes before) (all_writes after) lbn t passed to_come

-- first a service, and then others
pub last_of-more : (before : Option Written) (lbn : ℕ) (served : Served) (later : List Served)
    → last_of before lbn (served ∷ later) ≡ last_of (last_or before (filter (is_of lbn) (writes_of served))) lbn later
last_of-more before lbn served later =
    ap (last_or before) (filter-append (is_of lbn) (writes_of served) (all_writes later))
    ∙ last_joined before (filter (is_of lbn) (writes_of served)) (filter (is_of lbn) (all_writes later))

-- first some services, and then others
pub last_of-append : (before : Option Written) (lbn : ℕ) (xs ys : List Served)
    → last_of before lbn (xs ++ ys) ≡ last_of (last_of before lbn xs) lbn ys
last_of-append before lbn xs ys =
    ap (λ ws. last_or before (filter (is_of lbn) ws)) (flat_map-append writes_of xs ys)
    ∙ ap (last_or before) (filter-append (is_of lbn) (all_writes xs) (all_writes ys))
    ∙ last_joined before (filter (is_of lbn) (all_writes xs)) (filter (is_of lbn) (all_writes ys))

-- what a service leaves
pub left_by : (disk : Disk) (served : Served) → IsServiceOf disk served → (lbn : ℕ) (before : Option Written) (first : Content)
    → content_by (last_or before (filter (is_of lbn) (writes_of served))) first
    ≡ (if served.request.write && is_within served.request.lbn served.request.count lbn then Filled (writer_of served.request.name)
    else content_by before first)
left_by disk served is lbn before first = by served.request.write
  where
    number : ℕ
    number = writer_of served.request.name

    by : (write : Bool) → content_by (last_or before (filter (is_of lbn) (writes_by write number served.passages))) first
        ≡ (if write && is_within served.request.lbn served.request.count lbn then Filled number else content_by before first)
    by true = subst (λ (s : Served). content_by (last_or before (filter (is_of lbn) (map (written_by number) s.passages))) first
        ≡ (if is_within served.request.lbn served.request.count lbn then Filled number else content_by before first)) (sym is)
        (own_writes disk served.source served.start served.request.write served.request.lbn served.request.count number lbn before first)
    by false = refl

-- a write whose passages all end after an instant finishes after it
late_end : (disk : Disk) (source : Track) (now : ℕ) (write : Bool) (lbn n t : ℕ)
    → 0 < n → AllByRecursion (λ (p : Passage). t < p.end) (passages disk source now write lbn n)
    → t < finish_of now (passages disk source now write lbn n)
unfolding passages
late_end disk source now write lbn zero t some all = absurd (omega arith)
late_end disk source now write lbn (suc n) t some all =
    let passes = (passed_between disk source now write lbn (suc n)).1 in
    omega (arith, all.0, passes.0.2)

pub finishes_late : (disk : Disk) (served : Served) (t : ℕ) → IsServiceOf disk served → LiesOnDisk disk.map served.request
    → AllByRecursion (λ (w : Written). t < w.passage.end) (writes_of served) → served.request.write ≡ true → t < finish served
finishes_late disk served t is lies all writes =
    let whole : AllByRecursion (λ (w : Written). t < w.passage.end) (map (written_by (writer_of served.request.name)) served.passages) =
    subst (λ write. AllByRecursion (λ (w : Written). t < w.passage.end) (writes_by write (writer_of served.request.name) served.passages))
    writes all in
    let each = all_unmapped (λ (w : Written). t < w.passage.end) (written_by (writer_of served.request.name)) served.passages whole in
    subst (λ (s : Served). AllByRecursion (λ (p : Passage). t < p.end) s.passages → t < finish_of served.start s.passages) (sym is)
    (late_end disk served.source served.start served.request.write served.request.lbn served.request.count t lies.some) each
