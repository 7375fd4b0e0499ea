-- While no write is under way, a sector that an event concerned holds in the replacement what it holds on the survivor.
use Rattle.fb_mirror.proofs.Words.{◌≡◌, ◌⊎◌, ℕ, ◌<◌, ◌≤◌, List, [], ◌∷◌, ◌++◌, map, Option, Some, None, Bool, true, false, refl, ap, ap₂}
use Rattle.fb_mirror.proofs.Words.{sym, subst, ◌∙◌, arith, inl, inr, append-nil, nat_le, filter, if◌then◌else◌, AllByRecursion, flat_map}
use Rattle.fb_mirror.proofs.Words.{option_map, cases_Bool, cases_lt, map-append, filter-append, flat_map-append, same_Some, none-some}
use Rattle.fb_mirror.proofs.Words.{all_append, all_left, all_weaker, all_unmapped, by_is, is_by, IsSound, Disk, Content, after_taking}
use Rattle.fb_mirror.proofs.Words.{sectors_of, ForeRow, Run, Served, finish, media, Inputs, served, IsAccepted, Medium, Written, content}
use Rattle.fb_mirror.proofs.Words.{fore_row, fore_rows, medium_of, writes_of, IsFull, ForegroundListsAscend, OnePlainReplay}
use Rattle.fb_mirror.proofs.Words.{served_between, Event, decided, deliveries_in, events, given, held_after, later, writes_in, IsAtRest}
use Rattle.fb_mirror.proofs.Words.{events_by}
use Rattle.fb_units.proofs.Lists.{same_first, same_rest}
use Rattle.fb_units.proofs.Comparing.{after_is}
use Rattle.fb_mirror.proofs.Survival.{IsFoundAfter, back_found, decided-append, one_decides, rows_found, some_decided, survives_all, wrote}
use Rattle.fb_mirror.proofs.Writing.{AreServed, all_late, all_writes, are_served, content_then, ended, free_until, late, medium_with}

-- ---- the services that have finished by an instant, and the others

-- a write has finished, or nothing of it has passed yet
abbrev Rests : ℕ → Served → Type 0
Rests t served = served.request.write ≡ true → (finish served ≤ t) ⊎ (t ≤ media served)

record IsCut (disk : Disk) (t : ℕ) (replay : List Served) : Type 0 where
  pub past : List Served
  pub rest : List Served
  pub is : replay ≡ past ++ rest
  pub finished : AllByRecursion (λ (s : Served). finish s ≤ t) past
  pub passed : AllByRecursion (λ (w : Written). w.passage.end ≤ t) (all_writes past)
  pub unfinished : AllByRecursion (λ (s : Served). t < finish s) rest
  pub to_come : AllByRecursion (λ (w : Written). t < w.passage.end) (all_writes rest)

finishes_from : (disk : Disk) (now : ℕ) (replay : List Served) → AreServed disk now replay
    → AllByRecursion (λ (s : Served). now ≤ finish s) replay
finishes_from disk now [] are = tt
finishes_from disk now (served ∷ replay) are =
    let order = (served_between disk served are.1).0 in (
      omega (arith, are.0, order),
      all_weaker (λ (s : Served). finish served ≤ finish s) (λ (s : Served). now ≤ finish s) (λ s h. omega (arith, h, are.0, order)) replay
          (finishes_from disk (finish served) replay are.3),
    )

-- an unfinished service that rests has written nothing
rests_free : (t : ℕ) (served : Served) → Rests t served → t < finish served → t ≤ free_until served
rests_free t served rests under = by served.request.write refl
  where
    by : (write : Bool) → served.request.write ≡ write → t ≤ (if write then media served else finish served)
    by true is = elim (rests is) [
      | inl over ↦ absurd (omega arith)
      | inr early ↦ early
    ]
    by false is = omega arith

cut_at : (disk : Disk) → IsSound disk.map → (t now : ℕ) (replay : List Served) → AreServed disk now replay → AllByRecursion (Rests t) replay
    → IsCut disk t replay
cut_at disk sound t now [] are rests = record { past = []; rest = []; is = refl; finished = tt; passed = tt; unfinished = tt; to_come = tt }
cut_at disk sound t now (one ∷ replay) are rests = elim (cases_lt t (finish one)) [
  | inl under ↦
      let free = rests_free t one rests.0 under in
      record {
        past = [];
        rest = one ∷ replay;
        is = refl;
        finished = tt;
        passed = tt;
        unfinished = (
          under,
          all_weaker (λ (s : Served). finish one ≤ finish s) (λ (s : Served). t < finish s) (λ s h. omega (arith, h, under)) replay
              (finishes_from disk (finish one) replay are.3),
        );
        to_come = all_append (λ (w : Written). t < w.passage.end) (writes_of one) (all_writes replay)
            (all_weaker _ _ (λ (w : Written) h. omega (arith, h, free)) (writes_of one) (late disk sound one are.1 are.2))
            (all_weaker _ _ (λ (w : Written) h. omega (arith, h, under)) (all_writes replay)
            (all_late disk sound (finish one) replay are.3));
      }
  | inr over ↦
      let cut = cut_at disk sound t (finish one) replay are.3 rests.1 in
      record {
        past = one ∷ cut.past;
        rest = cut.rest;
        is = ap (λ rest. one ∷ rest) cut.is;
        finished = (over, cut.finished);
        passed = all_append (λ (w : Written). w.passage.end ≤ t) (writes_of one) (all_writes cut.past)
            (all_weaker _ _ (λ (w : Written) h. omega (arith, h, over)) (writes_of one) (ended disk one are.1)) cut.passed;
        unfinished = cut.unfinished;
        to_come = cut.to_come;
      }
]

-- the services before an event that has taken effect are among the finished ones
record IsPartOf (before after past rest : List Served) : Type 0 where
  pub between : List Served
  pub past_is : past ≡ before ++ between
  pub after_is : after ≡ between ++ rest

part_of : (t : ℕ) (before after past rest : List Served) → before ++ after ≡ past ++ rest
    → AllByRecursion (λ (s : Served). finish s ≤ t) before → AllByRecursion (λ (s : Served). t < finish s) rest
    → IsPartOf before after past rest
part_of t [] after past rest is finished unfinished = record { between = past; past_is = refl; after_is = is }
part_of t (one ∷ before) after [] [] is finished unfinished = cc
part_of t (one ∷ before) after [] (other ∷ rest) is finished unfinished =
    let same = ap finish (same_first one other (before ++ after) rest is) in
    absurd (omega (arith, finished.0, unfinished.0, same))
part_of t (one ∷ before) after (other ∷ past) rest is finished unfinished =
    let more = part_of t before after past rest (same_rest one other (before ++ after) (past ++ rest) is) finished.1 unfinished in
    record {
      between = more.between;
      past_is = ap₂ (λ s services. s ∷ services) (sym (same_first one other (before ++ after) (past ++ rest) is)) more.past_is;
      after_is = more.after_is;
    }

found_past : (disk : Disk) (t : ℕ) (latent : List ℕ) (replay : List Served) (lbn : ℕ) (last : ℕ × Content) (cut : IsCut disk t replay)
    → last.0 ≤ t → IsFoundAfter latent replay lbn last → IsFoundAfter latent cut.past lbn last
found_past disk t latent replay lbn last cut by found =
    let part = part_of t found.before found.after cut.past cut.rest (sym found.is
    ∙ cut.is) (all_weaker _ _ (λ (s : Served) h. omega (arith, h, by)) found.before found.finished) cut.unfinished in
    record {
      before = found.before;
      after = part.between;
      is = part.past_is;
      finished = found.finished;
      holds = found.holds;
      to_come = all_left (λ (w : Written). last.0 < w.passage.end) (all_writes part.between) (all_writes cut.rest)
          (subst (AllByRecursion (λ (w : Written). last.0 < w.passage.end))
          (ap all_writes part.after_is ∙ flat_map-append writes_of part.between cut.rest) found.to_come);
    }

-- ---- the events that have taken effect by then

abbrev pub by_then : ℕ → Event → Bool
by_then t event = nat_le event.instant t

given_at : (lbn : ℕ) (event : Event) (last : ℕ × Content) → given lbn event ≡ Some last → event.instant ≡ last.0
given_at lbn event last is = by (after_taking (sectors_of event.contents) lbn None) is
  where
    by : (held : Option Content) → option_map (λ c. (event.instant, c)) held ≡ Some last → event.instant ≡ last.0
    by None none = absurd (none-some last none)
    by (Some c) some = ap (λ p. p.0) (same_Some (event.instant, c) last some)

kept_found : (disk : Disk) (t : ℕ) (latent : List ℕ) (replay : List Served) (lbn : ℕ) (cut : IsCut disk t replay) (events : List Event)
    → AllByRecursion (λ event. (last : ℕ × Content) → given lbn event ≡ Some last → IsFoundAfter latent replay lbn last) events
    → AllByRecursion (λ event. (last : ℕ × Content) → given lbn event ≡ Some last → IsFoundAfter latent cut.past lbn last)
    (filter (by_then t) events)
kept_found disk t latent replay lbn cut [] all = tt
kept_found disk t latent replay lbn cut (event ∷ events) all = elim (cases_Bool (by_then t event)) [
  | inl by ↦ rw by (
    λ last is. found_past disk t latent replay lbn last cut (let at = given_at lbn event last is in let early = is_by event.instant t by in
        omega arith) (all.0 last is),
    kept_found disk t latent replay lbn cut events all.1,
  )
  | inr late ↦ rw late (kept_found disk t latent replay lbn cut events all.1)
]

all_kept : (t : ℕ) (medium : Medium) (past : List Served) → AllByRecursion (λ (s : Served). finish s ≤ t) past
    → filter (by_then t) (wrote medium past) ≡ wrote medium past
all_kept t medium [] all = refl
all_kept t medium (one ∷ past) all =
    filter-append (by_then t) (writes_in (fore_row medium one)) (wrote medium past)
    ∙ ap₂ (λ here rest. here ++ rest) (here (fore_row medium one) all.0) (all_kept t medium past all.1)
  where
    here : (row : ForeRow) → row.finish ≤ t → filter (by_then t) (writes_in row) ≡ writes_in row
    here row over = elim (cases_Bool row.request.write) [
      | inl writes ↦ rw (writes, by_is row.finish t over) refl
      | inr reads ↦ rw reads refl
    ]

none_kept : (t : ℕ) (medium : Medium) (rest : List Served) → AllByRecursion (λ (s : Served). t < finish s) rest
    → filter (by_then t) (wrote medium rest) ≡ []
none_kept t medium [] all = refl
none_kept t medium (one ∷ rest) all =
    filter-append (by_then t) (writes_in (fore_row medium one)) (wrote medium rest)
    ∙ ap₂ (λ here rest. here ++ rest) (here (fore_row medium one) all.0) (none_kept t medium rest all.1)
  where
    here : (row : ForeRow) → t < row.finish → filter (by_then t) (writes_in row) ≡ []
    here row under = elim (cases_Bool row.request.write) [
      | inl writes ↦ rw (writes, after_is row.finish t under) refl
      | inr reads ↦ rw reads refl
    ]

wrote_by : (disk : Disk) (t : ℕ) (medium : Medium) (replay : List Served) (cut : IsCut disk t replay)
    → filter (by_then t) (wrote medium replay) ≡ wrote medium cut.past
wrote_by disk t medium replay cut =
    ap (λ services. filter (by_then t) (wrote medium services)) cut.is
    ∙ ap (filter (by_then t)) (ap (flat_map writes_in) (map-append (fore_row medium) cut.past cut.rest)
    ∙ flat_map-append writes_in (map (fore_row medium) cut.past) (map (fore_row medium) cut.rest))
    ∙ filter-append (by_then t) (wrote medium cut.past) (wrote medium cut.rest)
    ∙ ap₂ (λ past rest. past ++ rest) (all_kept t medium cut.past cut.finished) (none_kept t medium cut.rest cut.unfinished)
    ∙ append-nil (wrote medium cut.past)

-- the first services are served one after another too
front_served : (disk : Disk) (now : ℕ) (past rest : List Served) → AreServed disk now (past ++ rest) → AreServed disk now past
front_served disk now [] rest are = tt
front_served disk now (one ∷ past) rest are = (are.0, are.1, are.2, front_served disk (finish one) past rest are.3)

-- ---- the law

rows_rest : (t : ℕ) (medium : Medium) (replay : List Served)
    → AllByRecursion (λ (row : ForeRow). row.request.write ≡ true → (row.finish ≤ t) ⊎ (t ≤ row.media)) (map (fore_row medium) replay)
    → AllByRecursion (Rests t) replay
rows_rest t medium replay all =
    all_unmapped (λ (row : ForeRow). row.request.write ≡ true → (row.finish ≤ t) ⊎ (t ≤ row.media)) (fore_row medium) replay all

pub held_at_rest : ForegroundListsAscend → OnePlainReplay → (inputs : Inputs) (run : Run) (t lbn : ℕ) (held : Content)
    → IsSound inputs.disk.map → IsAccepted inputs → IsFull inputs run → IsAtRest t run
    → held_after (events_by t run) lbn ≡ Some held → held ≡ content (medium_of inputs) lbn t
unfolding medium_of fore_rows
held_at_rest ascend one inputs run t lbn held sound accepted full rests is =
    let are = are_served inputs accepted ascend one in
    let replay = served inputs in
    let medium = medium_with inputs.disk inputs.latent replay in
    let cut = cut_at inputs.disk sound t 0 replay are (rows_rest t medium replay
    (subst (AllByRecursion (λ (row : ForeRow). row.request.write ≡ true → (row.finish ≤ t) ⊎ (t ≤ row.media))) full.sound.fore rests)) in
    let writes = flat_map writes_in run.fore in
    let gots = flat_map deliveries_in run.back in
    let last = some_decided (decided lbn (events_by t run)) held is in
    let found = one_decides (IsFoundAfter inputs.latent cut.past lbn) lbn (filter (by_then t) gots)
    (kept_found inputs.disk t inputs.latent replay lbn cut gots
    (rows_found inputs.disk inputs.latent replay lbn run.back (back_found inputs run sound are full))) in
    let wrote_past : filter (by_then t) writes ≡ wrote medium cut.past =
    ap (λ rows. filter (by_then t) (flat_map writes_in rows)) full.sound.fore ∙ wrote_by inputs.disk t medium replay cut in
    let decides : later (decided lbn (wrote medium cut.past)) (decided lbn (filter (by_then t) gots)) ≡ Some last.0 =
    sym (ap (λ es. later (decided lbn es) (decided lbn (filter (by_then t) gots))) wrote_past)
    ∙ sym (decided-append lbn (filter (by_then t) writes) (filter (by_then t) gots))
    ∙ sym (ap (decided lbn) (filter-append (by_then t) writes gots)) ∙ last.1 in
    sym last.2
    ∙ survives_all inputs.disk medium inputs.latent lbn 0 cut.past last.0
    (front_served inputs.disk 0 cut.past cut.rest (subst (AreServed inputs.disk 0) cut.is are)) (decided lbn (wrote medium cut.past))
    (decided lbn (filter (by_then t) gots)) refl found decides
    ∙ sym (ap (λ services. content (medium_with inputs.disk inputs.latent services) lbn t) cut.is
    ∙ content_then inputs.disk inputs.latent cut.past cut.rest lbn t cut.passed cut.to_come)
