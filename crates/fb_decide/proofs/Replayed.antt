-- What services leave on the disk, and the rows that they give.
use Rattle.fb_decide.proofs.Words.{◌≡◌, ℕ, zero, suc, ◌+◌, ◌≤◌, List, [], ◌∷◌, ◌++◌, map, Bool, true, false, refl, ap, ◌∙◌, arith, Option}
use Rattle.fb_decide.proofs.Words.{None, inl, inr, ◌<◌, sym, subst, append-nil, AllByRecursion, range_with_len, cases_Bool, filter-append}
use Rattle.fb_decide.proofs.Words.{flat_map-append, all_weaker, all_append, Track, Request, all_both, all_map, all_unmapped, pos, track_at}
use Rattle.fb_decide.proofs.Words.{Disk, Passage, passages, finish_of, passage_from, Content, writer_of, service, finish, Served, media}
use Rattle.fb_decide.proofs.Words.{Written, writes_of, Medium, content, fore_row, passed_between, written_by, ContentRun, runs_of, bad_of}
use Rattle.fb_decide.proofs.Words.{Holding, content_in, ForeRow, AreByArrival, left_by, all_writes, Replayed}
use Rattle.std.specs.Prelude.{filter, if◌then◌else◌}
use Rattle.std.specs.List.{last_or}
use Rattle.fb_store.specs.Writes.{unwritten}
use Rattle.fb_model.specs.Content.{content_by, found}
use Rattle.fb_model.specs.Accepted.{IsRising}
use Rattle.fb_model.proofs.ContentsUpTo.{is_of_by}
use Rattle.fb_model.proofs.Written.{content_then as writes_then, is_of, last_joined, own_writes}
use Rattle.fb_decide.specs.Contents.{found_in, IsRowOf}
use Rattle.fb_decide.specs.Making.{held_after}
use Rattle.fb_decide.proofs.Decided.{one_more}

-- ---- what the services so far have left on the disk, and what the ones to come can't have left yet

all_ends : (disk : Disk) (source : Track) (now : ℕ) (write : Bool) (lbn n : ℕ)
    → AllByRecursion (λ (p : Passage). (now ≤ p.end) × (p.end ≤ finish_of now (passages disk source now write lbn n)))
    (passages disk source now write lbn n)
all_ends disk source now write lbn n =
    all_weaker _ _ (λ p h. (omega (arith, h.0, h.1), h.2)) _ (passed_between disk source now write lbn n).1

-- what is written by a service ends between its start and its finish
pub written_between : (disk : Disk) (head : Track) (start : ℕ) (request : Request)
    → AllByRecursion (λ (w : Written). (start ≤ w.passage.end) × (w.passage.end ≤ finish (service disk head start request)))
    (writes_of (service disk head start request))
written_between disk head start request = elim (cases_Bool request.write) [
  | inl writes ↦ rw writes (all_map _ (written_by (writer_of request.name)) (passages disk head start true request.lbn request.count)
      (all_ends disk head start true request.lbn request.count))
  | inr reads ↦ rw reads tt
]

-- ---- how far the plain replay has come: the services so far, their rows, and what they left on the disk

abbrev pub medium_by : Disk → List ℕ → List Served → Medium
medium_by disk latent whole = record { disk = disk; latent = latent; writes = all_writes whole }

no_writes : (served : Served) → served.request.write ≡ false → writes_of served ≡ []
no_writes served reads = rw reads refl

-- what those services left, until one of the later writes ends
pub content_then : (disk : Disk) (latent : List ℕ) (done rest : List Served) (now lbn t : ℕ)
    → AllByRecursion (λ (w : Written). w.passage.end ≤ now) (all_writes done) → now ≤ t
    → AllByRecursion (λ (w : Written). t < w.passage.end) (all_writes rest)
    → content (medium_by disk latent (done ++ rest)) lbn t ≡ held_after latent done lbn
content_then disk latent done rest now lbn t before since after =
    ap (λ ws. content_by (last_or None (filter (is_of_by lbn t) ws)) (unwritten latent lbn)) (flat_map-append writes_of done rest)
    ∙ writes_then disk latent (all_writes done) (all_writes rest) lbn t
    (all_weaker _ _ (λ (w : Written) h. omega (arith, h, since)) _ before) after

-- a read writes nothing, so at an instant of its service a sector holds what it held when the read began
content_now : (disk : Disk) (latent : List ℕ) (done later : List Served) (read : Served) (now lbn t : ℕ) → read.request.write ≡ false
    → AllByRecursion (λ (w : Written). w.passage.end ≤ now) (all_writes done) → now ≤ t
    → AllByRecursion (λ (w : Written). t < w.passage.end) (all_writes later)
    → content (medium_by disk latent (done ++ read ∷ later)) lbn t ≡ held_after latent done lbn
content_now disk latent done later read now lbn t reads before since after =
    content_then disk latent done (read ∷ later) now lbn t before since
    (subst (λ ws. AllByRecursion (λ (w : Written). t < w.passage.end) (ws ++ all_writes later)) (sym (no_writes read reads)) after)

-- the contents of passages, where each is that of its sector
abbrev at_passage : (ℕ → ℕ → Content) → Passage → ℕ × Content
at_passage f p = (p.lbn, f p.lbn p.begin)

abbrev of_sector : (ℕ → Content) → ℕ → ℕ × Content
of_sector g lbn = (lbn, g lbn)

by_sector : (disk : Disk) (f : ℕ → ℕ → Content) (g : ℕ → Content) (source : Track) (now : ℕ) (write : Bool) (lbn n : ℕ)
    → AllByRecursion (λ (p : Passage). f p.lbn p.begin ≡ g p.lbn) (passages disk source now write lbn n)
    → map (at_passage f) (passages disk source now write lbn n) ≡ map (of_sector g) (range_with_len lbn n)
unfolding passages
by_sector disk f g source now write lbn zero all = refl
by_sector disk f g source now write lbn (suc n) all =
    rw (all.0) (ap (λ xs. of_sector g lbn ∷ xs) (by_sector disk f g (track_at disk.map lbn)
    (passage_from disk.map lbn (now + pos disk.mechanism source (track_at disk.map lbn) write)).end write (lbn + 1) n all.1))

pub same_choice : {A : Type 0} (b : Bool) (none one other : A) → (b ≡ false → one ≡ other)
    → (if b then none else one) ≡ (if b then none else other)
same_choice true none one other h = refl
same_choice false none one other h = h refl

-- the row of a service is the one of the definition
row_is : (row : ForeRow) (request : Request) (start media finish bad : ℕ) (content : List ContentRun) → row.request ≡ request
    → row.start ≡ start → row.media ≡ media → row.finish ≡ finish
    → row.bad ≡ bad → row.content ≡ content
    → row ≡ record { request = request; start = start; media = media; finish = finish; bad = bad; content = content }
row_is row request start media finish bad content a b c d e f = rw (← a, ← b, ← c, ← d, ← e, ← f) refl

written_or_not : (b : Bool) (q : Written → Bool) (before : Option Written) (writes : List Written) (first after : Content)
    → after ≡ content_by (last_or before (filter q writes)) first
    → (if b then after else content_by before first) ≡ content_by (last_or before (filter q (if b then writes else []))) first
written_or_not true q before writes first after h = h
written_or_not false q before writes first after h = refl

-- what a request leaves is what the services with it leave
contents_left : (disk : Disk) (latent : List ℕ) (done : List Served) (head : Track) (start : ℕ) (request : Request) (lbn : ℕ)
    → left_by request lbn (held_after latent done lbn) ≡ held_after latent (done ++ service disk head start request ∷ []) lbn
contents_left disk latent done head start request lbn =
    let before = last_or None (filter (is_of lbn) (all_writes done)) in
    written_or_not request.write (is_of lbn) before
    (map (written_by (writer_of request.name)) (passages disk head start request.write request.lbn request.count)) (unwritten latent lbn) _
    (sym (own_writes disk head start request.write request.lbn request.count (writer_of request.name) lbn before (unwritten latent lbn)))
    ∙ ap (λ o. content_by o (unwritten latent lbn)) (sym
    (ap (λ ws. last_or None (filter (is_of lbn) ws)) (flat_map-append writes_of done (service disk head start request ∷ [])
    ∙ ap (λ ws. all_writes done ++ ws) (append-nil (writes_of (service disk head start request))))
    ∙ ap (last_or None) (filter-append (is_of lbn) (all_writes done) (writes_of (service disk head start request)))
    ∙ last_joined None (filter (is_of lbn) (all_writes done)) (filter (is_of lbn) (writes_of (service disk head start request)))))

-- the writes so far have ended
ended_more : (disk : Disk) (done : List Served) (head : Track) (now start end : ℕ) (request : Request) → now ≤ end
    → end ≡ finish (service disk head start request)
    → AllByRecursion (λ (w : Written). w.passage.end ≤ now) (all_writes done)
    → AllByRecursion (λ (w : Written). w.passage.end ≤ end) (all_writes (done ++ service disk head start request ∷ []))
ended_more disk done head now start end request later ends before =
    subst (AllByRecursion (λ (w : Written). w.passage.end ≤ end))
    (sym (flat_map-append writes_of done (service disk head start request ∷ [])))
    (all_append _ (all_writes done) (writes_of (service disk head start request) ++ [])
    (all_weaker _ _ (λ (w : Written) h. omega (arith, h)) _ before)
    (all_append _ (writes_of (service disk head start request)) []
    (all_weaker _ _ (λ (w : Written) h. omega (arith, h.1, ends)) _ (written_between disk head start request)) tt))

-- one more service
module _ (disk : Disk) (latent : List ℕ) (whole done rest later : List Served) (head : Track) (now end : ℕ) (request : Request)
    (holding : Holding)
    (so_far : Replayed latent whole rest now holding done) (next : rest ≡ service disk head now request ∷ later) (longer : now ≤ end)
    (ends : end ≡ finish (service disk head now request)) where
  abbrev this : Served
  this = service disk head now request

  module _ (each : AllByRecursion (λ (p : Passage). p.begin < p.end) this.passages)
      (after : AllByRecursion (λ (w : Written). end ≤ w.passage.end) (all_writes later)) where
    abbrev medium : Medium
    medium = medium_by disk latent (done ++ this ∷ later)

    -- what a read finds is what the disk holds
    read_finds : request.write ≡ false
        → map (at_passage (content medium)) this.passages ≡ map (of_sector (content_in holding)) (range_with_len request.lbn request.count)
    read_finds reads = by_sector disk (content medium) (content_in holding) head now request.write request.lbn request.count
        (all_weaker _ _ (λ (p : Passage) h.
        content_now disk latent done later this now p.lbn p.begin reads so_far.ended (omega (arith, h.0.0))
        (all_weaker _ _ (λ (w : Written) late. omega (arith, late, h.0.2, h.1, ends)) _ after)
        ∙ sym (so_far.holds p.lbn))
        _ (all_both _ _ _ (passed_between disk head now request.write request.lbn request.count).1 each))

    finds : found_in holding request ≡ found medium this
    finds = same_choice request.write [] (runs_of (map (of_sector (content_in holding)) (range_with_len request.lbn request.count)))
        (runs_of (map (at_passage (content medium)) this.passages))
        (λ reads. ap runs_of (sym (read_finds reads)))

  -- its row is the one of the definition
  pub row_made : (row : ForeRow) → IsRowOf holding this row
      → AllByRecursion (λ (p : Passage). p.begin < p.end) (passages disk head now request.write request.lbn request.count)
      → AllByRecursion (λ (w : Written). end ≤ w.passage.end) (all_writes later) → row ≡ fore_row (medium_by disk latent whole) this
  row_made row is each after =
      let here : found_in holding request ≡ found (medium_by disk latent whole) this =
      finds each after ∙ ap (λ ws. found (medium_by disk latent ws) this) (ap (λ xs. done ++ xs) (sym next) ∙ so_far.all) in
      row_is row request now (media this) (finish this) (bad_of (found (medium_by disk latent whole) this))
      (found (medium_by disk latent whole) this)
      is.request is.start is.media is.finish (is.bad ∙ ap bad_of (is.content ∙ here)) (is.content ∙ here)

  pub replayed_more : (left : Holding) → ((lbn : ℕ) → content_in left lbn ≡ left_by request lbn (content_in holding lbn))
      → Replayed latent whole later end left (done ++ this ∷ [])
  replayed_more left contents_are = record {
    all = one_more done this rest later whole next so_far.all;
    ended = ended_more disk done head now now end request longer ends so_far.ended;
    holds = λ lbn. contents_are lbn ∙ ap (left_by request lbn) (so_far.holds lbn) ∙ contents_left disk latent done head now request lbn;
  }

pub in_order : (requests : List Request) → IsRising (map (λ (r : Request). r.arrival) requests) → AreByArrival requests
in_order [] rising = tt
in_order (r ∷ rs) rising = (all_unmapped (λ later. r.arrival ≤ later) (λ (o : Request). o.arrival) rs rising.0, in_order rs rising.1)
