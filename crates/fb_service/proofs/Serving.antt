-- A service, extent after extent.
use Rattle.fb_service.proofs.Words.{◌≡◌, ℕ, zero, suc, ◌+◌, ◌-◌, ◌<◌, ◌≤◌, List, [], ◌∷◌, ◌++◌, map, refl, ap, sym, ◌∙◌, arith}
use Rattle.fb_service.proofs.Words.{append_assoc, append-nil, inl, inr, subst, range_with_len, AllByRecursion, cases_lt, Shape, pos}
use Rattle.fb_service.proofs.Words.{place_at, Passage, Extent, begin_from, begin_angle, end_angle, length_of, ArePassing, passage_from}
use Rattle.fb_service.proofs.Words.{passages, passages_of, all_passages_of, FollowOn, IsUnbroken}
use Rattle.std.proofs.Common.{Bool, true}
use Rattle.std.specs.Prelude.{◌==◌}
use Rattle.std.proofs.lemmas.List.Concat.{flat_map-append}
use Rattle.std.proofs.lemmas.Bool.{and_from, eq-eqb}
use Rattle.fb_units.specs.declared.types.Track.{Track}
use Rattle.fb_units.specs.Tracks.{same_track}
use Rattle.fb_seek.specs.Mechanics.{Mechanics}
use Rattle.fb_service.specs.declared.disk.Disk.{Disk}
use Rattle.fb_service.specs.Service.{finish_of, media_of}
use Rattle.fb_service.proofs.Passes.{begin_from_again}

-- when the way to a sector has ended
abbrev pub arrived : Disk → Track → ℕ → Bool → ℕ → ℕ
arrived disk source now write lbn = now + pos disk.mechanism source (place_at disk.map lbn).track write

-- the first passage from the beginning of a passage on is that passage
pub from_begin : (shape : Shape) (lbn t begin : ℕ) → begin_angle shape (place_at shape lbn) < shape.rotation
    → begin ≡ begin_from shape (place_at shape lbn) t
    → passage_from shape lbn begin ≡ passage_from shape lbn t
from_begin shape lbn t begin h e =
    ap (λ b. record { lbn = lbn; begin = b; end = b + (end_angle shape (place_at shape lbn) - begin_angle shape (place_at shape lbn)) })
    (ap (begin_from shape (place_at shape lbn)) e ∙ sym (begin_from_again shape (place_at shape lbn) t h))

-- the way from a track to itself takes no time
pub stays_there : (arm : Mechanics) (a b : Track) (write : Bool) → a ≡ b → pos arm a b write ≡ 0
unfolding pos
stays_there arm a b write e = subst (λ c. pos arm a c write ≡ 0) e (rw itself refl)
  where
    itself : same_track a a ≡ true
    itself = and_from (a.cylinder == a.cylinder) (a.head == a.head) (eq-eqb a.cylinder a.cylinder refl) (eq-eqb a.head a.head refl)

pub first_media : (disk : Disk) (source : Track) (now : ℕ) (write : Bool) (lbn n : ℕ) → 0 < n
    → media_of (passages disk source now write lbn n) ≡ begin_from disk.map (place_at disk.map lbn) (arrived disk source now write lbn)
unfolding passages
first_media disk source now write lbn zero h = absurd (omega arith)
first_media disk source now write lbn (suc n) h = refl

pub no_passages : (disk : Disk) (source : Track) (now : ℕ) (write : Bool) (lbn n : ℕ) → n ≡ 0 → passages disk source now write lbn n ≡ []
unfolding passages
no_passages disk source now write lbn zero h = refl
no_passages disk source now write lbn (suc n) h = absurd (omega arith)

passages-next : (disk : Disk) (source : Track) (now : ℕ) (write : Bool) (lbn n rest : ℕ) → n ≡ suc rest
    → passages disk source now write lbn n
    ≡ passage_from disk.map lbn (arrived disk source now write lbn)
    ∷ passages disk (place_at disk.map lbn).track (passage_from disk.map lbn (arrived disk source now write lbn)).end write (lbn + 1) rest
unfolding passages
passages-next disk source now write lbn n rest e = ap (passages disk source now write lbn) e

module _ (disk : Disk) (write : Bool) (track : Track) (first begin end left : ℕ) where
  -- the passages of sectors of one track that pass without a wait
  abbrev those : ℕ → ℕ → List Passage
  those i n = map (λ x. passage_from disk.map (first + x) begin) (range_with_len i n)

  pub in_a_row : (i n : ℕ) (source : Track) (now t : ℕ)
      → ((x : ℕ) → i ≤ x → x < i + suc n → (place_at disk.map (first + x)).track ≡ track)
      → ((x : ℕ) → i ≤ x → x < i + suc n → begin_angle disk.map (place_at disk.map (first + x)) < disk.map.rotation)
      → passage_from disk.map (first + i) (arrived disk source now write (first + i)) ≡ passage_from disk.map (first + i) begin
      → FollowOn t (those i (suc n)) end
      → passages disk source now write (first + i) (suc n + left) ≡ those i (suc n)
      ++ passages disk track end write (first + i + suc n) left
  in_a_row i zero source now t on_track angles here follow =
      passages-next disk source now write (first + i) (suc zero + left) left (omega arith)
      ∙ ap (λ (p : Passage). p ∷ passages disk (place_at disk.map (first + i)).track p.end write (first + i + 1) left) here
      ∙ ap (λ e. passage_from disk.map (first + i) begin ∷ passages disk (place_at disk.map (first + i)).track e write (first + i + 1) left)
      follow.1
      ∙ ap (λ t. passage_from disk.map (first + i) begin ∷ passages disk t end write (first + i + 1) left)
      (on_track i (omega arith) (omega arith))
  in_a_row i (suc n) source now t on_track angles here follow =
      let this = passage_from disk.map (first + i) begin in
      let next = first + (i + 1) in
      let here_track = on_track i (omega arith) (omega arith) in
      let still : arrived disk track this.end write next ≡ this.end = omega (
        arith,
        stays_there disk.mechanism track (place_at disk.map next).track write (sym (on_track (i + 1) (omega arith) (omega arith))),
      ) in
      let again : passage_from disk.map next (arrived disk track this.end write next) ≡ passage_from disk.map next begin =
      ap (passage_from disk.map next) (still ∙ sym follow.1.0)
      ∙ from_begin disk.map next begin _ (angles (i + 1) (omega arith) (omega arith)) refl in
      let rest = in_a_row (i + 1) n track this.end this.end (λ x more less. on_track x (omega arith) (omega arith))
      (λ x more less. angles x (omega arith) (omega arith)) again follow.1 in
      passages-next disk source now write (first + i) (suc (suc n) + left) (suc n + left) (omega arith)
      ∙ ap (λ (p : Passage). p ∷ passages disk (place_at disk.map (first + i)).track p.end write (first + i + 1) (suc n + left)) here
      ∙ ap (λ t. this ∷ passages disk t this.end write (first + i + 1) (suc n + left)) here_track
      ∙ ap (λ l. this ∷ passages disk track this.end write l (suc n + left))
      (let same : first + i + 1 ≡ first + (i + 1) = omega arith in same)
      ∙ ap (λ ps. this ∷ ps) rest
      ∙ ap (λ l. this ∷ (those (i + 1) (suc n) ++ passages disk track end write l left))
      (let same : first + (i + 1) + suc n ≡ first + i + suc (suc n) = omega arith in same)

-- an unbroken extent is served sector by sector
pub served_extent : (disk : Disk) (source : Track) (now : ℕ) (write : Bool) (lbn left : ℕ) (extent : Extent) → IsUnbroken disk.map extent
    → ArePassing disk.map lbn extent.count → extent.first ≡ lbn
    → extent.begin ≡ begin_from disk.map (place_at disk.map lbn) (arrived disk source now write lbn)
    → passages disk source now write lbn (extent.count + left) ≡ passages_of disk.map extent
    ++ passages disk extent.track extent.end write (lbn + extent.count) left
served_extent disk source now write lbn left extent unbroken timed first begin =
    let count : extent.count ≡ suc (extent.count - 1) = omega (arith, unbroken.some) in
    let start : extent.first + 0 ≡ lbn = omega arith in
    let row = in_a_row disk write extent.track extent.first extent.begin extent.end left 0 (extent.count - 1) source now extent.begin
    (λ x more less. unbroken.on_track x (omega arith))
    (λ x more less. subst (λ l. begin_angle disk.map (place_at disk.map (l + x)) < disk.map.rotation) (sym first)
    (timed.angle x (omega arith)))
    (subst (λ l. passage_from disk.map l (arrived disk source now write l) ≡ passage_from disk.map l extent.begin) (sym start)
    (sym (from_begin disk.map lbn (arrived disk source now write lbn) extent.begin (subst (λ l. begin_angle disk.map (place_at disk.map l)
    < disk.map.rotation) (let same : lbn + 0 ≡ lbn = omega arith in same) (timed.angle 0 unbroken.some)) begin)))
    (subst (λ n. FollowOn extent.begin (map (λ x. passage_from disk.map (extent.first + x) extent.begin) (range_with_len 0 n)) extent.end)
    count unbroken.without_wait) in
    ap (λ n. passages disk source now write lbn (n + left)) count
    ∙ ap (λ l. passages disk source now write l (suc (extent.count - 1) + left)) (sym start)
    ∙ row
    ∙ ap (λ n. map (λ x. passage_from disk.map (extent.first + x) extent.begin) (range_with_len 0 n)
    ++ passages disk extent.track extent.end write (extent.first + 0 + n) left) (sym count)
    ∙ ap (λ l. passages_of disk.map extent ++ passages disk extent.track extent.end write (l + extent.count) left) start

-- the passages of a service with one more extent
pub served_more : (disk : Disk) (source : Track) (now : ℕ) (write : Bool) (lbn n next left : ℕ) (extent : Extent) (end : ℕ) (track : Track)
    (front front' whole : List Passage)
    → IsUnbroken disk.map extent → ArePassing disk.map lbn extent.count → extent.first ≡ lbn
    → extent.begin ≡ begin_from disk.map (place_at disk.map lbn) (arrived disk source now write lbn)
    → extent.count + left ≡ n → lbn + extent.count ≡ next → end ≡ extent.end → track ≡ extent.track
    → front' ≡ front ++ passages_of disk.map extent
    → front ++ passages disk source now write lbn n ≡ whole
    → front' ++ passages disk track end write next left ≡ whole
served_more disk source now write lbn n next left extent end track front front' whole unbroken timed first begin size behind ends there more all =
    ap (λ ps. ps ++ passages disk track end write next left) more
    ∙ ap (λ t. (front ++ passages_of disk.map extent) ++ passages disk t end write next left) there
    ∙ ap (λ e. (front ++ passages_of disk.map extent) ++ passages disk extent.track e write next left) ends
    ∙ ap (λ l. (front ++ passages_of disk.map extent) ++ passages disk extent.track extent.end write l left) (sym behind)
    ∙ append_assoc front (passages_of disk.map extent) (passages disk extent.track extent.end write (lbn + extent.count) left)
    ∙ ap (λ ps. front ++ ps) (sym (served_extent disk source now write lbn left extent unbroken timed first begin))
    ∙ ap (λ m. front ++ passages disk source now write lbn m) size
    ∙ all

-- all sectors are served
pub all_served : (shape : Shape) (extents extents' : List Extent) (extent : Extent) (rest whole : List Passage)
    → extents' ≡ extents ++ extent ∷ [] → rest ≡ []
    → (all_passages_of shape extents ++ passages_of shape extent) ++ rest ≡ whole → all_passages_of shape extents' ≡ whole
all_served shape extents extents' extent rest whole e none h =
    ap (all_passages_of shape) e
    ∙ flat_map-append (passages_of shape) extents (extent ∷ [])
    ∙ ap (λ x. all_passages_of shape extents ++ x) (append-nil (passages_of shape extent))
    ∙ sym (append-nil (all_passages_of shape extents ++ passages_of shape extent))
    ∙ ap (λ r. (all_passages_of shape extents ++ passages_of shape extent) ++ r) (sym none)
    ∙ h

-- a service ends with its last extent
finish-append : (t : ℕ) (ps qs : List Passage) → finish_of t (ps ++ qs) ≡ finish_of (finish_of t ps) qs
finish-append t [] qs = refl
finish-append t (p ∷ ps) qs = finish-append p.end ps qs

finish-follows : (t : ℕ) (ps : List Passage) (end : ℕ) → FollowOn t ps end → finish_of t ps ≡ end
finish-follows t [] end follow = follow
finish-follows t (p ∷ ps) end follow = finish-follows p.end ps end follow.1

finish-some : (t u : ℕ) (f : ℕ → Passage) (n : ℕ) → 0 < n
    → finish_of t (map f (range_with_len 0 n)) ≡ finish_of u (map f (range_with_len 0 n))
finish-some t u f zero h = absurd (omega arith)
finish-some t u f (suc n) h = refl

pub finish-all : (shape : Shape) (now : ℕ) (front rest whole : List Passage) (extent : Extent) → IsUnbroken shape extent → rest ≡ []
    → (front ++ passages_of shape extent) ++ rest ≡ whole → extent.end ≡ finish_of now whole
finish-all shape now front rest whole extent unbroken none h =
    sym (finish-follows extent.begin (passages_of shape extent) extent.end unbroken.without_wait)
    ∙ finish-some extent.begin (finish_of now front) (λ i. passage_from shape (extent.first + i) extent.begin) extent.count unbroken.some
    ∙ sym (finish-append now front (passages_of shape extent))
    ∙ ap (finish_of now) (sym (append-nil (front ++ passages_of shape extent))
    ∙ ap (λ r. (front ++ passages_of shape extent) ++ r) (sym none) ∙ h)

-- sectors that each take some time to pass, and more such sectors behind them
pub passing-more : (disk : Shape) (first served lbn count next : ℕ) → ((x : ℕ) → first ≤ x → x < lbn → 0 < length_of disk (place_at disk x))
    → ArePassing disk lbn count → next ≡ lbn + count
    → (x : ℕ) → first ≤ x → x < next → 0 < length_of disk (place_at disk x)
passing-more disk first served lbn count next before these e x from below = elim (cases_lt x lbn) [
  | inl less ↦ before x from less
  | inr more ↦ subst (λ y. 0 < length_of disk (place_at disk y)) (let same : lbn + (x - lbn) ≡ x = omega arith in
      same) (these.long (x - lbn) (omega arith))
]

-- the passages of sectors that each take some time to pass take some time
pub all_take : (disk : Disk) (source : Track) (now : ℕ) (write : Bool) (lbn n : ℕ)
    → ((x : ℕ) → lbn ≤ x → x < lbn + n → 0 < length_of disk.map (place_at disk.map x))
    → AllByRecursion (λ passage. passage.begin < passage.end) (passages disk source now write lbn n)
unfolding passages
all_take disk source now write lbn zero each = tt
all_take disk source now write lbn (suc n) each = (
  let long : 0 < length_of disk.map (place_at disk.map lbn) = each lbn (omega arith) (omega arith) in omega arith,
  all_take disk (place_at disk.map lbn).track _ write (lbn + 1) n (λ x from below. each x (omega arith) (omega arith)),
)
