-- Sectors begin at angles of the rotation and take time to pass, and legs lead the head through the passages of a service.
use Rattle.fb_model.proofs.Words.{◌<◌, sym, subst, arith, ◌≡◌, ℕ, zero, suc, ◌+◌, ◌-◌, ◌≤◌, [], ◌∷◌, true, refl, ap, ◌∙◌, length}
use Rattle.fb_model.proofs.Words.{track_itself, Place, Shape, slots_at, IsSound, LiesOn, has_place, length_of, begin_angle, begin_from}
use Rattle.fb_model.proofs.Words.{◌&&◌, ◌==◌, nat_tests, Track, same_track, wait_least, place_at, track_at, pos, Disk, passages}
use Rattle.fb_model.proofs.Words.{passage_from, media_of, finish_of, stay, way, led_to, Request, places}
use Rattle.fb_service.specs.Passing.{end_from}
use Rattle.fb_model.proofs.Passages.{slots_short, from_on, LiesOnDisk}
use Rattle.std.specs.Prelude.{Bool, ◌%◌}
use Rattle.fb_model.specs.Timeline.{pass, passing}
use Rattle.fb_model.proofs.Leads.{Leads, lead_on, lead_one, lead_stay, lead_way, no_way}
use Rattle.fb_model.proofs.Disks.{begins_within}

-- ---- where legs lead the head through the passages of a service

-- each sector from one on begins at an angle of the rotation
abbrev pub HaveAngles : Shape → ℕ → ℕ → Type 0
HaveAngles disk lbn n = (i : ℕ) → i < n → begin_angle disk (place_at disk (lbn + i)) < disk.rotation

-- a sector begins at its angle
begins_at : (disk : Shape) (lbn t : ℕ) → begin_angle disk (place_at disk lbn) < disk.rotation
    → begin_from disk (place_at disk lbn) t % disk.rotation ≡ begin_angle disk (place_at disk lbn)
unfolding begin_from
begins_at disk lbn t h = (wait_least disk.rotation (begin_angle disk (place_at disk lbn)) t h).reaches

-- and passes as long as its slot
ends_at : (disk : Shape) (lbn t : ℕ)
    → end_from disk (place_at disk lbn) t ≡ begin_from disk (place_at disk lbn) t + length_of disk (place_at disk lbn)
ends_at disk lbn t = refl

passes : (track : Track) (begin angle rotation end after : ℕ) → begin % rotation ≡ angle → end ≡ after
    → (same_track track track && (begin == begin) && (begin % rotation == angle) && (end == after)) ≡ true
passes track begin angle rotation end after at long = rw (at, long, track_itself track) (grind (arith, nat_tests))

lead_pass : (disk : Disk) (lbn t : ℕ) → begin_angle disk.map (place_at disk.map lbn) < disk.map.rotation
    → Leads disk (track_at disk.map lbn) (passage_from disk.map lbn t).begin
    (pass lbn (passage_from disk.map lbn t).begin (passage_from disk.map lbn t).end ∷ []) (track_at disk.map lbn)
    (passage_from disk.map lbn t).end
lead_pass disk lbn t h =
    lead_one disk (track_at disk.map lbn) (passage_from disk.map lbn t).begin
    (pass lbn (passage_from disk.map lbn t).begin (passage_from disk.map lbn t).end)
    (passes (track_at disk.map lbn) (begin_from disk.map (place_at disk.map lbn) t)
    (begin_angle disk.map (place_at disk.map lbn)) disk.map.rotation (end_from disk.map (place_at disk.map lbn) t)
    (begin_from disk.map (place_at disk.map lbn) t + length_of disk.map (place_at disk.map lbn)) (begins_at disk.map lbn t h)
    (ends_at disk.map lbn t))

-- the track of the last of n sectors from one on
abbrev last_of : Disk → Track → ℕ → ℕ → Track
last_of disk here lbn zero = here
last_of disk here lbn (suc n) = last_of disk (track_at disk.map lbn) (lbn + 1) n

-- a passage that is waited for from t on, and those behind it
lead_first : (disk : Disk) (here : Track) (now t : ℕ) (write : Bool) (lbn n : ℕ)
    → begin_angle disk.map (place_at disk.map lbn) < disk.map.rotation
    → now + pos disk.mechanism here (track_at disk.map lbn) write ≤ (passage_from disk.map lbn t).begin
    → (let end = (passage_from disk.map lbn t).end in let ps = passages disk (track_at disk.map lbn) end write (lbn + 1) n in
    Leads disk (track_at disk.map lbn) end (passing disk (track_at disk.map lbn) end write ps)
    (last_of disk (track_at disk.map lbn) (lbn + 1) n) (finish_of end ps)
    → Leads disk here now (passing disk here now write (passage_from disk.map lbn t ∷ ps)) (last_of disk here lbn (suc n))
    (finish_of end ps))
lead_first disk here now t write lbn n angle h rest =
    let there = track_at disk.map lbn in
    let begin = (passage_from disk.map lbn t).begin in
    let end = (passage_from disk.map lbn t).end in
    let ps = passages disk there end write (lbn + 1) n in
    let arrived = now + pos disk.mechanism here there write in
    let later = passing disk there end write ps in
    let to = last_of disk there (lbn + 1) n in
    let finish = finish_of end ps in
    lead_on disk here there to now arrived finish (way disk here there write now) (stay there arrived begin ∷ pass lbn begin end ∷ later)
    (lead_way disk here there write now)
    (lead_on disk there there to arrived begin finish (stay there arrived begin ∷ []) (pass lbn begin end ∷ later)
    (lead_stay disk there arrived begin h)
    (lead_on disk there there to begin end finish (pass lbn begin end ∷ []) later (lead_pass disk lbn t angle) rest))

own_angle : (disk : Shape) (lbn n : ℕ) → HaveAngles disk lbn (suc n) → begin_angle disk (place_at disk lbn) < disk.rotation
own_angle disk lbn n angles = subst (λ x. begin_angle disk (place_at disk x) < disk.rotation) (let same : lbn + 0 ≡ lbn = omega arith in
    same) (angles 0 (omega arith))

later_angles : (disk : Shape) (lbn n : ℕ) → HaveAngles disk lbn (suc n) → HaveAngles disk (lbn + 1) n
later_angles disk lbn n angles i less = subst (λ x. begin_angle disk (place_at disk x) < disk.rotation)
    (let same : lbn + suc i ≡ lbn + 1 + i = omega arith in same) (angles (suc i) (omega arith))

lead_passages : (disk : Disk) (here : Track) (now : ℕ) (write : Bool) (lbn n : ℕ) → HaveAngles disk.map lbn n
    → Leads disk here now (passing disk here now write (passages disk here now write lbn n)) (last_of disk here lbn n)
    (finish_of now (passages disk here now write lbn n))
unfolding passages
lead_passages disk here now write lbn zero angles = λ more. refl
lead_passages disk here now write lbn (suc n) angles =
    let arrived = now + pos disk.mechanism here (track_at disk.map lbn) write in
    lead_first disk here now arrived write lbn n (own_angle disk.map lbn n angles) (from_on disk lbn arrived)
    (lead_passages disk (track_at disk.map lbn) (passage_from disk.map lbn arrived).end write (lbn + 1) n
    (later_angles disk.map lbn n angles))

last_is : (disk : Disk) (here : Track) (lbn n : ℕ) → last_of disk here lbn (suc n) ≡ track_at disk.map (lbn + n)
last_is disk here lbn zero = ap (track_at disk.map) (let same : lbn ≡ lbn + 0 = omega arith in same)
last_is disk here lbn (suc n) =
    last_is disk (track_at disk.map lbn) (lbn + 1) n ∙ ap (track_at disk.map) (let same : lbn + 1 + n ≡ lbn + suc n = omega arith in same)

-- the passages of a service lead from the first one's beginning to the finish, and leave the head on the track of the last sector
pub lead_service : (disk : Disk) (source : Track) (start : ℕ) (write : Bool) (lbn n : ℕ) → 0 < n → HaveAngles disk.map lbn n
    → (let ps = passages disk source start write lbn n in
    Leads disk (track_at disk.map lbn) (media_of ps) (passing disk (track_at disk.map lbn) (media_of ps) write ps)
    (track_at disk.map (lbn + n - 1)) (finish_of start ps))
unfolding passages
lead_service disk source start write lbn zero some angles = absurd (omega arith)
lead_service disk source start write lbn (suc n) some angles =
    let there = track_at disk.map lbn in
    let arrived = start + pos disk.mechanism source there write in
    let begin = (passage_from disk.map lbn arrived).begin in
    let end = (passage_from disk.map lbn arrived).end in
    let ps = passages disk there end write (lbn + 1) n in
    let led = lead_first disk there begin arrived write lbn n (own_angle disk.map lbn n angles) (omega (
      arith,
      no_way disk.mechanism there there write (track_itself there),
    ))
    (lead_passages disk there end write (lbn + 1) n (later_angles disk.map lbn n angles)) in
    λ more. led more ∙ ap (λ (on : Track). led_to disk on (finish_of end ps) more) (last_is disk there lbn n
    ∙ ap (track_at disk.map) (let same : lbn + n ≡ lbn + suc n - 1 = omega arith in same))

-- ---- the foreground requests of accepted inputs lie on the disk, and its sectors begin at angles of its rotation

begins_on : (disk : Shape) (cylinder : ℕ) (place : Place) → IsSound disk → LiesOn disk cylinder place
    → begin_angle disk place < disk.rotation
begins_on disk cylinder place sound lies = begins_within disk.rotation (slots_at disk.zones place.track.cylinder) place.slot
    (slots_short disk.rotation disk.zones place.track.cylinder sound.short_slots)
    (omega (arith, ap (slots_at disk.zones) lies.cylinder_is, lies.slot))

-- each sector of the disk begins at an angle of the rotation
pub angle_below : (disk : Shape) → IsSound disk → (lbn : ℕ) → lbn < length (places disk)
    → begin_angle disk (place_at disk lbn) < disk.rotation
angle_below disk sound lbn inside =
    let found = has_place disk sound lbn inside in
    subst (λ (place : Place). begin_angle disk place < disk.rotation) (sym found.placed_at)
    (begins_on disk found.cylinder found.place sound found.lies)

pub have_angles : (disk : Shape) → IsSound disk → (request : Request) → LiesOnDisk disk request → HaveAngles disk request.lbn request.count
have_angles disk sound request lies i less = angle_below disk sound (request.lbn + i) (omega (arith, lies.inside))
