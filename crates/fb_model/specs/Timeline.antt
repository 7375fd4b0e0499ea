-- Where the head is, from the rows of a run.
use Rattle.std.specs.Prelude.{◌≡◌, ℕ, ◌+◌, ◌%◌, List, [], ◌∷◌, ◌++◌, Bool, false, ◌&&◌, not, ◌==◌, nat_le, Option, Some, None}
use Rattle.std.specs.Prelude.{if◌then◌else◌}
use Rattle.fb_units.specs.declared.types.Track.{Track}
use Rattle.fb_units.specs.Tracks.{same_track}
use Rattle.fb_sectormap.specs.LookUp.{place_at, track_at}
use Rattle.fb_seek.specs.Positioning.{pos}
use Rattle.fb_service.specs.declared.disk.Disk.{Disk}
use Rattle.fb_service.specs.declared.passage.Passage.{Passage}
use Rattle.fb_service.specs.Passing.{begin_angle, length_of}
use Rattle.fb_service.specs.Service.{passages}
use Rattle.fb_rows.specs.declared.fore.ForeRow.{ForeRow}
use Rattle.fb_rows.specs.declared.gap.Gap.{Gap}
use Rattle.fb_rows.specs.declared.gap.Plan.{Plan}
use Rattle.fb_rows.specs.declared.gap.Plan.TheVariants.{Direct, Detour}
use Rattle.fb_rows.specs.declared.back.BackRow.{BackRow}
use Rattle.fb_rows.specs.declared.back.BackRow.TheVariants.{Gap as BackGap, Idle as BackIdle}
use Rattle.fb_model.specs.PlainReplay.{first_track}

-- a leg of the head's way: a stay on a track, a move from one to another, a sector's passage
pub data Leg : Type 0 where
  stay : Track → ℕ → ℕ → Leg
  move : Track → Track → Bool → ℕ → ℕ → Leg
  pass : ℕ → ℕ → ℕ → Leg

-- a move, if the tracks differ
abbrev pub way : Disk → Track → Track → Bool → ℕ → List Leg
way disk from to write now = if same_track from to then [] else move from to write now (now + pos disk.mechanism from to write) ∷ []

-- the stay on the target from the end of the move to it
abbrev pub arrival : Disk → Gap → Track → ℕ → Leg
arrival disk gap from leave = stay gap.target (leave + pos disk.mechanism from gap.target gap.write) gap.deadline

-- straight from the source to the target, or over a track that is neither
abbrev pub gap_legs : Disk → Gap → Plan → List Leg
gap_legs disk gap (Direct leave) =
    stay gap.source gap.now leave ∷ way disk gap.source gap.target gap.write leave ++ arrival disk gap gap.source leave ∷ []
gap_legs disk gap (Detour track leave) =
    move gap.source track false gap.now (gap.now + pos disk.mechanism gap.source track false)
    ∷ stay track (gap.now + pos disk.mechanism gap.source track false) leave
    ∷ move track gap.target gap.write leave (leave + pos disk.mechanism track gap.target gap.write)
    ∷ arrival disk gap track leave
    ∷ []

-- passages, with the moves and waits between them
abbrev pub passing : Disk → Track → ℕ → Bool → List Passage → List Leg
passing disk here now write [] = []
passing disk here now write (passage ∷ passages) =
    let there = track_at disk.map passage.lbn in
    way disk here there write now
    ++ stay there (now + pos disk.mechanism here there write) passage.begin
    ∷ pass passage.lbn passage.begin passage.end
    ∷ passing disk there passage.end write passages

-- the request of a gap
abbrev pub service_legs : Disk → Gap → ForeRow → List Leg
service_legs disk gap row = passing disk gap.target gap.deadline row.request.write
    (passages disk gap.source gap.now row.request.write row.request.lbn row.request.count)

-- the whole way of the head, from the background rows in order, each gap row with the next foreground row
unfoldable pub timeline : Disk → List BackRow → List ForeRow → List Leg
timeline disk [] fore = []
timeline disk (BackIdle dwell ∷ back) fore = stay dwell.track dwell.begin dwell.end ∷ timeline disk back fore
timeline disk (BackGap row ∷ back) [] = gap_legs disk row.gap row.plan ++ timeline disk back []
timeline disk (BackGap row ∷ back) (served ∷ fore) =
    gap_legs disk row.gap row.plan ++ service_legs disk row.gap served ++ timeline disk back fore
timeline disk (_ ∷ back) fore = timeline disk back fore

-- the leg can begin on this track at this instant
abbrev pub can_follow : Disk → Track → ℕ → Leg → Bool
can_follow disk track now (stay on begin end) = same_track on track && (begin == now) && nat_le begin end
can_follow disk track now (move from to write begin end) = same_track from track && not (same_track from to) && (begin == now)
    && (end == begin + pos disk.mechanism from to write)
can_follow disk track now (pass lbn begin end) =
    let place = place_at disk.map lbn in
    same_track place.track track && (begin == now) && (begin % disk.map.rotation == begin_angle disk.map place)
    && (end == begin + length_of disk.map place)

-- the track on which a leg leaves the head
abbrev pub leaves_on : Disk → Leg → Track
leaves_on disk (stay on begin end) = on
leaves_on disk (move from to write begin end) = to
leaves_on disk (pass lbn begin end) = track_at disk.map lbn

-- the instant at which a leg ends
abbrev pub leaves_at : Leg → ℕ
leaves_at (stay on begin end) = end
leaves_at (move from to write begin end) = end
leaves_at (pass lbn begin end) = end

-- when the legs end, begun on a track at an instant; none if they aren't possible
unfoldable pub led_to : Disk → Track → ℕ → List Leg → Option ℕ
led_to disk track now [] = Some now
led_to disk track now (leg ∷ legs) = if can_follow disk track now leg
    then led_to disk (leaves_on disk leg) (leaves_at leg) legs
    else None

-- the legs are possible from the first track and the instant 0 on, and end at this instant
abbrev pub IsPossible : Disk → List Leg → ℕ → Type 0
IsPossible disk legs end = led_to disk first_track 0 legs ≡ Some end
