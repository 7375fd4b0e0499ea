-- Requests on lanes.
use Rattle.fb_units.proofs.Tracks.{same_fields}
use Rattle.fb_fastq.proofs.Words.{◌≡◌, ℕ, ◌+◌, ◌-◌, ◌*◌, ◌%◌, ◌^◌, ◌<◌, ◌≤◌, refl, sym, ap, ◌∙◌, arith, Bool, true, false, if◌then◌else◌}
use Rattle.fb_fastq.proofs.Words.{mod-lt, Track, Request, place_at, track_at, pos, Disk, begin_angle, begin_from, sptf, Lane, turn}
use Rattle.fb_fastq.proofs.Words.{lane_start, IsLane, IsAlong}

-- a spot in the room of a lane is one of this lane
same_numbers : (c h d k b : ℕ) (w v : Bool) → h < 64 → k < 64 → b < 2 ^ 30
    → c * 2 ^ 37 + h * 2 ^ 31 + (if w then 2 ^ 30 else 0) ≤ d * 2 ^ 37 + k * 2 ^ 31 + (if v then 2 ^ 30 else 0) + b
    → d * 2 ^ 37 + k * 2 ^ 31 + (if v then 2 ^ 30 else 0) + b < c * 2 ^ 37 + h * 2 ^ 31 + (if w then 2 ^ 30 else 0) + 2 ^ 30
    → (d ≡ c) × (k ≡ h) × (v ≡ w)
same_numbers c h d k b true true on_h on_k short from below = (omega arith, omega arith, refl)
same_numbers c h d k b false false on_h on_k short from below = (omega arith, omega arith, refl)
same_numbers c h d k b true false on_h on_k short from below = absurd (omega arith)
same_numbers c h d k b false true on_h on_k short from below = absurd (omega arith)

write_room : (w : Bool) → (if w then 2 ^ 30 else 0) ≤ 2 ^ 30
write_room true = omega arith
write_room false = omega arith

shifted : (b rotation now way : ℕ) → 0 < rotation
    → (now + way + (b + (rotation - (now + way) % rotation)) % rotation) - now ≡ way + (b + rotation - (now + way) % rotation) % rotation
shifted b rotation now way some =
    let at = (now + way) % rotation in
    let under : at < rotation = mod-lt (now + way) some in
    let sum : b + (rotation - at) ≡ b + rotation - at = omega arith in
    ap (λ x. (now + way + x % rotation) - now) sum ∙ omega arith

-- the wait is the way to the request's track, and the platter's turn from there to its first sector
pub waits_turn : (disk : Disk) (r : Request) (head : Track) (now : ℕ)
    → sptf disk head now r ≡ pos disk.mechanism head (track_at disk.map r.lbn) r.write
    + turn disk.map.rotation ((now + pos disk.mechanism head (track_at disk.map r.lbn) r.write) % disk.map.rotation)
    (begin_angle disk.map (place_at disk.map r.lbn))
unfolding begin_from
waits_turn disk r head now = shifted (begin_angle disk.map (place_at disk.map r.lbn)) disk.map.rotation now (pos disk.mechanism head
    (track_at disk.map r.lbn) r.write) disk.some_rotation

module _ (disk : Disk) (r : Request) (spot : ℕ) (along : IsAlong disk r spot) where
  -- the spots of a cylinder
  pub on_cylinder : ((track_at disk.map r.lbn).cylinder * 2 ^ 37 ≤ spot) × (spot < (track_at disk.map r.lbn).cylinder * 2 ^ 37 + 2 ^ 37)
  on_cylinder =
      let room = write_room r.write in
      let short = disk.short_rotation in
      (omega (arith, along.value, room), omega (arith, along.value, along.within, along.head, room, short))

  module _ (lane : Lane) (is_lane : IsLane lane) where
    pub on_lane : lane.start ≤ spot → spot < lane.start + 2 ^ 30 → (track_at disk.map r.lbn ≡ lane.track) × (r.write ≡ lane.write)
    on_lane from below =
        let track = track_at disk.map r.lbn in
        let b = begin_angle disk.map (place_at disk.map r.lbn) in
        let short : b < 2 ^ 30 = (let within = along.within in let rotation = disk.short_rotation in omega (arith, within, rotation)) in
        let same =
        same_numbers lane.track.cylinder lane.track.head track.cylinder track.head b lane.write r.write is_lane.head along.head short
        (omega (arith, from, along.value, is_lane.start)) (omega (arith, below, along.value, is_lane.start)) in
        (same_fields track lane.track same.0 same.1, same.2)

    -- how far its spot is from the lane's start is the angle at which its first sector begins
    pub begins : track_at disk.map r.lbn ≡ lane.track → r.write ≡ lane.write
        → (spot ≡ lane.start + begin_angle disk.map (place_at disk.map r.lbn)) × (spot < lane.start + disk.map.rotation)
    begins track write =
        let same : lane_start (track_at disk.map r.lbn) r.write ≡ lane_start lane.track lane.write = ap (λ t. lane_start t r.write) track
        ∙ ap (lane_start lane.track) write in
        let value : spot ≡ lane.start + begin_angle disk.map (place_at disk.map r.lbn) = along.value
        ∙ ap (λ s. s + begin_angle disk.map (place_at disk.map r.lbn)) (same ∙ sym is_lane.start) in
        (value, omega (arith, value, along.within))

    -- the wait is the way to the lane, and the platter's turn from there to the spot
    pub waits_on_lane : (head : Track) (now : ℕ) → track_at disk.map r.lbn ≡ lane.track → r.write ≡ lane.write
        → sptf disk head now r ≡ pos disk.mechanism head lane.track lane.write
        + turn disk.map.rotation ((now + pos disk.mechanism head lane.track lane.write) % disk.map.rotation) (spot - lane.start)
    waits_on_lane head now track write =
        let rotation = disk.map.rotation in
        let b = begin_angle disk.map (place_at disk.map r.lbn) in
        let way = pos disk.mechanism head lane.track lane.write in
        let same : pos disk.mechanism head (track_at disk.map r.lbn) r.write ≡ way = ap (λ t. pos disk.mechanism head t r.write) track
        ∙ ap (pos disk.mechanism head lane.track) write in
        let begin : spot - lane.start ≡ b = (let at = (begins track write).0 in omega (arith, at)) in
        waits_turn disk r head now
        ∙ (ap (λ x. x + turn rotation ((now + x) % rotation) b) same ∙ ap (λ x. way + turn rotation ((now + way) % rotation) x) (sym begin))
