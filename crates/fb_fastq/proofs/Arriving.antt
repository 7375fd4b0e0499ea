-- The head's arrival at a cylinder.
use Rattle.fb_seek.proofs.Far.{seek-pos}
use Rattle.fb_fastq.proofs.Words.{◌≡◌, ℕ, ◌+◌, ◌-◌, ◌%◌, ◌*◌, ◌^◌, ◌<◌, ◌≤◌, sym, ap, ◌∙◌, arith, Bool, true, false, if◌then◌else◌, Request}
use Rattle.fb_fastq.proofs.Words.{place_at, track_at, seek, pos, distance_of, Disk, Departure, begin_angle, sptf, IsAlong, turn, IsArrival}
use Rattle.fb_fastq.proofs.Words.{IsOnCylinder, Arrival}
use Rattle.fb_fastq.proofs.{Turns.ahead, Turns.round, Turns.no_sooner, OnLanes.on_cylinder, OnLanes.waits_turn}

-- a spot of a cylinder is one of a request on it
same_cylinder : (disk : Disk) (r : Request) (spot cylinder : ℕ) → IsAlong disk r spot → IsOnCylinder cylinder spot
    → (track_at disk.map r.lbn).cylinder ≡ cylinder
same_cylinder disk r spot cylinder along on =
    let there = on_cylinder disk r spot along in
    let a = there.0 in let b = there.1 in let x = on.0 in let y = on.1 in omega (arith, a, b, x, y)

-- how far a spot is from its lane's start
along_lane : (c h b : ℕ) (w : Bool) → b < 2 ^ 30 → (c * 2 ^ 37 + h * 2 ^ 31 + (if w then 2 ^ 30 else 0) + b) % 2 ^ 30 ≡ b
along_lane c h b true short = omega (arith, short)
along_lane c h b false short = omega (arith, short)

module _ (disk : Disk) (from : Departure) (arrival : Arrival) (is : IsArrival disk from arrival) (r : Request) (spot : ℕ)
    (along : IsAlong disk r spot) (on : IsOnCylinder arrival.cylinder spot) where
  begins : spot % 2 ^ 30 ≡ begin_angle disk.map (place_at disk.map r.lbn)
  begins =
      let track = track_at disk.map r.lbn in
      let b = begin_angle disk.map (place_at disk.map r.lbn) in
      let short : b < 2 ^ 30 = (let within = along.within in let rotation = disk.short_rotation in omega (arith, within, rotation)) in
      ap (λ s. s % 2 ^ 30) along.value ∙ along_lane track.cylinder track.head b r.write short

  -- a head switch and a settle bring no first sector sooner
  turns : arrival.seek + turn disk.map.rotation arrival.angle (begin_angle disk.map (place_at disk.map r.lbn))
      ≤ sptf disk from.track from.instant r
  turns =
      let rotation = disk.map.rotation in
      let b = begin_angle disk.map (place_at disk.map r.lbn) in
      let track = track_at disk.map r.lbn in
      let way = pos disk.mechanism from.track track r.write in
      let arm = seek-pos disk.mechanism from.track track r.write in
      let same = ap (λ c. seek disk.mechanism (distance_of from.track.cylinder c)) (same_cylinder disk r spot arrival.cylinder along on) in
      let seeks = is.seek_is in
      let le : arrival.seek ≤ way = omega (arith, arm, same, seeks) in
      let sooner = no_sooner rotation from.instant arrival.seek way b disk.some_rotation along.within le in
      let wait = waits_turn disk r from.track from.instant in
      let angle = ap (λ a. arrival.seek + turn rotation a b) is.angle_is in
      omega (arith, sooner, wait, angle)

  pub least_ahead : arrival.angle ≤ spot % 2 ^ 30 → arrival.seek + (spot % 2 ^ 30 - arrival.angle) ≤ sptf disk from.track from.instant r
  least_ahead le =
      let b = begin_angle disk.map (place_at disk.map r.lbn) in
      let begin = begins in
      let on_b : arrival.angle ≤ b = omega (arith, le, begin) in
      let turned = ahead b arrival.angle disk.map.rotation on_b along.within in
      let most = turns in omega (arith, begin, turned, most)

  pub least_round : spot % 2 ^ 30 < arrival.angle
      → arrival.seek + (arrival.rotation - arrival.angle + spot % 2 ^ 30) ≤ sptf disk from.track from.instant r
  least_round lt =
      let b = begin_angle disk.map (place_at disk.map r.lbn) in
      let begin = begins in
      let on_b : b < arrival.angle = omega (arith, lt, begin) in
      let inside = is.turned in
      let turned = round b arrival.angle disk.map.rotation on_b inside in
      let most = turns in
      let whole = is.rotation_is in omega (arith, begin, turned, most, inside, whole)

  -- it is the platter's turn to the spot, in one sum
  pub value_ahead : arrival.angle ≤ spot % 2 ^ 30
      → arrival.seek + (spot % 2 ^ 30 - arrival.angle) ≡ arrival.seek + turn disk.map.rotation arrival.angle (spot % 2 ^ 30)
  value_ahead le =
      let begin = begins in
      let inside = along.within in
      ap (λ x. arrival.seek + x) (sym (ahead (spot % 2 ^ 30) arrival.angle disk.map.rotation le (omega (arith, begin, inside))))

  pub value_round : spot % 2 ^ 30 < arrival.angle → arrival.seek + (arrival.rotation - arrival.angle + spot % 2 ^ 30)
      ≡ arrival.seek + turn disk.map.rotation arrival.angle (spot % 2 ^ 30)
  value_round lt =
      let inside = is.turned in
      let whole = is.rotation_is in
      let turned = round (spot % 2 ^ 30) arrival.angle disk.map.rotation lt inside in omega (arith, turned, whole, inside)
