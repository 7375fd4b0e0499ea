-- No stay catches more than what can pass in its time.
use Rattle.fb_detour.proofs.Words.{List, arith, suc, zero, ℕ, ◌*◌, ◌-◌, ◌/◌, ◌<◌, ◌≡◌, ◌≤◌, div-mul-le_self, le-div, mul-le, Track}
use Rattle.fb_detour.proofs.Words.{slots_at, HasOwnPlaces, IsSound, Disk, depth_at, Entry, AreOnDisk, early_to, slots_within, stay}
use Rattle.fb_detour.proofs.Words.{passing}
use Rattle.fb_detour.specs.declared.rate.Rate.{Rate}
use Rattle.fb_detour.proofs.Packing.{div-rises, packing}

pub some_share : (rotation slots : ℕ) → 0 < slots → slots ≤ rotation → 0 < rotation / slots
some_share rotation slots some room = le-div 1 rotation slots some (omega (arith, room))

pub shorter : (rotation n most : ℕ) → 0 < n → n ≤ most → rotation / most ≤ rotation / n
shorter rotation n most some le = le-div (rotation / most) rotation n some
    (omega (arith, mul-le (rotation / most) n (rotation / most) most (omega arith) le, div-mul-le_self rotation most))

-- of more slots no fewer pass
pub more_pass : (rotation n most time : ℕ) → n ≤ most → 0 < rotation / most → time / (rotation / n) ≤ time / (rotation / most)
more_pass rotation zero most time le some = let none : rotation / 0 ≡ 0 = omega arith in rw none (omega arith)
more_pass rotation (suc n) most time le some =
    let passed = time / (rotation / suc n) in
    le-div passed time (rotation / most) some
    (omega (
      arith,
      mul-le passed (rotation / most) passed (rotation / suc n) (omega arith)
          (shorter rotation (suc n) most (omega arith) le),
      div-mul-le_self time (rotation / suc n),
    ))

-- in more time no less passes
pub more_in_time : (rate : Rate) (time more : ℕ) → time ≤ more → passing rate time ≤ passing rate more
more_in_time rate time more le =
    mul-le rate.depth (time / rate.share) rate.depth (more / rate.share) (omega arith) (div-rises time more rate.share le)

-- no stay catches more than what passes at a rate of the most weight for each share
pub within_rate : (disk : Disk) (es : List Entry) (track : Track) (depth slots from upto : ℕ) → IsSound disk.map
    → HasOwnPlaces disk.map → AreOnDisk disk es
    → ((lbn : ℕ) → depth_at track lbn es ≤ depth) → slots_at disk.map.zones track.cylinder ≤ slots → 0 < disk.map.rotation / slots
    → stay disk (early_to track from upto) es ≤ depth * ((upto - from) / (disk.map.rotation / slots))
within_rate disk es track depth slots from upto sound own on_disk deep few some =
    let time = upto - from in
    let rotation = disk.map.rotation in
    let passed = slots_within rotation (slots_at disk.map.zones track.cylinder) time in
    let most = mul-le depth passed depth (time / (rotation / slots)) (omega arith)
    (more_pass rotation (slots_at disk.map.zones track.cylinder) slots time few some) in
    omega (arith, packing disk track from upto sound es depth own on_disk deep, most)
