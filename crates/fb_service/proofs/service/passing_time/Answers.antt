use Rattle.fb_service.proofs.Words.{◌≡◌, ◌+◌, ◌-◌, ◌<◌, ◌≤◌, ap, arith, slots_at, slot_begin, turned}
use Rattle.fb_service.proofs.Turning.{over, within-turn, later-after}
use Rattle.fb_service.proofs.service.passing_time.Goals as goal

pub returns-then-last-slots : goal.returns-then-last-slots
returns-then-last-slots c =
    let disk = c.args.geometry.now in
    let slot = c.args.place.slot in
    let slots = slots_at disk.zones c.args.place.track.cylinder in
    let some : 0 < slots = omega arith in
    let short : slots ≤ disk.rotation = omega (arith, c.slots-slots.ensures.room) in
    let end = ap (slot_begin disk.rotation slots) (let same : slot + c.args.count - 1 + 1 ≡ slot + c.args.count = omega arith in same) in
    let value : c.slot_end.result - c.slot_begin-begin.result ≡ turned disk c.args.place c.args.count =
    omega (arith, end, c.slot_end.ensures.value, c.slot_begin-begin.ensures.value) in
    record {
      value = value;
      takes_time = omega (arith, value, later-after disk.rotation slots some short slot c.args.count);
      one_turn = omega (arith, value, within-turn disk.rotation slots some short slot c.args.count c.requires.few);
      room = short;
    }

pub returns-else-last-slots : goal.returns-else-last-slots
returns-else-last-slots c =
    let disk = c.args.geometry.now in
    let slot = c.args.place.slot in
    let slots = slots_at disk.zones c.args.place.track.cylinder in
    let some : 0 < slots = omega arith in
    let short : slots ≤ disk.rotation = omega (arith, c.slots-slots.ensures.room) in
    let past = slot + c.args.count - 1 - slots + 1 in
    let here = ap (slot_begin disk.rotation slots)
    (let same : slot + c.args.count - 1 - c.slots-slots.result + 1 ≡ past = omega (arith, c.slots-slots.ensures.value) in same) in
    let end = ap (slot_begin disk.rotation slots)
    (let same : past + slots ≡ slot + c.args.count = omega (arith, c.slots-slots.ensures.value) in same) in
    let value : c.rotation.result - c.slot_begin-begin.result + c.slot_end-else-last-slots.result ≡ turned disk c.args.place c.args.count =
    omega (
      arith,
      here,
      end,
      over disk.rotation slots some short past,
      c.slot_end-else-last-slots.ensures.value,
      c.slot_begin-begin.ensures.value,
      c.slot_begin-begin.ensures.bound,
      c.rotation.ensures.value,
    ) in
    record {
      value = value;
      takes_time = omega (arith, value, later-after disk.rotation slots some short slot c.args.count);
      one_turn = omega (arith, value, within-turn disk.rotation slots some short slot c.args.count c.requires.few);
      room = short;
    }
