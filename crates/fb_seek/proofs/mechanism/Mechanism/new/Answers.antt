use Rattle.std.proofs.Common.{◌≡◌, List, None, sym}
use Rattle.fb_seek.specs.declared.point.SeekPoint.{SeekPoint}
use Rattle.fb_seek.specs.Mechanics.{Mechanics}
use Rattle.fb_seek.specs.Faults.{first_fault}
use Rattle.fb_seek.specs.Table.{IsTable}
use Rattle.fb_seek.proofs.LookUp.{table_of}
use Rattle.fb_seek.proofs.Times.{none_yet}
use Rattle.fb_seek.proofs.mechanism.Mechanism.new.Goals as goal

-- where the points that were looked at have no fault, the arm's can be looked up
sound : (arm : Mechanics) (points : List SeekPoint) → points ≡ arm.points
    → first_fault (record { points = points; cylinders = arm.cylinders; head_switch = arm.head_switch; write_settle = arm.write_settle })
    ≡ None
    → IsTable arm
sound arm points same none = table_of arm (rw same at none)

pub invariant_of-mechanism : goal.invariant_of-mechanism
invariant_of-mechanism c =
    let arm : Mechanics = record {
      points = c.args.points.items;
      cylinders = c.args.cylinders;
      head_switch = c.args.head_switch;
      write_settle = c.args.write_settle;
    } in
    record { table = sound _ _ c.as_slice.ensures.value (sym c.in-None.ensures); times = rw c.new-times.ensures.items (none_yet arm) }

pub invariant_of-mechanism-in-None : goal.invariant_of-mechanism-in-None
invariant_of-mechanism-in-None c =
    record { table = sound _ _ c.as_slice.ensures.value (sym c.in-None.ensures); times = c.all_times.ensures }
