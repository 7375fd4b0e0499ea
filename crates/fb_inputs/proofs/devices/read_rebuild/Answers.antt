use Rattle.std.proofs.Common.{refl, ◌∙◌}
use Rattle.std.specs.Prelude.{Err}
use Rattle.fb_inputs.proofs.Rebuilding.{read_alike, too_many}
use Rattle.fb_inputs.proofs.devices.read_rebuild.Goals as goal

pub returns-in-Err-Fault-clause-stops : goal.returns-in-Err-Fault-clause-stops
returns-in-Err-Fault-clause-stops c =
    let disk = c.args.disk.now.map in
    let law = c.rebuild_scripts_are_read.ensures in
    let text = c.as_slice.ensures.value ∙ c.in-Ok.ensures in
    let refused = rw c.in-Err-Fault.field-0-is at c.in-Err-Fault.ensures.answer in (
      rw c.in-Some.is refl,
      record {
        spells = read_alike disk law _ c.as_slice.result.now text (Err c.in-Err-Fault.fault) refused;
        reason = too_many disk law _ c.as_slice.result.now text c.in-Err-Fault.fault refused;
      },
    )
