use Rattle.std.proofs.Common.{arith}
use Rattle.fb_units.proofs.Lists.{all_get}
use Rattle.fb_texts.specs.Sections.{CanTellFore}
use Rattle.fb_texts.proofs.Sections.{one_counted}
use Rattle.fb_texts.proofs.array_text.section_lines.Goals as goal

pub loop-device-preserved : goal.loop-device-preserved
loop-device-preserved c =
    let loop = c.loop-device in
    let run = c.get.result.now in
    let told = all_get CanTellFore c.args.runs.now loop.device run c.requires.told c.get.ensures in
    record {
      few = omega (arith, loop.invariant.few, c.fore_pieces.ensures.value, told);
      counted = λ size bytes. omega (
        arith,
        c.fore_pieces.ensures.value,
        one_counted size bytes c.args.runs.now loop.device run c.get.ensures,
        loop.invariant.counted size bytes,
      );
    }
