use Rattle.fb_fastq.proofs.Words.{◌≡◌, ◌+◌, ◌-◌, ◌%◌, ◌<◌, ◌≤◌, ap, sym, ◌∙◌, arith, mod-eq_of_lt, add-mod_left}
use Rattle.fb_fastq.proofs.Turns.{turns_on}
use Rattle.fb_fastq.proofs.visit.angle_at.Goals as goal

pub returns-then-turned-rotation-clause-value : goal.returns-then-turned-rotation-clause-value
returns-then-turned-rotation-clause-value c =
    let from = c.args.from.now in
    let rotation = c.args.disk.now.map.rotation in
    let whole : c.rotation-rotation.result ≡ rotation = c.rotation-rotation.ensures.value ∙ ap (λ map. map.rotation) c.geometry.ensures in
    let short : from.angle + c.args.time < rotation = omega (arith, c.if-turned-rotation.true, whole) in
    sym (mod-eq_of_lt short) ∙ turns_on rotation from.instant from.angle c.args.time c.requires.from.angle

pub returns-then-turned-rotation-2-clause-value : goal.returns-then-turned-rotation-2-clause-value
returns-then-turned-rotation-2-clause-value c =
    let from = c.args.from.now in
    let rotation = c.args.disk.now.map.rotation in
    let whole : c.rotation-rotation.result ≡ rotation = c.rotation-rotation.ensures.value ∙ ap (λ map. map.rotation) c.geometry.ensures in
    let turned = from.angle + c.args.time in
    let once : rotation ≤ turned = omega (arith, c.if-turned-rotation.false, whole) in
    let short : turned - rotation < rotation = omega (arith, c.if-turned-rotation-2.true, whole) in
    let sum : rotation + (turned - rotation) ≡ turned = omega (arith, once) in
    ap (λ r. turned - r) whole ∙ (sym (mod-eq_of_lt short) ∙ (sym (add-mod_left rotation (turned - rotation))
    ∙ (ap (λ t. t % rotation) sum ∙ turns_on rotation from.instant from.angle c.args.time c.requires.from.angle)))

pub returns-else-turned-rotation-2-clause-value : goal.returns-else-turned-rotation-2-clause-value
returns-else-turned-rotation-2-clause-value c =
    let from = c.args.from.now in
    let rotation = c.args.disk.now.map.rotation in
    let whole : c.rotation-rotation.result ≡ rotation = c.rotation-rotation.ensures.value ∙ ap (λ map. map.rotation) c.geometry.ensures in
    ap (λ r. (from.angle + c.args.time) % r) whole ∙ turns_on rotation from.instant from.angle c.args.time c.requires.from.angle
