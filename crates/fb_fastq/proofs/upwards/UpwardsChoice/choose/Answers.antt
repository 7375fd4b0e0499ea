use Rattle.fb_fastq.proofs.Words.{◌≡◌, ◌∙◌, ℕ, ◌-◌, arith, ap, subst, cylinders_of, track_at, IsNoLater, turn}
use Rattle.fb_fastq.proofs.Least.{some_held, waits_there}
use Rattle.fb_fastq.proofs.upwards.UpwardsChoice.choose.Goals as goal

pub unreachable-requires : goal.unreachable-requires
unreachable-requires c =
    let waiting = c.args.waiting.now in
    let held = some_held waiting c.requires.some in
    let none = c.in-None.ensures.none held.0 (waits_there waiting held.0 held.1.0 held.1.1) (omega arith) in
    let on_disk = (c.requires.spots held.0 held.1.0 held.1.1).on_disk in
    let whole = c.cylinders-cylinders.ensures.value ∙ ap (λ map. cylinders_of map.zones) c.geometry.ensures in
    absurd (omega (arith, none, on_disk, whole))

pub returns-clause-first : goal.returns-clause-first
returns-clause-first c = λ r e k s f.
    let map = c.args.disk.now.map in
    let head = c.args.head.cylinder in
    let cylinders = c.cylinders-cylinders.result in
    let key = c.in-Some.key in
    let own = c.requires.spots key r e in
    let its = c.requires.spots k s f in
    let whole : cylinders ≡ cylinders_of map.zones = c.cylinders-cylinders.ensures.value
    ∙ ap (λ m. cylinders_of m.zones) c.geometry.ensures in
    let at : key.0 - 0 ≡ (track_at map r.lbn).cylinder = (let value = own.value in omega (arith, value)) in
    let other : k.0 - 0 ≡ (track_at map s.lbn).cylinder = (let value = its.value in omega (arith, value)) in
    let turned : (n spot : ℕ) → n ≡ spot → turn cylinders head n ≡ turn (cylinders_of map.zones) head spot =
    λ n spot same. ap (turn cylinders head) same ∙ ap (λ m. turn m head spot) whole in
    let first = c.in-Some.ensures.first k (waits_there c.args.waiting.now k s f) (omega arith) (let on_disk = its.on_disk in
    omega (arith, on_disk, whole)) in
    subst (λ n. IsNoLater n key.1 (turn (cylinders_of map.zones) head (track_at map s.lbn).cylinder) k.1)
    (turned (key.0 - 0) (track_at map r.lbn).cylinder at)
    (subst (λ n. IsNoLater (turn cylinders head (key.0 - 0)) key.1 n k.1) (turned (k.0 - 0) (track_at map s.lbn).cylinder other) first)
