use Rattle.fb_decide.proofs.Words.{◌∙◌, ◌≡◌, ap, sym, subst, map, on_ok_weaker, carried_of, delivery_row, carried_rows, wanted_of, Past}
use Rattle.fb_decide.proofs.Words.{wanted, TellsUpToDate, HasDelivered, AreDistinct, AreDeliverable, held_now, Disk, Service}
use Rattle.fb_decide.proofs.Words.{all_passages_of, Start, IsServiceOf, served_from, AreExtents, AreLaid}
use Rattle.fb_rows.specs.declared.gap.How.TheVariants.{Ride as ByRide}
use Rattle.fb_decide.proofs.Served.{extents-begin}
use Rattle.fb_decide.proofs.Placing.{wanted-distinct}
use Rattle.fb_decide.proofs.Delivering.{fits-told, wanted-told}
use Rattle.fb_decide.proofs.Extents.{laid, laid_within}
use Rattle.fb_decide.proofs.Carrying.{rows-carried, due-carried, all-extents}
use Rattle.fb_decide.proofs.background.Background.ride.Goals.{After-as_slice}
use Rattle.fb_decide.proofs.background.Background.ride.Goals as goal

-- the extents of the service lie end to end over the request
its_extents : (disk : Disk) (start : Start) (service : Service) → IsServiceOf disk start service
    → AreLaid start.request.lbn service.extents.items start.request.count
its_extents disk start service is =
    laid disk service.extents.items start.head start.instant start.request.write start.request.lbn start.request.count
    is.passages is.unbroken

pub carried-requires-clause-extents : goal.carried-requires-clause-extents
carried-requires-clause-extents c =
    let disk = c.args.disk.now in
    let service = c.args.service.now in
    let request = c.args.start.request in
    subst (AreExtents disk.map) (sym c.as_slice-extents.ensures) (all-extents disk service.extents.items
    (laid_within service.extents.items request.lbn request.count _ (its_extents disk c.args.start service c.requires.service)
    c.requires.start.request.range.inside) c.requires.service.unbroken
    (extents-begin disk c.args.start service c.requires.service) disk.few_blocks)

pub carried-requires-clause-covers : goal.carried-requires-clause-covers
carried-requires-clause-covers c = subst (λ extents. AreLaid c.args.start.request.lbn extents c.args.start.request.count)
    (sym c.as_slice-extents.ensures) (its_extents c.args.disk.now c.args.start c.args.service.now c.requires.service)

pub carried-requires-clause-registered : goal.carried-requires-clause-registered
carried-requires-clause-registered c =
    fits-told c.args.disk.now c.requires.current.0 c.args.self.now.sessions c.args.self.now.blocks c.requires.current.1.tells

pub carried-requires-clause-distinct : goal.carried-requires-clause-distinct
carried-requires-clause-distinct c =
    subst AreDistinct (sym (wanted-told c.requires.current.1.tells)) (wanted-distinct c.requires.current.1.tells)

-- the rows of what was found are those of what is carried
rows : (c : After-as_slice) (past : Past) → TellsUpToDate c.args.disk.now.map past c.args.self.now
    → map (delivery_row (held_now c.args.store.now) ByRide) c.as_slice.result.now
    ≡ carried_rows (held_now c.args.store.now) (served_from c.args.disk.now c.args.start) (wanted past)
rows c past current =
    let served = served_from c.args.disk.now c.args.start in
    ap (map (delivery_row (held_now c.args.store.now) ByRide)) (c.as_slice.ensures.value ∙ c.in_ok-catches.ensures
    ∙ ap (λ ps. carried_of ps c.args.start.request (wanted_of c.args.self.now.blocks))
    (ap (all_passages_of c.args.disk.now.map) c.as_slice-extents.ensures ∙ c.requires.service.passages)
    ∙ ap (carried_of served.passages c.args.start.request) (wanted-told current.tells))
    ∙ rows-carried c.args.store.now served (wanted past) c.if-start.false

-- and may be delivered
due : (c : After-as_slice) (past : Past) → TellsUpToDate c.args.disk.now.map past c.args.self.now
    → AreDeliverable past (map (delivery_row (held_now c.args.store.now) ByRide) c.as_slice.result.now)
due c past current = subst (AreDeliverable past) (sym (rows c past current))
    (due-carried c.args.store.now (served_from c.args.disk.now c.args.start) past c.if-start.false (wanted-distinct current.tells))

pub deliver_all-requires : goal.deliver_all-requires
deliver_all-requires c =
    let past = c.requires.current.0 in
    let current = c.requires.current.1 in
    (c.args.disk.now.map, past, current, due (goal.at.deliver_all-requires c).After-as_slice past current)

pub returns : goal.returns
returns c = on_ok_weaker c.deliver_all.result (λ all past current.
    let at = (goal.at.returns c).After-as_slice in
    subst (λ gots. HasDelivered c.args.disk.now.map past gots c.args.self.now.rows c.deliver_all.new.self) (rows at past current)
    (all c.args.disk.now.map past current (due at past current))) c.deliver_all.ensures
