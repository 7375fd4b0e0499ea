-- What is due at a decision, from the disk as it is: each delivery lies within the decision, and the medium gives the same.
use Rattle.fb_decide.proofs.Words.{◌≡◌, ℕ, List, arith, AllByRecursion, all_weaker, Disk, Holding, Block, Medium, contents_at, instant_of}
use Rattle.fb_decide.proofs.Words.{Act, decision_of, due, IsDueRow, due_block, due_true, DeliversBy, held_now, Mirrors, IsFoundIn}
use Rattle.fb_model.specs.SoundRun.{HasPlan}
use Rattle.fb_model.proofs.Due.{due_bytes}
use Rattle.fb_model.proofs.DecisionsUpTo.{IsMade}
use Rattle.fb_model.proofs.HistoriesUpTo.{HasSector}
use Rattle.fb_model.proofs.DueUpTo.{due_between, same_due}
use Rattle.fb_decide.proofs.DiskRows.{mirrored}
use Rattle.fb_decide.proofs.Delivering.{row-is}

-- the deliveries that are due are those that the disk gives as it is
pub due_same : (medium : Medium) (holding : Holding) (act : Act) (to : ℕ) (blocks : List Block)
    → IsMade medium.disk (decision_of act) → HasPlan medium.disk act → DeliversBy to (decision_of act)
    → AllByRecursion HasSector blocks → Mirrors medium holding (instant_of (decision_of act)) to
    → due medium.disk (held_now holding) act blocks ≡ due medium.disk (contents_at medium) act blocks
due_same medium holding act to blocks made is over some mirrors =
    let agree = mirrored medium holding (instant_of (decision_of act)) to mirrors in
    same_due medium.disk (held_now holding) (contents_at medium) (instant_of (decision_of act)) to agree act blocks made is
    (omega arith) over some

-- and each lies within the decision
pub due_found : (disk : Disk) (holding : Holding) (act : Act) (to : ℕ) (blocks : List Block)
    → IsMade disk (decision_of act) → HasPlan disk act → DeliversBy to (decision_of act)
    → AllByRecursion HasSector blocks
    → AllByRecursion (IsFoundIn holding (instant_of (decision_of act)) to) (due disk (held_now holding) act blocks)
due_found disk holding act to blocks made is over some =
    let held = held_now holding in
    all_weaker (IsDueRow disk held act HasSector) (IsFoundIn holding (instant_of (decision_of act)) to)
    (λ row due_row.
    let block = due_block disk held act HasSector row due_row in
    let lies = due_between disk held act HasSector to made is over row block due_row in
    let bytes = due_bytes disk held act HasSector row due_row in
    record {
      row = row-is holding row.how row.block row.begin row.end row.bad row.content bytes.content bytes.bad;
      begin = lies.begins;
      order = lies.in_turn;
      end = lies.ends;
    })
    (due disk held act blocks) (due_true disk held act HasSector blocks some)
