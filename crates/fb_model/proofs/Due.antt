-- What is due at a decision: each row is of a wanted block, passes whole, and has the bytes of its beginning; none stands twice.
use Rattle.fb_model.proofs.Words.{◌≡◌, ◌+◌, List, [], ◌++◌, refl, true, false, map, Bool, ◌-◌, ◌⊎◌, inl, inr, AllByRecursion, all_weaker}
use Rattle.fb_model.proofs.Words.{all_append, all_filter, all_map, runs_of, bad_of, Block, is_wanted, Dwell, How, DeliveryRow, Disk}
use Rattle.fb_model.proofs.Words.{Served, ContentsAt, Medium, contents_at, block_begin, block_end, catches, early_dwell, late_dwell}
use Rattle.fb_model.proofs.Words.{Inputs, Act, serving, idling, ending, Past, registered, state, wanted, Step, decision_in, chosen_past}
use Rattle.fb_model.proofs.Words.{gap_of, due, delivery_row, caught_of, caught_rows, carried_of, missed, lies_in, begin_at, end_at}
use Rattle.fb_model.proofs.Words.{IsSublist, none, taken, IsDelivered}
use Rattle.std.proofs.Common.{if◌then◌else◌, not}
use Rattle.fb_rows.specs.declared.gap.How.TheVariants.{Gap as ByGap, Idle as ByIdle, Ride as ByRide}
use Rattle.fb_model.specs.Deliveries.{carried_rows}
use Rattle.fb_model.specs.SoundRun.{left_out}
use Rattle.fb_model.proofs.Placing.{all_caught, all_carried}

-- a row has the bytes of its beginning
pub record HasBytes (contents : ContentsAt) (row : DeliveryRow) : Type 0 where
  pub content : row.content ≡ runs_of (contents row.block.lbn row.block.count row.begin)
  pub bad : row.bad ≡ bad_of row.content

-- a block of these passes whole in the dwell
pub record IsCaughtIn (disk : Disk) (contents : ContentsAt) (how : How) (dwell : Dwell) (Q : Block → Type 0)
    (row : DeliveryRow) : Type 0 where
  pub how_so : row.how ≡ how
  pub one_of : Q row.block
  pub caught : catches disk dwell row.block ≡ true
  pub begin : row.begin ≡ block_begin disk.map row.block dwell.begin
  pub end : row.end ≡ block_end disk.map row.block dwell.begin
  pub bytes : HasBytes contents row

-- what a dwell catches of blocks that all have a property
pub caught_true : (disk : Disk) (contents : ContentsAt) (how : How) (dwell : Dwell) (Q : Block → Type 0) (blocks : List Block)
    → AllByRecursion Q blocks
    → AllByRecursion (IsCaughtIn disk contents how dwell Q) (caught_rows disk contents how dwell blocks)
caught_true disk contents how dwell Q blocks qs =
    let row = delivery_row contents how in
    all_map (IsCaughtIn disk contents how dwell Q) row (caught_of disk dwell blocks)
    (all_caught disk dwell (λ catch. IsCaughtIn disk contents how dwell Q (row catch)) Q (λ block q test. record {
      how_so = refl;
      one_of = q;
      caught = test;
      begin = refl;
      end = refl;
      bytes = record { content = refl; bad = refl };
    }) blocks qs)

-- a block of these has all its sectors in the read, and passes with its first and last sectors
pub record IsCarriedBy (contents : ContentsAt) (served : Served) (Q : Block → Type 0) (row : DeliveryRow) : Type 0 where
  pub how_so : row.how ≡ ByRide
  pub read : served.request.write ≡ false
  pub one_of : Q row.block
  pub inside : lies_in served.request row.block ≡ true
  pub begin : row.begin ≡ begin_at served.passages row.block.lbn
  pub end : row.end ≡ end_at served.passages (row.block.lbn + row.block.count - 1)
  pub bytes : HasBytes contents row

abbrev carried_if : Bool → ContentsAt → Served → List Block → List DeliveryRow
carried_if write contents served blocks =
    if write then [] else map (delivery_row contents ByRide) (carried_of served.passages served.request blocks)

carried_by : (write : Bool) (contents : ContentsAt) (served : Served) (Q : Block → Type 0) (blocks : List Block)
    → served.request.write ≡ write → AllByRecursion Q blocks
    → AllByRecursion (IsCarriedBy contents served Q) (carried_if write contents served blocks)
carried_by true contents served Q blocks e qs = tt
carried_by false contents served Q blocks e qs =
    let row = delivery_row contents ByRide in
    all_map (IsCarriedBy contents served Q) row (carried_of served.passages served.request blocks)
    (all_carried served.passages served.request (λ catch. IsCarriedBy contents served Q (row catch)) Q (λ block q test. record {
      how_so = refl;
      read = e;
      one_of = q;
      inside = test;
      begin = refl;
      end = refl;
      bytes = record { content = refl; bad = refl };
    }) blocks qs)

-- what a read carries of blocks that all have a property
pub carried_true : (contents : ContentsAt) (served : Served) (Q : Block → Type 0) (blocks : List Block) → AllByRecursion Q blocks
    → AllByRecursion (IsCarriedBy contents served Q) (carried_rows contents served blocks)
carried_true contents served Q blocks qs = carried_by served.request.write contents served Q blocks refl qs

-- what a delivery at a decision is: caught by the early dwell, by the late dwell, by the idle dwell, or carried by the read
abbrev pub IsDueRow : Disk → ContentsAt → Act → (Block → Type 0) → DeliveryRow → Type 0
IsDueRow disk contents (serving served plan) Q row = IsCaughtIn disk contents ByGap (early_dwell disk (gap_of disk served) plan) Q row
    ⊎ (IsCaughtIn disk contents ByGap (late_dwell disk (gap_of disk served) plan) Q row ⊎ IsCarriedBy contents served Q row)
IsDueRow disk contents (idling dwell) Q row = IsCaughtIn disk contents ByIdle dwell Q row
IsDueRow disk contents (ending now) Q row = ⊥

-- it has its bytes, and is of a block of which the wanted blocks' property holds
due_both : (disk : Disk) (contents : ContentsAt) (act : Act) (Q : Block → Type 0) (row : DeliveryRow)
    → IsDueRow disk contents act Q row → HasBytes contents row × Q row.block
due_both disk contents (serving served plan) Q row due_row = elim due_row [
  | inl early ↦ (early.bytes, early.one_of)
  | inr others ↦ elim others [
    | inl late ↦ (late.bytes, late.one_of)
    | inr ride ↦ (ride.bytes, ride.one_of)
  ]
]
due_both disk contents (idling dwell) Q row due_row = (due_row.bytes, due_row.one_of)
due_both disk contents (ending now) Q row due_row = absurd due_row

pub due_bytes : (disk : Disk) (contents : ContentsAt) (act : Act) (Q : Block → Type 0) (row : DeliveryRow)
    → IsDueRow disk contents act Q row → HasBytes contents row
due_bytes disk contents act Q row due_row = (due_both disk contents act Q row due_row).0

pub due_block : (disk : Disk) (contents : ContentsAt) (act : Act) (Q : Block → Type 0) (row : DeliveryRow)
    → IsDueRow disk contents act Q row → Q row.block
due_block disk contents act Q row due_row = (due_both disk contents act Q row due_row).1

all_some : (P : DeliveryRow → Type 0) {xs ys : List DeliveryRow} → IsSublist xs ys → AllByRecursion P ys → AllByRecursion P xs
all_some P none ps = ps
all_some P (left_out p) ps = all_some P p ps.1
all_some P (taken p) ps = (ps.0, all_some P p ps.1)

-- all that is due is so, if all wanted blocks have a property
pub due_true : (disk : Disk) (contents : ContentsAt) (act : Act) (Q : Block → Type 0) (wanted : List Block) → AllByRecursion Q wanted
    → AllByRecursion (IsDueRow disk contents act Q) (due disk contents act wanted)
unfolding due
due_true disk contents (serving served plan) Q wanted qs =
    let gap = gap_of disk served in
    let early = early_dwell disk gap plan in
    let late = late_dwell disk gap plan in
    let left = missed disk early wanted in
    let last = missed disk late left in
    let left_all = all_filter Q (λ block. not (catches disk early block)) wanted qs in
    let last_all = all_filter Q (λ block. not (catches disk late block)) left left_all in
    all_append (IsDueRow disk contents (serving served plan) Q)
    (caught_rows disk contents ByGap early wanted ++ caught_rows disk contents ByGap late left) (carried_rows contents served last)
    (all_append (IsDueRow disk contents (serving served plan) Q) (caught_rows disk contents ByGap early wanted)
    (caught_rows disk contents ByGap late left)
    (all_weaker (IsCaughtIn disk contents ByGap early Q) (IsDueRow disk contents (serving served plan) Q) (λ row p. inl p)
    (caught_rows disk contents ByGap early wanted) (caught_true disk contents ByGap early Q wanted qs))
    (all_weaker (IsCaughtIn disk contents ByGap late Q) (IsDueRow disk contents (serving served plan) Q) (λ row p. inr (inl p))
    (caught_rows disk contents ByGap late left) (caught_true disk contents ByGap late Q left left_all)))
    (all_weaker (IsCarriedBy contents served Q) (IsDueRow disk contents (serving served plan) Q) (λ row p. inr (inr p))
    (carried_rows contents served last) (carried_true contents served Q last last_all))
due_true disk contents (idling dwell) Q wanted qs = caught_true disk contents ByIdle dwell Q wanted qs
due_true disk contents (ending now) Q wanted qs = tt

-- what all registered blocks have, the wanted ones have
pub wanted_all : (Q : Block → Type 0) (past : Past) → AllByRecursion Q (registered past) → AllByRecursion Q (wanted past)
unfolding wanted
wanted_all Q past all = all_filter Q (λ block. is_wanted (state past block)) (registered past) all

-- and so is each delivery of a sound run, of a block wanted at its decision
pub delivery_true : (inputs : Inputs) (medium : Medium) (past : Past) (step : Step) (Q : Block → Type 0)
    → IsDelivered inputs medium past step
    → AllByRecursion Q (wanted (chosen_past inputs past (decision_in step)))
    → AllByRecursion (IsDueRow medium.disk (contents_at medium) step.act Q) (map (λ delivery. delivery.got) step.deliveries)
delivery_true inputs medium past step Q some qs = all_some (IsDueRow medium.disk (contents_at medium) step.act Q) some
    (due_true medium.disk (contents_at medium) step.act Q (wanted (chosen_past inputs past (decision_in step))) qs)
