use Rattle.fb_model.specs.Accepted.{IsRequestOf}
use Rattle.fb_queue.specs.Least.{IsFirstLeastAt}
use Rattle.fb_queue.proofs.FirstLeast.{first_least_at}
use Rattle.fb_units.proofs.Lists.{all_at, one_element}
use Rattle.fb_fastq.proofs.Words.{◌≤◌, ◌++◌, ◌<◌, ◌∙◌, List, Some, ap, refl, arith, length, remove, AllByRecursion, all_right, sym, subst}
use Rattle.fb_fastq.proofs.Words.{slice_get, slice_get_read, nil_from_length, Request, nat_tests}
use Rattle.fb_fastq.proofs.Both.{first_left, first_right, some_first}
use Rattle.fb_fastq.proofs.late_placing.LatePlacing.take_of_both.Goals.{then-not-is_empty+else-least-key_of, else-not-is_empty}
use Rattle.fb_fastq.proofs.late_placing.LatePlacing.take_of_both.Goals as goal

pub first_least-index-requires-clause-on_disk : goal.first_least-index-requires-clause-on_disk
first_least-index-requires-clause-on_disk g c =
    let is = IsRequestOf c.args.disk.now.map in
    subst (AllByRecursion is) (sym c.as_slice.ensures.value)
    (all_right is (g.M.Placing.pending c.args.self.now.placed) c.args.self.now.arrived.items c.requires.on_disk)

pub key_of-requires-clause-request : goal.key_of-requires-clause-request
key_of-requires-clause-request g c =
    let is = IsRequestOf c.args.disk.now.map in
    let items = c.args.self.now.arrived.items in
    let within = subst (λ (rs : List Request). c.first_least-index.result < length rs) c.as_slice.ensures.value
    c.first_least-index.ensures.within in
    subst is (sym c.index.ensures) (all_at is items c.first_least-index.result c.index.result.now
    (all_right is (g.M.Placing.pending c.args.self.now.placed) items c.requires.on_disk) within)

pub returns-then-least-key_of-clause-least : goal.returns-then-least-key_of-clause-least
returns-then-least-key_of-clause-least g c =
    let key = g.M.Policy.key c.args.disk.now c.args.head c.args.now in
    let items = c.args.self.now.arrived.items in
    let index = c.first_least-index.result in
    let q = c.index.result.now in
    let found : IsFirstLeastAt key items (length items) index =
    subst (λ (rs : List Request). IsFirstLeastAt key rs (length rs) index) c.as_slice.ensures.value c.first_least-index.ensures in
    let arrived = first_least_at key items index q found (slice_get_read items (length items) index q refl found.within c.index.ensures) in
    let least = c.least_key-least.ensures c.take.result (g.M.Placing.pending c.take.new.self) c.take.ensures.least in
    first_left key (g.M.Placing.pending c.args.self.now.placed) items q (remove items index) arrived c.take.result
    (g.M.Placing.pending c.take.new.self) c.take.ensures.least (omega (arith, least, c.key_of.ensures, c.if-least-key_of.true))

pub returns-clause-least : goal.returns-clause-least
returns-clause-least g c =
    let key = g.M.Policy.key c.args.disk.now c.args.head c.args.now in
    let placed = g.M.Placing.pending c.args.self.now.placed in
    let items = c.args.self.now.arrived.items in
    let index = c.first_least-index.result in
    let q = c.remove.result in
    let found : IsFirstLeastAt key items (length items) index =
    subst (λ (rs : List Request). IsFirstLeastAt key rs (length rs) index) c.as_slice.ensures.value c.first_least-index.ensures in
    let there = slice_get_read items (length items) index q refl found.within c.remove.ensures.value in
    let arrived = first_least_at key items index q found there in
    elim c.if-not-is_empty.branch [
      | then-not-is_empty+else-least-key_of w ↦
          let some : 0 < length placed = grind (arith, nat_tests, c.is_empty.ensures, w.if-not-is_empty.true) in
          let first = some_first key placed some in
          let least = w.least_key-least.ensures first.0.0 first.0.1 first.1 in
          let same = one_element (slice_get items index) w.index.result.now q
          (slice_get_read items (length items) index w.index.result.now refl found.within w.index.ensures) there in
          first_right key placed items q (remove items index) arrived first.0.0 first.0.1 first.1
          (omega (arith, least, w.key_of.ensures, ap key same, w.if-least-key_of.false))
          ∙ ap (λ rs. Some (q, placed ++ rs)) (sym c.remove.ensures.items)
      | else-not-is_empty w ↦
          let none : length placed ≤ 0 = grind (arith, nat_tests, c.is_empty.ensures, w.if-not-is_empty.false) in
          let empty = nil_from_length placed (omega (arith, none)) in
          rw empty (arrived ∙ ap (λ rs. Some (q, rs)) (sym c.remove.ensures.items))
    ]
