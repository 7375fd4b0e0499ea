use Rattle.fb_bgwrite.proofs.Words.{◌≡◌, ◌∷◌, ◌++◌, ◌≤◌, slice_get, take, ap, sym, ◌∙◌, arith, slice_index_or, Dwell, wanted_of, Catch}
use Rattle.fb_bgwrite.proofs.Words.{Block, Sweep, Track, caught_of, ItemSpill, spill_row, slice_get-get_or}
use Rattle.fb_bgwrite.proofs.Words.{[], take_all, SpillRow}
use Rattle.fb_bgwrite.proofs.{Admitting.are_pending, Admitting.puts_kept, Catching.to_write, Catching.wrote_more, Catching.wrote_rows}
use Rattle.fb_bgwrite.proofs.spilling.Spilling.write.Goals as goal

pub caught-requires-clause-blocks : goal.caught-requires-clause-blocks
caught-requires-clause-blocks c = (are_pending c.args.self.now c.requires.spilling c.requires.puts).on_disk

pub loop-catch-init : goal.loop-catch-init
loop-catch-init c =
    let stay = c.in_ok-add_stay.ensures in
    let row = λ (d : Dwell). let r : SpillRow = record { name = c.args.row.now.name; track = d.track; begin = d.begin; end = d.end } in r in
    record {
      spilling = stay.spilling;
      kept = stay.kept;
      admitted = stay.admitted;
      instant = stay.instant;
      items = stay.items ∙ ap (λ d. c.args.self.now.items ++ ItemSpill (row d) ∷ []) c.dwell_of-stay.ensures.stay;
    }

pub write_block-requires-clause-puts : goal.write_block-requires-clause-puts
write_block-requires-clause-puts c = puts_kept c.args.self.now c.loop-catch.self c.loop-catch.invariant.kept c.requires.puts

pub write_block-requires-clause-pending : goal.write_block-requires-clause-pending
write_block-requires-clause-pending c =
    let old = c.args.self.now in
    let row = c.args.row.now in
    let l = c.loop-catch in
    let stay = c.dwell_of-stay in
    let items = c.deref-catch-items.result.now in
    let start : Track = record { cylinder = 0; head = 0 } in
    let still : Sweep = record { begin = 0; length = 0 } in
    let empty : Block = record { task = 0; index = 0; lbn = 0; count = 0; track = start; weight = 0; sweep = still } in
    let none : Catch = record { block = empty; begin = 0; end = 0 } in
    let catch = slice_index_or items l.catch-index none in
    let are : items ≡ caught_of old.disk.now stay.result (wanted_of old.pending) = c.deref-catch-items.ensures.value
    ∙ c.in_ok-found.ensures.all in
    let at = ap (λ xs. slice_get xs l.catch-index) (sym are) ∙ slice_get-get_or items l.catch-index none c.loop-catch-test.true in
    let begin : old.instant ≤ stay.result.begin = omega (arith, c.requires.come, ap (λ (d : Dwell). d.begin) stay.ensures.stay) in
    to_write old l.self stay.result (spill_row old.disk.now row c.args.spill) l.catch-index catch c.requires.spilling c.requires.puts begin
    l.invariant.kept l.invariant.admitted at
    (l.invariant.items
    ∙ ap (λ xs. old.items ++ ItemSpill (spill_row old.disk.now row c.args.spill) ∷ wrote_rows (take l.catch-index xs)) are)

pub loop-catch-preserved : goal.loop-catch-preserved
loop-catch-preserved c =
    let old = c.args.self.now in
    let l = c.loop-catch in
    let new = c.in_ok-write_block.ensures in
    let items = c.deref-catch-items.result.now in
    record {
      spilling = new.spilling;
      kept = record { disk = new.kept.disk ∙ l.invariant.kept.disk; puts = new.kept.puts ∙ l.invariant.kept.puts };
      admitted = new.admitted ∙ l.invariant.admitted;
      instant = new.instant ∙ l.invariant.instant;
      items = wrote_more old.items (ItemSpill (spill_row old.disk.now c.args.row.now c.args.spill)) items l.catch-index _ l.self.items _
          (slice_get-get_or items l.catch-index _ c.loop-catch-test.true) l.invariant.items new.items;
    }

pub refresh-requires : goal.refresh-requires
refresh-requires c =
    let l = c.loop-catch in
    record {
      blocks = (are_pending l.self l.invariant.spilling
          (puts_kept c.args.self.now l.self l.invariant.kept c.requires.puts)).on_disk;
    }

pub returns-clause-items : goal.returns-clause-items
returns-clause-items c =
    let old = c.args.self.now in
    let items = c.deref-catch-items.result.now in
    c.loop-catch.invariant.items
    ∙ ap (λ cs. old.items ++ ItemSpill (spill_row old.disk.now c.args.row.now c.args.spill) ∷ wrote_rows cs)
    (take_all c.loop-catch.catch-index items c.loop-catch-test.false ∙ (c.deref-catch-items.ensures.value ∙ (c.in_ok-found.ensures.all
    ∙ ap (λ d. caught_of old.disk.now d (wanted_of old.pending)) c.dwell_of-stay.ensures.stay)))
