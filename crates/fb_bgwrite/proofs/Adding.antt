-- One more row keeps all that holds of the rows.
use Rattle.fb_units.proofs.Comparing.{same_number}
use Rattle.fb_units.proofs.Lists.{none_of_any, append_at, map_at}
use Rattle.fb_bgwrite.proofs.Words.{all_get, all_push, ◌≡◌, ℕ, ◌+◌, ◌*◌, ◌^◌, ◌≤◌, List, [], ◌∷◌, ◌++◌, Bool}
use Rattle.fb_bgwrite.proofs.Words.{true, false, not, Some, slice_get, take, drop, map, length, refl, sym, ap, ◌∙◌, subst, arith}
use Rattle.fb_bgwrite.proofs.Words.{if◌then◌else◌, ◌==◌, ◌&&◌, filter, AllByRecursion, sum_by, sum_by_push, places, Disk, Block}
use Rattle.fb_bgwrite.proofs.Words.{Entry, Wanted, Delivered, Deliver, after, is_block, Catch, SpillItem, ItemSpill, ItemWrote, SpillRow}
use Rattle.fb_bgwrite.proofs.Words.{Put, Spilling, PutBlock, blocks_from, is_written, put_blocks, sectors, writes, left_over, sectors_in}
use Rattle.fb_bgwrite.proofs.Words.{AreOnce, IsInTime, entry_of, first_blocks, ArePutsOn, IsSpilling, IsToWrite, IsUpTo, wrote_row}
use Rattle.fb_bgwrite.proofs.Words.{HasRange}
use Rattle.fb_bgwrite.proofs.{Admitting.first_in_order, Admitting.numbered_first}
use Rattle.fb_bgwrite.proofs.{PutBlocks.all_of_puts, PutBlocks.all_sectors, PutBlocks.blocks_split, PutBlocks.its_blocks}
use Rattle.fb_bgwrite.proofs.{PutBlocks.puts_in_order, PutBlocks.IsOfPuts, Writing.delivered, Writing.left_less, Writing.none_once}
use Rattle.fb_bgwrite.proofs.{Writing.once_more, Writing.once_stay, Writing.stay_left, Writing.stay_registered, Writing.told}

-- ---- before the first row

all_left : (blocks : List Block) → filter (λ b. not (is_written [] b)) blocks ≡ blocks
all_left [] = refl
all_left (b ∷ bs) = ap (λ xs. b ∷ xs) (all_left bs)

none_first : (disk : Disk) (puts : List Put) → first_blocks disk puts 0 ≡ []
unfolding blocks_from
none_first disk puts = refl

pub new_spilling : (spilling : Spilling) → spilling.items ≡ [] → spilling.pending ≡ [] → spilling.admitted ≡ 0 → spilling.written ≡ 0
    → IsSpilling spilling
new_spilling s items pending admitted written =
    let disk = s.disk.now in
    let puts = s.puts.now in
    record {
      first = omega (arith, admitted);
      come = subst (λ n. AllByRecursion (λ (put : Put). put.instant ≤ s.instant) (take n puts)) (sym admitted) tt;
      registered = pending
          ∙ sym (ap (λ n. map (entry_of s.items) (first_blocks disk puts n)) admitted ∙ ap (map (entry_of s.items)) (none_first disk puts));
      upto = subst (AllByRecursion (IsUpTo s.admitted)) (sym items) tt;
      written = written ∙ sym (ap (sum_by sectors_in) items);
      parts = omega (arith, written, ap (left_over disk puts) items, ap sectors (all_left (its_blocks (put_blocks disk.map puts))));
      once = subst AreOnce (sym items) none_once;
      in_time = subst (AllByRecursion (IsInTime disk puts)) (sym items) tt;
      ranges = subst (AllByRecursion HasRange) (sym items) tt;
    }

-- the same with these registered blocks and rows, and so many sectors written
abbrev changed : Spilling → List Entry → List SpillItem → ℕ → Spilling
changed s pending items written = record {
  alloc = s.alloc;
  disk = s.disk;
  puts = s.puts;
  pending = pending;
  admitted = s.admitted;
  instant = s.instant;
  items = items;
  written = written;
}

-- ---- a stay

pub stay_added : (old : Spilling) (row : SpillRow) (items : List SpillItem) → IsSpilling old → items ≡ old.items ++ ItemSpill row ∷ []
    → IsSpilling (changed old old.pending items old.written)
stay_added old row items is added =
    let disk = old.disk.now in
    let puts = old.puts.now in
    subst (λ rows. IsSpilling (changed old old.pending rows old.written)) (sym added) (record {
      first = is.first;
      come = is.come;
      registered = is.registered ∙ sym (stay_registered old.items row (first_blocks disk puts old.admitted));
      upto = all_push (IsUpTo old.admitted) old.items (ItemSpill row) is.upto tt;
      written = omega (arith, is.written, sum_by_push sectors_in old.items (ItemSpill row));
      parts = omega (arith, is.parts, stay_left old.items row (put_blocks disk.map puts));
      once = once_stay old.items row is.once;
      in_time = all_push (IsInTime disk puts) old.items (ItemSpill row) is.in_time tt;
      ranges = all_push HasRange old.items (ItemSpill row) is.ranges tt;
    })

-- ---- a block

among_all : (disk : Disk) (puts : List Put) (n i : ℕ) (put : PutBlock) → n ≤ length puts → slice_get (first_blocks disk puts n) i ≡ Some put
    → slice_get (put_blocks disk.map puts) i ≡ Some put
among_all disk puts n i put le at = ap (λ bs. slice_get bs i) (blocks_split disk.map 1 n puts le)
    ∙ append_at (first_blocks disk puts n) (blocks_from disk.map (1 + n) (drop n puts)) i put at

both : (a b : Bool) → a ≡ true → b ≡ true → a && b ≡ true
both a b on_a on_b = rw (on_a, on_b) refl

-- a block that is to be written is one of all puts
of_all : (old : Spilling) (catch : Catch) → IsSpilling old → ArePutsOn (length (places old.disk.now.map)) old.puts.now
    → (to : IsToWrite old catch) → IsOfPuts old.disk.now 1 old.puts.now to.put
of_all old catch is are to =
    let disk = old.disk.now in
    let puts = old.puts.now in
    let at_all' = among_all disk puts old.admitted to.index to.put is.first to.stands in
    all_get (IsOfPuts disk 1 puts) (put_blocks disk.map puts) to.index to.put (all_of_puts disk 1 puts are.on_disk) at_all'

pub wanted_there : (old : Spilling) (catch : Catch) → IsSpilling old → IsToWrite old catch
    → (e : Entry) × (i : ℕ) × (slice_get old.pending i ≡ Some e) × (is_block catch.block.task catch.block.index e ≡ true)
    × (e.state ≡ Wanted)
wanted_there old catch is to =
    let entry = entry_of old.items to.put in
    let at : slice_get old.pending to.index ≡ Some entry = ap (λ es. slice_get es to.index) is.registered
    ∙ map_at (entry_of old.items) (first_blocks old.disk.now old.puts.now old.admitted) to.index to.put to.stands in
    let task : (to.put.block.task == catch.block.task) ≡ true = ap (λ (b : Block). to.put.block.task == b.task) to.block
    ∙ same_number to.put.block.task to.put.block.task refl in
    let number : (to.put.block.index == catch.block.index) ≡ true = ap (λ (b : Block). to.put.block.index == b.index) to.block
    ∙ same_number to.put.block.index to.put.block.index refl in (
      entry,
      to.index,
      at,
      both (to.put.block.task == catch.block.task) (to.put.block.index == catch.block.index) task number,
      ap (λ b. if b then Delivered else Wanted) to.unwritten,
    )

pub block_added : (old : Spilling) (catch : Catch) (pending : List Entry) (items : List SpillItem) (written : ℕ) → IsSpilling old
    → ArePutsOn (length (places old.disk.now.map)) old.puts.now → IsToWrite old catch
    → items ≡ old.items ++ ItemWrote (wrote_row catch) ∷ [] → pending ≡ after catch.block.task (Deliver catch.block.index) old.pending
    → written ≡ old.written + catch.block.count
    → IsSpilling (changed old pending items written)
block_added old catch pending items written is are to added delivers more_written =
    let disk = old.disk.now in
    let puts = old.puts.now in
    let n = old.admitted in
    let row = wrote_row catch in
    let block = catch.block in
    let own : to.put.block ≡ block = sym to.block in
    let first_order = first_in_order disk puts n are is.first in
    let all_order = puts_in_order disk 1 puts are.on_disk are.apart in
    let at_all' = among_all disk puts n to.index to.put is.first to.stands in
    let of_puts = of_all old catch is are to in
    let unwritten : is_written old.items block ≡ false = ap (is_written old.items) to.block ∙ to.unwritten in
    let upto = all_get (λ (p : PutBlock). p.block.task ≤ n) (first_blocks disk puts n) to.index to.put (numbered_first disk puts n are)
    to.stands in
    let task = ap (λ (b : Block). b.task) to.block in
    let count = ap (λ (b : Block). b.count) to.block in
    let lbn = ap (λ (b : Block). b.lbn) to.block in
    let less = left_less old.items row block refl refl (put_blocks disk.map puts) to.index to.put all_order at_all' own unwritten in
    subst (λ rows. IsSpilling (changed old pending rows written)) (sym added) (record {
      first = is.first;
      come = is.come;
      registered = delivers ∙ ap (after block.task (Deliver block.index)) is.registered
          ∙ delivered old.items row block refl refl (first_blocks disk puts n) to.index to.put first_order to.stands own;
      upto = all_push (IsUpTo n) old.items (ItemWrote row) is.upto (omega (arith, upto, task));
      written = omega (arith, more_written, is.written, sum_by_push sectors_in old.items (ItemWrote row));
      parts = omega (arith, more_written, is.parts, less);
      once = once_more old.items row block refl refl old.items (none_of_any (writes block) old.items unwritten) is.once;
      in_time = all_push (IsInTime disk puts) old.items (ItemWrote row) is.in_time (record {
        put = to.put;
        among = (to.index, at_all');
        writes = ap (λ (b : Block). writes b (ItemWrote row)) own ∙ told old.items row block refl refl;
        count = count;
        after = to.after;
      });
      ranges = all_push HasRange old.items (ItemWrote row) is.ranges (
        omega (arith, upto, task, is.first, are.few),
        omega (arith, lbn, count, of_puts.is.fits.on_disk, disk.few_blocks),
      );
    })

-- what is written fits
pub written_few : (old : Spilling) (catch : Catch) → IsSpilling old → ArePutsOn (length (places old.disk.now.map)) old.puts.now
    → IsToWrite old catch → old.written + catch.block.count ≤ 16 * 10 ^ 6 + 2048
written_few old catch is are to =
    omega (
      arith,
      is.parts,
      all_sectors old.disk.now.map 1 old.puts.now,
      are.few_sectors,
      ap (λ (b : Block). b.count) to.block,
      (of_all old catch is are to).is.fits.few,
    )
