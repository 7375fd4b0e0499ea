-- The blocks of one more put are registered.
use Rattle.fb_bgwrite.proofs.Words.{slice_get_within, length-take, take-append-drop, all_push, all_left, all_right, all_map}
use Rattle.fb_bgwrite.proofs.Words.{one_more, all_get, Bor, None, ◌≡◌, ℕ, zero, suc, ◌+◌, ◌<◌, ◌≤◌, List, [], ◌∷◌, ◌++◌, true}
use Rattle.fb_bgwrite.proofs.Words.{false, Some, slice_get, take, drop, map, length, refl, sym, ap, ap₂, ◌∙◌, subst, arith, inl}
use Rattle.fb_bgwrite.proofs.Words.{inr, append_assoc, append-nil, if◌then◌else◌, ◌==◌, AllByRecursion, sum_by, cases_Bool}
use Rattle.fb_bgwrite.proofs.Words.{nat_tests, map-append, length-map, sum_by-cons, IsRising, Shape, places, Cut, cutting, Disk}
use Rattle.fb_bgwrite.proofs.Words.{all_weaker, Block, Entry, Wanted, Delivered, blocks_of, registered_count, wanted_of, numbered}
use Rattle.fb_bgwrite.proofs.Words.{AreOnDisk, IsBlockOn, SpillItem, ItemSpill, ItemWrote, Put, Spilling, share, AreApart, PutBlock}
use Rattle.fb_bgwrite.proofs.Words.{blocks_from, is_written, pending, put_blocks, writes, block_range, ArePending, entry_of}
use Rattle.fb_bgwrite.proofs.Words.{first_blocks, wanted_entry, ArePutsOn, HasChosen, HasKept, IsSpilling, IsUpTo, IsBest}
use Rattle.fb_bgwrite.proofs.Words.{WritesNothing, spill_rows, Spill, GapRow, none_any, some_one}
use Rattle.fb_bgwrite.proofs.{PutBlocks.all_of_puts, PutBlocks.blocks_more, PutBlocks.blocks_split}
use Rattle.fb_bgwrite.proofs.{PutBlocks.few_blocks, PutBlocks.its_blocks, PutBlocks.none_registered, PutBlocks.order_left}
use Rattle.fb_bgwrite.proofs.{PutBlocks.puts_in_order, PutBlocks.AreInOrder, PutBlocks.IsBefore, PutBlocks.IsOfPuts, Writing.pending_is}
use Rattle.fb_bgwrite.specs.Blocks as puts

-- ---- registering

pub cut_more : (number block_number : ℕ) (before now : List Entry) (cut : Cut) (cuts rest : List Cut) → cuts ≡ cut ∷ rest
    → now ≡ before ++ map wanted_entry (numbered number 1 block_number (cut ∷ []))
    → now ++ map wanted_entry (numbered number 1 (block_number + 1) rest) ≡ before ++ map wanted_entry (numbered number 1 block_number cuts)
cut_more number block_number before now cut cuts rest split added =
    ap (λ es. es ++ map wanted_entry (numbered number 1 (block_number + 1) rest)) added
    ∙ append_assoc before (map wanted_entry (numbered number 1 block_number (cut ∷ [])))
    (map wanted_entry (numbered number 1 (block_number + 1) rest))
    ∙ ap (λ cs. before ++ map wanted_entry (numbered number 1 block_number cs)) (sym split)

pub one_counted : (number : ℕ) (before : List Entry) (entry : Entry) → entry.block.task ≡ number
    → registered_count number (blocks_of (before ++ entry ∷ [])) ≡ registered_count number (blocks_of before) + 1
one_counted number [] entry same =
    let own : (entry.block.task == number) ≡ true = grind (arith, nat_tests) in
    rw own (omega arith)
one_counted number (e ∷ es) entry same = elim (cases_Bool (e.block.task == number)) [
  | inl own ↦ rw own (omega (arith, one_counted number es entry same))
  | inr other ↦ rw other (one_counted number es entry same)
]

pub registered_few : (number : ℕ) (entries : List Entry) → registered_count number (blocks_of entries) ≤ length entries
registered_few number [] = omega arith
registered_few number (e ∷ es) = elim (cases_Bool (e.block.task == number)) [
  | inl own ↦ rw own (omega (arith, registered_few number es))
  | inr other ↦ rw other (omega (arith, registered_few number es))
]

pub none_left : (disk : Shape) (number block_number lbn left : ℕ) (entries : List Entry) → left ≡ 0
    → entries ≡ entries ++ map wanted_entry (numbered number 1 block_number (cutting disk 2048 lbn left))
unfolding cutting
none_left disk number block_number lbn left entries none =
    sym (append-nil entries) ∙ ap (λ n. entries ++ map wanted_entry (numbered number 1 block_number (cutting disk 2048 lbn n))) (sym none)

-- ---- the first blocks

its_map : (items : List SpillItem) (blocks : List PutBlock) → blocks_of (map (entry_of items) blocks) ≡ its_blocks blocks
its_map items [] = refl
its_map items (b ∷ bs) = ap (λ xs. b.block ∷ xs) (its_map items bs)

lie_take : (P : Put → Type 0) (n : ℕ) (puts : List Put) → AllByRecursion P puts → AllByRecursion P (take n puts)
lie_take P n puts all = all_left P (take n puts) (drop n puts) (subst (AllByRecursion P) (sym (take-append-drop n puts)) all)

-- they are of the first puts
first_of_puts : (disk : Disk) (puts : List Put) (n : ℕ) → ArePutsOn (length (places disk.map)) puts
    → AllByRecursion (IsOfPuts disk 1 (take n puts)) (first_blocks disk puts n)
first_of_puts disk puts n are = all_of_puts disk 1 (take n puts) (lie_take (λ (put : Put). put.first + put.count ≤ length (places disk.map))
    n puts are.on_disk)

-- so are the numbers of their puts
pub numbered_first : (disk : Disk) (puts : List Put) (n : ℕ) → ArePutsOn (length (places disk.map)) puts
    → AllByRecursion (λ (p : PutBlock). p.block.task ≤ n) (first_blocks disk puts n)
numbered_first disk puts n are = all_weaker (IsOfPuts disk 1 (take n puts)) (λ (p : PutBlock). p.block.task ≤ n)
    (λ p is. omega (arith, is.is.task, slice_get_within (take n puts) is.i is.own is.stands, length-take n puts))
    (first_blocks disk puts n) (first_of_puts disk puts n are)

pub first_in_order : (disk : Disk) (puts : List Put) (n : ℕ) → ArePutsOn (length (places disk.map)) puts → n ≤ length puts
    → AreInOrder (first_blocks disk puts n)
first_in_order disk puts n are le = order_left (first_blocks disk puts n) (blocks_from disk.map (1 + n) (drop n puts))
    (subst AreInOrder (blocks_split disk.map 1 n puts le) (puts_in_order disk 1 puts are.on_disk are.apart))

pub first_few : (disk : Disk) (puts : List Put) (n : ℕ) → ArePutsOn (length (places disk.map)) puts
    → length (first_blocks disk puts n) ≤ sum_by (λ (put : Put). put.count) (take n puts)
first_few disk puts n are =
    few_blocks disk 1 (take n puts) (lie_take (λ (put : Put). put.first + put.count ≤ length (places disk.map)) n puts are.on_disk)

-- no block of the next put is registered
pub none_yet_registered : (disk : Disk) (puts : List Put) (items : List SpillItem) (n : ℕ) → ArePutsOn (length (places disk.map)) puts
    → registered_count (n + 1) (blocks_of (map (entry_of items) (first_blocks disk puts n))) ≡ 0
none_yet_registered disk puts items n are =
    ap (registered_count (n + 1)) (its_map items (first_blocks disk puts n))
    ∙ none_registered (n + 1) (its_blocks (first_blocks disk puts n)) (all_map (λ (b : Block). b.task < n + 1) (λ (p : PutBlock). p.block)
    (first_blocks disk puts n)
    (all_weaker (λ (p : PutBlock). p.block.task ≤ n) (λ (p : PutBlock). p.block.task < n + 1) (λ p le. omega (arith, le))
    (first_blocks disk puts n) (numbered_first disk puts n are)))

-- ---- what the search needs to know

fits_all : (disk : Disk) (items : List SpillItem) (puts : List Put) (blocks : List PutBlock) → AllByRecursion (IsOfPuts disk 1 puts) blocks
    → AreOnDisk disk (map (entry_of items) blocks)
fits_all disk items puts [] all i entry at = absurd (grind arith)
fits_all disk items puts (b ∷ bs) all zero entry at =
    subst (IsBlockOn disk.map) (ap (λ (e : Entry). e.block) (some_one (entry_of items b) entry at)) all.0.is.fits
fits_all disk items puts (b ∷ bs) all (suc i) entry at = fits_all disk items puts bs all.1 i entry at

light_all : (disk : Disk) (items : List SpillItem) (puts : List Put) (blocks : List PutBlock) → AllByRecursion (IsOfPuts disk 1 puts) blocks
    → AllByRecursion (λ (e : Entry). e.block.weight ≡ 1) (map (entry_of items) blocks)
light_all disk items puts [] all = tt
light_all disk items puts (b ∷ bs) all = (all.0.is.light, light_all disk items puts bs all.1)

apart_behind : (items : List SpillItem) (own : PutBlock) (blocks : List PutBlock)
    → AllByRecursion (λ other. IsBefore own.block other.block) blocks
    → AllByRecursion (λ other. share (block_range own.block) other ≡ false)
    (map (λ (e : Entry). block_range e.block) (map (entry_of items) blocks))
apart_behind items own [] all = tt
apart_behind items own (b ∷ bs) all = (all.0.apart, apart_behind items own bs all.1)

apart_all : (items : List SpillItem) (blocks : List PutBlock) → AreInOrder blocks
    → AreApart (map (λ (e : Entry). block_range e.block) (map (entry_of items) blocks))
apart_all items [] order = tt
apart_all items (b ∷ bs) order = (apart_behind items b bs order.0, apart_all items bs order.1)

pub are_pending : (spilling : Spilling) → IsSpilling spilling → ArePutsOn (length (places spilling.disk.now.map)) spilling.puts.now
    → ArePending spilling.disk.now spilling.pending
are_pending spilling is are =
    let disk = spilling.disk.now in
    let puts = spilling.puts.now in
    let blocks = first_blocks disk puts spilling.admitted in
    let of_puts = first_of_puts disk puts spilling.admitted are in
    subst (ArePending disk) (sym is.registered) (record {
      on_disk = fits_all disk spilling.items (take spilling.admitted puts) blocks of_puts;
      light = light_all disk spilling.items (take spilling.admitted puts) blocks of_puts;
      apart = apart_all spilling.items blocks (first_in_order disk puts spilling.admitted are is.first);
    })

-- ---- which blocks are pending

-- what holds of the instants of puts holds of those of their blocks
by_instant : (P : ℕ → Type 0) (disk : Disk) (puts : List Put) → AllByRecursion (λ (put : Put). P put.instant) puts
    → (blocks : List PutBlock) (number : ℕ) → AllByRecursion (IsOfPuts disk number puts) blocks
    → AllByRecursion (λ (p : PutBlock). P p.instant) blocks
by_instant P disk puts each blocks number = all_weaker (IsOfPuts disk number puts) (λ (p : PutBlock). P p.instant)
    (λ p is. subst P (sym is.instant) (all_get (λ (put : Put). P put.instant) puts is.i is.own each is.stands)) blocks

rising_behind : (now instant : ℕ) (puts : List Put)
    → now < instant → AllByRecursion (λ later. instant ≤ later) (map (λ (put : Put). put.instant) puts)
    → AllByRecursion (λ (put : Put). now < put.instant) puts
rising_behind now instant [] less all = tt
rising_behind now instant (put ∷ puts) less all = (omega (arith, less, all.0), rising_behind now instant puts less all.1)

-- if the next put is later, so are all others
others_later : (now n : ℕ) (puts : List Put) → IsRising (map (λ (put : Put). put.instant) puts)
    → ((put : Put) → slice_get puts n ≡ Some put → now < put.instant) → AllByRecursion (λ (put : Put). now < put.instant) (drop n puts)
others_later now zero [] rising next = tt
others_later now zero (put ∷ puts) rising next = (next put refl, rising_behind now put.instant puts (next put refl) rising.0)
others_later now (suc n) [] rising next = tt
others_later now (suc n) (put ∷ puts) rising next = others_later now n puts rising.1 next

lie_drop : (P : Put → Type 0) (n : ℕ) (puts : List Put) → AllByRecursion P puts → AllByRecursion P (drop n puts)
lie_drop P n puts all = all_right P (take n puts) (drop n puts) (subst (AllByRecursion P) (sym (take-append-drop n puts)) all)

pub first_come : (spilling : Spilling) → IsSpilling spilling → ArePutsOn (length (places spilling.disk.now.map)) spilling.puts.now
    → AllByRecursion (λ (p : PutBlock). p.instant ≤ spilling.instant) (first_blocks spilling.disk.now spilling.puts.now spilling.admitted)
first_come s is are = by_instant (λ n. n ≤ s.instant) s.disk.now (take s.admitted s.puts.now) is.come
    (first_blocks s.disk.now s.puts.now s.admitted) 1 (first_of_puts s.disk.now s.puts.now s.admitted are)

pub wanted_pending : (spilling : Spilling) → IsSpilling spilling → ArePutsOn (length (places spilling.disk.now.map)) spilling.puts.now
    → ((put : Put) → slice_get spilling.puts.now spilling.admitted ≡ Some put → spilling.instant < put.instant)
    → wanted_of spilling.pending ≡ pending (put_blocks spilling.disk.now.map spilling.puts.now) spilling.items spilling.instant
wanted_pending spilling is are next =
    let disk = spilling.disk.now in
    let puts = spilling.puts.now in
    let n = spilling.admitted in
    let rest = lie_drop (λ (put : Put). put.first + put.count ≤ length (places disk.map)) n puts are.on_disk in
    ap wanted_of is.registered
    ∙ pending_is spilling.items spilling.instant (put_blocks disk.map puts) (first_blocks disk puts n)
    (blocks_from disk.map (1 + n) (drop n puts)) (blocks_split disk.map 1 n puts is.first)
    (first_come spilling is are)
    (by_instant (λ n. spilling.instant < n) disk (drop n puts) (others_later spilling.instant n puts are.rising next)
    (blocks_from disk.map (1 + n) (drop n puts)) (1 + n) (all_of_puts disk (1 + n) (drop n puts) rest))

-- ---- one more put

told_earlier : (n : ℕ) (block : Block) → n < block.task → (item : SpillItem) → IsUpTo n item → writes block item ≡ false
told_earlier n block behind (ItemSpill row) upto = refl
told_earlier n block behind (ItemWrote row) upto = grind (arith, nat_tests)

not_yet : (n : ℕ) (items : List SpillItem) (block : Block) → n < block.task → AllByRecursion (IsUpTo n) items
    → is_written items block ≡ false
not_yet n items block behind all =
    none_any (writes block) items (all_weaker (IsUpTo n) (λ item. writes block item ≡ false) (told_earlier n block behind) items all)

wanted_new : (n : ℕ) (items : List SpillItem) (instant : ℕ) (blocks : List Block) → AllByRecursion (IsUpTo n) items
    → AllByRecursion (λ (b : Block). n < b.task) blocks
    → map wanted_entry blocks
    ≡ map (entry_of items) (map (λ (b : Block). let p : PutBlock = record { instant = instant; block = b } in p) blocks)
wanted_new n items instant [] upto all = refl
wanted_new n items instant (b ∷ bs) upto all =
    ap₂ (λ (e : Entry) es. e ∷ es) (ap (λ w. let e : Entry = record { block = b; state = if w then Delivered else Wanted } in e)
    (sym (not_yet n items b all.0 upto))) (wanted_new n items instant bs upto all.1)

own_numbered : (number n : ℕ) (cuts : List Cut) → AllByRecursion (λ (b : Block). number < b.task) (numbered (number + 1) 1 n cuts)
own_numbered number n [] = tt
own_numbered number n (cut ∷ cuts) = (omega arith, own_numbered number (n + 1) cuts)

further : (n : ℕ) (item : SpillItem) → IsUpTo n item → IsUpTo (n + 1) item
further n (ItemSpill row) upto = tt
further n (ItemWrote row) upto = omega (arith, upto)

pub put_admitted : (old : Spilling) (put : Put) (pending : List Entry) → IsSpilling old
    → ArePutsOn (length (places old.disk.now.map)) old.puts.now → slice_get old.puts.now old.admitted ≡ Some put → put.instant ≤ old.instant
    → pending ≡ old.pending ++ map wanted_entry (numbered (old.admitted + 1) 1 0 (cutting old.disk.now.map 2048 put.first put.count))
    → IsSpilling (record {
      alloc = old.alloc;
      disk = old.disk;
      puts = old.puts;
      pending = pending;
      admitted = old.admitted + 1;
      instant = old.instant;
      items = old.items;
      written = old.written;
    })
put_admitted old put pending is are at come added =
    let disk = old.disk.now in
    let n = old.admitted in
    let cuts = cutting disk.map 2048 put.first put.count in
    let next : n + 1 ≡ suc n = omega arith in
    let blocks : first_blocks disk old.puts.now (suc n) ≡ first_blocks disk old.puts.now n ++ puts.blocks_of disk.map (1 + n) put =
    blocks_more disk.map 1 n old.puts.now put at in
    let same : puts.blocks_of disk.map (n + 1) put ≡ puts.blocks_of disk.map (1 + n) put =
    ap (λ m. puts.blocks_of disk.map m put) (let e : n + 1 ≡ 1 + n = omega arith in e) in
    record {
      first = omega (arith, slice_get_within old.puts.now n put at);
      come = subst (AllByRecursion (λ (p : Put). p.instant ≤ old.instant)) (sym (one_more old.puts.now n put at))
          (all_push (λ (p : Put). p.instant ≤ old.instant) (take n old.puts.now) put is.come come);
      registered = added
          ∙ ap₂ (λ xs ys. xs ++ ys) is.registered (wanted_new n old.items put.instant (numbered (n + 1) 1 0 cuts) is.upto
          (own_numbered n 0 cuts) ∙ ap (map (entry_of old.items)) same)
          ∙ sym (map-append (entry_of old.items) (first_blocks disk old.puts.now n) (puts.blocks_of disk.map (1 + n) put))
          ∙ ap (map (entry_of old.items)) (sym blocks ∙ ap (first_blocks disk old.puts.now) (sym next));
      upto = all_weaker (IsUpTo n) (IsUpTo (n + 1)) (further n) old.items is.upto;
      written = is.written;
      parts = is.parts;
      once = is.once;
      in_time = is.in_time;
      ranges = is.ranges;
    }

sum_next : (n : ℕ) (puts : List Put) (put : Put) → slice_get puts n ≡ Some put
    → sum_by (λ (p : Put). p.count) (take n puts) + put.count ≤ sum_by (λ (p : Put). p.count) puts
sum_next n [] put at = absurd (grind arith)
sum_next zero (p ∷ ps) put at = omega (arith, sum_by-cons (λ (p : Put). p.count) p ps, ap (λ (p : Put). p.count) (some_one p put at))
sum_next (suc n) (p ∷ ps) put at =
    omega (arith, sum_by-cons (λ (p : Put). p.count) p ps, sum_by-cons (λ (p : Put). p.count) p (take n ps), sum_next n ps put at)

-- the blocks of the next put have room
pub room_for_next : (old : Spilling) (put : Put) → IsSpilling old → ArePutsOn (length (places old.disk.now.map)) old.puts.now
    → slice_get old.puts.now old.admitted ≡ Some put → length old.pending + put.count ≤ 16000000
room_for_next old put is are at =
    let n = old.admitted in
    omega (
      arith,
      ap length is.registered,
      length-map (first_blocks old.disk.now old.puts.now n) (entry_of old.items),
      first_few old.disk.now old.puts.now n are,
      sum_next n old.puts.now put at,
      are.few_sectors,
    )

-- ---- in a gap

pub puts_kept : (old new : Spilling) → HasKept old new → ArePutsOn (length (places old.disk.now.map)) old.puts.now
    → ArePutsOn (length (places new.disk.now.map)) new.puts.now
puts_kept old new kept are =
    subst (λ (d : Bor Disk). ArePutsOn (length (places d.now.map)) new.puts.now) (sym kept.disk)
    (subst (λ (p : Bor (List Put)). ArePutsOn (length (places old.disk.now.map)) p.now) (sym kept.puts) are)

module _ (old new : Spilling) (row : GapRow) (is : IsSpilling new) (are : ArePutsOn (length (places old.disk.now.map)) old.puts.now)
    (kept : HasKept old new) (items : new.items ≡ old.items) (instant : new.instant ≡ row.gap.now)
    (next : (put : Put) → slice_get new.puts.now new.admitted ≡ Some put → row.gap.now < put.instant) where
  pending_then : wanted_of new.pending ≡ pending (put_blocks old.disk.now.map old.puts.now) old.items row.gap.now
  pending_then =
      wanted_pending new is (puts_kept old new kept are) (λ put at. subst (λ t. t < put.instant) (sym instant) (next put at))
      ∙ ap (λ (d : Bor Disk). pending (put_blocks d.now.map new.puts.now) new.items new.instant) kept.disk
      ∙ ap (λ (p : Bor (List Put)). pending (put_blocks old.disk.now.map p.now) new.items new.instant) kept.puts
      ∙ ap (λ xs. pending (put_blocks old.disk.now.map old.puts.now) xs new.instant) items
      ∙ ap (pending (put_blocks old.disk.now.map old.puts.now) old.items) instant

  pub chosen_none : WritesNothing new.disk.now row.gap (wanted_of new.pending) → HasChosen old.disk.now old.puts.now row old.items new.items
  chosen_none nothing = record {
    spill = None;
    chosen =
        subst (λ (d : Bor Disk). WritesNothing d.now row.gap (pending (put_blocks old.disk.now.map old.puts.now) old.items row.gap.now))
        kept.disk (subst (WritesNothing new.disk.now row.gap) pending_then nothing);
    rows = items ∙ sym (append-nil old.items);
  }

  pub chosen_some : (spill : Spill) (after : List SpillItem) → IsBest new.disk.now row.gap (wanted_of new.pending) spill
      → after ≡ new.items ++ spill_rows new.disk.now row (wanted_of new.pending) spill
      → HasChosen old.disk.now old.puts.now row old.items after
  chosen_some spill after best rows = record {
    spill = Some spill;
    chosen = subst (λ (d : Bor Disk). IsBest d.now row.gap (pending (put_blocks old.disk.now.map old.puts.now) old.items row.gap.now) spill)
        kept.disk (subst (λ bs. IsBest new.disk.now row.gap bs spill) pending_then best);
    rows = rows
        ∙ ap (λ xs. xs ++ spill_rows new.disk.now row (wanted_of new.pending) spill) items
        ∙ ap (λ bs. old.items ++ spill_rows new.disk.now row bs spill) pending_then
        ∙ ap (λ (d : Bor Disk). old.items
        ++ spill_rows d.now row (pending (put_blocks old.disk.now.map old.puts.now) old.items row.gap.now) spill) kept.disk;
  }
