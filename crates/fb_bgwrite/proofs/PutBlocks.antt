-- The blocks of puts: each passes whole in one turn of its track, they are told apart, and no two share a sector.
use Rattle.fb_bgwrite.proofs.Words.{option_map, append-nil, slice_get-map, all_map, all_get, ◌≡◌, ◌⊎◌, ℕ, zero, suc, ◌+◌, ◌<◌, ◌≤◌}
use Rattle.fb_bgwrite.proofs.Words.{List, [], ◌∷◌, ◌++◌, false, Some, slice_get, take, drop, map, length, refl, sym, ap, ◌∙◌, subst}
use Rattle.fb_bgwrite.proofs.Words.{arith, inl, inr, append_assoc, ◌==◌, AllByRecursion, sum_by, nat_tests, map-append, sum_by-cons}
use Rattle.fb_bgwrite.proofs.Words.{sum_by-append, Shape, places, Cut, IsOneTurn, sweep_of, cutting, track_at, Disk, all_weaker, Block}
use Rattle.fb_bgwrite.proofs.Words.{registered_count, numbered, all_append, all_left, IsBlockOn, Put, share, AreApart, range_of, PutBlock}
use Rattle.fb_bgwrite.proofs.Words.{blocks_from, sectors, block_range, is_shares, some_one}
use Rattle.fb_puts.proofs.Sharing.{not_share}
use Rattle.fb_bgwrite.specs.Blocks.{blocks_of}
use Rattle.fb_model.proofs.Cuts.{AreCuts, cuts_are, cuts_rise}

-- the first block has the lesser put, or is an earlier one of the same put; and they share no sector
pub record IsBefore (a b : Block) : Type 0 where
  pub order : (a.task < b.task) ⊎ ((a.task ≡ b.task) × (a.index < b.index) × (a.lbn < b.lbn))
  pub apart : share (block_range a) (block_range b) ≡ false

abbrev pub AreInOrder : List PutBlock → Type 0
AreInOrder [] = Unit {0}
AreInOrder (put ∷ puts) = AllByRecursion (λ other. IsBefore put.block other.block) puts × AreInOrder puts

-- the block of this put, with this number there, that a cut gives
abbrev pub block_of : ℕ → ℕ → Cut → Block
block_of number n cut = record {
  task = number;
  index = n;
  lbn = cut.lbn;
  count = cut.count;
  track = cut.track;
  weight = 1;
  sweep = cut.sweep;
}

-- a block of the put with this number, from a sector and a number there on, before an end
pub record IsOf (disk : Disk) (number n from end : ℕ) (block : Block) : Type 0 where
  pub fits : IsBlockOn disk.map block
  pub light : block.weight ≡ 1
  pub task : block.task ≡ number
  pub later : n ≤ block.index
  pub low : from ≤ block.lbn
  pub high : block.lbn + block.count ≤ end

of_earlier : (disk : Disk) (number n from end more at : ℕ) → n ≤ more → from ≤ at → (block : Block) → IsOf disk number more at end block
    → IsOf disk number n from end block
of_earlier disk number n from end more at n_le from_le block is = record {
  fits = is.fits;
  light = is.light;
  task = is.task;
  later = omega (arith, is.later);
  low = omega (arith, is.low);
  high = is.high;
}

all_numbered : (disk : Disk) (number n from end : ℕ) (cuts : List Cut) → end ≤ length (places disk.map)
    → AreCuts disk.map 2048 from end cuts → AllByRecursion (IsOf disk number n from end) (numbered number 1 n cuts)
all_numbered disk number n from end [] on_disk are = tt
all_numbered disk number n from end (cut ∷ cuts) on_disk are =
    let rise = cuts_rise disk.map 2048 (from + cut.count) end cuts are.4 in (
      record {
        fits = record {
          some = are.1;
          few = omega (arith, are.2);
          light = omega arith;
          on_disk = omega (arith, are.0, rise);
          track = are.3 ∙ ap (track_at disk.map) (sym are.0);
          one_turn = subst (λ at. IsOneTurn disk.map at cut.count) (sym are.0) are.5;
          sweep = are.6 ∙ ap (λ at. sweep_of disk.map at cut.count) (sym are.0);
        };
        light = refl;
        task = refl;
        later = omega arith;
        low = omega (arith, are.0);
        high = omega (arith, are.0, rise);
      },
      all_weaker (IsOf disk number (n + 1) (from + cut.count) end) (IsOf disk number n from end)
          (of_earlier disk number n from end (n + 1) (from + cut.count) (omega arith) (omega arith)) (numbered number 1 (n + 1) cuts)
          (all_numbered disk number (n + 1) (from + cut.count) end cuts on_disk are.4),
    )

first_before : (disk : Disk) (number n from end count : ℕ) (block other : Block) → 0 < count → block.task ≡ number → block.index ≡ n
    → block.lbn ≡ from → block.count ≡ count → IsOf disk number (n + 1) (from + count) end other → IsBefore block other
first_before disk number n from end count block other some task same lbn its is = record {
  order = inr (task ∙ sym is.task, omega (arith, same, is.later), omega (arith, lbn, is.low, some));
  apart = not_share (block_range block) (block_range other) (λ shares. omega (arith, shares.behind, lbn, its, is.low));
}

module _ (instant : ℕ) where
  abbrev put_block : Block → PutBlock
  put_block block = record { instant = instant; block = block }

  all_behind : (first : Block) (blocks : List Block) → AllByRecursion (IsBefore first) blocks
      → AllByRecursion (λ (p : PutBlock). IsBefore first p.block) (map put_block blocks)
  all_behind first = all_map (λ (p : PutBlock). IsBefore first p.block) put_block

  numbered_in_order : (disk : Disk) (number n from end : ℕ) (cuts : List Cut) → end ≤ length (places disk.map)
      → AreCuts disk.map 2048 from end cuts → AreInOrder (map put_block (numbered number 1 n cuts))
  numbered_in_order disk number n from end [] on_disk are = tt
  numbered_in_order disk number n from end (cut ∷ cuts) on_disk are =
      let first = block_of number n cut in (
        all_behind first (numbered number 1 (n + 1) cuts) (all_weaker (IsOf disk number (n + 1) (from + cut.count) end) (IsBefore first)
            (λ other is. first_before disk number n from end cut.count first other are.1 refl refl are.0 refl is)
            (numbered number 1 (n + 1) cuts) (all_numbered disk number (n + 1) (from + cut.count) end cuts on_disk are.4)),
        numbered_in_order disk number (n + 1) (from + cut.count) end cuts on_disk are.4,
      )

-- a block of one of these puts, which are numbered from a number on
pub record IsOfPuts (disk : Disk) (number : ℕ) (puts : List Put) (put : PutBlock) : Type 0 where
  pub i : ℕ
  pub own : Put
  pub stands : slice_get puts i ≡ Some own
  pub instant : put.instant ≡ own.instant
  pub is : IsOf disk (number + i) 0 own.first (own.first + own.count) put.block

-- puts that lie on a disk
abbrev pub LieOn : Disk → List Put → Type 0
LieOn disk puts = AllByRecursion (λ put. put.first + put.count ≤ length (places disk.map)) puts

all_mapped : (disk : Disk) (number : ℕ) (put : Put) (puts : List Put) (blocks : List Block)
    → AllByRecursion (IsOf disk number 0 put.first (put.first + put.count)) blocks
    → AllByRecursion (IsOfPuts disk number (put ∷ puts)) (map (put_block put.instant) blocks)
all_mapped disk number put puts [] all = tt
all_mapped disk number put puts (b ∷ bs) all = (
  record {
    i = 0;
    own = put;
    stands = refl;
    instant = refl;
    is = subst (λ n. IsOf disk n 0 put.first (put.first + put.count) b) (let same : number ≡ number + 0 = omega arith in same) all.0;
  },
  all_mapped disk number put puts bs all.1,
)

of_later : (disk : Disk) (number : ℕ) (put : Put) (puts : List Put) (block : PutBlock) → IsOfPuts disk (number + 1) puts block
    → IsOfPuts disk number (put ∷ puts) block
of_later disk number put puts block is = record {
  i = suc is.i;
  own = is.own;
  stands = is.stands;
  instant = is.instant;
  is = subst (λ n. IsOf disk n 0 is.own.first (is.own.first + is.own.count) block.block)
      (let same : number + 1 + is.i ≡ number + suc is.i = omega arith in same) is.is;
}

pub all_of_puts : (disk : Disk) (number : ℕ) (puts : List Put) → LieOn disk puts
    → AllByRecursion (IsOfPuts disk number puts) (blocks_from disk.map number puts)
unfolding blocks_from
all_of_puts disk number [] on_disk = tt
all_of_puts disk number (put ∷ puts) on_disk =
    all_append (IsOfPuts disk number (put ∷ puts)) (blocks_of disk.map number put) (blocks_from disk.map (number + 1) puts)
    (all_mapped disk number put puts (numbered number 1 0 (cutting disk.map 2048 put.first put.count))
    (all_numbered disk number 0 put.first (put.first + put.count) (cutting disk.map 2048 put.first put.count) on_disk.0
    (cuts_are disk.map 2048 put.first put.count (omega arith))))
    (all_weaker (IsOfPuts disk (number + 1) puts) (IsOfPuts disk number (put ∷ puts)) (of_later disk number put puts)
    (blocks_from disk.map (number + 1) puts) (all_of_puts disk (number + 1) puts on_disk.1))

-- a block of a put is before those of later puts
put_before : (disk : Disk) (number : ℕ) (put : Put) (puts : List Put) (block : PutBlock)
    → IsOf disk number 0 put.first (put.first + put.count) block.block
    → AllByRecursion (λ other. share (range_of put) other ≡ false) (map range_of puts)
    → (other : PutBlock) → IsOfPuts disk (number + 1) puts other → IsBefore block.block other.block
put_before disk number put puts block is apart other its = record {
  order = inl (omega (arith, is.task, its.is.task));
  apart = not_share (block_range block.block) (block_range other.block) (λ shares.
      let off : share (range_of put) (range_of its.own) ≡ false = all_get (λ r. share (range_of put) r ≡ false) (map range_of puts) its.i
      (range_of its.own) apart (slice_get-map range_of puts its.i ∙ ap (option_map range_of) its.stands) in
      let on = is_shares (range_of put) (range_of its.own) (omega (arith, shares.before, is.low, is.high, its.is.high, its.is.low))
      (omega (arith, shares.behind, is.high, its.is.low))
      (omega (arith, is.low, is.high, is.fits.some)) (omega (arith, its.is.low, its.is.high, its.is.fits.some)) in
      absurd (grind arith));
}

order_append : (xs ys : List PutBlock) → AreInOrder xs → AreInOrder ys
    → AllByRecursion (λ x. AllByRecursion (λ other. IsBefore x.block other.block) ys) xs → AreInOrder (xs ++ ys)
order_append [] ys a b all = b
order_append (x ∷ xs) ys a b all = (all_append (λ other. IsBefore x.block other.block) xs ys a.0 all.0, order_append xs ys a.1 b all.1)

all_before : (disk : Disk) (number : ℕ) (put : Put) (puts : List Put)
    → LieOn disk puts → AllByRecursion (λ other. share (range_of put) other ≡ false) (map range_of puts) → (blocks : List Block)
    → AllByRecursion (IsOf disk number 0 put.first (put.first + put.count)) blocks
    → AllByRecursion (λ x. AllByRecursion (λ other. IsBefore x.block other.block) (blocks_from disk.map (number + 1) puts))
    (map (put_block put.instant) blocks)
all_before disk number put puts on_disk apart [] all = tt
all_before disk number put puts on_disk apart (b ∷ bs) all = (
  all_weaker (IsOfPuts disk (number + 1) puts) (λ other. IsBefore b other.block) (put_before disk number put puts
      (put_block put.instant b) all.0 apart) (blocks_from disk.map (number + 1) puts) (all_of_puts disk (number + 1) puts on_disk),
  all_before disk number put puts on_disk apart bs all.1,
)

pub puts_in_order : (disk : Disk) (number : ℕ) (puts : List Put) → LieOn disk puts → AreApart (map range_of puts)
    → AreInOrder (blocks_from disk.map number puts)
unfolding blocks_from
puts_in_order disk number [] on_disk apart = tt
puts_in_order disk number (put ∷ puts) on_disk apart =
    let cuts = cutting disk.map 2048 put.first put.count in
    let are = cuts_are disk.map 2048 put.first put.count (omega arith) in
    order_append (blocks_of disk.map number put) (blocks_from disk.map (number + 1) puts)
    (numbered_in_order put.instant disk number 0 put.first (put.first + put.count) cuts on_disk.0 are)
    (puts_in_order disk (number + 1) puts on_disk.1 apart.1)
    (all_before disk number put puts on_disk.1 apart.0 (numbered number 1 0 cuts)
    (all_numbered disk number 0 put.first (put.first + put.count) cuts on_disk.0 are))

-- ---- the first puts and the others

pub blocks_split : (disk : Shape) (number k : ℕ) (puts : List Put) → k ≤ length puts
    → blocks_from disk number puts ≡ blocks_from disk number (take k puts) ++ blocks_from disk (number + k) (drop k puts)
unfolding blocks_from
blocks_split disk number zero puts le = ap (λ n. blocks_from disk n puts) (let same : number ≡ number + 0 = omega arith in same)
blocks_split disk number (suc k) [] le = absurd (omega (arith, le))
blocks_split disk number (suc k) (put ∷ puts) le =
    ap (λ bs. blocks_of disk number put ++ bs) (blocks_split disk (number + 1) k puts (omega (arith, le))
    ∙ ap (λ n. blocks_from disk (number + 1) (take k puts) ++ blocks_from disk n (drop k puts))
    (let same : number + 1 + k ≡ number + suc k = omega arith in same))
    ∙ sym (append_assoc (blocks_of disk number put) (blocks_from disk (number + 1) (take k puts))
    (blocks_from disk (number + suc k) (drop k puts)))

pub blocks_more : (disk : Shape) (number k : ℕ) (puts : List Put) (put : Put) → slice_get puts k ≡ Some put
    → blocks_from disk number (take (suc k) puts) ≡ blocks_from disk number (take k puts) ++ blocks_of disk (number + k) put
unfolding blocks_from
blocks_more disk number k [] put at = absurd (grind arith)
blocks_more disk number zero (p ∷ puts) put at =
    let same : p ≡ put = some_one p put at in
    ap (λ (q : Put). blocks_of disk number q ++ []) same ∙ append-nil (blocks_of disk number put)
    ∙ ap (λ n. blocks_of disk n put) (let e : number ≡ number + 0 = omega arith in e)
blocks_more disk number (suc k) (p ∷ puts) put at =
    ap (λ bs. blocks_of disk number p ++ bs) (blocks_more disk (number + 1) k puts put at
    ∙ ap (λ n. blocks_from disk (number + 1) (take k puts) ++ blocks_of disk n put)
    (let same : number + 1 + k ≡ number + suc k = omega arith in same))
    ∙ sym (append_assoc (blocks_of disk number p) (blocks_from disk (number + 1) (take k puts)) (blocks_of disk (number + suc k) put))

pub order_left : (xs ys : List PutBlock) → AreInOrder (xs ++ ys) → AreInOrder xs
order_left [] ys order = tt
order_left (x ∷ xs) ys order = (all_left (λ other. IsBefore x.block other.block) xs ys order.0, order_left xs ys order.1)

-- ---- how many sectors

sum_cuts : (disk : Shape) (number n from end : ℕ) (cuts : List Cut) → AreCuts disk 2048 from end cuts
    → from + sectors (numbered number 1 n cuts) ≡ end
sum_cuts disk number n from end [] are = omega (arith, are)
sum_cuts disk number n from end (cut ∷ cuts) are =
    omega (
      arith,
      sum_by-cons (λ (b : Block). b.count) (block_of number n cut) (numbered number 1 (n + 1) cuts),
      sum_cuts disk number
          (n + 1) (from + cut.count) end cuts are.4,
    )

abbrev pub its_blocks : List PutBlock → List Block
its_blocks puts = map (λ put. put.block) puts

unwrapped : (instant : ℕ) (blocks : List Block) → its_blocks (map (put_block instant) blocks) ≡ blocks
unwrapped instant [] = refl
unwrapped instant (b ∷ bs) = ap (λ xs. b ∷ xs) (unwrapped instant bs)

pub put_sectors : (disk : Shape) (number : ℕ) (put : Put) → sectors (its_blocks (blocks_of disk number put)) ≡ put.count
put_sectors disk number put =
    let cuts = cutting disk 2048 put.first put.count in
    let sum = sum_cuts disk number 0 put.first (put.first + put.count) cuts (cuts_are disk 2048 put.first put.count (omega arith)) in
    omega (arith, sum, ap sectors (unwrapped put.instant (numbered number 1 0 cuts)))

pub all_sectors : (disk : Shape) (number : ℕ) (puts : List Put)
    → sectors (its_blocks (blocks_from disk number puts)) ≡ sum_by (λ (put : Put). put.count) puts
unfolding blocks_from
all_sectors disk number [] = refl
all_sectors disk number (put ∷ puts) =
    omega (
      arith,
      ap sectors (map-append (λ (p : PutBlock). p.block) (blocks_of disk number put) (blocks_from disk (number + 1) puts)),
      sum_by-append (λ (b : Block). b.count) (its_blocks (blocks_of disk number put)) (its_blocks (blocks_from disk (number + 1) puts)),
      put_sectors disk number put,
      all_sectors disk (number + 1) puts,
      sum_by-cons (λ (p : Put). p.count) put puts,
    )

few_by_sectors : (disk : Disk) (number : ℕ) (puts : List Put) (blocks : List PutBlock) → AllByRecursion (IsOfPuts disk number puts) blocks
    → length blocks ≤ sectors (its_blocks blocks)
few_by_sectors disk number puts [] all = omega arith
few_by_sectors disk number puts (b ∷ bs) all =
    omega (
      arith,
      sum_by-cons (λ (x : Block). x.count) b.block (its_blocks bs),
      all.0.is.fits.some,
      few_by_sectors disk number puts bs all.1,
    )

-- there are no more blocks than sectors
pub few_blocks : (disk : Disk) (number : ℕ) (puts : List Put) → LieOn disk puts
    → length (blocks_from disk.map number puts) ≤ sum_by (λ (put : Put). put.count) puts
few_blocks disk number puts on_disk = omega (
  arith,
  few_by_sectors disk number puts (blocks_from disk.map number puts) (all_of_puts disk number puts on_disk),
  all_sectors disk.map number puts,
)

-- ---- the numbers of puts

pub none_registered : (number : ℕ) (blocks : List Block) → AllByRecursion (λ block. block.task < number) blocks
    → registered_count number blocks ≡ 0
none_registered number [] all = refl
none_registered number (b ∷ bs) all =
    let other : (b.task == number) ≡ false = let less = all.0 in grind (arith, nat_tests) in
    rw other (none_registered number bs all.1)
