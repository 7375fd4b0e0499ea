-- What the reserve holds: no foreground write concerns it, and the rows that concern a sector are of one put.
use Rattle.fb_units.proofs.Among.{among-right}
use Rattle.fb_bgwrite.proofs.Words.{none_kept, all_get, ◌≡◌, ℕ, zero, suc, ◌+◌, ◌^◌, ◌<◌, List, [], ◌∷◌, Bool, true, false}
use Rattle.fb_bgwrite.proofs.Words.{Option, Some, None, map, length, slice_get, refl, sym, ap, ◌∙◌, subst, arith, inl, inr, ◌==◌}
use Rattle.fb_bgwrite.proofs.Words.{filter, nat_lt, AllByRecursion, flat_map, cases_Bool, cases_lt, and_parts, nat_tests, places}
use Rattle.fb_bgwrite.proofs.Words.{Disk, all_weaker, Block, ForeRow, Run, all_append, SpillItem, ItemSpill, ItemWrote, WroteRow}
use Rattle.fb_bgwrite.proofs.Words.{Put, Puts, SectorRange, request_range, PutBlock, put_blocks, writes, block_range, share}
use Rattle.fb_bgwrite.proofs.Words.{ArePuts, fore_ranges, IsInTime, IsOfPut, accepted, some_one}
use Rattle.fb_store.specs.declared.content.Content.TheVariants.{Filled}
use Rattle.fb_store.specs.Writes.{unwritten}
use Rattle.fb_bgwrite.specs.Held.{Fill, fills, fore_fills, held, held_by, is_in, is_told, later, latest, put_fills, wrote_range, HoldsPuts}
use Rattle.fb_bgwrite.proofs.{PutBlocks.puts_in_order, PutBlocks.AreInOrder, PutBlocks.IsBefore, Totals.in_no_other}
use Rattle.fb_bgwrite.proofs.{Totals.puts_on}

-- ---- the latest of fills

later_is : (P : Fill → Type 0) (first : Fill) (second : Option Fill) → P first → ((f : Fill) → second ≡ Some f → P f)
    → P (later first second)
later_is P first None one others = one
later_is P first (Some second) one others = elim (cases_Bool (nat_lt second.instant first.instant)) [
  | inl earlier ↦ rw earlier one
  | inr not' ↦ rw not' (others second refl)
]

latest_is : (P : Fill → Type 0) (fs : List Fill) → AllByRecursion P fs → (f : Fill) → latest fs ≡ Some f → P f
latest_is P [] all f at = absurd (grind arith)
latest_is P (x ∷ xs) all f at = subst P (some_one (later x (latest xs)) f at) (later_is P x (latest xs) all.0 (latest_is P xs all.1))

all_filtered : (P : Fill → Type 0) (p : Fill → Bool) (fs : List Fill) → AllByRecursion (λ f. p f ≡ true → P f) fs
    → AllByRecursion P (filter p fs)
all_filtered P p [] all = tt
all_filtered P p (f ∷ fs) all = elim (cases_Bool (p f)) [
  | inl here ↦ rw here (all.0 here, all_filtered P p fs all.1)
  | inr off ↦ rw off (all_filtered P p fs all.1)
]

some_filtered : (p : Fill → Bool) (fs : List Fill) (i : ℕ) (f : Fill) → slice_get fs i ≡ Some f → p f ≡ true
    → (g : Fill) × (gs : List Fill) × (filter p fs ≡ g ∷ gs)
some_filtered p [] i f at is = absurd (grind arith)
some_filtered p (x ∷ xs) zero f at is = (x, filter p xs, let here : p x ≡ true = ap p (some_one x f at) ∙ is in rw here refl)
some_filtered p (x ∷ xs) (suc i) f at is = elim (cases_Bool (p x)) [
  | inl here ↦ (x, filter p xs, rw here refl)
  | inr off ↦
      let rest = some_filtered p xs i f at is in
      (rest.0, rest.1, rw off rest.2)
]

-- all fills that concern a sector are of one writer, and one does
held_is : (latent : List ℕ) (fs : List Fill) (lbn writer i : ℕ) (f : Fill) → slice_get fs i ≡ Some f → is_in f.range lbn ≡ true
    → AllByRecursion (λ g. is_in g.range lbn ≡ true → g.writer ≡ writer) fs → held latent fs lbn ≡ Filled writer
held_is latent fs lbn writer i f at is all =
    let p = λ (g : Fill). is_in g.range lbn in
    let some = some_filtered p fs i f at is in
    let first = later some.0 (latest some.1) in
    let here : latest (filter p fs) ≡ Some first = ap latest some.2 in
    let own : first.writer ≡ writer =
    latest_is (λ g. g.writer ≡ writer) (filter p fs) (all_filtered (λ g. g.writer ≡ writer) p fs all) first here in
    ap (λ o. held_by o (unwritten latent lbn)) here ∙ ap Filled own

held_before : (latent : List ℕ) (fs : List Fill) (lbn : ℕ) → AllByRecursion (λ g. is_in g.range lbn ≡ false) fs
    → held latent fs lbn ≡ unwritten latent lbn
held_before latent fs lbn all = ap (λ gs. held_by (latest gs) (unwritten latent lbn)) (none_kept (λ g. is_in g.range lbn) fs all)

-- ---- the foreground

none_of_fore : (reserve : SectorRange) (lbn : ℕ) → is_in reserve lbn ≡ true → (rows : List ForeRow)
    → AllByRecursion (λ range. share reserve range ≡ false) (map (λ (row : ForeRow). request_range row.request) rows)
    → AllByRecursion (λ g. is_in g.range lbn ≡ false) (flat_map fore_fills rows)
none_of_fore reserve lbn inside [] apart = tt
none_of_fore reserve lbn inside (row ∷ rows) apart =
    let rest = none_of_fore reserve lbn inside rows apart.1 in
    let off : is_in (request_range row.request) lbn ≡ false = in_no_other reserve (request_range row.request) lbn inside apart.0 in
    elim (cases_Bool row.request.write) [
      | inl write ↦ rw write (off, rest)
      | inr read ↦ rw read rest
    ]

-- ---- the puts

pair : (blocks : List PutBlock) → AreInOrder blocks → (i j : ℕ) (a b : PutBlock) → slice_get blocks i ≡ Some a → slice_get blocks j ≡ Some b
    → i < j → IsBefore a.block b.block
pair [] order i j a b at_i at_j less = absurd (grind arith)
pair (x ∷ xs) order zero zero a b at_i at_j less = absurd (omega (arith, less))
pair (x ∷ xs) order zero (suc j) a b at_i at_j less = subst (λ (y : PutBlock). IsBefore y.block b.block) (some_one x a at_i)
    (all_get (λ (other : PutBlock). IsBefore x.block other.block) xs j b order.0 at_j)
pair (x ∷ xs) order (suc i) zero a b at_i at_j less = absurd (omega (arith, less))
pair (x ∷ xs) order (suc i) (suc j) a b at_i at_j less = pair xs order.1 i j a b at_i at_j (omega (arith, less))

-- the row is of this block
record IsRowOf (row : WroteRow) (block : Block) : Type 0 where
  put : row.put ≡ block.task
  range : wrote_range row ≡ block_range block

row_of : (row : WroteRow) (block : Block) → writes block (ItemWrote row) ≡ true → row.count ≡ block.count → IsRowOf row block
row_of row block is count =
    let both = and_parts (row.put == block.task) (row.lbn == block.lbn) is in
    let put = both.0 in
    let lbn = both.1 in
    let same : row.lbn ≡ block.lbn = grind (arith, nat_tests) in
    record {
      put = grind (arith, nat_tests);
      range = ap (λ n. let range : SectorRange = record { first = n; count = row.count } in range) same
          ∙ ap (λ n. let range : SectorRange = record { first = block.lbn; count = n } in range) count;
    }

one_put : (disk : Disk) (puts : List Put) → AreInOrder (put_blocks disk.map puts) → (a b : WroteRow) → IsOfPut disk puts a
    → IsOfPut disk puts b → (lbn : ℕ) → is_in (wrote_range a) lbn ≡ true → is_in (wrote_range b) lbn ≡ true → b.put ≡ a.put
one_put disk puts order a b of_a of_b lbn in_a in_b =
    let blocks = put_blocks disk.map puts in
    let row_a = row_of a of_a.put.block of_a.writes of_a.count in
    let row_b = row_of b of_b.put.block of_b.writes of_b.count in
    let on_a : is_in (block_range of_a.put.block) lbn ≡ true = ap (λ r. is_in r lbn) (sym row_a.range) ∙ in_a in
    let on_b : is_in (block_range of_b.put.block) lbn ≡ true = ap (λ r. is_in r lbn) (sym row_b.range) ∙ in_b in
    elim (cases_lt of_a.among.0 of_b.among.0) [
      | inl less ↦
          let before = pair blocks order of_a.among.0 of_b.among.0 of_a.put of_b.put of_a.among.1 of_b.among.1 less in
          let off : is_in (block_range of_b.put.block) lbn ≡ false =
          in_no_other (block_range of_a.put.block) (block_range of_b.put.block) lbn on_a before.apart in
          absurd (grind arith)
      | inr up ↦ elim (cases_lt of_b.among.0 of_a.among.0) [
        | inl less ↦
            let before = pair blocks order of_b.among.0 of_a.among.0 of_b.put of_a.put of_b.among.1 of_a.among.1 less in
            let off : is_in (block_range of_a.put.block) lbn ≡ false =
            in_no_other (block_range of_b.put.block) (block_range of_a.put.block) lbn on_b before.apart in
            absurd (grind arith)
        | inr down ↦
            let same : of_b.among.0 ≡ of_a.among.0 = omega (arith, up, down) in
            let one : of_b.put ≡ of_a.put = some_one of_b.put of_a.put (sym of_b.among.1 ∙ ap (slice_get blocks) same ∙ of_a.among.1) in
            row_b.put ∙ ap (λ (p : PutBlock). p.block.task) one ∙ sym row_a.put
      ]
    ]

of_puts : (disk : Disk) (puts : List Put) → AreInOrder (put_blocks disk.map puts) → (row : WroteRow) → IsOfPut disk puts row → (lbn : ℕ)
    → is_in (wrote_range row) lbn ≡ true → (items : List SpillItem) → AllByRecursion (IsInTime disk puts) items
    → AllByRecursion (λ (g : Fill). is_in g.range lbn ≡ true → g.writer ≡ 2 ^ 32 + row.put) (flat_map put_fills items)
of_puts disk puts order row is lbn inside [] all = tt
of_puts disk puts order row is lbn inside (ItemSpill stay ∷ items) all = of_puts disk puts order row is lbn inside items all.1
of_puts disk puts order row is lbn inside (ItemWrote other ∷ items) all = (
  λ there. ap (λ n. 2 ^ 32 + n) (one_put disk puts order row other is all.0 lbn inside there),
  of_puts disk puts order row is lbn inside items all.1,
)

none_told : (lbn : ℕ) (items : List SpillItem) → AllByRecursion (λ item. is_told lbn item ≡ false) items
    → AllByRecursion (λ (g : Fill). is_in g.range lbn ≡ false) (flat_map put_fills items)
none_told lbn [] all = tt
none_told lbn (ItemSpill stay ∷ items) all = none_told lbn items all.1
none_told lbn (ItemWrote row ∷ items) all = (all.0, none_told lbn items all.1)

-- where the row's fill stands
told_fill : (items : List SpillItem) (i : ℕ) (row : WroteRow)
    → slice_get items i ≡ Some (ItemWrote row) → (j : ℕ) × (slice_get (flat_map put_fills items) j
    ≡ Some (let fill : Fill = record { instant = row.end; range = wrote_range row; writer = 2 ^ 32 + row.put } in fill))
told_fill [] i row at = absurd (grind arith)
told_fill (item ∷ items) zero row at =
    let same : item ≡ ItemWrote row = some_one item (ItemWrote row) at in
    (0, ap (λ x. slice_get (flat_map put_fills (x ∷ items)) 0) same)
told_fill (item ∷ items) (suc i) row at = among-right (put_fills item) (flat_map put_fills items) _ (told_fill items i row at)

pub holds : (disk : Disk) (run : Run) (puts : Puts) (items : List SpillItem) → ArePuts (length (places disk.map)) (accepted puts)
    → AllByRecursion (λ range. share (accepted puts).reserve range ≡ false) (fore_ranges run)
    → AllByRecursion (IsInTime disk puts.puts.items) items → HoldsPuts run (accepted puts).reserve items
holds disk run puts items are apart in_time =
    let on = puts_on (length (places disk.map)) (accepted puts) are in
    let reserve = (accepted puts).reserve in
    let order = puts_in_order disk 1 puts.puts.items on.on_disk on.apart in
    record {
      written = λ latent lbn i row inside at told.
          let none = none_of_fore reserve lbn inside run.fore apart in
          let Own : Fill → Type 0 = λ g. is_in g.range lbn ≡ true → g.writer ≡ 2 ^ 32 + row.put in
          let others = all_weaker (λ (g : Fill). is_in g.range lbn ≡ false) Own (λ g off there. absurd (grind arith)) (flat_map fore_fills
          run.fore) none in
          let is = all_get (IsInTime disk puts.puts.items) items i (ItemWrote row) in_time at in
          let all = all_append Own (flat_map fore_fills run.fore) (flat_map put_fills items) others (of_puts disk puts.puts.items order row
          is lbn told items in_time) in
          let stands = told_fill items i row at in
          let fill : Fill = record { instant = row.end; range = wrote_range row; writer = 2 ^ 32 + row.put } in
          let among = among-right (flat_map fore_fills run.fore) (flat_map put_fills items) fill stands in
          held_is latent (fills run items) lbn (2 ^ 32 + row.put) among.0 fill among.1 told all;
      others = λ latent lbn inside none.
          held_before latent (fills run items) lbn
          (all_append (λ (g : Fill). is_in g.range lbn ≡ false) (flat_map fore_fills run.fore) (flat_map put_fills items)
          (none_of_fore reserve lbn inside run.fore apart) (none_told lbn items none));
    }
