-- One more row: which blocks are pending after it, and how many sectors are left.
use Rattle.std.proofs.Math.Bool.{or-false}
use Rattle.std.proofs.lemmas.List.Elements.{filter-append}
use Rattle.fb_units.proofs.Changed.{old_or_last}
use Rattle.fb_units.proofs.Comparing.{same_number}
use Rattle.fb_bgwrite.proofs.Words.{◌≢◌, ◌⊎◌, append-nil, all_weaker, none_kept, all_get, ◌≡◌, ℕ, zero, suc, ◌+◌, ◌<◌, ◌≤◌, List}
use Rattle.fb_bgwrite.proofs.Words.{[], ◌∷◌, ◌++◌, Bool, true, false, ◌&&◌, ◌||◌, not, Some, slice_get, map, refl, sym, ap, ap₂}
use Rattle.fb_bgwrite.proofs.Words.{◌∙◌, subst, arith, inl, inr, if◌then◌else◌, ◌==◌, filter, nat_le, AllByRecursion, list_any}
use Rattle.fb_bgwrite.proofs.Words.{cases_Bool, true≢false, nat_tests, list_any-append, sum_by-cons, Block, Entry, Wanted}
use Rattle.fb_bgwrite.proofs.Words.{Delivered, Deliver, after, entry_after, wanted_of, SpillItem, ItemSpill, ItemWrote, SpillRow}
use Rattle.fb_bgwrite.proofs.Words.{WroteRow, PutBlock, is_pending, is_written, pending, sectors, writes, AreOnce, entry_of}
use Rattle.fb_bgwrite.proofs.Words.{some_one}
use Rattle.fb_wanted.specs.declared.block.State.{State}
use Rattle.fb_bgwrite.proofs.{PutBlocks.its_blocks, PutBlocks.AreInOrder, PutBlocks.IsBefore}

wrote_one : (a b : WroteRow) → ItemWrote a ≡ ItemWrote b → a ≡ b
wrote_one a b e = grind arith

-- ---- blocks that are told apart

-- neither by number nor by sector is it the same block
pub record IsOther (a b : Block) : Type 0 where
  pub by_number : (a.task == b.task) && (a.index == b.index) ≡ false
  pub by_lbn : (b.task == a.task) && (b.lbn == a.lbn) ≡ false
  pub turned : (a.task == b.task) && (a.lbn == b.lbn) ≡ false

-- not the same task, or neither the same number nor the same sector
different : (a b : Block) → (a.task ≢ b.task) ⊎ ((a.index ≢ b.index) × (a.lbn ≢ b.lbn)) → IsOther a b
different a b (inl task) = record {
  by_number = grind (arith, nat_tests);
  by_lbn = grind (arith, nat_tests);
  turned = grind (arith, nat_tests);
}
different a b (inr both) =
    let number = both.0 in
    let lbn = both.1 in
    record { by_number = grind (arith, nat_tests); by_lbn = grind (arith, nat_tests); turned = grind (arith, nat_tests) }

pub before_other : (a b : Block) → IsBefore a b → IsOther a b
before_other a b is = different a b (elim is.order [
  | inl less ↦ inl (λ e. omega (arith, less, e))
  | inr same ↦ inr ((λ e. omega (arith, same.1, e)), (λ e. omega (arith, same.2, e)))
])

pub behind_other : (a b : Block) → IsBefore b a → IsOther a b
behind_other a b is = different a b (elim is.order [
  | inl less ↦ inl (λ e. omega (arith, less, e))
  | inr same ↦ inr ((λ e. omega (arith, same.1, e)), (λ e. omega (arith, same.2, e)))
])

module _ (items : List SpillItem) (row : WroteRow) (block : Block) (put_is : row.put ≡ block.task) (lbn_is : row.lbn ≡ block.lbn) where
  abbrev more : List SpillItem
  more = items ++ ItemWrote row ∷ []

  -- the row tells of no other block
  not_told : (other : Block) → IsOther other block → writes other (ItemWrote row) ≡ false
  not_told other is = let off = is.by_lbn in grind (arith, nat_tests)

  pub told : writes block (ItemWrote row) ≡ true
  told = grind (arith, nat_tests)

  tail : (p : SpillItem → Bool) (item : SpillItem) (a : Bool) → p item ≡ false → (a || list_any p (item ∷ [])) ≡ a
  tail p item true off = refl
  tail p item false off = rw off refl

  as_before : (other : Block) → IsOther other block → is_written more other ≡ is_written items other
  as_before other is = list_any-append (writes other) items (ItemWrote row ∷ [])
      ∙ tail (writes other) (ItemWrote row) (is_written items other) (not_told other is)

  tail_on : (p : SpillItem → Bool) (item : SpillItem) (a : Bool) → p item ≡ true → (a || list_any p (item ∷ [])) ≡ true
  tail_on p item true on = refl
  tail_on p item false on = rw on refl

  now_written : is_written more block ≡ true
  now_written =
      list_any-append (writes block) items (ItemWrote row ∷ []) ∙ tail_on (writes block) (ItemWrote row) (is_written items block) told

  -- ---- registered blocks

  neither : (a b : Bool) (state : State) → a && b ≡ false → (if a then (if b then Delivered else state) else state) ≡ state
  neither true true state off = absurd (true≢false off)
  neither true false state off = refl
  neither false b state off = refl

  deliver_other : (put : PutBlock) → IsOther put.block block
      → entry_after block.task (Deliver block.index) (entry_of items put) ≡ entry_of more put
  deliver_other put is =
      let state : State = if is_written items put.block then Delivered else Wanted in
      let kept : (if put.block.task == block.task then (if put.block.index == block.index then Delivered else state) else state) ≡ state =
      neither (put.block.task == block.task) (put.block.index == block.index) state is.by_number in
      ap (λ s. let e : Entry = record { block = put.block; state = s } in e) kept
      ∙ ap (λ b. let e : Entry = record { block = put.block; state = if b then Delivered else Wanted } in e) (sym (as_before put.block is))

  both : (a b : Bool) (state : State) → a ≡ true → b ≡ true → (if a then (if b then Delivered else state) else state) ≡ Delivered
  both a b state on_a on_b = rw (on_a, on_b) refl

  deliver_own : (put : PutBlock) → put.block ≡ block
      → entry_after block.task (Deliver block.index) (entry_of items put) ≡ entry_of more put
  deliver_own put same =
      let state : State = if is_written items put.block then Delivered else Wanted in
      let task : (put.block.task == block.task) ≡ true = ap (λ (b : Block). b.task == block.task) same
      ∙ same_number block.task block.task refl in
      let number : (put.block.index == block.index) ≡ true = ap (λ (b : Block). b.index == block.index) same
      ∙ same_number block.index block.index refl in
      ap (λ s. let e : Entry = record { block = put.block; state = s } in e)
      (both (put.block.task == block.task) (put.block.index == block.index) state task number)
      ∙ ap (λ b. let e : Entry = record { block = put.block; state = if b then Delivered else Wanted } in e)
      (sym (ap (is_written more) same ∙ now_written))

  others_delivered : (puts : List PutBlock) → AllByRecursion (λ (put : PutBlock). IsOther put.block block) puts
      → map (entry_after block.task (Deliver block.index)) (map (entry_of items) puts) ≡ map (entry_of more) puts
  others_delivered [] all = refl
  others_delivered (put ∷ puts) all = ap₂ (λ e es. e ∷ es) (deliver_other put all.0) (others_delivered puts all.1)

  all_behind : (own : PutBlock) (puts : List PutBlock) → own.block ≡ block → AllByRecursion (λ other. IsBefore own.block other.block) puts
      → AllByRecursion (λ (put : PutBlock). IsOther put.block block) puts
  all_behind own [] same all = tt
  all_behind own (put ∷ puts) same all =
      (behind_other put.block block (subst (λ b. IsBefore b put.block) same all.0), all_behind own puts same all.1)

  is_behind : (put : PutBlock) (puts : List PutBlock) (i : ℕ) (own : PutBlock) → slice_get puts i ≡ Some own → own.block ≡ block
      → AllByRecursion (λ other. IsBefore put.block other.block) puts → IsOther put.block block
  is_behind put [] i own at same all = absurd (grind arith)
  is_behind put (p ∷ puts) zero own at same all =
      before_other put.block block (subst (λ b. IsBefore put.block b) (ap (λ (q : PutBlock). q.block) (some_one p own at) ∙ same) all.0)
  is_behind put (p ∷ puts) (suc i) own at same all = is_behind put puts i own at same all.1

  pub delivered : (puts : List PutBlock) (i : ℕ) (own : PutBlock) → AreInOrder puts → slice_get puts i ≡ Some own → own.block ≡ block
      → after block.task (Deliver block.index) (map (entry_of items) puts) ≡ map (entry_of more) puts
  delivered [] i own order at same = absurd (grind arith)
  delivered (put ∷ puts) zero own order at same =
      let its : put.block ≡ block = ap (λ (q : PutBlock). q.block) (some_one put own at) ∙ same in
      ap₂ (λ e es. e ∷ es) (deliver_own put its) (others_delivered puts (all_behind put puts its order.0))
  delivered (put ∷ puts) (suc i) own order at same =
      ap₂ (λ e es. e ∷ es) (deliver_other put (is_behind put puts i own at same order.0)) (delivered puts i own order.1 at same)

  -- ---- sectors that are left

  abbrev left_in : List SpillItem → List PutBlock → ℕ
  left_in rows puts = sectors (filter (λ b. not (is_written rows b)) (its_blocks puts))

  left_other : (put : PutBlock) (puts : List PutBlock) (gone : ℕ) → IsOther put.block block → left_in more puts + gone ≡ left_in items puts
      → left_in more (put ∷ puts) + gone ≡ left_in items (put ∷ puts)
  left_other put puts gone is rest = elim (cases_Bool (is_written items put.block)) [
    | inl yes' ↦
        let now : is_written more put.block ≡ true = as_before put.block is ∙ yes' in
        rw (now, yes') rest
    | inr no' ↦
        let now : is_written more put.block ≡ false = as_before put.block is ∙ no' in
        rw (now, no') (omega (
          arith,
          sum_by-cons (λ (b : Block). b.count) put.block (filter (λ b. not (is_written more b)) (its_blocks puts)),
          sum_by-cons (λ (b : Block). b.count) put.block (filter (λ b. not (is_written items b)) (its_blocks puts)),
          rest,
        ))
  ]

  others_left : (puts : List PutBlock) → AllByRecursion (λ (put : PutBlock). IsOther put.block block) puts
      → left_in more puts + 0 ≡ left_in items puts
  others_left [] all = refl
  others_left (put ∷ puts) all = left_other put puts 0 all.0 (others_left puts all.1)

  pub left_less : (puts : List PutBlock) (i : ℕ) (own : PutBlock) → AreInOrder puts → slice_get puts i ≡ Some own → own.block ≡ block
      → is_written items block ≡ false → left_in more puts + block.count ≡ left_in items puts
  left_less [] i own order at same unwritten = absurd (grind arith)
  left_less (put ∷ puts) zero own order at same unwritten =
      let its : put.block ≡ block = ap (λ (q : PutBlock). q.block) (some_one put own at) ∙ same in
      let rest = others_left puts (all_behind put puts its order.0) in
      let now : is_written more put.block ≡ true = ap (is_written more) its ∙ now_written in
      let before : is_written items put.block ≡ false = ap (is_written items) its ∙ unwritten in
      rw (now, before) (omega (
        arith,
        sum_by-cons (λ (b : Block). b.count) put.block (filter (λ b. not (is_written items b)) (its_blocks puts)),
        rest,
        ap (λ (b : Block). b.count) its,
      ))
  left_less (put ∷ puts) (suc i) own order at same unwritten =
      left_other put puts block.count (is_behind put puts i own at same order.0) (left_less puts i own order.1 at same unwritten)

  -- ---- once

  -- the row is of no block that was written before
  clash : (own : WroteRow) → writes block (ItemWrote own) ≡ false → own.put ≡ row.put → own.lbn ≡ row.lbn → ⊥
  clash own off put lbn =
      let task : own.put ≡ block.task = put ∙ put_is in
      let first : own.lbn ≡ block.lbn = lbn ∙ lbn_is in
      let on : writes block (ItemWrote own) ≡ true = grind (arith, nat_tests) in
      true≢false (sym on ∙ off)

  pub once_more : (rows : List SpillItem) → AllByRecursion (λ item. writes block item ≡ false) rows → AreOnce rows
      → AreOnce (rows ++ ItemWrote row ∷ [])
  once_more rows off once i j one other at_i at_j puts lbns = elim (old_or_last rows (ItemWrote row) (ItemWrote one) i at_i) [
    | inl one_before ↦ elim (old_or_last rows (ItemWrote row) (ItemWrote other) j at_j) [
      | inl other_before ↦ once i j one other one_before.1 other_before.1 puts lbns
      | inr other_last ↦
          let same = wrote_one other row other_last.1 in
          absurd (clash one (all_get _ rows i (ItemWrote one) off one_before.1) (puts ∙ ap (λ (r : WroteRow). r.put) same)
          (lbns ∙ ap (λ (r : WroteRow). r.lbn) same))
    ]
    | inr one_last ↦ elim (old_or_last rows (ItemWrote row) (ItemWrote other) j at_j) [
      | inl other_before ↦
          let same = wrote_one one row one_last.1 in
          absurd (clash other (all_get _ rows j (ItemWrote other) off other_before.1) (sym puts ∙ ap (λ (r : WroteRow). r.put) same)
          (sym lbns ∙ ap (λ (r : WroteRow). r.lbn) same))
      | inr other_last ↦ one_last.0 ∙ sym other_last.0
    ]
  ]

pub none_once : AreOnce []
none_once i j row other at_i at_j puts lbns = absurd (grind arith)

-- a stay writes nothing
pub stay_writes : (items : List SpillItem) (row : SpillRow) (block : Block)
    → is_written (items ++ ItemSpill row ∷ []) block ≡ is_written items block
stay_writes items row block = list_any-append (writes block) items (ItemSpill row ∷ []) ∙ or-false (is_written items block)

pub stay_registered : (items : List SpillItem) (row : SpillRow) (puts : List PutBlock)
    → map (entry_of (items ++ ItemSpill row ∷ [])) puts ≡ map (entry_of items) puts
stay_registered items row [] = refl
stay_registered items row (put ∷ puts) =
    ap₂ (λ e es. e ∷ es) (ap (λ b. let e : Entry = record { block = put.block; state = if b then Delivered else Wanted } in e)
    (stay_writes items row put.block)) (stay_registered items row puts)

pub stay_left : (items : List SpillItem) (row : SpillRow) (puts : List PutBlock)
    → sectors (filter (λ b. not (is_written (items ++ ItemSpill row ∷ []) b)) (its_blocks puts))
    ≡ sectors (filter (λ b. not (is_written items b)) (its_blocks puts))
stay_left items row [] = refl
stay_left items row (put ∷ puts) = elim (cases_Bool (is_written items put.block)) [
  | inl yes' ↦
      let now : is_written (items ++ ItemSpill row ∷ []) put.block ≡ true = stay_writes items row put.block ∙ yes' in
      rw (now, yes') (stay_left items row puts)
  | inr no' ↦
      let now : is_written (items ++ ItemSpill row ∷ []) put.block ≡ false = stay_writes items row put.block ∙ no' in
      rw (now, no') (omega (
        arith,
        sum_by-cons (λ (b : Block). b.count) put.block (filter (λ b. not (is_written (items ++ ItemSpill row ∷ []) b)) (its_blocks puts)),
        sum_by-cons (λ (b : Block). b.count) put.block (filter (λ b. not (is_written items b)) (its_blocks puts)),
        stay_left items row puts,
      ))
]

-- a row of a stay is none of a block
wrote_before : (rows : List SpillItem) (stay : SpillRow) (row : WroteRow) (i : ℕ)
    → slice_get (rows ++ ItemSpill stay ∷ []) i ≡ Some (ItemWrote row) → slice_get rows i ≡ Some (ItemWrote row)
wrote_before rows stay row i is = elim (old_or_last rows (ItemSpill stay) (ItemWrote row) i is) [
  | inl before ↦ before.1
  | inr last ↦ absurd (let stay_is_row = last.1 in grind arith)
]

pub once_stay : (rows : List SpillItem) (stay : SpillRow) → AreOnce rows → AreOnce (rows ++ ItemSpill stay ∷ [])
once_stay rows stay once i j row other at_i at_j =
    once i j row other (wrote_before rows stay row i at_i) (wrote_before rows stay other j at_j)

-- ---- the pending blocks are the registered ones that are wanted

module _ (items : List SpillItem) (now : ℕ) where
  come_pending : (puts : List PutBlock) → AllByRecursion (λ (put : PutBlock). put.instant ≤ now) puts
      → wanted_of (map (entry_of items) puts) ≡ its_blocks (filter (is_pending items now) puts)
  come_pending [] come = refl
  come_pending (put ∷ puts) come =
      let in_time : nat_le put.instant now ≡ true = let le = come.0 in grind (arith, nat_tests) in
      elim (cases_Bool (is_written items put.block)) [
        | inl yes' ↦ rw (yes', in_time) (come_pending puts come.1)
        | inr no' ↦ rw (no', in_time) (ap (λ bs. put.block ∷ bs) (come_pending puts come.1))
      ]

  none_pending : (puts : List PutBlock) → AllByRecursion (λ (put : PutBlock). now < put.instant) puts
      → filter (is_pending items now) puts ≡ []
  none_pending puts later = none_kept (is_pending items now) puts (all_weaker (λ (put : PutBlock). now < put.instant)
      (λ put. is_pending items now put ≡ false) (λ put less. grind (arith, nat_tests)) puts later)

  pub pending_is : (all first rest : List PutBlock) → all ≡ first ++ rest → AllByRecursion (λ (put : PutBlock). put.instant ≤ now) first
      → AllByRecursion (λ (put : PutBlock). now < put.instant) rest
      → wanted_of (map (entry_of items) first) ≡ pending all items now
  unfolding pending
  pending_is all first rest split come later =
      come_pending first come
      ∙ ap its_blocks (sym (append-nil (filter (is_pending items now) first)) ∙ ap (λ xs. filter (is_pending items now) first ++ xs)
      (sym (none_pending rest later)) ∙ sym (filter-append (is_pending items now) first rest)
      ∙ ap (filter (is_pending items now)) (sym split))
