-- What a stay catches are pending blocks, each once.
use Rattle.fb_bgwrite.proofs.Words.{◌⊎◌, one_more, all_get, Bor, ◌≡◌, ℕ, zero, suc, ◌+◌, ◌≤◌, List, [], ◌∷◌, ◌++◌, Bool, false}
use Rattle.fb_bgwrite.proofs.Words.{◌||◌, Some, slice_get, take, map, length, refl, sym, ap, ◌∙◌, subst, arith, inl, inr}
use Rattle.fb_bgwrite.proofs.Words.{append_assoc, ◌==◌, ◌&&◌, filter, AllByRecursion, list_any, cases_Bool, nat_tests}
use Rattle.fb_bgwrite.proofs.Words.{map-append, list_any-append, places, Disk, all_weaker, wanted_of, Dwell, catches, Catch}
use Rattle.fb_bgwrite.proofs.Words.{catch_of, caught_of, begin-from-le, SpillItem, ItemSpill, ItemWrote}
use Rattle.fb_bgwrite.proofs.Words.{SpillRow, Put, Spilling, PutBlock, is_written, writes, entry_of, first_blocks, ArePutsOn}
use Rattle.fb_bgwrite.proofs.Words.{HasKept, IsSpilling, IsToWrite, wrote_row, all_of, none_any}
use Rattle.fb_model.proofs.Placing.{AnyTwo, all_in_order, two_in_order}
use Rattle.fb_bgwrite.proofs.{Admitting.first_come, Admitting.first_in_order, PutBlocks.AreInOrder}
use Rattle.fb_bgwrite.proofs.{PutBlocks.IsBefore, Writing.before_other}

-- the catches are of different blocks
abbrev pub Differ : Catch → Catch → Type 0
Differ a b = (a.block.task == b.block.task) && (a.block.lbn == b.block.lbn) ≡ false

differ_turned : (a b : Catch) → Differ a b → Differ b a
differ_turned a b h = grind (arith, nat_tests)

abbrev pub AreDifferent : List Catch → Type 0
AreDifferent found = AnyTwo Differ found

-- ---- each is of a block that is pending

-- a catch of one of the first blocks, not written so far, whose passage begins once its put's instant has come
pub record IsCaught (disk : Disk) (puts : List Put) (n : ℕ) (items : List SpillItem) (catch : Catch) : Type 0 where
  pub index : ℕ
  pub put : PutBlock
  pub stands : slice_get (first_blocks disk puts n) index ≡ Some put
  pub block : catch.block ≡ put.block
  pub unwritten : is_written items put.block ≡ false
  pub after : put.instant ≤ catch.begin

module _ (disk : Disk) (puts : List Put) (n : ℕ) (items : List SpillItem) (dwell : Dwell) where
  abbrev found : PutBlock → Catch
  found put = catch_of disk dwell put.block

  -- the catches of the wanted blocks among these
  abbrev of_blocks : List PutBlock → List Catch
  of_blocks blocks = map (catch_of disk dwell) (filter (catches disk dwell) (wanted_of (map (entry_of items) blocks)))

  IsAt : PutBlock → Type 0
  IsAt put = (i : ℕ) × (slice_get (first_blocks disk puts n) i ≡ Some put)

  -- one more block is caught, or adds nothing
  of_more : (put : PutBlock) (blocks : List PutBlock)
      → (of_blocks (put ∷ blocks) ≡ of_blocks blocks)
      ⊎ ((is_written items put.block ≡ false) × (of_blocks (put ∷ blocks) ≡ found put ∷ of_blocks blocks))
  of_more put blocks = elim (cases_Bool (is_written items put.block)) [
    | inl written ↦ inl (rw written refl)
    | inr unwritten ↦ elim (cases_Bool (catches disk dwell put.block)) [
      | inl caught ↦ inr (unwritten, rw (unwritten, caught) refl)
      | inr missed ↦ inl (rw (unwritten, missed) refl)
    ]
  ]

  each_caught : (blocks : List PutBlock)
      → AllByRecursion IsAt blocks → AllByRecursion (λ (put : PutBlock). put.instant ≤ dwell.begin) blocks
      → AllByRecursion (IsCaught disk puts n items) (of_blocks blocks)
  unfolding IsAt
  each_caught [] at come = tt
  each_caught (put ∷ blocks) at come = elim (of_more put blocks) [
    | inl same ↦ subst (AllByRecursion (IsCaught disk puts n items)) (sym same) (each_caught blocks at.1 come.1)
    | inr more ↦ subst (AllByRecursion (IsCaught disk puts n items)) (sym more.1) (
      record {
        index = at.0.0;
        put = put;
        stands = at.0.1;
        block = refl;
        unwritten = more.0;
        after =
            omega (arith, come.0, begin-from-le disk.map put.block dwell.begin);
      },
      each_caught blocks at.1 come.1,
    )
  ]

  all_behind : (own : PutBlock) (blocks : List PutBlock) → AllByRecursion (λ other. IsBefore own.block other.block) blocks
      → AllByRecursion (Differ (found own)) (of_blocks blocks)
  all_behind own [] all = tt
  all_behind own (put ∷ blocks) all = elim (of_more put blocks) [
    | inl same ↦ subst (AllByRecursion (Differ (found own))) (sym same) (all_behind own blocks all.1)
    | inr more ↦ subst (AllByRecursion (Differ (found own))) (sym more.1) (
      (before_other own.block put.block all.0).turned,
      all_behind own
          blocks all.1,
    )
  ]

  all_different : (blocks : List PutBlock) → AreInOrder blocks → AreDifferent (of_blocks blocks)
  all_different [] order = tt
  all_different (put ∷ blocks) order = elim (of_more put blocks) [
    | inl same ↦ subst AreDifferent (sym same) (all_different blocks order.1)
    | inr more ↦ subst AreDifferent (sym more.1) (all_behind put blocks order.0, all_different blocks order.1)
  ]

  pub caught_are : AllByRecursion (λ (put : PutBlock). put.instant ≤ dwell.begin) (first_blocks disk puts n)
      → AllByRecursion (IsCaught disk puts n items) (caught_of disk dwell (wanted_of (map (entry_of items) (first_blocks disk puts n))))
  unfolding caught_of IsAt
  caught_are come = all_in_order (IsCaught disk puts n items) (of_blocks (first_blocks disk puts n))
      (each_caught (first_blocks disk puts n) (all_of IsAt (first_blocks disk puts n) (λ k put at. (k, at))) come)

  pub caught_differ : AreInOrder (first_blocks disk puts n)
      → AreDifferent (caught_of disk dwell (wanted_of (map (entry_of items) (first_blocks disk puts n))))
  unfolding caught_of
  caught_differ order = two_in_order Differ differ_turned (of_blocks (first_blocks disk puts n))
      (all_different (first_blocks disk puts n) order)

-- ---- one after another

abbrev pub wrote_rows : List Catch → List SpillItem
wrote_rows cs = map (λ catch. ItemWrote (wrote_row catch)) cs

-- one row more
pub wrote_more : (old : List SpillItem) (first : SpillItem) (cs : List Catch) (i : ℕ) (catch : Catch) (before after : List SpillItem)
    → slice_get cs i ≡ Some catch → before ≡ old ++ first ∷ wrote_rows (take i cs)
    → after ≡ before ++ ItemWrote (wrote_row catch) ∷ [] → after ≡ old ++ first ∷ wrote_rows (take (i + 1) cs)
wrote_more old first cs i catch before after at was is =
    let row = ItemWrote (wrote_row catch) in
    is ∙ (ap (λ items. items ++ row ∷ []) was ∙ (append_assoc old (first ∷ wrote_rows (take i cs)) (row ∷ [])
    ∙ ap (λ items. old ++ first ∷ items)
    (sym (map-append (λ c. ItemWrote (wrote_row c)) (take i cs) (catch ∷ [])) ∙ ap wrote_rows (sym (one_more cs i catch at)))))

-- the rows of the catches before one don't tell of its block
earlier_told : (cs : List Catch) (i : ℕ) (catch : Catch) → AreDifferent cs → slice_get cs i ≡ Some catch
    → AllByRecursion (λ item. writes catch.block item ≡ false) (wrote_rows (take i cs))
earlier_told [] i catch apart at = absurd (grind arith)
earlier_told (c ∷ cs) zero catch apart at = tt
earlier_told (c ∷ cs) (suc i) catch apart at = (all_get (Differ c) cs i catch apart.0 at, earlier_told cs i catch apart.1 at)

neither : (a b : Bool) → a ≡ false → b ≡ false → (a || b) ≡ false
neither a b off_a off_b = rw (off_a, off_b) refl

not_told : (items : List SpillItem) (row : SpillRow) (cs : List Catch) (i : ℕ) (catch : Catch) → AreDifferent cs
    → slice_get cs i ≡ Some catch → is_written items catch.block ≡ false
    → is_written (items ++ ItemSpill row ∷ wrote_rows (take i cs)) catch.block ≡ false
not_told items row cs i catch apart at unwritten =
    let later : list_any (writes catch.block) (ItemSpill row ∷ wrote_rows (take i cs)) ≡ false =
    none_any (writes catch.block) (ItemSpill row ∷ wrote_rows (take i cs)) (refl, earlier_told cs i catch apart at) in
    list_any-append (writes catch.block) items (ItemSpill row ∷ wrote_rows (take i cs))
    ∙ neither (is_written items catch.block) (list_any (writes catch.block) (ItemSpill row ∷ wrote_rows (take i cs))) unwritten later

-- the next catch is of a block that is still to write
pub to_write : (old new : Spilling) (dwell : Dwell) (row : SpillRow) (i : ℕ) (catch : Catch) → IsSpilling old
    → ArePutsOn (length (places old.disk.now.map)) old.puts.now → old.instant ≤ dwell.begin
    → HasKept old new → new.admitted ≡ old.admitted → (let cs = caught_of old.disk.now dwell (wanted_of old.pending) in
    slice_get cs i ≡ Some catch → new.items ≡ old.items ++ ItemSpill row ∷ wrote_rows (take i cs) → IsToWrite new catch)
to_write old new dwell row i catch is are begin kept admitted at items =
    let disk = old.disk.now in
    let puts = old.puts.now in
    let n = old.admitted in
    let cs = caught_of disk dwell (wanted_of (map (entry_of old.items) (first_blocks disk puts n))) in
    let here : slice_get cs i ≡ Some catch = ap (λ es. slice_get (caught_of disk dwell (wanted_of es)) i) (sym is.registered) ∙ at in
    let come = all_weaker (λ (p : PutBlock). p.instant ≤ old.instant) (λ (p : PutBlock). p.instant ≤ dwell.begin)
    (λ p le. omega (arith, le, begin)) (first_blocks disk puts n) (first_come old is are) in
    let its = all_get (IsCaught disk puts n old.items) cs i catch (caught_are disk puts n old.items dwell come) here in
    let apart = caught_differ disk puts n old.items dwell (first_in_order disk puts n are is.first) in
    let rows : new.items ≡ old.items ++ ItemSpill row ∷ wrote_rows (take i cs) = items
    ∙ ap (λ es. old.items ++ ItemSpill row ∷ wrote_rows (take i (caught_of disk dwell (wanted_of es)))) is.registered in
    let unwritten = not_told old.items row cs i catch apart here (ap (is_written old.items) its.block ∙ its.unwritten) in
    record {
      index = its.index;
      put = its.put;
      stands = ap (λ (d : Bor Disk). slice_get (first_blocks d.now new.puts.now new.admitted) its.index) kept.disk
          ∙ ap (λ (p : Bor (List Put)). slice_get (first_blocks disk p.now new.admitted) its.index) kept.puts
          ∙ ap (λ m. slice_get (first_blocks disk puts m) its.index) admitted ∙ its.stands;
      block = its.block;
      unwritten = ap (λ xs. is_written xs its.put.block) rows
          ∙ ap (is_written (old.items ++ ItemSpill row ∷ wrote_rows (take i cs))) (sym its.block) ∙ unwritten;
      after = its.after;
    }
