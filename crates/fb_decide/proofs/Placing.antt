-- What is delivered of the wanted blocks, in its order: each once, none is lost, and none is added.
use Rattle.fb_decide.proofs.Words.{◌≡◌, ℕ, ◌+◌, ◌<◌, ◌≤◌, ◌==◌, if◌then◌else◌, List, [], ◌∷◌, Bool, true, false, filter, inl, inr, arith}
use Rattle.fb_decide.proofs.Words.{subst, ◌||◌, not, map, refl, ap, sym, ◌∙◌, ◌++◌, Some, length, take, take_all, get_or, AllByRecursion}
use Rattle.fb_decide.proofs.Words.{list_any, fold, cases_Bool, nat_tests, slice_get-get_or, all_filter, all_weaker, map_at, take_at}
use Rattle.fb_decide.proofs.Words.{all_map, all_with, filter_same, itself, Shape, Block, Entry, is_wanted, wanted_of, Past, same_block}
use Rattle.fb_decide.proofs.Words.{registered, state, wanted, view, Session, AreNumbered, Tells, AreDistinct, AreDeliverable, IsOneOf}
use Rattle.fb_decide.proofs.Words.{block_in, past_with, TellsUpToDate, HasDelivered, held_now, How, DeliveryRow, Disk, Holding, placed}
use Rattle.fb_decide.proofs.Words.{in_order, missed, delivery_row, caught_rows, Catch, BackRow, Background}
use Rattle.std.proofs.Common.{slice_get}
use Rattle.std.proofs.Math.Bool.{or-false}
use Rattle.std.proofs.lemmas.List.{length-map}
use Rattle.fb_units.proofs.Alike.{list_any-map}
use Rattle.fb_tasks.proofs.Deliveries.{numbered_from}
use Rattle.fb_rows.specs.declared.gap.Dwell.{Dwell}
use Rattle.fb_model.specs.Content.{ContentsAt}
use Rattle.fb_model.specs.Plans.{catches}
use Rattle.fb_model.specs.Deliveries.{catch_of, caught_of}
use Rattle.fb_model.proofs.Placing.{AnyTwo, all_filtered, all_in_order, two_in_order}
use Rattle.fb_decide.proofs.Delivering.{none_of, wanted-with, next-wanted, delivered-join, past_with-append, wanted-told}
use Rattle.fb_decide.proofs.RegisteredBlocks.{each_in}

-- ---- registered blocks are told apart by task and number

pub either_way : (a b : Block) → same_block a b ≡ false → same_block b a ≡ false
either_way a b h = grind (arith, nat_tests)

abbrev own : ℕ → List Block → List Block
own task bs = filter (λ b. b.task == task) bs

-- a block whose task's further blocks have greater numbers is none of the further blocks
alone : (a : Block) (bs : List Block) → AllByRecursion (λ b. a.index < b.index) (own a.task bs)
    → AllByRecursion (λ b. same_block a b ≡ false) bs
alone a [] h = tt
alone a (b ∷ bs) h = elim (cases_Bool (b.task == a.task)) [
  | inl mine ↦ let k = rw mine at h in ((let less : a.index < b.index = k.0 in grind (arith, nat_tests)), alone a bs k.1)
  | inr other ↦ (grind (arith, nat_tests), alone a bs (rw other at h))
]

-- the blocks of each task are numbered on from some number
abbrev AreNumberedByTask : List Block → Type 0
AreNumberedByTask bs = (task : ℕ) → (n : ℕ) × AreNumbered n (own task bs)

fewer : (b : Block) (bs : List Block) → AreNumberedByTask (b ∷ bs) → AreNumberedByTask bs
fewer b bs h = λ task. elim (cases_Bool (b.task == task)) [
  | inl mine ↦ let k = subst (λ x. (n : ℕ) × AreNumbered n (if x then b ∷ own task bs else own task bs)) mine (h task) in (k.0 + 1, k.1.1)
  | inr other ↦ subst (λ x. (n : ℕ) × AreNumbered n (if x then b ∷ own task bs else own task bs)) other (h task)
]

numbered-distinct : (bs : List Block) → AreNumberedByTask bs → AreDistinct bs
numbered-distinct [] h = tt
numbered-distinct (b ∷ bs) h =
    let k = subst (λ x. (n : ℕ) × AreNumbered n (if x then b ∷ own b.task bs else own b.task bs))
    (let own : (b.task == b.task) ≡ true = grind (arith, nat_tests) in own) (h b.task) in (
      alone b bs (all_weaker (λ c. k.0 + 1 ≤ c.index) (λ c. b.index < c.index) (λ c le. omega (arith, le, k.1.0)) (own b.task bs)
          (numbered_from (k.0 + 1) (own b.task bs) k.1.1)),
      numbered-distinct bs (fewer b bs h),
    )

pub filter-distinct : (p : Block → Bool) (bs : List Block) → AreDistinct bs → AreDistinct (filter p bs)
filter-distinct p [] h = tt
filter-distinct p (b ∷ bs) h = grind (arith, all_filter (λ c. same_block b c ≡ false) p bs h.0, filter-distinct p bs h.1)

pub wanted-distinct : {disk : Shape} {past : Past} {sessions : List Session} {held : List Entry} → Tells disk past sessions held
    → AreDistinct (wanted past)
unfolding wanted view
wanted-distinct {past} tells = filter-distinct (λ b. is_wanted (state past b)) (registered past) (numbered-distinct (registered past)
    (λ task. (0, (tells.placed task).numbered)))

-- ---- what is delivered of the wanted blocks: each once, none is lost, and none is added

-- of catches of different blocks, no two rows are of one block
abbrev AreApart : Catch → Catch → Type 0
AreApart a b = same_block a.block b.block ≡ false

apart_either_way : (a b : Catch) → AreApart a b → AreApart b a
apart_either_way a b h = either_way a.block b.block h

distinct_rows : (row : Catch → DeliveryRow) → ((c : Catch) → (row c).block ≡ c.block) → (found : List Catch)
    → AnyTwo AreApart found → AreDistinct (map block_in (map row found))
distinct_rows row its [] h = tt
distinct_rows row its (c ∷ found) h = (
  all_map (λ b. same_block (row c).block b ≡ false) block_in (map row found)
      (all_map (λ got. same_block (row c).block got.block ≡ false) row found
      (all_weaker (AreApart c) (λ d. same_block (row c).block (row d).block ≡ false) (λ d e. rw (its c, its d) e) found h.0)),
  distinct_rows row its found h.1,
)

apart_by : (f : Block → Catch) → ((b : Block) → (f b).block ≡ b) → (bs : List Block) → AreDistinct bs
    → AnyTwo AreApart (map f bs)
apart_by f own [] h = tt
apart_by f own (b ∷ bs) h = (
  all_map (AreApart (f b)) f bs
      (all_weaker (λ c. same_block b c ≡ false) (λ c. AreApart (f b) (f c)) (λ c e. rw (own b, own c) e) bs h.0),
  apart_by f own bs h.1,
)

-- the deliveries of some of the wanted blocks, in order, are of different wanted blocks
pub due-filtered : (contents : ContentsAt) (how : How) (past : Past) (p : Block → Bool) (f : Block → Catch)
    → ((b : Block) → (f b).block ≡ b) → AreDistinct (wanted past)
    → AreDeliverable past (map (delivery_row contents how) (in_order (map f (filter p (wanted past)))))
due-filtered contents how past p f own distinct =
    let found = map f (filter p (wanted past)) in
    let row = delivery_row contents how in
    record {
      each = all_map (λ got. IsOneOf (wanted past) got.block) row (in_order found) (all_in_order (λ c. IsOneOf (wanted past) c.block) found
          (all_filtered (λ (c : Catch). IsOneOf (wanted past) c.block) (IsOneOf (wanted past)) p f
          (λ b h passes. subst (IsOneOf (wanted past)) (sym (own b)) h) (wanted past) (each_in (wanted past))));
      distinct = distinct_rows row (λ c. refl) (in_order found)
          (two_in_order AreApart apart_either_way found
          (apart_by f own (filter p (wanted past)) (filter-distinct p (wanted past) distinct)));
    }

any-placed : (p : Catch → Bool) (rows : List Catch) (row : Catch)
    → list_any p (placed rows row) ≡ (p row || list_any p rows)
any-placed p [] row = refl
any-placed p (x ∷ xs) row = grind (arith, any-placed p xs row)

or_moved : (a b c : Bool) → ((a || b) || c) ≡ (b || (a || c))
or_moved a b c = grind arith

any-fold : (p : Catch → Bool) (acc rows : List Catch) → list_any p (fold placed acc rows) ≡ (list_any p acc || list_any p rows)
any-fold p acc [] = sym (or-false (list_any p acc))
any-fold p acc (x ∷ xs) =
    any-fold p (placed acc x) xs ∙ (ap (λ b. b || list_any p xs) (any-placed p acc x) ∙ or_moved (p x) (list_any p acc) (list_any p xs))

any_by : (f : Block → Catch) → ((b : Block) → (f b).block ≡ b) → (block : Block) (bs : List Block)
    → list_any (λ c. same_block c.block block) (map f bs) ≡ list_any (λ b. same_block b block) bs
any_by f own block [] = refl
any_by f own block (b ∷ bs) = rw (own b, any_by f own block bs) refl

none_same : (p : Block → Bool) (x : Block) (xs : List Block) → AllByRecursion (λ y. same_block x y ≡ false) xs
    → list_any (λ y. same_block y x) (filter p xs) ≡ false
none_same p x [] h = refl
none_same p x (y ∷ ys) h = grind (arith, either_way x y h.0, none_same p x ys h.1)

passes : (p : Block → Bool) (xs : List Block) → AreDistinct xs → AllByRecursion (λ x. list_any (λ y. same_block y x) (filter p xs) ≡ p x) xs
passes p [] h = tt
passes p (x ∷ xs) h = elim (cases_Bool (p x)) [
  | inl pass ↦ (
    rw pass (ap (λ b. b || list_any (λ y. same_block y x) (filter p xs)) (itself x)),
    all_with (λ z. same_block x z ≡ false)
        (λ z. list_any (λ y. same_block y z) (filter p xs) ≡ p z) (λ z. list_any (λ y. same_block y z) (filter p (x ∷ xs)) ≡ p z)
        (λ z other rest. rw pass (ap (λ b. b || list_any (λ y. same_block y z) (filter p xs)) other ∙ rest)) xs h.0 (passes p xs h.1),
  )
  | inr fail ↦ (
    rw fail (none_same p x xs h.0),
    all_weaker (λ z. list_any (λ y. same_block y z) (filter p xs) ≡ p z) (λ z. list_any (λ y. same_block y z) (filter p (x ∷ xs)) ≡ p z)
        (λ z rest. rw fail rest) xs (passes p xs h.1),
  )
]

pub left-filtered : (contents : ContentsAt) (how : How) (past : Past) (p : Block → Bool) (f : Block → Catch)
    → ((b : Block) → (f b).block ≡ b) → AreDistinct (wanted past)
    → wanted (past_with past (map (delivery_row contents how) (in_order (map f (filter p (wanted past))))))
    ≡ filter (λ b. not (p b)) (wanted past)
left-filtered contents how past p f own distinct =
    let found = map f (filter p (wanted past)) in
    let rows = map (delivery_row contents how) (in_order found) in
    wanted-with past rows
    ∙ filter_same (none_of rows) (λ b. not (p b)) (wanted past)
    (all_weaker (λ b. list_any (λ y. same_block y b) (filter p (wanted past)) ≡ p b) (λ b. none_of rows b ≡ not (p b))
    (λ b e. ap not (list_any-map (λ got. same_block got.block b) (delivery_row contents how) (in_order found)
    ∙ (any-fold (λ c. same_block c.block b) [] found ∙ (any_by f own b (filter p (wanted past)) ∙ e))))
    (wanted past) (passes p (wanted past) distinct))

-- what a dwell catches, and what it misses
pub due-caught : (disk : Disk) (holding : Holding) (how : How) (dwell : Dwell) (past : Past) → AreDistinct (wanted past)
    → AreDeliverable past (caught_rows disk (held_now holding) how dwell (wanted past))
unfolding caught_of
due-caught disk holding how dwell past distinct =
    due-filtered (held_now holding) how past (catches disk dwell) (catch_of disk dwell) (λ b. refl) distinct

pub left-caught : (disk : Disk) (holding : Holding) (how : How) (dwell : Dwell) (past : Past) → AreDistinct (wanted past)
    → wanted (past_with past (caught_rows disk (held_now holding) how dwell (wanted past))) ≡ missed disk dwell (wanted past)
unfolding caught_of
left-caught disk holding how dwell past distinct =
    left-filtered (held_now holding) how past (catches disk dwell) (catch_of disk dwell) (λ b. refl) distinct

-- ---- the catches of a dwell are delivered one after another

-- of deliveries in their order the next one follows the first ones
pub delivered-more : {disk : Shape} {past : Past} {rows : List BackRow} {middle after : Background} (gots : List DeliveryRow) (k : ℕ)
    (got : DeliveryRow) → slice_get gots k ≡ Some got
    → HasDelivered disk past (take k gots) rows middle → HasDelivered disk (past_with past (take k gots)) (got ∷ []) middle.rows after
    → HasDelivered disk past (take (k + 1) gots) rows after
delivered-more {disk} {past} {rows} {after} gots k got at first next =
    subst (λ gs. HasDelivered disk past gs rows after) (sym (take_at gots k got at)) (delivered-join first next)

-- the next of some catches that are due is still wanted
pub row-at : (holding : Holding) (how : How) (cs : List Catch) (k : ℕ) (d : Catch) → k < length cs
    → slice_get (map (delivery_row (held_now holding) how) cs) k ≡ Some (delivery_row (held_now holding) how (get_or cs k d))
row-at holding how cs k d less = map_at (delivery_row (held_now holding) how) cs k (get_or cs k d) (slice_get-get_or cs k d less)

pub next-catch : (holding : Holding) (how : How) (past : Past) (cs : List Catch)
    → AreDeliverable past (map (delivery_row (held_now holding) how) cs)
    → (k : ℕ) (d : Catch) → k < length cs
    → IsOneOf (wanted (past_with past (take k (map (delivery_row (held_now holding) how) cs)))) (get_or cs k d).block
next-catch holding how past cs due k d less =
    let row = delivery_row (held_now holding) how in
    next-wanted past (map row cs) k (row (get_or cs k d)) due (row-at holding how cs k d less)

pub all-taken : (holding : Holding) (how : How) (cs : List Catch) (n : ℕ) → length cs ≤ n
    → take n (map (delivery_row (held_now holding) how) cs) ≡ map (delivery_row (held_now holding) how) cs
all-taken holding how cs n enough =
    let row = delivery_row (held_now holding) how in take_all n (map row cs) (omega (arith, enough, length-map cs row))

-- the catches of a dwell are its deliveries
pub rows-of_catches : (disk : Disk) (holding : Holding) (how : How) (dwell : Dwell) (past : Past) (before : Background)
    → TellsUpToDate disk.map past before → (cs : List Catch) → cs ≡ caught_of disk dwell (wanted_of before.blocks)
    → map (delivery_row (held_now holding) how) cs ≡ caught_rows disk (held_now holding) how dwell (wanted past)
rows-of_catches disk holding how dwell past before current cs all =
    ap (map (delivery_row (held_now holding) how)) (all ∙ ap (caught_of disk dwell) (wanted-told current.tells))

-- what one dwell catches, and then what another one catches of what is left
module _ (disk : Disk) (holding : Holding) (how : How) (early late : Dwell) (past : Past) where
  abbrev first_caught : List DeliveryRow
  first_caught = caught_rows disk (held_now holding) how early (wanted past)

  pub delivered-both : (rows : List BackRow) (middle after : Background)
      → wanted (past_with past first_caught) ≡ missed disk early (wanted past) → HasDelivered disk.map past first_caught rows middle
      → ((later : Past) → TellsUpToDate disk.map later middle
      → HasDelivered disk.map later (caught_rows disk (held_now holding) how late (wanted later)) middle.rows after)
      → HasDelivered disk.map past (first_caught ++ caught_rows disk (held_now holding) how late (missed disk early (wanted past))) rows
      after
  delivered-both rows middle after left first next =
      delivered-join first
      (subst (λ bs. HasDelivered disk.map (past_with past first_caught) (caught_rows disk (held_now holding) how late bs) middle.rows after)
      left (next (past_with past first_caught) first.current))

  pub left-both : wanted (past_with past first_caught) ≡ missed disk early (wanted past)
      → wanted (past_with (past_with past first_caught)
      (caught_rows disk (held_now holding) how late (wanted (past_with past first_caught))))
      ≡ missed disk late (wanted (past_with past first_caught))
      → wanted (past_with past (first_caught ++ caught_rows disk (held_now holding) how late (missed disk early (wanted past))))
      ≡ missed disk late (missed disk early (wanted past))
  left-both left next =
      ap wanted (past_with-append past first_caught (caught_rows disk (held_now holding) how late (missed disk early (wanted past))))
      ∙ (ap (λ bs. wanted (past_with (past_with past first_caught) (caught_rows disk (held_now holding) how late bs))) (sym left)
      ∙ (next ∙ ap (missed disk late) left))
