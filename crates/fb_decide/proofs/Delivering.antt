-- What deliveries make of a history, and deliveries after deliveries.
use Rattle.fb_decide.proofs.Words.{◌≡◌, ℕ, zero, suc, ◌+◌, ◌^◌, ◌≤◌, ◌&&◌, ◌||◌, not, if◌then◌else◌, List, [], ◌∷◌, ◌++◌, Bool, true}
use Rattle.fb_decide.proofs.Words.{false, Some, length, filter, map, take, append-nil, append_assoc, refl, ap, ap₂, sym, ◌∙◌, subst, arith}
use Rattle.fb_decide.proofs.Words.{AllByRecursion, list_any, range_with_len, flat_map-append, all_append, all_get, all_weaker, map_at}
use Rattle.fb_decide.proofs.Words.{filter_to, all_any, all_map, IsBlockOn, delivery_row, Shape, Block, Entry, State, is_wanted, wanted_of}
use Rattle.fb_decide.proofs.Words.{How, DeliveryRow, BackRow, Disk, Content, ContentRun, Holding, content_in, runs_of, bad_of, Past, tasks}
use Rattle.fb_decide.proofs.Words.{same_block, bare_state, state, registered, wanted, view, Delivery, with_delivery, delivery_rows}
use Rattle.fb_decide.proofs.Words.{Session, delivery_of, rows_after, Tells, MayDeliver, IsBlockOf, Background, TellsUpToDate, HasDelivered}
use Rattle.fb_decide.proofs.Words.{IsRegistered, AreDistinct, AreDeliverable, IsOneOf, block_in, followed, past_with, held_now}
use Rattle.std.proofs.Common.{slice_get}
use Rattle.std.specs.Prelude.{Result, Ok, Err, IfOk}
use Rattle.fb_units.proofs.Filtered.{all_kept, filter_from}
use Rattle.fb_wanted.specs.declared.block.State.TheVariants.{Delivered}
use Rattle.fb_rows.specs.declared.back.BackRow.TheVariants.{Got as BackGot}
use Rattle.fb_store.specs.Sparse.{Gives}
use Rattle.fb_model.specs.History.{is_suspended}
use Rattle.fb_plan.specs.Ways.{AreOnDisk}
use Rattle.fb_tasks.specs.Telling.{IsUpToDate, entry_of}
use Rattle.fb_tasks.proofs.States.{shown}

-- of the registered blocks, those that are wanted are the history's
wanted_by : (past : Past) (bs : List Block) → wanted_of (map (entry_of past) bs) ≡ filter (λ b. is_wanted (state past b)) bs
unfolding view
wanted_by past [] = refl
wanted_by past (b ∷ bs) = grind (arith, wanted_by past bs)

pub wanted-told : {disk : Shape} {past : Past} {sessions : List Session} {held : List Entry} → Tells disk past sessions held
    → wanted_of held ≡ wanted past
unfolding wanted
wanted-told {past} tells = ap wanted_of tells.entries ∙ wanted_by past (registered past)

-- each of them lies on the disk
pub fits-told : (disk : Disk) (past : Past) (sessions : List Session) (held : List Entry) → Tells disk.map past sessions held
    → AreOnDisk disk held
fits-told disk past sessions held tells = λ i entry at. all_get (λ (e : Entry). IsBlockOn disk.map e.block) held i entry
    (subst (AllByRecursion (λ (e : Entry). IsBlockOn disk.map e.block)) (sym tells.entries)
    (all_map (λ (e : Entry). IsBlockOn disk.map e.block) (entry_of past) (registered past)
    (all_weaker _ (IsBlockOn disk.map) (λ b h. h.on) (registered past) tells.on_disk))) at

pub wanted-registered : (past : Past) (index : ℕ) (block : Block) → slice_get (wanted past) index ≡ Some block → IsRegistered past block
unfolding wanted
wanted-registered past index block at = let found = filter_from (λ b. is_wanted (state past b)) (registered past) index block at in
    (found.0, found.1)

-- the block is none of the delivered ones
abbrev pub none_of : List DeliveryRow → Block → Bool
none_of gots block = not (list_any (λ got. same_block got.block block) gots)

still_wanted : (it held_back : Bool) (bare : State)
    → is_wanted (shown (if it then Delivered else bare) held_back) ≡ (not it && is_wanted (shown bare held_back))
still_wanted it held_back bare = grind arith

wanted_then : (past : Past) (got : DeliveryRow) (block : Block) → is_wanted (state (with_delivery past (delivery_of past got)) block)
    ≡ (not (same_block got.block block) && is_wanted (state past block))
unfolding bare_state
wanted_then past got block = still_wanted (same_block got.block block) (is_suspended past block.task) (bare_state past block)

filter_again : {X : Type 0} (p q r : X → Bool) → ((x : X) → r x ≡ (q x && p x)) → (xs : List X) → filter r xs ≡ filter q (filter p xs)
filter_again p q r same [] = refl
filter_again p q r same (x ∷ xs) = grind (arith, same x, filter_again p q r same xs)

same_registered : (past : Past) (delivery : Delivery) → registered (with_delivery past delivery) ≡ registered past
same_registered past delivery = refl

-- the wanted blocks but for the delivered one
pub wanted-after : (past : Past) (got : DeliveryRow)
    → wanted (with_delivery past (delivery_of past got)) ≡ filter (λ block. not (same_block got.block block)) (wanted past)
unfolding wanted
wanted-after past got =
    ap (filter (λ b. is_wanted (state (with_delivery past (delivery_of past got)) b))) (same_registered past (delivery_of past got))
    ∙ filter_again (λ b. is_wanted (state past b)) (λ b. not (same_block got.block b))
    (λ b. is_wanted (state (with_delivery past (delivery_of past got)) b)) (wanted_then past got) (registered past)

none_more : (a b : Bool) → not (a || b) ≡ (not b && not a)
none_more a b = grind arith

-- and but for all of the delivered ones
pub wanted-with : (past : Past) (gots : List DeliveryRow) → wanted (past_with past gots) ≡ filter (none_of gots) (wanted past)
wanted-with past [] = sym (all_kept (λ _. true) (wanted past) (all_any (λ _. ◌≡◌ {A = Bool} true true) (λ _. refl) (wanted past)))
wanted-with past (got ∷ gots) =
    wanted-with (with_delivery past (delivery_of past got)) gots
    ∙ (ap (filter (none_of gots)) (wanted-after past got)
    ∙ sym (filter_again (λ b. not (same_block got.block b)) (none_of gots) (none_of (got ∷ gots))
    (λ b. none_more (same_block got.block b) (list_any (λ g. same_block g.block b) gots)) (wanted past)))

pub registered-with : (past : Past) (gots : List DeliveryRow) → registered (past_with past gots) ≡ registered past
registered-with past [] = refl
registered-with past (got ∷ gots) =
    registered-with (with_delivery past (delivery_of past got)) gots ∙ same_registered past (delivery_of past got)

-- deliveries one after another
pub past_with-append : (past : Past) (xs ys : List DeliveryRow) → past_with past (xs ++ ys) ≡ past_with (past_with past xs) ys
past_with-append past [] ys = refl
past_with-append past (x ∷ xs) ys = past_with-append (with_delivery past (delivery_of past x)) xs ys

pub followed-append : (past : Past) (xs ys : List DeliveryRow)
    → followed past (xs ++ ys) ≡ followed past xs ++ followed (past_with past xs) ys
followed-append past [] ys = refl
followed-append past (x ∷ xs) ys = ap (λ ds. delivery_of past x ∷ ds) (followed-append (with_delivery past (delivery_of past x)) xs ys)

pub rows-append : (past : Past) (xs ys : List DeliveryRow)
    → delivery_rows (followed past (xs ++ ys)) ≡ delivery_rows (followed past xs) ++ delivery_rows (followed (past_with past xs) ys)
rows-append past xs ys =
    ap delivery_rows (followed-append past xs ys)
    ∙ flat_map-append (λ (delivery : Delivery). BackGot delivery.got ∷ delivery.after) (followed past xs) (followed (past_with past xs) ys)

-- a wanted block may be delivered, with what its sectors hold
pub wanted-on_disk : (disk : Shape) (past : Past) (index : ℕ) (block : Block) (background : Background) → TellsUpToDate disk past background
    → slice_get (wanted past) index ≡ Some block → block.lbn + block.count ≤ 10 ^ 12
wanted-on_disk disk past index block background current at =
    let found = wanted-registered past index block at in
    (all_get (IsBlockOf disk (length (tasks past))) (registered past) found.0 block current.tells.on_disk found.1).within

pub may-deliver : (disk : Shape) (past : Past) (index : ℕ) (got : DeliveryRow) (background : Background) (content_at : ℕ → Content)
    → TellsUpToDate disk past background → slice_get (wanted past) index ≡ Some got.block
    → Gives got.content content_at got.block.lbn got.block.count → MayDeliver disk past background.sessions background.blocks got
may-deliver disk past index got background content_at current at gives = record {
  tells = current.tells;
  up_to_date = current.up_to_date;
  index = index;
  wanted = at;
  content_at = content_at;
  content = gives;
}

-- and is delivered then
pub delivered-one : (disk : Shape) (past : Past) (index : ℕ) (got row : DeliveryRow) (before after : Background) → got ≡ row
    → slice_get (wanted past) index ≡ Some got.block
    → Tells disk (with_delivery past (delivery_of past got)) after.sessions after.blocks
    → IsUpToDate (with_delivery past (delivery_of past got)) → after.rows ≡ before.rows ++ BackGot got ∷ rows_after past got
    → HasDelivered disk past (row ∷ []) before.rows after
delivered-one disk past index got row before after is at tells up_to_date rows =
    subst (λ r. HasDelivered disk past (r ∷ []) before.rows after) is (record {
      current = record { tells = tells; up_to_date = up_to_date };
      rows_after = rows ∙ ap (λ rs. before.rows ++ rs) (sym (append-nil (BackGot got ∷ rows_after past got)));
      registered = (wanted-registered past index got.block at, tt);
    })

abbrev pub made : How → Block → ℕ → ℕ → ℕ → List ContentRun → DeliveryRow
made how block begin end bad content = record { block = block; begin = begin; end = end; how = how; bad = bad; content = content }

pub row-is : (holding : Holding) (how : How) (block : Block) (begin end bad : ℕ) (content : List ContentRun)
    → content ≡ runs_of (map (λ lbn. (lbn, content_in holding lbn)) (range_with_len block.lbn block.count)) → bad ≡ bad_of content
    → made how block begin end bad content ≡ delivery_row (held_now holding) how (record { block = block; begin = begin; end = end })
row-is holding how block begin end bad content is counted =
    ap₂ (made how block begin end) (counted ∙ ap bad_of is) is

pub if_ok_with : {T E : Type 0} (P Q R : T → Type 0) (r : Result T E) → ((x : T) → P x → Q x → R x) → IfOk r P → IfOk r Q → IfOk r R
if_ok_with P Q R (Ok x) f p q = f x p q
if_ok_with P Q R (Err e) f p q = tt

-- rows change nothing of what it tells
pub with_rows : {disk : Shape} {past : Past} {background : Background} (rows : List BackRow) → TellsUpToDate disk past background
    → TellsUpToDate disk past (record { sessions = background.sessions; blocks = background.blocks; rows = rows })
with_rows rows current = record { tells = current.tells; up_to_date = current.up_to_date }

-- nothing was delivered
pub delivered-none : {disk : Shape} {past : Past} {background : Background} → TellsUpToDate disk past background
    → HasDelivered disk past [] background.rows background
delivered-none {background} current = record { current = current; rows_after = sym (append-nil background.rows); registered = tt }

-- first some deliveries, and then others
pub delivered-join : {disk : Shape} {past : Past} {xs ys : List DeliveryRow} {rows : List BackRow} {middle after : Background}
    → HasDelivered disk past xs rows middle → HasDelivered disk (past_with past xs) ys middle.rows after
    → HasDelivered disk past (xs ++ ys) rows after
delivered-join {disk} {past} {xs} {ys} {rows} {middle} {after} first next = record {
  current = subst (λ p. TellsUpToDate disk p after) (sym (past_with-append past xs ys)) next.current;
  rows_after = next.rows_after ∙ (ap (λ rs. rs ++ delivery_rows (followed (past_with past xs) ys)) first.rows_after
      ∙ (append_assoc rows (delivery_rows (followed past xs)) (delivery_rows (followed (past_with past xs) ys))
      ∙ ap (λ rs. rows ++ rs) (sym (rows-append past xs ys))));
  registered = all_append (λ got. IsRegistered past got.block) xs ys first.registered
      (all_weaker (λ got. IsRegistered (past_with past xs) got.block) (λ got. IsRegistered past got.block)
      (λ got h. (h.0, ap (λ bs. slice_get bs h.0) (sym (registered-with past xs)) ∙ h.1)) ys next.registered);
}

not_yet : (gots : List DeliveryRow) (k : ℕ) (got : DeliveryRow) → AreDistinct (map block_in gots) → slice_get gots k ≡ Some got
    → list_any (λ g. same_block g.block got.block) (take k gots) ≡ false
not_yet [] k got distinct at = absurd (grind arith)
not_yet (g ∷ gots) zero got distinct at = refl
not_yet (g ∷ gots) (suc k) got distinct at =
    let other : same_block g.block got.block ≡ false =
    all_get (λ b. same_block g.block b ≡ false) (map block_in gots) k got.block distinct.0 (map_at block_in gots k got at) in
    rw other (not_yet gots k got distinct.1 at)

-- the next of them is still wanted
pub next-wanted : (past : Past) (gots : List DeliveryRow) (k : ℕ) (got : DeliveryRow) → AreDeliverable past gots
    → slice_get gots k ≡ Some got
    → IsOneOf (wanted (past_with past (take k gots))) got.block
next-wanted past gots k got due at =
    let found = all_get (λ g. IsOneOf (wanted past) g.block) gots k got due.each at in
    let still = filter_to (none_of (take k gots)) (wanted past) found.0 got.block found.1 (ap not (not_yet gots k got due.distinct at)) in
    (still.0, ap (λ bs. slice_get bs still.0) (wanted-with past (take k gots)) ∙ still.1)
