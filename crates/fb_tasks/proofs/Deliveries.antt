-- A block has been delivered, and its session stands as its task does.
use Rattle.fb_store.proofs.Taken.{held_all}
use Rattle.fb_tasks.proofs.Words.{◌≡◌, ℕ, zero, suc, ◌+◌, ◌<◌, ◌≤◌, ◌==◌, if◌then◌else◌, List, [], ◌∷◌, ◌++◌, true, false, Some, None}
use Rattle.fb_tasks.proofs.Words.{Option, inl, inr, ◌⊎◌, map, slice_get, refl, ap, sym, ◌∙◌, arith, subst, not, append-nil}
use Rattle.fb_tasks.proofs.Words.{AllByRecursion, list_any, flat_map, range_with_len, list_all, cases_Bool, and_parts, nat_tests, Content}
use Rattle.fb_tasks.proofs.Words.{Gives, after_take, held_in, sectors_of, is_within, Block, Deliver, Entry, Wanted, Delivered, after}
use Rattle.fb_tasks.proofs.Words.{is_delivered, is_wanted, DeliveryRow, Past, delivered, registered, wanted, state, Choice, TaskView, view}
use Rattle.fb_tasks.proofs.Words.{state_in, delivered_view, is_cleaned, is_over, delivered-silent, delivered-view, same_number, entry_of}
use Rattle.fb_tasks.proofs.Words.{HoldsBlock, AreNumbered, Ascend, Stands, Cleans, IsUntouched, IsPlaced, HoldsBlocks, HoldsChoice}
use Rattle.fb_tasks.proofs.Words.{choice_in, CleansBy, same_Some, all_any, all_get, all_weaker, all_with, eqb-true, other_number}
use Rattle.fb_tasks.proofs.Words.{list_all_each, none_of_any, all_right, all_flat, filter_from, filter_to, all_both, none-some, Shape}
use Rattle.fb_tasks.proofs.Words.{is_backup, held_at, Session, HasTaken, is_unsealed, HoldsImage, is_clean}
use Rattle.fb_tasks.proofs.{Frames.changed-entries, Sealed.held_same, Sealed.within, Sealed.before_it, Sealed.behind_it}
use Rattle.fb_tasks.proofs.{Sealed.ascend_from}
use Rattle.fb_clean.specs.Segments as clean

get_append : {X : Type 0} (xs ys : List X) (i : ℕ) (x : X) → slice_get (xs ++ ys) i ≡ Some x
    → (slice_get xs i ≡ Some x) ⊎ ((j : ℕ) × (slice_get ys j ≡ Some x))
get_append [] ys i x h = inr (i, h)
get_append (y ∷ xs) ys zero x h = inl h
get_append (y ∷ xs) ys (suc i) x h = get_append xs ys i x h

-- blocks are told apart by their numbers
pub numbered_from : (n : ℕ) (bs : List Block) → AreNumbered n bs → AllByRecursion (λ b. n ≤ b.index) bs
numbered_from n [] h = tt
numbered_from n (b ∷ bs) h = (
  omega (arith, h.0),
  all_weaker (λ c. n + 1 ≤ c.index) (λ c. n ≤ c.index) (λ c le. omega (arith, le)) bs (numbered_from (n + 1) bs h.1),
)

pub only_one : (n : ℕ) (bs : List Block) (i : ℕ) (x : Block) → AreNumbered n bs → slice_get bs i ≡ Some x
    → AllByRecursion (λ b. b.index ≡ x.index → b ≡ x) bs
only_one n [] i x h at = tt
only_one n (b ∷ bs) zero x h at =
    let e = same_Some b x at in (
      (λ same. e),
      all_weaker (λ c. n + 1 ≤ c.index) (λ c. c.index ≡ x.index → c ≡ x)
          (λ c le same. absurd (omega (arith, le, same, h.0, ap (λ (z : Block). z.index) e))) bs (numbered_from (n + 1) bs h.1),
    )
only_one n (b ∷ bs) (suc i) x h at = (
  (λ same. absurd (omega (arith, same, h.0, all_get (λ c. n + 1 ≤ c.index) bs i x (numbered_from (n + 1) bs h.1) at))),
  only_one (n + 1) bs i x h.1 at,
)

-- and lie apart
abbrev pub AreApart : Block → Block → Type 0
AreApart a b = (a.lbn + a.count ≤ b.lbn) ⊎ (b.lbn + b.count ≤ a.lbn)

apart : (low : ℕ) (bs : List Block) (i : ℕ) (x : Block) → Ascend low bs → slice_get bs i ≡ Some x
    → AllByRecursion (λ b. (b ≡ x) ⊎ AreApart b x) bs
apart low [] i x h at = tt
apart low (b ∷ bs) zero x h at =
    let e = same_Some b x at in (
      inl e,
      all_weaker (λ c. b.lbn + b.count ≤ c.lbn) (λ c. (c ≡ x) ⊎ AreApart c x)
          (λ c le. inr (inr (subst (λ z. z.lbn + z.count ≤ c.lbn) e le))) bs (ascend_from (b.lbn + b.count) bs h.1),
    )
apart low (b ∷ bs) (suc i) x h at = (
  inr (inl (all_get (λ c. b.lbn + b.count ≤ c.lbn) bs i x (ascend_from (b.lbn + b.count) bs h.1) at)),
  apart (b.lbn + b.count) bs i x h.1 at,
)

module _ (v : TaskView) (got : DeliveryRow) where
  -- a delivered block stays delivered
  pub still_done : (block : Block) → is_delivered (v.bare block) ≡ true → is_delivered ((delivered_view got v).bare block) ≡ true
  still_done block done = grind arith

  -- the blocks hold what was taken of them
  pub taken-holds : (held now : ℕ → Option Content) (content_at : ℕ → Content) (low i : ℕ) (bs : List Block)
      → ((lbn : ℕ) → now lbn ≡ after_take content_at got.block.lbn got.block.count lbn (held lbn))
      → Gives got.content content_at got.block.lbn got.block.count
      → Ascend low bs → slice_get bs i ≡ Some got.block → AllByRecursion (λ b. b.index ≡ got.block.index → b ≡ got.block) bs
      → AllByRecursion (HoldsBlock v.work held) bs → AllByRecursion (HoldsBlock (delivered_view got v).work now) bs
  taken-holds held now content_at low i bs takes gives ascends at single holds =
      all_with (λ b. b.index ≡ got.block.index → b ≡ got.block) (λ b. HoldsBlock v.work held b × ((b ≡ got.block) ⊎ AreApart b got.block))
      (HoldsBlock (delivered_view got v).work now) one bs single
      (all_both (HoldsBlock v.work held) (λ b. (b ≡ got.block) ⊎ AreApart b got.block) bs holds (apart low bs i got.block ascends at)) where
        its_own : held_in now (range_with_len got.block.lbn got.block.count) ≡ sectors_of ((delivered_view got v).found got.block)
        its_own = held_all now content_at got.block.lbn got.block.count
            (λ lbn le lt. rw (takes lbn, within got.block.lbn got.block.count lbn le lt) refl)
            ∙ (sym gives ∙ rw (same_number got.block.index got.block.index refl) refl)

        outside : (b : Block) (lbn : ℕ) → b.lbn ≤ lbn → lbn < b.lbn + b.count → AreApart b got.block
            → is_within got.block.lbn got.block.count lbn ≡ false
        outside b lbn le lt (inl less) = before_it got.block.lbn got.block.count lbn (omega arith)
        outside b lbn le lt (inr more) = behind_it got.block.lbn got.block.count lbn (omega arith)

        one : (b : Block) → (b.index ≡ got.block.index → b ≡ got.block)
            → HoldsBlock v.work held b × ((b ≡ got.block) ⊎ AreApart b got.block) → HoldsBlock (delivered_view got v).work now b
        one b only both = elim (cases_Bool (got.block.index == b.index)) [
          | inl it ↦ rw (only (sym (eqb-true got.block.index b.index it))) (λ _. its_own)
          | inr other ↦ elim both.1 [
            | inl it ↦ absurd (other_number got.block.index b.index other (ap (λ (x : Block). x.index) (sym it)))
            | inr far ↦ rw other (λ done. held_same now held b.lbn b.count (λ lbn le lt. rw (takes lbn, outside b lbn le lt far) refl)
                ∙ both.0 done)
          ]
        ]

  -- a sector that no block has holds nothing
  pub taken-only : (held now : ℕ → Option Content) (content_at : ℕ → Content) (i : ℕ) (bs : List Block)
      → ((lbn : ℕ) → now lbn ≡ after_take content_at got.block.lbn got.block.count lbn (held lbn)) → slice_get bs i ≡ Some got.block
      → ((lbn : ℕ) → list_any (λ b. is_within b.lbn b.count lbn) bs ≡ false → held lbn ≡ None) → (lbn : ℕ)
      → list_any (λ b. is_within b.lbn b.count lbn) bs ≡ false → now lbn ≡ None
  taken-only held now content_at i bs takes at only lbn none =
      rw (
        takes lbn,
        all_get (λ b. is_within b.lbn b.count lbn ≡ false) bs i got.block (none_of_any (λ b. is_within b.lbn b.count lbn) bs none) at,
      ) (only lbn none)

  -- a block that is not delivered belongs to the choice that is not cleaned
  pub in_current : (done current : List Choice) (i : ℕ)
      → slice_get (flat_map (λ (choice : Choice). choice.blocks) (done ++ current)) i ≡ Some got.block
      → AllByRecursion (λ choice. is_cleaned v.work choice ≡ true) done → v.bare got.block ≡ Wanted
      → (j : ℕ) × (slice_get (flat_map (λ (choice : Choice). choice.blocks) current) j ≡ Some got.block)
  in_current [] current i at cleaned bare = (i, at)
  in_current (c ∷ cs) current i at cleaned bare =
      elim (get_append c.blocks (flat_map (λ (choice : Choice). choice.blocks) (cs ++ current)) i got.block at) [
        | inl here ↦ absurd (let done = all_get (λ b. is_delivered (v.bare b) ≡ true) c.blocks i got.block
            (list_all_each (λ b. is_delivered (v.bare b)) c.blocks cleaned.0) here in grind (arith, done))
        | inr rest ↦ in_current cs current rest.0 rest.1 cleaned.1 bare
      ]

module _ (past : Past) (got : DeliveryRow) where
  -- the block's own task changes alone
  pub either : (P : TaskView → Type 0) (task : ℕ) → (got.block.task ≡ task → P (delivered_view got (view past task))) → P (view past task)
      → P (view (delivered got ∷ past) task)
  either P task own still = elim (cases_Bool (got.block.task == task)) [
    | inl mine ↦ let e = eqb-true got.block.task task mine in rw (delivered-view past got task e) (own e)
    | inr other ↦ rw (delivered-silent past got task other) still
  ]

  -- the block is marked as delivered
  pub delivered-entries : (held now : List Entry) → held ≡ map (entry_of past) (registered past)
      → now ≡ after got.block.task (Deliver got.block.index) held → now ≡ map (entry_of (delivered got ∷ past)) (registered past)
  delivered-entries held now entries is_after = is_after ∙ (ap (after got.block.task (Deliver got.block.index)) entries
      ∙ changed-entries got.block.task (Deliver got.block.index) (view past) (view (delivered got ∷ past)) (registered past)
      (λ t other. delivered-silent past got t other)
      (rw (delivered-view past got got.block.task refl)
      (all_any _ (λ block. one (view past got.block.task) block) (registered past)))) where
        one : (v : TaskView) (block : Block)
            → (if block.index == got.block.index then Delivered else state_in v block) ≡ state_in (delivered_view got v) block
        one v block = grind (arith, nat_tests)

-- the block that is delivered stands among its task's, and was wanted
pub record WasWanted (past : Past) (block : Block) : Type 0 where
  pub index : ℕ
  pub registered_there : slice_get (registered past) index ≡ Some block
  pub shown_wanted : state_in (view past block.task) block ≡ Wanted
  pub bare : (view past block.task).bare block ≡ Wanted
  pub own_place : ℕ
  pub own_there : slice_get (view past block.task).blocks own_place ≡ Some block

pub was_wanted : (past : Past) (block : Block) (i : ℕ) → slice_get (wanted past) i ≡ Some block → WasWanted past block
unfolding wanted view
was_wanted past block i at =
    let found = filter_from (λ b. is_wanted (state past b)) (registered past) i block at in
    let mine = filter_to (λ b. b.task == block.task) (registered past) found.0 block found.1 (same_number block.task block.task refl) in
    record {
      index = found.0;
      registered_there = found.1;
      shown_wanted = grind (arith, found.2);
      bare = grind (arith, found.2);
      own_place = mine.0;
      own_there = mine.1;
    }

module _ (disk : Shape) (past : Past) (got : DeliveryRow) where
  pub delivered-holds : (held now : List Entry) → now ≡ map (entry_of (delivered got ∷ past)) (registered past) → HoldsBlocks disk past held
      → HoldsBlocks disk (delivered got ∷ past) now
  delivered-holds held now entries h = record {
    entries = entries;
    on_disk = h.on_disk;
    placed = λ task. let p = h.placed task in either past got (λ v. IsPlaced disk v.work) task (λ _. assumption p) p;
    unopened = λ task more. let u = h.unopened task more in either past got IsUntouched task (λ _. assumption u) u;
  }

-- the task's own view
module _ (v : TaskView) (got : DeliveryRow) (index : ℕ) (there : slice_get v.blocks index ≡ Some got.block)
    (bare : v.bare got.block ≡ Wanted) where
  single : AreNumbered 0 v.blocks → AllByRecursion (λ b. b.index ≡ got.block.index → b ≡ got.block) v.blocks
  single are_numbered = only_one 0 v.blocks index got.block are_numbered there

  cleaned_still : (cs : List Choice) → AllByRecursion (λ choice. is_cleaned v.work choice ≡ true) cs
      → AllByRecursion (λ choice. is_cleaned (delivered_view got v).work choice ≡ true) cs
  cleaned_still cs all = all_weaker (λ choice. is_cleaned v.work choice ≡ true)
      (λ choice. is_cleaned (delivered_view got v).work choice ≡ true) (λ choice done. each choice.blocks done) cs all where
        each : (bs : List Block) → list_all (λ b. is_delivered (v.bare b)) bs ≡ true
            → list_all (λ b. is_delivered ((delivered_view got v).bare b)) bs ≡ true
        each [] done = refl
        each (b ∷ bs) done = grind (arith, each bs, still_done v got b)

  -- a segment is at work while one of its blocks is wanted
  pub at_work_now : (log : clean.Cleaning) → Cleans v.work log → log.unfinished ≡ None → ⊥
  at_work_now log h idle = none_there h.current h.by where
    none_there : (current : Option Choice) → CleansBy v.work log h.done current → ⊥
    none_there None by = none-some got.block (in_current v got h.done [] index (rw (by.blocks, by.chosen) at there) by.cleaned bare).1
    none_there (Some choice) by = none-some choice.segment.number (sym idle ∙ by.unfinished)

  delivered-cleans : (content_at : ℕ → Content) (old : clean.Cleaning) (now : List (List (ℕ × Option Content))) → AreNumbered 0 v.blocks
      → Gives got.content content_at got.block.lbn got.block.count
      → ((number lbn : ℕ) → old.unfinished ≡ Some number → clean.taken_for (record old { taken = now }) number lbn
      ≡ after_take content_at got.block.lbn got.block.count lbn (clean.taken_for old number lbn))
      → Cleans v.work old → Cleans (delivered_view got v).work (record old { taken = now })
  delivered-cleans content_at old now are_numbered gives takes h =
      let cleaned = cleaned_still h.done h.cleaned in
      let taken = taken_now h.current h.by in
      let over : v.closed ≡ true → AllByRecursion (λ b. is_over ((delivered_view got v).bare b) ≡ true) v.blocks = λ closed.
      all_weaker (λ b. is_over (v.bare b) ≡ true) (λ b. is_over ((delivered_view got v).bare b) ≡ true) (λ b over. grind arith) v.blocks
      (h.over closed) in
      record { done = h.done; current = h.current; by = assumption (cleaned, taken, over, h.by) } where
        taken_now : (current : Option Choice) → CleansBy v.work old h.done current
            → AllByRecursion (HoldsChoice (delivered_view got v).work (record old { taken = now })) (choice_in current)
        taken_now None by = tt
        taken_now (Some choice) by =
            let whole = rw by.chosen at by.blocks in
            let there_now = in_current v got h.done (choice ∷ []) index (rw whole at there) by.cleaned bare in
            let only =
            all_right (λ (c : Choice). AllByRecursion (λ b. b.index ≡ got.block.index → b ≡ got.block) c.blocks) h.done (choice ∷ [])
            (all_flat (λ b. b.index ≡ got.block.index → b ≡ got.block) (λ (c : Choice). c.blocks) (h.done ++ choice ∷ [])
            (rw whole at (single are_numbered))) in (
              taken-holds v got (clean.taken_for old choice.segment.number)
                  (clean.taken_for (record old { taken = now }) choice.segment.number) content_at 0 there_now.0 choice.blocks
                  (λ lbn. takes choice.segment.number lbn by.unfinished) gives by.ascend.0 (rw append-nil at there_now.1) only.0 by.taken.0,
              tt,
            )

  pub delivered-stands : (content_at : ℕ → Content) (old new : Session) → AreNumbered 0 v.blocks
      → Gives got.content content_at got.block.lbn got.block.count → HasTaken content_at got.block old new → Stands v old
      → Stands (delivered_view got v) new
  delivered-stands content_at old new are_numbered gives takes h =
      let image : is_unsealed v ≡ true → HoldsImage (delivered_view got v).work (held_at new.image) = λ is_open.
      let backup : is_backup old.kind ≡ true = ap (λ t. is_backup t.kind) (sym h.terms)
      ∙ (and_parts (is_backup v.terms.kind) (not v.sealed) is_open).0 in
      let image = h.image is_open in record {
        each = taken-holds v got (held_at old.image) (held_at new.image) content_at 0 index v.blocks (takes.image backup) gives
            (h.ascend backup) there (single are_numbered) image.each;
        only = taken-only v got (held_at old.image) (held_at new.image) content_at index v.blocks (takes.image backup) there image.only;
      } in
      let log = λ (cleans : is_clean old.kind ≡ true).
      delivered-cleans content_at old.log new.log.taken are_numbered gives (takes.log cleans) (h.log cleans) in
      rw takes.same (assumption (image, log, h))
