-- What is held of sectors and of blocks that ascend; a backup is sealed: its image has the delivered blocks alone.
use Rattle.std.proofs.lemmas.Grind.{flat_map-append}
use Rattle.fb_units.proofs.Parts.{range-append}
use Rattle.fb_store.proofs.Taken.{held_none}
use Rattle.fb_tasks.proofs.Words.{◌≡◌, ℕ, zero, suc, ◌+◌, ◌<◌, ◌≤◌, List, [], ◌∷◌, true, false, Some, Option, refl, arith, append-nil}
use Rattle.fb_tasks.proofs.Words.{◌-◌, ◌==◌, ◌&&◌, ◌^◌, not, nat_lt, if◌then◌else◌, ◌++◌, Bool, None, length, filter, take, slice_get}
use Rattle.fb_tasks.proofs.Words.{ap, ap₂, sym, ◌∙◌, subst, inl, inr, AllByRecursion, range_with_len, flat_map, list_any, list_all}
use Rattle.fb_tasks.proofs.Words.{Content, held_in, EndsBy, is_within, Block, Ascend, entry_of, entry_in, AreNumbered, IsBlockOf}
use Rattle.fb_tasks.proofs.Words.{HoldsBlock, HoldsBlocks, HoldsImage, Stands, all_weaker, all_with, all_filter, all_get, same_Some}
use Rattle.fb_tasks.proofs.Words.{filter_from, map_at, element_at, list_all_each, and-false, and_comm, and-true, or-false, slice_get_within}
use Rattle.fb_tasks.proofs.Words.{get_or_from_slice_get, take_more, and_parts, cases_Bool, Shape, Kind, Backup, is_backup, ContentRun}
use Rattle.fb_tasks.proofs.Words.{held_at, runs_of, sectors_of, Entry, is_delivered, is_aborted, is_block, counts_of, Past, tasks}
use Rattle.fb_tasks.proofs.Words.{registered, Work, TaskView, view, is_unsealed, is_over, is_complete, is_complete_as}
use Rattle.fb_tasks.proofs.Words.{is_done, same_number, without_aborted, BackSeal, seal_rows_found, BackRow, found_for, Session}
use Rattle.fb_tasks.proofs.Words.{take-length, all_both, list_any-append}
use Rattle.fb_tasks.proofs.{Complete.counts_same, States.seen, Registered.own, States.shown_aborted, Changes.open_by}
pub use Rattle.fb_store.proofs.Originals.{inside as within, before as before_it, after as behind_it}

-- ascending blocks begin at the first sector or after it
pub ascend_from : (low : ℕ) (bs : List Block) → Ascend low bs → AllByRecursion (λ b. low ≤ b.lbn) bs
ascend_from low [] h = tt
ascend_from low (b ∷ bs) h = (
  h.0,
  all_weaker (λ c. b.lbn + b.count ≤ c.lbn) (λ c. low ≤ c.lbn) (λ c le. omega (arith, le, h.0)) bs (ascend_from (b.lbn + b.count) bs h.1),
)

-- what is held of some sectors
pub held_same : (f g : ℕ → Option Content) (a n : ℕ) → ((lbn : ℕ) → a ≤ lbn → lbn < a + n → f lbn ≡ g lbn)
    → held_in f (range_with_len a n) ≡ held_in g (range_with_len a n)
held_same f g a zero same = refl
held_same f g a (suc n) same =
    rw (same a (omega arith) (omega arith), held_same f g (a + 1) n (λ lbn le lt. same lbn (omega arith) (omega arith))) refl

-- a sector lies in an aborted block
abbrev pub is_hit : TaskView → ℕ → Block → Bool
is_hit v lbn block = is_aborted (v.bare block) && is_within block.lbn block.count lbn

-- what a sector holds after the sectors of aborted blocks were dropped
abbrev pub dropped : TaskView → ℕ → Option Content → List Block → Option Content
dropped v lbn held blocks = if list_any (is_hit v lbn) blocks then None else held

pub dropped_next : (v : TaskView) (lbn : ℕ) (held : Option Content) (blocks : List Block) (i : ℕ) (block : Block)
    → slice_get blocks i ≡ Some block
    → without_aborted (entry_in v block) lbn (dropped v lbn held (take i blocks)) ≡ dropped v lbn held (take (i + 1) blocks)
dropped_next v lbn held blocks i block at =
    rw (
      take_more blocks i block (slice_get_within blocks i block at),
      get_or_from_slice_get blocks i block block at,
      list_any-append,
      shown_aborted (v.bare block) v.suspended,
    )
    (grind arith)

module _ (p : Block → Bool) where
  abbrev pub has_it : ℕ → Block → Bool
  has_it lbn block = p block && is_within block.lbn block.count lbn

  before_all : (from lbn : ℕ) (blocks : List Block) → lbn < from → AllByRecursion (λ block. from ≤ block.lbn) blocks
      → list_any (has_it lbn) blocks ≡ false
  before_all from lbn [] less h = refl
  before_all from lbn (b ∷ bs) less h = let first = h.0 in
      rw (before_it b.lbn b.count lbn (omega arith), and-false (p b), before_all from lbn bs less h.1) refl

  -- a sector of a block lies in no other
  pub in_one : (from : ℕ) (blocks : List Block) → Ascend from blocks → AllByRecursion
      (λ block. (lbn : ℕ) → block.lbn ≤ lbn → lbn < block.lbn + block.count → list_any (has_it lbn) blocks ≡ p block) blocks
  in_one from [] h = tt
  in_one from (b ∷ bs) h = (
    (λ lbn first last. rw (
      within b.lbn b.count lbn first last,
      before_all (b.lbn + b.count) lbn bs last (ascend_from (b.lbn + b.count) bs h.1),
      and-true,
      or-false,
    ) refl),
    all_with (λ (block : Block). b.lbn + b.count ≤ block.lbn)
        (λ (block : Block). (lbn : ℕ) → block.lbn ≤ lbn → lbn < block.lbn + block.count → list_any (has_it lbn) bs ≡ p block)
        (λ (block : Block). (lbn : ℕ) → block.lbn ≤ lbn → lbn < block.lbn + block.count → list_any (has_it lbn) (b ∷ bs) ≡ p block)
        (λ block past_it rest lbn first last. rw (behind_it b.lbn b.count lbn (omega arith), and-false (p b)) (rest lbn first last)) bs
        (ascend_from (b.lbn + b.count) bs h.1) (in_one (b.lbn + b.count) bs h.1),
  )

-- what is held of a block: all of a delivered one, and nothing of another
abbrev HoldsPart : TaskView → (ℕ → Option Content) → Block → Type 0
HoldsPart v held block =
    held_in held (range_with_len block.lbn block.count) ≡ (if is_delivered (v.bare block) then sectors_of (v.found block) else [])

-- what is held of ascending blocks, where nothing is held beside them
held_parts : (v : TaskView) (held : ℕ → Option Content) (from end : ℕ) (blocks : List Block) → Ascend from blocks
    → AllByRecursion (λ block. block.lbn + block.count ≤ end) blocks → AllByRecursion (HoldsPart v held) blocks
    → ((lbn : ℕ) → from ≤ lbn → list_any (λ block. is_within block.lbn block.count lbn) blocks ≡ false → held lbn ≡ None)
    → held_in held (range_with_len from (end - from))
    ≡ flat_map (λ block. sectors_of (v.found block)) (filter (λ block. is_delivered (v.bare block)) blocks)
held_parts v held from end [] ascend within parts none = held_none held from (end - from) (λ k first last. none k first refl)
held_parts v held from end (b ∷ bs) ascend within parts none =
    let first : from ≤ b.lbn = ascend.0 in
    let last : b.lbn + b.count ≤ end = within.0 in
    let whole : end - from ≡ (b.lbn - from) + (b.count + (end - (b.lbn + b.count))) = omega arith in
    let start : from + (b.lbn - from) ≡ b.lbn = omega arith in
    let gap =
    held_none held from (b.lbn - from) (λ k at_least less. let gap : k < b.lbn = omega arith in none k at_least (gap_none k gap)) in
    let rest = held_parts v held (b.lbn + b.count) end bs ascend.1 within.1 parts.1
    (λ lbn from_it other. none lbn (omega arith) (rw (behind_it b.lbn b.count lbn from_it) other)) in
    rw (
      whole,
      range-append from (b.lbn - from) (b.count + (end - (b.lbn + b.count))),
      start,
      range-append b.lbn b.count (end - (b.lbn + b.count)),
      flat_map-append,
      flat_map-append,
      gap,
      parts.0,
      rest,
    )
    (grind arith) where
      gap_none : (k : ℕ) → k < b.lbn → list_any (λ (block : Block). is_within block.lbn block.count k) (b ∷ bs) ≡ false
      gap_none k less =
          let follow : k < b.lbn + b.count = omega arith in
          rw (before_it b.lbn b.count k less)
          (before_all (λ block. true) (b.lbn + b.count) k bs follow (ascend_from (b.lbn + b.count) bs ascend.1))

module _ (v : TaskView) (ascend : Ascend 0 v.blocks) (over : AllByRecursion (λ block. is_over (v.bare block) ≡ true) v.blocks)
    (held now : ℕ → Option Content) (holds : HoldsImage v.work held) (drops : (lbn : ℕ) → now lbn ≡ dropped v lbn (held lbn) v.blocks) where
  -- a sector of the block lies in no other
  abbrev IsHitAlone : Block → Type 0
  IsHitAlone block = (lbn : ℕ) → block.lbn ≤ lbn → lbn < block.lbn + block.count
      → list_any (is_hit v lbn) v.blocks ≡ is_aborted (v.bare block)

  parts_now : AllByRecursion (HoldsPart v now) v.blocks
  parts_now = all_with (λ block. is_over (v.bare block) ≡ true) (λ block. HoldsBlock v.work held block × IsHitAlone block)
      (HoldsPart v now) part v.blocks over
      (all_both (HoldsBlock v.work held) IsHitAlone v.blocks holds.each
      (in_one (λ block. is_aborted (v.bare block)) 0 v.blocks ascend)) where
        part : (block : Block) → is_over (v.bare block) ≡ true → HoldsBlock v.work held block × IsHitAlone block → HoldsPart v now block
        part block is_over both =
            let here = λ (k : ℕ) (from : block.lbn ≤ k) (to : k < block.lbn + block.count). drops k
            ∙ ap (λ b. if b then None else held k) (both.1 k from to) in
            elim (cases_Bool (is_delivered (v.bare block))) [
              | inl done ↦ rw done (held_same now held block.lbn block.count
                  (λ k from to. let kept : is_aborted (v.bare block) ≡ false = grind arith in rw (here k from to, kept) refl) ∙ both.0 done)
              | inr left ↦ rw left (held_none now block.lbn block.count
                  (λ k from to. let gone : is_aborted (v.bare block) ≡ true = grind arith in rw (here k from to, gone) refl))
            ]

  nothing_beside : (lbn : ℕ) → 0 ≤ lbn → list_any (λ block. is_within block.lbn block.count lbn) v.blocks ≡ false → now lbn ≡ None
  nothing_beside lbn from other = rw (drops lbn, holds.only lbn other) (grind arith)

  -- the image has what the last deliveries of the delivered blocks found
  pub sealed_held : (end : ℕ) → AllByRecursion (λ block. block.lbn + block.count ≤ end) v.blocks → held_in now (range_with_len 0 end)
      ≡ flat_map (λ block. sectors_of (v.found block)) (filter (λ block. is_delivered (v.bare block)) v.blocks)
  sealed_held end within =
      let whole : end ≡ end - 0 = omega arith in
      ap (λ n. held_in now (range_with_len 0 n)) whole ∙ held_parts v now 0 end v.blocks ascend within parts_now nothing_beside

-- all is over where a backup is complete
pub backup_over : (w : Work) → is_backup w.terms.kind ≡ true → is_done w ≡ true
    → AllByRecursion (λ block. is_over (w.bare block) ≡ true) w.blocks
backup_over w backup complete = by w.terms.kind backup complete where
  by : (kind : Kind) → is_backup kind ≡ true → is_complete_as w kind ≡ true
      → AllByRecursion (λ block. is_over (w.bare block) ≡ true) w.blocks
  by Backup is h = list_all_each (λ block. is_over (w.bare block)) w.blocks (and_parts (nat_lt 0 (length w.blocks))
      (list_all (λ block. is_over (w.bare block)) w.blocks) h).1
  by _ is h = absurd (grind arith)

-- the task's block of a number stands among those that are registered
pub numbered_at : (n k : ℕ) (blocks : List Block) (block : Block) → AreNumbered n blocks → slice_get blocks k ≡ Some block
    → block.index ≡ n + k
numbered_at n k [] block h at = absurd (cc)
numbered_at n zero (b ∷ bs) block h at = rw (sym (same_Some b block at)) (omega (arith, h.0))
numbered_at n (suc k) (b ∷ bs) block h at = omega (arith, numbered_at (n + 1) k bs block h.1 at)

-- the entry of a task's block
pub record HasEntry (held : List Entry) (task number : ℕ) (entry : Entry) : Type 0 where
  pub index : ℕ
  pub at : slice_get held index ≡ Some entry
  pub is_block : is_block task number entry ≡ true
  pub within : entry.block.lbn + entry.block.count ≤ 10 ^ 12

module _ {disk : Shape} {past : Past} {held : List Entry} (h : HoldsBlocks disk past held) (task : ℕ) where
  pub entry_at : (number : ℕ) (block : Block) → slice_get (view past task).blocks number ≡ Some block
      → HasEntry held task number (entry_in (view past task) block)
  entry_at number block at =
      let index = filter_from (λ (b : Block). b.task == task) (registered past) number block (rw (sym (seen past task).blocks) at) in
      let mine = all_get (λ (b : Block). b.task ≡ task) (view past task).blocks number block (own past task) at in
      subst (HasEntry held task number) (ap (λ t. entry_in (view past t) block) mine) (record {
        index = index.0;
        at = rw h.entries (map_at (entry_of past) (registered past) index.0 block index.1);
        is_block = rw (
          same_number block.task task mine,
          same_number block.index number (numbered_at 0 number (view past task).blocks block (h.placed task).numbered at
              ∙ (let e : 0 + number ≡ number = omega arith in e)),
        ) refl;
        within = (all_get (IsBlockOf disk (length (tasks past))) (registered past) index.0 block h.on_disk index.1).within;
      })

  pub block_at : (number n : ℕ) → n ≡ (counts_of task held).registered → number < n
      → (block : Block) × (slice_get (view past task).blocks number ≡ Some block)
  block_at number n is less = element_at (view past task).blocks number (subst (λ k. number < k)
      (is ∙ ap (λ c. c.registered) (counts_same past task held h.entries)) less)

  pub all_blocks : (n : ℕ) → n ≡ (counts_of task held).registered → take n (view past task).blocks ≡ (view past task).blocks
  all_blocks n is = rw (is ∙ ap (λ c. c.registered) (counts_same past task held h.entries)) (take-length (view past task).blocks)

  -- the seal's content
  pub sealed_content : (session : Session) (now : ℕ → Option Content) (content : List ContentRun) → Stands (view past task) session
      → is_unsealed (view past task) ≡ true → is_done (view past task).work ≡ true
      → ((lbn : ℕ) → now lbn ≡ dropped (view past task) lbn (held_at session.image lbn) (view past task).blocks)
      → EndsBy now (10 ^ 12) → ((end : ℕ) → EndsBy now end → content ≡ runs_of (held_in now (range_with_len 0 end)))
      → content ≡ found_for (view past task).work (filter (λ block. is_delivered ((view past task).bare block)) (view past task).blocks)
  sealed_content session now content stands is_open complete drops ends gives =
      let backup : is_backup session.kind ≡ true = ap (λ t. is_backup t.kind) (sym stands.terms)
      ∙ (and_parts (is_backup (view past task).terms.kind) (not (view past task).sealed) is_open).0 in
      let within = all_weaker (IsBlockOf disk (length (tasks past))) (λ (block : Block). block.lbn + block.count ≤ 10 ^ 12)
      (λ block on_disk. on_disk.within) (view past task).blocks
      (rw (seen past task).blocks
      (all_filter (IsBlockOf disk (length (tasks past))) (λ (b : Block). b.task == task) (registered past) h.on_disk)) in
      gives (10 ^ 12) ends ∙ ap runs_of (sealed_held (view past task) (stands.ascend backup)
      (backup_over (view past task).work (ap (λ t. is_backup t.kind) stands.terms ∙ backup) complete)
      (held_at session.image) now (stands.image is_open) drops (10 ^ 12) within)

seal_rows_is : (past : Past) (now task : ℕ)
    → seal_rows_found past now task ≡ (if is_unsealed (view past task) && is_done (view past task).work
    then BackSeal (record {
      task = task;
      instant = now;
      content = found_for (view past task).work (filter (λ block. is_delivered ((view past task).bare block)) (view past task).blocks);
    }) ∷ [] else [])
unfolding view is_complete
seal_rows_is past now task = refl

pub seal_row : (past : Past) (now task : ℕ) (content : List ContentRun) → is_unsealed (view past task) ≡ true
    → is_done (view past task).work ≡ true
    → content ≡ found_for (view past task).work (filter (λ block. is_delivered ((view past task).bare block)) (view past task).blocks)
    → BackSeal (record { task = task; instant = now; content = content }) ∷ [] ≡ seal_rows_found past now task
seal_row past now task content is_open complete is = rw is (sym (seal_rows_is past now task ∙ rw (is_open, complete) refl))

-- the seal of a session is that of its task
pub seals_same : {v : TaskView} (session : Session) (complete : Bool) → Stands v session → complete ≡ is_done v.work
    → (complete && (is_backup session.kind && not session.sealed)) ≡ (is_unsealed v && is_done v.work)
seals_same {v} session complete stands says =
    ap₂ (λ a b. a && b) says (sym (open_by v session stands)) ∙ and_comm (is_done v.work) (is_unsealed v)

pub no-seal : (past : Past) (now task : ℕ) (rows : List BackRow) → (is_unsealed (view past task) && is_done (view past task).work) ≡ false
    → rows ≡ rows ++ seal_rows_found past now task
no-seal past now task rows none = rw (seal_rows_is past now task, none) (sym (append-nil rows))
