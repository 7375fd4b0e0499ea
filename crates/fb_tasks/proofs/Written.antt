-- A write, block by block: which blocks are wanted again, and that the tasks may be looked at in any order.
use Rattle.fb_tasks.proofs.Words.{◌≡◌, ◌==◌, ◌&&◌, List, true, None, Some, subst, arith, Rewant, Block, Entry, shares, Shape, tasks, Tells}
use Rattle.fb_tasks.proofs.Words.{ℕ, ◌+◌, ◌<◌, ◌≤◌, not, [], ◌∷◌, inl, inr, map, refl, ap, ap₂, sym, ◌∙◌, Past, view}
use Rattle.fb_tasks.proofs.Words.{false, length, get_or, all_any, all_map, element_at, Session, Request, finished, entry_of}
use Rattle.fb_tasks.proofs.Words.{left_in}
use Rattle.fb_tasks.proofs.Words.{Option, cases_Bool, all_from_index, all_weaker, eqb-true, registered, entry_after, state_left}
use Rattle.fb_tasks.proofs.Words.{slice_get, slice_get-get_or, AllByRecursion, written-view, written-silent, slice_get_past, left_by_write}
use Rattle.fb_tasks.proofs.Words.{nat_tests, cases_lt, and-false, all_with, map_same, BTreeSet, contains, is_backup, AreListed, IsBlockOf}
use Rattle.fb_tasks.proofs.Words.{◌^◌, true≢false, pair_cmp, AreNearby, IsNearby, IsAmong, BeginsIn, Chunks, chunk_of, filter_to, all_get}
use Rattle.fb_tasks.proofs.Words.{same_number}
use Rattle.fb_tasks.proofs.{Changes.open_by, Changes.written-tells, States.show_rewanted}

map_still : {X : Type 0} (f : X → X) (xs : List X) → AllByRecursion (λ x. f x ≡ x) xs → xs ≡ map f xs
map_still f [] h = refl
map_still f (x ∷ xs) h = ap (λ ys. x ∷ ys) (map_still f xs h.1) ∙ ap (λ y. y ∷ map f xs) (sym h.0)

module _ (first count : ℕ) where
  state_outside : (s : Option Session) (e : Entry) → shares first count e.block ≡ false → state_left first count s e ≡ e.state
  state_outside None e outside = refl
  state_outside (Some session) e outside = rw (outside, and-false) refl

  state_twice : (s : Option Session) (e : Entry)
      → state_left first count s (record { block = e.block; state = state_left first count s e }) ≡ state_left first count s e
  state_twice None e = refl
  state_twice (Some session) e = grind arith

  module _ (sessions : List Session) where
    abbrev left : Entry → Entry
    left e = left_by_write sessions first count e

    -- a block stays as it is where its state does
    still : (e : Entry) → state_left first count (slice_get sessions e.block.task) e ≡ e.state → left e ≡ e
    still e same = ap (λ s. let x : Entry = record { block = e.block; state = s } in x) same

    twice : (e : Entry) → left (left e) ≡ left e
    twice e = still (left e) (state_twice (slice_get sessions e.block.task) e)

    beyond : (e : Entry) → length sessions ≤ e.block.task → left e ≡ e
    beyond e none = still e (ap (λ s. state_left first count s e) (slice_get_past sessions e.block.task none))

    -- the task is looked at, whose session is an open backup or another
    module _ {items : List Session} (task : ℕ) (session : Session) (same : items ≡ sessions) (there : task < length sessions)
        (is : session ≡ get_or items task session) where
      at : slice_get sessions task ≡ Some session
      at = subst (λ xs. slice_get xs task ≡ Some session) same
          (slice_get-get_or items task session (subst (λ xs. task < length xs) (sym same) there) ∙ ap Some (sym is))

      pub open_left : (is_backup session.kind && not session.sealed) ≡ true → (es : List Entry)
          → map (entry_after task (Rewant first count session.suspended)) es ≡ map (left_in task sessions first count) es
      open_left is_open es = map_same _ _ es (all_any {X = Entry} _ (λ e. elim (cases_Bool (e.block.task == task)) [
        | inl own ↦ rw (own, eqb-true e.block.task task own, at, is_open) refl
        | inr other ↦ rw other refl
      ]) es)

      pub other_left : (is_backup session.kind && not session.sealed) ≡ false → (es : List Entry)
          → es ≡ map (left_in task sessions first count) es
      other_left no_backup es = map_still _ es (all_any {X = Entry} _ (λ e. elim (cases_Bool (e.block.task == task)) [
        | inl own ↦ rw (own, eqb-true e.block.task task own, at, no_backup) refl
        | inr other ↦ rw other refl
      ]) es)

    -- the tasks before this one were looked at: the write leaves their blocks as they now are, and the same of all as before
    abbrev pub AreRewanted : ℕ → List Entry → List Entry → Type 0
    AreRewanted task es now =
        (map left now ≡ map left es) × AllByRecursion (λ e. e.block.task < task → left e ≡ e) now × AreNearby sessions now

    pub one_rewanted : (task : ℕ) (es now new : List Entry) → new ≡ map (left_in task sessions first count) now → AreRewanted task es now
        → AreRewanted (task + 1) es new
    one_rewanted task es now new is h =
        subst (AreRewanted (task + 1) es) (sym is) (
          same now ∙ h.0,
          all_map _ _ now (all_weaker _ _ more now h.1),
          all_map _ _ now (all_weaker _ _ (λ e near. subst (IsNearby sessions) (sym (same_block e)) near) now h.2),
        ) where
          same_block : (e : Entry) → (left_in task sessions first count e).block ≡ e.block
          same_block e = grind arith

          same : (xs : List Entry) → map left (map (left_in task sessions first count) xs) ≡ map left xs
          same [] = refl
          same (x ∷ xs) = elim (cases_Bool (x.block.task == task)) [
            | inl own ↦ rw (own, same xs) (ap (λ y. y ∷ map left xs) (twice x))
            | inr other ↦ rw (other, same xs) refl
          ]

          more : (e : Entry) → (e.block.task < task → left e ≡ e) → (left_in task sessions first count e).block.task < task + 1
              → left (left_in task sessions first count e) ≡ left_in task sessions first count e
          more e before = elim (cases_Bool (e.block.task == task)) [
            | inl own ↦ rw own (λ less. twice e)
            | inr other ↦ rw other (λ less. before (grind (arith, nat_tests)))
          ]

    module _ {items : List Session} {listed_touched : BTreeSet ℕ} {near : BTreeSet (ℕ × ℕ)} (same : items ≡ sessions)
        (listed : AreListed items listed_touched near) {chunks : Chunks}
        (begin : (block : Block) → block.lbn < 2 ^ 64 → block.count ≤ 2048 → shares first count block ≡ true → BeginsIn chunks block) where
      -- a block of a task that is noted in none of the chunks stays as it is
      unnoted : (e : Entry) → IsNearby sessions e.block
          → ((chunk : ℕ) → IsAmong chunks chunk → contains pair_cmp near (chunk, e.block.task) ≡ false) → left e ≡ e
      unnoted e nearby none = elim (cases_lt e.block.task (length sessions)) [
        | inl there ↦
            let found = element_at sessions e.block.task there in
            elim (cases_Bool (is_backup found.0.kind && not found.0.sealed)) [
              | inl is_open ↦ elim (cases_Bool (shares first count e.block)) [
                | inl shared ↦
                    let noted = (subst (λ xs. AreListed xs listed_touched near) same listed).noted e.block.task found.0 found.1
                    (chunk_of e.block.lbn) (nearby.begins found.0 found.1 is_open) in
                    absurd (true≢false (sym noted ∙ none (chunk_of e.block.lbn) (begin e.block nearby.small nearby.few shared)))
                | inr outside ↦ still e (state_outside (slice_get sessions e.block.task) e outside)
              ]
              | inr other ↦ rw (found.1, other) refl
            ]
        | inr past ↦ beyond e past
      ]

      -- tasks are passed over that aren't noted
      pub passed : (from task : ℕ) (es now : List Entry)
          → ((chunk k : ℕ) → IsAmong chunks chunk → from ≤ k → k < task → contains pair_cmp near (chunk, k) ≡ false)
          → AreRewanted from es now → AreRewanted task es now
      passed from task es now none h = (
        h.0,
        all_with _ _ _ (λ e before nearby less. elim (cases_lt e.block.task from) [
          | inl earlier ↦ before earlier
          | inr later ↦ unnoted e nearby (λ chunk among. none chunk e.block.task among later less)
        ]) now h.1 h.2,
        h.2,
      )

    pub all_rewanted : (from : ℕ) (es now : List Entry) → length sessions ≤ from → AreRewanted from es now → now ≡ map left es
    all_rewanted from es now all h = map_still left now (all_weaker _ _ (λ e before. elim (cases_lt e.block.task from) [
      | inl less ↦ before less
      | inr more ↦ beyond e (omega (arith, more, all))
    ]) now h.1) ∙ h.0

-- blocks of open backups are as the history has them after the write
module _ (disk : Shape) (past : Past) (request : Request) (write : request.write ≡ true) (sessions : List Session) (held : List Entry)
    (h : Tells disk past sessions held) where
  one_told : (b : Block) → IsBlockOf disk (length (tasks past)) b
      → left_by_write sessions request.lbn request.count (entry_of past b) ≡ entry_of (finished request ∷ past) b
  one_told b there =
      let found = element_at sessions b.task (omega (arith, there.task, h.as_many)) in
      let stands = (h.each b.task found.0 found.1).stands in
      elim (cases_Bool (is_backup found.0.kind && not found.0.sealed)) [
        | inl is_open ↦ rw (
          found.1,
          is_open,
          stands.suspended,
          written-view past request b.task write (open_by (view past b.task) found.0 stands ∙ is_open),
        )
            (ap (λ s. let x : Entry = record { block = b; state = s } in x)
            (show_rewanted ((view past b.task).bare b) (view past b.task).suspended (shares request.lbn request.count b)))
        | inr other ↦ rw (found.1, other, written-silent past request b.task (open_by (view past b.task) found.0 stands ∙ other)) refl
      ]

  all_told : (bs : List Block) → AllByRecursion (IsBlockOf disk (length (tasks past))) bs
      → map (left_by_write sessions request.lbn request.count) (map (entry_of past) bs) ≡ map (entry_of (finished request ∷ past)) bs
  all_told [] on = refl
  all_told (b ∷ bs) on = rw (all_told bs on.1) (ap (λ x. x ∷ map (entry_of (finished request ∷ past)) bs) (one_told b on.0))

  pub left-tells : (first count : ℕ) (now : List Entry) → request.lbn ≡ first → request.count ≡ count
      → now ≡ map (left_by_write sessions first count) held → Tells disk (finished request ∷ past) sessions now
  left-tells first count now lbn sectors is = written-tells disk past request write sessions held now
      (is ∙ (ap₂ (λ f n. map (left_by_write sessions f n) held) (sym lbn) (sym sectors)
      ∙ (ap (map (left_by_write sessions request.lbn request.count)) h.entries ∙ all_told (registered past) h.on_disk))) h

-- each block of an open backup begins in one of its chunks
pub nearby-told : {disk : Shape} {past : Past} {sessions : List Session} {held : List Entry} → Tells disk past sessions held
    → AreNearby sessions held
unfolding view
nearby-told {disk} {past} {sessions} h = rw h.entries (all_map (λ (e : Entry). IsNearby sessions e.block) (entry_of past) (registered past)
    (all_from_index (IsNearby sessions) (registered past) (λ i b at.
    let there = all_get (IsBlockOf disk (length (tasks past))) (registered past) i b h.on_disk at in record {
      small = omega (arith, there.within);
      few = there.on.few;
      begins = λ session found is_open.
          let stands = (h.each b.task session found).stands in
          let own = filter_to (λ x. x.task == b.task) (registered past) i b at (same_number b.task b.task refl) in
          all_get (BeginsIn session.chunks) (view past b.task).blocks own.0 b
          (stands.near (open_by (view past b.task) session stands ∙ is_open)) own.1;
    })))
