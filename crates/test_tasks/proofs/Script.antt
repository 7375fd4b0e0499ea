-- The course of a script: what happens in it may happen, and it goes on.
use Rattle.std.specs.Prelude.{slice_get}
use Rattle.std.proofs.lemmas.List.FromFn.{length-map-range_with_len}
use Rattle.fb_tasks.proofs.Words.{◌≡◌, ℕ, zero, suc, ◌+◌, ◌^◌, ◌≤◌, List, [], ◌∷◌, Bool, true, false, Some, length, map, refl, ap, sym, ◌∙◌}
use Rattle.fb_tasks.proofs.Words.{arith, subst, true≢false, Request, Shape, Call, Content, Gives}
use Rattle.fb_tasks.proofs.Words.{Block, Entry, Wanted, is_wanted, BackRow, DeliveryRow, Past, finished, registered, state, tasks, wanted}
use Rattle.fb_tasks.proofs.Words.{view, with_choices, test_rows_found, take_call, with_delivery, task_row, task_rows, delivery_of}
use Rattle.fb_tasks.proofs.Words.{Tells, MayTake, MaySettle, MayDeliver, IsUpToDate, IsCalled, all_get, filter_to}
use Rattle.fb_tasks.proofs.Words.{same_Some}
use Rattle.fb_tasks.proofs.Calls.{may-take, called-more, called-tested, called-chosen, called-delivered, called-finished}
use Rattle.fb_script.specs.Allowed.{IsScript}
use Rattle.fb_tasks.specs.declared.session.Session.{Session}
use Rattle.test_tasks.specs.Following.{Follows}
use Rattle.fb_tasks.specs.Telling.{IsBlockOf, entry_of, tested_at}

module _ {up_to_date : Bool} {disk : Shape} {calls : List Call} {next : ℕ} {sessions : List Session} {held : List Entry}
    (h : Follows up_to_date disk calls next sessions held) where
  -- and after this as well
  follows-on : (b : Bool) (past : Past) (now : List Session) (after : List Entry) (n : ℕ) → IsCalled disk calls past n
      → Tells disk past now after → (b ≡ true → IsUpToDate past) → Follows b disk calls n now after
  follows-on b past now after n called tells tested =
      record { script = h.script; past = past; called = called; tells = tells; tested = tested }

  -- the next call takes effect
  module _ (call : Call) (at : slice_get calls next ≡ Some call) where
    pub follows-may : MayTake disk h.past sessions held call
    follows-may = may-take disk calls h.script.allowed h.script.few_calls h.past next h.called call at sessions held h.tells

    pub follows-more : (now : List Session) (after : List Entry) → Tells disk (take_call disk h.past call) now after
        → Follows false disk calls (next + 1) now after
    follows-more now after tells = follows-on false (take_call disk h.past call) now after (next + 1)
        (called-more disk calls h.script.allowed h.script.few_calls h.past next h.called call at sessions held h.tells) tells
        (λ never. absurd (true≢false (sym never)))

  -- all tasks were tested after the last event that could complete something
  pub follows-may-choose : MaySettle disk h.past sessions held
  follows-may-choose = record { tells = h.tells; few = omega (arith, h.called.few) }

  pub follows-up_to_date : (instant : ℕ) (now : List Session) (after : List Entry)
      → Tells disk (tested_at (with_choices disk h.past) instant) now after
      → IsUpToDate (tested_at (with_choices disk h.past) instant) → Follows true disk calls next now after
  follows-up_to_date instant now after tells all = follows-on true (tested_at (with_choices disk h.past) instant) now after next
      (called-tested disk calls (with_choices disk h.past) next (called-chosen disk calls h.past next h.called sessions held h.tells)
      (test_rows_found (with_choices disk h.past) instant)) tells (λ _. all)

  -- a block is delivered
  pub follows-delivered : (got : DeliveryRow) (now : List Session) (after : List Entry)
      → Tells disk (with_delivery h.past (delivery_of h.past got)) now after → IsUpToDate (with_delivery h.past (delivery_of h.past got))
      → (b : Bool) → Follows b disk calls next now after
  follows-delivered got now after tells all b = follows-on b (with_delivery h.past (delivery_of h.past got)) now after next
      (called-delivered disk calls h.past next got h.called) tells (λ _. all)

  -- a write passes
  pub follows-finished : (request : Request) (now : List Session) (after : List Entry) → Tells disk (finished request ∷ h.past) now after
      → Follows false disk calls next now after
  follows-finished request now after tells = follows-on false (finished request ∷ h.past) now after next
      (called-finished disk calls h.past next h.called request) tells (λ never. absurd (true≢false (sym never)))

-- nothing has happened yet
pub follows-first : (disk : Shape) (calls : List Call) (sessions : List Session) → IsScript disk 0 calls → Tells disk [] sessions []
    → Follows false disk calls 0 sessions []
follows-first disk calls sessions script tells = record {
  script = script;
  past = [];
  called = record { within = omega arith; taken = refl; few = omega (arith, script.few_blocks) };
  tells = tells;
  tested = λ never. absurd (true≢false (sym never));
}

-- a registered block stands where its entry does, in the entry's state
pub registered-at : {disk : Shape} {past : Past} {sessions : List Session} {held : List Entry} (tells : Tells disk past sessions held)
    (index : ℕ) (entry : Entry) → slice_get held index ≡ Some entry
    → (slice_get (registered past) index ≡ Some entry.block) × (state past entry.block ≡ entry.state)
unfolding view
registered-at {past} tells index entry at = back (registered past) index (ap (λ es. slice_get es index) (sym tells.entries) ∙ at) where
  back : (blocks : List Block) (n : ℕ) → slice_get (map (entry_of past) blocks) n ≡ Some entry
      → (slice_get blocks n ≡ Some entry.block) × (state past entry.block ≡ entry.state)
  back [] n there = absurd (grind arith)
  back (b ∷ bs) zero there =
      subst (λ (e : Entry). (Some b ≡ Some e.block) × (state past e.block ≡ e.state)) (same_Some (entry_of past b) entry there) (refl, refl)
  back (b ∷ bs) (suc n) there = back bs n there

pub within-at : {disk : Shape} {past : Past} {sessions : List Session} {held : List Entry} (tells : Tells disk past sessions held)
    (index : ℕ) (entry : Entry) → slice_get held index ≡ Some entry → entry.block.lbn + entry.block.count ≤ 10 ^ 12
within-at {disk} {past} tells index entry at = (all_get (IsBlockOf disk (length (tasks past)))
    (registered past) index entry.block tells.on_disk (registered-at tells index entry at).0).within

-- a block is wanted where its entry says so
wanted-at : {disk : Shape} {past : Past} {sessions : List Session} {held : List Entry} (tells : Tells disk past sessions held) (index : ℕ)
    (entry : Entry) → slice_get held index ≡ Some entry → entry.state ≡ Wanted
    → (i : ℕ) × (slice_get (wanted past) i ≡ Some entry.block)
unfolding wanted
wanted-at {past} tells index entry at is =
    let there = registered-at tells index entry at in
    filter_to (λ block. is_wanted (state past block)) (registered past) index entry.block there.0 (ap is_wanted (there.1 ∙ is))

-- and may be delivered then
pub follows-may-deliver : {disk : Shape} {calls : List Call} {next : ℕ} {sessions : List Session} {held : List Entry}
    (h : Follows true disk calls next sessions held) (got : DeliveryRow) (index : ℕ) (content_at : ℕ → Content)
    → slice_get held index ≡ Some (record { block = got.block; state = Wanted })
    → Gives got.content content_at got.block.lbn got.block.count → MayDeliver disk h.past sessions held got
follows-may-deliver h got index content_at at gives =
    let there = wanted-at h.tells index (record { block = got.block; state = Wanted }) at refl in
    record { tells = h.tells; up_to_date = h.tested refl; index = there.0; wanted = there.1; content_at = content_at; content = gives }

-- each task has its row
pub rows-there : {disk : Shape} {past : Past} {sessions : List Session} {held : List Entry} (tells : Tells disk past sessions held)
    → (rows : List BackRow) → rows ≡ task_rows past → length rows ≡ length sessions
unfolding task_rows
rows-there {past} tells rows is = ap length is ∙ (length-map-range_with_len (task_row past) 0 (length (tasks past)) ∙ sym tells.as_many)
