-- The states of registered blocks, suspended or not.
use Rattle.fb_tasks.proofs.Words.{◌≡◌, not, List, [], ◌∷◌, Bool, true, refl, sym, ◌∙◌, Block, State, Past, Work, view, ended, Told}
use Rattle.fb_tasks.proofs.Words.{ℕ, if◌then◌else◌, AllByRecursion, is_delivered, is_suspended, wanted_unless, was_complete, is_open_backup}
use Rattle.fb_tasks.proofs.Words.{◌&&◌, Option, arith, Wanted, is_open, own_of, Content, Stands, IsQuiet, Cleans, Session, held_at, is_done}
use Rattle.fb_tasks.proofs.Words.{false, true≢false, is_aborted, bare_state, with_states, is_unsealed, HoldsBlock, AreReported, is_complete}
use Rattle.fb_tasks.proofs.Words.{Suspended, Aborted, is_wanted, TaskView, HoldsImage, IsAtWork, is_clean, all_weaker, terms_of, segments}
use Rattle.fb_tasks.proofs.Words.{not, BeginsIn, Chunks, is_backup}
use Rattle.fb_model.specs.History.{blocks_of}

-- a block of a task that is held back is suspended where it would be wanted
abbrev pub shown : State → Bool → State
shown bare held_back = if is_wanted bare && held_back then Suspended else bare

pub show_suspended : (bare : State) (held_back : Bool)
    → (if is_wanted (shown bare held_back) then Suspended else shown bare held_back) ≡ shown bare true
show_suspended bare held_back = grind arith

pub show_resumed : (bare : State) (held_back : Bool) → is_suspended bare ≡ false
    → (if is_suspended (shown bare held_back) then Wanted else shown bare held_back) ≡ shown bare false
show_resumed bare held_back h = grind arith

pub show_aborted : (bare : State) (held_back hit : Bool) → (if hit && is_open (shown bare held_back) then Aborted else shown bare held_back)
    ≡ shown (if hit && not (is_delivered bare) then Aborted else bare) held_back
show_aborted bare held_back hit = grind arith

pub show_rewanted : (bare : State) (held_back hit : Bool) → (if hit && is_delivered (shown bare held_back) then wanted_unless held_back
    else shown bare held_back) ≡ shown (if hit && is_delivered bare then Wanted else bare) held_back
show_rewanted bare held_back hit = grind arith

-- a block is delivered or aborted, whether its task is held back or not
pub shown_delivered : (bare : State) (held_back : Bool) → is_delivered (shown bare held_back) ≡ is_delivered bare
shown_delivered bare held_back = grind arith

pub shown_aborted : (bare : State) (held_back : Bool) → is_aborted (shown bare held_back) ≡ is_aborted bare
shown_aborted bare held_back = grind arith

-- no event suspends a block by itself
pub never_suspended : (past : Past) (block : Block) → is_suspended (bare_state past block) ≡ false
unfolding bare_state
never_suspended [] block = refl
never_suspended (event ∷ past) block = grind (arith, never_suspended past block)

pub never_held_back : (past : Past) (task : ℕ) (block : Block) → is_suspended ((view past task).bare block) ≡ false
unfolding view
never_held_back past task block = never_suspended past (own_of task block)

-- what the history itself says of a task
pub record IsSeen (past : Past) (task : ℕ) : Type 0 where
  pub done : is_done (view past task).work ≡ is_complete past task
  pub was : (view past task).was_complete ≡ was_complete past task
  pub unsealed : is_unsealed (view past task) ≡ is_open_backup past task
  pub terms : (view past task).terms ≡ terms_of past task
  pub blocks : (view past task).blocks ≡ blocks_of past task
  pub segments : (view past task).segments ≡ segments past task

pub seen : (past : Past) (task : ℕ) → IsSeen past task
unfolding view is_complete
seen past task = record { done = refl; was = refl; unsealed = refl; terms = refl; blocks = refl; segments = refl }

-- what is aborted was not delivered
pub ended-done : (hit : Bool) (before : State) → is_delivered (ended hit before) ≡ is_delivered before
ended-done hit before = grind arith

-- where no more is delivered than before, what is held is as it was
pub holds-fewer : (work : Work) (change : Block → State → State)
    → ((block : Block) (before : State) → is_delivered (change block before) ≡ true → is_delivered before ≡ true)
    → (held : ℕ → Option Content) (blocks : List Block)
    → AllByRecursion (HoldsBlock work held) blocks
    → AllByRecursion (HoldsBlock (record work { bare = λ block. change block (work.bare block) }) held) blocks
holds-fewer work change fewer held blocks =
    all_weaker (HoldsBlock work held) (HoldsBlock (record work { bare = λ block. change block (work.bare block) }) held)
    (λ block holds done. holds (fewer block (work.bare block) done)) blocks

-- a session stands as it does when it isn't touched any more, and without its chunks if it is no open backup
pub cleared-stands : (chunks : Chunks) (v : TaskView) (session : Session)
    → ((is_backup session.kind && not session.sealed) ≡ true → chunks ≡ session.chunks)
    → Stands v session → Stands v (record session { touched = false; chunks = chunks })
cleared-stands chunks v session stays h =
    let near : is_unsealed v ≡ true → AllByRecursion (BeginsIn chunks) v.blocks = λ is_open.
    let backup : (is_backup session.kind && not session.sealed) ≡ true = rw (h.terms, sym h.sealed) at is_open in
    rw (stays backup) (h.near is_open) in
    assumption (near, h)

-- the states of a session change that cleans no log, and no more is delivered than before
pub states-told : (change : Block → State → State)
    → ((block : Block) (before : State) → is_delivered (change block before) ≡ true → is_delivered before ≡ true)
    → (v : TaskView) (session : Session) (flag : Bool) → (flag ≡ false → IsQuiet (with_states change v)) → is_clean session.kind ≡ false
    → Told v session → Told (with_states change v) (record session { touched = flag })
states-told change fewer v session flag quiet other h =
    let image : is_unsealed v ≡ true → HoldsImage (with_states change v).work (held_at session.image) = λ is_open.
    let image = h.image is_open in
    record { each = holds-fewer v.work change fewer (held_at session.image) v.blocks image.each; only = image.only } in
    let log : is_clean session.kind ≡ true
    → Cleans (with_states change v).work session.log = λ cleans. absurd (true≢false (sym cleans ∙ other)) in
    let at_work : IsAtWork (with_states change v).work session = λ cleans. absurd (true≢false (sym cleans ∙ other)) in
    let reported : AreReported (with_states change v).work = rw (h.unchosen other) tt in
    assumption (image, log, at_work, reported, quiet)
