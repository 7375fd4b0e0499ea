-- A script with one more call.
use Rattle.std.proofs.Common.{◌≡◌, ℕ, ◌+◌, ◌*◌, ◌^◌, ◌≤◌, List, [], ◌∷◌, ◌++◌, length, map, length-append, append_assoc, append-nil, refl}
use Rattle.std.proofs.Common.{sym, ap, subst, arith}
use Rattle.std.specs.List.{AllByRecursion}
use Rattle.fb_units.specs.Rising.{IsRising}
use Rattle.fb_geometry.specs.Shape.{Shape}
use Rattle.fb_script.specs.declared.call.Action.{Action}
use Rattle.fb_script.specs.declared.call.Action.TheVariants.{Open, Want, Abort, Promote, Suspend, Resume, Close, Segment}
use Rattle.fb_script.specs.declared.call.Call.{Call}
use Rattle.fb_script.specs.declared.call.Kind.{Kind}
use Rattle.fb_calls.specs.declared.opened_task.OpenedTask.{OpenedTask}
use Rattle.fb_script.specs.Allowed.{Terms, tasks, terms_of, is_closed, has_want, MayAsk, AreAllowed, blocks_from}
use Rattle.fb_script.specs.Blocks.{blocks_in, reads_in}
use Rattle.fb_calls.specs.Judgement.{Progress}
use Rattle.fb_script.specs.Promoted.{read_of, promoted_from, promoted}
use Rattle.fb_calls.specs.Sessions.{session_of}

-- the kind and the block size of a session
abbrev pub of_session : OpenedTask → Kind × ℕ
of_session session = (session.kind, session.block)

abbrev pub of_task : Terms → Kind × ℕ
of_task terms = (terms.kind, terms.block)

-- the calls so far are allowed, and the names, sessions and counts agree with them
pub record Knows (disk : Shape) (traced : ℕ) (so_far : Progress) : Type 0 where
  pub terms : map of_session so_far.sessions ≡ map of_task (tasks so_far.calls)
  pub names_are : length so_far.names ≡ length (tasks so_far.calls)
  pub sizes : (task : ℕ) → 1 ≤ (session_of so_far.sessions task).block
  pub closed : (task : ℕ) → (session_of so_far.sessions task).closed ≡ is_closed so_far.calls task
  pub wanted : (task : ℕ) → (session_of so_far.sessions task).wanted ≡ has_want so_far.calls task
  pub allowed : AreAllowed disk [] so_far.calls
  pub blocks_are : so_far.blocks ≡ blocks_from disk [] so_far.calls
  pub few_blocks : so_far.blocks ≤ 16 * 10 ^ 6
  pub reads_are : so_far.reads ≡ traced + length (promoted so_far.calls)
  pub few_reads : traced ≤ 10 ^ 6 → so_far.reads ≤ 10 ^ 6
  pub rising : IsRising (map (λ call. call.instant) so_far.calls)
  pub last : AllByRecursion (λ instant. instant ≤ so_far.instant) (map (λ call. call.instant) so_far.calls)

-- allowed calls with one more that is allowed after them are allowed
pub allowed_push : (disk : Shape) (before calls : List Call) (call : Call) → AreAllowed disk before calls → call.instant ≤ 10 ^ 15
    → MayAsk disk (before ++ calls) call.task call.action
    → AreAllowed disk before (calls ++ call ∷ [])
allowed_push disk before [] call allowed early may =
    (early, subst (λ front. MayAsk disk front call.task call.action) (append-nil before) may, tt)
allowed_push disk before (first ∷ calls) call allowed early may = (
  allowed.0,
  allowed.1,
  allowed_push disk (before ++ first ∷ []) calls call allowed.2 early
      (subst (λ front. MayAsk disk front call.task call.action) (sym (append_assoc before (first ∷ []) calls)) may),
)

pub blocks_from-push : (disk : Shape) (before calls : List Call) (call : Call)
    → blocks_from disk before (calls ++ call ∷ [])
    ≡ blocks_from disk before calls + blocks_in disk (terms_of (before ++ calls) call.task).block call.action
blocks_from-push disk before [] call = rw (append-nil before) (omega arith)
blocks_from-push disk before (first ∷ calls) call =
    let rest = blocks_from-push disk (before ++ first ∷ []) calls call in
    let same = ap (λ front. blocks_in disk (terms_of front call.task).block call.action) (append_assoc before (first ∷ []) calls) in
    omega (arith, rest, same)

length-read_of : (n : ℕ) (call : Call) (action : Action) → length (read_of n call action) ≡ reads_in action
length-read_of n call (Open kind weight block) = refl
length-read_of n call (Want first count) = refl
length-read_of n call (Abort first count) = refl
length-read_of n call (Promote first count) = refl
length-read_of n call Suspend = refl
length-read_of n call Resume = refl
length-read_of n call Close = refl
length-read_of n call (Segment first blocks age live) = refl

pub reads-push : (n : ℕ) (calls : List Call) (call : Call)
    → length (promoted_from n (calls ++ call ∷ [])) ≡ length (promoted_from n calls) + reads_in call.action
reads-push n [] call = omega (arith, length-append (read_of n call call.action) [], length-read_of n call call.action)
reads-push n (first ∷ calls) call =
    let reads = read_of n first first.action in
    omega (
      arith,
      length-append reads (promoted_from (n + length reads) (calls ++ call ∷ [])),
      length-append reads (promoted_from (n + length reads) calls),
      reads-push (n + length reads) calls call,
    )
