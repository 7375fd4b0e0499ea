-- After a call that may follow, the calls still obey the rules.
use Rattle.std.proofs.Common.{◌≡◌, ℕ, ◌^◌, ◌≤◌, Bool, true, false, ◌&&◌, ◌||◌, nat_eq, List, [], ◌∷◌, ◌++◌, length, map, length-append}
use Rattle.std.proofs.Common.{append-nil, refl, sym, ap, ◌∙◌, subst, arith}
use Rattle.std.specs.List.{AllByRecursion, list_any}
use Rattle.std.proofs.Math.Bool.{or-false, and-false, and-true}
use Rattle.std.proofs.lemmas.Grind.{flat_map-append}
use Rattle.std.proofs.lemmas.List.{map_push}
use Rattle.std.proofs.lemmas.List.Folds.{list_any-append}
use Rattle.fb_units.proofs.Changed.{get_or-push_like, get_or-push_holds, get_or-set_like, get_or-set_marked, map-set_like}
use Rattle.fb_units.proofs.Comparing.{rising_push}
use Rattle.fb_units.proofs.Lists.{all_push, all_weaker}
use Rattle.fb_units.specs.Rising.{IsRising}
use Rattle.fb_geometry.specs.Shape.{Shape}
use Rattle.fb_script.specs.declared.call.Action.{Action}
use Rattle.fb_script.specs.declared.call.Action.TheVariants.{Open, Want, Abort, Promote, Suspend, Resume, Close, Segment}
use Rattle.fb_script.specs.declared.call.Call.{Call}
use Rattle.fb_script.specs.declared.call.Kind.TheVariants.{Plain}
use Rattle.fb_calls.specs.declared.opened_task.OpenedTask.{OpenedTask}
use Rattle.fb_script.specs.Allowed.{Terms, terms_in, tasks, is_close, is_want}
use Rattle.fb_script.specs.Blocks.{blocks_in}
use Rattle.fb_calls.specs.Judgement.{Progress, with_call}
use Rattle.fb_calls.specs.Sessions.{session_of, names_after, sessions_after}
use Rattle.fb_calls.proofs.Accepting.{IsPlace, Admits, same_block}
use Rattle.fb_calls.proofs.Following.{of_session, of_task, Knows, allowed_push, blocks_from-push, reads-push}

tasks-push : (calls : List Call) (call : Call) → tasks (calls ++ call ∷ []) ≡ tasks calls ++ terms_in call.action
tasks-push calls call = flat_map-append (λ (c : Call). terms_in c.action) calls (call ∷ [])
    ∙ ap (λ last. tasks calls ++ last) (append-nil (terms_in call.action))

any-push : (test : Call → Bool) (calls : List Call) (call : Call) → list_any test (calls ++ call ∷ []) ≡ (list_any test calls || test call)
any-push test calls call = list_any-append test calls (call ∷ []) ∙ ap (λ last. list_any test calls || last) (or-false (test call))

-- a test that another call leaves as it was, and one that it makes true
unmarked : (before here : Bool) → before ≡ (before || (here && false))
unmarked before here = sym (ap (λ last. before || last) (and-false here) ∙ or-false before)

marked : (before here : Bool) → (before || here) ≡ (before || (here && true))
marked before here = ap (λ last. before || last) (sym (and-true here))

terms_after : (sessions : List OpenedTask) (task : ℕ) (action : Action) (terms : List Terms) → map of_session sessions ≡ map of_task terms
    → map of_session (sessions_after sessions task action) ≡ map of_task (terms ++ terms_in action)
terms_after sessions task (Open kind weight block) terms same =
    map_push of_session sessions (record { kind = kind; block = block; wanted = false; closed = false })
    ∙ ap (λ front. front ++ (kind, block) ∷ []) same
    ∙ sym (map_push of_task terms (record { kind = kind; weight = weight; block = block }))
terms_after sessions task (Want first count) terms same =
    map-set_like of_session sessions (record (session_of sessions task) { wanted = true })
    (record { kind = Plain; block = 1; wanted = false; closed = false }) task refl ∙ same ∙ ap (map of_task) (sym (append-nil terms))
terms_after sessions task (Abort first count) terms same = same ∙ ap (map of_task) (sym (append-nil terms))
terms_after sessions task (Promote first count) terms same = same ∙ ap (map of_task) (sym (append-nil terms))
terms_after sessions task Suspend terms same = same ∙ ap (map of_task) (sym (append-nil terms))
terms_after sessions task Resume terms same = same ∙ ap (map of_task) (sym (append-nil terms))
terms_after sessions task Close terms same =
    map-set_like of_session sessions (record (session_of sessions task) { closed = true })
    (record { kind = Plain; block = 1; wanted = false; closed = false }) task refl ∙ same ∙ ap (map of_task) (sym (append-nil terms))
terms_after sessions task (Segment first blocks age live) terms same = same ∙ ap (map of_task) (sym (append-nil terms))

names_long : (names : List (List ℕ)) (name : List ℕ) (action : Action) (terms : List Terms) → length names ≡ length terms
    → length (names_after names name action) ≡ length (terms ++ terms_in action)
names_long names name (Open kind weight block) terms same =
    omega (arith, length-append names (name ∷ []), length-append terms (record { kind = kind; weight = weight; block = block } ∷ []), same)
names_long names name (Want first count) terms same = omega (arith, length-append terms [], same)
names_long names name (Abort first count) terms same = omega (arith, length-append terms [], same)
names_long names name (Promote first count) terms same = omega (arith, length-append terms [], same)
names_long names name Suspend terms same = omega (arith, length-append terms [], same)
names_long names name Resume terms same = omega (arith, length-append terms [], same)
names_long names name Close terms same = omega (arith, length-append terms [], same)
names_long names name (Segment first blocks age live) terms same = omega (arith, length-append terms [], same)

abbrev no_session : OpenedTask
no_session = record { kind = Plain; block = 1; wanted = false; closed = false }

module _ (so_far : Progress) (task i : ℕ) where
  closed_after : (action : Action) → IsPlace so_far task action → (session_of (sessions_after so_far.sessions task action) i).closed
      ≡ ((session_of so_far.sessions i).closed || (nat_eq task i && is_close action))
  closed_after (Open kind weight block) place =
      get_or-push_like (λ (s : OpenedTask). s.closed) so_far.sessions
      (record { kind = kind; block = block; wanted = false; closed = false }) no_session i refl ∙ unmarked _ (nat_eq task i)
  closed_after (Want first count) place =
      get_or-set_like (λ (s : OpenedTask). s.closed) so_far.sessions
      (record (session_of so_far.sessions task) { wanted = true }) no_session task i refl ∙ unmarked _ (nat_eq task i)
  closed_after Close place =
      get_or-set_marked (λ (s : OpenedTask). s.closed) so_far.sessions
      (record (session_of so_far.sessions task) { closed = true }) no_session task i place refl ∙ marked _ (nat_eq task i)
  closed_after (Abort first count) place = unmarked (session_of so_far.sessions i).closed (nat_eq task i)
  closed_after (Promote first count) place = unmarked (session_of so_far.sessions i).closed (nat_eq task i)
  closed_after Suspend place = unmarked (session_of so_far.sessions i).closed (nat_eq task i)
  closed_after Resume place = unmarked (session_of so_far.sessions i).closed (nat_eq task i)
  closed_after (Segment first blocks age live) place = unmarked (session_of so_far.sessions i).closed (nat_eq task i)

  wanted_after : (action : Action) → IsPlace so_far task action → (session_of (sessions_after so_far.sessions task action) i).wanted
      ≡ ((session_of so_far.sessions i).wanted || (nat_eq task i && is_want action))
  wanted_after (Open kind weight block) place =
      get_or-push_like (λ (s : OpenedTask). s.wanted) so_far.sessions
      (record { kind = kind; block = block; wanted = false; closed = false }) no_session i refl ∙ unmarked _ (nat_eq task i)
  wanted_after (Want first count) place =
      get_or-set_marked (λ (s : OpenedTask). s.wanted) so_far.sessions
      (record (session_of so_far.sessions task) { wanted = true }) no_session task i place refl ∙ marked _ (nat_eq task i)
  wanted_after Close place =
      get_or-set_like (λ (s : OpenedTask). s.wanted) so_far.sessions
      (record (session_of so_far.sessions task) { closed = true }) no_session task i refl ∙ unmarked _ (nat_eq task i)
  wanted_after (Abort first count) place = unmarked (session_of so_far.sessions i).wanted (nat_eq task i)
  wanted_after (Promote first count) place = unmarked (session_of so_far.sessions i).wanted (nat_eq task i)
  wanted_after Suspend place = unmarked (session_of so_far.sessions i).wanted (nat_eq task i)
  wanted_after Resume place = unmarked (session_of so_far.sessions i).wanted (nat_eq task i)
  wanted_after (Segment first blocks age live) place = unmarked (session_of so_far.sessions i).wanted (nat_eq task i)

sizes_after : (so_far : Progress) (task : ℕ) (action : Action) → IsPlace so_far task action
    → ((i : ℕ) → 1 ≤ (session_of so_far.sessions i).block) → (i : ℕ) → 1 ≤ (session_of (sessions_after so_far.sessions task action) i).block
sizes_after so_far task (Open kind weight block) place sizes i =
    get_or-push_holds (λ (s : OpenedTask). 1 ≤ s.block) so_far.sessions
    (record { kind = kind; block = block; wanted = false; closed = false }) no_session sizes place.1 i
sizes_after so_far task (Want first count) place sizes i =
    subst (λ size. 1 ≤ size) (sym (get_or-set_like (λ (s : OpenedTask). s.block) so_far.sessions
    (record (session_of so_far.sessions task) { wanted = true }) no_session task i refl)) (sizes i)
sizes_after so_far task Close place sizes i =
    subst (λ size. 1 ≤ size) (sym (get_or-set_like (λ (s : OpenedTask). s.block) so_far.sessions
    (record (session_of so_far.sessions task) { closed = true }) no_session task i refl)) (sizes i)
sizes_after so_far task (Abort first count) place sizes i = sizes i
sizes_after so_far task (Promote first count) place sizes i = sizes i
sizes_after so_far task Suspend place sizes i = sizes i
sizes_after so_far task Resume place sizes i = sizes i
sizes_after so_far task (Segment first blocks age live) place sizes i = sizes i

pub call_kept : (disk : Shape) (traced : ℕ) (so_far : Progress) → Knows disk traced so_far → (name : List ℕ) (call : Call)
    → so_far.instant ≤ call.instant → call.instant ≤ 10 ^ 15
    → Admits disk so_far call.task call.action → Knows disk traced (with_call disk name so_far call)
call_kept disk traced so_far knows name call later early admits =
    let calls = so_far.calls in
    let instant : Call → ℕ = λ c. c.instant in
    let before : AllByRecursion (λ instant. instant ≤ call.instant) (map instant calls) =
    all_weaker (λ i. i ≤ so_far.instant) (λ i. i ≤ call.instant) (λ i le. omega arith) (map instant calls) knows.last in
    let cut = ap (λ block. blocks_in disk block call.action) (same_block disk traced so_far knows call.task) in
    record {
      terms = terms_after so_far.sessions call.task call.action (tasks calls) knows.terms ∙ ap (map of_task) (sym (tasks-push calls call));
      names_are = names_long so_far.names name call.action (tasks calls) knows.names_are ∙ ap length (sym (tasks-push calls call));
      sizes = sizes_after so_far call.task call.action admits.place knows.sizes;
      closed = λ task. closed_after so_far call.task task call.action admits.place
          ∙ ap (λ b. b || (nat_eq call.task task && is_close call.action)) (knows.closed task)
          ∙ sym (any-push (λ c. nat_eq c.task task && is_close c.action) calls call);
      wanted = λ task. wanted_after so_far call.task task call.action admits.place
          ∙ ap (λ b. b || (nat_eq call.task task && is_want call.action)) (knows.wanted task)
          ∙ sym (any-push (λ c. nat_eq c.task task && is_want c.action) calls call);
      allowed = allowed_push disk [] calls call knows.allowed early admits.may;
      blocks_are = omega (arith, blocks_from-push disk [] calls call, knows.blocks_are, cut);
      few_blocks = admits.room.blocks;
      reads_are = omega (arith, reads-push 1 calls call, knows.reads_are);
      few_reads = λ few. let reads = knows.few_reads few in omega (arith, admits.room.reads);
      rising = subst IsRising (sym (map_push instant calls call)) (rising_push (map instant calls) call.instant knows.rising before);
      last = subst (AllByRecursion (λ i. i ≤ call.instant)) (sym (map_push instant calls call)) (all_push (λ i. i ≤ call.instant)
          (map instant calls) call.instant before (omega arith));
    }
