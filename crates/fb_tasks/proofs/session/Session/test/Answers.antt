use Rattle.fb_tasks.proofs.Words.{append_assoc, complete_rows, ap, ◌∙◌, ◌++◌, ◌∷◌, [], ◌&&◌, not, if◌then◌else◌, subst, rules, on_ok_weaker}
use Rattle.fb_tasks.proofs.Words.{on_err_weaker, BackComplete, view, tested-view, seal_rows_found, complete_by, IsSealed, on_err}
use Rattle.fb_tasks.proofs.Words.{Session, ◌≡◌, is_done}
use Rattle.fb_tasks.proofs.{Complete.done_same, States.seen, Complete.counts_small, Leaving.begun_after}
use Rattle.fb_tasks.proofs.{Leaving.begun_same, Sealed.seals_same, Tested.stands-tested}
use Rattle.fb_tasks.proofs.session.Session.test.Goals as goal

pub is_complete-complete-requires : goal.is_complete-complete-requires
is_complete-complete-requires c =
    counts_small c.requires.1 c.args.task c.args.wanted.now c.counts.result c.counts.ensures c.requires.2.blocks.entries (search rules)

pub returns-clause-tested : goal.returns-clause-tested
returns-clause-tested c = on_ok_weaker c.add_completion.result (λ pushed disk past may.
    let self = c.args.self.now in
    let mid = c.add_seal.new.self in
    let task = c.args.task in
    let says = c.is_complete-complete.ensures
    ∙ (ap (complete_by self) c.counts.ensures ∙ done_same past task self c.args.wanted.now may.stands may.at_work may.blocks.entries) in
    let sealed =
    subst (λ b. IsSealed b self mid) (seals_same self c.is_complete-complete.result may.stands says) c.add_seal.ensures.session in
    let after : c.add_completion.new.self ≡ record mid { complete = is_done (view past task).work } =
    c.add_completion.ensures.session ∙ ap (λ b. record mid { complete = b }) says in
    let was = ap (λ (s : Session). s.complete) c.add_seal.ensures.session.same ∙ may.stands.complete in
    record {
      session = λ all given. rw (tested-view past all task, after)
          (stands-tested task (view past task) all given self mid sealed may.stands may.at_work);
      rows = pushed ∙ (ap (λ rows. rows ++ (if c.is_complete-complete.result && not mid.complete then BackComplete
          (record { task = task; instant = c.args.now }) ∷ [] else []))
          (c.in_ok-add_seal.ensures.rows disk past may.blocks may.stands (says ∙ (seen past task).done))
          ∙ rw (says, (seen past task).done, was, (seen past task).was)
          (append_assoc c.args.rows.now (seal_rows_found past c.args.now task) (complete_rows past c.args.now task)));
    }) c.add_completion.ensures.rows

pub returns-clause-err_rows : goal.returns-clause-err_rows
returns-clause-err_rows c = on_err_weaker c.add_completion.result (λ same disk past may.
    let says = c.is_complete-complete.ensures ∙ (ap (complete_by c.args.self.now) c.counts.ensures
    ∙ done_same past c.args.task c.args.self.now c.args.wanted.now may.stands may.at_work may.blocks.entries) in
    begun_after (seal_rows_found past c.args.now c.args.task) (c.in_ok-add_seal.ensures.rows disk past may.blocks may.stands
    (says ∙ (seen past c.args.task).done)) (begun_same same)) c.add_completion.ensures.err

pub returns-in_err-add_seal-clause-err_rows : goal.returns-in_err-add_seal-clause-err_rows
returns-in_err-add_seal-clause-err_rows c = on_err c.from_residual.result (λ disk past may. begun_same c.in_err-add_seal.ensures.err)
