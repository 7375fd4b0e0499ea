use Rattle.fb_tasks.proofs.Words.{refl, ◌≡◌, true, ap, ◌∙◌, ◌++◌, sym, on_ok_weaker, view, is_unsealed, and-false}
use Rattle.fb_tasks.proofs.{States.seen, Sealed.seal_row, Sealed.no-seal, Changes.open_by}
use Rattle.fb_tasks.proofs.session.Session.add_seal.Goals.{then-not-complete-via-then-not-complete}
use Rattle.fb_tasks.proofs.session.Session.add_seal.Goals.{then-not-complete-via-else-not-complete+then-not-is_open_backup}
use Rattle.fb_tasks.proofs.session.Session.add_seal.Goals as goal

pub returns-clause-rows : goal.returns-clause-rows
returns-clause-rows c = on_ok_weaker c.push.result (λ pushed disk past holds stands says.
    let complete = sym says ∙ c.if-not-complete.false in
    let is_open : is_unsealed (view past c.args.stamp.task) ≡ true = open_by (view past c.args.stamp.task) c.args.self.now stands
    ∙ (sym c.is_open_backup.ensures ∙ c.if-not-is_open_backup.false) in
    pushed ∙ ap (λ rows. c.args.rows.now ++ rows) (seal_row past c.args.stamp.instant c.args.stamp.task c.in_ok-content.content is_open
    ((seen past c.args.stamp.task).done ∙ complete) (c.in_ok-content.ensures.content disk past holds stands
    (sym (seen past c.args.stamp.task).unsealed ∙ is_open) complete))) c.push.ensures.ok

pub returns-then-not-complete-clause-rows : goal.returns-then-not-complete-clause-rows
returns-then-not-complete-clause-rows c =
    λ disk past holds stands says. no-seal past c.args.stamp.instant c.args.stamp.task c.args.rows.now (elim c.then-not-complete.branch [
      | then-not-complete-via-then-not-complete w ↦
          rw ((seen past c.args.stamp.task).done ∙ (sym says ∙ w.if-not-complete.true))
          (and-false (is_unsealed (view past c.args.stamp.task)))
      | then-not-complete-via-else-not-complete+then-not-is_open_backup w ↦
          rw (open_by (view past c.args.stamp.task) c.args.self.now stands ∙ (sym w.is_open_backup.ensures ∙ w.if-not-is_open_backup.true))
          refl
    ])
