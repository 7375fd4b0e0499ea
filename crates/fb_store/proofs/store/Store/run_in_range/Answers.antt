use Rattle.fb_store.proofs.Words.{subst, sym, ◌∙◌, ◌-◌, content_in, IsRun}
use Rattle.fb_store.proofs.Originals.{IsRun-written, IsRun-unwritten}
use Rattle.fb_store.proofs.store.Store.run_in_range.Goals as goal

pub returns-in-Some : goal.returns-in-Some
returns-in-Some c = subst (λ holding. IsRun (content_in holding) c.args.first c.args.end (record {
  first = c.args.first;
  count = c.held_up_to-held.result.1 - c.args.first;
  content = c.in-Some.content;
})) c.self.view_is
    (IsRun-written c.self.inside.ranges.entries c.self.inside.latent.keys c.args.first c.args.end c.held_up_to-held.result.1 c.in-Some.content
    c.held_up_to-held.ensures.above c.held_up_to-held.ensures.within
    (sym c.in-Some.is ∙ c.held_up_to-held.ensures.held) c.held_up_to-held.ensures.least)

pub returns-in-None : goal.returns-in-None
returns-in-None c = subst (λ holding. IsRun (content_in holding) c.args.first c.args.end c.original_run.result) c.self.view_is
    (IsRun-unwritten c.self.inside.ranges.entries c.self.inside.latent.keys c.args.first c.args.end c.held_up_to-held.result.1
    c.original_run.result c.held_up_to-held.ensures.within
    (sym c.in-None.is ∙ c.held_up_to-held.ensures.held) c.held_up_to-held.ensures.least c.original_run.ensures)
