use Rattle.fb_store.proofs.Words.{ap, ◌∙◌, unwrap_or, nat_cmp, get, on_err, unwritten, after_write, held_of, content_in}
use Rattle.fb_store.proofs.Originals.{content_written}
use Rattle.fb_store.proofs.store.Store.write_range.Goals as goal

pub returns-clause-ok : goal.returns-clause-ok
returns-clause-ok c lbn =
    content_written c.args.first c.args.count c.args.writer lbn (held_of (get nat_cmp c.self.inside.ranges) lbn)
    (held_of (get nat_cmp c.write.new.ranges) lbn) (unwritten c.self.inside.latent.keys lbn)
    (c.in_ok-write.ensures.inside lbn) (c.in_ok-write.ensures.before lbn) (c.in_ok-write.ensures.after lbn)
    ∙ ap (λ holding. after_write c.args.first c.args.count c.args.writer lbn (content_in holding lbn)) c.self.view_is

pub returns-in_err-write-clause-err : goal.returns-in_err-write-clause-err
returns-in_err-write-clause-err c = on_err c.from_residual.result (λ lbn.
    ap (λ w. unwrap_or w (unwritten c.self.inside.latent.keys lbn)) (c.in_err-write.ensures.err lbn)
    ∙ ap (λ holding. content_in holding lbn) c.self.view_is)
