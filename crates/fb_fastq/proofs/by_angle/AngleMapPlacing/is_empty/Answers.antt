use Rattle.fb_fastq.proofs.Words.{◌≡◌, ◌∙◌, ap, sym, subst, length, ◌==◌, pending_of}
use Rattle.fb_fastq.proofs.Least.{length_pending, tells_none}
use Rattle.fb_fastq.proofs.by_angle.AngleMapPlacing.is_empty.Goals as goal

pub returns : goal.returns
returns c =
    let ws = c.self.inside.waiting.entries in
    let seen = ap (λ v. v.waiting) c.self.view_is in
    subst (λ es. c.is_empty.result ≡ (length (pending_of es) == 0)) seen
    (tells_none c.is_empty.result (length ws) c.is_empty.ensures ∙ ap (λ n. n == 0) (sym (length_pending ws)))
