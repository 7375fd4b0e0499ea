use Rattle.fb_tasks.proofs.Words.{refl, finished, read-silent}
use Rattle.fb_tasks.proofs.Frames.{silent-tells}
use Rattle.fb_tasks.proofs.sessions.reads_change_nothing.Goals as goal

pub returns : goal.returns
returns c = λ disk past request sessions entries read h.
    silent-tells disk past (finished request) sessions entries (λ task. read-silent past request task read) refl refl h
