-- The foreground is that of the plain replay, whatever the background does.
use Rattle.fb_model.proofs.Words.{◌≡◌, ℕ, List, map, refl, ap, sym, ◌∙◌, Request, Disk, ForeRow, Run, fold, flat_map, behind, promoted}
use Rattle.fb_model.proofs.Words.{Key, plain_replay, Inputs, served, writes_of, fore_row, medium_of, fore_rows}
use Rattle.fb_model.specs.SoundRun.{IsSound}
use Rattle.fb_model.specs.Laws.{HaveOneForeground}
use Rattle.fb_model.proofs.ContentsUpTo.{same_found}

-- the rows, of what they are made from
abbrev rows_from : Disk → List ℕ → Key → List Request → List Request → List ForeRow
rows_from disk latent key trace reads =
    map (fore_row (record { disk = disk; latent = latent; writes = flat_map writes_of (plain_replay disk key (fold behind trace reads)) }))
    (plain_replay disk key (fold behind trace reads))

rows_are : (inputs : Inputs) → fore_rows inputs ≡ rows_from inputs.disk inputs.latent inputs.key inputs.trace (promoted inputs.calls)
unfolding served medium_of fore_rows
rows_are inputs = refl

same_rows : (a b : Inputs) → HaveOneForeground a b → fore_rows a ≡ fore_rows b
same_rows a b h =
    rows_are a
    ∙ ap (λ disk. rows_from disk a.latent a.key a.trace (promoted a.calls)) h.disk
    ∙ same_found b.disk a.latent b.latent (flat_map writes_of (plain_replay b.disk a.key (fold behind a.trace (promoted a.calls)))) h.latent
    (plain_replay b.disk a.key (fold behind a.trace (promoted a.calls)))
    ∙ ap (λ key. rows_from b.disk b.latent key a.trace (promoted a.calls)) h.key
    ∙ ap (λ trace. rows_from b.disk b.latent b.key trace (promoted a.calls)) h.trace
    ∙ ap (rows_from b.disk b.latent b.key b.trace) h.promoted
    ∙ sym (rows_are b)

pub untouched : (a b : Inputs) (run_a run_b : Run) → HaveOneForeground a b → IsSound a run_a → IsSound b run_b → run_a.fore ≡ run_b.fore
untouched a b run_a run_b same h k = h.sound.fore ∙ same_rows a b same ∙ sym k.sound.fore
