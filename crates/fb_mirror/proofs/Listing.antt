-- Lists that grow with the rows that were seen.
use Rattle.fb_mirror.proofs.Words.{◌≡◌, ℕ, ◌+◌, List, [], ◌∷◌, ◌++◌, map, take, drop, slice_get, Option, Some, refl, sym, ap, ◌∙◌}
use Rattle.fb_mirror.proofs.Words.{append-nil, flat_map, map-append, BackRow, Got, Seal, ContentRun, Change, changes_in, changes_of, Event}
use Rattle.fb_mirror.proofs.Words.{sealed_in}
use Rattle.std.proofs.Common.{append_assoc}
use Rattle.std.proofs.lemmas.Grind.{flat_map-append}
use Rattle.fb_units.proofs.Lists.{drop_at, take_at}
use Rattle.fb_rows.specs.declared.back.BackRow.TheVariants.{Gap, Idle, Bad, Segment, Complete, Task}
use Rattle.fb_rows.specs.declared.back.SealRow.{SealRow}
use Rattle.fb_mirror.specs.Replacement.{sealed_by}

-- the changes of the rows so far, and of the next row
pub row_added : {X : Type 0} (f : X → List Event) (rows : List X) (i : ℕ) (row : X) (old now new : List Change)
    → slice_get rows i ≡ Some row
    → now ≡ old ++ changes_of (flat_map f (take i rows)) → new ≡ now ++ changes_of (f row)
    → new ≡ old ++ changes_of (flat_map f (take (i + 1) rows))
row_added f rows i row old now new is so_far added =
    let before = flat_map f (take i rows) in
    let whole : flat_map f (take (i + 1) rows) ≡ before ++ f row = ap (flat_map f) (take_at rows i row is)
    ∙ flat_map-append f (take i rows) (row ∷ []) ∙ ap (λ es. before ++ es) (append-nil (f row)) in
    added ∙ ap (λ cs. cs ++ changes_of (f row)) so_far ∙ append_assoc old (changes_of before) (changes_of (f row))
    ∙ ap (λ cs. old ++ cs) (sym (ap changes_of whole ∙ flat_map-append changes_in before (f row)))

pub run_added : (f : ContentRun → Change) (runs : List ContentRun) (i : ℕ) (run : ContentRun) (old now new : List Change)
    → slice_get runs i ≡ Some run
    → now ≡ old ++ map f (take i runs) → new ≡ now ++ f run ∷ [] → new ≡ old ++ map f (take (i + 1) runs)
run_added f runs i run old now new is so_far added =
    added ∙ ap (λ cs. cs ++ f run ∷ []) so_far ∙ append_assoc old (map f (take i runs)) (f run ∷ [])
    ∙ ap (λ cs. old ++ cs) (sym (ap (map f) (take_at runs i run is) ∙ map-append f (take i runs) (run ∷ [])))

-- a seal row ends the search for one, and any other row is passed over
pub seal_found : (rows : List BackRow) (i : ℕ) (got : BackRow) (row : SealRow) → slice_get rows i ≡ Some got → got ≡ Seal row
    → sealed_in (drop i rows) ≡ sealed_in rows → Some row.instant ≡ sealed_in rows
seal_found rows i got row is seal so_far =
    sym (ap sealed_in (drop_at rows i got is) ∙ ap (λ r. sealed_by r (sealed_in (drop (i + 1) rows))) seal) ∙ so_far

no_seal : (got : BackRow) (behind : Option ℕ) → ((row : SealRow) → got ≡ Seal row → ⊥) → sealed_by got behind ≡ behind
no_seal (Gap row) behind other = refl
no_seal (Idle row) behind other = refl
no_seal (Got row) behind other = refl
no_seal (Bad row) behind other = refl
no_seal (Seal row) behind other = absurd (other row refl)
no_seal (Segment row) behind other = refl
no_seal (Complete row) behind other = refl
no_seal (Task row) behind other = refl

pub seal_passed : (rows : List BackRow) (i : ℕ) (got : BackRow) → slice_get rows i ≡ Some got → ((row : SealRow) → got ≡ Seal row → ⊥)
    → sealed_in (drop i rows) ≡ sealed_in rows → sealed_in (drop (i + 1) rows) ≡ sealed_in rows
seal_passed rows i got is other so_far =
    sym (ap sealed_in (drop_at rows i got is) ∙ no_seal got (sealed_in (drop (i + 1) rows)) other) ∙ so_far
