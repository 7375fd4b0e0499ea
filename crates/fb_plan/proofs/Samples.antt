-- One more block of the first task.
use Rattle.fb_plan.proofs.Words.{◌≡◌, ℕ, ◌+◌, ◌==◌, List, [], ◌∷◌, ◌++◌, inl, inr, refl, sym, subst, arith, length, cases_Bool, Disk}
use Rattle.fb_plan.proofs.Words.{Entry, blocks_of, IsBlockOn, AreOnDisk}
use Rattle.std.proofs.Common.{length-append}
use Rattle.fb_units.proofs.Changed.{old_or_last}
use Rattle.fb_wanted.specs.Numbering.{registered_count}

on-disk-more : (disk : Disk) (es : List Entry) (e : Entry) → AreOnDisk disk es → IsBlockOn disk.map e.block → AreOnDisk disk (es ++ e ∷ [])
on-disk-more disk es e h fits i x at = elim (old_or_last es e x i at) [
  | inl old ↦ h i x old.1
  | inr new ↦ subst (λ y. IsBlockOn disk.map y.block) (sym new.1) fits
]

registered-more : (es : List Entry) (e : Entry) → e.block.task ≡ 0
    → registered_count 0 (blocks_of (es ++ e ∷ [])) ≡ registered_count 0 (blocks_of es) + 1
registered-more [] e h = rw h refl
registered-more (x ∷ es) e h = elim (cases_Bool (x.block.task == 0)) [
  | inl yes' ↦ rw yes' (omega (arith, registered-more es e h))
  | inr no' ↦ rw no' (registered-more es e h)
]

pub sample-more : (disk : Disk) (es new : List Entry) (e : Entry) (i : ℕ) → new ≡ es ++ e ∷ [] → e.block.task ≡ 0
    → IsBlockOn disk.map e.block
    → (registered_count 0 (blocks_of es) ≡ i) × (length es ≡ i) × AreOnDisk disk es
    → (registered_count 0 (blocks_of new) ≡ i + 1) × (length new ≡ i + 1) × AreOnDisk disk new
sample-more disk es new e i same task fits h =
    subst (λ xs. (registered_count 0 (blocks_of xs) ≡ i + 1) × (length xs ≡ i + 1) × AreOnDisk disk xs) (sym same)
    (omega (arith, registered-more es e task, h.0), omega (arith, length-append es (e ∷ []), h.1), on-disk-more disk es e h.2 fits)
