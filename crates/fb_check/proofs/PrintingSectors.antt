-- How many sectors runs, cuts and blocks have.
use Rattle.fb_check.proofs.Words.{◌≡◌, ℕ, zero, suc, ◌+◌, ◌≤◌, List, [], ◌∷◌, false, inl, inr, length, length-append, refl, arith, ◌&&◌}
use Rattle.fb_check.proofs.Words.{not, flat_map, sum_by, cases_Bool, Shape, Cut, cutting, Content, Block, Medium, content, contents_at}
use Rattle.fb_check.proofs.Words.{numbered}
use Rattle.std.proofs.Common.{◌==◌, filter}
use Rattle.std.specs.Prelude.{Bool}
use Rattle.std.proofs.lemmas.List.Sums.{sum_by-cons}
use Rattle.std.proofs.lemmas.List.Filters.{sum_by-filter_both}
use Rattle.std.proofs.lemmas.List.FromFn.{length-map-range_with_len}
use Rattle.fb_sectormap.specs.Cutting.{cut_of, with_sector, is_cut_before}
use Rattle.fb_store.specs.declared.content.ContentRun.{ContentRun}
use Rattle.fb_store.specs.Runs.{runs_of, with_content, same_content}

-- ---- runs

abbrev pub run_sectors : List ContentRun → ℕ
run_sectors runs = sum_by (λ run. run.count) runs

one_more : (lbn : ℕ) (content : Content) (runs : List ContentRun) → run_sectors (with_content lbn content runs) ≡ run_sectors runs + 1
one_more lbn content [] = refl
one_more lbn content (run ∷ runs) =
    let count = λ (run : ContentRun). run.count in
    let before = sum_by-cons count run runs in
    elim (cases_Bool ((run.first == lbn + 1) && same_content content run.content)) [
      | inl joins ↦
          rw joins (omega (arith, before, sum_by-cons count (record { first = lbn; count = run.count + 1; content = content }) runs))
      | inr apart ↦ rw apart (omega (arith, sum_by-cons count (record { first = lbn; count = 1; content = content }) (run ∷ runs)))
    ]

-- the runs of sectors have all of them
pub runs_have : (sectors : List (ℕ × Content)) → run_sectors (runs_of sectors) ≡ length sectors
runs_have [] = refl
runs_have (sector ∷ sectors) = omega (arith, one_more sector.0 sector.1 (runs_of sectors), runs_have sectors)

pub contents_have : (medium : Medium) (lbn n t : ℕ) → length (contents_at medium lbn n t) ≡ n
contents_have medium lbn n t = length-map-range_with_len (λ sector. (sector, content medium sector t)) lbn n

-- ---- cuts

abbrev cut_sectors : List Cut → ℕ
cut_sectors cuts = sum_by (λ cut. cut.count) cuts

with_one : (disk : Shape) (block lbn : ℕ) (cuts : List Cut) → cut_sectors (with_sector disk block lbn cuts) ≡ cut_sectors cuts + 1
with_one disk block lbn [] = refl
with_one disk block lbn (cut ∷ cuts) =
    let count = λ (cut : Cut). cut.count in
    let before = sum_by-cons count cut cuts in
    elim (cases_Bool (is_cut_before disk block (lbn + 1))) [
      | inl alone ↦ rw alone (omega (arith, sum_by-cons count (cut_of disk lbn 1) (cut ∷ cuts)))
      | inr joined ↦ rw joined (omega (arith, before, sum_by-cons count (cut_of disk lbn (cut.count + 1)) cuts))
    ]

-- a range is cut into all its sectors
pub cuts_have : (disk : Shape) (block lbn n : ℕ) → cut_sectors (cutting disk block lbn n) ≡ n
unfolding cutting
cuts_have disk block lbn zero = refl
cuts_have disk block lbn (suc n) = omega (arith, with_one disk block lbn (cutting disk block (lbn + 1) n), cuts_have disk block (lbn + 1) n)

-- ---- blocks

abbrev pub sectors : List Block → ℕ
sectors blocks = sum_by (λ block. block.count) blocks

-- the blocks of one task
abbrev pub own : ℕ → List Block → List Block
own task blocks = filter (λ block. block.task == task) blocks

pub numbered_have : (task weight n : ℕ) (cuts : List Cut) → sectors (numbered task weight n cuts) ≡ cut_sectors cuts
numbered_have task weight n [] = refl
numbered_have task weight n (cut ∷ cuts) =
    let block : Block =
    record { task = task; index = n; lbn = cut.lbn; count = cut.count; track = cut.track; weight = weight; sweep = cut.sweep } in
    omega (
      arith,
      sum_by-cons (λ (block : Block). block.count) block (numbered task weight (n + 1) cuts),
      sum_by-cons (λ (cut : Cut). cut.count) cut cuts,
      numbered_have task weight (n + 1) cuts,
    )

pub none_other : (owner task weight n : ℕ) (cuts : List Cut) → (owner == task) ≡ false → own task (numbered owner weight n cuts) ≡ []
none_other owner task weight n [] other = refl
none_other owner task weight n (cut ∷ cuts) other = rw other (none_other owner task weight (n + 1) cuts other)

pub some_have : (p : Block → Bool) (blocks : List Block) → sectors (filter p blocks) ≤ sectors blocks
some_have p blocks = omega (arith, sum_by-filter_both p (λ block. not (p block)) (λ block. refl) (λ (block : Block). block.count) blocks)

-- their contents are those of all their sectors
pub blocks_have : (medium : Medium) (t : ℕ) (blocks : List Block)
    → length (flat_map (λ block. contents_at medium block.lbn block.count t) blocks) ≡ sectors blocks
blocks_have medium t [] = refl
blocks_have medium t (block ∷ blocks) = omega (
  arith,
  length-append (contents_at medium block.lbn block.count t)
      (flat_map (λ (block : Block). contents_at medium block.lbn block.count t) blocks),
  contents_have medium block.lbn block.count t,
  blocks_have medium t blocks,
  sum_by-cons (λ (block : Block). block.count) block blocks,
)
