-- Blocks of a task that are cut from a range, and those of a segment's live blocks, one after another.
use Rattle.fb_units.proofs.Lists.{drop_at}
use Rattle.fb_units.proofs.Parts.{range-append}
use Rattle.fb_tasks.proofs.Words.{◌≡◌, ℕ, suc, ◌+◌, ◌-◌, ◌^◌, ◌<◌, ◌≤◌, List, [], ◌∷◌, ◌++◌, length, refl, ap, sym, ◌∙◌, arith, subst, Some}
use Rattle.fb_tasks.proofs.Words.{drop, slice_get, append_assoc, length-append, AllByRecursion, flat_map, range_with_len, Shape, places}
use Rattle.fb_tasks.proofs.Words.{Cut, IsOneTurn, cutting, numbered, AreCuts, cuts_rise, IsBlockOf, AreNumbered, Ascend, map-append}
use Rattle.fb_tasks.proofs.Words.{length-map, filter-append, Block, Entry, blocks_of, Session, new_entries, cuts_of}
use Rattle.fb_sectormap.specs.LookUp.{track_at}
use Rattle.fb_sectormap.specs.Sweeps.{sweep_of}
use Rattle.fb_wanted.specs.Numbering.{registered_count}
use Rattle.fb_model.proofs.Views.{all_filtered}

pub cuts_placed : (disk : Shape) (tasks task weight block n from end : ℕ) (cuts : List Cut) → task < tasks → weight ≤ 1000 → block ≤ 2048
    → end ≤ length (places disk) → end ≤ 10 ^ 12 → AreCuts disk block from end cuts
    → AllByRecursion (IsBlockOf disk tasks) (numbered task weight n cuts)
cuts_placed disk tasks task weight block n from end [] opened light short on_disk within h = tt
cuts_placed disk tasks task weight block n from end (cut ∷ cuts) opened light short on_disk within h =
    let rise = cuts_rise disk block (from + cut.count) end cuts h.4 in (
      record {
        task = opened;
        within = omega (arith, h.0);
        on = record {
          some = h.1;
          few = omega (arith, h.2);
          light = light;
          on_disk = omega (arith, h.0);
          track = h.3 ∙ ap (track_at disk) (sym h.0);
          one_turn = subst (λ at. IsOneTurn disk at cut.count) (sym h.0) h.5;
          sweep = h.6 ∙ ap (λ at. sweep_of disk at cut.count) (sym h.0);
        };
      },
      cuts_placed disk tasks task weight block (n + 1) (from + cut.count) end cuts opened light short on_disk within h.4,
    )

pub cuts_ascend : (disk : Shape) (task weight block n from end low : ℕ) (cuts : List Cut) → low ≤ from → AreCuts disk block from end cuts
    → Ascend low (numbered task weight n cuts)
cuts_ascend disk task weight block n from end low [] le h = tt
cuts_ascend disk task weight block n from end low (cut ∷ cuts) le h = (
  omega (arith, h.0),
  cuts_ascend disk task weight block (n + 1) (from + cut.count) end (cut.lbn + cut.count) cuts (omega (arith, h.0)) h.4,
)

-- what is so of each sector of the range is so of where each begins
pub cuts_begin : (P : ℕ → Type 0) (disk : Shape) (task weight block n low from end : ℕ) (cuts : List Cut) → low ≤ from
    → ((lbn : ℕ) → low ≤ lbn → lbn < end → P lbn) → AreCuts disk block from end cuts
    → AllByRecursion (λ b. P b.lbn) (numbered task weight n cuts)
cuts_begin P disk task weight block n low from end [] le each h = tt
cuts_begin P disk task weight block n low from end (cut ∷ cuts) le each h = (
  each cut.lbn (omega (arith, h.0)) (omega (arith, h.0, h.1, cuts_rise disk block (from + cut.count) end cuts h.4)),
  cuts_begin P disk task weight block (n + 1) low (from + cut.count) end cuts (omega arith) each h.4,
)

-- none ends behind the range
pub cuts_end : (disk : Shape) (task weight block n from end : ℕ) (cuts : List Cut) → AreCuts disk block from end cuts
    → AllByRecursion (λ b. b.lbn + b.count ≤ end) (numbered task weight n cuts)
cuts_end disk task weight block n from end [] h = tt
cuts_end disk task weight block n from end (cut ∷ cuts) h = (
  omega (arith, h.0, cuts_rise disk block (from + cut.count) end cuts h.4),
  cuts_end disk task weight block (n + 1) (from + cut.count) end cuts h.4,
)

pub cuts_numbered : (task weight n : ℕ) (cuts : List Cut) → AreNumbered n (numbered task weight n cuts)
cuts_numbered task weight n [] = tt
cuts_numbered task weight n (cut ∷ cuts) = (refl, cuts_numbered task weight (n + 1) cuts)

pub cuts_own : (task weight n : ℕ) (cuts : List Cut) → AllByRecursion (λ block. block.task ≡ task) (numbered task weight n cuts)
cuts_own task weight n [] = tt
cuts_own task weight n (cut ∷ cuts) = (refl, cuts_own task weight (n + 1) cuts)

pub cuts_count : (task weight n : ℕ) (cuts : List Cut) → length (numbered task weight n cuts) ≡ length cuts
cuts_count task weight n [] = refl
cuts_count task weight n (cut ∷ cuts) = rw (cuts_count task weight (n + 1) cuts) refl

-- one more number
pub range_next : (n : ℕ) → range_with_len 0 (n + 1) ≡ range_with_len 0 n ++ n ∷ []
range_next n = let e : 0 + n ≡ n = omega arith in rw e at (range-append 0 n 1)

-- the numbers before one, that one and those behind it
pub range_split : (n count : ℕ) → n < count
    → range_with_len 0 count ≡ range_with_len 0 n ++ n ∷ range_with_len (n + 1) (count - (n + 1))
range_split n count less =
    let all : count ≡ n + suc (count - (n + 1)) = omega arith in
    let start : 0 + n ≡ n = omega arith in
    ap (range_with_len 0) all ∙ rw start at (range-append 0 n (suc (count - (n + 1))))

-- laid end to end they are the range
pub cuts_cover : (disk : Shape) (task weight block n from end : ℕ) (cuts : List Cut) → AreCuts disk block from end cuts
    → flat_map (λ part. range_with_len part.lbn part.count) (numbered task weight n cuts) ≡ range_with_len from (end - from)
cuts_cover disk task weight block n from end [] h = let none : 0 ≡ end - from = omega (arith, h) in ap (range_with_len from) none
cuts_cover disk task weight block n from end (cut ∷ cuts) h =
    let rise = cuts_rise disk block (from + cut.count) end cuts h.4 in
    let size : cut.count + (end - (from + cut.count)) ≡ end - from = omega arith in
    rw (h.0, cuts_cover disk task weight block (n + 1) (from + cut.count) end cuts h.4)
    (sym (range-append from cut.count (end - (from + cut.count))) ∙ ap (range_with_len from) size)

pub numbered_append : (task weight n : ℕ) (cs ds : List Cut)
    → numbered task weight n (cs ++ ds) ≡ numbered task weight n cs ++ numbered task weight (n + length cs) ds
numbered_append task weight n [] ds = ap (λ k. numbered task weight k ds) (let e : n ≡ n + 0 = omega arith in e)
numbered_append task weight n (c ∷ cs) ds =
    rw (numbered_append task weight (n + 1) cs ds)
    (ap (λ k. record { task = task; index = n; lbn = c.lbn; count = c.count; track = c.track; weight = weight; sweep = c.sweep }
    ∷ (numbered task weight (n + 1) cs ++ numbered task weight k ds)) (let e : n + 1 + length cs ≡ n + suc (length cs) = omega arith in e))

new_named : (session : Session) (bs : List Block) → blocks_of (new_entries session bs) ≡ bs
new_named session [] = refl
new_named session (b ∷ bs) = rw (new_named session bs) refl

pub registered_more : (task : ℕ) (session : Session) (held : List Entry) (bs : List Block) → AllByRecursion (λ b. b.task ≡ task) bs
    → registered_count task (blocks_of (held ++ new_entries session bs)) ≡ registered_count task (blocks_of held) + length bs
registered_more task session held bs own = simp (map-append, filter-append, length-append, new_named, all_filtered task bs own)

-- one live block more
pub live-more : (disk : Shape) (task block weight : ℕ) (session : Session) (held now : List Entry) (lbns : List ℕ) (i lbn : ℕ)
    → slice_get lbns i ≡ Some lbn
    → now ≡ held ++ new_entries session (numbered task weight (registered_count task (blocks_of held)) (cutting disk block lbn block))
    → (now ++ new_entries session (numbered task weight (registered_count task (blocks_of now)) (cuts_of disk block (drop (i + 1) lbns)))
    ≡ held ++ new_entries session (numbered task weight (registered_count task (blocks_of held)) (cuts_of disk block (drop i lbns))))
    × (length now + length (cuts_of disk block (drop (i + 1) lbns)) ≡ length held + length (cuts_of disk block (drop i lbns)))
live-more disk task block weight session held now lbns i lbn at pushed =
    let n = registered_count task (blocks_of held) in
    let cs = cutting disk block lbn block in
    let ds = cuts_of disk block (drop (i + 1) lbns) in
    let more : registered_count task (blocks_of now) ≡ n + length cs =
    rw pushed (registered_more task session held (numbered task weight n cs) (cuts_own task weight n cs)
    ∙ ap (λ k. n + k) (cuts_count task weight n cs)) in
    let rest : cuts_of disk block (drop i lbns) ≡ cs ++ ds = ap (cuts_of disk block) (drop_at lbns i lbn at) in
    let size : length now ≡ length held + length cs = rw pushed (simp (length-append, length-map, cuts_count)) in (
      rw (more, rest, numbered_append, map-append, pushed, append_assoc) refl,
      omega (arith, size, ap length rest, length-append cs ds),
    )
