-- What services write: until when none of it has passed, and what of it a sector holds in the end.
use Rattle.fb_model.proofs.Words.{◌≡◌, ℕ, zero, suc, ◌+◌, ◌<◌, ◌≤◌, List, [], ◌∷◌, ◌++◌, map, Option, None, Some, Bool, true, false, refl}
use Rattle.fb_model.proofs.Words.{ap, ◌∙◌, arith, inl, inr, append-nil, filter, ◌==◌, if◌then◌else◌, AllByRecursion, last_or, cases_Bool}
use Rattle.fb_model.proofs.Words.{nat_tests, filter-append, all_weaker, Track, track_at, pos, Disk, Passage, passages, passage_from}
use Rattle.fb_model.proofs.Words.{finish_of, media_of, Content, Filled, unwritten, Written, content, content_by}
use Rattle.fb_store.specs.Writes.{is_within}
use Rattle.fb_model.proofs.ContentsUpTo.{is_of_by, none_by}
use Rattle.fb_model.proofs.Passages.{passed_between, written_by}

-- ---- each passage takes time

-- no passage begins before the first one
pub begun_after : (disk : Disk) (source : Track) (now : ℕ) (write : Bool) (lbn n : ℕ)
    → AllByRecursion (λ (p : Passage). media_of (passages disk source now write lbn n) ≤ p.begin) (passages disk source now write lbn n)
unfolding passages
begun_after disk source now write lbn zero = tt
begun_after disk source now write lbn (suc n) =
    let first = passage_from disk.map lbn (now + pos disk.mechanism source (track_at disk.map lbn) write) in
    let rest = passed_between disk (track_at disk.map lbn) first.end write (lbn + 1) n in (
      (let h : first.begin ≤ first.begin = omega arith in h),
      all_weaker _ _ (λ (p : Passage) h. (let le : first.begin ≤ p.begin = omega (arith, h.0) in le)) _ rest.1,
    )

-- the first one begins between start and finish
pub media_first : (disk : Disk) (source : Track) (start : ℕ) (write : Bool) (lbn n : ℕ) → 0 < n
    → (start ≤ media_of (passages disk source start write lbn n))
    × (media_of (passages disk source start write lbn n) ≤ finish_of start (passages disk source start write lbn n))
unfolding passages
media_first disk source start write lbn zero some = absurd (omega arith)
media_first disk source start write lbn (suc n) some = let all = (passed_between disk source start write lbn (suc n)).1 in
    (all.0.0, omega (arith, all.0.1, all.0.2))

-- ---- what the writes leave

-- the sector's writes
abbrev pub is_of : ℕ → Written → Bool
is_of lbn write = write.passage.lbn == lbn

-- writes that ended by then are those of the sector
pub ended_by : (lbn t : ℕ) (writes : List Written) → AllByRecursion (λ (w : Written). w.passage.end ≤ t) writes
    → filter (is_of_by lbn t) writes ≡ filter (is_of lbn) writes
ended_by lbn t [] all = refl
ended_by lbn t (w ∷ writes) all = grind (arith, nat_tests, all.0, ended_by lbn t writes all.1)

-- what the first of these writes left, while none of the others has ended
pub content_then : (disk : Disk) (latent : List ℕ) (before after : List Written) (lbn t : ℕ)
    → AllByRecursion (λ (w : Written). w.passage.end ≤ t) before → AllByRecursion (λ (w : Written). t < w.passage.end) after
    → content (record { disk = disk; latent = latent; writes = before ++ after }) lbn t
    ≡ content_by (last_or None (filter (is_of lbn) before)) (unwritten latent lbn)
content_then disk latent before after lbn t passed to_come =
    ap (λ ws. content_by (last_or None ws) (unwritten latent lbn))
    (filter-append (is_of_by lbn t) before after
    ∙ ap (λ ws. filter (is_of_by lbn t) before ++ ws) (none_by lbn t after to_come)
    ∙ append-nil (filter (is_of_by lbn t) before)
    ∙ ended_by lbn t before passed)

pub last_joined : {X : Type 0} (o : Option X) (xs ys : List X) → last_or o (xs ++ ys) ≡ last_or (last_or o xs) ys
last_joined o [] ys = refl
last_joined o (x ∷ xs) ys = last_joined (Some x) xs ys

-- of the passages of a range the last one of a sector is the only one
pub own_writes : (disk : Disk) (source : Track) (now : ℕ) (write : Bool) (lbn n writer x : ℕ) (before : Option Written) (first : Content)
    → content_by (last_or before (filter (is_of x) (map (written_by writer) (passages disk source now write lbn n)))) first
    ≡ (if is_within lbn n x then Filled writer else content_by before first)
unfolding passages
own_writes disk source now write lbn zero writer x before first =
    let none : is_within lbn 0 x ≡ false = grind (arith, nat_tests) in rw none refl
own_writes disk source now write lbn (suc n) writer x before first = elim (cases_Bool (lbn == x)) [
  | inl same ↦
      let inside : is_within lbn (suc n) x ≡ true = grind (arith, nat_tests) in
      let behind : is_within (lbn + 1) n x ≡ false = grind (arith, nat_tests) in
      rw (same, inside) (own_writes disk (track_at disk.map lbn) (passage_from disk.map lbn
      (now + pos disk.mechanism source (track_at disk.map lbn) write)).end write (lbn + 1) n writer x _ first ∙ rw behind refl)
  | inr other ↦
      let again : is_within (lbn + 1) n x ≡ is_within lbn (suc n) x = grind (arith, nat_tests) in
      rw other (own_writes disk (track_at disk.map lbn) (passage_from disk.map lbn
      (now + pos disk.mechanism source (track_at disk.map lbn) write)).end write (lbn + 1) n writer x before first
      ∙ ap (λ b. if b then Filled writer else content_by before first) again)
]
