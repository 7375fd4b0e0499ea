-- Gap by gap.
use Rattle.fb_bgwrite.proofs.Words.{drop_all, length-append, drop_got, all_push, Bor, ◌≡◌, ℕ, ◌+◌, ◌*◌, ◌^◌, ◌≤◌, List, [], ◌∷◌, ◌++◌, true}
use Rattle.fb_bgwrite.proofs.Words.{false, Option, Some, None, drop, length, slice_get, not, refl, sym, ap, ap₂, ◌∙◌, subst, arith, inl}
use Rattle.fb_bgwrite.proofs.Words.{inr, append_assoc, append-nil, AllByRecursion, flat_map, sum_by, IsSound, places, Disk, GapRow, BackRow}
use Rattle.fb_bgwrite.proofs.Words.{BackGap, Spill, SpillItem, Put, Spilling, Run, timeline, IsPossible, left_over, AreGaps, IsInTime}
use Rattle.fb_bgwrite.proofs.Words.{IsSpillRun, PutBlock, put_blocks, RunGap, delivers, gaps, HasNoFree, HasChosen}
use Rattle.fb_bgwrite.proofs.Words.{HasKept, ArePutsOn, IsSpilling, Step, IsRight, rows_in, step_of, steps}
use Rattle.std.proofs.lemmas.List.Concat.{flat_map-append}
use Rattle.fb_model.specs.PlainReplay.{first_track}
use Rattle.fb_bgwrite.proofs.{Amended.AreFit, Amended.all_fit, Amended.amended_leads, Amended.fit_earlier, Amended.kept_is}
use Rattle.fb_bgwrite.proofs.{Amended.right_fits, PutBlocks.all_sectors}

-- what was done in all gaps but the rest
pub record HasGone (disk : Disk) (blocks : List PutBlock) (all rest : List RunGap) (items : List SpillItem) : Type 0 where
  pub spills : List (Option Spill)
  pub done : List Step
  pub split : (more : List (Option Spill)) → steps disk blocks [] all (spills ++ more) ≡ done ++ steps disk blocks items rest more
  pub count : length spills + length rest ≡ length all
  pub right : AllByRecursion (IsRight disk) done
  pub rows : items ≡ flat_map (rows_in disk) done

pub none_gone : (disk : Disk) (blocks : List PutBlock) (all : List RunGap) (items : List SpillItem) → items ≡ []
    → HasGone disk blocks all all items
none_gone disk blocks all items none = subst (HasGone disk blocks all all) (sym none)
    (record { spills = []; done = []; split = λ more. refl; count = omega arith; right = tt; rows = refl })

flat_push : (disk : Disk) (done : List Step) (step : Step)
    → flat_map (rows_in disk) (done ++ step ∷ []) ≡ flat_map (rows_in disk) done ++ rows_in disk step
flat_push disk done step = flat_map-append (rows_in disk) done (step ∷ []) ∙ ap (λ rows. flat_map (rows_in disk) done ++ rows)
    (append-nil (rows_in disk step))

pub one_gone : (disk : Disk) (blocks : List PutBlock) (all rest : List RunGap) (items new : List SpillItem) (gap : RunGap)
    (spill : Option Spill) → IsRight disk (step_of blocks items gap spill) → new ≡ items ++ rows_in disk (step_of blocks items gap spill)
    → HasGone disk blocks all (gap ∷ rest) items → HasGone disk blocks all rest new
one_gone disk blocks all rest items new gap spill right rows gone =
    let step = step_of blocks items gap spill in
    record {
      spills = gone.spills ++ spill ∷ [];
      done = gone.done ++ step ∷ [];
      split = λ more.
          ap (steps disk blocks [] all) (append_assoc gone.spills (spill ∷ []) more)
          ∙ gone.split (spill ∷ more)
          ∙ ap (λ xs. gone.done ++ step ∷ steps disk blocks xs rest more) (sym rows)
          ∙ sym (append_assoc gone.done (step ∷ []) (steps disk blocks new rest more));
      count = omega (arith, gone.count, length-append gone.spills (spill ∷ []));
      right = all_push (IsRight disk) gone.done step gone.right right;
      rows = rows ∙ ap (λ xs. xs ++ rows_in disk step) gone.rows ∙ sym (flat_push disk gone.done step);
    }

-- a free gap
pub free_gone : (disk : Disk) (puts : List Put) (all here rest : List RunGap) (items new : List SpillItem) (row : GapRow)
    → here ≡ (let gap : RunGap = record { row = row; free = true } in gap) ∷ rest → HasChosen disk puts row items new
    → HasGone disk (put_blocks disk.map puts) all here items → HasGone disk (put_blocks disk.map puts) all rest new
free_gone disk puts all here rest items new row split chosen gone =
    let gap : RunGap = record { row = row; free = true } in
    one_gone disk (put_blocks disk.map puts) all rest items new gap chosen.spill chosen.chosen chosen.rows
    (subst (λ gs. HasGone disk (put_blocks disk.map puts) all gs items) split gone)

-- none
pub busy_gone : (disk : Disk) (blocks : List PutBlock) (all here rest : List RunGap) (items : List SpillItem) → HasNoFree here rest
    → HasGone disk blocks all here items → HasGone disk blocks all rest items
busy_gone disk blocks all here rest items busy gone = elim busy [
  | inl same ↦ subst (λ gs. HasGone disk blocks all gs items) same gone
  | inr one ↦
      let gap : RunGap = record { row = one.0; free = false } in
      one_gone disk blocks all rest items items gap None refl (sym (append-nil items))
      (subst (λ gs. HasGone disk blocks all gs items) one.1 gone)
]

-- ---- rows

pub free_from : (rows : List BackRow) (i : ℕ) (row : GapRow) → slice_get rows i ≡ Some (BackGap row) → false ≡ delivers (drop (i + 1) rows)
    → gaps (drop i rows) ≡ (let gap : RunGap = record { row = row; free = true } in gap) ∷ gaps (drop (i + 1) rows)
free_from rows i row at none =
    ap gaps (drop_got rows i (BackGap row) at)
    ∙ ap (λ b. (let gap : RunGap = record { row = row; free = not b } in gap) ∷ gaps (drop (i + 1) rows)) (sym none)

pub busy_from : (rows : List BackRow) (i : ℕ) (row : GapRow) → slice_get rows i ≡ Some (BackGap row) → true ≡ delivers (drop (i + 1) rows)
    → HasNoFree (gaps (drop i rows)) (gaps (drop (i + 1) rows))
busy_from rows i row at some =
    inr (
      row,
      ap gaps (drop_got rows i (BackGap row) at)
          ∙ ap (λ b. (let gap : RunGap = record { row = row; free = not b } in gap) ∷ gaps (drop (i + 1) rows)) (sym some),
    )

no_gap : (row : BackRow) (rest : List BackRow) → ((own : GapRow) → row ≡ BackGap own → ⊥) → gaps (row ∷ rest) ≡ gaps rest
no_gap (BackGap own) rest other = absurd (other own refl)
no_gap (_) rest other = refl

pub other_from : (rows : List BackRow) (i : ℕ) (row : BackRow) → slice_get rows i ≡ Some row → ((own : GapRow) → row ≡ BackGap own → ⊥)
    → HasNoFree (gaps (drop i rows)) (gaps (drop (i + 1) rows))
other_from rows i row at other = inl (ap gaps (drop_got rows i row at) ∙ no_gap row (drop (i + 1) rows) other)

-- ---- row by row

-- how far the writing is, before the row of this index
pub record IsGoing (disk : Disk) (puts : List Put) (rows : List BackRow) (i : ℕ) (now : Spilling) : Type 0 where
  pub spilling : IsSpilling now
  pub same_disk : now.disk.now ≡ disk
  pub same_puts : now.puts.now ≡ puts
  pub fit : AreFit disk now.instant (gaps (drop i rows))
  pub gone : HasGone disk (put_blocks disk.map puts) (gaps rows) (gaps (drop i rows)) now.items

pub going_first : (disk : Disk) (puts : List Put) (run : Run) (spilling : Spilling) → IsSound disk.map
    → IsPossible disk (timeline disk run.back run.fore) run.end → run.end ≤ 9 * 10 ^ 18 → AreGaps disk run.back run.fore
    → IsSpilling spilling → spilling.disk.now ≡ disk → spilling.puts.now ≡ puts → spilling.instant ≡ 0 → spilling.items ≡ []
    → IsGoing disk puts run.back 0 spilling
going_first disk puts run spilling sound possible early areGaps is same_disk same_puts start none = record {
  spilling = is;
  same_disk = same_disk;
  same_puts = same_puts;
  fit = subst (λ n. AreFit disk n (gaps run.back)) (sym start) (all_fit disk sound first_track 0 run.end run.back run.fore
      (record { cylinder = disk.some_cylinders; head = disk.some_heads }) early areGaps possible);
  gone = none_gone disk (put_blocks disk.map puts) (gaps run.back) spilling.items none;
}

module _ {disk : Disk} {puts : List Put} {rows : List BackRow} {i : ℕ} {old : Spilling} (going : IsGoing disk puts rows i old) where
  pub going_busy : HasNoFree (gaps (drop i rows)) (gaps (drop (i + 1) rows)) → IsGoing disk puts rows (i + 1) old
  going_busy busy = record {
    spilling = going.spilling;
    same_disk = going.same_disk;
    same_puts = going.same_puts;
    fit = elim busy [
      | inl same ↦ subst (AreFit disk old.instant) same going.fit
      | inr one ↦
          let gap : RunGap = record { row = one.0; free = false } in
          let fit = subst (AreFit disk old.instant) one.1 going.fit in
          fit_earlier disk gap.row.gap.now old.instant (gaps (drop (i + 1) rows)) fit.0 fit.2
    ];
    gone = busy_gone disk (put_blocks disk.map puts) (gaps rows) (gaps (drop i rows)) (gaps (drop (i + 1) rows)) old.items busy going.gone;
  }

  pub going_free : (row : GapRow) (new : Spilling)
      → gaps (drop i rows) ≡ (let gap : RunGap = record { row = row; free = true } in gap) ∷ gaps (drop (i + 1) rows)
      → IsSpilling new → HasKept old new → new.instant ≡ row.gap.now → HasChosen old.disk.now old.puts.now row old.items new.items
      → IsGoing disk puts rows (i + 1) new
  going_free row new split is kept instant chosen =
      let fit = subst (AreFit disk old.instant) split going.fit in
      let here : HasChosen disk puts row old.items new.items = subst (λ d. HasChosen d puts row old.items new.items) going.same_disk
      (subst (λ ps. HasChosen old.disk.now ps row old.items new.items) going.same_puts chosen) in
      record {
        spilling = is;
        same_disk = ap (λ (d : Bor Disk). d.now) kept.disk ∙ going.same_disk;
        same_puts = ap (λ (ps : Bor (List Put)). ps.now) kept.puts ∙ going.same_puts;
        fit = subst (λ n. AreFit disk n (gaps (drop (i + 1) rows))) (sym instant) fit.2;
        gone = free_gone disk puts (gaps rows) (gaps (drop i rows)) (gaps (drop (i + 1) rows)) old.items new.items row split here
            going.gone;
      }

  pub going_puts : ArePutsOn (length (places disk.map)) puts → ArePutsOn (length (places old.disk.now.map)) old.puts.now
  going_puts are = subst (λ (d : Disk). ArePutsOn (length (places d.map)) old.puts.now) (sym going.same_disk)
      (subst (ArePutsOn (length (places disk.map))) (sym going.same_puts) are)

  pub all_written : old.written + left_over disk puts old.items ≡ sum_by (λ (put : Put). put.count) puts
  all_written =
      let parts = going.spilling.parts ∙ all_sectors old.disk.now.map 1 old.puts.now in
      let same : left_over old.disk.now old.puts.now old.items ≡ left_over disk puts old.items =
      ap₂ (λ d ps. left_over d ps old.items) going.same_disk going.same_puts in
      omega (arith, parts, same, ap (λ ps. sum_by (λ (put : Put). put.count) ps) going.same_puts)

  pub all_in_time : AllByRecursion (IsInTime disk puts) old.items
  all_in_time = subst (λ d. AllByRecursion (IsInTime d puts) old.items) going.same_disk
      (subst (λ ps. AllByRecursion (IsInTime old.disk.now ps) old.items) going.same_puts going.spilling.in_time)

-- ---- the end

no_rows : (disk : Disk) (blocks : List PutBlock) (items : List SpillItem) (rest : List RunGap) → rest ≡ []
    → steps disk blocks items rest [] ≡ []
no_rows disk blocks items [] none = refl
no_rows disk blocks items (gap ∷ rest) none = absurd (grind arith)

pub all_gone : (disk : Disk) (puts : List Put) (run : Run) (i : ℕ) (spilling : Spilling) → IsSound disk.map
    → IsPossible disk (timeline disk run.back run.fore) run.end → AreGaps disk run.back run.fore
    → length run.back ≤ i → IsGoing disk puts run.back i spilling → IsSpillRun disk run puts spilling.items
all_gone disk puts run i spilling sound possible areGaps past going =
    let blocks = put_blocks disk.map puts in
    let gone = going.gone in
    let none : gaps (drop i run.back) ≡ [] = ap gaps (drop_all i run.back past) in
    let done : steps disk blocks [] (gaps run.back) gone.spills ≡ gone.done =
    ap (steps disk blocks [] (gaps run.back)) (sym (append-nil gone.spills))
    ∙ gone.split []
    ∙ ap (λ xs. gone.done ++ xs) (no_rows disk blocks spilling.items (gaps (drop i run.back)) none)
    ∙ append-nil gone.done
    in
    let each : length gone.spills ≡ length (gaps run.back) = omega (arith, gone.count, ap length none) in
    let right = subst (AllByRecursion (IsRight disk)) (sym done) gone.right in
    let fit = right_fits disk sound blocks [] (gaps run.back) gone.spills each right in
    record {
      spills = gone.spills;
      are = record {
        each = each;
        right = right;
        rows = gone.rows ∙ ap (flat_map (rows_in disk)) (sym done);
        possible = amended_leads disk sound first_track 0 run.end run.back run.fore gone.spills
            (record { cylinder = disk.some_cylinders; head = disk.some_heads }) areGaps fit possible;
        keeps = kept_is disk sound run.back run.fore gone.spills areGaps fit;
      };
    }
