-- Requests in rows.
use Rattle.fb_units.proofs.Each.{flat_all}
use Rattle.fb_units.proofs.Lists.{all_from_index}
use Rattle.fb_fastq.proofs.Words.{all_get, ◌≡◌, ℕ, zero, suc, ◌+◌, ◌*◌, ◌^◌, ◌<◌, ◌≤◌, List, [], ◌∷◌, refl, sym, ap, subst, ◌∙◌, arith, inl}
use Rattle.fb_fastq.proofs.Words.{inr, ◌⊎◌, Some, slice_get, length, MatchOption, AllByRecursion, Track, cylinders_of, track_at, seek}
use Rattle.fb_fastq.proofs.Words.{distance_of, Disk, sptf, Candidate, Position, Pick, Waiting, IsAlong, IsBefore, Row, all_of_rows}
use Rattle.fb_fastq.proofs.Words.{at_position}
use Rattle.fb_fastq.proofs.Words.{IsOnCylinder, AreRows, IsAt, IsPick, RulesOut, RulesOutAll, SeeksRise, none-some, all_left}
use Rattle.fb_fastq.proofs.Words.{all_right}
use Rattle.fb_fastq.proofs.{Swept.some_injective, Sweeps.no_later_trans, Far.waits_for_arm, OnLanes.on_cylinder}

-- what is so of all rows is so of each
pub row_of_all : (P : Waiting → Type 0) (rows : List Row) (i : ℕ) (row : Row) → AllByRecursion P (all_of_rows rows)
    → slice_get rows i ≡ Some row → AllByRecursion P row.items
row_of_all P [] i row h e = absurd (none-some row e)
row_of_all P (x ∷ rows) zero row h e = subst (λ (r : Row). AllByRecursion P r.items) (some_injective x row e)
    (all_left P x.items (all_of_rows rows) h)
row_of_all P (x ∷ rows) (suc i) row h e = row_of_all P rows i row (all_right P x.items (all_of_rows rows) h) e

-- and the other way round
pub all_rows : (P : Waiting → Type 0) (rows : List Row) → ((i : ℕ) (row : Row) → slice_get rows i ≡ Some row → AllByRecursion P row.items)
    → AllByRecursion P (all_of_rows rows)
all_rows P rows h = flat_all P (λ (row : Row). row.items) rows (all_from_index _ rows h)

-- each row has requests of its own cylinder alone
pub row_on : (cylinder : ℕ) (rows : List Row) (i : ℕ) (row : Row) → AreRows cylinder rows → slice_get rows i ≡ Some row
    → AllByRecursion (λ w. IsOnCylinder (cylinder + i) w.0.0) row.items
row_on cylinder [] i row h e = absurd (none-some row e)
row_on cylinder (x ∷ rows) zero row h e =
    let own : cylinder ≡ cylinder + 0 = omega arith in
    subst (λ (r : Row). AllByRecursion (λ w. IsOnCylinder (cylinder + 0) w.0.0) r.items) (some_injective x row e)
    (subst (λ c. AllByRecursion (λ (w : Waiting). IsOnCylinder c w.0.0) x.items) own h.0)
row_on cylinder (x ∷ rows) (suc i) row h e =
    let next : cylinder + 1 + i ≡ cylinder + suc i = omega arith in
    subst (λ c. AllByRecursion (λ (w : Waiting). IsOnCylinder c w.0.0) row.items) next (row_on (cylinder + 1) rows i row h.1 e)

module _ (disk : Disk) (head : Track) (now : ℕ) where
  -- one that is no later rules out whatever is ruled out
  pub still_ruled_out : (a b : Candidate) (w : Waiting) → IsBefore a b → RulesOut disk head now b w → RulesOut disk head now a w
  still_ruled_out a b w before h = (
    no_later_trans a.wait a.key.1 b.wait b.key.1 (sptf disk head now w.1) w.0.1 before h.0,
    let le = h.1 in elim before [ inl less ↦ omega (arith, less, le) | inr tied ↦ (let same = tied.0 in omega (arith, same, le)) ],
  )

  pub rules_out_all : (a b : Candidate) (ws : List Waiting) → IsBefore a b → RulesOutAll disk head now b ws → RulesOutAll disk head now a ws
  rules_out_all a b [] before h = tt
  rules_out_all a b (w ∷ ws) before h = (still_ruled_out a b w before h.0, rules_out_all a b ws before h.1)

  -- a candidate that is no later than the one of a request rules the request out
  pub rules_out_own : (a next : Candidate) (w : Waiting) → IsBefore a next → next.key ≡ w.0 → next.wait ≡ sptf disk head now w.1
      → next.wait ≤ 4 * 10 ^ 9 → RulesOut disk head now a w
  rules_out_own a next w before key wait soon =
      still_ruled_out a next w before
      (inr (wait, let number = ap (λ (q : ℕ × ℕ). q.1) key in omega (arith, number)), soon)

  module _ (rows : List Row) where
    -- the one of two that is picked
    pub picks_one : (limit : Candidate) (pick new : Pick) (next : Candidate) (position : Position) (w : Waiting)
        → IsPick disk head now rows limit pick
        → at_position rows position ≡ Some w → next.key ≡ w.0 → next.wait ≡ sptf disk head now w.1
        → (new ≡ pick) ⊎ ((new.best ≡ next) × (new.position ≡ Some position)) → IsBefore new.best pick.best
        → IsPick disk head now rows limit new
    picks_one limit pick new next position w is there key wait (inl same) before = subst (IsPick disk head now rows limit) (sym same) is
    picks_one limit pick new next position w is there key wait (inr other) before = record {
      found = subst (λ o. MatchOption o (new.best ≡ limit) (λ p. IsAt disk head now rows p new.best)) (sym other.1) (record {
        waiting = w;
        there = there;
        key = ap (λ (b : Candidate). b.key) other.0 ∙ key;
        wait = ap (λ (b : Candidate). b.wait) other.0 ∙ wait;
      });
      before = no_later_trans new.best.wait new.best.key.1 pick.best.wait pick.best.key.1 limit.wait limit.key.1 before is.before;
    }

    -- where a position is in a row
    pub in_row : (position : Position) (row : Row) (w : Waiting) → slice_get rows position.row ≡ Some row
        → slice_get row.items position.index ≡ Some w
        → at_position rows position ≡ Some w
    in_row position row w there at = rw there at

-- what is so of all is so of one of a row
pub held_in_row : (P : Waiting → Type 0) (rows : List Row) (i : ℕ) (row : Row) (ws : List Waiting) (k : ℕ) (w : Waiting)
    → AllByRecursion P (all_of_rows rows) → slice_get rows i ≡ Some row → ws ≡ row.items → slice_get ws k ≡ Some w → P w
held_in_row P rows i row ws k w h there is at = all_get P ws k w (subst (AllByRecursion P) (sym is) (row_of_all P rows i row h there)) at

-- its spot is one of the row's cylinder
pub held_on : (rows : List Row) (i : ℕ) (row : Row) (ws : List Waiting) (k : ℕ) (w : Waiting) → AreRows 0 rows → slice_get rows i ≡ Some row
    → ws ≡ row.items → slice_get ws k ≡ Some w → IsOnCylinder i w.0.0
held_on rows i row ws k w h there is at =
    let own : 0 + i ≡ i = omega arith in
    subst (λ n. IsOnCylinder n w.0.0) own
    (all_get (λ x. IsOnCylinder (0 + i) x.0.0) ws k w (subst (AllByRecursion (λ (x : Waiting). IsOnCylinder (0 + i) x.0.0)) (sym is)
    (row_on 0 rows i row h there)) at)

pub same_row_of : (rows : List Row) (i : ℕ) (a b : Row) → slice_get rows i ≡ Some a → slice_get rows i ≡ Some b → a ≡ b
same_row_of rows i a b e f = some_injective a b (sym e ∙ f)

module _ (disk : Disk) (rows : List Row) (own : AreRows 0 rows) (spots : AllByRecursion (λ w. IsAlong disk w.1 w.0.0) (all_of_rows rows))
    (i : ℕ) (row : Row) (there : slice_get rows i ≡ Some row) where
  -- a request of a row is one of its cylinder
  on_row : (k : ℕ) (w : Waiting) → slice_get row.items k ≡ Some w
      → ((track_at disk.map w.1.lbn).cylinder ≡ i) × (i < cylinders_of disk.map.zones)
  on_row k w at =
      let along = held_in_row (λ x. IsAlong disk x.1 x.0.0) rows i row row.items k w spots there refl at in
      let on = held_on rows i row row.items k w own there refl at in
      let is = on_cylinder disk w.1 w.0.0 along in
      let a = is.0 in let b = is.1 in let x = on.0 in let y = on.1 in let end = along.on_disk in
      (omega (arith, a, b, x, y), omega (arith, x, end))

  -- beyond the disk there are none
  pub none_beyond : (P : Waiting → Type 0) → cylinders_of disk.map.zones ≤ i → AllByRecursion P row.items
  none_beyond P beyond = all_from_index P row.items (λ k w at. let on = (on_row k w at).1 in absurd (omega (arith, on, beyond)))

  -- where the arm alone takes longer than the best
  pub far_row : (head : Track) (now distance time : ℕ) (best : Candidate) → SeeksRise disk.mechanism → time ≡ seek disk.mechanism distance
      → time ≤ 10 ^ 9 → best.wait < time
      → distance ≤ distance_of head.cylinder i → RulesOutAll disk head now best row.items
  far_row head now distance time best rise is short longer far = all_from_index (RulesOut disk head now best) row.items (λ k w at.
      let on = (on_row k w at).0 in
      let farther : distance ≤ distance_of head.cylinder (track_at disk.map w.1.lbn).cylinder =
      subst (λ c. distance ≤ distance_of head.cylinder c) (sym on) far in
      let more = rise distance (distance_of head.cylinder (track_at disk.map w.1.lbn).cylinder) farther in
      let waits = waits_for_arm disk head now w.1 in
      (inl (omega (arith, is, longer, more, waits)), omega (arith, longer, short)))

-- where there are none
pub none_ruled_out : (disk : Disk) (head : Track) (now : ℕ) (candidate : Candidate) (ws : List Waiting) → length ws ≡ 0
    → RulesOutAll disk head now candidate ws
none_ruled_out disk head now candidate [] none = tt
none_ruled_out disk head now candidate (w ∷ ws) none = absurd (omega (arith, none))
