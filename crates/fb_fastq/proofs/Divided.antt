-- Requests that are divided among a map and rows.
use Rattle.fb_fastq.proofs.Words.{◌≡◌, ◌≢◌, ℕ, ◌+◌, ◌-◌, ◌^◌, ◌<◌, ◌≤◌, List, [], ◌∷◌, ◌++◌, sym, subst, arith, inl, inr, length}
use Rattle.fb_fastq.proofs.Words.{AllByRecursion, BTreeMap, cases_lt, Track, Request, Disk, sptf, Candidate, Waiting, number_of, pending_of}
use Rattle.fb_fastq.proofs.Words.{NumbersDiffer, HaveOwnNumbers, IsNoLater, IsFirst, IsFirstHeld, IsCandidate, IsBefore, ComesNoLater}
use Rattle.fb_fastq.proofs.Words.{IsMore, Row, all_of_rows, AreRows, RulesOut, RulesOutAll, IsDivided, length-append, nil_from_length}
use Rattle.fb_fastq.proofs.Words.{all_weaker, all_append, all_left}
use Rattle.fb_fastq.proofs.{Least.first_listed, Least.length_pending, Sweeps.no_later_trans, OneMore.more_left, OneMore.more_right}
use Rattle.fb_fastq.proofs.{OneMore.numbers_more, OneMore.numbers_less, OneMore.length_more}

pub numbered_left : (xs ys : List Waiting) → NumbersDiffer (xs ++ ys) → NumbersDiffer xs
numbered_left [] ys h = tt
numbered_left (x ∷ xs) ys h = (all_left (λ y. number_of y ≢ number_of x) xs ys h.0, numbered_left xs ys h.1)

module _ (disk : Disk) (head : Track) (now : ℕ) (map : BTreeMap (ℕ × ℕ) Request) (rows : List Row) where
  -- what is no later than the first of the map is no later than any of it
  pub no_later_than_map : (limit best : Candidate) → NumbersDiffer map.entries
      → (0 < length map.entries → IsCandidate disk head now map limit)
      → (0 < length map.entries → IsFirstHeld (sptf disk head now) map limit.key) → IsBefore best limit
      → AllByRecursion (λ w. ComesNoLater disk head now best w.0 w.1) map.entries
  no_later_than_map limit best apart found first before = elim (cases_lt 0 (length map.entries)) [
    | inl some ↦
        let is = found some in
        let rank = sptf disk head now in
        all_weaker (λ w. IsNoLater (rank is.request) limit.key.1 (rank w.1) (number_of w)) (λ w. ComesNoLater disk head now best w.0 w.1)
        (λ w own. no_later_trans best.wait best.key.1 limit.wait limit.key.1 (rank w.1) w.0.1 before
        (subst (λ n. IsNoLater n limit.key.1 (rank w.1) w.0.1) (sym is.wait) own)) map.entries
        (first_listed rank limit.key is.request map apart is.waits (first some))
    | inr none ↦
        subst (AllByRecursion (λ w. ComesNoLater disk head now best w.0 w.1)) (sym (nil_from_length map.entries (omega (arith, none)))) tt
  ]

  -- what is no later than all of both is the first
  pub first_of_both : (best : Candidate) (w : Waiting) → best.key ≡ w.0 → best.wait ≡ sptf disk head now w.1
      → AllByRecursion (λ x. ComesNoLater disk head now best x.0 x.1) map.entries
      → RulesOutAll disk head now best (all_of_rows rows) → IsFirst (sptf disk head now) w (map.entries ++ all_of_rows rows)
  first_of_both best w key wait over rules_out =
      let rank = sptf disk head now in
      all_weaker (λ x. ComesNoLater disk head now best x.0 x.1) (λ x. IsNoLater (rank w.1) (number_of w) (rank x.1) (number_of x))
      (λ x own. subst (λ n. IsNoLater n w.0.1 (rank x.1) x.0.1) wait (subst (λ (q : ℕ × ℕ). IsNoLater best.wait q.1 (rank x.1) x.0.1) key
      own)) (map.entries ++ all_of_rows rows)
      (all_append (λ x. ComesNoLater disk head now best x.0 x.1) map.entries (all_of_rows rows) over
      (all_weaker (RulesOut disk head now best) (λ x. ComesNoLater disk head now best x.0 x.1) (λ x own. own.0)
      (all_of_rows rows) rules_out))

  -- where one that never passes is no later than the requests of the rows, there are none
  pub none_left_in : (best : Candidate) → best.wait ≡ 2 ^ 64 - 1 → RulesOutAll disk head now best (all_of_rows rows)
      → length (all_of_rows rows) ≤ 0
  none_left_in best never rules_out = at (all_of_rows rows) rules_out
    where
      at : (ws : List Waiting) → RulesOutAll disk head now best ws → length ws ≤ 0
      at [] h = omega arith
      at (w ∷ ws) h = let soon = h.0.1 in absurd (omega (arith, never, soon))

  -- so where any wait, and none of the rows is picked, the map has one
  pub some_of_map : (limit : Candidate) → 0 < length (pending_of (map.entries ++ all_of_rows rows))
      → (length map.entries ≡ 0 → limit.wait ≡ 2 ^ 64 - 1) → RulesOutAll disk head now limit (all_of_rows rows) → 0 < length map.entries
  some_of_map limit some none rules_out = elim (cases_lt 0 (length map.entries)) [
    | inl any ↦ any
    | inr empty ↦
        let left = none_left_in limit (none (omega (arith, empty))) rules_out in
        let all = length_pending (map.entries ++ all_of_rows rows) in
        absurd (omega (arith, some, all, length-append map.entries (all_of_rows rows), left, empty))
  ]

pub numbers_left : (xs ys : List Waiting) (joined : ℕ) → HaveOwnNumbers (xs ++ ys) joined → HaveOwnNumbers xs joined
numbers_left xs ys joined h = record {
  given = all_left (λ w. number_of w < joined) xs ys h.given;
  numbered = numbered_left xs ys h.numbered;
}

-- one of the rows' is taken out, or one of the map's
pub rows_taken : (entries : List Waiting) (rows new : List Row) (in_rows joined : ℕ) (w : Waiting) → IsDivided entries rows in_rows joined
    → IsMore w (all_of_rows new) (all_of_rows rows) → AreRows 0 new → IsDivided entries new (in_rows - 1) joined
rows_taken entries rows new in_rows joined w is less own = record {
  numbers =
      numbers_less w (entries ++ all_of_rows new) (entries ++ all_of_rows rows)
      (more_left w (all_of_rows new) (all_of_rows rows) less entries) joined is.numbers;
  own_rows = own;
  counted = let one = length_more w (all_of_rows new) (all_of_rows rows) less in let all = is.counted in omega (arith, one, all);
  few = let all = is.few in omega (arith, all);
}

pub map_taken : (entries new : List Waiting) (rows : List Row) (in_rows joined : ℕ) (w : Waiting) → IsDivided entries rows in_rows joined
    → IsMore w new entries → IsDivided new rows in_rows joined
map_taken entries new rows in_rows joined w is less = record {
  numbers =
      numbers_less w (new ++ all_of_rows rows) (entries ++ all_of_rows rows)
      (more_right w new entries less (all_of_rows rows)) joined is.numbers;
  own_rows = is.own_rows;
  counted = is.counted;
  few = is.few;
}

-- one joins the rows', or the map's
pub rows_joined : (entries : List Waiting) (rows new : List Row) (in_rows spot joined : ℕ) (r : Request)
    → IsDivided entries rows in_rows joined → IsMore ((spot, joined), r) (all_of_rows rows) (all_of_rows new) → AreRows 0 new
    → IsDivided entries new (in_rows + 1) (joined + 1)
rows_joined entries rows new in_rows spot joined r is more own = record {
  numbers =
      numbers_more ((spot, joined), r) (entries ++ all_of_rows rows) (entries ++ all_of_rows new)
      (more_left ((spot, joined), r) (all_of_rows rows) (all_of_rows new) more entries) is.numbers;
  own_rows = own;
  counted = let one = length_more ((spot, joined), r) (all_of_rows rows) (all_of_rows new) more in let all = is.counted in
      omega (arith, one, all);
  few = let all = is.few in omega (arith, all);
}

pub map_joined : (entries new : List Waiting) (rows : List Row) (in_rows spot joined : ℕ) (r : Request)
    → IsDivided entries rows in_rows joined → IsMore ((spot, joined), r) entries new → IsDivided new rows in_rows (joined + 1)
map_joined entries new rows in_rows spot joined r is more = record {
  numbers =
      numbers_more ((spot, joined), r) (entries ++ all_of_rows rows) (new ++ all_of_rows rows)
      (more_right ((spot, joined), r) entries new more (all_of_rows rows)) is.numbers;
  own_rows = is.own_rows;
  counted = is.counted;
  few = let all = is.few in omega (arith, all);
}

-- none wait where neither has any
pub none_of_both : (entries : List Waiting) (rows : List Row) (in_rows joined : ℕ) → IsDivided entries rows in_rows joined
    → length (pending_of (entries ++ all_of_rows rows)) ≡ length entries + in_rows
none_of_both entries rows in_rows joined is =
    let count = is.counted in
    let all = length_pending (entries ++ all_of_rows rows) in omega (arith, length-append entries (all_of_rows rows), count, all)
