-- The rank of the first of those that wait.
use Rattle.fb_units.proofs.Lists.{all_from_index}
use Rattle.fb_fastq.proofs.Words.{◌≡◌, ℕ, List, ◌++◌, MatchOption, BTreeMap, Track, Disk, sptf, Pick, IsCandidate, IsAt, Option, None, Some, ◌∙◌, refl, ap, sym, slice_get, option_and_then, none-some, remove}
use Rattle.fb_fastq.proofs.Words.{AllByRecursion, all_get, all_left, all_right, Request, first_least, Position, Waiting, NumbersDiffer, IsFirst}
use Rattle.fb_fastq.proofs.Words.{pending_of, Row, all_of_rows, at_position, Among}
use Rattle.fb_fastq.proofs.Least.{held_is_in}
use Rattle.fb_fastq.proofs.{Swept.some_injective, InRows.row_of_all, OneMore.removed_more, OneMore.least_more}

-- what is so of all rows is so of a request at a position
at_position_of : (P : Waiting → Type 0) (rows : List Row) (position : Position) (w : Waiting) → AllByRecursion P (all_of_rows rows)
    → at_position rows position ≡ Some w → P w
at_position_of P rows position w h e = go (slice_get rows position.row) refl e
  where
    go : (o : Option Row) → slice_get rows position.row ≡ o → option_and_then (λ (r : Row). slice_get r.items position.index) o ≡ Some w
        → P w
    go None there at = absurd (none-some w at)
    go (Some row) there at = all_get P row.items position.index w (row_of_all P rows position.row row h there) at

module _ (entries : List Waiting) (rows : List Row) (w : Waiting) where
  abbrev both : List Waiting
  both = entries ++ all_of_rows rows

  each : AllByRecursion (Among both) both
  each = all_from_index (Among both) both (λ k x at. (k, at))

  -- one of the map's is one of both, and so is one of the rows'
  pub among_map : Among entries w → Among both w
  among_map there = all_get (Among both) entries there.0 w (all_left (Among both) entries (all_of_rows rows) each) there.1

  pub among_rows : (position : Position) → at_position rows position ≡ Some w → Among both w
  among_rows position at = at_position_of (Among both) rows position w (all_right (Among both) entries (all_of_rows rows) each) at

-- the first has the rank of the request that is taken
pub rank_of_first : (rank : Request → ℕ) (ws : List Waiting) (w : Waiting) → Among ws w → NumbersDiffer ws → IsFirst rank w ws
    → (r : Request) (others : List Request) → first_least rank (pending_of ws) ≡ Some (r, others) → rank w.1 ≡ rank r
rank_of_first rank ws w there apart first r others e =
    let less = remove ws there.0 in
    let taken = least_more w less ws (removed_more w ws less there.0 refl there.1) rank apart first in
    ap (λ (b : Request × List Request). rank b.0) (some_injective (w.1, pending_of less) (r, others) (sym taken ∙ e))

-- so what is picked of both has the rank of the request that is taken
module _ (disk : Disk) (head : Track) (now : ℕ) (map : BTreeMap (ℕ × ℕ) Request) (rows : List Row) (pick : Pick)
    (apart : NumbersDiffer (map.entries ++ all_of_rows rows))
    (first : (w : Waiting) → pick.best.key ≡ w.0 → pick.best.wait ≡ sptf disk head now w.1
    → IsFirst (sptf disk head now) w (map.entries ++ all_of_rows rows))
    (r : Request) (others : List Request)
    (is : first_least (sptf disk head now) (pending_of (map.entries ++ all_of_rows rows)) ≡ Some (r, others)) where
  rank_by : (o : Option Position) → MatchOption o (IsCandidate disk head now map pick.best) (λ p. IsAt disk head now rows p pick.best)
      → pick.best.wait ≡ sptf disk head now r
  rank_by None found =
      let w : Waiting = (pick.best.key, found.request) in
      let there = among_map map.entries rows w (held_is_in pick.best.key.0 pick.best.key.1 found.request map.entries found.waits) in
      found.wait ∙ rank_of_first (sptf disk head now) (map.entries ++ all_of_rows rows) w there apart (first w refl found.wait) r others is
  rank_by (Some position) found =
      let w = found.waiting in
      let there = among_rows map.entries rows w position found.there in
      found.wait ∙ rank_of_first (sptf disk head now) (map.entries ++ all_of_rows rows) w there apart (first w found.key found.wait) r
      others is

  pub rank_of_pick : MatchOption pick.position (IsCandidate disk head now map pick.best) (λ p. IsAt disk head now rows p pick.best)
      → pick.best.wait ≡ sptf disk head now r
  rank_of_pick found = rank_by pick.position found
