-- An extent that goes on where the one before it ends.
use Rattle.fb_service.proofs.Words.{◌≡◌, ℕ, zero, suc, ◌+◌, ◌-◌, ◌<◌, ◌≤◌, List, [], ◌∷◌, ◌++◌, map, refl, ap, sym, ◌∙◌, arith, inl, inr}
use Rattle.fb_service.proofs.Words.{subst, range_with_len, cases_lt, Shape, place_at, Passage, Extent, begin_from, begin_angle, length_of}
use Rattle.fb_service.proofs.Words.{ArePassing, passage_from, passages_of, FollowOn, IsUnbroken}
use Rattle.std.proofs.lemmas.List.{map-append}
use Rattle.fb_units.proofs.Parts.{range-append}
use Rattle.fb_service.proofs.Passes.{same_passage}
use Rattle.fb_service.proofs.Serving.{from_begin}

-- passages without a wait, one after another
pub follow-append : (t u end : ℕ) (ps qs : List Passage) → FollowOn t ps u → FollowOn u qs end → FollowOn t (ps ++ qs) end
follow-append t u end [] qs before after = subst (λ x. FollowOn x qs end) (sym before) after
follow-append t u end (p ∷ ps) qs before after = (before.0, follow-append p.end u end ps qs before.1 after)

module _ (disk : Shape) (first other begin next end : ℕ) where
  -- passages that end later than t begin no earlier
  in-time : (i n t : ℕ) → FollowOn t (map (λ x. passage_from disk (other + x) next) (range_with_len i n)) end → t ≤ end
  in-time i zero t follow = omega arith
  in-time i (suc n) t follow = omega (arith, follow.0, in-time (i + 1) n (passage_from disk (other + i) next).end follow.1)

  -- the passages from the beginning of the second extent on are those from the beginning of the first one on
  pub same-passages : (before i n t : ℕ) → first + before ≡ other
      → ((x : ℕ) → i ≤ x → x < i + n → begin_angle disk (place_at disk (other + x)) < disk.rotation)
      → ((x : ℕ) → i ≤ x → x < i + n → 0 < length_of disk (place_at disk (other + x)))
      → begin ≤ t → end ≤ begin + disk.rotation
      → FollowOn t (map (λ x. passage_from disk (other + x) next) (range_with_len i n)) end
      → map (λ x. passage_from disk (first + x) begin) (range_with_len (before + i) n)
      ≡ map (λ x. passage_from disk (other + x) next) (range_with_len i n)
  same-passages before i zero t joins angles long from upto follow = refl
  same-passages before i (suc n) t joins angles long from upto follow =
      let angle = angles i (omega arith) (omega arith) in
      let this = passage_from disk (other + i) next in
      let number : first + (before + i) ≡ other + i = omega arith in
      let stands : this.begin ≡ begin_from disk (place_at disk (other + i)) this.begin =
      ap (λ (p : Passage). p.begin) (sym (from_begin disk (other + i) next this.begin angle refl)) in
      let takes : this.begin < this.end = omega (arith, long i (omega arith) (omega arith)) in
      let ends : this.end ≤ end = in-time (i + 1) n this.end follow.1 in
      let one : passage_from disk (first + (before + i)) begin ≡ this =
      ap (λ l. passage_from disk l begin) number
      ∙ same_passage disk (other + i) begin this.begin angle stands (omega (arith, follow.0)) (omega (arith, follow.0))
      ∙ from_begin disk (other + i) next this.begin angle refl in
      let rest = same-passages before (i + 1) n this.end joins (λ x more less. angles x (omega arith) (omega arith))
      (λ x more less. long x (omega arith) (omega arith)) (omega (arith, follow.0)) upto follow.1 in
      ap (λ p. p ∷ map (λ x. passage_from disk (first + x) begin) (range_with_len (before + i + 1) n)) one
      ∙ ap (λ x. this ∷ map (λ y. passage_from disk (first + y) begin) (range_with_len x n))
      (let same : before + i + 1 ≡ before + (i + 1) = omega arith in same)
      ∙ ap (λ ps. this ∷ ps) rest

module _ (disk : Shape) (last next joined : Extent) (unbroken : IsUnbroken disk last) (goes_on : IsUnbroken disk next)
    (timed : ArePassing disk next.first next.count)
    (behind : last.first + last.count ≡ next.first) (track : next.track ≡ last.track) (begins : next.begin ≡ last.end)
    (forward : last.begin < last.end) (turn : next.end ≤ last.begin + disk.rotation)
    (same-track : joined.track ≡ last.track) (same-first : joined.first ≡ last.first) (size : joined.count ≡ last.count + next.count)
    (same-begin : joined.begin ≡ last.begin) (same-end : joined.end ≡ next.end) where
  pub joined-passages : passages_of disk joined ≡ passages_of disk last ++ passages_of disk next
  joined-passages =
      ap (λ f. map (λ i. passage_from disk (f + i) joined.begin) (range_with_len 0 joined.count)) same-first
      ∙ ap (λ b. map (λ i. passage_from disk (last.first + i) b) (range_with_len 0 joined.count)) same-begin
      ∙ ap (λ n. map (λ i. passage_from disk (last.first + i) last.begin) (range_with_len 0 n)) size
      ∙ ap (map (λ i. passage_from disk (last.first + i) last.begin)) (range-append 0 last.count next.count)
      ∙ map-append (λ i. passage_from disk (last.first + i) last.begin) (range_with_len 0 last.count)
      (range_with_len (0 + last.count) next.count)
      ∙ ap (λ x. passages_of disk last ++ map (λ i. passage_from disk (last.first + i) last.begin) (range_with_len x next.count))
      (let same : 0 + last.count ≡ last.count + 0 = omega arith in same)
      ∙ ap (λ ps. passages_of disk last ++ ps)
      (same-passages disk last.first next.first last.begin next.begin next.end last.count 0 next.count next.begin behind
      (λ x more less. timed.angle x (omega arith)) (λ x more less. timed.long x (omega arith)) (omega arith) turn goes_on.without_wait)

  pub joined-unbroken : IsUnbroken disk joined
  joined-unbroken = record {
    some = omega (arith, unbroken.some);
    on_track = λ i less. elim (cases_lt i last.count) [
      | inl early ↦ ap (λ l. (place_at disk (l + i)).track) same-first ∙ (unbroken.on_track i early ∙ sym same-track)
      | inr late ↦ ap (λ l. (place_at disk l).track) (let same : joined.first + i ≡ next.first + (i - last.count) = omega arith in same)
          ∙ (goes_on.on_track (i - last.count) (omega arith) ∙ (track ∙ sym same-track))
    ];
    without_wait = subst (λ ps. FollowOn joined.begin ps joined.end) (sym joined-passages)
        (subst (λ b. FollowOn b (passages_of disk last ++ passages_of disk next) joined.end) (sym same-begin)
        (subst (λ e. FollowOn last.begin (passages_of disk last ++ passages_of disk next) e) (sym same-end)
        (follow-append last.begin last.end next.end (passages_of disk last) (passages_of disk next) unbroken.without_wait
        (subst (λ b. FollowOn b (passages_of disk next) next.end) begins goes_on.without_wait))));
  }
