-- The first segment with the greatest ratio of benefit to cost is that of the greatest rank, unless the first one has no blocks.
use Rattle.std.proofs.Common.{◌≡◌, ◌≢◌, ℕ, ◌+◌, ◌-◌, ◌*◌, ◌/◌, ◌<◌, ◌≤◌, List, [], ◌∷◌, ◌++◌, Some, None, Bool, true, false, refl}
use Rattle.std.proofs.Common.{arith, ap, sym, ◌∙◌, subst, length, cond, max, slice_get, get_or, set, map, not, zero, suc, ◌⊎◌, ◌↔◌}
use Rattle.std.proofs.Common.{inl, inr, ◌==◌}
use Rattle.std.specs.List.{list_any}
use Rattle.std.specs.BTreeSet.{BTreeSet, contains}
use Rattle.std.specs.Ordering.{nat_cmp, is_lt}
use Rattle.std.proofs.Math.Nat.{mul-le-mul_right, le_of_mul-le-mul_right, div-mul-le_self, max-eq_left, zero-div}
use Rattle.std.proofs.lemmas.Nat.{le-div}
use Rattle.std.specs.BTreeMap.{is_at}
use Rattle.std.proofs.lemmas.List.{length-set, length-map, length-append, get_or-set_other}
use Rattle.std.proofs.lemmas.Bool.{cases_Bool, cases_lt, true≢false}
use Rattle.std.proofs.lemmas.Bool.Decides.{nat_tests}
use Rattle.std.proofs.lemmas.Option.{none-some, same_Some, slice_get_within, slice_get_read, slice_get-get_or, get_or_from_slice_get}
use Rattle.fb_units.proofs.Among.{any-among, among-any}
use Rattle.fb_units.proofs.Lists.{element_at, map_at, append_at, get_right}
use Rattle.fb_units.proofs.Each.{each_set, each_push}
use Rattle.fb_clean.specs.Segments.{LogSegment, gain, cost, is_better, first_best, waiting, no_longer_waiting}
use Rattle.fb_clean.specs.Numbers.{AreNumbered}
use Rattle.fb_clean.specs.Ranks.{ratio, rank, AreRanked}
use Rattle.fb_clean.proofs.Greatest.{best, best_taken, best_kept, gain-cost, less-costs, better, no_better}
use Rattle.fb_clean.proofs.Kept.{number_at}

-- ---- ratios in whole parts, as fractions of cross products

module _ (g c h d q : ℕ) (some : 0 < c) (other : 0 < d) (below : q * c ≤ g * 67108864) where
  at_most_more : g * d ≤ h * c → q ≤ h * 67108864 / d
  at_most_more le =
      let more : q * c * d ≤ g * 67108864 * d = mul-le-mul_right d below in
      le-div q (h * 67108864) d other (le_of_mul-le-mul_right {k = c} (omega (arith, more, le)) some)

  -- where the costs are small, a greater ratio has more parts
  one_more : c ≤ 8192 → d ≤ 8192 → g * d < h * c → q + 1 ≤ h * 67108864 / d
  one_more small small_too less =
      let more : q * c * d ≤ g * 67108864 * d = mul-le-mul_right d below in
      let size : c * d ≤ 8192 * d = mul-le-mul_right d small in
      le-div (q + 1) (h * 67108864) d other (le_of_mul-le-mul_right {k = c} (omega (arith, more, size, small_too, less)) some)

ratio_is : (s : LogSegment) → 0 < cost s → ratio s ≡ gain s * 67108864 / cost s
unfolding ratio
ratio_is s some = ap (λ n. gain s * 67108864 / n) (max-eq_left some)

ratio_none : (s : LogSegment) → cost s ≡ 0 → ratio s ≡ 0
unfolding ratio
ratio_none s none = elim (cases_lt 0 (gain s)) [
  | inl some ↦ let has = gain-cost s some in absurd (omega (arith, has, none))
  | inr free ↦
      let no_gain : gain s ≡ 0 = omega (arith, free) in
      ap (λ n. n * 67108864 / max (cost s) 1) no_gain ∙ zero-div (max (cost s) 1)
]

ratio_below : (s : LogSegment) → 0 < cost s → ratio s * cost s ≤ gain s * 67108864
ratio_below s some = subst (λ n. n * cost s ≤ gain s * 67108864) (sym (ratio_is s some)) (div-mul-le_self (gain s * 67108864) (cost s))

-- one with more parts is better
better-parts : (t s : LogSegment) → 0 < cost s → ratio s < ratio t → is_better t s ≡ true
better-parts t s some more = elim (cases_lt 0 (cost t)) [
  | inr none ↦ absurd (omega (arith, more, ratio_none t (omega (arith, none))))
  | inl has ↦ elim (cases_Bool (is_better t s)) [
    | inl is ↦ is
    | inr worse ↦
        let less = at_most_more (gain t) (cost t) (gain s) (cost s) (ratio t) has some (ratio_below t has) (no_better t s worse) in
        absurd (omega (arith, more, less, ratio_is s some))
  ]
]

-- and one without more is no better
no-better-parts : (s t : LogSegment) → cost s ≤ 8192 → cost t ≤ 8192 → ratio s ≤ ratio t → is_better s t ≡ false
no-better-parts s t small small_too le = elim (cases_Bool (is_better s t)) [
  | inr worse ↦ worse
  | inl is ↦
      let less = better s t is in
      let costs = less-costs t s less in
      let more = one_more (gain t) (cost t) (gain s) (cost s) (ratio t) costs.0 costs.1 (ratio_below t costs.0) small_too small less in
      absurd (omega (arith, le, more, ratio_is s costs.1))
]

-- ---- ranks

pub rank_is : (s : LogSegment) → rank s ≡ ratio s * 4294967296 + (4294967295 - s.number)
unfolding rank
rank_is s = refl

-- they tell the number
ranks_differ : (s t : LogSegment) → s.number < 4294967296 → t.number < 4294967296 → s.number ≢ t.number → rank s ≢ rank t
ranks_differ s t few few_too differ same = differ (omega (arith, few, few_too, same, rank_is s, rank_is t))

kept_true : (new old : Bool) → old ≡ true → cond new true old ≡ true
kept_true true old h = refl
kept_true false old h = h

no_less : (a b : ℕ) → is_lt (nat_cmp a b) ≡ false → b ≤ a
no_less a b h = grind (arith, nat_tests)

differs : (a b : ℕ) → a ≢ b → is_at (nat_cmp a) b ≡ false
differs a b h = grind (arith, nat_tests)

same_key : (a b : ℕ) → a ≡ b → is_at (nat_cmp a) b ≡ true
same_key a b h = grind (arith, nat_tests)

has_key : (keys : List ℕ) (k : ℕ) → list_any (is_at (nat_cmp k)) keys ≡ true → 0 < length keys
has_key [] k there = absurd (true≢false (sym there))
has_key (x ∷ keys) k there = omega arith

some_key : (keys : List ℕ) → (length keys ≡ 0) ⊎ ((k : ℕ) × (list_any (is_at (nat_cmp k)) keys ≡ true))
some_key [] = inl refl
some_key (x ∷ keys) = inr (x, rw (same_key x x refl) refl)

zero_is : (n : ℕ) → (n == 0) ≡ true → n ≡ 0
zero_is n h = grind (arith, nat_tests)

some_is : (n : ℕ) → (n == 0) ≡ false → 0 < n
some_is n h = grind (arith, nat_tests)

equals : (a b : ℕ) → is_at (nat_cmp a) b ≡ true → a ≡ b
equals a b h = grind (arith, nat_tests)

-- ---- the first best

waiting_left : (x : LogSegment) (xs : List LogSegment) → x.waits ≡ true → waiting (x ∷ xs) ≡ x ∷ waiting xs
waiting_left x xs left = ap (λ b. cond b (x ∷ waiting xs) (waiting xs)) left

waiting_gone : (x : LogSegment) (xs : List LogSegment) → x.waits ≡ false → waiting (x ∷ xs) ≡ waiting xs
waiting_gone x xs gone = ap (λ b. cond b (x ∷ waiting xs) (waiting xs)) gone

first_stays : (t : LogSegment) (xs : List LogSegment)
    → ((i : ℕ) (s : LogSegment) → slice_get xs i ≡ Some s → s.waits ≡ true → is_better s t ≡ false) → best t (waiting xs) ≡ t
first_stays t [] none = refl
first_stays t (x ∷ xs) none = elim (cases_Bool x.waits) [
  | inl left ↦ ap (best t) (waiting_left x xs left)
      ∙ (best_kept t x (waiting xs) (none 0 x refl left) ∙ first_stays t xs (λ i s. none (suc i) s))
  | inr gone ↦ ap (best t) (waiting_gone x xs gone) ∙ first_stays t xs (λ i s. none (suc i) s)
]

-- the segment at an index is better than each before it that has blocks, and none after it is better
record Stands (xs : List LogSegment) (n : ℕ) (t : LogSegment) : Type 0 where
  there : slice_get xs n ≡ Some t
  left : t.waits ≡ true
  before : (i : ℕ) (s : LogSegment) → i < n → slice_get xs i ≡ Some s → s.waits ≡ true → 0 < cost s → is_better t s ≡ true
  after : (i : ℕ) (s : LogSegment) → n < i → slice_get xs i ≡ Some s → s.waits ≡ true → is_better s t ≡ false

stands-rest : (x t : LogSegment) (xs : List LogSegment) (n : ℕ) → Stands (x ∷ xs) (suc n) t → Stands xs n t
stands-rest x t xs n h = record {
  there = h.there;
  left = h.left;
  before = λ i s less. h.before (suc i) s (omega (arith, less));
  after = λ i s less. h.after (suc i) s (omega (arith, less));
}

best_comes : (a t : LogSegment) (xs : List LogSegment) (n : ℕ) → Stands xs n t → is_better t a ≡ true → best a (waiting xs) ≡ t
best_comes a t [] n h wins = absurd (none-some t h.there)
best_comes a t (x ∷ xs) zero h wins =
    let same = same_Some x t h.there in
    ap (best a) (waiting_left x xs (ap (λ s. s.waits) same ∙ h.left))
    ∙ (best_taken a x (waiting xs) (ap (λ s. is_better s a) same ∙ wins)
    ∙ (ap (λ s. best s (waiting xs)) same ∙ first_stays t xs (λ i s. h.after (suc i) s (omega arith))))
best_comes a t (x ∷ xs) (suc n) h wins =
    let rest = stands-rest x t xs n h in
    elim (cases_Bool x.waits) [
      | inl left ↦ ap (best a) (waiting_left x xs left) ∙ elim (cases_Bool (is_better x a)) [
        | inl is ↦ best_taken a x (waiting xs) is
            ∙ best_comes x t xs n rest (h.before 0 x (omega arith) refl left (less-costs a x (better x a is)).1)
        | inr worse ↦ best_kept a x (waiting xs) worse ∙ best_comes a t xs n rest wins
      ]
      | inr gone ↦ ap (best a) (waiting_gone x xs gone) ∙ best_comes a t xs n rest wins
    ]

-- it is the best of all, if the first one that waits has blocks or is the segment itself
best_is : (xs : List LogSegment) (p n : ℕ) (f t : LogSegment) → Stands xs n t
    → ((i : ℕ) (s : LogSegment) → slice_get xs i ≡ Some s → i < p → s.waits ≡ false)
    → slice_get xs p ≡ Some f → f.waits ≡ true → (p ≡ n) ⊎ (0 < cost f) → first_best (waiting xs) ≡ Some t
best_is [] p n f t h none at left some = absurd (none-some t h.there)
best_is (x ∷ xs) (suc p) zero f t h none at left some = absurd (true≢false (sym h.left ∙ none 0 t h.there (omega arith)))
best_is (x ∷ xs) (suc p) (suc n) f t h none at left some =
    ap first_best (waiting_gone x xs (none 0 x refl (omega arith)))
    ∙ best_is xs p n f t (stands-rest x t xs n h) (λ i s there less. none (suc i) s there (omega (arith, less))) at left
    (elim some [ inl same ↦ inl (omega (arith, same)) | inr has ↦ inr has ])
best_is (x ∷ xs) zero zero f t h none at left some =
    let same = same_Some x t h.there in
    ap first_best (waiting_left x xs (ap (λ s. s.waits) same ∙ h.left))
    ∙ ap Some (ap (λ s. best s (waiting xs)) same ∙ first_stays t xs (λ i s. h.after (suc i) s (omega arith)))
best_is (x ∷ xs) zero (suc n) f t h none at left some =
    let same = same_Some x f at in
    elim some [
      | inl never ↦ absurd (omega (arith, never))
      | inr has ↦ ap first_best (waiting_left x xs (ap (λ s. s.waits) same ∙ left)) ∙ ap Some (ap (λ s. best s (waiting xs)) same
          ∙ best_comes f t xs n (stands-rest x t xs n h) (h.before 0 f (omega arith) at left has))
    ]

none_waits : (xs : List LogSegment) → ((i : ℕ) (s : LogSegment) → slice_get xs i ≡ Some s → s.waits ≡ false) → waiting xs ≡ []
none_waits [] none = refl
none_waits (x ∷ xs) none = waiting_gone x xs (none 0 x refl) ∙ none_waits xs (λ i s. none (suc i) s)

-- ---- the choice

pub some_at : (seen segments : List LogSegment) (i : ℕ) → seen ≡ segments → i < length seen
    → (i < length segments) × (s : LogSegment) × (slice_get segments i ≡ Some s)
some_at seen segments i same within =
    let less : i < length segments = omega (arith, within, ap length same) in
    let there = element_at segments i less in (less, there.0, there.1)

set_other : (xs : List LogSegment) (n k : ℕ) (new s : LogSegment) → k ≢ n → slice_get xs k ≡ Some s → slice_get (set xs n new) k ≡ Some s
set_other xs n k new s differ at = slice_get_read (set xs n new) (length xs) k s (sym (length-set xs n new)) (slice_get_within xs k s at)
    (sym (get_or-set_other xs n k new s differ ∙ get_or_from_slice_get xs k s s at))

module _ {segments : List LogSegment} {ranks : BTreeSet ℕ} {passed : ℕ} (numbered : AreNumbered 1 segments)
    (few : length segments < 4294967296) (h : AreRanked segments ranks passed) where
  -- the number is that of the index
  pub number_is : (i : ℕ) (s : LogSegment) → slice_get segments i ≡ Some s → (s.number ≡ i + 1) × (s.number < 4294967296)
  number_is i s at =
      let own = number_at 1 segments i s numbered at in
      let inside = slice_get_within segments i s at in
      (omega (arith, own), omega (arith, own, inside, few))

  -- nothing is left where all were passed
  pub none_left : length segments ≤ passed → first_best (waiting segments) ≡ None
  none_left all = ap first_best (none_waits segments (λ i s at.
      let inside = slice_get_within segments i s at in h.none i s at (omega (arith, inside, all))))

  module _ (f : LogSegment) (inside : passed < length segments) (is : f ≡ get_or segments passed f)
      (left : (s : LogSegment) → slice_get segments passed ≡ Some s → s.waits ≡ true) where
    first : slice_get segments passed ≡ Some f
    first = slice_get-get_or segments passed f inside ∙ ap Some (sym is)

    -- the first one without blocks is chosen
    pub first_is : true ≡ (cost f == 0) → slice_get segments passed ≡ first_best (waiting segments)
    first_is none = first ∙ sym (best_is segments passed passed f f (record {
      there = first;
      left = left f first;
      before = λ i s less at waits. absurd (true≢false (sym waits ∙ h.none i s at less));
      after = λ i s less at waits. elim (cases_Bool (is_better s f)) [
        | inr worse ↦ worse
        | inl wins ↦ let costs = less-costs f s (better s f wins) in absurd (omega (arith, zero_is (cost f) (sym none), costs.0))
      ];
    }) h.none first (left f first) (inl refl))

    -- and else the one of the greatest rank
    pub greatest_is : false ≡ (cost f == 0) → (r : ℕ) → contains nat_cmp ranks r ≡ true
        → ((q : ℕ) → contains nat_cmp ranks q ≡ true → is_lt (nat_cmp r q) ≡ false)
        → (t : LogSegment) × (t.number < 4294967296) × (r ≡ rank t) × ((number : ℕ) → number ≡ t.number
        → (1 ≤ number) × (number - 1 < length segments) × (slice_get segments (number - 1) ≡ first_best (waiting segments)))
    greatest_is some r there greatest =
        let top = h.only r there in
        let n = top.0 in
        let t = top.1 in
        let own = number_is n t top.2 in
        let below : (i : ℕ) (s : LogSegment) → slice_get segments i ≡ Some s → s.waits ≡ true → rank s ≤ rank t =
        λ i s at waits. let le = no_less r (rank s) (greatest (rank s) (h.all i s at waits)) in omega (arith, le, top.4) in
        let chosen = best_is segments passed n f t (record {
          there = top.2;
          left = top.3;
          before = λ i s less at waits has.
              let other = number_is i s at in
              better-parts t s has (omega (arith, below i s at waits, rank_is s, rank_is t, own.0, own.1, other.0, other.1, less));
          after = λ i s less at waits.
              let other = number_is i s at in
              no-better-parts s t (h.small i s at) (h.small n t top.2)
              (omega (arith, below i s at waits, rank_is s, rank_is t, own.0, own.1, other.0, other.1, less));
        }) h.none first (left f first) (inr (some_is (cost f) (sym some))) in (
          t,
          own.1,
          sym top.4,
          λ number e.
              let inside = slice_get_within segments n t top.2 in
              let same : number - 1 ≡ n = omega (arith, e, own.0) in
              (omega (arith, e, own.0), omega (arith, inside, same), ap (slice_get segments) same ∙ (top.2 ∙ sym chosen)),
        )

    -- a segment waits, so that there is a rank
    pub rank_there : 0 < length ranks.keys
    rank_there = has_key ranks.keys (rank f) (h.all passed f first (left f first))

  -- a segment is left exactly if there is a rank
  pub rest_is : (empty : Bool) → (empty ≡ true) ↔ (length ranks.keys ≡ 0) → not empty ≡ list_any (λ segment. segment.waits) segments
  rest_is true says = sym (elim (cases_Bool (list_any (λ segment. segment.waits) segments)) [
    | inr none ↦ none
    | inl some ↦
        let one = any-among (λ segment. segment.waits) segments some in
        let there = has_key ranks.keys (rank one.0) (h.all one.1.0 one.0 one.1.1 one.2) in
        absurd (omega (arith, there, says.0 refl))
  ])
  rest_is false says = elim (some_key ranks.keys) [
    | inl none ↦ absurd (true≢false (sym (says.1 none)))
    | inr some ↦ let one = h.only some.0 some.1 in sym (among-any (λ segment. segment.waits) segments one.1 (one.0, one.2) one.3)
  ]

  -- ---- changes

  -- a segment is chosen
  pub ranked_chosen : (n : ℕ) (t new : LogSegment) (less : BTreeSet ℕ) → slice_get segments n ≡ Some t → new ≡ no_longer_waiting t
      → ((q : ℕ) → contains nat_cmp less q ≡ cond (is_at (nat_cmp (rank t)) q) false (contains nat_cmp ranks q))
      → AreRanked (set segments n new) less passed
  ranked_chosen n t new less there is removed =
      let own = number_is n t there in
      let kept : (r : ℕ) → rank t ≢ r → contains nat_cmp less r ≡ contains nat_cmp ranks r =
      λ r differ. removed r ∙ ap (λ b. cond b false (contains nat_cmp ranks r)) (differs (rank t) r differ) in
      record {
        small = each_set (λ i s. cost s ≤ 8192) segments n new (subst (λ s. cost s ≤ 8192) (sym is) (h.small n t there))
            (λ i s differ at. h.small i s at);
        all = each_set (λ i s. s.waits ≡ true → contains nat_cmp less (rank s) ≡ true) segments n new
            (λ waits. absurd (true≢false (sym waits ∙ ap (λ s. s.waits) is)))
            (λ i s differ at waits. let other = number_is i s at in
            kept (rank s) (ranks_differ t s own.1 other.1 (λ e. differ (omega (arith, e, own.0, other.0)))) ∙ h.all i s at waits);
        only = λ r has. elim (cases_Bool (is_at (nat_cmp (rank t)) r)) [
          | inl it ↦ absurd (true≢false (sym has ∙ (removed r ∙ ap (λ b. cond b false (contains nat_cmp ranks r)) it)))
          | inr other ↦
              let was = h.only r (sym (removed r ∙ ap (λ b. cond b false (contains nat_cmp ranks r)) other) ∙ has) in (
                was.0,
                was.1,
                set_other segments n was.0 new was.1 (λ e.
                    let same = same_Some t was.1 (sym there ∙ (ap (slice_get segments) (sym e) ∙ was.2)) in
                    true≢false (sym (same_key (rank t) r (ap rank same ∙ was.4)) ∙ other)) was.2,
                was.3,
                was.4,
              )
        ];
        none = each_set (λ i s. i < passed → s.waits ≡ false) segments n new (λ _. ap (λ s. s.waits) is) (λ i s differ at. h.none i s at);
        few = omega (arith, h.few, length-set segments n new);
      }

  -- more are passed, of which none waits
  pub ranked_passed : (next : ℕ) → next ≤ length segments
      → ((i : ℕ) (s : LogSegment) → passed ≤ i → i < next → slice_get segments i ≡ Some s → s.waits ≡ false) → AreRanked segments ranks next
  ranked_passed next inside idle = record {
    small = h.small;
    all = h.all;
    only = h.only;
    none = λ i s at less. elim (cases_lt i passed) [ inl before ↦ h.none i s at before | inr after ↦ idle i s after less at ];
    few = inside;
  }

  -- all are dropped
  pub ranked_dropped : (now : List LogSegment) (less : BTreeSet ℕ) → now ≡ map no_longer_waiting segments → less.keys ≡ []
      → AreRanked now less passed
  ranked_dropped now less is empty = subst (λ xs. AreRanked xs less passed) (sym is) (record {
    small = λ i s at. let was = was_there i s at in subst (λ x. cost x ≤ 8192) was.2 (h.small i was.0 was.1);
    all = λ i s at waits. absurd (true≢false (sym waits ∙ ap (λ x. x.waits) (sym (was_there i s at).2)));
    only = λ r has. absurd (omega (arith, has_key less.keys r has, ap length empty));
    none = λ i s at _. ap (λ x. x.waits) (sym (was_there i s at).2);
    few = omega (arith, h.few, length-map segments no_longer_waiting);
  }) where
    was_there : (i : ℕ) (s : LogSegment) → slice_get (map no_longer_waiting segments) i ≡ Some s
        → (x : LogSegment) × (slice_get segments i ≡ Some x) × (no_longer_waiting x ≡ s)
    was_there i s at =
        let inside = slice_get_within (map no_longer_waiting segments) i s at in
        let one = element_at segments i (omega (arith, inside, length-map segments no_longer_waiting)) in
        (one.0, one.1, same_Some (no_longer_waiting one.0) s (sym (map_at no_longer_waiting segments i one.0 one.1) ∙ at))

  -- one is added with its rank
  module _ (new : LogSegment) (more : BTreeSet ℕ) (last : new.number ≡ length segments + 1) (room : length segments < 4294967295)
      (added : (q : ℕ) → contains nat_cmp more q ≡ cond (is_at (nat_cmp (rank new)) q) true (contains nat_cmp ranks q)) where
    pub ranked_added : cost new ≤ 8192 → new.waits ≡ true → AreRanked (segments ++ new ∷ []) more passed
    ranked_added small waits = record {
      small = each_push (λ i s. cost s ≤ 8192) segments new small h.small;
      all = each_push (λ i s. s.waits ≡ true → contains nat_cmp more (rank s) ≡ true) segments new
          (λ _. added (rank new) ∙ ap (λ b. cond b true (contains nat_cmp ranks (rank new))) (same_key (rank new) (rank new) refl))
          (λ i s at left. added (rank s)
          ∙ kept_true (is_at (nat_cmp (rank new)) (rank s)) (contains nat_cmp ranks (rank s)) (h.all i s at left));
      only = λ r has. elim (cases_Bool (is_at (nat_cmp (rank new)) r)) [
        | inl it ↦ (length segments, new, get_right segments (new ∷ []) 0 (length segments) (omega arith), waits, equals (rank new) r it)
        | inr other ↦
            let was = h.only r (sym (added r ∙ ap (λ b. cond b true (contains nat_cmp ranks r)) other) ∙ has) in
            (was.0, was.1, append_at segments (new ∷ []) was.0 was.1 was.2, was.3, was.4)
      ];
      none = each_push (λ i s. i < passed → s.waits ≡ false) segments new (λ less. absurd (omega (arith, less, h.few))) h.none;
      few = omega (arith, h.few, length-append segments (new ∷ []));
    }

    -- and the rank is taken back
    pub ranked_back : (less : BTreeSet ℕ)
        → ((q : ℕ) → contains nat_cmp less q ≡ cond (is_at (nat_cmp (rank new)) q) false (contains nat_cmp more q))
        → AreRanked segments less passed
    ranked_back less removed =
        let kept : (r : ℕ) → is_at (nat_cmp (rank new)) r ≡ false → contains nat_cmp less r ≡ contains nat_cmp ranks r =
        λ r other. removed r ∙ (ap (λ b. cond b false (contains nat_cmp more r)) other
        ∙ (added r ∙ ap (λ b. cond b true (contains nat_cmp ranks r)) other)) in
        record {
          small = h.small;
          all = λ i s at left. let own = number_is i s at in let inside = slice_get_within segments i s at in
              kept (rank s) (differs (rank new) (rank s) (ranks_differ new s (omega (arith, last, room)) own.1
              (λ e. absurd (omega (arith, e, last, own.0, inside))))) ∙ h.all i s at left;
          only = λ r has. elim (cases_Bool (is_at (nat_cmp (rank new)) r)) [
            | inl it ↦ absurd (true≢false (sym has ∙ (removed r ∙ ap (λ b. cond b false (contains nat_cmp more r)) it)))
            | inr other ↦ h.only r (sym (kept r other) ∙ has)
          ];
          none = h.none;
          few = h.few;
        }
