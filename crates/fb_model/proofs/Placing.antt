-- Catches put in the order of delivery: what holds of each still does, none ends before the one before it.
use Rattle.fb_model.proofs.Words.{◌≡◌, ℕ, ◌≤◌, List, [], ◌∷◌, Bool, true, false, map, nat_le, arith, inl, inr, refl, ap, ◌∙◌, ◌&&◌, ◌||◌}
use Rattle.fb_model.proofs.Words.{◌==◌, nat_lt, AllByRecursion, fold, cases_Bool, true≢false, or_cases, and_parts, nat_tests, Request}
use Rattle.fb_model.proofs.Words.{all_filter, all_weaker, all_any, all_map, all_pass, all_with, Disk, Passage, Block, Catch, Dwell}
use Rattle.fb_model.proofs.Words.{catches, in_order, catch_of, caught_of, lies_in, ride_of, carried_of}
use Rattle.std.proofs.Common.{filter}
use Rattle.std.proofs.lemmas.Bool.{eqb-true}
use Rattle.fb_model.specs.Deliveries.{is_before, placed}

-- ---- what holds of each

pub all_placed : (P : Catch → Type 0) (found : List Catch) (catch : Catch) → AllByRecursion P found → P catch
    → AllByRecursion P (placed found catch)
all_placed P [] catch each one = (one, each)
all_placed P (first ∷ others) catch each one = elim (cases_Bool (is_before catch first)) [
  | inl front ↦ rw front (one, each)
  | inr behind ↦ rw behind (each.0, all_placed P others catch each.1 one)
]

pub all_folded : (P : Catch → Type 0) (found before : List Catch) → AllByRecursion P before → AllByRecursion P found
    → AllByRecursion P (fold placed before found)
all_folded P [] before each one = each
all_folded P (catch ∷ found) before each one = all_folded P found (placed before catch) (all_placed P before catch each one.0) one.1

pub all_in_order : (P : Catch → Type 0) (found : List Catch) → AllByRecursion P found → AllByRecursion P (in_order found)
all_in_order P found each = all_folded P found [] tt each

-- what holds of each block that has a property and passes a test holds of all that pass it
pub all_filtered : {X : Type 0} (P : X → Type 0) (Q : Block → Type 0) (test : Block → Bool) (f : Block → X)
    → ((block : Block) → Q block → test block ≡ true → P (f block))
    → (blocks : List Block) → AllByRecursion Q blocks → AllByRecursion P (map f (filter test blocks))
all_filtered P Q test f each blocks have = all_map P f (filter test blocks) (all_with Q (λ block. test block ≡ true) (λ block. P (f block))
    each (filter test blocks) (all_filter Q test blocks have) (all_pass test blocks))

-- of what a dwell catches
pub all_caught : (disk : Disk) (dwell : Dwell) (P : Catch → Type 0) (Q : Block → Type 0)
    → ((block : Block) → Q block → catches disk dwell block ≡ true → P (catch_of disk dwell block))
    → (blocks : List Block) → AllByRecursion Q blocks → AllByRecursion P (caught_of disk dwell blocks)
unfolding caught_of
all_caught disk dwell P Q each blocks have = all_in_order P (map (catch_of disk dwell) (filter (catches disk dwell) blocks))
    (all_filtered P Q (catches disk dwell) (catch_of disk dwell) each blocks have)

-- of what a read carries
pub all_carried : (passages : List Passage) (request : Request) (P : Catch → Type 0) (Q : Block → Type 0)
    → ((block : Block) → Q block → lies_in request block ≡ true → P (ride_of passages block))
    → (blocks : List Block) → AllByRecursion Q blocks → AllByRecursion P (carried_of passages request blocks)
unfolding carried_of
all_carried passages request P Q each blocks have = all_in_order P (map (ride_of passages) (filter (lies_in request) blocks))
    (all_filtered P Q (lies_in request) (ride_of passages) each blocks have)

-- ---- what holds of any two

-- it holds of each and any later one
abbrev pub AnyTwo : (Catch → Catch → Type 0) → List Catch → Type 0
AnyTwo R [] = Unit {0}
AnyTwo R (catch ∷ found) = AllByRecursion (R catch) found × AnyTwo R found

module _ (R : Catch → Catch → Type 0) (turned : (a b : Catch) → R a b → R b a) where
  two_placed : (found : List Catch) (catch : Catch) → AllByRecursion (R catch) found → AnyTwo R found → AnyTwo R (placed found catch)
  two_placed [] catch own two = (tt, tt)
  two_placed (first ∷ others) catch own two = elim (cases_Bool (is_before catch first)) [
    | inl front ↦ rw front (own, two)
    | inr behind ↦ rw behind (
      all_placed (R first) others catch two.0 (turned catch first own.0),
      two_placed others catch own.1 two.1,
    )
  ]

  each_placed : (found others : List Catch) (catch : Catch) → AllByRecursion (R catch) others
      → AllByRecursion (λ other. AllByRecursion (R other) found) others
      → AllByRecursion (λ other. AllByRecursion (R other) (placed found catch)) others
  each_placed found [] catch own each = tt
  each_placed found (other ∷ others) catch own each =
      (all_placed (R other) found catch each.0 (turned catch other own.0), each_placed found others catch own.1 each.1)

  two_folded : (found before : List Catch) → AnyTwo R before → AnyTwo R found
      → AllByRecursion (λ catch. AllByRecursion (R catch) before) found → AnyTwo R (fold placed before found)
  two_folded [] before first two each = first
  two_folded (catch ∷ found) before first two each =
      two_folded found (placed before catch) (two_placed before catch each.0 first) two.1 (each_placed before found catch two.0 each.1)

  -- put in order too
  pub two_in_order : (found : List Catch) → AnyTwo R found → AnyTwo R (in_order found)
  two_in_order found two = two_folded found [] tt two (all_any _ (λ catch. tt) found)

-- ---- none ends before the one before it

before_end : (a b : Catch) → is_before a b ≡ true → a.end ≤ b.end
before_end a b h =
    let later = nat_lt a.block.task b.block.task || ((a.block.task == b.block.task) && nat_lt a.block.index b.block.index) in
    elim (or_cases (nat_lt a.end b.end) ((a.end == b.end) && later) h) [
      | inl less ↦ grind (arith, nat_tests)
      | inr tie ↦ let same = eqb-true a.end b.end (and_parts (a.end == b.end) later tie).0 in omega arith
    ]

not_before_end : (a b : Catch) → is_before a b ≡ false → b.end ≤ a.end
not_before_end a b h = elim (cases_Bool (nat_lt a.end b.end)) [
  | inl less ↦ absurd (let wrong : true ≡ false = rw less at h in true≢false wrong)
  | inr more ↦ grind (arith, nat_tests)
]

-- each ends at or after those before it
abbrev pub AreRising : List Catch → Type 0
AreRising [] = Unit {0}
AreRising (catch ∷ found) = AllByRecursion (λ (later : Catch). catch.end ≤ later.end) found × AreRising found

rising_placed : (found : List Catch) (catch : Catch) → AreRising found → AreRising (placed found catch)
rising_placed [] catch rising = (tt, tt)
rising_placed (first ∷ others) catch rising = elim (cases_Bool (is_before catch first)) [
  | inl front ↦
      let less = before_end catch first front in
      rw front (
        (
          less,
          all_weaker (λ (later : Catch). first.end ≤ later.end) (λ (later : Catch). catch.end ≤ later.end)
              (λ later h. omega (arith, h, less)) others rising.0,
        ),
        rising,
      )
  | inr behind ↦
      let more = not_before_end catch first behind in
      rw behind (all_placed (λ (later : Catch). first.end ≤ later.end) others catch rising.0 more, rising_placed others catch rising.1)
]

rising_folded : (found before : List Catch) → AreRising before → AreRising (fold placed before found)
rising_folded [] before rising = rising
rising_folded (catch ∷ found) before rising = rising_folded found (placed before catch) (rising_placed before catch rising)

pub rising_in_order : (found : List Catch) → AreRising (in_order found)
rising_in_order found = rising_folded found [] tt

-- ---- those that end by an instant

abbrev pub ends_by : ℕ → Catch → Bool
ends_by t catch = nat_le catch.end t

module _ (t : ℕ) where
  none_behind : (first : Catch) (found : List Catch) → ends_by t first ≡ false
      → AllByRecursion (λ (later : Catch). first.end ≤ later.end) found → filter (ends_by t) found ≡ []
  none_behind first [] late all = refl
  none_behind first (catch ∷ found) late all =
      let after : ends_by t catch ≡ false = let from = all.0 in grind (arith, nat_tests) in
      rw after (none_behind first found late all.1)

  placed_kept : (found : List Catch) (catch : Catch) → AreRising found → ends_by t catch ≡ true
      → filter (ends_by t) (placed found catch) ≡ placed (filter (ends_by t) found) catch
  placed_kept [] catch rising by = rw by refl
  placed_kept (first ∷ others) catch rising by = elim (cases_Bool (is_before catch first)) [
    | inl front ↦ elim (cases_Bool (ends_by t first)) [
      | inl by_first ↦ rw (front, by, by_first, front) refl
      | inr late ↦ rw (front, by, late, none_behind first others late rising.0) refl
    ]
    | inr behind ↦
        let more = not_before_end catch first behind in
        let by_first : ends_by t first ≡ true = grind (arith, nat_tests) in
        rw (behind, by_first, behind) (ap (λ found. first ∷ found) (placed_kept others catch rising.1 by))
  ]

  placed_dropped : (found : List Catch) (catch : Catch) → ends_by t catch ≡ false
      → filter (ends_by t) (placed found catch) ≡ filter (ends_by t) found
  placed_dropped [] catch late = rw late refl
  placed_dropped (first ∷ others) catch late = elim (cases_Bool (is_before catch first)) [
    | inl front ↦ rw (front, late) refl
    | inr behind ↦ elim (cases_Bool (ends_by t first)) [
      | inl by_first ↦ rw (behind, by_first) (ap (λ found. first ∷ found) (placed_dropped others catch late))
      | inr late_first ↦ rw (behind, late_first) (placed_dropped others catch late)
    ]
  ]

  folded_kept : (found before : List Catch) → AreRising before
      → filter (ends_by t) (fold placed before found) ≡ fold placed (filter (ends_by t) before) (filter (ends_by t) found)
  folded_kept [] before rising = refl
  folded_kept (catch ∷ found) before rising =
      folded_kept found (placed before catch) (rising_placed before catch rising) ∙ elim (cases_Bool (ends_by t catch)) [
        | inl by ↦ rw by (ap (λ before. fold placed before (filter (ends_by t) found)) (placed_kept before catch rising by))
        | inr late ↦ rw late (ap (λ before. fold placed before (filter (ends_by t) found)) (placed_dropped before catch late))
      ]

  -- they are the same, put in order before or after
  pub kept_in_order : (found : List Catch) → filter (ends_by t) (in_order found) ≡ in_order (filter (ends_by t) found)
  kept_in_order found = folded_kept found [] tt
