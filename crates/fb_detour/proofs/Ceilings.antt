-- No plan is worth more than its two stays.
use Rattle.std.proofs.Math.Bool.{and-false}
use Rattle.fb_units.proofs.Comparing.{if_le}
use Rattle.fb_detour.proofs.Words.{Bool, List, [], ap, arith, false, if◌then◌else◌, inl, inr, refl, true, ℕ, ◌&&◌, ◌*◌, ◌+◌, ◌<◌, ◌||◌, ◌∙◌}
use Rattle.fb_detour.proofs.Words.{◌∷◌, ◌≡◌, ◌≤◌, cases_Bool, nat_tests, sum_by-cons, sum_by-le-sum_by, sum_by, same_track, Disk, is_wanted}
use Rattle.fb_detour.proofs.Words.{on_track, wanted_of, wanted_weight, Block, Entry, Dwell, Gap, Plan, block_end, catches, early_dwell}
use Rattle.fb_detour.proofs.Words.{late_dwell, value, end-le, gain, stay_gain, stay}
use Rattle.fb_plan.proofs.Gains.{one_part, value-gain}

-- the sum of all
pub stay-of : (disk : Disk) (dwell : Dwell) (es xs : List Entry) (sum : ℕ) → xs ≡ on_track dwell.track es
    → sum ≡ sum_by (stay_gain disk dwell) xs → sum ≡ stay disk dwell es
unfolding stay
stay-of disk dwell es xs sum same s = s ∙ ap (sum_by (stay_gain disk dwell)) same

-- a sum of two parts for each is the sum of both
pub sum-of-both : {A : Type 0} (f g : A → ℕ) (xs : List A) → sum_by (λ x. f x + g x) xs ≡ sum_by f xs + sum_by g xs
sum-of-both f g [] = refl
sum-of-both f g (x ∷ xs) = omega (
  arith,
  sum_by-cons (λ y. f y + g y) x xs,
  sum_by-cons f x xs,
  sum_by-cons g x xs,
  sum-of-both f g xs,
)

pub if-le-n : (b : Bool) (n : ℕ) → (if b then n else 0) ≤ n
if-le-n true n = omega arith
if-le-n false n = omega arith

either_adds : (w a b : Bool) (n : ℕ) → (if w && (a || b) then n else 0) ≤ (if w && a then n else 0) + (if w && b then n else 0)
either_adds false a b n = omega arith
either_adds true true b n = omega arith
either_adds true false true n = omega arith
either_adds true false false n = omega arith

pub elsewhere : (disk : Disk) (dwell : Dwell) (e : Entry) → same_track dwell.track e.block.track ≡ false → stay_gain disk dwell e ≡ 0
elsewhere disk dwell e off = rw (off, and-false (is_wanted e.state)) refl

-- a stay catches blocks of its own track alone
pub stay-all : (disk : Disk) (dwell : Dwell) (es : List Entry) → sum_by (stay_gain disk dwell) es ≡ stay disk dwell es
unfolding stay
stay-all disk dwell es = one_part (stay_gain disk dwell) (λ e. same_track dwell.track e.block.track)
    (λ e off. elsewhere disk dwell e off) es

pub two_stays : (disk : Disk) (gap : Gap) (plan : Plan) (es : List Entry)
    → value disk gap (wanted_of es) plan ≤ stay disk (early_dwell disk gap plan) es + stay disk (late_dwell disk gap plan) es
two_stays disk gap plan es =
    let early = early_dwell disk gap plan in
    let late = late_dwell disk gap plan in
    let both = λ (e : Entry). stay_gain disk early e + stay_gain disk late e in
    let less = sum_by-le-sum_by (gain disk gap plan) both es
    (λ e. either_adds (is_wanted e.state) (catches disk early e.block) (catches disk late e.block) (e.block.weight * e.block.count)) in
    let sums = sum-of-both (stay_gain disk early) (stay_gain disk late) es in
    omega (arith, less, sums, value-gain disk gap plan es, stay-all disk early es, stay-all disk late es)

and_both : (w a b : Bool) → (a ≡ true → b ≡ true) → w && a ≡ true → w && b ≡ true
and_both true a b h k = h k
and_both false a b h k = k

still_caught : (disk : Disk) (a b : Dwell) (block : Block) → a.track ≡ b.track
    → block_end disk.map block b.begin ≤ block_end disk.map block a.begin → a.end ≤ b.end
    → catches disk a block ≡ true → catches disk b block ≡ true
still_caught disk a b block same end le h = grind (arith, nat_tests)

-- a longer stay catches each block that a shorter one does
gain-falls : (disk : Disk) (a b : Dwell) (e : Entry) → 0 < disk.map.rotation → a.track ≡ b.track → b.begin ≤ a.begin → a.end ≤ b.end
    → stay_gain disk a e ≤ stay_gain disk b e
gain-falls disk a b e some same begin end =
    let ends = end-le disk.map e.block b.begin a.begin some begin in
    if_le _ _ _ (and_both (is_wanted e.state) _ _ (still_caught disk a b e.block same ends end))

-- so it catches as much
pub longer_stay : (disk : Disk) (a b : Dwell) (es : List Entry) → 0 < disk.map.rotation → a.track ≡ b.track → b.begin ≤ a.begin
    → a.end ≤ b.end → stay disk a es ≤ stay disk b es
longer_stay disk a b es some same begin end =
    let each = sum_by-le-sum_by (stay_gain disk a) (stay_gain disk b) es (λ e. gain-falls disk a b e some same begin end) in
    omega (arith, each, stay-all disk a es, stay-all disk b es)

abbrev pub worth : Block → ℕ
worth b = b.weight * b.count

pub gain-worth : (disk : Disk) (dwell : Dwell) (e : Entry) → stay_gain disk dwell e ≤ worth e.block
gain-worth disk dwell e = if-le-n (is_wanted e.state && catches disk dwell e.block) (worth e.block)

pub no_gain : (disk : Disk) (dwell : Dwell) (e : Entry) → is_wanted e.state ≡ false → stay_gain disk dwell e ≡ 0
no_gain disk dwell e n = rw n refl

weighs : (disk : Disk) (dwell : Dwell) (es : List Entry) → sum_by (stay_gain disk dwell) es ≤ sum_by worth (wanted_of es)
weighs disk dwell [] = omega arith
weighs disk dwell (e ∷ es) = elim (cases_Bool (is_wanted e.state)) [
  | inl y ↦
      let right : sum_by worth (wanted_of (e ∷ es))
      ≡ worth e.block + sum_by worth (wanted_of es) = rw y (sum_by-cons worth e.block (wanted_of es)) in
      omega (arith, right, sum_by-cons (stay_gain disk dwell) e es, gain-worth disk dwell e, weighs disk dwell es)
  | inr n ↦
      let right : sum_by worth (wanted_of (e ∷ es)) ≡ sum_by worth (wanted_of es) = rw n refl in
      omega (arith, right, sum_by-cons (stay_gain disk dwell) e es, no_gain disk dwell e n, weighs disk dwell es)
]

-- no stay catches more than all that its track's wanted blocks weigh
pub weight_of_stay : (disk : Disk) (dwell : Dwell) (es : List Entry) → stay disk dwell es ≤ wanted_weight dwell.track es
unfolding stay
weight_of_stay disk dwell es = weighs disk dwell (on_track dwell.track es)
