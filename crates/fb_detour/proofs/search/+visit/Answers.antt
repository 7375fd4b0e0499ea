use Rattle.fb_detour.proofs.Words.{arith, inl, inr, subst, ℕ, ◌%◌, ◌*◌, ◌+◌, ◌-◌, ◌<◌, ◌^◌, ◌≡◌, ◌≤◌, mul-le, IsEnough}
use Rattle.fb_detour.proofs.Found.{itself, not_better, through}
use Rattle.fb_detour.proofs.Keys.{bound-of, part-more, parts-no_better, parts-done}
use Rattle.fb_detour.proofs.Levels.{covered, narrow, some_level, some_width}
use Rattle.fb_detour.proofs.search.+visit.Goals.{After-width_of-width}
use Rattle.fb_detour.proofs.search.+visit.Goals as goal

-- a part has a cylinder, and no more than a quarter of a million
some_width-of : (n : ℕ) (c : After-width_of-width n) → 0 < c.width_of-width.result
some_width-of n c = omega (arith, c.width_of-width.ensures, some_width (c.args.range.level - 1))

narrow-of : (n : ℕ) (c : After-width_of-width n) → c.width_of-width.result ≤ 262144
narrow-of n c = omega (arith, c.width_of-width.ensures, narrow c.args.range.level c.requires.shallow)

-- the parts make up the range
covered-of : (n : ℕ) (c : After-width_of-width n) → c.args.range.end ≤ c.args.range.from + 8 * c.width_of-width.result
covered-of n c =
    let range = c.args.range in
    let all = covered (range.end - range.from) range.level (omega (arith, c.if-end-from.false, c.if-end-from-eq1.false)) c.requires.whole in
    omega (arith, all, c.width_of-width.ensures)

-- a part of the cylinders ends by 9,000,000, even one that begins behind them
ends-soon : (n : ℕ) (c : After-width_of-width n) (key : ℕ)
    → c.args.range.from + (7 - (key - 1) % 8) * c.width_of-width.result + c.width_of-width.result ≤ 9 * 10 ^ 6
ends-soon n c key =
    let part = (key - 1) % 8 in
    let width = c.width_of-width.result in
    omega (
      arith,
      mul-le (7 - part) width 7 width (omega arith) (omega arith),
      c.if-end-from.false,
      c.requires.within,
      c.requires.few,
      narrow-of n c,
    )

pub returns-then-end-from-clause-keeps : goal.returns-then-end-from-clause-keeps
returns-then-end-from-clause-keeps n c = itself c.args.search.now c.args.best.plan

pub returns-then-end-from-clause-tried : goal.returns-then-end-from-clause-tried
returns-then-end-from-clause-tried n c = λ track low high. absurd (omega (arith, c.if-end-from.true, low, high))

pub returns-then-is_enough-clause-keeps : goal.returns-then-is_enough-clause-keeps
returns-then-is_enough-clause-keeps n c = itself c.args.search.now c.args.best.plan

pub returns-then-is_enough-clause-tried : goal.returns-then-is_enough-clause-tried
returns-then-is_enough-clause-tried n c = λ track low high leave is.
    not_better c.args.search.now c.args.best c.args.most (record { cylinder = c.args.range.from; head = 0 }) track leave c.requires.best
    (subst (IsEnough c.args.best c.args.most) c.first_track_on.ensures (c.is_enough.ensures c.if-is_enough.true))
    (λ before. elim before [ inl less ↦ absurd (omega (arith, less, low)) | inr same ↦ absurd (omega (arith, same.1)) ])
    (c.requires.most track leave low high is)

pub try_cylinder-requires-clause-rate : goal.try_cylinder-requires-clause-rate
try_cylinder-requires-clause-rate n c = λ track low high. c.requires.rate track low (omega (arith, high, c.if-end-from-eq1.true))

pub returns-then-end-from-eq1-clause-tried : goal.returns-then-end-from-eq1-clause-tried
returns-then-end-from-eq1-clause-tried n c = λ track low high.
    c.try_cylinder.ensures.tried track low (omega (arith, high, c.if-end-from-eq1.true))

pub overflow_sub-below : goal.overflow_sub-below
overflow_sub-below n c =
    let range = c.args.range in
    omega (
      arith,
      some_level (range.end - range.from) range.level (omega (arith, c.if-end-from.false, c.if-end-from-eq1.false)) c.requires.whole,
    )

pub keys_of-keys-requires-clause-width : goal.keys_of-keys-requires-clause-width
keys_of-keys-requires-clause-width n c = omega (arith, narrow-of n (goal.at.keys_of-keys-requires-clause-width n c).After-width_of-width)

pub loop-key-init : goal.loop-key-init
loop-key-init n c = record {
  scored = c.requires.best;
  keeps = itself c.args.search.now c.args.best.plan;
  done = λ j less above. absurd (omega (
    arith,
    c.next_below-key.ensures.greatest j less (omega (arith, (c.keys_of-keys.ensures j less).small)),
    above,
  ));
  among = c.next_below-key.ensures.its;
}

pub overflow_mul-begin : goal.overflow_mul-begin
overflow_mul-begin n c = omega (arith, ends-soon n (goal.at.overflow_mul-begin n c).After-width_of-width c.loop-key.key)

pub overflow_add-begin : goal.overflow_add-begin
overflow_add-begin n c = omega (arith, ends-soon n (goal.at.overflow_add-begin n c).After-width_of-width c.loop-key.key)

pub overflow_add-behind : goal.overflow_add-behind
overflow_add-behind n c = omega (arith, ends-soon n (goal.at.overflow_add-behind n c).After-width_of-width c.loop-key.key)

pub visit-best-requires : goal.visit-best-requires
visit-best-requires n c =
    let range = c.args.range in
    let upto = c.min-upto.ensures in
    let bound = bound-of c.args.search.now c.args.range.from c.args.range.end c.width_of-width.result c.keys_of-keys.result
    c.keys_of-keys.ensures c.loop-key.key c.min-upto.result (c.loop-key.invariant.among c.loop-key-test.true) upto in (
      omega (arith, c.decreases, some_level (range.end - range.from) range.level (omega (arith, c.if-end-from.false, c.if-end-from-eq1.false)) c.requires.whole),
      (
        omega (arith, upto, c.requires.within),
        (
          c.requires.few,
          (
            omega (arith, c.requires.shallow),
            (
              omega (arith, upto, c.width_of-width.ensures),
              (
                bound,
                (
                  c.requires.search,
                  (
                    λ track low high. c.rate_in-own.ensures track (omega (arith, low)) (omega (arith, high, upto)),
                    c.loop-key.invariant.scored,
                  ),
                ),
              ),
            ),
          ),
        ),
      ),
    )

pub loop-key-preserved : goal.loop-key-preserved
loop-key-preserved n c =
    let search = c.args.search.now in
    let old = c.loop-key.invariant in
    let new = c.visit-best in
    let next = c.next_below-key-in-loop-key in record {
      scored = new.ensures.scored;
      keeps = through search new.result.plan c.loop-key.best.plan c.args.best.plan new.ensures.keeps old.keeps;
      done = part-more search c.args.range.from c.args.range.end c.width_of-width.result c.keys_of-keys.result c.keys_of-keys.ensures
          new.result.plan c.loop-key.best.plan c.loop-key.key next.result c.min-upto.result (old.among c.loop-key-test.true)
          c.min-upto.ensures next.ensures.greatest new.ensures.keeps old.done new.ensures.tried;
      among = next.ensures.its;
    }

pub returns-clause-tried : goal.returns-clause-tried
returns-clause-tried n c =
    let none : c.loop-key.key ≡ 0 = omega (arith, c.loop-key-test.false) in
    let at = (goal.at.returns-clause-tried n c).After-width_of-width in
    parts-done c.args.search.now c.args.range.from c.args.range.end c.width_of-width.result c.keys_of-keys.result
    c.keys_of-keys.ensures c.loop-key.best.plan (some_width-of n at) (covered-of n at)
    (λ j less above. c.loop-key.invariant.done j less (omega (arith, none, above)))

pub returns-then-most-best-clause-tried : goal.returns-then-most-best-clause-tried
returns-then-most-best-clause-tried n c =
    let search = c.args.search.now in
    let range = c.args.range in
    let width = c.width_of-width.result in
    let keys = c.keys_of-keys in
    let old = c.loop-key.invariant in
    let at = (goal.at.returns-then-most-best-clause-tried n c).After-width_of-width in
    let all = parts-no_better search range.from range.end width keys.result keys.ensures c.loop-key.best c.loop-key.key old.scored
    old.done (omega (arith, c.if-most-best.true)) in
    parts-done search range.from range.end width keys.result keys.ensures c.loop-key.best.plan (some_width-of n at) (covered-of n at) all
