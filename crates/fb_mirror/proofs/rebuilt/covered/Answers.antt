use Rattle.fb_mirror.proofs.Words.{◌≡◌, ◌+◌, ◌≤◌, ℕ, None, AllByRecursion, range_with_len, IfOk-weaker, held_at, runs_of, sectors_of}
use Rattle.fb_mirror.proofs.Words.{after_taking, held_in, EndsBy}
use Rattle.fb_mirror.proofs.Covering.{taken_runs}
use Rattle.fb_mirror.proofs.rebuilt.covered.Goals as goal

pub returns : goal.returns
returns c =
    let contents = c.args.contents.now in
    let held = held_at c.take.new.self in
    IfOk-weaker c.contents.result (λ runs. (end : ℕ) → EndsBy held end → runs ≡ runs_of (held_in held (range_with_len 0 end)))
    (λ runs. (end : ℕ) → AllByRecursion (λ run. run.first + run.count ≤ end) contents
    → runs ≡ runs_of (held_in (λ lbn. after_taking (sectors_of contents) lbn None) (range_with_len 0 end)))
    (λ runs fewest. taken_runs contents runs held (held_at c.new-held.result) c.new-held.ensures.none c.in_ok-take.ensures.ok fewest)
    c.contents.ensures.fewest
