use Rattle.fb_mirror.proofs.Words.{◌≡◌, ◌++◌, ◌∷◌, [], ℕ, List, None, map, ap, ◌∙◌, range_with_len, unwrap_or, IfOk-weaker, Unreadable}
use Rattle.fb_mirror.proofs.Words.{ContentRun, held_at, runs_of, sectors_of, after_taking, held_in, EndsBy}
use Rattle.fb_mirror.proofs.Covering.{whole_runs}
use Rattle.fb_mirror.proofs.rebuilt.over_unreadable.Goals as goal

pub returns : goal.returns
returns c =
    let contents = c.args.contents.now in
    let count = c.args.count in
    let held = held_at c.take-2.new.self in
    let lost = c.in_ok-push.ensures.ok
    ∙ ap (λ (runs : List ContentRun). runs ++ record { first = 0; count = count; content = Unreadable } ∷ []) c.new-lost.ensures in
    IfOk-weaker c.contents.result (λ runs. (end : ℕ) → EndsBy held end → runs ≡ runs_of (held_in held (range_with_len 0 end)))
    (λ runs. runs
    ≡ runs_of (map (λ lbn. (lbn, unwrap_or (after_taking (sectors_of contents) lbn None) Unreadable)) (range_with_len 0 count)))
    (λ runs fewest. whole_runs count contents c.push.new.self runs held (held_at c.take.new.self)
    (held_at c.new-held.result) lost c.new-held.ensures.none c.in_ok-take.ensures.ok c.in_ok-take-2.ensures.ok c.requires.ranges fewest)
    c.contents.ensures.fewest
