use Rattle.fb_store.proofs.Words.{ap, ◌∙◌, ◌++◌, ◌-◌, sym, range_with_len, held_at, held_in, runs_of, sectors_of}
use Rattle.fb_store.proofs.Taken.{held_range, held_gap, none_added}
use Rattle.fb_store.proofs.sparse.SparseContents.add_range.Goals as goal

pub returns-in-None-clause-more : goal.returns-in-None-clause-more
returns-in-None-clause-more c =
    none_added c.args.runs.now (held_in (held_at c.args.self.now) (range_with_len c.args.lbn (c.next_begin-next.result - c.args.lbn)))
    (ap (λ ranges. held_in (held_at ranges) (range_with_len c.args.lbn (c.next_begin-next.result - c.args.lbn))) (sym c.self.view_is)
    ∙ held_gap c.self.inside.ranges.entries c.args.lbn c.next_begin-next.result c.next_begin-next.ensures.above
    c.next_begin-next.ensures.least c.in-None.ensures)
    c.requires.fewest

pub returns-in_ok-join-in-Some-clause-more : goal.returns-in_ok-join-in-Some-clause-more
returns-in_ok-join-in-Some-clause-more c =
    c.in_ok-join-in-Some.ensures.ok
    ∙ ap (λ sectors. runs_of (sectors_of c.args.runs.now ++ sectors))
    (sym (held_range c.self.inside.ranges.entries c.args.lbn c.next_begin-next.result c.in-Some.content c.next_begin-next.ensures.above
    c.next_begin-next.ensures.least c.in-Some.ensures)
    ∙ ap (λ ranges. held_in (held_at ranges) (range_with_len c.args.lbn (c.next_begin-next.result - c.args.lbn))) c.self.view_is)
