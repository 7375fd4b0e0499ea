use Rattle.fb_store.proofs.Words.{Some, ap, sym, ◌∙◌, nat_cmp, get}
use Rattle.fb_store.proofs.Held.{wrote_inside, wrote_before, wrote_after}
use Rattle.fb_store.proofs.ranges.write.Goals as goal

pub returns-clause-inside : goal.returns-clause-inside
returns-clause-inside c = wrote_inside (get nat_cmp c.cut.new.ranges) (get nat_cmp c.insert.new.self)
    (get nat_cmp c.clear_between.new.ranges) c.args.first c.args.end c.args.held c.requires
    c.in_ok-insert.ensures.updates.1 c.in_ok-insert.ensures.updates.2 c.clear_between.ensures.inside c.clear_between.ensures.below
    c.clear_between.ensures.above

pub returns-clause-before : goal.returns-clause-before
returns-clause-before c lbn less = wrote_before (get nat_cmp c.cut.new.ranges) (get nat_cmp c.insert.new.self)
    (get nat_cmp c.clear_between.new.ranges) c.args.first c.args.end c.args.held c.requires
    c.in_ok-insert.ensures.updates.1 c.in_ok-insert.ensures.updates.2 c.clear_between.ensures.inside c.clear_between.ensures.below
    c.clear_between.ensures.above lbn less
    ∙ c.in_ok-cut.ensures.same lbn

pub returns-clause-after : goal.returns-clause-after
returns-clause-after c lbn more = wrote_after (get nat_cmp c.cut.new.ranges) (get nat_cmp c.insert.new.self)
    (get nat_cmp c.clear_between.new.ranges) c.args.first c.args.end c.args.held c.requires
    c.in_ok-insert.ensures.updates.1 c.in_ok-insert.ensures.updates.2 c.clear_between.ensures.inside c.clear_between.ensures.below
    c.clear_between.ensures.above
    (c.in_ok-cut.ensures.begins ∙ ap Some (sym (c.in_ok-cut.ensures.same c.args.end))) lbn more
    ∙ c.in_ok-cut.ensures.same lbn
