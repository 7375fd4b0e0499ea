use Rattle.fb_tasks.proofs.Words.{◌≡◌, ℕ, ◌+◌, ◌-◌, List, [], ◌∷◌, ◌++◌, length, length-append, refl, ap, sym, subst, ◌∙◌, append-nil}
use Rattle.fb_tasks.proofs.Words.{arith, Shape, cutting, blocks_of, Entry, numbered, Session, new_entries, HasBegun, wanted_unless}
use Rattle.fb_tasks.proofs.Complete.{counts_registered, registered_few}
use Rattle.fb_tasks.proofs.Leaving.{grown_not, grown_more, begun_not, begun_by, cut_registered, one_counted}
use Rattle.fb_wanted.specs.Numbering.{registered_count}
use Rattle.fb_tasks.proofs.wanting.want_range.Goals as goal

-- a range without sectors gives nothing
none-new : (disk : Shape) (session : Session) (task number lbn left : ℕ) (held : List Entry) → left ≡ 0
    → held ≡ held ++ new_entries session (numbered task session.weight number (cutting disk session.block lbn left))
unfolding cutting
none-new disk session task number lbn left held none = sym (append-nil held)
    ∙ ap (λ n. held ++ new_entries session (numbered task session.weight number (cutting disk session.block lbn n))) (sym none)

pub returns-then-count-eq0-clause-all : goal.returns-then-count-eq0-clause-all
returns-then-count-eq0-clause-all c = none-new c.args.map.now c.args.session.now c.args.task (registered_count c.args.task
    (blocks_of c.args.wanted.now)) c.args.first c.args.count c.args.wanted.now (omega arith)

pub loop-left-init : goal.loop-left-init
loop-left-init c =
    let first = ap (λ n. n.registered) c.counts-number.ensures ∙ counts_registered c.args.task c.args.wanted.now in
    record {
      all = ap (λ n. c.args.wanted.now ++ new_entries c.args.session.now (numbered c.args.task c.args.session.now.weight n
          (cutting c.args.map.now c.args.session.now.block c.args.first c.args.count))) first;
      next = first;
      within = refl;
      span = c.span-span.ensures.span;
      few = c.requires.few;
      grown = grown_not c.args.wanted.now;
    }

pub overflow_add-number : goal.overflow_add-number
overflow_add-number c = omega (arith, c.loop-left.invariant.next, c.loop-left.invariant.few, registered_few c.args.task c.loop-left.wanted)

pub returns-clause-all : goal.returns-clause-all
returns-clause-all c = none-new c.args.map.now c.args.session.now c.args.task c.loop-left.number c.loop-left.lbn c.loop-left.left
    c.loop-left.wanted (omega (arith, c.loop-left-test.false)) ∙ c.loop-left.invariant.all

pub returns-in_err-register-clause-begun : goal.returns-in_err-register-clause-begun
returns-in_err-register-clause-begun c = subst (HasBegun c.args.wanted.now _) (sym c.in_err-register.ensures.err)
    (begun_by _ c.loop-left.invariant.grown c.loop-left.invariant.all)

pub loop-left-preserved : goal.loop-left-preserved
loop-left-preserved c =
    let session = c.args.session.now in
    let cut = c.next_cut-cut.result in
    let before = c.loop-left.wanted in
    let now = c.register.new.self in
    let block = c.block_of.result in
    let rest = cutting c.args.map.now session.block (c.loop-left.lbn + cut.count) (c.loop-left.left - cut.count) in
    let entry : Entry = record { block = block; state = wanted_unless session.suspended } in
    let is : now ≡ before ++ entry ∷ [] = c.in_ok-register.ensures.ok in
    record {
      all = cut_registered c.args.task c.loop-left.number session before now cut (cutting c.args.map.now session.block c.loop-left.lbn
          c.loop-left.left) rest block c.next_cut-cut.ensures.first c.block_of.ensures is ∙ c.loop-left.invariant.all;
      next = one_counted c.args.task c.loop-left.number before now entry is (ap (λ b. b.task) c.block_of.ensures)
          c.loop-left.invariant.next;
      within = omega (arith, c.next_cut-cut.ensures.within, c.loop-left.invariant.within);
      span = c.next_cut-cut.ensures.span;
      few =
          omega (arith, c.loop-left.invariant.few, ap length is, length-append before (entry ∷ []), ap length c.next_cut-cut.ensures.first);
      grown = grown_more c.args.wanted.now before now c.loop-left.invariant.grown (record { added = entry ∷ []; is = is });
    }

pub returns-then-count-eq0-clause-begun : goal.returns-then-count-eq0-clause-begun
returns-then-count-eq0-clause-begun c = begun_not

pub returns-clause-begun : goal.returns-clause-begun
returns-clause-begun c = begun_by _ c.loop-left.invariant.grown c.loop-left.invariant.all

pub next_cut-cut-requires-clause-on_disk : goal.next_cut-cut-requires-clause-on_disk
next_cut-cut-requires-clause-on_disk c = omega (arith, c.loop-left.invariant.within, c.requires.on_disk)

pub register-requires-clause-numbered : goal.register-requires-clause-numbered
register-requires-clause-numbered c = rw c.block_of.ensures c.loop-left.invariant.next

pub register-requires-clause-room : goal.register-requires-clause-room
register-requires-clause-room c = omega (arith, c.loop-left.invariant.few, ap length c.next_cut-cut.ensures.first)
