use Rattle.fb_tasks.proofs.Words.{◌≡◌, not, refl, ap, sym, ◌∙◌, arith, and_parts, not-true, is_clean, choose_up_to, on_err}
use Rattle.fb_tasks.proofs.AllChoices.{up_to_split, still-chosen, idle-chosen, chosen-on, choices_in}
use Rattle.fb_tasks.proofs.BegunChoices.{begun-at}
use Rattle.fb_tasks.proofs.session.Session.choose.Goals as goal

-- what has stayed the same so far stays so by the next choice
same_on : {X Y : Type 0} {a b c : X} {d e f : Y} → (b ≡ a) × (e ≡ d) → (c ≡ b) × (f ≡ e) → (c ≡ a) × (f ≡ d)
same_on before one = (one.0 ∙ before.0, one.1 ∙ before.1)

pub returns-then-not-may_choose-clause-chosen : goal.returns-then-not-may_choose-clause-chosen
returns-then-not-may_choose-clause-chosen c = λ past may. idle-chosen (sym c.may_choose.ensures ∙ c.if-not-may_choose.true) may

pub choose_one-requires-clause-may : goal.choose_one-requires-clause-may
choose_one-requires-clause-may c = (
  choose_up_to c.loop-choice._choice c.args.map.now c.args.stamp.task c.requires.0,
  (c.loop-choice.invariant.chosen c.requires.0 c.requires.1).may,
)

pub loop-choice-init : goal.loop-choice-init
loop-choice-init c =
    let may_be =
    and_parts (is_clean c.args.self.now.kind) (not c.args.self.now.closed) (sym c.may_choose.ensures ∙ c.if-not-may_choose.false) in
    record {
      cleans = (may_be.0, not-true c.args.self.now.closed may_be.1);
      same = (refl, refl);
      chunks = refl;
      chosen = λ past may. still-chosen refl may;
    }

pub loop-choice-preserved : goal.loop-choice-preserved
loop-choice-preserved c =
    let inv = c.loop-choice.invariant in
    let one = c.choose_one.ensures in
    record {
      cleans = (ap (λ t. is_clean t.0) one.same.0 ∙ inv.cleans.0, ap (λ t. t.4) one.same.0 ∙ inv.cleans.1);
      same = same_on inv.same one.same;
      chunks = one.chunks ∙ inv.chunks;
      chosen = λ past may. rw (up_to_split c.loop-choice._choice 1 c.args.map.now c.args.stamp.task past)
          (chosen-on (inv.chosen past may) (c.in_ok-choose_one.ensures.chosen _ (inv.chosen past may).may));
    }

pub returns-then-not-branch : goal.returns-then-not-branch
returns-then-not-branch c =
    let inv = c.loop-choice.invariant in
    let one = c.choose_one.ensures in
    record {
      chosen = λ past may.
          let here = inv.chosen past may in
          let still = c.in_ok-choose_one.ensures.none c.if-not-branch.true _ here.may in
          rw (
            choices_in c.loop-choice._choice c.len-choice-end.result (sym c.may_choose.ensures
                ∙ c.if-not-may_choose.false) c.len-choice-end.ensures may
                c.loop-choice.auto._choice-end (λ _. still),
            sym still,
          ) (chosen-on here (c.in_ok-choose_one.ensures.chosen _ here.may));
      same = same_on inv.same one.same;
      begun = tt;
      chunks = one.chunks ∙ inv.chunks;
    }

pub returns-clause-chosen : goal.returns-clause-chosen
returns-clause-chosen c = λ past may.
    rw (choices_in c.loop-choice._choice c.len-choice-end.result (sym c.may_choose.ensures
    ∙ c.if-not-may_choose.false) c.len-choice-end.ensures may
    c.loop-choice.auto._choice-end (λ more. absurd (omega (arith, c.loop-choice-test.false, more)))) (c.loop-choice.invariant.chosen past
    may)

pub returns-in_err-choose_one-clause-same : goal.returns-in_err-choose_one-clause-same
returns-in_err-choose_one-clause-same c = same_on c.loop-choice.invariant.same c.choose_one.ensures.same

pub returns-in_err-choose_one-clause-begun : goal.returns-in_err-choose_one-clause-begun
returns-in_err-choose_one-clause-begun c = on_err c.from_residual.result (λ past may.
    let chosen = c.loop-choice.invariant.chosen past may in
    begun-at may c.loop-choice._choice c.len-choice-end.result (sym c.may_choose.ensures ∙ c.if-not-may_choose.false)
    c.len-choice-end.ensures (omega arith) chosen (c.in_err-choose_one.ensures.begun _ chosen.may))

pub returns-in_err-choose_one-clause-chunks : goal.returns-in_err-choose_one-clause-chunks
returns-in_err-choose_one-clause-chunks c = c.choose_one.ensures.chunks ∙ c.loop-choice.invariant.chunks
