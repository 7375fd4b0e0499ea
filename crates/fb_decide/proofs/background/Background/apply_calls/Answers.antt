use Rattle.fb_decide.proofs.Words.{◌≡◌, ◌<◌, ◌≤◌, refl, sym, ◌∙◌, subst, arith, IfSome, slice_get_past, Call}
use Rattle.std.proofs.lemmas.Option.{slice_get_read}
use Rattle.fb_decide.proofs.Calling.{taken-may, taken-more, taken-tells, taken-called}
use Rattle.fb_decide.proofs.background.Background.apply_calls.Goals as goal

pub loop-next-init : goal.loop-next-init
loop-next-init c = record {
  taken = λ past called tells. record { taken = past; called = called; tells = tells; rest = refl };
  within = c.requires.called.1.within;
  rows = refl;
}

pub apply-requires : goal.apply-requires
apply-requires c =
    let at = slice_get_read c.args.calls.now.calls.items c.len.result c.loop-next.next c.index-in-loop-next.result.now (c.len.ensures
    ∙ c.args.calls.now.calls.ok.0) c.loop-next-test.true c.index-in-loop-next.ensures in
    let taken = c.loop-next.invariant.taken c.requires.called.0 c.requires.called.1 c.requires.called.2 in (
      taken.taken,
      taken-may c.args.disk.now.map c.args.calls.now.calls.items c.requires.script c.requires.called.0 c.args.now c.loop-next.next
          c.loop-next.self.sessions c.loop-next.self.blocks taken c.index-in-loop-next.result.now at,
    )

pub loop-next-preserved : goal.loop-next-preserved
loop-next-preserved c =
    let calls = c.args.calls.now.calls.items in
    let call = c.index-in-loop-next.result.now in
    let at = slice_get_read calls c.len.result c.loop-next.next call (c.len.ensures
    ∙ c.args.calls.now.calls.ok.0) c.loop-next-test.true c.index-in-loop-next.ensures in
    let same = slice_get_read calls c.len.result c.loop-next.next c.index.result.now (c.len.ensures
    ∙ c.args.calls.now.calls.ok.0) c.loop-next-test.true c.index.ensures in
    let one : c.index.result.now ≡ call = grind (arith, at, same) in
    let here : call.instant ≤ c.args.now = subst (λ (x : Call). x.instant ≤ c.args.now) one c.if-index-now.true in
    record {
      taken = λ past called tells.
          let taken = c.loop-next.invariant.taken past called tells in
          taken-more c.args.disk.now.map calls c.requires.script past c.args.now c.loop-next.next c.loop-next.self.sessions
          c.loop-next.self.blocks taken call c.apply.new.self c.apply.new.wanted at here
          (c.in_ok-apply.ensures.ok taken.taken (taken-may c.args.disk.now.map calls c.requires.script past c.args.now c.loop-next.next
          c.loop-next.self.sessions c.loop-next.self.blocks taken call at));
      within = omega (arith, c.loop-next-test.true, c.len.ensures);
      rows = c.loop-next.invariant.rows;
    }

pub returns-else-index-now : goal.returns-else-index-now
returns-else-index-now c =
    let at = slice_get_read c.args.calls.now.calls.items c.len.result c.loop-next.next c.index.result.now (c.len.ensures
    ∙ c.args.calls.now.calls.ok.0) c.loop-next-test.true c.index.ensures in
    let ahead = subst (λ o. IfSome o (λ (call : Call). c.args.now < call.instant)) (sym at) c.if-index-now.false in
    record {
      tells = λ past called tells. taken-tells _ _ c.requires.script past c.args.now _ _ _
          (c.loop-next.invariant.taken past called tells) ahead;
      called = λ past called tells. taken-called _ _ c.requires.script past c.args.now _ _ _
          (c.loop-next.invariant.taken past called tells) ahead;
      ahead = ahead;
      rows = c.loop-next.invariant.rows;
    }

pub returns-after-loop-next : goal.returns-after-loop-next
returns-after-loop-next c =
    let none = slice_get_past c.args.calls.now.calls.items c.loop-next.next (omega (arith, c.loop-next-test.false, c.len.ensures)) in
    let ahead = subst (λ o. IfSome o (λ (call : Call). c.args.now < call.instant)) (sym none) tt in
    record {
      tells = λ past called tells. taken-tells _ _ c.requires.script past c.args.now _ _ _
          (c.loop-next.invariant.taken past called tells) ahead;
      called = λ past called tells. taken-called _ _ c.requires.script past c.args.now _ _ _
          (c.loop-next.invariant.taken past called tells) ahead;
      ahead = ahead;
      rows = c.loop-next.invariant.rows;
    }
