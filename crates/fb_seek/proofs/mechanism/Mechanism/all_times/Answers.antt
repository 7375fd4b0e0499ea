use Rattle.std.proofs.Common.{◌≡◌, ◌∷◌, [], ◌++◌, false, true, not, length, subst, ap, sym, ◌∙◌, arith}
use Rattle.std.specs.Result.{is_ok}
use Rattle.std.proofs.lemmas.List.{length-append}
use Rattle.fb_seek.specs.Positioning.{seek}
use Rattle.fb_seek.specs.Table.{AreTimes}
use Rattle.fb_seek.proofs.Times.{one_more}
use Rattle.fb_seek.proofs.mechanism.Mechanism.all_times.Goals as goal

pub returns-then-is_err : goal.returns-then-is_err
returns-then-is_err c =
    let refused : is_ok c.push.result ≡ false = c.is_err.ensures.negation ∙ ap not c.if-is_err.true in
    let same : c.push.new.self.items ≡ c.loop-distance.times.items = rw refused at c.push.ensures.items in
    subst (AreTimes c.args.self.now) (sym same) c.loop-distance.invariant.0

pub loop-distance-preserved : goal.loop-distance-preserved
loop-distance-preserved c =
    let times = c.loop-distance.times.items in
    let long = c.loop-distance.invariant.1 in
    let kept : is_ok c.push.result ≡ true = c.is_err.ensures.negation ∙ ap not c.if-is_err.false in
    let pushed : c.push.new.self.items ≡ times ++ c.time_of-time.result ∷ [] = rw kept at c.push.ensures.items in
    let next : c.time_of-time.result ≡ seek c.args.self.now (length times) = c.time_of-time.ensures.value
    ∙ ap (seek c.args.self.now) (sym long) in
    let more : c.push.new.self.items ≡ times ++ seek c.args.self.now (length times) ∷ [] = rw next at pushed in (
      subst (AreTimes c.args.self.now) (sym more)
          (one_more c.args.self.now times c.loop-distance.invariant.0 (rw next at c.time_of-time.ensures.bound)),
      omega (arith, ap length more, length-append times (seek c.args.self.now (length times) ∷ []), long),
    )
