-- Calls take effect one after another, and other events leave them as they are.
use Rattle.fb_decide.proofs.Words.{◌≡◌, ℕ, zero, suc, ◌+◌, ◌^◌, ◌<◌, ◌≤◌, List, [], ◌∷◌, Some, drop, filter, map, refl, ap, sym, ◌∙◌}
use Rattle.fb_decide.proofs.Words.{arith, subst, slice_get, IfSome, fold, drop_all, IsRising, after_is, by_is, Shape, Call, Entry}
use Rattle.fb_decide.proofs.Words.{DeliveryRow, Past, take_call, calls_due, with_delivery, Session, delivery_of, Tells, IsCalled}
use Rattle.fb_decide.proofs.Words.{past_with}
use Rattle.std.proofs.Common.{◌*◌}
use Rattle.fb_script.specs.Allowed.{blocks_from}
use Rattle.fb_tasks.specs.Telling.{MayTake, MaySettle}
use Rattle.fb_tasks.proofs.Calls.{count-is, left-is, may-take, called-more, called-delivered}
use Rattle.fb_decide.specs.Calls.{IsScriptOf}
use Rattle.fb_model.proofs.HistoriesUpTo.{calls_by, none_come}

none_ahead : (now n : ℕ) (calls : List Call) → IsRising (map (λ call. call.instant) calls)
    → IfSome (slice_get calls n) (λ call. now < call.instant) → filter (calls_by now) (drop n calls) ≡ []
none_ahead now n [] rising ahead = ap (filter (calls_by now)) (drop_all n [] (omega arith))
none_ahead now zero (call ∷ calls) rising ahead = rw (after_is call.instant now ahead) (none_come now call.instant calls ahead rising.0)
none_ahead now (suc n) (call ∷ calls) rising ahead = none_ahead now n calls rising.1 ahead

module _ (disk : Shape) (calls : List Call) (script : IsScriptOf disk calls) where
  -- the calls that are due stand next
  due_is : (past : Past) (next now : ℕ) → IsCalled disk calls past next → calls_due calls past now ≡ filter (calls_by now) (drop next calls)
  due_is past next now h = ap (λ n. filter (calls_by now) (drop n calls)) (count-is disk calls past next h)

  pub none_due : (past : Past) (next now : ℕ) → IsCalled disk calls past next → IfSome (slice_get calls next) (λ call. now < call.instant)
      → calls_due calls past now ≡ []
  none_due past next now h ahead = due_is past next now h ∙ none_ahead now next calls script.instants ahead

  pub may-choose : (past : Past) (next : ℕ) (sessions : List Session) (held : List Entry) → IsCalled disk calls past next
      → Tells disk past sessions held → MaySettle disk past sessions held
  may-choose past next sessions held h tells = record { tells = tells; few = omega (arith, h.few) }

  module _ (past : Past) (next : ℕ) (h : IsCalled disk calls past next) (call : Call) (at : slice_get calls next ≡ Some call)
      (sessions : List Session) (held : List Entry) (tells : Tells disk past sessions held) where
    pub taken-call : IsCalled disk calls (take_call disk past call) (next + 1)
    taken-call = called-more disk calls script.allowed script.few past next h call at sessions held tells

    pub due-more : (now : ℕ) → call.instant ≤ now → calls_due calls past now ≡ call ∷ calls_due calls (take_call disk past call) now
    due-more now here = rw (
      due_is past next now h,
      due_is (take_call disk past call) (next + 1) now taken-call,
      left-is disk calls script.allowed script.few past next h call at,
      by_is call.instant now here,
    ) refl

-- some of the calls that are due have been taken, and the rest of them stands next
pub record HasTaken (disk : Shape) (calls : List Call) (past : Past) (now next : ℕ) (sessions : List Session)
    (held : List Entry) : Type 0 where
  pub taken : Past
  pub called : IsCalled disk calls taken next
  pub tells : Tells disk taken sessions held
  pub rest : fold (take_call disk) past (calls_due calls past now) ≡ fold (take_call disk) taken (calls_due calls taken now)

module _ (disk : Shape) (calls : List Call) (script : IsScriptOf disk calls) (past : Past) (now next : ℕ) (sessions : List Session)
    (held : List Entry) (h : HasTaken disk calls past now next sessions held) where
  pub taken-may : (call : Call) → slice_get calls next ≡ Some call → MayTake disk h.taken sessions held call
  taken-may call at = may-take disk calls script.allowed script.few h.taken next h.called call at sessions held h.tells

  pub taken-more : (call : Call) (new : List Session) (now_held : List Entry) → slice_get calls next ≡ Some call → call.instant ≤ now
      → Tells disk (take_call disk h.taken call) new now_held → HasTaken disk calls past now (next + 1) new now_held
  taken-more call new now_held at here tells = record {
    taken = take_call disk h.taken call;
    called = taken-call disk calls script h.taken next h.called call at sessions held h.tells;
    tells = tells;
    rest = h.rest
        ∙ ap (fold (take_call disk) h.taken) (due-more disk calls script h.taken next h.called call at sessions held h.tells now here);
  }

  -- all of them
  module _ (ahead : IfSome (slice_get calls next) (λ call. now < call.instant)) where
    all_taken : fold (take_call disk) past (calls_due calls past now) ≡ h.taken
    all_taken = h.rest ∙ ap (fold (take_call disk) h.taken) (none_due disk calls script h.taken next now h.called ahead)

    pub taken-tells : Tells disk (fold (take_call disk) past (calls_due calls past now)) sessions held
    taken-tells = subst (λ p. Tells disk p sessions held) (sym all_taken) h.tells

    pub taken-called : IsCalled disk calls (fold (take_call disk) past (calls_due calls past now)) next
    taken-called = subst (λ p. IsCalled disk calls p next) (sym all_taken) h.called

-- no call has taken effect at first
pub called_first : (disk : Shape) (calls : List Call) → blocks_from disk [] calls ≤ 16 * 10 ^ 6 → IsCalled disk calls [] 0
called_first disk calls few = record { within = omega arith; taken = refl; few = omega (arith, few) }

-- deliveries and their tests
pub called_delivered : (disk : Shape) (calls : List Call) (past : Past) (next : ℕ) (gots : List DeliveryRow) → IsCalled disk calls past next
    → IsCalled disk calls (past_with past gots) next
called_delivered disk calls past next [] h = h
called_delivered disk calls past next (got ∷ gots) h =
    called_delivered disk calls (with_delivery past (delivery_of past got)) next gots (called-delivered disk calls past next got h)
