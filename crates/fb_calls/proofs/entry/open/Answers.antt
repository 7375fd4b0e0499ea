use Rattle.std.proofs.Common.{◌≡◌, ℕ, List, [], ◌∷◌, Some, None, Ok, Err, length, refl, ap, arith}
use Rattle.std.proofs.lemmas.List.{nil_from_length}
use Rattle.std.proofs.lemmas.Result.{err_from_is_err_and}
use Rattle.fb_script.specs.declared.call.Kind.{Kind}
use Rattle.fb_script.specs.declared.call.Action.TheVariants.{Open}
use Rattle.fb_calls.specs.declared.fault.CallsReason.{CallsReason}
use Rattle.fb_calls.specs.declared.fault.CallsReason.TheVariants.{UnknownKind}
use Rattle.fb_calls.specs.declared.words.Verb.TheVariants.{Open as OpenVerb}
use Rattle.fb_calls.specs.Line.{number, asked_by}
use Rattle.fb_calls.specs.Words.{kind_of}
use Rattle.fb_calls.proofs.entry.open.Goals as goal

-- three fields that are read one after another are all of three
three : (all one two end : List (List ℕ)) (a b c : List ℕ) → length all ≡ 3 → all ≡ a ∷ one → one ≡ b ∷ two → two ≡ c ∷ end
    → all ≡ a ∷ b ∷ c ∷ []
three all one two end a b c long x y z = rw (x, y, z, nil_from_length end (omega (arith, long, ap length x, ap length y, ap length z))) refl

module _ (all : List (List ℕ)) (kind weight block : List ℕ) (is : all ≡ kind ∷ weight ∷ block ∷ []) where
  weight_refused : (reason : CallsReason) → Err reason ≡ number 5 weight → asked_by (Some OpenVerb) all ≡ Err reason
  unfolding asked_by
  weight_refused reason bad = rw (is, ← bad) refl

  module _ (w : ℕ) (has_weight : Ok w ≡ number 5 weight) where
    block_refused : (reason : CallsReason) → Err reason ≡ number 6 block → asked_by (Some OpenVerb) all ≡ Err reason
    unfolding asked_by
    block_refused reason bad = rw (is, ← has_weight, ← bad) refl

    module _ (b : ℕ) (has_block : Ok b ≡ number 6 block) where
      opened : (k : Kind) → Some k ≡ kind_of kind → asked_by (Some OpenVerb) all ≡ Ok (Ok (Open k w b))
      unfolding asked_by
      opened k known = rw (is, ← has_weight, ← has_block, ← known) refl

      unknown : None ≡ kind_of kind → asked_by (Some OpenVerb) all ≡ Ok (Err UnknownKind)
      unfolding asked_by
      unknown none = rw (is, ← has_weight, ← has_block, ← none) refl

pub returns-in_err-weight-2-clause-value : goal.returns-in_err-weight-2-clause-value
returns-in_err-weight-2-clause-value c =
    let is = three _ _ _ _ _ _ _ c.requires c.in_ok-kind.ensures c.in_ok-weight.ensures c.in_ok-block.ensures in
    let out = err_from_is_err_and c.from_residual-in_err-weight-2.result c.from_residual-in_err-weight-2.ensures.1 in
    rw (out.1, out.2) (weight_refused _ _ _ _ is _ c.in_err-weight-2.ensures.value)

pub returns-in_err-block-2-clause-value : goal.returns-in_err-block-2-clause-value
returns-in_err-block-2-clause-value c =
    let is = three _ _ _ _ _ _ _ c.requires c.in_ok-kind.ensures c.in_ok-weight.ensures c.in_ok-block.ensures in
    let out = err_from_is_err_and c.from_residual-in_err-block-2.result c.from_residual-in_err-block-2.ensures.1 in
    rw (out.1, out.2) (block_refused _ _ _ _ is _ c.in_ok-weight-2.ensures.value _ c.in_err-block-2.ensures.value)

pub returns-in-Some-clause-value : goal.returns-in-Some-clause-value
returns-in-Some-clause-value c =
    let is = three _ _ _ _ _ _ _ c.requires c.in_ok-kind.ensures c.in_ok-weight.ensures c.in_ok-block.ensures in
    opened _ _ _ _ is _ c.in_ok-weight-2.ensures.value _ c.in_ok-block-2.ensures.value _ c.in-Some.ensures

pub returns-in-None-clause-value : goal.returns-in-None-clause-value
returns-in-None-clause-value c =
    let is = three _ _ _ _ _ _ _ c.requires c.in_ok-kind.ensures c.in_ok-weight.ensures c.in_ok-block.ensures in
    unknown _ _ _ _ is _ c.in_ok-weight-2.ensures.value _ c.in_ok-block-2.ensures.value c.in-None.ensures
