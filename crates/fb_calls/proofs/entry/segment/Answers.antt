use Rattle.std.proofs.Common.{◌≡◌, ℕ, List, [], ◌∷◌, false, true, Some, Ok, Err, take, length, refl, ap, sym, ◌∙◌, arith}
use Rattle.std.proofs.lemmas.List.{nil_from_length}
use Rattle.std.proofs.lemmas.Result.{err_from_is_err_and}
use Rattle.fb_script.specs.declared.call.Action.TheVariants.{Segment}
use Rattle.fb_calls.specs.declared.fault.CallsReason.{CallsReason}
use Rattle.fb_calls.specs.declared.fault.CallsReason.TheVariants.{BadNumber}
use Rattle.fb_calls.specs.declared.words.Verb.TheVariants.{Segment as SegmentVerb}
use Rattle.fb_calls.specs.Line.{number, asked_by}
use Rattle.fb_calls.specs.Live.{bits, is_live}
use Rattle.fb_calls.proofs.entry.segment.Goals as goal

-- four fields that are read one after another are all of four
four : (all one two three end : List (List ℕ)) (a b c d : List ℕ) → length all ≡ 4 → all ≡ a ∷ one → one ≡ b ∷ two → two ≡ c ∷ three
    → three ≡ d ∷ end → all ≡ a ∷ b ∷ c ∷ d ∷ []
four all one two three end a b c d long w x y z =
    rw (w, x, y, z, nil_from_length end (omega (arith, long, ap length w, ap length x, ap length y, ap length z))) refl

module _ (all : List (List ℕ)) (first blocks age live : List ℕ) (is : all ≡ first ∷ blocks ∷ age ∷ live ∷ []) where
  first_refused : (reason : CallsReason) → Err reason ≡ number 4 first → asked_by (Some SegmentVerb) all ≡ Err reason
  unfolding asked_by
  first_refused reason bad = rw (is, ← bad) refl

  module _ (f : ℕ) (has_first : Ok f ≡ number 4 first) where
    blocks_refused : (reason : CallsReason) → Err reason ≡ number 5 blocks → asked_by (Some SegmentVerb) all ≡ Err reason
    unfolding asked_by
    blocks_refused reason bad = rw (is, ← has_first, ← bad) refl

    module _ (b : ℕ) (has_blocks : Ok b ≡ number 5 blocks) where
      age_refused : (reason : CallsReason) → Err reason ≡ number 6 age → asked_by (Some SegmentVerb) all ≡ Err reason
      unfolding asked_by
      age_refused reason bad = rw (is, ← has_first, ← has_blocks, ← bad) refl

      module _ (a : ℕ) (has_age : Ok a ≡ number 6 age) where
        live_refused : is_live b live ≡ false → asked_by (Some SegmentVerb) all ≡ Err (BadNumber 7)
        unfolding asked_by
        live_refused bad = rw (is, ← has_first, ← has_blocks, ← has_age, bad) refl

        read : is_live b live ≡ true → asked_by (Some SegmentVerb) all ≡ Ok (Ok (Segment f b a (take b (bits live))))
        unfolding asked_by
        read good = rw (is, ← has_first, ← has_blocks, ← has_age, good) refl

pub returns-in_err-first-2-clause-value : goal.returns-in_err-first-2-clause-value
returns-in_err-first-2-clause-value c =
    let is = four _ _ _ _ _ _ _ _ _ c.requires c.in_ok-first.ensures c.in_ok-blocks.ensures c.in_ok-age.ensures c.in_ok-live.ensures in
    let out = err_from_is_err_and c.from_residual-in_err-first-2.result c.from_residual-in_err-first-2.ensures.1 in
    rw (out.1, out.2) (first_refused _ _ _ _ _ is _ c.in_err-first-2.ensures.value)

pub returns-in_err-blocks-2-clause-value : goal.returns-in_err-blocks-2-clause-value
returns-in_err-blocks-2-clause-value c =
    let is = four _ _ _ _ _ _ _ _ _ c.requires c.in_ok-first.ensures c.in_ok-blocks.ensures c.in_ok-age.ensures c.in_ok-live.ensures in
    let out = err_from_is_err_and c.from_residual-in_err-blocks-2.result c.from_residual-in_err-blocks-2.ensures.1 in
    rw (out.1, out.2) (blocks_refused _ _ _ _ _ is _ c.in_ok-first-2.ensures.value _ c.in_err-blocks-2.ensures.value)

pub returns-in_err-age-2-clause-value : goal.returns-in_err-age-2-clause-value
returns-in_err-age-2-clause-value c =
    let is = four _ _ _ _ _ _ _ _ _ c.requires c.in_ok-first.ensures c.in_ok-blocks.ensures c.in_ok-age.ensures c.in_ok-live.ensures in
    let out = err_from_is_err_and c.from_residual-in_err-age-2.result c.from_residual-in_err-age-2.ensures.1 in
    rw (out.1, out.2) (age_refused _ _ _ _ _ is _ c.in_ok-first-2.ensures.value _ c.in_ok-blocks-2.ensures.value _
    c.in_err-age-2.ensures.value)

pub returns-then-not-is_live-clause-value : goal.returns-then-not-is_live-clause-value
returns-then-not-is_live-clause-value c =
    let is = four _ _ _ _ _ _ _ _ _ c.requires c.in_ok-first.ensures c.in_ok-blocks.ensures c.in_ok-age.ensures c.in_ok-live.ensures in
    live_refused _ _ _ _ _ is _ c.in_ok-first-2.ensures.value _ c.in_ok-blocks-2.ensures.value _ c.in_ok-age-2.ensures.value
    (sym c.is_live.ensures ∙ c.if-not-is_live.true)

pub returns-clause-value : goal.returns-clause-value
returns-clause-value c =
    let is = four _ _ _ _ _ _ _ _ _ c.requires c.in_ok-first.ensures c.in_ok-blocks.ensures c.in_ok-age.ensures c.in_ok-live.ensures in
    read _ _ _ _ _ is _ c.in_ok-first-2.ensures.value _ c.in_ok-blocks-2.ensures.value _ c.in_ok-age-2.ensures.value
    (sym c.is_live.ensures ∙ c.if-not-is_live.false)
