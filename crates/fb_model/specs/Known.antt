-- What is known of a run by an instant.
use Rattle.std.specs.Prelude.{◌≡◌, ℕ, ◌<◌, List, [], ◌∷◌, Bool, true, false, nat_le, filter, map}
use Rattle.fb_geometry.specs.Sound.{IsSound}
use Rattle.fb_script.specs.declared.call.Call.{Call}
use Rattle.fb_rows.specs.declared.fore.ForeRow.{ForeRow}
use Rattle.fb_rows.specs.declared.back.BackRow.{BackRow}
use Rattle.fb_rows.specs.declared.back.BackRow.TheVariants.{Gap as BackGap, Idle as BackIdle, Got as BackGot, Bad as BackBad}
use Rattle.fb_rows.specs.declared.back.BackRow.TheVariants.{Seal as BackSeal, Segment as BackSegment, Complete as BackComplete}
use Rattle.fb_rows.specs.declared.back.BackRow.TheVariants.{Task as BackTask}
use Rattle.fb_rows.specs.declared.run.Run.{Run}
use Rattle.fb_model.specs.Inputs.{Inputs, requests, HaveSameSectors}
use Rattle.fb_model.specs.Accepted.{IsAccepted}
use Rattle.fb_model.specs.FullRun.{IsFull}

-- foreground rows that start by t
abbrev pub fore_known : ℕ → List ForeRow → List ForeRow
fore_known t rows = filter (λ row. nat_le row.start t) rows

-- a row is known by t; a finding is known if the delivery that it follows is
abbrev pub is_known : ℕ → Bool → BackRow → Bool
is_known t follows (BackGap row) = nat_le row.gap.now t
is_known t follows (BackIdle row) = nat_le row.end t
is_known t follows (BackGot row) = nat_le row.end t
is_known t follows (BackBad row) = follows
is_known t follows (BackSeal row) = nat_le row.instant t
is_known t follows (BackSegment row) = nat_le row.instant t
is_known t follows (BackComplete row) = nat_le row.instant t
is_known t follows (BackTask row) = false

-- the row behind this one follows a delivery that is known by t, with only findings between
abbrev pub follows_known : ℕ → Bool → BackRow → Bool
follows_known t follows (BackGot row) = nat_le row.end t
follows_known t follows (BackBad row) = follows
follows_known t follows _ = false

-- the row before others, if the test holds
abbrev pub only_if : Bool → BackRow → List BackRow → List BackRow
only_if true row rows = row ∷ rows
only_if false row rows = rows

-- of these rows those that are known by t; whether the first of them follows a delivery that is known
abbrev pub known_from : ℕ → Bool → List BackRow → List BackRow
known_from t follows [] = []
known_from t follows (row ∷ rows) = only_if (is_known t follows row) row (known_from t (follows_known t follows row) rows)

-- the background rows that are known by t
abbrev pub back_known : ℕ → List BackRow → List BackRow
back_known t rows = known_from t false rows

-- a call, whatever line of its script it stands on
abbrev pub without_line : Call → Call
without_line call = record call { line = 0 }

-- the inputs agree up to t
pub record AgreeUpTo (t : ℕ) (a b : Inputs) : Type 0 where
  pub disk : a.disk ≡ b.disk
  pub latent : HaveSameSectors a.latent b.latent
  pub key : a.key ≡ b.key
  pub requests : filter (λ request. nat_le request.arrival t) (requests a) ≡ filter (λ request. nat_le request.arrival t) (requests b)
  pub calls : map without_line (filter (λ call. nat_le call.instant t) a.calls)
      ≡ map without_line (filter (λ call. nat_le call.instant t) b.calls)

-- the parts known by t are equal
pub record SameKnown (t : ℕ) (a b : Run) : Type 0 where
  pub fore : fore_known t a.fore ≡ fore_known t b.fore
  pub back : back_known t a.back ≡ back_known t b.back

-- on a disk without a fault, nothing that is known by t depends on what comes after t
abbrev pub NoLookAhead : Type 0
NoLookAhead = (a b : Inputs) (run_a run_b : Run) (t : ℕ) → IsSound a.disk.map → IsAccepted a → IsAccepted b → IsFull a run_a
    → IsFull b run_b
    → t < run_a.end → t < run_b.end → AgreeUpTo t a b → SameKnown t run_a run_b

-- accepted inputs have at most one full run
abbrev pub OneFullRun : Type 0
OneFullRun = (inputs : Inputs) (a b : Run) → IsAccepted inputs → IsFull inputs a → IsFull inputs b → a ≡ b
