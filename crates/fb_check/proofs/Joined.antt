-- A text against fields with a space between each two.
use Rattle.fb_check.proofs.Words.{◌≡◌, ◌≢◌, ℕ, ◌+◌, ◌≤◌, List, [], ◌∷◌, ◌++◌, length, drop, ap, sym, ◌∙◌, append-nil, Some, slice_get}
use Rattle.fb_check.proofs.Words.{flat_map, join_with_byte, append_cancel_left, LineFields}
use Rattle.std.proofs.lemmas.List.{drop_all}
use Rattle.fb_units.proofs.Lists.{drop_at}

-- fields, each behind a space
abbrev pub spaced : LineFields → List ℕ
spaced fields = flat_map (λ field. 32 ∷ field) fields

joined_spaced : (first : List ℕ) (others : LineFields) → join_with_byte 32 (first ∷ others) ≡ first ++ spaced others
joined_spaced first [] = sym (append-nil first)
joined_spaced first (field ∷ fields) = ap (λ text. first ++ 32 ∷ text) (joined_spaced field fields)

-- the text is all of the fields exactly where what is left of it is those from this index on
pub record IsLeft (fields : LineFields) (text rest : List ℕ) (i : ℕ) : Type 0 where
  pub to : text ≡ join_with_byte 32 fields → rest ≡ spaced (drop i fields)
  pub from : rest ≡ spaced (drop i fields) → text ≡ join_with_byte 32 fields

module _ (fields : LineFields) (text first : List ℕ) (at : slice_get fields 0 ≡ Some first) where
  begins : join_with_byte 32 fields ≡ first ++ spaced (drop 1 fields)
  begins = ap (join_with_byte 32) (drop_at fields 0 first at) ∙ joined_spaced first (drop 1 fields)

  pub first_left : (rest : List ℕ) → text ≡ first ++ rest → IsLeft fields text rest 1
  first_left rest is = record {
    to = λ e. append_cancel_left first rest (spaced (drop 1 fields)) (sym is ∙ (e ∙ begins));
    from = λ e. is ∙ (ap (λ rest. first ++ rest) e ∙ sym begins);
  }

  pub first_other : ((rest : List ℕ) → text ≢ first ++ rest) → text ≢ join_with_byte 32 fields
  first_other other e = other (spaced (drop 1 fields)) (e ∙ begins)

module _ (fields : LineFields) (text rest : List ℕ) (i : ℕ) (left : IsLeft fields text rest i) where
  module _ (field : List ℕ) (at : slice_get fields i ≡ Some field) where
    goes_on : spaced (drop i fields) ≡ 32 ∷ (field ++ spaced (drop (i + 1) fields))
    goes_on = ap spaced (drop_at fields i field at)

    pub more_left : (behind : List ℕ) → rest ≡ 32 ∷ (field ++ behind) → IsLeft fields text behind (i + 1)
    more_left behind is = record {
      to = λ e. append_cancel_left (32 ∷ field) behind (spaced (drop (i + 1) fields)) (sym is ∙ (left.to e ∙ goes_on));
      from = λ e. left.from (is ∙ (ap (λ rest. 32 ∷ (field ++ rest)) e ∙ sym goes_on));
    }

    pub more_other : ((behind : List ℕ) → rest ≢ 32 ∷ (field ++ behind)) → text ≢ join_with_byte 32 fields
    more_other other e = other (spaced (drop (i + 1) fields)) (left.to e ∙ goes_on)

  nothing : length fields ≤ i → spaced (drop i fields) ≡ []
  nothing past = ap spaced (drop_all i fields past)

  pub all_left : length fields ≤ i → rest ≡ [] → text ≡ join_with_byte 32 fields
  all_left past none = left.from (none ∙ sym (nothing past))

  pub none_left : length fields ≤ i → text ≡ join_with_byte 32 fields → rest ≡ []
  none_left past e = left.to e ∙ nothing past
