-- Bytes that toml reads, or refuses.
use Rattle.fb_params.proofs.Words.{◌≡◌, ℕ, List, Some, None, refl, inl, inr, is_utf8, cases_Bool, Members, document_of}
use Rattle.std.specs.Prelude.{IsUtf8}
use Rattle.std.proofs.lemmas.Str.{is_utf8-from_IsUtf8, IsUtf8-from_is_utf8}
use Rattle.toml.specs.Parse.{parse_document}

pub document_of_read : (bytes : List ℕ) (table : Members) → IsUtf8 bytes → parse_document bytes ≡ Some table
    → document_of bytes ≡ Some table
unfolding document_of
document_of_read bytes table utf8 read = rw (is_utf8-from_IsUtf8 bytes utf8) read

pub document_of_refused : (bytes : List ℕ) → (IsUtf8 bytes → parse_document bytes ≡ None) → document_of bytes ≡ None
unfolding document_of
document_of_refused bytes refused = elim (cases_Bool (is_utf8 bytes)) [
  | inl utf8 ↦ rw utf8 (refused (IsUtf8-from_is_utf8 bytes utf8))
  | inr other ↦ rw other refl
]
