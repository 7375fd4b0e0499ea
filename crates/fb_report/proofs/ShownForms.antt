-- Bytes and digests are shown as hexadecimal digits.
use Rattle.std.specs.Int.{byte_at, bytes_high_first}
use Rattle.std.proofs.lemmas.List.{length-append}
use Rattle.std.proofs.lemmas.List.FromFn.{length-range_with_len}
use Rattle.sha2.specs.Sha256.{digest_bytes, sha256}
use Rattle.fb_units.proofs.Each.{all_map_any, each_all}
use Rattle.fb_report.proofs.Words.{and_parts, ◌≡◌, ℕ, zero, suc, ◌+◌, ◌/◌, ◌%◌, ◌<◌, ◌^◌, List, [], ◌∷◌, length, Bool, true, refl, ◌∙◌}
use Rattle.fb_report.proofs.Words.{arith, inl, inr, nat_lt, replicate, codes, slice_index, flat_map, list_all, range_with_len, bytes_eq}
use Rattle.fb_report.proofs.Words.{or-true, cases_lt, nat_tests, length-map, length-replicate, sum_by-append, list_all-append}
use Rattle.fb_report.proofs.Words.{AllPass-from_list_all, encode_with, encode_lower, lower_digits, ContentRun, mark, fill, sector_bytes}
use Rattle.fb_report.proofs.Words.{Bytes, run_bytes, contents_bytes, shown, digest_text, is_lower_hex, are_bytes, IsField, HasSectors}
use Rattle.fb_store.specs.declared.content.Content.{Content}
use Rattle.fb_store.specs.declared.content.Content.TheVariants.{Filled, Unreadable}
use Rattle.fb_report.specs.declared.bytes.Bytes.TheVariants.{Nothing, Digest, Dump}
use Rattle.fb_report.proofs.{Fields.plain, PrintedForms.all_too}

-- ---- bytes

abbrev is_byte : ℕ → Bool
is_byte n = nat_lt n 256

low_part : (n : ℕ) → is_byte (n % 256) ≡ true
low_part n = grind (arith, nat_tests)

all_flat : {X : Type 0} (p : ℕ → Bool) (f : X → List ℕ) → ((x : X) → list_all p (f x) ≡ true) → (xs : List X)
    → list_all p (flat_map f xs) ≡ true
all_flat p f each [] = refl
all_flat p f each (x ∷ xs) = list_all-append p (f x) (flat_map f xs) ∙ rw (each x, all_flat p f each xs) refl

all_same : (n : ℕ) → list_all is_byte (replicate n 0) ≡ true
all_same zero = refl
all_same (suc n) = all_same n

at_any : (xs : List ℕ) (i : ℕ) → list_all is_byte xs ≡ true → is_byte (slice_index xs i) ≡ true
at_any [] i all = refl
at_any (x ∷ xs) zero all = (and_parts (is_byte x) (list_all is_byte xs) all).0
at_any (x ∷ xs) (suc i) all = at_any xs i (and_parts (is_byte x) (list_all is_byte xs) all).1

one_byte : (k n : ℕ) → is_byte (byte_at k n) ≡ true
one_byte zero n = low_part n
one_byte (suc k) n = low_part (n / 256 ^ suc k)

high_first : (k n : ℕ) → list_all is_byte (bytes_high_first k n) ≡ true
high_first zero n = refl
high_first (suc k) n = rw (one_byte k n, high_first k n) refl

mark_bytes : (writer lbn : ℕ) → list_all is_byte (mark writer lbn) ≡ true
unfolding mark
mark_bytes writer lbn =
    list_all-append is_byte (bytes_high_first 8 writer) (bytes_high_first 8 lbn) ∙ rw (high_first 8 writer, high_first 8 lbn) refl

fill_bytes : (writer lbn size : ℕ) → list_all is_byte (fill writer lbn size) ≡ true
unfolding fill
fill_bytes writer lbn size = each_all is_byte _ (all_map_any (λ y. is_byte y ≡ true) (λ i. slice_index (mark writer lbn) (i % 16))
    (λ i. at_any (mark writer lbn) (i % 16) (mark_bytes writer lbn)) (range_with_len 0 size))

sector_all : (lbn size : ℕ) (content : Content) → list_all is_byte (sector_bytes lbn size content) ≡ true
sector_all lbn size (Filled writer) = fill_bytes writer lbn size
sector_all lbn size Unreadable = all_same size

contents_all : (size : ℕ) (runs : List ContentRun) → list_all is_byte (contents_bytes size runs) ≡ true
contents_all size runs = all_flat is_byte (run_bytes size) (λ run. all_flat is_byte (λ i. sector_bytes (run.first + i) size run.content)
    (λ i. sector_all (run.first + i) size run.content) (range_with_len 0 run.count)) runs

digest_all : (hash : List ℕ) (n : ℕ) → list_all is_byte (digest_bytes hash n) ≡ true
unfolding digest_bytes
digest_all hash zero = refl
digest_all hash (suc n) = list_all-append is_byte (digest_bytes hash n) (bytes_high_first 4 (slice_index hash n))
    ∙ rw (digest_all hash n, high_first 4 (slice_index hash n)) refl

digest_some : (hash : List ℕ) (n : ℕ) → 0 < n → 0 < length (digest_bytes hash n)
unfolding digest_bytes
digest_some hash zero some = absurd (omega arith)
digest_some hash (suc n) some = omega (arith, length-append (digest_bytes hash n) (bytes_high_first 4 (slice_index hash n)))

-- ---- there are some

fill_length : (writer lbn size : ℕ) → length (fill writer lbn size) ≡ size
unfolding fill
fill_length writer lbn size =
    length-map (range_with_len 0 size) (λ i. slice_index (mark writer lbn) (i % 16)) ∙ length-range_with_len 0 size

sector_length : (lbn size : ℕ) (content : Content) → length (sector_bytes lbn size content) ≡ size
sector_length lbn size (Filled writer) = fill_length writer lbn size
sector_length lbn size Unreadable = length-replicate size 0

sectors_some : (size first count : ℕ) (content : Content) → 0 < size → 0 < count
    → 0 < length (flat_map (λ i. sector_bytes (first + i) size content) (range_with_len 0 count))
sectors_some size first zero content big some = absurd (omega arith)
sectors_some size first (suc count) content big some =
    omega (
      arith,
      sector_length (first + 0) size content,
      length-append (sector_bytes (first + 0) size content)
          (flat_map (λ i. sector_bytes (first + i) size content) (range_with_len 1 count)),
    )

abbrev count_of : ContentRun → ℕ
count_of run = run.count

contents_some : (size : ℕ) (runs : List ContentRun) → 0 < size → HasSectors runs → 0 < length (contents_bytes size runs)
contents_some size [] big some = absurd (omega arith)
contents_some size (run ∷ runs) big some = elim (cases_lt 0 run.count) [
  | inl more ↦ omega (
    arith,
    sectors_some size run.first run.count run.content big more,
    length-append (run_bytes size run) (contents_bytes size runs),
  )
  | inr none ↦ omega (
    arith,
    contents_some size runs big (omega (arith, some, sum_by-append count_of (run ∷ []) runs)),
    length-append (run_bytes size run) (contents_bytes size runs),
  )
]

-- ---- digits

digit_of : (n : ℕ) → n < 16 → is_lower_hex (slice_index lower_digits n) ≡ true
digit_of n low = AllPass-from_list_all is_lower_hex lower_digits refl n 0 (omega arith)

encoded : (bytes : List ℕ) → list_all is_byte bytes ≡ true → list_all is_lower_hex (encode_lower bytes) ≡ true
unfolding encode_with
encoded [] all = refl
encoded (byte ∷ bytes) all =
    let both = and_parts (is_byte byte) (list_all is_byte bytes) all in
    let small : byte < 256 = grind (arith, nat_tests) in
    rw (digit_of (byte / 16) (omega arith), digit_of (byte % 16) (omega arith), encoded bytes both.1) refl

encoded_some : (bytes : List ℕ) → 0 < length bytes → 0 < length (encode_lower bytes)
unfolding encode_with
encoded_some [] some = some
encoded_some (byte ∷ bytes) some = omega arith

hex_plain : (byte : ℕ) → is_lower_hex byte ≡ true → plain byte ≡ true
hex_plain byte is = grind (arith, nat_tests)

hex_is : (bytes : List ℕ) → 0 < length bytes → list_all is_byte bytes ≡ true → IsField are_bytes (encode_lower bytes)
hex_is bytes some all =
    let more : nat_lt 0 (length (encode_lower bytes)) ≡ true = grind (arith, nat_tests, encoded_some bytes some) in
    record {
      fits = rw (more, encoded bytes all) (or-true (bytes_eq (encode_lower bytes) (codes "-")));
      whole = all_too is_lower_hex plain hex_plain (encode_lower bytes) (encoded bytes all);
    }

pub dash_is : IsField are_bytes (codes "-")
dash_is = record { fits = refl; whole = refl }

sha_is : (message : List ℕ) → IsField are_bytes (encode_lower (sha256 message))
unfolding sha256
sha_is message = hex_is _ (digest_some _ 8 (omega arith)) (digest_all _ 8)

pub shown_is : (bytes : Bytes) (size : ℕ) (runs : List ContentRun) → 0 < size → HasSectors runs
    → IsField are_bytes (shown bytes size runs)
shown_is Nothing size runs big some = dash_is
shown_is Digest size runs big some = sha_is (contents_bytes size runs)
shown_is Dump size runs big some = hex_is (contents_bytes size runs) (contents_some size runs big some) (contents_all size runs)

pub digest_is : (bytes : Bytes) (size : ℕ) (runs : List ContentRun) → IsField are_bytes (digest_text bytes size runs)
digest_is Nothing size runs = dash_is
digest_is Digest size runs = sha_is (contents_bytes size runs)
digest_is Dump size runs = sha_is (contents_bytes size runs)
