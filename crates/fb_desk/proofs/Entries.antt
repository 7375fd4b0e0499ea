-- Entries that are held under names, and readings of them.
use Rattle.std.proofs.Common.{◌≡◌, ◌≢◌, ℕ, ◌+◌, ◌<◌, ◌≤◌, List, [], ◌∷◌, ◌++◌, length, get_or, take, drop, refl, sym, ap, ◌∙◌, inl, inr}
use Rattle.std.proofs.Common.{subst, arith, length-append, Option, Some, None}
use Rattle.std.specs.Prelude.{if◌then◌else◌, option_and_then, IfSome, true, false, zero, suc}
use Rattle.std.specs.Option.{option_map}
use Rattle.std.specs.Str.{bytes_eq}
use Rattle.std.specs.List.{find}
use Rattle.std.proofs.lemmas.Bool.{cases_Bool}
use Rattle.std.proofs.lemmas.List.{take_more, reverse-append}
use Rattle.std.proofs.lemmas.Option.{slice_get_read}
use Rattle.std.proofs.lemmas.Slice.Eq.{bytes_eq-Decides}
use Rattle.fb_desk.specs.Holdings.{NamedBytes, held_under, bytes_at, left_of, IsWithin}
use Rattle.fb_desk.specs.declared.holdings.Reading.{Reading}
use Rattle.fb_desk.specs.declared.holdings.Reading.TheVariants.{Unopened, Empty, At}

-- what is held under a name after one more entry
pub held_under-push : (entries : List NamedBytes) (e : NamedBytes) (name : List ℕ)
    → held_under (entries ++ e ∷ []) name ≡ (if bytes_eq e.name name then Some e.bytes else held_under entries name)
held_under-push entries e name =
    ap (λ es. option_map (λ entry. entry.bytes) (find (λ entry. bytes_eq entry.name name) es)) (reverse-append entries (e ∷ []))
    ∙ elim (cases_Bool (bytes_eq e.name name)) [ inl same ↦ rw same refl | inr other ↦ rw other refl ]

-- the bytes of the last entry are held under its name
pub held_under-here : (entries : List NamedBytes) (name bytes : List ℕ)
    → held_under (entries ++ record { name = name; bytes = bytes } ∷ []) name ≡ Some bytes
held_under-here entries name bytes =
    held_under-push entries (record { name = name; bytes = bytes }) name ∙ rw ((bytes_eq-Decides name name).1 refl) refl

-- under any other name the same is held as before
pub held_under-elsewhere : (entries : List NamedBytes) (name bytes other : List ℕ) → other ≢ name
    → held_under (entries ++ record { name = name; bytes = bytes } ∷ []) other ≡ held_under entries other
held_under-elsewhere entries name bytes other ne =
    held_under-push entries (record { name = name; bytes = bytes }) other
    ∙ elim (cases_Bool (bytes_eq name other)) [
      | inl same ↦ absurd (ne (sym ((bytes_eq-Decides name other).0 same)))
      | inr differ ↦ rw differ refl
    ]

-- what the first i + 1 entries hold, from what the first i hold
pub held_under-more : (entries : List NamedBytes) (name : List ℕ) (i : ℕ) (e : NamedBytes) → i < length entries → e ≡ get_or entries i e
    → held_under (take (i + 1) entries) name ≡ (if bytes_eq e.name name then Some e.bytes else held_under (take i entries) name)
held_under-more entries name i e within is =
    ap (λ es. held_under es name) (take_more entries i e within ∙ ap (λ x. take i entries ++ x ∷ []) (sym is))
    ∙ held_under-push (take i entries) e name

-- the bytes at an index are those of the entry there
pub bytes_at-read : (entries : List NamedBytes) (index : ℕ) (e : NamedBytes) → index < length entries → e ≡ get_or entries index e
    → bytes_at entries index ≡ Some e.bytes
bytes_at-read entries index e within is =
    ap (option_map (λ entry. entry.bytes)) (slice_get_read entries (length entries) index e refl within is)

-- if this entry has the name, it is the last one with that name so far
pub last_here : (entries : List NamedBytes) (name : List ℕ) (index : ℕ) (e : NamedBytes) → index < length entries
    → e ≡ get_or entries index e → bytes_eq e.name name ≡ true
    → bytes_at entries index ≡ held_under (take (index + 1) entries) name
last_here entries name index e within is same =
    bytes_at-read entries index e within is ∙ sym (held_under-more entries name index e within is ∙ rw same refl)

-- if this entry has another name, the last one with the name is among those before it
pub last_before : (entries : List NamedBytes) (name : List ℕ) (index : ℕ) (e : NamedBytes) (found : Option ℕ) → index < length entries
    → e ≡ get_or entries index e → bytes_eq e.name name ≡ false
    → option_and_then (bytes_at entries) found ≡ held_under (take index entries) name
    → option_and_then (bytes_at entries) found ≡ held_under (take (index + 1) entries) name
last_before entries name index e found within is other so_far =
    so_far ∙ sym (held_under-more entries name index e within is ∙ rw other refl)

-- at first no byte of an entry is read, which is no more than it has
IfSome-zero : (bytes : Option (List ℕ)) → IfSome bytes (λ b. 0 ≤ length b)
IfSome-zero None = tt
IfSome-zero (Some b) = omega arith

-- a reading may begin at any entry
pub IsWithin-start : (entries : List NamedBytes) (index : ℕ) → index < length entries → IsWithin entries (At index 0)
IsWithin-start entries index within = (within, IfSome-zero (bytes_at entries index))

-- one more entry doesn't change the bytes at an earlier index
bytes_at-push : (entries : List NamedBytes) (e : NamedBytes) (index : ℕ) → index < length entries
    → bytes_at (entries ++ e ∷ []) index ≡ bytes_at entries index
bytes_at-push [] e index within = absurd (omega arith)
bytes_at-push (x ∷ entries) e zero within = refl
bytes_at-push (x ∷ entries) e (suc index) within = bytes_at-push entries e index (omega arith)

-- one more entry doesn't change what a reading has left
pub left_of-push : (entries : List NamedBytes) (e : NamedBytes) (reading : Reading) → IsWithin entries reading
    → left_of (entries ++ e ∷ []) reading ≡ left_of entries reading
left_of-push entries e Unopened within = refl
left_of-push entries e Empty within = refl
left_of-push entries e (At index done) within = ap (option_map (drop done)) (bytes_at-push entries e index within.0)

-- a reading within the entries is so too after one more entry
pub IsWithin-push : (entries : List NamedBytes) (e : NamedBytes) (reading : Reading) → IsWithin entries reading
    → IsWithin (entries ++ e ∷ []) reading
IsWithin-push entries e Unopened within = tt
IsWithin-push entries e Empty within = tt
IsWithin-push entries e (At index done) within = (
  omega (arith, length-append entries (e ∷ []), within.0),
  subst (λ bytes. IfSome bytes (λ b. done ≤ length b)) (sym (bytes_at-push entries e index within.0)) within.1,
)
