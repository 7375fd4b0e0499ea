-- How due lines begin and end.
use Rattle.fb_check.proofs.Words.{◌≡◌, ℕ, zero, suc, ◌-◌, ◌<◌, List, [], ◌∷◌, ◌++◌, length, take, false, refl, ap, subst, ◌∙◌, arith, inl}
use Rattle.fb_check.proofs.Words.{inr, length-append, ◌==◌, decimal, codes, sum_by, take-append-le, take_all, cases_Bool, ForeRow, BackRow}
use Rattle.fb_check.proofs.Words.{Seal, Bytes, fore_line, back_line, ended, BeginsLikeEnd}
use Rattle.std.proofs.Common.{◌%◌, ◌/◌}
use Rattle.std.specs.Prelude.{nat_lt}
use Rattle.std.specs.Fmt.{digits, digits_onto, digit_glyph}
use Rattle.fb_units.specs.declared.types.Name.{Name}
use Rattle.fb_units.specs.declared.types.Name.TheVariants.{Traced, Promoted}
use Rattle.fb_rows.specs.declared.back.BackRow.TheVariants.{Gap, Idle, Got, Bad, Segment, Complete, Task}
use Rattle.fb_report.specs.Lines.{with_fields, line_of, name_text, track_text}
use Rattle.fb_report.specs.Fore.{row_fields, row_bytes}
use Rattle.fb_report.specs.Shown.{shown}
use Rattle.fb_report.specs.Back.{gap_fields, got_fields, segment_fields, task_fields, task_text, digest_text}

-- ---- line feeds

pub line_ended : (first : List ℕ) (fields : List (List ℕ)) → (line : List ℕ) × (line_of first fields ≡ ended line)
line_ended first fields = (with_fields first fields, refl)

-- a line without its line feed
pub trimmed : (due line : List ℕ) → due ≡ ended line → take (length due - 1) due ≡ line
trimmed due line e =
    let n : length due - 1 ≡ length line = omega (arith, ap length e, length-append line (10 ∷ [])) in
    ap (λ n. take n due) n ∙ (ap (take (length line)) e
    ∙ (take-append-le (length line) line (10 ∷ []) (omega arith) ∙ take_all (length line) line (omega arith)))

-- ---- the first byte

-- a line that begins with another byte
pub not_end : (byte : ℕ) (bytes : List ℕ) (fields : List (List ℕ)) → (byte ≡ 101 → ⊥) → BeginsLikeEnd (line_of (byte ∷ bytes) fields) → ⊥
not_end byte bytes [] other begins = other (let e = begins.1 in cc)
not_end byte bytes (field ∷ fields) other begins = not_end byte (bytes ++ 32 ∷ field) fields other begins

-- a digit or a P at the front
pub record BeginsRow (text : List ℕ) : Type 0 where
  pub byte : ℕ
  pub bytes : List ℕ
  pub is : text ≡ byte ∷ bytes
  pub low : byte < 101

glyph_low : (n : ℕ) → digit_glyph false (n % 10) < 101
glyph_low n = elim (cases_Bool (nat_lt (n % 10) 10)) [
  | inl digit ↦ rw digit (omega arith)
  | inr other ↦ rw other (omega arith)
]

digits_behind : (k n byte : ℕ) (bytes : List ℕ) → byte < 101 → BeginsRow (digits_onto k 10 false n (byte ∷ bytes))
digits_behind zero n byte bytes low = record { byte = byte; bytes = bytes; is = refl; low = low }
digits_behind (suc k) n byte bytes low = elim (cases_Bool (n / 10 == 0)) [
  | inl last ↦ rw last (record { byte = digit_glyph false (n % 10); bytes = byte ∷ bytes; is = refl; low = glyph_low n })
  | inr more ↦ rw more (digits_behind k (n / 10) (digit_glyph false (n % 10)) (byte ∷ bytes) (glyph_low n))
]

digits_begin : (k n : ℕ) → BeginsRow (digits_onto (suc k) 10 false n [])
digits_begin k n = elim (cases_Bool (n / 10 == 0)) [
  | inl last ↦ rw last (record { byte = digit_glyph false (n % 10); bytes = []; is = refl; low = glyph_low n })
  | inr more ↦ rw more (digits_behind k (n / 10) (digit_glyph false (n % 10)) [] (glyph_low n))
]

name_begins : (name : Name) → BeginsRow (name_text name)
unfolding digits
name_begins (Traced n) = digits_begin 63 n
name_begins (Promoted n) = record { byte = 80; bytes = decimal n; is = refl; low = omega arith }

fore_not_end_by : (text : List ℕ) (fields : List (List ℕ)) → BeginsRow text → BeginsLikeEnd (line_of text fields) → ⊥
fore_not_end_by text fields row begins =
    not_end row.byte row.bytes fields (λ e. omega (arith, row.low)) (subst (λ t. BeginsLikeEnd (line_of t fields)) row.is begins)

pub fore_not_end : (size : ℕ) (bytes : Bytes) (row : ForeRow) → BeginsLikeEnd (fore_line size bytes row) → ⊥
fore_not_end size bytes row =
    fore_not_end_by (name_text row.request.name) (row_fields row (row_bytes size bytes row)) (name_begins row.request.name)

-- the line of a background row: a word that isn't `end`, and fields
record IsRowLine (text : List ℕ) : Type 0 where
  byte : ℕ
  bytes : List ℕ
  fields : List (List ℕ)
  is : text ≡ line_of (byte ∷ bytes) fields
  other : byte ≡ 101 → ⊥

back_row_line : (names : List (List ℕ)) (size : ℕ) (bytes : Bytes) (row : BackRow) → IsRowLine (back_line names size bytes row)
back_row_line names size bytes (Gap row) =
    record { byte = 103; bytes = codes "ap"; fields = gap_fields row; is = refl; other = λ e. omega arith }
back_row_line names size bytes (Idle dwell) = record {
  byte = 105;
  bytes = codes "dle";
  fields = track_text dwell.track ∷ decimal dwell.begin ∷ decimal dwell.end ∷ [];
  is = refl;
  other = λ e. omega arith;
}
back_row_line names size bytes (Got row) = record {
  byte = 103;
  bytes = codes "ot";
  fields = got_fields names row (shown bytes size row.content);
  is = refl;
  other = λ e. omega arith;
}
back_row_line names size bytes (Bad row) =
    record { byte = 98; bytes = codes "ad"; fields = task_text names row.task ∷ decimal row.lbn ∷ []; is = refl; other = λ e. omega arith }
back_row_line names size bytes (Seal row) = record {
  byte = 115;
  bytes = codes "eal";
  fields = task_text names row.task ∷ decimal row.instant ∷ decimal (sum_by (λ run. run.count) row.content)
      ∷ digest_text bytes size row.content ∷ [];
  is = refl;
  other = λ e. omega arith;
}
back_row_line names size bytes (Segment row) = record {
  byte = 115;
  bytes = codes "eg";
  fields = segment_fields names row (digest_text bytes size row.content);
  is = refl;
  other = λ e. omega arith;
}
back_row_line names size bytes (Complete row) = record {
  byte = 100;
  bytes = codes "one";
  fields = task_text names row.task ∷ decimal row.instant ∷ [];
  is = refl;
  other = λ e. omega arith;
}
back_row_line names size bytes (Task row) =
    record { byte = 116; bytes = codes "ask"; fields = task_fields names row; is = refl; other = λ e. omega arith }

pub back_ended : (names : List (List ℕ)) (size : ℕ) (bytes : Bytes) (row : BackRow)
    → (line : List ℕ) × (back_line names size bytes row ≡ ended line)
back_ended names size bytes row = let line = back_row_line names size bytes row in
    (with_fields (line.byte ∷ line.bytes) line.fields, line.is)

pub back_not_end : (names : List (List ℕ)) (size : ℕ) (bytes : Bytes) (row : BackRow)
    → BeginsLikeEnd (back_line names size bytes row) → ⊥
back_not_end names size bytes row begins = let line = back_row_line names size bytes row in
    not_end line.byte line.bytes line.fields line.other (subst BeginsLikeEnd line.is begins)
