-- The script of a rebuild reads back as its two calls.
use Rattle.fb_mirror.proofs.Words.{◌≡◌, ℕ, ◌+◌, ◌^◌, ◌<◌, ◌≤◌, List, [], ◌∷◌, ◌++◌, length, Bool, true, false, refl, ap, ◌∙◌, arith}
use Rattle.fb_mirror.proofs.Words.{nat_lt, ◌==◌, if◌then◌else◌, list_all, nat_tests, Shape, places, IsSound, Open, Want, Backup}
use Rattle.std.proofs.Common.{Ok, Err}
use Rattle.std.specs.Prelude.{decimal, codes}
use Rattle.std.proofs.lemmas.List.Folds.{list_all-append}
use Rattle.fb_maker.proofs.ScriptRead.{calls_end, calls_more, some_sectors}
use Rattle.fb_units.specs.Lines.{lines_of, fields_of}
use Rattle.fb_units.proofs.Written.{whole_number}
use Rattle.fb_calls.specs.declared.fault.CallsFault.{CallsFault}
use Rattle.fb_calls.specs.declared.fault.CallsReason.TheVariants.{TooManyBlocks}
use Rattle.fb_script.specs.Blocks.{blocks_in}
use Rattle.fb_calls.specs.Words.{verb_of, kind_of}
use Rattle.fb_calls.specs.Line.{asked_by, entry_of}
use Rattle.fb_calls.specs.Judgement.{Progress, opened, allowed, allowed_for, task_for, call_of, with_call, are_too_many}
use Rattle.fb_calls.specs.Reading.{at_start, at_end, fault_at, line_read, next_progress, lines_from, calls_of}
use Rattle.fb_maker.proofs.Splitting.{printed, field_then, field_last, word_printed, line_then, no_lines}
use Rattle.fb_maker.proofs.Spelling.{decimal_word}
use Rattle.fb_mirror.specs.Script.{rebuild_text, rebuild_reading, disk_blocks}

abbrev first_line : List ℕ
first_line = codes "0 open rebuild backup 1 16"

abbrev second_line : ℕ → List ℕ
second_line n = codes "0 want rebuild 0 " ++ decimal n

-- the calls so far, line by line
abbrev after_one : Shape → ℕ → Progress
after_one disk traced =
    with_call disk (codes "rebuild") (at_start traced) (record { line = 1; instant = 0; task = 0; action = Open Backup 1 16 })

abbrev after_two : Shape → ℕ → ℕ → Progress
after_two disk traced n =
    with_call disk (codes "rebuild") (after_one disk traced) (record { line = 2; instant = 0; task = 0; action = Want 0 n })

line_one : (disk : Shape) (traced : ℕ) → next_progress disk 1 (at_start traced) first_line ≡ Ok (after_one disk traced)
unfolding fields_of line_read entry_of asked_by verb_of kind_of call_of task_for opened
line_one disk traced = refl

want_fields : (n : ℕ) → n < 2 ^ 64 → fields_of (second_line n) ≡ codes "0" ∷ codes "want" ∷ codes "rebuild" ∷ codes "0" ∷ decimal n ∷ []
want_fields n small =
    field_then (codes "0") (codes "want rebuild 0 " ++ decimal n) (record { some = omega arith; plain = refl })
    ∙ ap (λ fields. codes "0" ∷ fields)
    (field_then (codes "want") (codes "rebuild 0 " ++ decimal n) (record { some = omega arith; plain = refl }))
    ∙ ap (λ fields. codes "0" ∷ codes "want" ∷ fields)
    (field_then (codes "rebuild") (codes "0 " ++ decimal n) (record { some = omega arith; plain = refl }))
    ∙ ap (λ fields. codes "0" ∷ codes "want" ∷ codes "rebuild" ∷ fields)
    (field_then (codes "0") (decimal n) (record { some = omega arith; plain = refl }))
    ∙ ap (λ fields. codes "0" ∷ codes "want" ∷ codes "rebuild" ∷ codes "0" ∷ fields) (field_last (decimal n) (decimal_word n small))

-- the second line is accepted, or has too many blocks
line_two : (disk : Shape) (traced n : ℕ) → 0 < n → n ≤ length (places disk) → n ≤ 10 ^ 12 → (many : Bool)
    → are_too_many 0 (blocks_in disk 16 (Want 0 n)) ≡ many
    → next_progress disk 2 (after_one disk traced) (second_line n)
    ≡ (if many then Err (fault_at 2 TooManyBlocks) else Ok (after_two disk traced n))
unfolding line_read entry_of asked_by verb_of call_of task_for allowed_for allowed
line_two disk traced n some inside small true are =
    let number = whole_number n (omega arith) in
    let is_some : (n == 0) ≡ false = grind (arith, nat_tests) in
    let is_inside : nat_lt (length (places disk)) (0 + n) ≡ false = grind (arith, nat_tests) in
    rw (want_fields n (omega arith), number, is_some, is_inside, are) refl
line_two disk traced n some inside small false are =
    let number = whole_number n (omega arith) in
    let is_some : (n == 0) ≡ false = grind (arith, nat_tests) in
    let is_inside : nat_lt (length (places disk)) (0 + n) ≡ false = grind (arith, nat_tests) in
    rw (want_fields n (omega arith), number, is_some, is_inside, are) refl

calls_stop : (disk : Shape) (number : ℕ) (so_far : Progress) (line : List ℕ) (lines : List (List ℕ)) (fault : CallsFault)
    → next_progress disk number so_far line ≡ Err fault
    → lines_from disk number so_far (line ∷ lines) ≡ Err fault
unfolding lines_from
calls_stop disk number so_far line lines fault e = rw e refl

second_printed : (n : ℕ) → n < 2 ^ 64 → list_all printed (second_line n) ≡ true
second_printed n small =
    list_all-append printed (codes "0 want rebuild 0 ") (decimal n) ∙ rw (word_printed (decimal n) (decimal_word n small).plain) refl

two_read : (n : ℕ) → n < 2 ^ 64
    → lines_of (codes "0 open rebuild backup 1 16\n0 want rebuild 0 " ++ decimal n ++ 10 ∷ []) ≡ first_line ∷ second_line n ∷ []
two_read n small =
    line_then first_line (second_line n ++ 10 ∷ []) refl
    ∙ ap (λ lines. first_line ∷ lines) (line_then (second_line n) [] (second_printed n small))
    ∙ ap (λ lines. first_line ∷ second_line n ∷ lines) no_lines

read_as : (disk : Shape) (traced n : ℕ) (many : Bool) → next_progress disk 2 (after_one disk traced) (second_line n)
    ≡ (if many then Err (fault_at 2 TooManyBlocks) else Ok (after_two disk traced n))
    → lines_from disk 1 (at_start traced) (first_line ∷ second_line n ∷ [])
    ≡ (if many then Err (fault_at 2 TooManyBlocks) else Ok (at_end (after_two disk traced n)))
read_as disk traced n true is =
    calls_more disk 1 (at_start traced) (after_one disk traced) first_line (second_line n ∷ []) (line_one disk traced)
    ∙ calls_stop disk 2 (after_one disk traced) (second_line n) [] (fault_at 2 TooManyBlocks) is
read_as disk traced n false is =
    calls_more disk 1 (at_start traced) (after_one disk traced) first_line (second_line n ∷ []) (line_one disk traced)
    ∙ calls_more disk 2 (after_one disk traced) (after_two disk traced n) (second_line n) [] is
    ∙ calls_end disk 3 (after_two disk traced n)

pub script_read : (disk : Shape) → IsSound disk → length (places disk) ≤ 10 ^ 12 → (traced : ℕ)
    → calls_of disk traced (rebuild_text disk) ≡ rebuild_reading disk
script_read disk sound few traced =
    let n = length (places disk) in
    ap (lines_from disk 1 (at_start traced)) (two_read n (omega arith))
    ∙ read_as disk traced n (are_too_many 0 (disk_blocks disk))
    (line_two disk traced n (some_sectors disk sound) (omega arith) few (are_too_many 0 (disk_blocks disk)) refl)
