-- A generated script reads back as its four calls.
use Rattle.fb_maker.proofs.Words.{◌≡◌, ℕ, ◌+◌, ◌-◌, ◌*◌, ◌^◌, ◌<◌, ◌≤◌, List, [], ◌∷◌, ◌++◌, length, min, true, false, refl, sym, ap, ◌∙◌}
use Rattle.fb_maker.proofs.Words.{arith, append_assoc, subst, suc, inl, inr, Some, Ok, nat_lt, ◌==◌, decimal, codes, slice_get, list_all}
use Rattle.fb_maker.proofs.Words.{flat_map, range_with_len, list_all-append, length-append, cases_Bool, nat_tests, lines_of, fields_of}
use Rattle.fb_maker.proofs.Words.{whole_number, Shape, places, zone_places, data_list, IsSound, Zone, PerTrack, PerCylinder, cutting}
use Rattle.fb_maker.proofs.Words.{number_of, first_zone, most, script_lines, script_text, script_calls, call_at, is_long, has_long_tracks}
use Rattle.fb_geometry.specs.declared.layout.Layout.{Layout}
use Rattle.fb_script.specs.declared.call.Action.TheVariants.{Open, Want}
use Rattle.fb_script.specs.declared.call.Kind.TheVariants.{Scrub, Backup}
use Rattle.fb_calls.specs.Words.{verb_of, kind_of}
use Rattle.fb_calls.specs.Line.{asked_by, entry_of}
use Rattle.fb_calls.specs.Judgement.{Progress, opened, allowed, allowed_for, task_for, call_of, with_call}
use Rattle.fb_calls.specs.Reading.{at_start, at_end, line_read, next_progress, lines_from, calls_of}
use Rattle.fb_maker.proofs.{LongTracks.long_tracks_spread, Blocks.few_blocks, Blocks.no_more_blocks, Splitting.printed, Splitting.IsWord}
use Rattle.fb_maker.proofs.{Splitting.field_then, Splitting.field_last, Splitting.word_printed, Splitting.line_then, Splitting.no_lines}
use Rattle.fb_maker.proofs.{Spelling.decimal_word}

-- the calls so far, line by line
abbrev after_one : Shape → ℕ → Progress
after_one disk traced = with_call disk (codes "scrub") (at_start traced) (call_at 1 0 (Open Scrub 1 16))

abbrev after_two : Shape → ℕ → ℕ → Progress
after_two disk traced n = with_call disk (codes "scrub") (after_one disk traced) (call_at 2 0 (Want 0 n))

abbrev after_three : Shape → ℕ → ℕ → Progress
after_three disk traced n = with_call disk (codes "backup") (after_two disk traced n) (call_at 3 1 (Open Backup 2 16))

abbrev after_four : Shape → ℕ → ℕ → ℕ → Progress
after_four disk traced n m = with_call disk (codes "backup") (after_three disk traced n) (call_at 4 1 (Want 0 m))

line_one : (disk : Shape) (traced : ℕ)
    → next_progress disk 1 (at_start traced) (codes "0.000000 open scrub scrub 1 16") ≡ Ok (after_one disk traced)
unfolding fields_of line_read entry_of asked_by verb_of kind_of call_of task_for opened
line_one disk traced = refl

line_three : (disk : Shape) (traced n : ℕ)
    → next_progress disk 3 (after_two disk traced n) (codes "0.000000 open backup backup 2 16") ≡ Ok (after_three disk traced n)
unfolding fields_of line_read entry_of asked_by verb_of kind_of call_of task_for opened
line_three disk traced n = refl

want_fields : (name : List ℕ) (n : ℕ) → n < 2 ^ 64 → IsWord name
    → fields_of (codes "0.000000 want " ++ (name ++ 32 ∷ (codes "0" ++ 32 ∷ decimal n))) ≡ codes "0.000000" ∷ codes "want" ∷ name
    ∷ codes "0" ∷ decimal n ∷ []
want_fields name n small is =
    field_then (codes "0.000000") (codes "want " ++ (name ++ 32 ∷ (codes "0" ++ 32 ∷ decimal n)))
    (record { some = omega arith; plain = refl })
    ∙ ap (λ fields. codes "0.000000" ∷ fields)
    (field_then (codes "want") (name ++ 32 ∷ (codes "0" ++ 32 ∷ decimal n)) (record { some = omega arith; plain = refl }))
    ∙ ap (λ fields. codes "0.000000" ∷ codes "want" ∷ fields) (field_then name (codes "0" ++ 32 ∷ decimal n) is)
    ∙ ap (λ fields. codes "0.000000" ∷ codes "want" ∷ name ∷ fields)
    (field_then (codes "0") (decimal n) (record { some = omega arith; plain = refl }))
    ∙ ap (λ fields. codes "0.000000" ∷ codes "want" ∷ name ∷ codes "0" ∷ fields) (field_last (decimal n) (decimal_word n small))

-- what is tested of a want: its sectors are on the disk, and cut into few blocks
want_tests : (disk : Shape) (n blocks : ℕ) → 0 < n → n ≤ length (places disk) → n ≤ 10 ^ 12 → blocks ≤ 16 * 10 ^ 6
    → (number_of (decimal n) ≡ Some n) × ((n == 0) ≡ false) × (nat_lt (length (places disk)) (0 + n) ≡ false)
    × (nat_lt 16000000 blocks ≡ false)
want_tests disk n blocks some inside small few =
    (whole_number n (omega arith), grind (arith, nat_tests), grind (arith, nat_tests), grind (arith, nat_tests))

line_two : (disk : Shape) (traced n : ℕ) → 0 < n → n ≤ length (places disk) → n ≤ 10 ^ 12 → length (cutting disk 16 0 n) ≤ 16 * 10 ^ 6
    → next_progress disk 2 (after_one disk traced) (codes "0.000000 want scrub 0 " ++ decimal n) ≡ Ok (after_two disk traced n)
unfolding line_read entry_of asked_by verb_of call_of task_for allowed_for allowed
line_two disk traced n some inside small few =
    let is = want_tests disk n (0 + length (cutting disk 16 0 n)) some inside small (omega (arith, few)) in
    rw (want_fields (codes "scrub") n (omega arith) (record { some = omega arith; plain = refl }), is.0, is.1, is.2, is.3) refl

line_four : (disk : Shape) (traced n m : ℕ) → 0 < m → m ≤ length (places disk) → m ≤ 10 ^ 12
    → length (cutting disk 16 0 n) + length (cutting disk 16 0 m) ≤ 16 * 10 ^ 6
    → next_progress disk 4 (after_three disk traced n) (codes "0.000000 want backup 0 " ++ decimal m) ≡ Ok (after_four disk traced n m)
unfolding line_read entry_of asked_by verb_of call_of task_for allowed_for allowed
line_four disk traced n m some inside small few =
    let blocks = 0 + length (cutting disk 16 0 n) + 0 + length (cutting disk 16 0 m) in
    let is = want_tests disk m blocks some inside small (omega (arith, few)) in
    rw (want_fields (codes "backup") m (omega arith) (record { some = omega arith; plain = refl }), is.0, is.1, is.2, is.3) refl

pub calls_more : (disk : Shape) (number : ℕ) (so_far next : Progress) (line : List ℕ) (lines : List (List ℕ))
    → next_progress disk number so_far line ≡ Ok next
    → lines_from disk number so_far (line ∷ lines) ≡ lines_from disk (number + 1) next lines
unfolding lines_from
calls_more disk number so_far next line lines e = rw e refl

pub calls_end : (disk : Shape) (number : ℕ) (so_far : Progress) → lines_from disk number so_far [] ≡ Ok (at_end so_far)
unfolding lines_from
calls_end disk number so_far = refl

want_printed : (front : List ℕ) (n : ℕ) → n < 2 ^ 64 → list_all printed front ≡ true → list_all printed (front ++ decimal n) ≡ true
want_printed front n small is =
    list_all-append printed front (decimal n) ∙ rw (is, word_printed (decimal n) (decimal_word n small).plain) refl

-- the four lines are read as four calls
four_read : (n m : ℕ) → n < 2 ^ 64 → m < 2 ^ 64
    → lines_of (codes "0.000000 open scrub scrub 1 16\n" ++ ((codes "0.000000 want scrub 0 " ++ decimal n ++ 10 ∷ [])
    ++ (codes "0.000000 open backup backup 2 16\n" ++ ((codes "0.000000 want backup 0 " ++ decimal m ++ 10 ∷ []) ++ []))))
    ≡ codes "0.000000 open scrub scrub 1 16" ∷ (codes "0.000000 want scrub 0 " ++ decimal n) ∷ codes "0.000000 open backup backup 2 16"
    ∷ (codes "0.000000 want backup 0 " ++ decimal m) ∷ []
four_read n m small_n small_m =
    let a = codes "0.000000 open scrub scrub 1 16" in
    let b = codes "0.000000 want scrub 0 " ++ decimal n in
    let c = codes "0.000000 open backup backup 2 16" in
    let d = codes "0.000000 want backup 0 " ++ decimal m in
    line_then a ((b ++ 10 ∷ []) ++ (codes "0.000000 open backup backup 2 16\n" ++ ((d ++ 10 ∷ []) ++ []))) refl
    ∙ ap (λ lines. a ∷ lines) (ap lines_of (append_assoc b (10 ∷ []) (codes "0.000000 open backup backup 2 16\n" ++ ((d ++ 10 ∷ []) ++ [])))
    ∙ line_then b (codes "0.000000 open backup backup 2 16\n" ++ ((d ++ 10 ∷ []) ++ []))
    (want_printed (codes "0.000000 want scrub 0 ") n small_n refl))
    ∙ ap (λ lines. a ∷ b ∷ lines) (line_then c ((d ++ 10 ∷ []) ++ []) refl)
    ∙ ap (λ lines. a ∷ b ∷ c ∷ lines)
    (ap lines_of (append_assoc d (10 ∷ []) []) ∙ line_then d [] (want_printed (codes "0.000000 want backup 0 ") m small_m refl))
    ∙ ap (λ lines. a ∷ b ∷ c ∷ d ∷ lines) no_lines

-- a generated script reads back if its blocks are not too many
pub few_read : (disk : Shape) (traced : ℕ) → 0 < first_zone disk disk.zones → first_zone disk disk.zones ≤ length (places disk)
    → length (places disk) ≤ 10 ^ 12
    → length (cutting disk 16 0 (min (length (places disk)) (most disk)))
    + length (cutting disk 16 0 (min (first_zone disk disk.zones) (most disk))) ≤ 16 * 10 ^ 6
    → 0 < most disk
    → calls_of disk traced (script_text disk) ≡ Ok (record { names = codes "scrub" ∷ codes "backup" ∷ []; calls = script_calls disk })
unfolding script_lines
few_read disk traced some inside few blocks positive =
    let n = min (length (places disk)) (most disk) in
    let m = min (first_zone disk disk.zones) (most disk) in
    let a = codes "0.000000 open scrub scrub 1 16" in
    let b = codes "0.000000 want scrub 0 " ++ decimal n in
    let c = codes "0.000000 open backup backup 2 16" in
    let d = codes "0.000000 want backup 0 " ++ decimal m in
    ap (lines_from disk 1 (at_start traced)) (four_read n m (omega arith) (omega arith))
    ∙ calls_more disk 1 (at_start traced) (after_one disk traced) a (b ∷ c ∷ d ∷ []) (line_one disk traced)
    ∙ calls_more disk 2 (after_one disk traced) (after_two disk traced n) b (c ∷ d ∷ [])
    (line_two disk traced n (omega arith) (omega arith) (omega arith) (omega arith))
    ∙ calls_more disk 3 (after_two disk traced n) (after_three disk traced n) c (d ∷ []) (line_three disk traced n)
    ∙ calls_more disk 4 (after_three disk traced n) (after_four disk traced n m) d []
    (line_four disk traced n m (omega arith) (omega arith) (omega arith) blocks)
    ∙ calls_end disk 5 (after_four disk traced n m)

long_parts : (layout : Layout) (zones : List Zone) → has_long_tracks layout zones ≡ true
    → (layout ≡ PerTrack) × (list_all is_long zones ≡ true)
long_parts PerTrack zones long = (refl, long)
long_parts PerCylinder zones long = cc

-- both ranges together are cut into no more blocks than the limit
blocks_fit : (disk : Shape) → IsSound disk → first_zone disk disk.zones ≤ length (places disk)
    → length (cutting disk 16 0 (min (length (places disk)) (most disk)))
    + length (cutting disk 16 0 (min (first_zone disk disk.zones) (most disk))) ≤ 16 * 10 ^ 6
blocks_fit disk sound inside = elim (cases_Bool (has_long_tracks disk.layout disk.zones)) [
  | inl long ↦
      let parts = long_parts disk.layout disk.zones long in
      let spread = long_tracks_spread disk sound parts.0 parts.1 in
      rw long (let one = few_blocks disk (min (length (places disk)) 20000000) spread (omega arith) in
      let two = few_blocks disk (min (first_zone disk disk.zones) 20000000) spread (omega arith) in omega arith)
  | inr short ↦
      rw short (let one = no_more_blocks disk (min (length (places disk)) 1000000) 0 in
      let two = no_more_blocks disk (min (first_zone disk disk.zones) 1000000) 0 in omega arith)
]

some_most : (disk : Shape) → 0 < most disk
some_most disk = elim (cases_Bool (has_long_tracks disk.layout disk.zones)) [
  | inl long ↦ rw long (omega arith)
  | inr short ↦ rw short (omega arith)
]

pub first_data : (disk : Shape) (zone : Zone) → zone.first ≤ zone.last
    → length (data_list disk zone zone.first) ≤ length (zone_places disk zone)
first_data disk zone some =
    let more : zone.last + 1 - zone.first ≡ suc (zone.last - zone.first) = omega arith in
    subst (λ (n : ℕ). length (data_list disk zone zone.first) ≤ length (flat_map (data_list disk zone) (range_with_len zone.first n)))
    (sym more)
    (omega (
      arith,
      length-append (data_list disk zone zone.first) (flat_map (data_list disk zone)
          (range_with_len (zone.first + 1) (zone.last - zone.first))),
    ))

first_is_some : (disk : Shape) (zones : List Zone) → 0 < length zones
    → ((zone : Zone) → slice_get zones 0 ≡ Some zone → 0 < length (zone_places disk zone))
    → (0 < first_zone disk zones) × (first_zone disk zones ≤ length (flat_map (zone_places disk) zones))
first_is_some disk [] some held = absurd (omega arith)
first_is_some disk (zone ∷ zones) some held =
    (held zone refl, omega (arith, length-append (zone_places disk zone) (flat_map (zone_places disk) zones)))

-- the first zone has at least one sector, and no more than the disk
some_first : (disk : Shape) → IsSound disk → (0 < first_zone disk disk.zones) × (first_zone disk disk.zones ≤ length (places disk))
unfolding places
some_first disk sound = first_is_some disk disk.zones sound.some_zones (λ zone is.
    let some = sound.some_cylinders 0 zone is in
    omega (
      arith,
      first_data disk zone some,
      sound.equal 0 zone zone.first (record { zone_is = is; from = omega arith; upto = some }),
      sound.some_data 0 zone is,
    ))

pub some_sectors : (disk : Shape) → IsSound disk → 0 < length (places disk)
some_sectors disk sound = let first = some_first disk sound in omega (arith, first.0, first.1)

-- a generated script reads back as its calls
pub script_read : (disk : Shape) → IsSound disk → length (places disk) ≤ 10 ^ 12 → (traced : ℕ)
    → calls_of disk traced (script_text disk) ≡ Ok (record { names = codes "scrub" ∷ codes "backup" ∷ []; calls = script_calls disk })
script_read disk sound few traced = let first = some_first disk sound in
    few_read disk traced first.0 first.1 few (blocks_fit disk sound first.1) (some_most disk)
