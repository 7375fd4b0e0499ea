-- A trace that is generated from a seed.
use Rattle.std.specs.Prelude.{ℕ, zero, suc, ◌+◌, ◌-◌, ◌*◌, ◌%◌, min, map, List, [], ◌∷◌, decimal, codes, Bool, true, false, ◌==◌}
use Rattle.std.specs.List.{flat_map, range_with_len}
use Rattle.fb_units.specs.Numbers.{millis_text}
use Rattle.fb_units.specs.declared.types.Request.{Request}
use Rattle.fb_units.specs.declared.types.Name.TheVariants.{Traced}
use Rattle.fb_report.specs.Lines.{line_of as fields_line}
use Rattle.fb_maker.specs.Words.{word}

-- the arrival, in nanoseconds, of the request before the i-th, from 0, and 0 before the first; pauses are at most 12 ms
abbrev pub arrival_before : ℕ → ℕ → ℕ
arrival_before number zero = 0
arrival_before number (suc i) = arrival_before number i + word number (4 * i) % 12000001

-- the size of the i-th request: 8 to 128 sectors, but no more than the disk has
abbrev pub size_of : ℕ → ℕ → ℕ → ℕ
size_of number sectors i = min (8 * (1 + word number (4 * i + 1) % 16)) sectors

-- the i-th request, from its four words: the pause before it, its size, its first sector, and whether it writes, one time in three
unfoldable pub request_at : ℕ → ℕ → ℕ → Request
request_at number sectors i = record {
  name = Traced (i + 1);
  arrival = arrival_before number i + word number (4 * i) % 12000001;
  lbn = word number (4 * i + 2) % (sectors - size_of number sectors i + 1);
  count = size_of number sectors i;
  write = word number (4 * i + 3) % 3 == 0;
}

-- the first n requests of a seed, on a disk of this many sectors
abbrev pub made_requests : ℕ → ℕ → ℕ → List Request
made_requests number sectors n = map (request_at number sectors) (range_with_len 0 n)

-- the flags of a request: 0 for a write, 1 for a read
abbrev pub flags_text : Bool → List ℕ
flags_text true = codes "0"
flags_text false = codes "1"

-- the line of a request: arrival, device, first sector, size and flags
unfoldable pub line_of : ℕ → Request → List ℕ
line_of device request =
    fields_line (millis_text request.arrival) (decimal device ∷ decimal request.lbn ∷ decimal request.count ∷ flags_text request.write ∷ [])

-- the lines of a trace of n requests, all of one device
abbrev pub made_lines : ℕ → ℕ → ℕ → ℕ → List (List ℕ)
made_lines number device sectors n = map (line_of device) (made_requests number sectors n)

-- the text of such a trace
abbrev pub made_trace : ℕ → ℕ → ℕ → ℕ → List ℕ
made_trace number device sectors n = flat_map (λ line. line) (made_lines number device sectors n)
