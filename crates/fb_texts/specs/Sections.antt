-- The text of an array.
use Rattle.std.specs.Prelude.{ℕ, ◌+◌, ◌≤◌, ◌^◌, List, [], ◌∷◌, ◌++◌, length, decimal, codes}
use Rattle.fb_rows.specs.declared.run.Run.{Run}
use Rattle.fb_report.specs.declared.bytes.Bytes.{Bytes}
use Rattle.fb_report.specs.Fore.{fore_lines}

-- the first line of the text
abbrev pub array_first : List ℕ
array_first = codes "freeblock array 1\n"

-- the line over the section of a device
abbrev pub device_line : ℕ → List ℕ
device_line device = codes "device " ++ decimal device ++ 10 ∷ []

-- the last line, which tells how many devices there are
abbrev pub array_last : ℕ → List ℕ
array_last devices = codes "end " ++ decimal devices ++ 10 ∷ []

-- the section of a device: a line that names it, and the lines of its foreground report
abbrev pub section : ℕ → Bytes → ℕ → Run → List (List ℕ)
section size bytes device run = device_line device ∷ fore_lines size bytes run

-- the sections of the devices from this one on, whose runs these are
abbrev pub sections : ℕ → Bytes → ℕ → List Run → List (List ℕ)
sections size bytes device [] = []
sections size bytes device (run ∷ runs) = section size bytes device run ++ sections size bytes (device + 1) runs

-- the first line, the sections of all devices, and the last line
unfoldable pub array_lines : ℕ → Bytes → List Run → List (List ℕ)
array_lines size bytes runs = array_first ∷ (sections size bytes 0 runs ++ array_last (length runs) ∷ [])

-- a run whose foreground a report can show: it has at most a million rows
abbrev pub CanTellFore : Run → Type 0
CanTellFore run = length run.fore ≤ 10 ^ 6
