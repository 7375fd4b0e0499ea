-- The text of a copy, line by line.
use Rattle.std.specs.Prelude.{ℕ, ◌-◌, List, [], ◌∷◌, ◌++◌, map, Option, None, Some, decimal, codes}
use Rattle.fb_store.specs.declared.content.Content.{Content}
use Rattle.fb_store.specs.declared.content.Content.TheVariants.{Filled, Unreadable}
use Rattle.fb_store.specs.declared.content.ContentRun.{ContentRun}
use Rattle.fb_mirror.specs.declared.rebuilt.Rebuilt.{Rebuilt}

-- the line of the seal: its instant, or `open` where there is none
abbrev pub seal_line : Option ℕ → List ℕ
seal_line None = codes "open\n"
seal_line (Some instant) = codes "sealed " ++ decimal instant ++ 10 ∷ []

-- the writer of a content, or `bad` if it can't be read
abbrev pub writer_text : Content → List ℕ
writer_text (Filled writer) = decimal writer
writer_text Unreadable = codes "bad"

-- the line of a run: its first sector, their number and their writer
abbrev pub run_line : ContentRun → List ℕ
run_line run = codes "run " ++ decimal run.first ++ 32 ∷ (decimal run.count ++ 32 ∷ (writer_text run.content ++ 10 ∷ []))

-- the last line: how many sectors are covered, and how many of `count` are not
abbrev pub end_line : ℕ → ℕ → List ℕ
end_line covered count = codes "end " ++ decimal covered ++ 32 ∷ (decimal (count - covered) ++ 10 ∷ [])

-- the lines of the copy of a disk of `count` sectors, each with its line feed
abbrev pub copy_lines : Rebuilt → ℕ → List (List ℕ)
copy_lines copy count = codes "freeblock copy 1\n" ∷ seal_line copy.sealed ∷ (map run_line copy.content ++ end_line copy.covered count ∷ [])
