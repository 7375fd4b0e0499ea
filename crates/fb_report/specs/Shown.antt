-- How the bytes of sectors are shown.
use Rattle.std.specs.Prelude.{ℕ, ◌+◌, List, codes}
use Rattle.std.specs.List.{flat_map, range_with_len}
use Rattle.hex.specs.Hex.{encode_lower}
use Rattle.sha2.specs.Sha256.{sha256}
use Rattle.fb_store.specs.declared.content.ContentRun.{ContentRun}
use Rattle.fb_store.specs.Fill.{sector_bytes}
use Rattle.fb_report.specs.declared.bytes.Bytes.{Bytes}
use Rattle.fb_report.specs.declared.bytes.Bytes.TheVariants.{Nothing, Digest, Dump}

-- the bytes of a run's sectors
abbrev pub run_bytes : ℕ → ContentRun → List ℕ
run_bytes size run = flat_map (λ i. sector_bytes (run.first + i) size run.content) (range_with_len 0 run.count)

-- the bytes of all sectors, one after another
abbrev pub contents_bytes : ℕ → List ContentRun → List ℕ
contents_bytes size runs = flat_map (run_bytes size) runs

-- in the same way, but as a digest wherever the bytes themselves are shown
abbrev pub digested : Bytes → Bytes
digested Nothing = Nothing
digested Digest = Digest
digested Dump = Digest

-- a dash, the digest of the bytes, or the bytes themselves
abbrev pub shown : Bytes → ℕ → List ContentRun → List ℕ
shown Nothing size runs = codes "-"
shown Digest size runs = encode_lower (sha256 (contents_bytes size runs))
shown Dump size runs = encode_lower (contents_bytes size runs)
