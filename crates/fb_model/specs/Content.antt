-- What a sector holds at an instant.
use Rattle.std.specs.Prelude.{ℕ, List, [], ◌&&◌, ◌==◌, nat_le, Option, Some, None, filter, map, if◌then◌else◌}
use Rattle.std.specs.List.{flat_map, range_with_len, last_or}
use Rattle.fb_service.specs.declared.disk.Disk.{Disk}
use Rattle.fb_service.specs.declared.passage.Passage.{Passage}
use Rattle.fb_store.specs.declared.content.Content.{Content}
use Rattle.fb_store.specs.declared.content.Content.TheVariants.{Filled}
use Rattle.fb_store.specs.declared.content.ContentRun.{ContentRun}
use Rattle.fb_store.specs.Runs.{runs_of, bad_of}
use Rattle.fb_store.specs.Writes.{writer_of, unwritten}
use Rattle.fb_rows.specs.declared.fore.ForeRow.{ForeRow}
use Rattle.fb_model.specs.PlainReplay.{Served, media, finish}
use Rattle.fb_model.specs.Inputs.{Inputs, served}

-- the passage of a sector in which a write leaves its number there
pub record Written : Type 0 where
  pub writer : ℕ
  pub passage : Passage

-- the passages in which a service writes, each with the number that it leaves; a read writes nothing
abbrev pub writes_of : Served → List Written
writes_of served = if served.request.write
    then map (λ passage. record { writer = writer_of served.request.name; passage = passage }) served.passages
    else []

-- the disk, its latent sectors, and all passages of the plain replay's writes, in order
pub record Medium : Type 0 where
  pub disk : Disk
  pub latent : List ℕ
  pub writes : List Written

-- the disk of a run, its latent sectors, and all that its plain replay writes
unfoldable pub medium_of : Inputs → Medium
medium_of inputs = record { disk = inputs.disk; latent = inputs.latent; writes = flat_map writes_of (served inputs) }

-- what a sector holds: what its last write left, or what it held before any write
abbrev pub content_by : Option Written → Content → Content
content_by None before = before
content_by (Some write) before = Filled write.writer

-- the last write whose passage of the sector has ended by t
abbrev pub content : Medium → ℕ → ℕ → Content
content medium lbn t = content_by
    (last_or None (filter (λ write. (write.passage.lbn == lbn) && nat_le write.passage.end t) medium.writes))
    (unwritten medium.latent lbn)

-- what sectors hold: from an LBN on, so many, at an instant, each with its LBN
abbrev pub ContentsAt : Type 0
ContentsAt = ℕ → ℕ → ℕ → List (ℕ × Content)

-- what n sectors from an LBN on hold on the disk at an instant
abbrev pub contents_at : Medium → ContentsAt
contents_at medium lbn n t = map (λ sector. (sector, content medium sector t)) (range_with_len lbn n)

-- what a read finds: of each sector what it holds as its passage begins; a write finds nothing
abbrev pub found : Medium → Served → List ContentRun
found medium served = if served.request.write then []
    else runs_of (map (λ passage. (passage.lbn, content medium passage.lbn passage.begin)) served.passages)

-- the foreground row of a service, with what it found
abbrev pub fore_row : Medium → Served → ForeRow
fore_row medium served =
    let runs = found medium served in
    record {
      request = served.request;
      start = served.start;
      media = media served;
      finish = finish served;
      bad = bad_of runs;
      content = runs;
    }

-- the foreground rows of the plain replay, in order
unfoldable pub fore_rows : Inputs → List ForeRow
fore_rows inputs = map (fore_row (medium_of inputs)) (served inputs)
