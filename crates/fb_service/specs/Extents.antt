-- The passages that extents stand for.
use Rattle.std.specs.Prelude.{◌≡◌, ℕ, ◌+◌, ◌<◌, List, [], ◌∷◌, map}
use Rattle.std.specs.List.{flat_map, range_with_len}
use Rattle.fb_geometry.specs.Shape.{Shape}
use Rattle.fb_sectormap.specs.LookUp.{track_at}
use Rattle.fb_service.specs.declared.passage.Passage.{Passage}
use Rattle.fb_service.specs.declared.passage.Extent.{Extent}
use Rattle.fb_service.specs.Service.{passage_from}

-- the passages of an extent's sectors, each the sector's first one from the beginning of the extent on
abbrev pub passages_of : Shape → Extent → List Passage
passages_of disk extent = map (λ i. passage_from disk (extent.first + i) extent.begin) (range_with_len 0 extent.count)

-- the passages of all sectors of several extents
abbrev pub all_passages_of : Shape → List Extent → List Passage
all_passages_of disk extents = flat_map (passages_of disk) extents

-- the first passage begins at one instant, each next one as the one before it ends, and the last ends at the other instant
abbrev pub FollowOn : ℕ → List Passage → ℕ → Type 0
FollowOn begin [] end = begin ≡ end
FollowOn begin (passage ∷ passages) end = (passage.begin ≡ begin) × FollowOn passage.end passages end

-- an extent has at least one sector, all are on its track, and they pass without a wait from its beginning to its end
pub record IsUnbroken (disk : Shape) (extent : Extent) : Type 0 where
  pub some : 0 < extent.count
  pub on_track : (i : ℕ) → i < extent.count → track_at disk (extent.first + i) ≡ extent.track
  pub without_wait : FollowOn extent.begin (passages_of disk extent) extent.end
