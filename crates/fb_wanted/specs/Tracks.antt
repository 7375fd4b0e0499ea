-- The tracks on which blocks are registered.
use Rattle.std.specs.Prelude.{◌≡◌, ℕ, ◌*◌, ◌/◌, ◌<◌, ◌≤◌, ◌⊎◌, List, length}
use Rattle.std.specs.List.{sum_by}
use Rattle.fb_units.specs.declared.types.Track.{Track}
use Rattle.fb_wanted.specs.declared.block.Block.{Block}
use Rattle.fb_wanted.specs.declared.block.Entry.{Entry}
use Rattle.fb_wanted.specs.States.{on_track, wanted_of}

-- the wanted weight of a track: the sum of weight times sectors over its wanted blocks
abbrev pub wanted_weight : Track → List Entry → ℕ
wanted_weight track entries = sum_by (λ block. block.weight * block.count) (wanted_of (on_track track entries))

-- the band of a block's cylinder; a band has 64 neighbouring cylinders
abbrev pub band_of : Block → ℕ
band_of block = block.track.cylinder / 64

-- a block is registered on the track
abbrev pub HasBlock : Track → List Entry → Type 0
HasBlock track entries = 0 < length (on_track track entries)

-- in the order of tracks, by cylinder and then by head, the first one doesn't come after the second
abbrev pub IsNotAfter : Track → Track → Type 0
IsNotAfter a b = (a.cylinder < b.cylinder) ⊎ ((a.cylinder ≡ b.cylinder) × (a.head ≤ b.head))

-- the least track not before `from` on which a block is registered
pub record IsNextRegistered (entries : List Entry) (from track : Track) : Type 0 where
  pub registered : HasBlock track entries
  pub since : IsNotAfter from track
  pub least : (other : Track) → HasBlock other entries → IsNotAfter from other → IsNotAfter track other

-- there is no such track
abbrev pub NoneIsRegistered : List Entry → Track → Type 0
NoneIsRegistered entries from = (track : Track) → HasBlock track entries → IsNotAfter from track → ⊥
