-- Places and passages, computed.
use Rattle.std.proofs.Common.{refl}
use Rattle.by_hand.specs.Passages.{SkewedTracks, SlippedTrack, MovedSector, PassagesOverTracks, PassagesOverDefects, Cuttings}
use Rattle.by_hand.proofs.OnSmallDisks.{on_small_disks}

pub skewed_tracks : SkewedTracks
unfolding on_small_disks
skewed_tracks = (refl, refl, refl, refl)

pub slipped_track : SlippedTrack
unfolding on_small_disks
slipped_track = (refl, refl, refl, refl)

pub moved_sector : MovedSector
unfolding on_small_disks
moved_sector = (refl, refl, refl, refl, refl)

pub passages_over_tracks : PassagesOverTracks
unfolding on_small_disks
passages_over_tracks = (refl, refl)

pub passages_over_defects : PassagesOverDefects
unfolding on_small_disks
passages_over_defects = (refl, refl)

pub cuttings : Cuttings
unfolding on_small_disks
cuttings = (refl, refl, refl)
