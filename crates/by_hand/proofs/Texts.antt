-- The foreground reports of small traces, computed.
use Rattle.std.proofs.Common.{refl}
use Rattle.std.specs.Fmt.{digits}
use Rattle.hex.specs.Hex.{encode_with}
use Rattle.fb_geometry.specs.Places.{places}
use Rattle.fb_sectormap.specs.LookUp.{place_at}
use Rattle.fb_seek.specs.Positioning.{pos}
use Rattle.fb_service.specs.Passing.{begin_from}
use Rattle.fb_service.specs.Service.{passages}
use Rattle.fb_store.specs.Fill.{mark, fill}
use Rattle.fb_model.specs.PlainReplay.{plain}
use Rattle.fb_model.specs.Inputs.{served}
use Rattle.fb_model.specs.Content.{medium_of, fore_rows}
use Rattle.fb_report.specs.Fore.{fore_lines}
use Rattle.by_hand.specs.SmallDisk.{small_disk, uneven_disk, skewed_disk, slipped_disk, remapped_disk}
use Rattle.by_hand.specs.Foreground.{FirstRead, ReadInTime, ReadTooLate, ReadOverTracks, ReadOverSkewedTracks, ReadOverSlip}
use Rattle.by_hand.specs.Foreground.{ReadOverMoved, ReadOfUnevenSlots, ReadOfNothing}

pub first_read : FirstRead
unfolding digits encode_with places place_at pos begin_from passages mark fill plain served medium_of fore_rows fore_lines small_disk
first_read = refl

pub read_in_time : ReadInTime
unfolding digits encode_with places place_at pos begin_from passages mark fill plain served medium_of fore_rows fore_lines small_disk
read_in_time = refl

pub read_too_late : ReadTooLate
unfolding digits encode_with places place_at pos begin_from passages mark fill plain served medium_of fore_rows fore_lines small_disk
read_too_late = refl

pub read_over_tracks : ReadOverTracks
unfolding digits encode_with places place_at pos begin_from passages mark fill plain served medium_of fore_rows fore_lines small_disk
read_over_tracks = refl

pub read_over_skewed_tracks : ReadOverSkewedTracks
unfolding digits encode_with places place_at pos begin_from passages mark fill plain served medium_of fore_rows fore_lines skewed_disk
read_over_skewed_tracks = refl

pub read_over_slip : ReadOverSlip
unfolding digits encode_with places place_at pos begin_from passages mark fill plain served medium_of fore_rows fore_lines slipped_disk
read_over_slip = refl

pub read_over_moved : ReadOverMoved
unfolding digits encode_with places place_at pos begin_from passages mark fill plain served medium_of fore_rows fore_lines remapped_disk
read_over_moved = refl

pub read_of_uneven_slots : ReadOfUnevenSlots
unfolding digits encode_with places place_at pos begin_from passages mark fill plain served medium_of fore_rows fore_lines uneven_disk
read_of_uneven_slots = refl

pub read_of_nothing : ReadOfNothing
unfolding digits plain served medium_of fore_rows fore_lines small_disk
read_of_nothing = refl
