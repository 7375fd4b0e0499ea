-- Small files, with their first faults and their values.
use Rattle.std.specs.Prelude.{◌≡◌, ℕ, List, [], ◌∷◌, ◌++◌, codes, Ok, Err}
use Rattle.fb_units.specs.declared.types.Place.{Place}
use Rattle.fb_geometry.specs.declared.layout.Layout.TheVariants.{PerTrack, PerCylinder}
use Rattle.fb_geometry.specs.declared.fault.GeometryFault.TheVariants.{OutOfRange as GeometryOutOfRange, ZonesNotContiguous, SkewTooLarge}
use Rattle.fb_geometry.specs.declared.fault.GeometryFault.TheVariants.{DefectOutside, DefectTwice, TooManyDefects, GrownOutside, GrownTwice}
use Rattle.fb_geometry.specs.declared.fault.GeometryFault.TheVariants.{TooManyInCylinder}
use Rattle.fb_seek.specs.declared.fault.SeekFault.TheVariants.{NoPoints, FirstNotOne, DistanceNotRising, TimeFalls, TooShort}
use Rattle.fb_seek.specs.declared.fault.SeekFault.TheVariants.{OutOfRange as SeekOutOfRange}
use Rattle.fb_params.specs.declared.fault.ParamsFault.TheVariants.{NotToml, UnknownKey, MissingKey, WrongKind, OutOfRange, Geometry, Seek}
use Rattle.fb_params.specs.declared.fault.ParamsFault.TheVariants.{LatentOutside}
use Rattle.fb_params.specs.Reading.{params_of}

-- a disk of 96 sectors: the keys up to its seek table, that table, and its zone
abbrev pub top : List ℕ
top = codes "version = 1\nrotation_ns = 1200\nsector_bytes = 16\nheads = 2\nhead_switch_ns = 200\nwrite_settle_ns = 50\n"

abbrev pub seek : List ℕ
seek = codes "seek = [[1, 300], [3, 500]]\n"

abbrev pub zone : List ℕ
zone = codes "[[zone]]\nfirst = 0\nlast = 3\nsectors = 12\n"

-- the same with two spares at the end of each cylinder
abbrev pub top_of_two : List ℕ
top_of_two = codes "version = 2\nrotation_ns = 1200\nsector_bytes = 16\nheads = 2\nhead_switch_ns = 200\nwrite_settle_ns = 50\n"

abbrev pub zone_of_two : List ℕ
zone_of_two = codes "[[zone]]\nfirst = 0\nlast = 3\nsectors = 12\ncylinder_spares = 2\n"

abbrev pub place : ℕ → ℕ → ℕ → Place
place cylinder head slot = record { track = record { cylinder = cylinder; head = head }; slot = slot }

-- files with one fault each
pub record Refusals : Type 0 where
  pub empty : params_of ([]) ≡ Err (MissingKey (codes "version"))
  pub unknown_key : params_of (codes "speed = 1\n" ++ (top ++ (seek ++ zone))) ≡ Err (UnknownKey (codes "speed"))
  pub text_for_a_number : params_of
      (codes "version = 1\nrotation_ns = 1200\nsector_bytes = 16\nheads = \"2\"\nhead_switch_ns = 200\nwrite_settle_ns = 50\n"
      ++ (seek ++ zone)) ≡ Err (WrongKind (codes "heads"))
  pub no_rotation : params_of
      (codes "version = 1\nrotation_ns = 0\nsector_bytes = 16\nheads = 2\nhead_switch_ns = 200\nwrite_settle_ns = 50\n" ++ (seek ++ zone))
      ≡ Err (OutOfRange (codes "rotation_ns"))
  pub key_twice : params_of (codes "version = 1\n" ++ (top ++ (seek ++ zone))) ≡ Err (NotToml)
  pub all_spares : params_of (top ++ (seek ++ (zone ++ codes "spares = 12\n"))) ≡ Err (Geometry GeometryOutOfRange)
  pub zone_begins_late : params_of (top ++ (seek ++ codes "[[zone]]\nfirst = 1\nlast = 3\nsectors = 12\n"))
      ≡ Err (Geometry (ZonesNotContiguous 0))
  pub skewed_by_a_turn : params_of (top ++ (seek ++ (zone ++ codes "track_skew = 12\n"))) ≡ Err (Geometry (SkewTooLarge 0))
  pub defect_outside : params_of (top ++ (seek ++ (codes "defects = [[4, 0, 0]]\n" ++ zone))) ≡ Err (Geometry (DefectOutside (place 4 0 0)))
  pub defect_twice : params_of (top ++ (seek ++ (codes "defects = [[0, 1, 3], [0, 1, 3]]\n" ++ zone)))
      ≡ Err (Geometry (DefectTwice (place 0 1 3)))
  pub defect_without_spare : params_of (top ++ (seek ++ (codes "defects = [[0, 1, 3]]\n" ++ zone)))
      ≡ Err (Geometry (TooManyDefects (record { cylinder = 0; head = 1 })))
  pub no_points : params_of (top ++ (codes "seek = []\n" ++ zone)) ≡ Err (Seek NoPoints)
  pub first_distance_two : params_of (top ++ (codes "seek = [[2, 300], [3, 500]]\n" ++ zone)) ≡ Err (Seek FirstNotOne)
  pub distance_again : params_of (top ++ (codes "seek = [[1, 300], [1, 500]]\n" ++ zone)) ≡ Err (Seek (DistanceNotRising 1))
  pub time_falls : params_of (top ++ (codes "seek = [[1, 300], [3, 200]]\n" ++ zone)) ≡ Err (Seek (TimeFalls 1))
  pub reach_too_short : params_of (top ++ (codes "seek = [[1, 300], [2, 400]]\n" ++ zone)) ≡ Err (Seek TooShort)
  pub no_time : params_of (top ++ (codes "seek = [[1, 0], [3, 500]]\n" ++ zone)) ≡ Err (Seek SeekOutOfRange)
  pub latent_outside : params_of (top ++ (seek ++ (codes "latent = [96]\n" ++ zone))) ≡ Err (LatentOutside 96)
  pub no_zone : params_of (top ++ seek) ≡ Err (MissingKey (codes "zone"))
  pub no_sectors : params_of (top ++ (seek ++ codes "[[zone]]\nfirst = 0\nlast = 3\n")) ≡ Err (MissingKey (codes "zone.sectors"))
  pub cut_in_a_key : params_of (top ++ (seek ++ codes "[[zone]]\nfirst = 0\nlast = 3\nsect")) ≡ Err (NotToml)
  pub grown_outside : params_of (top_of_two ++ (seek ++ (codes "grown = [[4, 0, 0]]\n" ++ zone_of_two)))
      ≡ Err (Geometry (GrownOutside (place 4 0 0)))
  pub grown_twice : params_of (top_of_two ++ (seek ++ (codes "grown = [[0, 0, 3], [0, 0, 3]]\n" ++ zone_of_two)))
      ≡ Err (Geometry (GrownTwice (place 0 0 3)))
  pub grown_without_spare : params_of (top_of_two ++ (seek ++ (codes "grown = [[0, 0, 1], [0, 0, 2], [0, 0, 3]]\n" ++ zone_of_two)))
      ≡ Err (Geometry (TooManyInCylinder 0))
  pub spares_of_version_one : params_of (top_of_two ++ (seek ++ (zone_of_two ++ codes "spares = 2\n")))
      ≡ Err (UnknownKey (codes "zone.spares"))
  pub grown_in_version_one : params_of (top ++ (seek ++ (codes "grown = []\n" ++ zone))) ≡ Err (UnknownKey (codes "grown"))

-- files without a fault, and their values
pub record Acceptances : Type 0 where
  pub one : params_of (top ++ (seek ++ zone)) ≡ Ok (record {
    outline = record {
      layout = PerTrack;
      rotation = 1200;
      heads = 2;
      defects = [];
      grown = [];
      zones = record { first = 0; last = 3; sectors = 12; track_skew = 0; cylinder_skew = 0; spares = 0; cylinder_spares = 0 } ∷ [];
    };
    mechanics = record {
      points = record { distance = 1; time = 300 } ∷ record { distance = 3; time = 500 } ∷ [];
      cylinders = 4;
      head_switch = 200;
      write_settle = 50;
    };
    sector_bytes = 16;
    latent = [];
  })
  pub two : params_of (top_of_two ++ (seek ++ (codes "grown = [[0, 0, 3]]\nlatent = [9, 6, 9]\n" ++ zone_of_two))) ≡ Ok (record {
    outline = record {
      layout = PerCylinder;
      rotation = 1200;
      heads = 2;
      defects = [];
      grown = place 0 0 3 ∷ [];
      zones = record { first = 0; last = 3; sectors = 12; track_skew = 0; cylinder_skew = 0; spares = 0; cylinder_spares = 2 } ∷ [];
    };
    mechanics = record {
      points = record { distance = 1; time = 300 } ∷ record { distance = 3; time = 500 } ∷ [];
      cylinders = 4;
      head_switch = 200;
      write_settle = 50;
    };
    sector_bytes = 16;
    latent = 6 ∷ 9 ∷ [];
  })
