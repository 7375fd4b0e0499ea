-- The numbers of a file whose keys obey all rules.
use Rattle.fb_params.proofs.Words.{◌≡◌, ℕ, ◌^◌, ◌≤◌, codes, true, Ok, None, ◌++◌, slice_get, Some, refl, false, list_all, Members}
use Rattle.fb_params.proofs.Words.{get_member, Layout, PerTrack, PerCylinder, Number, Rows, Present, OfKind, InRange, Key, must, from_to}
use Rattle.fb_params.proofs.Words.{front_keys, back_keys, zone_keys, defects_key, grown_key, spares_key, number_at, elements_at}
use Rattle.fb_params.proofs.Words.{is_row_within, breaks, first_in, keeps}
use Rattle.fb_params.proofs.Kept.{present, of_kind, in_range, kept_at}
use Rattle.fb_params.proofs.Numbers.{IsNumberOf, number-within, number-required, rows-within}

module _ (layout : Layout) (table : Members) (ranges : keeps InRange layout table ≡ Ok tt) where
  front-within : (i : ℕ) (key : Key) → slice_get front_keys i ≡ Some key → breaks InRange key (get_member key.name table) ≡ false
  front-within i key at = kept_at InRange front_keys table (in_range layout table ranges).front i key at

  pub heads_within : number_at (codes "heads") table ≤ 64
  heads_within = number-within (must (codes "heads") Number (from_to 1 64)) (get_member (codes "heads") table) (front-within 3 _ refl)

  pub seek_within : list_all (is_row_within (from_to 0 (10 ^ 9))) (elements_at (codes "seek") table) ≡ true
  seek_within = rows-within (must (codes "seek") (Rows 2) (from_to 0 (10 ^ 9))) (get_member (codes "seek") table) (front-within 6 _ refl)

pub defects_within : (layout : Layout) (table : Members) → keeps InRange layout table ≡ Ok tt
    → list_all (is_row_within (from_to 0 999999)) (elements_at (codes "defects") table) ≡ true
defects_within PerTrack table ranges = rows-within defects_key (get_member (codes "defects") table) (kept_at InRange
    (back_keys PerTrack) table (in_range PerTrack table ranges).back 0 defects_key refl)
defects_within PerCylinder table ranges = rows-within defects_key (get_member (codes "defects") table) (kept_at InRange
    (back_keys PerCylinder) table (in_range PerCylinder table ranges).back 0 defects_key refl)

pub grown_within : (layout : Layout) (table : Members) → layout ≡ PerCylinder → keeps InRange layout table ≡ Ok tt
    → list_all (is_row_within (from_to 0 999999)) (elements_at (codes "grown") table) ≡ true
grown_within PerTrack table is ranges = absurd (cc)
grown_within PerCylinder table is ranges = rows-within grown_key (get_member (codes "grown") table) (kept_at InRange
    (back_keys PerCylinder) table (in_range PerCylinder table ranges).back 1 grown_key refl)

pub sector_bytes_number : (layout : Layout) (table : Members) → keeps Present layout table ≡ Ok tt → keeps OfKind layout table ≡ Ok tt
    → keeps InRange layout table ≡ Ok tt
    → IsNumberOf (record { low = 16; high = 4096; multiple = 16 }) (number_at (codes "sector_bytes") table)
sector_bytes_number layout table there kinds ranges =
    number-required (codes "sector_bytes") (record { low = 16; high = 4096; multiple = 16 }) (get_member (codes "sector_bytes") table)
    (kept_at Present (front_keys ++ back_keys layout) table (present layout table there) 2 _ refl)
    (kept_at OfKind front_keys table (of_kind layout table kinds).front 2 _ refl)
    (kept_at InRange front_keys table (in_range layout table ranges).front 2 _ refl)

-- the numbers of a zone
pub record AreZoneNumbers (zone : Members) : Type 0 where
  pub first : number_at (codes "first") zone ≤ 999999
  pub last : number_at (codes "last") zone ≤ 999999
  pub sectors : number_at (codes "sectors") zone ≤ 10000
  pub track_skew : number_at (codes "track_skew") zone ≤ 10000
  pub cylinder_skew : number_at (codes "cylinder_skew") zone ≤ 10000

module _ (layout : Layout) (zone : Members) (none : first_in InRange (zone_keys layout) zone ≡ None) where
  zone-at : (i : ℕ) (key : Key) → slice_get (zone_keys layout) i ≡ Some key → number_at key.name zone ≤ key.range.high
  zone-at i key is = number-within key (get_member key.name zone) (kept_at InRange (zone_keys layout) zone none i key is)

  pub zone_within : AreZoneNumbers zone
  zone_within = record {
    first = zone-at 0 _ refl;
    last = zone-at 1 _ refl;
    sectors = zone-at 2 _ refl;
    track_skew = zone-at 3 _ refl;
    cylinder_skew = zone-at 4 _ refl;
  }

  spares-at : number_at (spares_key layout).name zone ≤ (spares_key layout).range.high
  spares-at = zone-at 5 _ refl

pub spares_within : (layout : Layout) (zone : Members) → first_in InRange (zone_keys layout) zone ≡ None → layout ≡ PerTrack
    → number_at (codes "spares") zone ≤ 10000
spares_within PerTrack zone none is = spares-at PerTrack zone none
spares_within PerCylinder zone none is = absurd (cc)

pub cylinder_spares-within : (layout : Layout) (zone : Members) → first_in InRange (zone_keys layout) zone ≡ None → layout ≡ PerCylinder
    → number_at (codes "cylinder_spares") zone ≤ 640000
cylinder_spares-within PerTrack zone none is = absurd (cc)
cylinder_spares-within PerCylinder zone none is = spares-at PerCylinder zone none

-- what the numbers beside the outline are
pub ruleset mechanics_within = (seek_within, sector_bytes_number)
