-- The starts of zones, one after another.
use Rattle.fb_sectormap.proofs.Words.{◌≡◌, ℕ, suc, ◌+◌, ◌-◌, ◌*◌, ◌≤◌, ◌^◌, List, [], ◌∷◌, ◌++◌, length, map, take, ap, sym, ◌∙◌, arith}
use Rattle.fb_sectormap.proofs.Words.{Some, slice_get, Zone, Shape, data_list_at, IsSound, cylinder_size, ZoneStart, IsMapped}
use Rattle.fb_sectormap.proofs.Words.{sectors_before, start_of}
use Rattle.std.proofs.lemmas.List.{map-append, take_all}
use Rattle.fb_units.proofs.Lists.{take_at}
use Rattle.fb_sectormap.proofs.Zones.{border, first_is, next_border, last_border}
use Rattle.fb_sectormap.proofs.ByCylinder.{follow, before-in_zone, before-few, size-by_zone, upto_last, count-is}

module _ (disk : Shape) (sound : IsSound disk) where
  -- the starts of the first i zones and of the next one are those of the first i + 1
  pub one_more : (i : ℕ) (zone : Zone) (starts : List ZoneStart) (lbn size : ℕ) → slice_get disk.zones i ≡ Some zone
      → starts ≡ map (start_of disk) (take i disk.zones)
      → lbn ≡ sectors_before disk (border 0 disk.zones i) → size ≡ length (data_list_at disk zone.first)
      → starts ++ record { cylinder = zone.first; lbn = lbn; cylinder_sectors = size } ∷ [] ≡ map (start_of disk) (take (i + 1) disk.zones)
  one_more i zone starts lbn size at are first same =
      ap (λ xs. xs ++ record { cylinder = zone.first; lbn = lbn; cylinder_sectors = size } ∷ []) are
      ∙ ap (λ n. map (start_of disk) (take i disk.zones) ++ record { cylinder = zone.first; lbn = n; cylinder_sectors = size } ∷ []) (first
      ∙ ap (sectors_before disk) (sym (first_is 0 disk.zones i zone (follow disk sound) at)))
      ∙ ap (λ n. map (start_of disk) (take i disk.zones) ++ record {
        cylinder = zone.first;
        lbn = sectors_before disk zone.first;
        cylinder_sectors = n;
      } ∷ [])
      (same ∙ size-by_zone disk sound i zone zone.first
      (record { zone_is = at; from = omega arith; upto = sound.some_cylinders i zone at }))
      ∙ sym (ap (map (start_of disk)) (take_at disk.zones i zone at) ∙ map-append (start_of disk) (take i disk.zones) (zone ∷ []))

  -- the sectors before the next zone
  pub next_lbn : (i : ℕ) (zone : Zone) (lbn size : ℕ) → slice_get disk.zones i ≡ Some zone
      → lbn ≡ sectors_before disk (border 0 disk.zones i) → size ≡ length (data_list_at disk zone.first)
      → (lbn + (zone.last + 1 - zone.first) * size ≡ sectors_before disk (border 0 disk.zones (i + 1)))
      × (lbn + (zone.last + 1 - zone.first) * size ≤ 10 ^ 12)
  next_lbn i zone lbn size at first same =
      let some = sound.some_cylinders i zone at in
      let begin : lbn ≡ sectors_before disk zone.first = first
      ∙ ap (sectors_before disk) (sym (first_is 0 disk.zones i zone (follow disk sound) at)) in
      let by_size : size ≡ cylinder_size disk zone = same
      ∙ size-by_zone disk sound i zone zone.first (record { zone_is = at; from = omega arith; upto = some }) in
      let next : border 0 disk.zones (i + 1) ≡ zone.last + 1 = ap (border 0 disk.zones) (let more : i + 1 ≡ suc i = omega arith in more)
      ∙ next_border 0 disk.zones i zone at in
      let whole : lbn + (zone.last + 1 - zone.first) * size ≡ sectors_before disk (zone.last + 1) =
      ap (λ n. n + (zone.last + 1 - zone.first) * size) begin
      ∙ ap (λ n. sectors_before disk zone.first + (zone.last + 1 - zone.first) * n) by_size
      ∙ sym (before-in_zone disk sound i zone (zone.last + 1) at (omega arith) (omega arith)) in (
        whole ∙ ap (sectors_before disk) (sym next),
        omega (arith, whole, before-few disk sound (zone.last + 1) (omega (arith, upto_last disk sound i zone at))),
      )

  -- after the last zone, the starts are those of all zones, and the count is that of all sectors
  pub all_made : (i : ℕ) (starts : List ZoneStart) (count : ℕ) → i ≡ length disk.zones → starts ≡ map (start_of disk) (take i disk.zones)
      → count ≡ sectors_before disk (border 0 disk.zones i) → IsMapped disk starts count
  all_made i starts count e are count_as = record {
    sound = sound;
    starts_are = are ∙ ap (map (start_of disk)) (take_all i disk.zones (omega arith));
    count_is = count_as ∙ (ap (sectors_before disk) (ap (border 0 disk.zones) e ∙ last_border 0 disk.zones sound.some_zones)
        ∙ sym (count-is disk sound));
  }
