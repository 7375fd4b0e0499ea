-- Searches among the starts of zones.
use denote.Ref.{Bor}
use denote.Param.Members.{Mut}
use Rattle.fb_sectormap.proofs.Words.{◌≡◌, ℕ, zero, suc, ◌+◌, ◌-◌, ◌*◌, ◌<◌, ◌≤◌, List, length, map, true, false, refl, ap, sym, ◌∙◌}
use Rattle.fb_sectormap.proofs.Words.{subst, arith, inl, inr, Some, slice_get, nat_le, cases_lt, get_or_from_slice_get, Zone, Shape}
use Rattle.fb_sectormap.proofs.Words.{cylinders_of, places, IsSound, cylinder_size, ZoneStart, IsFirstOf, IsMapped, sectors_before}
use Rattle.fb_sectormap.proofs.Words.{start_of}
use Rattle.std.proofs.Common.{◌/◌, get_or, Bool}
use Rattle.std.proofs.Common.{option_map}
use Rattle.std.specs.Fn.{ComputesKey, Called}
use Rattle.std.specs.List.Sorted.{IsPartitionPoint, IsPartitionedBy, IsNonDecreasingBy}
use Rattle.std.proofs.lemmas.Bool.{leb-true, leb-false}
use Rattle.std.proofs.lemmas.List.Sorted.{IsPartitionPoint-from_clause, IsPartitionedBy-leb}
use Rattle.std.proofs.lemmas.Nat.{div_below}
use Rattle.std.proofs.lemmas.List.{length-map}
use Rattle.std.proofs.lemmas.Option.{slice_get-map}
use Rattle.fb_sectormap.specs.Cylinders.{TellsSector, TellsFirst}
use Rattle.fb_sectormap.proofs.Zones.{border, border-rises, first_is, next_border, last_border, zone_get}
use Rattle.fb_sectormap.proofs.ByCylinder.{follow, before-rise, before-in_zone, before-few, size-by_zone, count-is, first-is, upto_last}

module _ (disk : Shape) (sound : IsSound disk) (starts : List ZoneStart) (are : starts ≡ map (start_of disk) disk.zones) where
  length-starts : length starts ≡ length disk.zones
  length-starts = ap length are ∙ length-map disk.zones (start_of disk)

  pub start_at : (i : ℕ) (zone : Zone) (d : ZoneStart) → slice_get disk.zones i ≡ Some zone → get_or starts i d ≡ start_of disk zone
  start_at i zone d at = ap (λ xs. get_or xs i d) are
      ∙ get_or_from_slice_get (map (start_of disk) disk.zones) i (start_of disk zone) d (slice_get-map (start_of disk) disk.zones i
      ∙ ap (option_map (start_of disk)) at)

  -- a number that rises with the cylinders
  module _ (key : ZoneStart → ℕ) (upto : ℕ → ℕ) (is : (zone : Zone) → key (start_of disk zone) ≡ upto zone.first) (rises : (a b : ℕ) → a ≤ b
      → upto a ≤ upto b) where
    key_at : (i : ℕ) (d : ZoneStart) → i < length starts → key (get_or starts i d) ≡ upto (border 0 disk.zones i)
    key_at i d h =
        let zone = zone_get disk.zones i (omega (arith, length-starts)) in
        ap key (start_at i zone.0 d zone.1) ∙ is zone.0 ∙ ap upto (first_is 0 disk.zones i zone.0 (follow disk sound) zone.1)

    pub starts-rise : IsNonDecreasingBy key starts
    starts-rise i j d le h = omega (
      arith,
      key_at i d (omega arith),
      key_at j d h,
      rises (border 0 disk.zones i) (border 0 disk.zones j) (border-rises 0 disk.zones i j (follow disk sound) le),
    )

    -- the zone before the point holds the number
    pub record IsFound (x i : ℕ) : Type 0 where
      pub zone : Zone
      pub at : slice_get disk.zones i ≡ Some zone
      pub from : upto zone.first ≤ x
      pub behind : x < upto (zone.last + 1)

    pub some_point : (x i : ℕ) → IsPartitionPoint (λ start. nat_le (key start) x ≡ true) (λ start. nat_le (key start) x ≡ false) starts i
        → upto 0 ≤ x → 0 < i
    some_point x zero at low =
        let zone = zone_get disk.zones 0 sound.some_zones in
        let d = start_of disk zone.0 in
        absurd (omega (
          arith,
          leb-false (key (get_or starts 0 d)) x
              (at.1 0 d (omega arith) (omega (arith, length-starts, sound.some_zones))),
          key_at 0 d (omega (arith, length-starts, sound.some_zones)),
        ))
    some_point x (suc i) at low = omega arith

    pub found : (x i : ℕ) → IsPartitionPoint (λ start. nat_le (key start) x ≡ true) (λ start. nat_le (key start) x ≡ false) starts (suc i)
        → suc i ≤ length starts → x < upto (cylinders_of disk.zones) → IsFound x i
    found x i at bound high =
        let zone = zone_get disk.zones i (omega (arith, length-starts)) in
        let d = start_of disk zone.0 in
        let next : x < upto (border 0 disk.zones (suc i)) = elim (cases_lt (suc i) (length starts)) [
          | inl more ↦ omega (arith, leb-false (key (get_or starts (suc i) d)) x (at.1 (suc i) d (omega arith) more), key_at (suc i) d more)
          | inr last ↦ omega (
            arith,
            high,
            ap upto
                (ap (border 0 disk.zones) (let all : suc i ≡ length disk.zones = omega (arith, length-starts) in all)
                ∙ last_border 0 disk.zones sound.some_zones),
          )
        ] in
        record {
          zone = zone.0;
          at = zone.1;
          from = omega (
            arith,
            leb-true (key (get_or starts i d)) x (at.0 i d (omega arith) (omega arith)),
            key_at i d (omega arith),
            ap upto (first_is 0 disk.zones i zone.0 (follow disk sound) zone.1),
          );
          behind = omega (arith, next, ap upto (next_border 0 disk.zones i zone.0 zone.1));
        }

    -- what the starts of the zones that hold the number tell, the start before the point tells
    pub finds : (Tells : ZoneStart → Type 0) (x i : ℕ) (d : ZoneStart)
        → IsPartitionPoint (λ start. nat_le (key start) x ≡ true) (λ start. nat_le (key start) x ≡ false) starts i
        → i ≤ length starts → upto 0 ≤ x → x < upto (cylinders_of disk.zones)
        → ((j : ℕ) (zone : Zone) → slice_get disk.zones j ≡ Some zone → upto zone.first ≤ x → x < upto (zone.last + 1)
        → Tells (start_of disk zone))
        → (0 < i) × Tells (get_or starts (i - 1) d)
    finds Tells x zero d at bound low high tells = absurd (omega (arith, some_point x zero at low))
    finds Tells x (suc i) d at bound low high tells =
        let zone = found x i at bound high in
        let index : suc i - 1 ≡ i = omega arith in
        let same = ap (λ k. get_or starts k d) index ∙ start_at i zone.zone d zone.at in
        (omega arith, subst Tells (sym same) (tells i zone.zone zone.at zone.from zone.behind))

-- ---- the sector that a number names in its zone

tells_zone : (disk : Shape) → IsSound disk → (i : ℕ) (zone : Zone) (lbn : ℕ) → slice_get disk.zones i ≡ Some zone
    → sectors_before disk zone.first ≤ lbn → lbn < sectors_before disk (zone.last + 1) → TellsSector disk (start_of disk zone) lbn
tells_zone disk sound i zone lbn at from below =
    let size = cylinder_size disk zone in
    let behind = lbn - sectors_before disk zone.first in
    let some : 0 < size = sound.some_data i zone at in
    let cylinders = sound.some_cylinders i zone at in
    let short : behind < (zone.last + 1 - zone.first) * size =
    omega (arith, before-in_zone disk sound i zone (zone.last + 1) at (omega arith) (omega arith)) in
    let quotient : behind / size < zone.last + 1 - zone.first = div_below behind size (zone.last + 1 - zone.first) some short in
    let upto : zone.first + behind / size ≤ zone.last = omega arith in
    let whole = before-in_zone disk sound i zone (zone.first + behind / size) at (omega arith) (omega arith) in
    record {
      from = from;
      some = some;
      few = omega (arith, upto_last disk sound i zone at, sound.few_cylinders);
      sector = record {
        on_disk = omega (arith, upto_last disk sound i zone at);
        inside = omega (
          arith,
          size-by_zone disk sound i zone (zone.first + behind / size)
              (record { zone_is = at; from = omega arith; upto = upto }),
        );
        number = let steps : zone.first + behind / size - zone.first ≡ behind / size = omega arith in omega (arith, rw steps at whole);
      };
    }

tells_first : (disk : Shape) → IsSound disk → (i : ℕ) (zone : Zone) (cylinder : ℕ) → slice_get disk.zones i ≡ Some zone
    → zone.first ≤ cylinder → cylinder < zone.last + 1 → TellsFirst disk (start_of disk zone) cylinder
tells_first disk sound i zone cylinder at from below =
    let first = before-in_zone disk sound i zone cylinder at from (omega arith) in
    record {
      from = from;
      few = omega (arith, first, before-few disk sound cylinder (omega (arith, upto_last disk sound i zone at)));
      first = subst (IsFirstOf disk cylinder) first (first-is disk sound cylinder (omega (arith, upto_last disk sound i zone at)));
    }

-- ---- what the two searches find

module _ (disk : Shape) (starts : List ZoneStart) (count : ℕ) (mapped : IsMapped disk starts count) where
  by_lbn-rises : IsNonDecreasingBy (λ start. start.lbn) starts
  by_lbn-rises = starts-rise disk mapped.sound starts mapped.starts_are (λ start. start.lbn) (sectors_before disk) (λ zone. refl)
      (before-rise disk mapped.sound)

  by_cylinder-rises : IsNonDecreasingBy (λ start. start.cylinder) starts
  by_cylinder-rises = starts-rise disk mapped.sound starts mapped.starts_are (λ start. start.cylinder) (λ cylinder. cylinder) (λ zone. refl)
      (λ a b h. h)

  finds-lbn : (lbn i : ℕ) (d : ZoneStart)
      → IsPartitionPoint (λ start. nat_le start.lbn lbn ≡ true) (λ start. nat_le start.lbn lbn ≡ false) starts i
      → i ≤ length starts → lbn < length (places disk) → (0 < i) × TellsSector disk (get_or starts (i - 1) d) lbn
  unfolding sectors_before
  finds-lbn lbn i d at bound below =
      finds disk mapped.sound starts mapped.starts_are (λ start. start.lbn) (sectors_before disk) (λ zone. refl)
      (before-rise disk mapped.sound)
      (λ start. TellsSector disk start lbn) lbn i d at bound (omega arith) (omega (arith, count-is disk mapped.sound))
      (λ j zone. tells_zone disk mapped.sound j zone lbn)

  finds-cylinder : (cylinder i : ℕ) (d : ZoneStart)
      → IsPartitionPoint (λ start. nat_le start.cylinder cylinder ≡ true) (λ start. nat_le start.cylinder cylinder ≡ false) starts i
      → i ≤ length starts → cylinder < cylinders_of disk.zones → (0 < i) × TellsFirst disk (get_or starts (i - 1) d) cylinder
  finds-cylinder cylinder i d at bound below =
      finds disk mapped.sound starts mapped.starts_are (λ start. start.cylinder) (λ n. n) (λ zone. refl) (λ a b h. h)
      (λ start. TellsFirst disk start cylinder) cylinder i d at bound (omega arith) below
      (λ j zone. tells_first disk mapped.sound j zone cylinder)

mapped_as : (seen disk : Shape) (items starts : List ZoneStart) (count : ℕ) → IsMapped seen items count → seen ≡ disk → starts ≡ items
    → IsMapped disk starts count
mapped_as seen disk items starts count mapped same are =
    subst (λ xs. IsMapped disk xs count) (sym are) (subst (λ d. IsMapped d items count) same mapped)

-- the same for the searches of the code, in which closures make the tests: the search by one of the starts' numbers finds
-- the start that tells of a number
abbrev Searches : {F : Type 0} → Mut F (Bor ZoneStart × Unit {0}) Bool → F → List ZoneStart → (ZoneStart → ℕ) → (ZoneStart → ℕ → Type 0)
    → ℕ → Type 0
Searches {F = F} g f starts key Tells end = (x i : ℕ) (d : ZoneStart) → i ≤ length starts → x < end
    → ((q : ZoneStart → Bool) → ComputesKey g q f → IsPartitionedBy q starts
    → IsPartitionPoint (λ start. q start ≡ true) (λ start. q start ≡ false) starts i)
    → ((a : Bor ZoneStart × Unit {0}) (r : Bool) (f' : F) → Called g f a r f' → (r ≡ nat_le (key a.0.now) x) × (f' ≡ f))
    → (0 < i) × Tells (get_or starts (i - 1) d) x

module _ {F : Type 0} {g : Mut F (Bor ZoneStart × Unit {0}) Bool} {f : F} (seen disk : Shape) (items starts : List ZoneStart) (count : ℕ)
    (mapped : IsMapped seen items count) (same : seen ≡ disk) (are : starts ≡ items) where
  searched : (key : ZoneStart → ℕ) (Tells : ZoneStart → ℕ → Type 0) (end : ℕ) → IsNonDecreasingBy key starts
      → ((x i : ℕ) (d : ZoneStart)
      → IsPartitionPoint (λ start. nat_le (key start) x ≡ true) (λ start. nat_le (key start) x ≡ false) starts i
      → i ≤ length starts → x < end → (0 < i) × Tells (get_or starts (i - 1) d) x)
      → Searches g f starts key Tells end
  searched key Tells end rises finds x i d bound below clause each =
      finds x i d
      (IsPartitionPoint-from_clause (λ start. nat_le (key start) x) starts i clause (IsPartitionedBy-leb key starts x rises) each)
      bound below

  pub lbn-searched : Searches g f starts (λ start. start.lbn) (TellsSector disk) (length (places disk))
  lbn-searched =
      let is = mapped_as seen disk items starts count mapped same are in
      searched (λ start. start.lbn) (TellsSector disk) (length (places disk)) (by_lbn-rises disk starts count is)
      (finds-lbn disk starts count is)

  pub cylinder-searched : Searches g f starts (λ start. start.cylinder) (TellsFirst disk) (cylinders_of disk.zones)
  cylinder-searched =
      let is = mapped_as seen disk items starts count mapped same are in
      searched (λ start. start.cylinder) (TellsFirst disk) (cylinders_of disk.zones) (by_cylinder-rises disk starts count is)
      (finds-cylinder disk starts count is)
