-- A file gives only the spares of its own layout.
use Rattle.fb_params.proofs.Words.{◌≡◌, false, not, ◌==◌, List, [], ◌∷◌, map, refl, list_any, Members, Layout, PerTrack, PerCylinder, Shape}
use Rattle.fb_params.proofs.Words.{FitsLayout, zone_of, grown_of}

no_cylinder_spares : (tables : List Members) → list_any (λ zone. not (zone.cylinder_spares == 0)) (map (zone_of PerTrack) tables) ≡ false
no_cylinder_spares [] = refl
no_cylinder_spares (table ∷ tables) = no_cylinder_spares tables

no_spares : (tables : List Members) → list_any (λ zone. not (zone.spares == 0)) (map (zone_of PerCylinder) tables) ≡ false
no_spares [] = refl
no_spares (table ∷ tables) = no_spares tables

pub fits_layout : (layout : Layout) (disk : Shape) (tables : List Members) (table : Members)
    → disk.zones ≡ map (zone_of layout) tables → disk.grown ≡ grown_of layout table → FitsLayout layout disk
fits_layout PerTrack disk tables table is none = (none, rw is (no_cylinder_spares tables))
fits_layout PerCylinder disk tables table is found = rw is (no_spares tables)
