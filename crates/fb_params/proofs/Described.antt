-- What a table describes whose outline, arm and latent sectors have no fault.
use Rattle.fb_params.proofs.Words.{◌≡◌, ℕ, List, length, codes, Ok, refl, Members, Layout, Shape, cylinders_of, number_at}
use Rattle.fb_params.proofs.Words.{params_of_table}
use Rattle.fb_geometry.specs.Places.{places}
use Rattle.fb_seek.specs.Mechanics.{Mechanics}
use Rattle.fb_params.specs.ParamsValue.{outline_of, mechanics_of, listed_latent}
use Rattle.fb_params.specs.Reading.{possible_outline, possible_arm, latent_on}

pub described : (layout : Layout) (table : Members) (outline : Shape) (arm : Mechanics) (latent : List ℕ)
    → possible_outline (outline_of layout table) ≡ Ok outline
    → possible_arm (mechanics_of (cylinders_of outline.zones) table) ≡ Ok arm
    → latent_on (length (places outline)) (listed_latent table) ≡ Ok latent
    → params_of_table layout table
    ≡ Ok (record { outline = outline; mechanics = arm; sector_bytes = number_at (codes "sector_bytes") table; latent = latent })
unfolding params_of_table
described layout table outline arm latent is moves listed = rw (is, moves, listed) refl
