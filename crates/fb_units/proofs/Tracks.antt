-- Tracks that are the same.
use Rattle.std.proofs.Common.{◌≡◌, true, refl, ap, ◌∙◌, arith}
use Rattle.std.proofs.lemmas.Bool.Decides.{nat_tests}
use Rattle.fb_units.specs.declared.types.Track.{Track}
use Rattle.fb_units.specs.Tracks.{same_track}

pub same_tracks : (a b : Track) → same_track a b ≡ true → a ≡ b
same_tracks a b h =
    let cylinders : a.cylinder ≡ b.cylinder = grind (arith, nat_tests) in
    let heads : a.head ≡ b.head = grind (arith, nat_tests) in
    ap (λ x. let t : Track = record { cylinder = x; head = a.head } in t) cylinders ∙ ap
    (λ x. let t : Track = record { cylinder = b.cylinder; head = x } in t) heads

pub track_itself : (a : Track) → same_track a a ≡ true
track_itself a = grind (arith, nat_tests)

pub same_fields : (a b : Track) → a.cylinder ≡ b.cylinder → a.head ≡ b.head → a ≡ b
same_fields a b cylinder head = rw (cylinder, head) refl
