-- The reads that promote calls ask for.
use Rattle.std.specs.Prelude.{ℕ, ◌+◌, List, [], ◌∷◌, ◌++◌, length, false}
use Rattle.fb_units.specs.declared.types.Request.{Request}
use Rattle.fb_units.specs.declared.types.Name.TheVariants.{Promoted}
use Rattle.fb_script.specs.declared.call.Action.{Action}
use Rattle.fb_script.specs.declared.call.Action.TheVariants.{Promote}
use Rattle.fb_script.specs.declared.call.Call.{Call}

-- the read of a promote call, with the number n; none for another call
abbrev pub read_of : ℕ → Call → Action → List Request
read_of n call (Promote first count) = record { name = Promoted n; arrival = call.instant; lbn = first; count = count; write = false } ∷ []
read_of n call _ = []

-- the promoted reads in line order, numbered from n on
abbrev pub promoted_from : ℕ → List Call → List Request
promoted_from n [] = []
promoted_from n (call ∷ calls) =
    let reads = read_of n call call.action in
    reads ++ promoted_from (n + length reads) calls

-- the promoted reads in line order, numbered from 1 on
abbrev pub promoted : List Call → List Request
promoted calls = promoted_from 1 calls
