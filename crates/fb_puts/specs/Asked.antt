-- The sectors that a trace and a script ask for, which the reserve may not touch.
use Rattle.std.specs.Prelude.{ℕ, ◌*◌, List, [], ◌∷◌, ◌++◌, map}
use Rattle.std.specs.List.{flat_map}
use Rattle.fb_units.specs.declared.types.Request.{Request}
use Rattle.fb_script.specs.declared.call.Action.{Action}
use Rattle.fb_script.specs.declared.call.Action.TheVariants.{Want, Promote, Segment}
use Rattle.fb_script.specs.declared.call.Call.{Call}
use Rattle.fb_script.specs.Allowed.{terms_of}
use Rattle.fb_puts.specs.declared.range.SectorRange.{SectorRange}

abbrev pub request_range : Request → SectorRange
request_range request = record { first = request.lbn; count = request.count }

-- the range of a want or a promote, or of a segment of blocks of this size with its dead blocks; none for any other action
abbrev pub ranges_in : ℕ → Action → List SectorRange
ranges_in block (Want first count) = record { first = first; count = count } ∷ []
ranges_in block (Promote first count) = record { first = first; count = count } ∷ []
ranges_in block (Segment first blocks age live) = record { first = first; count = blocks * block } ∷ []
ranges_in block _ = []

-- the ranges of all requests, wants, promotes and segments
abbrev pub asked : List Request → List Call → List SectorRange
asked requests calls = map request_range requests ++ flat_map (λ call. ranges_in (terms_of calls call.task).block call.action) calls
