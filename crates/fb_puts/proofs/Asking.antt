-- The ranges that calls ask for.
use Rattle.fb_puts.proofs.Words.{List, flat_map, terms_of, SectorRange, ranges_in}
use Rattle.fb_script.specs.declared.call.Call.{Call}

-- the ranges of some calls, whose tasks all calls open
abbrev pub called : List Call → List Call → List SectorRange
called all calls = flat_map (λ call. ranges_in (terms_of all call.task).block call.action) calls
