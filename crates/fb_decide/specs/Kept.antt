-- Where the foreground requests of a replay are kept.
use Rattle.std.specs.Prelude.{List}
use Rattle.fb_units.specs.declared.types.Request.{Request}
use Rattle.fb_decide.specs.declared.requests.Kept.{Kept}
use Rattle.fb_decide.specs.declared.requests.Kept.TheVariants.{Traced, Merged}

-- the requests, wherever they are kept
abbrev pub kept_items : Kept → List Request
kept_items (Traced requests) = requests.now
kept_items (Merged requests) = requests.items
