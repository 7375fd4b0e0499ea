-- The foreground list: the trace's requests, and the reads that calls ask for.
use Rattle.std.specs.Prelude.{List, [], ◌∷◌, nat_le, if◌then◌else◌}
use Rattle.std.specs.List.{fold}
use Rattle.fb_units.specs.declared.types.Request.{Request}
use Rattle.fb_script.specs.declared.call.Call.{Call}
pub use Rattle.fb_script.specs.Promoted.{read_of, promoted_from, promoted}

-- a read put behind all requests that arrive no later than it
abbrev pub behind : List Request → Request → List Request
behind [] read = read ∷ []
behind (request ∷ requests) read = if nat_le request.arrival read.arrival then request ∷ behind requests read else read ∷ request ∷ requests

-- all requests in order of arrival; of those that arrive together the trace's come first, and each kind keeps its order
abbrev pub foreground_list : List Request → List Call → List Request
foreground_list trace calls = fold behind trace (promoted calls)
