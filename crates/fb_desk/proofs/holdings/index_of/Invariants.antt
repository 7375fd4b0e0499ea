use Rattle.std.proofs.Common.{◌≡◌, ◌<◌, take, length}
use Rattle.std.specs.Prelude.{option_and_then, IfSome}
use Rattle.fb_desk.specs.Holdings.{held_under, bytes_at}
use Rattle.fb_desk.proofs.holdings.index_of.Given as goal

abbrev pub invariant-loop-index : goal.invariant-loop-index
invariant-loop-index l = record {
  value : option_and_then (bytes_at l.entries) l.found ≡ held_under (take l.index l.entries) l.name;
  within : IfSome l.found (λ index. index < length l.entries);
}
