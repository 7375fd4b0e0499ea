-- The key of an order of service that takes reads before writes.
use Rattle.std.specs.Prelude.{if◌then◌else◌}
use Rattle.fb_model.specs.PlainReplay.{Key}

-- reads before writes: of either kind the order of joining decides
abbrev pub reads_first : Key
reads_first disk head now request = if request.write then 1 else 0
