-- How large the numbers of a command may be.
use Rattle.std.specs.Prelude.{◌^◌, ◌≤◌, ◌<◌, IfSome}
use Rattle.fb_words.specs.Command.{Terms, replays, makes, checks, arrays}

-- instants and numbers are at most 10^15, requests at most a million, and devices from 1 to 16, of which the one to rebuild from is one
abbrev pub IsWithinLimits : Terms → Type 0
IsWithinLimits (replays terms) = (terms.until ≤ 10 ^ 15) × (terms.device ≤ 10 ^ 15)
IsWithinLimits (makes terms) = (terms.number ≤ 10 ^ 15) × (terms.requests ≤ 10 ^ 6) × (terms.device ≤ 10 ^ 15)
IsWithinLimits (checks terms) = (terms.until ≤ 10 ^ 15) × (terms.device ≤ 10 ^ 15)
IsWithinLimits (arrays terms) =
    (0 < terms.devices) × (terms.devices ≤ 16) × IfSome terms.rebuild (λ rebuild. rebuild.device < terms.devices) × (terms.until ≤ 10 ^ 15)
