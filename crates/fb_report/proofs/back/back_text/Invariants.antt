use Rattle.fb_report.proofs.Words.{◌≡◌, ◌++◌, drop, flat_map, back_lines, back_text}
use Rattle.fb_report.proofs.back.back_text.Given as goal

abbrev pub invariant-loop-k : goal.invariant-loop-k
invariant-loop-k l =
    l.text.items ++ flat_map (λ line. line) (drop l.k (back_lines l.names l.sector_bytes l.bytes l.run))
    ≡ back_text l.names l.sector_bytes l.bytes l.run
