use Rattle.fb_top.proofs.Words.{◌≡◌, take, string_bytes, MadeTrace, made_lines, joined}
use Rattle.fb_texts.specs.Writing.{HasWritten}
use Rattle.fb_top.proofs.make.write_trace.Given as goal

abbrev pub invariant-loop-index : goal.invariant-loop-index
invariant-loop-index g l =
    let lines = made_lines l.words.number l.words.device l.sectors l.words.requests in
    record {
      written : HasWritten MadeTrace (string_bytes l.words.trace) (joined (take l.index lines))
          (g.D.Desk.seen l.fn.desk) (g.D.Desk.seen l.desk);
      maker : l.maker ≡ record { number = l.words.number; device = l.words.device; sectors = l.sectors; made = l.index };
    }
