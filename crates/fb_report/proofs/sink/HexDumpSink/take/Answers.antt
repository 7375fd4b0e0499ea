use Rattle.fb_report.proofs.Words.{sym, ap, ◌∙◌, ◌++◌, encode_lower}
use Rattle.fb_report.proofs.Digits.{lower-append}
use Rattle.fb_report.proofs.sink.HexDumpSink.take.Goals as goal

pub returns : goal.returns
returns c =
    λ before h. c.in_ok-push_hex.ensures ∙ ap (λ text. text ++ encode_lower c.args.bytes.now) h ∙ sym (lower-append before c.args.bytes.now)
