use Rattle.std.proofs.Common.{◌≡◌, ℕ, ◌+◌, ◌*◌, ◌^◌, ◌≤◌, drop, length}
use Rattle.fb_report.specs.declared.bytes.Bytes.{Bytes}
use Rattle.fb_texts.specs.Sections.{sections}
use Rattle.fb_texts.proofs.array_text.section_lines.Given as goal

abbrev pub invariant-loop-device : goal.invariant-loop-device
invariant-loop-device l = record {
  few : l.lines ≤ l.device * (10 ^ 6 + 3);
  counted : (size : ℕ) (bytes : Bytes)
      → l.lines + length (sections size bytes l.device (drop l.device l.runs)) ≡ length (sections size bytes 0 l.runs);
}
