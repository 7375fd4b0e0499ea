use Rattle.std.proofs.Common.{◌≡◌, ℕ, ◌+◌, drop, length}
use Rattle.std.specs.Prelude.{slice_get}
use Rattle.fb_report.specs.declared.bytes.Bytes.{Bytes}
use Rattle.fb_texts.specs.Sections.{sections}
use Rattle.fb_texts.proofs.array_text.section_of.Given as goal

abbrev pub invariant-loop-device : goal.invariant-loop-device
invariant-loop-device l = record {
  same : (size : ℕ) (bytes : Bytes)
      → slice_get (sections size bytes 0 l.runs) l.index ≡ slice_get (sections size bytes l.device (drop l.device l.runs)) l.rest;
  counted : (size : ℕ) (bytes : Bytes)
      → l.index + length (sections size bytes l.device (drop l.device l.runs)) ≡ l.rest + length (sections size bytes 0 l.runs);
}
