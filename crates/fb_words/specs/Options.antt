-- The options that words can give.
use Rattle.std.specs.Prelude.{ℕ, List, Bool, Option, None, false}
use Rattle.fb_report.specs.declared.bytes.Bytes.{Bytes}
use Rattle.fb_words.specs.declared.command.Policy.{Policy}

-- the value of each option that was given, and whether a summary is wanted
pub record Options : Type 0 where
  pub params : Option (List ℕ)
  pub trace : Option (List ℕ)
  pub policy : Option Policy
  pub calls : Option (List ℕ)
  pub fore : Option (List ℕ)
  pub back : Option (List ℕ)
  pub puts : Option (List ℕ)
  pub spill : Option (List ℕ)
  pub until : Option ℕ
  pub device : Option ℕ
  pub bytes : Option Bytes
  pub number : Option ℕ
  pub requests : Option ℕ
  pub devices : Option ℕ
  pub rebuild : Option ℕ
  pub copy : Option (List ℕ)
  pub summary : Bool

abbrev pub no_options : Options
no_options = record {
  params = None;
  trace = None;
  policy = None;
  calls = None;
  fore = None;
  back = None;
  puts = None;
  spill = None;
  until = None;
  device = None;
  bytes = None;
  number = None;
  requests = None;
  devices = None;
  rebuild = None;
  copy = None;
  summary = false;
}
