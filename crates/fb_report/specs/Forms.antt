-- The grammars of reports as tables.
use Rattle.std.specs.Prelude.{ℕ, List, [], ◌∷◌, Bool, Option, Some, None, map}
use Rattle.std.specs.Borrow.{Bor}
use Rattle.fb_script.specs.Names.{is_name}
use Rattle.fb_report.specs.declared.forms.Form.{Form}
use Rattle.fb_report.specs.declared.forms.Form.TheVariants.{Word, OneOf, Number, Track, Request, Task, Bytes}
use Rattle.fb_report.specs.declared.grammar.Table.{Table}
use Rattle.fb_report.specs.declared.grammar.Fields.{Fields}
use Rattle.fb_desk.specs.declared.desk.Input.{Input}
use Rattle.fb_desk.specs.declared.desk.Input.TheVariants.{ForeReport}
use Rattle.fb_report.specs.Grammar.{Grammar, fore_grammar, back_grammar, is_word, is_one_of, is_number, is_track, is_request, are_bytes}
use Rattle.fb_report.specs.Grammar.{LineFields, report_fields}

-- the field is what a form asks for
abbrev pub fits : Form → List ℕ → Bool
fits (Word word) = is_word word.now
fits (OneOf words) = is_one_of (map (λ word. word.now) words.now)
fits Number = is_number
fits Track = is_track
fits Request = is_request
fits Task = is_name
fits Bytes = are_bytes

-- the grammar that a table writes
abbrev pub written : Table → Grammar
written table = record {
  first = map fits table.first.now;
  rows = map (λ row. map fits row.now) table.rows.now;
  last = map fits table.last.now;
}

-- the grammar of a report, of the foreground or else of the background
abbrev pub grammar_of : Input → Grammar
grammar_of ForeReport = fore_grammar
grammar_of (_) = back_grammar

-- the fields of what is left of a line, if anything is
abbrev pub fields_left : Option (Bor (List ℕ)) → LineFields
fields_left None = []
fields_left (Some text) = report_fields text.now

-- a first field and those behind it
abbrev pub listed : Fields → LineFields
listed fields = fields.first.now ∷ fields_left fields.rest
