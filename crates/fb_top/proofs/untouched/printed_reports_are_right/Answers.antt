use Rattle.fb_top.proofs.Words.{List, ℕ, Option, ap, sym, subst, Bool, IfSome, codes, is_some, if◌then◌else◌, Bytes, back_lines}
use Rattle.fb_top.proofs.Words.{fore_lines, fore_text, back_grammar, fore_grammar, IsReadBack, summary_text, Back, Fore, checks, back_told}
use Rattle.fb_top.proofs.Words.{Accepts, FileNames, HoldFilesAlike, HoldsLines, HoldsTexts, HoldsWhole, given_text}
use Rattle.std.specs.Prelude.{Ok}
use Rattle.fb_streams.specs.Names.{check_file_names}
use Rattle.fb_top.specs.Untouched.{HoldsOwnReports}
use Rattle.fb_top.proofs.Completeness.{complete}
use Rattle.fb_top.proofs.Printed.{accepted_there, answers_yes, held_lines, prints, told_lines}
use Rattle.fb_top.proofs.untouched.printed_reports_are_right.Goals as goal

pub returns : goal.returns
returns c = λ old new other terms asked run replayed asks.
    let done = prints old new terms run replayed in
    let files = done.is_run.files in
    let size = files.disk.sector_bytes in
    let fore = fore_lines size terms.bytes run in
    let back = back_lines files.script.names size terms.bytes run in
    let fore_whole : HoldsWhole (new.outputs Fore) (codes "-") (fore_text size terms.bytes run) =
    subst (λ (summary : Bool). HoldsWhole (new.outputs Fore) (codes "-")
    (if summary then summary_text run else fore_text size terms.bytes run)) asks.no_summary done.reports.0 in
    let back_whole : HoldsWhole (new.outputs Back) asks.back_name (back_told terms files run) =
    (subst (λ (given : Option (List ℕ)). HoldsTexts (given_text Back given (back_told terms files run)) new) asks.back_given
    done.reports.1).0 in
    let fore_read = done.read.fore asks.no_summary in
    let back_read : IsReadBack back_grammar back =
    subst (λ (given : Option (List ℕ)). IfSome given (λ name. IsReadBack back_grammar back)) asks.back_given done.read.back in
    let fore_told = told_lines (new.outputs Fore) other asked.fore (codes "-") fore_grammar fore asks.fore fore_whole fore_read in
    let back_told = told_lines (new.outputs Back) other asked.back asks.back_name back_grammar back asks.back back_whole back_read in
    let own : HoldsOwnReports other asked files run = record {
      fore = subst (λ (bytes : Bytes). HoldsLines other asked.fore fore_grammar (fore_lines size bytes run)) (sym asks.bytes)
          (held_lines (new.outputs Fore) other asked.fore (codes "-") fore_grammar fore asks.fore fore_whole fore_read);
      back = subst (λ (bytes : Bytes). HoldsLines other asked.back back_grammar (back_lines files.script.names size bytes run))
          (sym asks.bytes)
          (held_lines (new.outputs Back) other asked.back asks.back_name back_grammar back asks.back back_whole back_read);
    } in
    let alike : HoldFilesAlike old other (check_file_names asked) =
    subst (HoldFilesAlike old other) (sym asks.checks_run.names) asks.checks_run.alike in
    let accepts : Accepts old (check_file_names asked) files =
    subst (λ (s : FileNames). Accepts old s files) (sym asks.checks_run.names) done.is_run.accepts in
    record {
      fore = fore_told;
      back = back_told;
      yes = λ verdict is. c.right_reports_are_right.ensures old other terms asked run verdict done.is_run is asks.checks_run own;
      answer = λ after outcome cause calm.
          answers_yes other after asked outcome
          (λ verdict is. c.right_reports_are_right.ensures old other terms asked run verdict done.is_run is asks.checks_run own) cause
          (complete (Ok (checks asked)) other after outcome cause (record {
            inputs = record {
              files = files;
              accepts = accepted_there old other (check_file_names asked) files alike accepts;
              params_told = ap is_some alike.params.2;
              trace_told = ap is_some alike.trace.2;
              calls_told = ap is_some alike.calls.2;
              puts_told = tt;
              fore_told = fore_told;
              back_told = back_told;
              calm = calm.inputs;
            };
            fore = calm.fore;
          }));
    }
