-- The names that words give to inputs.
use Rattle.std.specs.Prelude.{ℕ, List, Option, Some, None}
use Rattle.fb_desk.specs.declared.desk.Input.{Input}
use Rattle.fb_desk.specs.declared.desk.Input.TheVariants.{Params, Trace, Calls, Puts, ForeReport, BackReport}
use Rattle.fb_words.specs.Command.{ReplayTerms, CheckTerms, ArrayTerms}

-- the names of a run's files, and the device whose requests are read
pub record FileNames : Type 0 where
  pub params : List ℕ
  pub trace : List ℕ
  pub calls : Option (List ℕ)
  pub device : ℕ

-- and behind them the name of a puts file, which a replay may read, and the names of printed reports, which a check reads
pub record InputNames : Type 0 where
  pub files : FileNames
  pub puts : Option (List ℕ)
  pub fore : Option (List ℕ)
  pub back : Option (List ℕ)

-- the names of a run's files alone, without puts and reports
abbrev pub files_alone : FileNames → InputNames
files_alone files = record { files = files; puts = None; fore = None; back = None }

-- the names of a replay's files
abbrev pub replay_file_names : ReplayTerms → FileNames
replay_file_names terms = record { params = terms.params; trace = terms.trace; calls = terms.calls; device = terms.device }

-- the names of the inputs of a replay: its files, and the puts if the words name them
abbrev pub replay_names : ReplayTerms → InputNames
replay_names terms = record { files = replay_file_names terms; puts = terms.puts; fore = None; back = None }

-- the names of a check's files
abbrev pub check_file_names : CheckTerms → FileNames
check_file_names terms = record { params = terms.params; trace = terms.trace; calls = Some terms.calls; device = terms.device }

-- the names of the inputs of a check: its files and both reports
abbrev pub check_names : CheckTerms → InputNames
check_names terms = record { files = check_file_names terms; puts = None; fore = Some terms.fore; back = Some terms.back }

-- the names of an array's files: a parameter file, and a trace, in which device 0 comes first
abbrev pub array_file_names : ArrayTerms → FileNames
array_file_names terms = record { params = terms.params; trace = terms.trace; calls = None; device = 0 }

-- the names of the inputs of an array: its files
abbrev pub array_names : ArrayTerms → InputNames
array_names terms = files_alone (array_file_names terms)

-- the name under which the words give an input, if they give it
abbrev pub name_of : InputNames → Input → Option (List ℕ)
name_of names Params = Some names.files.params
name_of names Trace = Some names.files.trace
name_of names Calls = names.files.calls
name_of names Puts = names.puts
name_of names ForeReport = names.fore
name_of names BackReport = names.back
