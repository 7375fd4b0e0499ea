-- The names of files that are handed on to be read.
use Rattle.std.specs.Option.{option_map}
use Rattle.fb_inputs.specs.declared.reading.NamedFiles.{NamedFiles}
use Rattle.fb_streams.specs.Names.{FileNames}

-- the names of a run's files, which are handed on with the device
abbrev pub file_names : NamedFiles → FileNames
file_names named = record {
  params = named.params.now;
  trace = named.trace.now;
  calls = option_map (λ name. name.now) named.calls;
  device = named.device;
}
