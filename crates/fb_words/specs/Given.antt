-- The options that the code holds, as the options of the definitions.
use Rattle.std.specs.Option.{option_copied}
use Rattle.fb_words.specs.declared.given.Given.{Given}
use Rattle.fb_words.specs.Options.{Options}

abbrev pub options : Given → Options
options given = record {
  params = option_copied given.params;
  trace = option_copied given.trace;
  policy = given.policy;
  calls = option_copied given.calls;
  fore = option_copied given.fore;
  back = option_copied given.back;
  puts = option_copied given.puts;
  spill = option_copied given.spill;
  until = given.until;
  device = given.device;
  bytes = given.bytes;
  number = given.number;
  requests = given.requests;
  devices = given.devices;
  rebuild = given.rebuild;
  copy = option_copied given.copy;
  summary = given.summary;
}
