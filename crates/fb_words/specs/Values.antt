-- The values of options.
use Rattle.std.specs.Prelude.{ℕ, List, length, slice_index, Bool, not, ◌&&◌, ◌||◌, ◌==◌, nat_lt, Some, Result, Ok, is_some}
use Rattle.fb_units.specs.Judging.{◌>>=◌, ◌>>◌, or_refuse, refuse}
use Rattle.fb_units.specs.Numbers.{millis_of, number_of}
use Rattle.fb_words.specs.declared.fault.UsageReason.{UsageReason}
use Rattle.fb_words.specs.declared.fault.UsageReason.TheVariants.{NoValue, BadValue}
use Rattle.fb_words.specs.declared.names.OptionName.{OptionName}
use Rattle.fb_words.specs.declared.names.OptionName.TheVariants.{Params, Trace, Policy, Calls, Fore, Back, Puts, Spill, Until, Device}
use Rattle.fb_words.specs.declared.names.OptionName.TheVariants.{Bytes, Number, Requests, Devices, Rebuild, Copy}
use Rattle.fb_words.specs.Names.{policy_of, bytes_of}
use Rattle.fb_words.specs.Options.{Options}

-- the option was given
abbrev pub is_given : Options → OptionName → Bool
is_given given Params = is_some given.params
is_given given Trace = is_some given.trace
is_given given Policy = is_some given.policy
is_given given Calls = is_some given.calls
is_given given Fore = is_some given.fore
is_given given Back = is_some given.back
is_given given Puts = is_some given.puts
is_given given Spill = is_some given.spill
is_given given Until = is_some given.until
is_given given Device = is_some given.device
is_given given Bytes = is_some given.bytes
is_given given Number = is_some given.number
is_given given Requests = is_some given.requests
is_given given Devices = is_some given.devices
is_given given Rebuild = is_some given.rebuild
is_given given Copy = is_some given.copy

-- the word can be a value: it isn't empty and doesn't begin with a dash
abbrev pub is_value : List ℕ → Bool
is_value word = nat_lt 0 (length word) && not (slice_index word 0 == 45)

-- a number of requests, which is at most a million
unfoldable pub request_count_of : List ℕ → Result ℕ UsageReason
request_count_of value = do
  count ← or_refuse BadValue (number_of value)
  refuse BadValue (nat_lt 1000000 count)
  Ok count

-- a number of devices, which is from 1 to 16
unfoldable pub device_count_of : List ℕ → Result ℕ UsageReason
device_count_of value = do
  count ← or_refuse BadValue (number_of value)
  refuse BadValue (count == 0 || nat_lt 16 count)
  Ok count

-- the options with the value of one more option, if it is of the option's form
unfoldable pub with_form : Options → OptionName → List ℕ → Result Options UsageReason
with_form given Params value = Ok (record given { params = Some value })
with_form given Trace value = Ok (record given { trace = Some value })
with_form given Policy value = or_refuse BadValue (policy_of value) >>= (λ policy. Ok (record given { policy = Some policy }))
with_form given Calls value = Ok (record given { calls = Some value })
with_form given Fore value = Ok (record given { fore = Some value })
with_form given Back value = Ok (record given { back = Some value })
with_form given Puts value = Ok (record given { puts = Some value })
with_form given Spill value = Ok (record given { spill = Some value })
with_form given Until value = or_refuse BadValue (millis_of value) >>= (λ until. Ok (record given { until = Some until }))
with_form given Device value = or_refuse BadValue (number_of value) >>= (λ device. Ok (record given { device = Some device }))
with_form given Bytes value = or_refuse BadValue (bytes_of value) >>= (λ bytes. Ok (record given { bytes = Some bytes }))
with_form given Number value = or_refuse BadValue (number_of value) >>= (λ number. Ok (record given { number = Some number }))
with_form given Requests value = request_count_of value >>= (λ requests. Ok (record given { requests = Some requests }))
with_form given Devices value = device_count_of value >>= (λ devices. Ok (record given { devices = Some devices }))
with_form given Rebuild value = or_refuse BadValue (number_of value) >>= (λ device. Ok (record given { rebuild = Some device }))
with_form given Copy value = Ok (record given { copy = Some value })

-- the options with the value of one more option, or why that value is refused
unfoldable pub with_value : Options → OptionName → List ℕ → Result Options UsageReason
with_value given option value = refuse NoValue (not (is_value value)) >> with_form given option value
