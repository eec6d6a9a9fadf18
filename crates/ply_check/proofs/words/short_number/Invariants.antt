-- The bytes so far are digits, after whose number those that are left are read.
use Rattle.std.proofs.Common.{◌≡◌, ◌^◌, ◌<◌, drop}
use Rattle.std.specs.Str.{all_ascii_digits}
use Rattle.std.specs.Str.Parse.{digits_value, digits_value_after}
use Rattle.ply_check.proofs.words.short_number.Given as goal

abbrev pub invariant-loop-byte : goal.invariant-loop-byte
invariant-loop-byte l = record {
  spelled : all_ascii_digits l.token ≡ all_ascii_digits (drop l.byte-index l.token);
  value : digits_value 10 l.token ≡ digits_value_after 10 l.number (drop l.byte-index l.token);
  small : l.number < 10 ^ l.byte-index;
}
