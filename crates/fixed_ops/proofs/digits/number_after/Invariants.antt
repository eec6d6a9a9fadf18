use Rattle.std.proofs.Common.{◌≡◌, ◌+◌, ◌*◌, ◌^◌, ◌≤◌, length, min}
use Rattle.std.specs.Str.Parse.{AllDigits, digits_value}
use Rattle.fixed_ops.specs.declared.digits.TheConstants.{TOO_GREAT}
use Rattle.fixed_ops.proofs.digits.number_after.Given as goal

abbrev pub invariant-loop-rest : goal.invariant-loop-rest
invariant-loop-rest l = record {
  number : l.number ≤ TOO_GREAT;
  digits : AllDigits 10 l.rest;
  value : min (l.number * 10 ^ length l.rest + digits_value 10 l.rest) TOO_GREAT ≡ min (l.fn.front * 10 ^ length l.digits + digits_value 10 l.digits) TOO_GREAT;
}

abbrev pub decreases-loop-rest : goal.decreases-loop-rest
decreases-loop-rest l = length l.rest
