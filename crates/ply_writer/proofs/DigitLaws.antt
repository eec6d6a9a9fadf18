-- How many digits a count has.
use Rattle.std.proofs.Common.{◌^◌, ◌<◌, ◌≤◌, ℕ, length, arith}
use Rattle.std.specs.Prelude.{decimal}
use Rattle.std.proofs.lemmas.Fmt.{length-decimal-le}

-- a count has at most ten digits
pub count_short : (n : ℕ) → n < 2 ^ 32 → length (decimal n) ≤ 10
count_short n h = length-decimal-le 10 n (omega arith) (omega arith) (omega arith)
