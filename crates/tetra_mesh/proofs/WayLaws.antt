-- Parts of a way lie along it.
use Rattle.std.proofs.Common.{◌*◌, ◌≤◌, ℕ, ℤ, pos, arith}
use Rattle.std.specs.Prelude.{negsuc, ◌*ℤ◌, ◌≤ℤ◌}
use Rattle.std.proofs.lemmas.Int.{ints, clamps}
use Rattle.std.proofs.Math.Nat.{mul-le-mul_left}
use Rattle.fixed_ops.specs.Floor.{IsFloor}
use Rattle.fixed_ops.specs.Raw.{floor_div}
use Rattle.std.specs.Int.{int_max, int_min}

-- a part of a way leads no further, and no other way
pub record IsPartOf (way part : ℤ) : Type 0 where
  pub least : int_min (pos 0) way ≤ℤ part
  pub greatest : part ≤ℤ int_max (pos 0) way

-- a whole number of parts is the greatest that is not above the exact one
is_floor : (s : ℤ) → IsFloor s 65536 (floor_div s 65536)
is_floor (pos n) = (omega (arith, ints), omega (arith, ints))
is_floor (negsuc n) = (omega (arith, ints), omega (arith, ints))

-- the rounded part of a way is a part of it
pub parts_within : (way : ℤ) (t : ℕ) → t ≤ 65535 → IsPartOf way (floor_div (way *ℤ pos t) 65536)
parts_within (pos n) t h =
    let product : n * t ≤ n * 65535 = mul-le-mul_left n h in
    let floor = is_floor (pos n *ℤ pos t) in
    record { least = omega (arith, ints, clamps, product, floor.1); greatest = omega (arith, ints, clamps, product, floor.0) }
parts_within (negsuc n) t h =
    let product : n * t ≤ n * 65535 = mul-le-mul_left n h in
    let floor = is_floor (negsuc n *ℤ pos t) in
    record { least = omega (arith, ints, clamps, product, floor.1); greatest = omega (arith, ints, clamps, product, floor.0) }
