-- The values of a list are the numbers that its steps mean at a point.
use Rattle.std.proofs.Common.{arith, pos, refl, ℤ, ◌≡◌, ◌≤◌}
use Rattle.fixed_ops.specs.declared.operation.Op.{Op}
use Rattle.fixed_ops.specs.declared.operation.Op.TheVariants.{X, Y, Z, Const, Add, Sub, Mul, Div, Min, Max}
use Rattle.fixed_ops.specs.Arity.{arity_of}
use Rattle.fixed_ops.specs.Points.{Point, step_value}
use Rattle.live_clauses.specs.Meanings.{Meaning, ReadsItsOperands}

-- the numbers that steps mean at a point, which are their values there
abbrev pub number_at : Point → Meaning ℤ
number_at p =
    record { step = λ op constant a b. step_value op p constant a b; absent = pos 0 }

-- what has no operand reads none
no_first : (p : Point) (op : Op) (constant a b other : ℤ) → arity_of op ≡ 0
    → step_value op p constant a b ≡ step_value op p constant other b
no_first p X constant a b other none = refl
no_first p Y constant a b other none = refl
no_first p Z constant a b other none = refl
no_first p Const constant a b other none = refl
no_first p op constant a b other none = absurd (omega (arith, none))

-- and what has at most one reads no second one
no_second : (p : Point) (op : Op) (constant a b other : ℤ) → arity_of op ≤ 1
    → step_value op p constant a b ≡ step_value op p constant a other
no_second p Add constant a b other few = absurd (omega (arith, few))
no_second p Sub constant a b other few = absurd (omega (arith, few))
no_second p Mul constant a b other few = absurd (omega (arith, few))
no_second p Div constant a b other few = absurd (omega (arith, few))
no_second p Min constant a b other few = absurd (omega (arith, few))
no_second p Max constant a b other few = absurd (omega (arith, few))
no_second p op constant a b other few = refl

-- an operation reads only the operands that it has
pub number_at-reads : (p : Point) → ReadsItsOperands (number_at p)
number_at-reads p = record { no_first = no_first p; no_second = no_second p }
