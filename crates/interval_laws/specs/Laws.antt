-- The laws of spans.
use Rattle.std.specs.Prelude.{◌≡◌, ℤ, pos, ◌<ℤ◌, ◌≤ℤ◌}
use Rattle.fixed_ops.specs.Operations.{op_result}
use Rattle.fixed_ops.specs.declared.operation.Op.{Op}
use Rattle.fixed_ops.specs.declared.operation.Op.TheVariants.{Min, Max, Div}
use Rattle.interval_ops.specs.Choices.{choice_of}
use Rattle.interval_ops.specs.Hulls.{IsHull, IsResult}
use Rattle.interval_ops.specs.Spans.{Interval, IsSpan, Holds, IsWithin}
use Rattle.interval_ops.specs.declared.choice.Choice.{Choice}
use Rattle.interval_ops.specs.declared.choice.Choice.TheVariants.{Left, Right, Both}

-- the hull of two spans holds the result on a value of each
abbrev pub Includes : Op → Interval → Interval → ℤ → ℤ → Type 0
Includes op a b u v =
    (hull : Interval) → IsHull op a b hull → Holds a u → Holds b v → Holds hull (op_result op u v)

-- a division whose divisor may be 0
abbrev pub IsByZero : Op → Interval → Type 0
IsByZero op b = (op ≡ Div) × Holds b (pos 0)

-- both ends of the hull are results on values of the spans, but for a division whose divisor may
-- be 0
abbrev pub Attains : Op → Interval → Interval → Type 0
Attains op a b =
    (hull : Interval) → IsHull op a b hull → (IsByZero op b → ⊥) →
    IsResult op a b hull.lo × IsResult op a b hull.hi

-- the hull of narrower spans lies in the hull
abbrev pub Shrinks : Op → Interval → Interval → Interval → Interval → Type 0
Shrinks op a b c d =
    (outer inner : Interval) → IsHull op a b outer → IsHull op c d inner →
    IsWithin c a → IsWithin d b → IsWithin inner outer

-- where the choice is an operand, the result on a value of each span is that operand
pub record KeepsChoice (op : Op) (a b : Interval) (u v : ℤ) : Type 0 where
  pub left : choice_of op a b ≡ Left → Holds a u → Holds b v → op_result op u v ≡ u
  pub right : choice_of op a b ≡ Right → Holds a u → Holds b v → op_result op u v ≡ v

-- The operand that an operation chooses wins against the other: of a minimum the left one where it
-- is at most the right one, and the right one where it is less; of a maximum the left one where it
-- is at least the right one, and the right one where it is greater. Both says nothing, and no other
-- operation chooses an operand.
abbrev pub Wins : Op → Choice → ℤ → ℤ → Type 0
Wins op Both u v = Unit {0}
Wins Min Left u v = u ≤ℤ v
Wins Min Right u v = v <ℤ u
Wins Max Left u v = v ≤ℤ u
Wins Max Right u v = u <ℤ v
Wins op choice u v = ⊥

-- where the choice is an operand, a value of its span wins against each value of the other's
abbrev pub ChosenWins : Op → Interval → Interval → ℤ → ℤ → Type 0
ChosenWins op a b u v = Holds a u → Holds b v → Wins op (choice_of op a b) u v

-- the laws of all spans and all numbers
abbrev pub InclusionHolds : Type 0
InclusionHolds =
    (op : Op) (a b : Interval) (u v : ℤ) → IsSpan a → IsSpan b → Includes op a b u v

abbrev pub EndsAreAttained : Type 0
EndsAreAttained = (op : Op) (a b : Interval) → IsSpan a → IsSpan b → Attains op a b

abbrev pub HullsShrink : Type 0
HullsShrink = (op : Op) (a b c d : Interval) → IsSpan a → IsSpan b → IsSpan c → IsSpan d
    → Shrinks op a b c d

abbrev pub ChoicesAreKept : Type 0
ChoicesAreKept = (op : Op) (a b : Interval) (u v : ℤ) → KeepsChoice op a b u v

abbrev pub ChosenOnesWin : Type 0
ChosenOnesWin = (op : Op) (a b : Interval) (u v : ℤ) → ChosenWins op a b u v
