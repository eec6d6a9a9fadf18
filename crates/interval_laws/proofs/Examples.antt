-- Which operand of a minimum or a maximum wins and is kept, worked out by hand.
use Rattle.std.proofs.Common.{◌≡◌, ℤ, pos, arith}
use Rattle.std.specs.Int.{int_max, int_min}
use Rattle.std.proofs.lemmas.Int.{ints}
use Rattle.fixed_ops.specs.declared.operation.Op.TheVariants.{Min, Max, Add}
use Rattle.interval_ops.specs.declared.choice.Choice.TheVariants.{Left, Right}
use Rattle.interval_ops.specs.Choices.{choice_of}
use Rattle.interval_ops.specs.Spans.{Interval, Holds}
use Rattle.interval_laws.specs.Laws.{KeepsChoice, Wins}

-- a tie goes to the left operand
tie_of_min : Wins Min Left (pos 3) (pos 3)
tie_of_min = omega (arith, ints)

tie_of_max : Wins Max Left (pos 3) (pos 3)
tie_of_max = omega (arith, ints)

right_at_tie_of_min : Wins Min Right (pos 3) (pos 3) → ⊥
right_at_tie_of_min wins = omega (arith, ints, wins)

right_at_tie_of_max : Wins Max Right (pos 3) (pos 3) → ⊥
right_at_tie_of_max wins = omega (arith, ints, wins)

-- elsewhere to the lesser of a minimum and the greater of a maximum
right_of_min : Wins Min Right (pos 5) (pos 3)
right_of_min = omega (arith, ints)

left_of_min : Wins Min Left (pos 5) (pos 3) → ⊥
left_of_min wins = omega (arith, ints, wins)

left_of_max : Wins Max Left (pos 5) (pos 3)
left_of_max = omega (arith, ints)

right_of_max : Wins Max Right (pos 5) (pos 3) → ⊥
right_of_max wins = omega (arith, ints, wins)

-- a sum chooses neither
left_of_sum : Wins Add Left (pos 5) (pos 3) → ⊥
left_of_sum wins = wins

-- where the left operand of a minimum is chosen it is the lesser of any two values, and where the right operand of a
-- maximum is chosen it is the greater
left_is_kept : (a b : Interval) (u v : ℤ) → KeepsChoice Min a b u v → choice_of Min a b ≡ Left → Holds a u → Holds b v
    → int_min u v ≡ u
left_is_kept a b u v keeps chosen first second = keeps.left chosen first second

right_is_kept : (a b : Interval) (u v : ℤ) → KeepsChoice Max a b u v → choice_of Max a b ≡ Right → Holds a u → Holds b v
    → int_max u v ≡ v
right_is_kept a b u v keeps chosen first second = keeps.right chosen first second
