-- Counts of hulls, and what spans tell of choices and of a solid, worked out by hand.
use Rattle.std.proofs.Common.{◌≡◌, pos, negsuc, true, false, Some, None, [], ◌∷◌, refl, ap, arith}
use Rattle.std.proofs.lemmas.Int.{ints}
use Rattle.fixed_ops.specs.Counts.{Counts, no_counts, risen}
use Rattle.fixed_ops.specs.declared.operation.Op.TheVariants.{Y, Square, Add, Mul, Div, Min, Max}
use Rattle.interval_ops.specs.Choices.{choice_of}
use Rattle.interval_ops.specs.Decided.{decided_of}
use Rattle.interval_ops.specs.HullCounts.{CountsHulls, hull_corners}
use Rattle.interval_ops.specs.Hulls.{between}
use Rattle.interval_ops.specs.Spans.{IsWithin}
use Rattle.interval_ops.specs.declared.choice.Choice.TheVariants.{Left, Right, Both}

-- a coordinate takes no corner, a product four and a square two, also of one number
coordinate : hull_corners Y (between (pos 1) (pos 2)) (between (pos 3) (pos 4)) ≡ 0
coordinate = refl

product : hull_corners Mul (between (pos 1) (pos 2)) (between (pos 3) (pos 4)) ≡ 4
product = refl

square : hull_corners Square (between (pos 2) (pos 2)) (between (pos 0) (pos 0)) ≡ 2
square = refl

-- a quotient takes two where the divisor is above 0 or below it, and none where it may be 0
by_above : hull_corners Div (between (pos 1) (pos 2)) (between (pos 1) (pos 4)) ≡ 2
by_above = refl

by_below : hull_corners Div (between (pos 1) (pos 2)) (between (negsuc 4) (negsuc 0)) ≡ 2
by_below = refl

around_zero : hull_corners Div (between (pos 1) (pos 2)) (between (negsuc 4) (pos 4)) ≡ 0
around_zero = refl

up_to_zero : hull_corners Div (between (pos 1) (pos 2)) (between (negsuc 4) (pos 0)) ≡ 0
up_to_zero = refl

-- two hulls take eight corners at most, and no evaluation at a point
eight_corners : CountsHulls 2 no_counts (record { points = 0; spans = 2; corners = 8 })
eight_corners = record { corners = 8; few = omega arith; rises = refl }

nine_corners : CountsHulls 2 no_counts (record { points = 0; spans = 2; corners = 9 }) → ⊥
nine_corners h =
    let counted : 9 ≡ risen 0 h.corners = ap (λ (counts : Counts). counts.corners) h.rises in
    omega (arith, h.few, counted)

-- ---- choices

-- The lesser span is the minimum. Where the spans share an end alone, it is the left operand if that one is the
-- lesser, and not decided if it is the greater.
least_spans : choice_of Min (between (pos 1) (pos 2)) (between (pos 2) (pos 4))
    ∷ choice_of Min (between (pos 3) (pos 4)) (between (pos 1) (pos 2))
    ∷ choice_of Min (between (pos 2) (pos 4)) (between (pos 1) (pos 2))
    ∷ choice_of Min (between (pos 1) (pos 3)) (between (pos 2) (pos 4)) ∷ [] ≡ Left ∷ Right ∷ Both ∷ Both ∷ []
least_spans = refl

-- and the greater span is the maximum
greatest_spans : choice_of Max (between (pos 2) (pos 4)) (between (pos 1) (pos 2))
    ∷ choice_of Max (between (pos 1) (pos 2)) (between (pos 3) (pos 4))
    ∷ choice_of Max (between (pos 1) (pos 2)) (between (pos 2) (pos 4))
    ∷ choice_of Max (between (pos 2) (pos 4)) (between (pos 1) (pos 3)) ∷ [] ≡ Left ∷ Right ∷ Both ∷ Both ∷ []
greatest_spans = refl

-- a sum is made of both
sum_of_spans : choice_of Add (between (pos 1) (pos 2)) (between (pos 3) (pos 4)) ≡ Both
sum_of_spans = refl

-- ---- spans

-- inside up to the last number below 0, undecided up to 0, and outside from 0 on
decided_spans : decided_of (between (negsuc 1) (negsuc 0)) ∷ decided_of (between (negsuc 0) (pos 0))
    ∷ decided_of (between (pos 0) (pos 1)) ∷ [] ≡ Some true ∷ None ∷ Some false ∷ []
decided_spans = refl

-- a span lies within itself, and not within one that begins later or ends earlier
within_itself : IsWithin (between (pos 1) (pos 4)) (between (pos 1) (pos 4))
within_itself = (omega (arith, ints), omega (arith, ints))

begins_later : IsWithin (between (pos 1) (pos 4)) (between (pos 2) (pos 4)) → ⊥
begins_later within = omega (arith, ints, within.0)

ends_earlier : IsWithin (between (pos 1) (pos 4)) (between (pos 1) (pos 3)) → ⊥
ends_earlier within = omega (arith, ints, within.1)
