-- Hulls and choices, computed over regions that were worked out by hand.
use Rattle.std.proofs.Common.{◌≡◌, ◌∙◌, ℕ, ℤ, pos, negsuc, true, false, [], ◌∷◌, List, ap, refl, arith}
use Rattle.fixed_ops.specs.Counts.{Counts, RisesWithin, no_counts, risen, spans_of, times}
use Rattle.fixed_ops.specs.Operations.{op_result}
use Rattle.fixed_ops.specs.declared.operation.Op.TheVariants.{X, Y, Z, Const, Neg, Sub, Min, Max}
use Rattle.interval_ops.specs.HullCounts.{CountsHulls, hulls_of}
use Rattle.interval_ops.specs.Hulls.{between}
use Rattle.interval_ops.specs.Spans.{all_numbers}
use Rattle.interval_ops.specs.declared.choice.Choice.TheVariants.{Left, Right, Both}
use Rattle.interval_ops.specs.declared.region.Region.{Region}
use Rattle.live_clauses.specs.declared.step.Step.{Step}
use Rattle.choice_trace.specs.declared.inputs.Inputs.{Inputs}
use Rattle.choice_trace.specs.Halves.{flag_in, region_in, region_of}
use Rattle.choice_trace.specs.Hulls.{choices_over, tape_hull}
use Rattle.choice_trace.specs.Lanes.{in_lane, lane_value, number_at, point_in}
use Rattle.choice_trace.specs.Meaning.{StandForPoint, StandsForResults}
use Rattle.choice_trace.proofs.WorkLaws.{hulls_are_exact}

-- x from one number to another, y from 2 to 3, and z from 5 to 7
abbrev region : ℤ → ℤ → Region
region low high = record {
  x = between low high;
  y = between (pos 8589934592) (pos 12884901888);
  z = between (pos 21474836480) (pos 30064771072);
}

-- the greater of x and its opposite, less a half, but no less than -3
abbrev slab : List Step
slab =
    record { op = X; a = 0; b = 0; value = pos 0 }
    ∷ record { op = Neg; a = 0; b = 0; value = pos 0 }
    ∷ record { op = Max; a = 0; b = 1; value = pos 0 }
    ∷ record { op = Const; a = 0; b = 0; value = pos 2147483648 }
    ∷ record { op = Sub; a = 2; b = 3; value = pos 0 }
    ∷ record { op = Const; a = 0; b = 0; value = negsuc 12884901887 }
    ∷ record { op = Max; a = 4; b = 5; value = pos 0 }
    ∷ []

-- from -1 to 1 only the last maximum is decided
wide_choices : choices_over (region (negsuc 4294967295) (pos 4294967296)) slab ≡ Both ∷ Both ∷ Both ∷ Both ∷ Both ∷ Both ∷ Left ∷ []
wide_choices = refl

wide_hull : tape_hull (region (negsuc 4294967295) (pos 4294967296)) slab ≡ between (negsuc 6442450943) (pos 2147483648)
wide_hull = refl

-- from -1 to -1/4 the opposite of x is the greater
left_choices : choices_over (region (negsuc 4294967295) (negsuc 1073741823)) slab ≡ Both ∷ Both ∷ Right ∷ Both ∷ Both ∷ Both ∷ Left ∷ []
left_choices = refl

left_hull : tape_hull (region (negsuc 4294967295) (negsuc 1073741823)) slab ≡ between (negsuc 1073741823) (pos 2147483648)
left_hull = refl

-- from 0 to 1 it is x, also where both are 0
tie_choices : choices_over (region (pos 0) (pos 4294967296)) slab ≡ Both ∷ Both ∷ Left ∷ Both ∷ Both ∷ Both ∷ Left ∷ []
tie_choices = refl

-- the lesser of z and y is y
abbrev lesser : List Step
lesser =
    record { op = Z; a = 0; b = 0; value = pos 0 }
    ∷ record { op = Y; a = 0; b = 0; value = pos 0 }
    ∷ record { op = Min; a = 0; b = 1; value = pos 0 }
    ∷ []

lesser_choices : choices_over (region (pos 0) (pos 1)) lesser ≡ Both ∷ Both ∷ Right ∷ []
lesser_choices = refl

lesser_hull : tape_hull (region (pos 0) (pos 1)) lesser ≡ between (pos 8589934592) (pos 12884901888)
lesser_hull = refl

-- the second of two regions, and what stands behind them
second_region : region_in (region (pos 0) (pos 1) ∷ region (pos 2) (pos 3) ∷ []) 1 ≡ region (pos 2) (pos 3)
second_region = refl

no_region : region_in (region (pos 0) (pos 1) ∷ region (pos 2) (pos 3) ∷ []) 2 ≡ record { x = all_numbers; y = all_numbers; z = all_numbers }
no_region = refl

-- the flag of the second lane, and one that is not there
second_flag : flag_in (false ∷ true ∷ []) 1 ≡ true
second_flag = refl

no_flag : flag_in (true ∷ true ∷ []) 2 ≡ false
no_flag = refl

-- the region of the second lane has the second range of each row, and all numbers where a row ends before it
second_of_rows : region_of (record {
  x = between (pos 1) (pos 2) ∷ between (pos 3) (pos 4) ∷ [];
  y = between (pos 5) (pos 6) ∷ between (pos 7) (pos 8) ∷ [];
  z = between (pos 9) (pos 10) ∷ [];
}) 1 ≡ record { x = between (pos 3) (pos 4); y = between (pos 7) (pos 8); z = all_numbers }
second_of_rows = refl

-- the point of the second lane, and what a lane has behind the end of a row
second_point : point_in 1 (record { x = pos 1 ∷ pos 2 ∷ []; y = pos 3 ∷ pos 4 ∷ []; z = pos 5 ∷ pos 6 ∷ [] })
    ≡ record { x = pos 2; y = pos 4; z = pos 6 }
second_point = refl

lanes : in_lane 0 (pos 5 ∷ pos 6 ∷ []) ∷ in_lane 1 (pos 5 ∷ pos 6 ∷ []) ∷ in_lane 2 (pos 5 ∷ pos 6 ∷ []) ∷ []
    ≡ pos 5 ∷ pos 6 ∷ pos 0 ∷ []
lanes = refl

numbers_of_second_lane : number_at 1 ((pos 5 ∷ pos 6 ∷ []) ∷ (pos 7 ∷ pos 8 ∷ []) ∷ []) 0
    ∷ number_at 1 ((pos 5 ∷ pos 6 ∷ []) ∷ (pos 7 ∷ pos 8 ∷ []) ∷ []) 1
    ∷ number_at 1 ((pos 5 ∷ pos 6 ∷ []) ∷ (pos 7 ∷ pos 8 ∷ []) ∷ []) 2 ∷ [] ≡ pos 6 ∷ pos 8 ∷ pos 0 ∷ []
numbers_of_second_lane = refl

-- in the second lane 6 less 2, and x at the point
abbrev two_lanes : Inputs (List ℤ)
two_lanes = record { x = pos 10 ∷ pos 11 ∷ []; y = pos 12 ∷ pos 13 ∷ []; z = pos 14 ∷ pos 15 ∷ [] }

values_of_second_lane :
    lane_value 1 two_lanes ((pos 1 ∷ pos 2 ∷ []) ∷ (pos 5 ∷ pos 6 ∷ []) ∷ []) (record { op = Sub; a = 1; b = 0; value = pos 0 })
    ∷ lane_value 1 two_lanes [] (record { op = X; a = 0; b = 0; value = pos 0 }) ∷ [] ≡ pos 4 ∷ pos 11 ∷ []
values_of_second_lane = refl

-- three numbers stand for the point with just these coordinates
coordinates : StandForPoint (λ a v. a ≡ v) (record { x = pos 1; y = pos 2; z = pos 3 }) (record { x = pos 1; y = pos 2; z = pos 3 })
coordinates = record { x = refl; y = refl; z = refl }

-- the number 5 stands for what 7 less 2 is
difference : StandsForResults (λ a v. a ≡ v) Sub (pos 7) (pos 2) (pos 5)
difference = λ u v first second. ap (op_result Sub (pos 7)) second ∙ ap (λ w. op_result Sub w v) first

-- a tally that rises by 4 evaluations rises by no fewer and by no more
abbrev counted : ℕ → ℕ → Counts
counted points spans = record { points = points; spans = spans; corners = 0 }

rise_of_four : RisesWithin no_counts (counted 4 3) (counted 4 2) (counted 4 9)
rise_of_four = record {
  by = counted 4 3;
  enough = record { points = omega arith; spans = omega arith; corners = omega arith };
  within = record { points = omega arith; spans = omega arith; corners = omega arith };
  rises = refl;
}

rise_of_five : RisesWithin no_counts (counted 4 3) (counted 5 2) (counted 9 9) → ⊥
rise_of_five h =
    let points : 4 ≡ risen 0 h.by.points = ap (λ (counts : Counts). counts.points) h.rises in
    omega (arith, h.enough.points, points)

rise_of_three : RisesWithin no_counts (counted 4 3) (counted 1 2) (counted 3 9) → ⊥
rise_of_three h =
    let points : 4 ≡ risen 0 h.by.points = ap (λ (counts : Counts). counts.points) h.rises in
    omega (arith, h.within.points, points)

-- two hulls of four corners each are as many hulls as any two
hulls_of_four_corners : (after : Counts)
    → RisesWithin no_counts after (times 2 (spans_of 1)) (times 2 (hulls_of 1 4)) → CountsHulls 2 no_counts after
hulls_of_four_corners after rise = hulls_are_exact no_counts after 2 rise
