-- Lists of steps, their values, and what choices leave of them, worked out by hand.
use Rattle.std.proofs.Common.{◌≡◌, ℕ, ◌+◌, ℤ, pos, negsuc, zero, suc, ◌<◌, ◌≤◌, true, false, List, [], ◌∷◌, length, refl, ap, arith}
use Rattle.fixed_ops.specs.Points.{Point}
use Rattle.fixed_ops.specs.Raw.{IsRaw}
use Rattle.fixed_ops.specs.Slopes.{Sloped, one}
use Rattle.fixed_ops.specs.declared.operation.Op.{Op}
use Rattle.fixed_ops.specs.declared.operation.Op.TheVariants.{X, Y, Z, Neg, Sub, Min}
use Rattle.interval_ops.specs.declared.choice.Choice.TheVariants.{Left, Right, Both}
use Rattle.live_clauses.specs.declared.choice_row.ChoiceRow.{ChoiceRow}
use Rattle.live_clauses.specs.declared.step.Step.{Step}
use Rattle.live_clauses.specs.Blocks.{list_at}
use Rattle.live_clauses.specs.Choices.{AreChoices, AreRight, lane}
use Rattle.live_clauses.specs.Live.{live_of, IsLiveOf, IsWhole}
use Rattle.live_clauses.specs.Marks.{IsNextMarked, is_marked}
use Rattle.live_clauses.specs.Meanings.{Meaning, MeanTheirChoices, ReadsItsOperands, meanings, sloped_at, tape_meaning}
use Rattle.live_clauses.specs.Steps.{IsStepAt, IsTape, tape_value, values}

abbrev step : Op → ℕ → ℕ → Step
step op a b = record { op = op; a = a; b = b; value = pos 0 }

-- the lesser of x and y, less z
abbrev lesser : List Step
lesser = step X 0 0 ∷ step Y 0 0 ∷ step Min 0 1 ∷ step Z 0 0 ∷ step Sub 2 3 ∷ []

abbrev at : ℤ → ℤ → ℤ → Point
at x y z = record { x = x; y = y; z = z }

values_in_order : values (at (pos 5) (pos 3) (pos 1)) lesser ≡ pos 5 ∷ pos 3 ∷ pos 3 ∷ pos 1 ∷ pos 2 ∷ []
values_in_order = refl

last_value : tape_value (at (pos 5) (pos 3) (pos 1)) lesser ≡ pos 2
last_value = refl

abbrev slopes_at : ℤ → ℤ → ℤ → Sloped
slopes_at x y z = tape_meaning (sloped_at (at x y z)) lesser

-- its slopes are those of the lesser one, of two equal ones those of the first, less those of z
right_slopes : slopes_at (pos 5) (pos 3) (pos 1) ≡ record { value = pos 2; dx = pos 0; dy = one; dz = negsuc 4294967295 }
right_slopes = refl

left_slopes : slopes_at (pos 3) (pos 3) (pos 1) ≡ record { value = pos 2; dx = one; dy = pos 0; dz = negsuc 4294967295 }
left_slopes = refl

-- where one operand is chosen, the other is not needed, nor is the minimum
right_alone : live_of lesser (Both ∷ Both ∷ Right ∷ Both ∷ Both ∷ []) ≡ step Y 0 0 ∷ step Z 0 0 ∷ step Sub 0 1 ∷ []
right_alone = refl

left_alone : live_of lesser (Both ∷ Both ∷ Left ∷ Both ∷ Both ∷ []) ≡ step X 0 0 ∷ step Z 0 0 ∷ step Sub 0 1 ∷ []
left_alone = refl

-- the negation of x, where nothing needs y
abbrev idle : List Step
idle = step X 0 0 ∷ step Y 0 0 ∷ step Neg 0 0 ∷ []

idle_is_not_whole : IsWhole idle → ⊥
idle_is_not_whole whole = let fewer : 2 ≡ 3 = ap length whole in omega (arith, fewer)

idle_left_out : live_of idle (Both ∷ Both ∷ Both ∷ []) ≡ step X 0 0 ∷ step Neg 0 0 ∷ []
idle_left_out = refl

rest_is_whole : IsWhole (step X 0 0 ∷ step Neg 0 0 ∷ [])
rest_is_whole = refl

-- each step of the lesser of x and y, less z, is needed, and so is each that a choice leaves
lesser_is_whole : IsWhole lesser
lesser_is_whole = refl

right_is_whole : IsWhole (live_of lesser (Both ∷ Both ∷ Right ∷ Both ∷ Both ∷ []))
right_is_whole = refl

-- a choice is right only where the step has the value of the operand that it chooses
wrong_left : AreRight (at (pos 5) (pos 3) (pos 1)) lesser (Both ∷ Both ∷ Left ∷ []) → ⊥
wrong_left right = let value : pos 3 ≡ pos 5 = right.left 2 (step Min 0 1) refl refl in (cc)

wrong_right : AreRight (at (pos 3) (pos 5) (pos 1)) lesser (Both ∷ Both ∷ Right ∷ []) → ⊥
wrong_right right = let value : pos 3 ≡ pos 5 = right.right 2 (step Min 0 1) refl refl in (cc)

-- a coordinate chooses no operand, and a difference none
coordinate_chooses : AreChoices lesser (Left ∷ []) → ⊥
coordinate_chooses are = let choice : Left ≡ Both = are 0 (step X 0 0) refl (λ e. cc) (λ e. cc) in (cc)

difference_chooses : AreChoices lesser (Both ∷ Both ∷ Left ∷ Both ∷ Right ∷ []) → ⊥
difference_chooses are = let choice : Right ≡ Both = are 4 (step Sub 2 3) refl (λ e. cc) (λ e. cc) in (cc)

-- what a list and its steps keep
no_list_is_empty : IsTape [] → ⊥
no_list_is_empty is = omega (arith, is.some)

no_list_has_more : (steps : List Step) → IsTape steps → length steps ≤ 65535
no_list_has_more steps is = is.few

step_of_itself : IsStepAt 1 (step Neg 1 0) → ⊥
step_of_itself is = omega (arith, is.fits.first (omega arith))

step_of_the_one_before : IsStepAt 1 (step Neg 0 0)
step_of_the_one_before = record {
  raw = (record { le = tt }, record { le = tt });
  fits = record {
    first = λ some. omega arith;
    second = λ some. omega (arith, some);
    no_first = λ none. refl;
    no_second = λ few. refl;
    no_value = λ other. refl;
  };
}

numbers_are_raw : (place : ℕ) (s : Step) → IsStepAt place s → IsRaw s.value
numbers_are_raw place s is = is.raw

-- how many operations with two operands a step is made by, each counted as often as it is used
abbrev pairs_of : Op → ℤ → ℕ → ℕ → ℕ
pairs_of Sub constant a b = a + b + 1
pairs_of Min constant a b = a + b + 1
pairs_of op constant a b = 0

abbrev pairs : Meaning ℕ
pairs = record { step = pairs_of; absent = 0 }

pairs_in_order : meanings pairs lesser ≡ 0 ∷ 0 ∷ 1 ∷ 0 ∷ 2 ∷ []
pairs_in_order = refl

last_pairs : tape_meaning pairs lesser ≡ 2
last_pairs = refl

-- the minimum has one more than either operand, so a choice changes what a list means
pairs_change : tape_meaning pairs (live_of lesser (Both ∷ Both ∷ Left ∷ Both ∷ Both ∷ [])) ≡ 1
pairs_change = refl

wrong_pairs : MeanTheirChoices pairs lesser (Both ∷ Both ∷ Left ∷ []) → ⊥
wrong_pairs means = let count : 1 ≡ 0 = means.left 2 (step Min 0 1) refl refl in omega (arith, count)

-- what reads an operand that the operation lacks, as a coordinate its first, means nothing by itself
first_of : Meaning ℕ
first_of = record { step = λ op constant a b. a; absent = 0 }

reads_too_much : ReadsItsOperands first_of → ⊥
unfolding first_of
reads_too_much reads = let same : 0 ≡ 1 = reads.no_first X (pos 0) 0 0 1 refl in omega (arith, same)

-- of two rows of choices, the second lane, and the third, in which the first row makes none
abbrev two_rows : List ChoiceRow
two_rows = record { left = 1; right = 2 } ∷ record { left = 2; right = 4 } ∷ []

second_lane : lane 1 two_rows ≡ Right ∷ Left ∷ []
second_lane = refl

third_lane : lane 2 two_rows ≡ Both ∷ Right ∷ []
third_lane = refl

-- the second of two lists, and one that is not there
second_list : list_at (idle ∷ lesser ∷ []) 1 ≡ lesser
second_list = refl

no_list : list_at (idle ∷ lesser ∷ []) 2 ≡ []
no_list = refl

-- the negation of x alone is the live list where nothing needs y, and no other list is
negation_is_live : IsTape idle → IsLiveOf (step X 0 0 ∷ step Neg 0 0 ∷ []) idle
negation_is_live tape = record { tape = tape; live = refl }

only_negation_is_live : (list : List Step) → IsLiveOf list idle → list ≡ step X 0 0 ∷ step Neg 0 0 ∷ []
only_negation_is_live list is = is.live

live_of_a_tape : (list steps : List Step) → IsLiveOf list steps → IsTape steps
live_of_a_tape list steps is = is.tape

-- memory with a byte for each of five places: places 0, 3 and 4 are marked in the second lane
abbrev marks : List ℕ
marks = 2 ∷ 1 ∷ 4 ∷ 3 ∷ 2 ∷ []

-- from place 1 on the next one there is 3, also where the look begins with it, and the end where that comes before
next_is_three : IsNextMarked 1 marks 1 5 3
next_is_three = record { onward = omega arith; within = omega arith; idle = idle_before; there = λ before. refl }
  where
    idle_before : (place : ℕ) → 1 ≤ place → place < 3 → is_marked 1 marks place ≡ false
    idle_before zero from to = absurd (omega (arith, from))
    idle_before (suc zero) from to = refl
    idle_before (suc (suc zero)) from to = refl
    idle_before (suc (suc (suc place))) from to = absurd (omega (arith, to))

next_is_the_first : IsNextMarked 1 marks 3 5 3
next_is_the_first = record {
  onward = omega arith;
  within = omega arith;
  idle = λ place from to. absurd (omega (arith, from, to));
  there = λ before. refl;
}

next_is_the_end : IsNextMarked 1 marks 1 2 2
next_is_the_end = record {
  onward = omega arith;
  within = omega arith;
  idle = idle_before;
  there = λ before. absurd (omega (arith, before));
}
  where
    idle_before : (place : ℕ) → 1 ≤ place → place < 2 → is_marked 1 marks place ≡ false
    idle_before zero from to = absurd (omega (arith, from))
    idle_before (suc zero) from to = refl
    idle_before (suc (suc place)) from to = absurd (omega (arith, to))

-- none is passed over, none is next that is not marked, and none before the first or behind the end
passed_over : IsNextMarked 1 marks 1 5 4 → ⊥
passed_over next = let mark : true ≡ false = next.idle 3 (omega arith) (omega arith) in (cc)

not_marked : IsNextMarked 1 marks 1 5 2 → ⊥
not_marked next = let mark : false ≡ true = next.there (omega arith) in (cc)

before_the_first : IsNextMarked 1 marks 3 5 0 → ⊥
before_the_first next = omega (arith, next.onward)

behind_the_end : IsNextMarked 1 marks 1 2 3 → ⊥
behind_the_end next = omega (arith, next.within)
