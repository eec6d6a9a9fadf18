-- Lists in a block of memory, and the choices in rows, worked out by hand.
use Rattle.std.proofs.Common.{◌≡◌, ℤ, zero, suc, pos, ◌≤◌, List, [], ◌∷◌, refl, arith}
use Rattle.fixed_ops.specs.declared.operation.Op.TheVariants.{X, Const, Neg, Add}
use Rattle.interval_ops.specs.declared.choice.Choice.TheVariants.{Left, Right, Both}
use Rattle.live_clauses.specs.declared.packed_step.PackedStep.{PackedStep}
use Rattle.live_clauses.specs.declared.part.Part.{Part}
use Rattle.live_clauses.specs.Blocks.{AreApart, AreParts, IsPart, end_of, part_of, parts_of}
use Rattle.live_clauses.specs.Choices.{choice_in, step_at}

-- x and its negation, and behind them a constant, x and their sum; the number of the constant stands second in the table
abbrev block : List PackedStep
block =
    record { op = X; a = 0; b = 0 } ∷ record { op = Neg; a = 0; b = 0 } ∷ record { op = Const; a = 1; b = 0 }
    ∷ record { op = X; a = 0; b = 0 } ∷ record { op = Add; a = 0; b = 1 } ∷ []

abbrev constants : List ℤ
constants = pos 7 ∷ pos 8 ∷ []

abbrev first : Part
first = record { start = 0; end = 2 }

abbrev second : Part
second = record { start = 2; end = 5 }

second_part : part_of constants block second ≡ record { op = Const; a = 0; b = 0; value = pos 8 }
    ∷ record { op = X; a = 0; b = 0; value = pos 0 } ∷ record { op = Add; a = 0; b = 1; value = pos 0 } ∷ []
second_part = refl

both_parts : parts_of constants block (first ∷ second ∷ []) ≡
    (record { op = X; a = 0; b = 0; value = pos 0 } ∷ record { op = Neg; a = 0; b = 0; value = pos 0 } ∷ [])
    ∷ (record { op = Const; a = 0; b = 0; value = pos 8 } ∷ record { op = X; a = 0; b = 0; value = pos 0 }
    ∷ record { op = Add; a = 0; b = 1; value = pos 0 } ∷ []) ∷ []
both_parts = refl

-- parts end where the last of them does, and no parts at the beginning
ends_of_parts : end_of (first ∷ second ∷ []) ∷ end_of [] ∷ [] ≡ 5 ∷ 0 ∷ []
ends_of_parts = refl

-- a part may begin where the one before it ends, and not before
one_after_another : AreApart (first ∷ second ∷ [])
one_after_another zero zero d less few = absurd (omega (arith, less))
one_after_another zero (suc zero) d less few = omega arith
one_after_another zero (suc (suc j)) d less few = absurd (omega (arith, few))
one_after_another (suc i) zero d less few = absurd (omega (arith, less))
one_after_another (suc i) (suc zero) d less few = absurd (omega (arith, less))
one_after_another (suc i) (suc (suc j)) d less few = absurd (omega (arith, few))

overlapping : AreApart (first ∷ record second { start = 1 } ∷ []) → ⊥
overlapping apart =
    let ends : 2 ≤ 1 = apart 0 1 first (omega arith) (omega arith) in omega (arith, ends)

-- a part has no more steps than are allowed, and none past the end of the block
too_many_steps : IsPart constants block 2 second → ⊥
too_many_steps is = let few : 5 ≤ 4 = is.few in omega (arith, few)

past_the_block : IsPart constants block 9 (record second { end = 6 }) → ⊥
past_the_block is = let within : 6 ≤ 5 = is.within in omega (arith, within)

each_has_few_steps : AreParts constants block 2 (first ∷ second ∷ []) → ⊥
each_has_few_steps are = too_many_steps (are.each 1 first (omega arith))

-- a place past the end has a coordinate for a step
step_past_the_end : step_at [] 0 ≡ record { op = X; a = 0; b = 0; value = pos 0 }
step_past_the_end = refl

-- in the lanes 0 to 3 of a row: of two choices the left one, each alone, and none
lanes_of_a_row : choice_in (record { left = 3; right = 5 }) 0 ∷ choice_in (record { left = 3; right = 5 }) 1
    ∷ choice_in (record { left = 3; right = 5 }) 2 ∷ choice_in (record { left = 3; right = 5 }) 3 ∷ [] ≡
    Left ∷ Left ∷ Right ∷ Both ∷ []
lanes_of_a_row = refl
