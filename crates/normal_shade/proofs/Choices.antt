-- The operand that an operation chooses has the result's slopes.
use Rattle.std.proofs.Common.{◌≡◌, ◌∙◌, ℕ, ℤ, true, false, Some, List, ap, arith, refl, slice_get, sym}
use Rattle.std.specs.Prelude.{int_le}
use Rattle.std.specs.Int.{int_max, int_min}
use Rattle.std.proofs.lemmas.Int.{ints, clamps}
use Rattle.std.proofs.lemmas.List.{get_or-map}
use Rattle.std.proofs.lemmas.Option.{get_or_from_slice_get, slice_get_within}
use Rattle.fixed_ops.specs.Points.{Point}
use Rattle.fixed_ops.specs.Slopes.{Sloped, slope_result, step_sloped}
use Rattle.fixed_ops.specs.declared.operation.Op.{Op}
use Rattle.fixed_ops.specs.declared.operation.Op.TheVariants.{Min, Max}
use Rattle.interval_laws.specs.Laws.{ChosenWins, Wins}
use Rattle.interval_ops.specs.Choices.{choice_of}
use Rattle.interval_ops.specs.Spans.{Interval}
use Rattle.interval_ops.specs.declared.choice.Choice.{Choice}
use Rattle.interval_ops.specs.declared.choice.Choice.TheVariants.{Left, Right, Both}
use Rattle.interval_ops.specs.declared.region.Region.{Region}
use Rattle.live_clauses.specs.Choices.{choice_at}
use Rattle.live_clauses.specs.Laws.{ChoicesKeepTheMeaning, MeaningsAreOfOperands, SlopesAreOfOperands, SlopesStandByValues}
use Rattle.live_clauses.specs.Meanings.{MeanTheirChoices, meaning_at, sloped_at}
use Rattle.live_clauses.specs.Steps.{AreSteps}
use Rattle.live_clauses.specs.declared.step.Step.{Step}
use Rattle.choice_trace.specs.Hulls.{IsIn, choice_over, choices_over}
use Rattle.choice_trace.specs.Laws.{AreRanges}
use Rattle.choice_trace.specs.PointLaws.{ChoicesAreOfSteps, ChosenOperandsWin}
use Rattle.normal_shade.specs.Laws.{SlopeIsTaken, SlopesAreKept}

-- where the left operand wins, its slope is the result's
left_slope : (op : Op) (choice : Choice) (u v r du dv : ℤ) → Wins op choice u v → choice ≡ Left
    → slope_result op u v r du dv ≡ du
left_slope Min Left u v r du dv wins is = let least : int_le u v ≡ true = grind (arith, ints) in rw least refl
left_slope Max Left u v r du dv wins is = let greatest : int_le v u ≡ true = grind (arith, ints) in rw greatest refl
left_slope op Left u v r du dv wins is = absurd wins
left_slope op Right u v r du dv wins is = (cc)
left_slope op Both u v r du dv wins is = (cc)

-- and where the right one wins, its
right_slope : (op : Op) (choice : Choice) (u v r du dv : ℤ) → Wins op choice u v → choice ≡ Right
    → slope_result op u v r du dv ≡ dv
right_slope Min Right u v r du dv wins is = let greater : int_le u v ≡ false = grind (arith, ints) in rw greater refl
right_slope Max Right u v r du dv wins is = let less : int_le v u ≡ false = grind (arith, ints) in rw less refl
right_slope op Right u v r du dv wins is = absurd wins
right_slope op Left u v r du dv wins is = (cc)
right_slope op Both u v r du dv wins is = (cc)

pub slope_is_taken : (op : Op) (a b : Interval) (u v : ℤ) → ChosenWins op a b u v → SlopeIsTaken op a b u v
slope_is_taken op a b u v wins = record {
  left = λ is in_a in_b r du dv. left_slope op (choice_of op a b) u v r du dv (wins in_a in_b) is;
  right = λ is in_a in_b r du dv. right_slope op (choice_of op a b) u v r du dv (wins in_a in_b) is;
}

-- where the left operand wins, the result with its slopes is that operand
left_sloped : (op : Op) (p : Point) (constant : ℤ) (choice : Choice) (a b : Sloped) → Wins op choice a.value b.value → choice ≡ Left
    → step_sloped op p constant a b ≡ a
left_sloped Min p constant Left a b wins is =
    let least : int_le a.value b.value ≡ true = grind (arith, ints) in
    let value : int_min a.value b.value ≡ a.value = omega (arith, ints, clamps) in
    rw (value, least) refl
left_sloped Max p constant Left a b wins is =
    let greatest : int_le b.value a.value ≡ true = grind (arith, ints) in
    let value : int_max a.value b.value ≡ a.value = omega (arith, ints, clamps) in
    rw (value, greatest) refl
left_sloped op p constant Left a b wins is = absurd wins
left_sloped op p constant Right a b wins is = (cc)
left_sloped op p constant Both a b wins is = (cc)

-- and where the right one wins, it is that one
right_sloped : (op : Op) (p : Point) (constant : ℤ) (choice : Choice) (a b : Sloped) → Wins op choice a.value b.value → choice ≡ Right
    → step_sloped op p constant a b ≡ b
right_sloped Min p constant Right a b wins is =
    let greater : int_le a.value b.value ≡ false = grind (arith, ints) in
    let value : int_min a.value b.value ≡ b.value = omega (arith, ints, clamps) in
    rw (value, greater) refl
right_sloped Max p constant Right a b wins is =
    let less : int_le b.value a.value ≡ false = grind (arith, ints) in
    let value : int_max a.value b.value ≡ b.value = omega (arith, ints, clamps) in
    rw (value, less) refl
right_sloped op p constant Right a b wins is = absurd wins
right_sloped op p constant Left a b wins is = (cc)
right_sloped op p constant Both a b wins is = (cc)

-- the choice of the step at a place
choice_there : (region : Region) (steps : List Step) (place : ℕ) (step : Step) → slice_get steps place ≡ Some step
    → choice_at (choices_over region steps) place ≡ choice_over region steps step
choice_there region steps place step is =
    get_or-map (choice_over region steps) steps place step Both (slice_get_within steps place step is)
    ∙ ap (λ (s : Step). choice_over region steps s) (get_or_from_slice_get steps place step step is)

module _ (reads : SlopesAreOfOperands) (values : SlopesStandByValues) (of_operands : MeaningsAreOfOperands Sloped) (wins : ChosenOperandsWin) where
  -- the operand that a step chooses wins by the values of the operands' meanings
  step_wins : (region : Region) (p : Point) (steps : List Step) → AreRanges region → IsIn region p → AreSteps steps
      → (place : ℕ) (step : Step) → slice_get steps place ≡ Some step
      → Wins step.op (choice_over region steps step) (meaning_at (sloped_at p) steps step.a).value (meaning_at (sloped_at p) steps step.b).value
  step_wins region p steps ranges inside stand place step is =
      rw (values p steps step.a, values p steps step.b) (wins region p steps ranges inside stand place step is)

  mean_their_choices : (region : Region) (p : Point) (steps : List Step) → AreRanges region → IsIn region p → AreSteps steps
      → MeanTheirChoices (sloped_at p) steps (choices_over region steps)
  mean_their_choices region p steps ranges inside stand = record {
    left = λ place step is chosen.
        of_operands (sloped_at p) steps (reads p) stand place step is
        ∙ left_sloped step.op p step.value (choice_over region steps step) (meaning_at (sloped_at p) steps step.a) (meaning_at (sloped_at p) steps step.b)
        (step_wins region p steps ranges inside stand place step is) (sym (choice_there region steps place step is) ∙ chosen);
    right = λ place step is chosen.
        of_operands (sloped_at p) steps (reads p) stand place step is
        ∙ right_sloped step.op p step.value (choice_over region steps step) (meaning_at (sloped_at p) steps step.a) (meaning_at (sloped_at p) steps step.b)
        (step_wins region p steps ranges inside stand place step is) (sym (choice_there region steps place step is) ∙ chosen);
  }

  pub slopes_are_kept : ChoicesKeepTheMeaning Sloped → ChoicesAreOfSteps → SlopesAreKept
  slopes_are_kept keep choices region p steps ranges inside tape =
      keep (sloped_at p) steps (choices_over region steps) (reads p) tape (choices region steps)
      (mean_their_choices region p steps ranges inside tape.each)
