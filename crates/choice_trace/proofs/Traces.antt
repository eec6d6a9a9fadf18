-- One more step is traced, and what is so of the whole list then.
use Rattle.std.proofs.Common.{◌≡◌, ◌≢◌, ℕ, zero, suc, ◌+◌, ◌-◌, ◌<◌, ℤ, pos, List, [], ◌∷◌, ◌++◌, length, get_or, set, take, Some, slice_get, refl, ap, sym, subst, ◌∙◌, arith}
use Rattle.std.proofs.lemmas.Int.{ints}
use Rattle.std.proofs.lemmas.List.{get_or-map, get_or-take, length-map, take_all, take_more, take_more_set}
use Rattle.std.proofs.lemmas.Option.{get_or_from_slice_get, slice_get-get_or, slice_get_within}
use Rattle.fixed_ops.specs.Arity.{arity_of}
use Rattle.fixed_ops.specs.Operations.{op_result}
use Rattle.fixed_ops.specs.Points.{Point, step_value}
use Rattle.fixed_ops.specs.Raw.{IsRaw}
use Rattle.fixed_ops.specs.declared.operation.Op.{Op}
use Rattle.fixed_ops.specs.declared.operation.Op.TheVariants.{X, Y, Z, Const, Add, Sub, Mul, Div, Min, Max}
use Rattle.interval_laws.specs.Laws.{Wins}
use Rattle.interval_ops.specs.Choices.{choice_of}
use Rattle.interval_ops.specs.Hulls.{hull_of}
use Rattle.interval_ops.specs.Spans.{Holds, Interval, IsSpan, all_numbers}
use Rattle.interval_ops.specs.declared.choice.Choice.{Choice}
use Rattle.interval_ops.specs.declared.choice.Choice.TheVariants.{Left, Right, Both}
use Rattle.interval_ops.specs.declared.region.Region.{Region}
use Rattle.live_clauses.specs.Choices.{AreChoices, AreRight, choice_at}
use Rattle.live_clauses.specs.Steps.{AreSteps, value_at}
use Rattle.live_clauses.specs.declared.step.Step.{Step}
use Rattle.choice_trace.specs.Hulls.{IsIn, choice_over, choices_over, hull_after, hull_at, hulls, step_hull}
use Rattle.choice_trace.specs.Laws.{AreRanges}
use Rattle.choice_trace.specs.PointLaws.{ChoicesAreOfSteps, ChoicesAreRight, ChosenOperandsWin, EachValueIsHeld, ValuesAreHeld}
use Rattle.interval_ops.proofs.HullLaws.{IsSpan-hull, hull_of_is_hull}
use Rattle.interval_laws.proofs.LawProofs.{choice_keeps, chosen_wins, included}
use Rattle.choice_trace.proofs.HullLists.{choice_of-same, hull_after-same, hull_at-step}
use Rattle.choice_trace.proofs.Applied.{AreOperands}
use Rattle.live_clauses.proofs.Theorems.{values_are_of_operands}

-- lists with one front agree there
pub agree : {A : Type 0} (xs ys : List A) (n k : ℕ) (d : A) → take n xs ≡ take n ys → k < n → get_or xs k d ≡ get_or ys k d
agree xs ys n k d same h = sym (get_or-take n xs k d h) ∙ ap (λ l. get_or l k d) same ∙ get_or-take n ys k d h

-- a front of a list grows by the element that is written
pub front_more : {A : Type 0} (xs ys : List A) (n : ℕ) (new d : A) → n < length xs → n < length ys → take n xs ≡ take n ys → new ≡ get_or ys n d
    → take (n + 1) (set xs n new) ≡ take (n + 1) ys
front_more xs ys n new d room within same is =
    take_more_set xs n new room ∙ ap (λ l. l ++ new ∷ []) same ∙ ap (λ x. take n ys ++ x ∷ []) is ∙ sym (take_more ys n d within)

-- the hull that is written is the list's
pub hull_written : (region : Region) (steps : List Step) (regs : List Interval) (at : ℕ) (step : Step) (a b new : Interval)
    → AreSteps steps → slice_get steps at ≡ Some step → take at regs ≡ take at (hulls region steps)
    → AreOperands region regs step a b → new ≡ hull_of step.op a b → new ≡ hull_at region steps at
hull_written region steps regs at step a b new stand is same operands made =
    made ∙ operands.hull
    ∙ hull_after-same region regs (hulls region steps) at step (stand at step is) (λ k h. agree regs (hulls region steps) at k all_numbers same h)
    ∙ sym (hull_at-step region steps at step stand is)

-- the choice of the step at a place
pub choice_there : (region : Region) (steps : List Step) (at : ℕ) (step : Step) → slice_get steps at ≡ Some step
    → get_or (choices_over region steps) at Both ≡ choice_over region steps step
choice_there region steps at step is =
    get_or-map (choice_over region steps) steps at step Both (slice_get_within steps at step is)
    ∙ ap (λ (s : Step). choice_over region steps s) (get_or_from_slice_get steps at step step is)

-- the choice that is written is the step's
pub choice_written : (region : Region) (steps : List Step) (regs : List Interval) (at : ℕ) (step : Step) (a b : Interval) (new : Choice)
    → AreSteps steps → slice_get steps at ≡ Some step → take at regs ≡ take at (hulls region steps)
    → AreOperands region regs step a b → new ≡ choice_of step.op a b → new ≡ get_or (choices_over region steps) at Both
choice_written region steps regs at step a b new stand is same operands made =
    let stands = stand at step is in
    made ∙ operands.choice
    ∙ choice_of-same step.op (get_or regs step.a all_numbers) (get_or regs step.b all_numbers) (hull_at region steps step.a) (hull_at region steps step.b)
    (λ h. agree regs (hulls region steps) at step.a all_numbers same (stands.fits.first h))
    (λ h. agree regs (hulls region steps) at step.b all_numbers same (stands.fits.second h))
    ∙ sym (choice_there region steps at step is)

-- a span that holds a number
abbrev pub SpansOver : Interval → ℤ → Type 0
SpansOver s v = IsSpan s × Holds s v

-- an operation that is neither a minimum nor a maximum chooses no operand
chooses_none : (op : Op) (a b : Interval) → op ≢ Min → op ≢ Max → choice_of op a b ≡ Both
chooses_none Min a b least greatest = absurd (least refl)
chooses_none Max a b least greatest = absurd (greatest refl)
chooses_none op a b least greatest = refl

-- the choices that were written
pub choice_read : (region : Region) (steps : List Step) (choices : List Choice) (place : ℕ) (step : Step)
    → take (length steps) choices ≡ choices_over region steps → slice_get steps place ≡ Some step → choice_at choices place ≡ choice_over region steps step
choice_read region steps choices place step same is =
    sym (get_or-take (length steps) choices place Both (slice_get_within steps place step is)) ∙ ap (λ l. get_or l place Both) same ∙ choice_there region steps place step is

pub are_choices : (region : Region) (steps : List Step) (choices : List Choice) → take (length steps) choices ≡ choices_over region steps → AreChoices steps choices
are_choices region steps choices same place step is least greatest =
    choice_read region steps choices place step same is ∙ chooses_none step.op (hull_at region steps step.a) (hull_at region steps step.b) least greatest

-- there are as many choices as steps
pub length-choices : (region : Region) (steps : List Step) → length (choices_over region steps) ≡ length steps
length-choices region steps = length-map steps (choice_over region steps)

-- all choices have been written
pub all_chosen : (region : Region) (steps : List Step) (choices : List Choice) (n : ℕ) → n ≡ length steps → take n choices ≡ take n (choices_over region steps)
    → take (length steps) choices ≡ choices_over region steps
all_chosen region steps choices n e same =
    ap (λ k. take k choices) (sym e) ∙ same ∙ take_all n (choices_over region steps) (omega (arith, e, length-choices region steps))

-- a hull holds the result on what its spans hold
applied : (op : Op) (a b : Interval) (u v : ℤ) → SpansOver a u → SpansOver b v → SpansOver (hull_of op a b) (op_result op u v)
applied op a b u v h k =
    let hull = hull_of_is_hull op a b h.0 k.0 in
    (IsSpan-hull op a b (hull_of op a b) h.0 k.0 hull, included op a b u v h.0 k.0 (hull_of op a b) hull h.1 k.1)

-- the hull of a step holds its value
step_over : (op : Op) (region : Region) (p : Point) (value : ℤ) (a b : Interval) (u v : ℤ) → AreRanges region → IsIn region p → IsRaw value
    → (0 < arity_of op → SpansOver a u) → (1 < arity_of op → SpansOver b v) → SpansOver (step_hull op region value a b) (step_value op p value u v)
step_over X region p value a b u v ranges inside raw first second = (ranges.x, inside.x)
step_over Y region p value a b u v ranges inside raw first second = (ranges.y, inside.y)
step_over Z region p value a b u v ranges inside raw first second = (ranges.z, inside.z)
step_over Const region p value a b u v ranges inside raw first second =
    (record { lo = raw; hi = raw; order = omega (arith, ints) }, (omega (arith, ints), omega (arith, ints)))
step_over Add region p value a b u v ranges inside raw first second = applied Add a b u v (first (omega arith)) (second (omega arith))
step_over Sub region p value a b u v ranges inside raw first second = applied Sub a b u v (first (omega arith)) (second (omega arith))
step_over Mul region p value a b u v ranges inside raw first second = applied Mul a b u v (first (omega arith)) (second (omega arith))
step_over Div region p value a b u v ranges inside raw first second = applied Div a b u v (first (omega arith)) (second (omega arith))
step_over Min region p value a b u v ranges inside raw first second = applied Min a b u v (first (omega arith)) (second (omega arith))
step_over Max region p value a b u v ranges inside raw first second = applied Max a b u v (first (omega arith)) (second (omega arith))
step_over op region p value a b u v ranges inside raw first second = applied op a a u u (first (omega arith)) (first (omega arith))

-- each hull of a list holds the value of its step at each point of the region
pub held : (region : Region) (p : Point) (steps : List Step) → AreRanges region → IsIn region p → AreSteps steps
    → (n place : ℕ) → place < n → (step : Step) → slice_get steps place ≡ Some step → SpansOver (hull_at region steps place) (value_at p steps place)
held region p steps ranges inside stand zero place h step is = absurd (omega (arith, h))
held region p steps ranges inside stand (suc n) place h step is =
    let stands = stand place step is in
    let within = slice_get_within steps place step is in
    let operand : (k : ℕ) → k < place → SpansOver (hull_at region steps k) (value_at p steps k) =
    λ k lt. held region p steps ranges inside stand n k (omega (arith, lt, h)) (get_or steps k step) (slice_get-get_or steps k step (omega (arith, lt, within))) in
    subst (λ (s : Interval). SpansOver s (value_at p steps place)) (sym (hull_at-step region steps place step stand is))
    (subst (λ (v : ℤ). SpansOver (hull_after region (hulls region steps) step) v) (sym (values_are_of_operands p steps stand place step is))
    (step_over step.op region p step.value (hull_at region steps step.a) (hull_at region steps step.b) (value_at p steps step.a) (value_at p steps step.b) ranges inside stands.raw
    (λ e. operand step.a (stands.fits.first e)) (λ e. operand step.b (stands.fits.second e))))

-- and so does the list's
pub last_held : ValuesAreHeld
last_held region p steps ranges inside tape =
    let last = length steps - 1 in
    let default : Step = record { op = X; a = 0; b = 0; value = pos 0 } in
    (held region p steps ranges inside tape.each (last + 1) last (omega arith) (get_or steps last default) (slice_get-get_or steps last default (omega (arith, tape.some)))).1

-- the hull of each step holds its value
pub each_held : EachValueIsHeld
each_held region p steps ranges inside stand place within =
    let default : Step = record { op = X; a = 0; b = 0; value = pos 0 } in
    (held region p steps ranges inside stand (suc place) place (omega arith) (get_or steps place default) (slice_get-get_or steps place default within)).1

-- the operand that an operation chooses wins, where each operand that it has lies in its span
operand_wins : (op : Op) (a b : Interval) (u v : ℤ) → (0 < arity_of op → Holds a u) → (1 < arity_of op → Holds b v) → Wins op (choice_of op a b) u v
operand_wins Min a b u v first second = chosen_wins Min a b u v (first (omega arith)) (second (omega arith))
operand_wins Max a b u v first second = chosen_wins Max a b u v (first (omega arith)) (second (omega arith))
operand_wins op a b u v first second = tt

-- each operand that a step has lies in its hull
operands_held : (region : Region) (p : Point) (steps : List Step) → AreRanges region → IsIn region p → AreSteps steps
    → (place : ℕ) (step : Step) → slice_get steps place ≡ Some step
    → (0 < arity_of step.op → Holds (hull_at region steps step.a) (value_at p steps step.a)) × (1 < arity_of step.op → Holds (hull_at region steps step.b) (value_at p steps step.b))
operands_held region p steps ranges inside stand place step is =
    let fits = (stand place step is).fits in
    let within = slice_get_within steps place step is in (
      λ has. let before = fits.first has in each_held region p steps ranges inside stand step.a (omega (arith, before, within)),
      λ has. let before = fits.second has in each_held region p steps ranges inside stand step.b (omega (arith, before, within)),
    )

pub operands_win : ChosenOperandsWin
operands_win region p steps ranges inside stand place step is =
    let held = operands_held region p steps ranges inside stand place step is in
    operand_wins step.op (hull_at region steps step.a) (hull_at region steps step.b) (value_at p steps step.a) (value_at p steps step.b) held.0 held.1

-- where an operation chooses its left operand, it has that operand's value
chosen_left : (op : Op) (p : Point) (value : ℤ) (a b : Interval) (u v : ℤ) → choice_of op a b ≡ Left → (0 < arity_of op → Holds a u) → (1 < arity_of op → Holds b v)
    → step_value op p value u v ≡ u
chosen_left Min p value a b u v e first second = (choice_keeps Min a b u v).left e (first (omega arith)) (second (omega arith))
chosen_left Max p value a b u v e first second = (choice_keeps Max a b u v).left e (first (omega arith)) (second (omega arith))
chosen_left op p value a b u v e first second = (cc)

-- and where it chooses its right one, that one's
chosen_right : (op : Op) (p : Point) (value : ℤ) (a b : Interval) (u v : ℤ) → choice_of op a b ≡ Right → (0 < arity_of op → Holds a u) → (1 < arity_of op → Holds b v)
    → step_value op p value u v ≡ v
chosen_right Min p value a b u v e first second = (choice_keeps Min a b u v).right e (first (omega arith)) (second (omega arith))
chosen_right Max p value a b u v e first second = (choice_keeps Max a b u v).right e (first (omega arith)) (second (omega arith))
chosen_right op p value a b u v e first second = (cc)

-- the choices that were written are right at each point of the region
pub are_right : (region : Region) (steps : List Step) (choices : List Choice) (p : Point) → AreRanges region → AreSteps steps
    → take (length steps) choices ≡ choices_over region steps → IsIn region p → AreRight p steps choices
are_right region steps choices p ranges stand same inside = record {
  left = λ place step is e.
      let held = operands_held region p steps ranges inside stand place step is in
      values_are_of_operands p steps stand place step is
      ∙ chosen_left step.op p step.value (hull_at region steps step.a) (hull_at region steps step.b) (value_at p steps step.a) (value_at p steps step.b)
      (sym (choice_read region steps choices place step same is) ∙ e) held.0 held.1;
  right = λ place step is e.
      let held = operands_held region p steps ranges inside stand place step is in
      values_are_of_operands p steps stand place step is
      ∙ chosen_right step.op p step.value (hull_at region steps step.a) (hull_at region steps step.b) (value_at p steps step.a) (value_at p steps step.b)
      (sym (choice_read region steps choices place step same is) ∙ e) held.0 held.1;
}

-- so the choices of a list over a region are those of its steps, and right
all_choices : (region : Region) (steps : List Step) → take (length steps) (choices_over region steps) ≡ choices_over region steps
all_choices region steps = take_all (length steps) (choices_over region steps) (omega (arith, length-choices region steps))

pub choices_are_of_steps : ChoicesAreOfSteps
choices_are_of_steps region steps = are_choices region steps (choices_over region steps) (all_choices region steps)

pub choices_are_right : ChoicesAreRight
choices_are_right region p steps ranges inside tape =
    are_right region steps (choices_over region steps) p ranges tape.each (all_choices region steps) inside
