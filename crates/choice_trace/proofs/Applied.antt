-- What the operands of a step stand for, and what they make over a region.
use Rattle.std.proofs.Common.{◌≡◌, ℕ, ◌<◌, ℤ, pos, List, length, get_or, refl, sym, ap, subst, ◌∙◌, arith}
use Rattle.std.proofs.lemmas.List.{get_or_default}
use Rattle.fixed_ops.specs.Arity.{arity_of}
use Rattle.fixed_ops.specs.Operations.{op_result}
use Rattle.fixed_ops.specs.Points.{Point, step_value}
use Rattle.fixed_ops.specs.declared.operation.Op.{Op}
use Rattle.fixed_ops.specs.declared.operation.Op.TheVariants.{X, Y, Z, Const, Neg, Square, Sqrt, Abs, Floor, Add, Sub, Mul, Div, Min, Max}
use Rattle.interval_ops.specs.Choices.{choice_of}
use Rattle.interval_ops.specs.Hulls.{between, hull_of}
use Rattle.interval_ops.specs.Spans.{Interval, all_numbers}
use Rattle.interval_ops.specs.declared.region.Region.{Region}
use Rattle.live_clauses.specs.Steps.{IsStepAt, value_after}
use Rattle.live_clauses.specs.declared.step.Step.{Step}
use Rattle.choice_trace.specs.Hulls.{hull_after, hull_in, step_hull}
use Rattle.choice_trace.specs.Meaning.{StandForPoint}
use Rattle.choice_trace.specs.Operands.{operand_of}
use Rattle.choice_trace.specs.declared.inputs.Inputs.{Inputs}
use Rattle.choice_trace.proofs.Elements.{AreRead, StandForOperands}

-- two spans that give the hull and the choice of a step after these hulls of earlier steps
pub record AreOperands
    (region : Region) (earlier : List Interval) (step : Step) (a b : Interval) : Type 0 where
  pub hull : hull_of step.op a b ≡ hull_after region earlier step
  pub choice : choice_of step.op a b
      ≡ choice_of step.op (hull_in earlier step.a) (hull_in earlier step.b)

-- the operands stand for those of the step's value
pub operands-stand : {D : Type 0} (stands_for : D → ℤ → Type 0) (inputs : Inputs D) (constant : D) (regs : List D) (p : Point) (values : List ℤ) (at : ℕ) (step : Step) (a b : D)
    → IsStepAt at step → stands_for constant step.value → StandForPoint stands_for inputs p → AreRead stands_for inputs.x regs values at
    → a ≡ operand_of step.op inputs constant (get_or regs step.a inputs.x) → b ≡ operand_of step.op inputs constant (get_or regs step.b inputs.x)
    → StandForOperands stands_for step.op a b (value_after p values step)
operands-stand {D} stands_for inputs constant regs p values at step a b stands here point' read is_a is_b = by step.op refl
  where
    first : (op : Op) → step.op ≡ op → a ≡ operand_of op inputs constant (get_or regs step.a inputs.x)
    first op e = is_a ∙ ap (λ o. operand_of o inputs constant (get_or regs step.a inputs.x)) e

    second : (op : Op) → step.op ≡ op → b ≡ operand_of op inputs constant (get_or regs step.b inputs.x)
    second op e = is_b ∙ ap (λ o. operand_of o inputs constant (get_or regs step.b inputs.x)) e

    twice : (op : Op) (x : D) (n v : ℤ) → stands_for x n → a ≡ x → b ≡ x → op_result op n n ≡ v → StandForOperands stands_for op a b v
    twice op x n v stand ea eb e = record { left = n; right = n; for_a = subst (λ d. stands_for d n) (sym ea) stand; for_b = subst (λ d. stands_for d n) (sym eb) stand; is = e }

    earlier : (op : Op) → a ≡ get_or regs step.a inputs.x → b ≡ get_or regs step.b inputs.x → step.a < at → step.b < at
        → StandForOperands stands_for op a b (op_result op (get_or values step.a (pos 0)) (get_or values step.b (pos 0)))
    earlier op ea eb below_a below_b = record {
      left = get_or values step.a (pos 0);
      right = get_or values step.b (pos 0);
      for_a = subst (λ d. stands_for d (get_or values step.a (pos 0))) (sym ea) (read step.a below_a);
      for_b = subst (λ d. stands_for d (get_or values step.b (pos 0))) (sym eb) (read step.b below_b);
      is = refl;
    }

    unary : (op : Op) → step.op ≡ op → arity_of op ≡ 1 → a ≡ get_or regs step.a inputs.x → b ≡ get_or regs step.b inputs.x
        → StandForOperands stands_for op a b (op_result op (get_or values step.a (pos 0)) (get_or values step.b (pos 0)))
    unary op e one ea eb =
        let arity : arity_of step.op ≡ 1 = ap arity_of e ∙ one in
        let below : step.a < at = stands.fits.first (omega (arith, arity)) in
        earlier op ea eb below (omega (arith, below, stands.fits.no_second (omega (arith, arity))))

    binary : (op : Op) → step.op ≡ op → arity_of op ≡ 2 → a ≡ get_or regs step.a inputs.x → b ≡ get_or regs step.b inputs.x
        → StandForOperands stands_for op a b (op_result op (get_or values step.a (pos 0)) (get_or values step.b (pos 0)))
    binary op e two ea eb =
        let arity : arity_of step.op ≡ 2 = ap arity_of e ∙ two in
        earlier op ea eb (stands.fits.first (omega (arith, arity))) (stands.fits.second (omega (arith, arity)))

    by : (op : Op) → step.op ≡ op → StandForOperands stands_for op a b (step_value op p step.value (get_or values step.a (pos 0)) (get_or values step.b (pos 0)))
    by X e = twice X inputs.x p.x p.x point'.x (first X e) (second X e) refl
    by Y e = twice Y inputs.y p.y p.y point'.y (first Y e) (second Y e) refl
    by Z e = twice Z inputs.z p.z p.z point'.z (first Z e) (second Z e) refl
    by Const e = twice Const constant step.value step.value here (first Const e) (second Const e) refl
    by Neg e = unary Neg e refl (first Neg e) (second Neg e)
    by Square e = unary Square e refl (first Square e) (second Square e)
    by Sqrt e = unary Sqrt e refl (first Sqrt e) (second Sqrt e)
    by Abs e = unary Abs e refl (first Abs e) (second Abs e)
    by Floor e = unary Floor e refl (first Floor e) (second Floor e)
    by Add e = binary Add e refl (first Add e) (second Add e)
    by Sub e = binary Sub e refl (first Sub e) (second Sub e)
    by Mul e = binary Mul e refl (first Mul e) (second Mul e)
    by Div e = binary Div e refl (first Div e) (second Div e)
    by Min e = binary Min e refl (first Min e) (second Min e)
    by Max e = binary Max e refl (first Max e) (second Max e)

-- the ranges of a region, as what a list is evaluated at
abbrev pub ranges_of : Region → Inputs Interval
ranges_of region = record { x = region.x; y = region.y; z = region.z }

-- the operands give the hull and the choice of a step over a region
pub operands-trace : (region : Region) (regs : List Interval) (step : Step) (a b : Interval) → step.a < length regs → step.b < length regs
    → a ≡ operand_of step.op (ranges_of region) (between step.value step.value) (get_or regs step.a region.x)
    → b ≡ operand_of step.op (ranges_of region) (between step.value step.value) (get_or regs step.b region.x) → AreOperands region regs step a b
operands-trace region regs step a b within_a within_b is_a is_b = record { hull = by step.op refl; choice = chosen step.op refl }
  where
    constant : Interval
    constant = between step.value step.value

    first : (op : Op) → step.op ≡ op → a ≡ operand_of op (ranges_of region) constant (hull_in regs step.a)
    first op e =
        is_a ∙ ap (λ s. operand_of step.op (ranges_of region) constant s) (get_or_default regs step.a region.x all_numbers within_a)
        ∙ ap (λ o. operand_of o (ranges_of region) constant (hull_in regs step.a)) e

    second : (op : Op) → step.op ≡ op → b ≡ operand_of op (ranges_of region) constant (hull_in regs step.b)
    second op e =
        is_b ∙ ap (λ s. operand_of step.op (ranges_of region) constant s) (get_or_default regs step.b region.x all_numbers within_b)
        ∙ ap (λ o. operand_of o (ranges_of region) constant (hull_in regs step.b)) e

    both : (op : Op) → a ≡ hull_in regs step.a → b ≡ hull_in regs step.b → hull_of op a b ≡ hull_of op (hull_in regs step.a) (hull_in regs step.b)
    both op ea eb = ap (λ s. hull_of op s b) ea ∙ ap (hull_of op (hull_in regs step.a)) eb

    same : (op : Op) → a ≡ hull_in regs step.a → b ≡ hull_in regs step.b → choice_of op a b ≡ choice_of op (hull_in regs step.a) (hull_in regs step.b)
    same op ea eb = ap (λ s. choice_of op s b) ea ∙ ap (choice_of op (hull_in regs step.a)) eb

    by : (op : Op) → step.op ≡ op → hull_of op a b ≡ step_hull op region step.value (hull_in regs step.a) (hull_in regs step.b)
    by X e = first X e
    by Y e = first Y e
    by Z e = first Z e
    by Const e = first Const e
    by Neg e = both Neg (first Neg e) (second Neg e)
    by Square e = both Square (first Square e) (second Square e)
    by Sqrt e = both Sqrt (first Sqrt e) (second Sqrt e)
    by Abs e = both Abs (first Abs e) (second Abs e)
    by Floor e = both Floor (first Floor e) (second Floor e)
    by Add e = both Add (first Add e) (second Add e)
    by Sub e = both Sub (first Sub e) (second Sub e)
    by Mul e = both Mul (first Mul e) (second Mul e)
    by Div e = both Div (first Div e) (second Div e)
    by Min e = both Min (first Min e) (second Min e)
    by Max e = both Max (first Max e) (second Max e)

    chosen : (op : Op) → step.op ≡ op → choice_of op a b ≡ choice_of op (hull_in regs step.a) (hull_in regs step.b)
    chosen Min e = same Min (first Min e) (second Min e)
    chosen Max e = same Max (first Max e) (second Max e)
    chosen op e = refl
