-- Values with their slopes are a meaning of steps. Their values are those of the list, and a root list has the
-- slopes of its clauses.
use Rattle.std.proofs.Common.{◌≡◌, ◌≤◌, ℕ, zero, suc, ℤ, pos, List, [], ◌∷◌, ◌++◌, map, get_or, fold, refl, ap, ◌∙◌, arith}
use Rattle.std.proofs.lemmas.List.{length-map, map-append}
use Rattle.fixed_ops.specs.declared.operation.Op.{Op}
use Rattle.fixed_ops.specs.declared.operation.Op.TheVariants.{X, Y, Z, Const, Add, Sub, Mul, Div, Min, Max}
use Rattle.fixed_ops.specs.Arity.{arity_of}
use Rattle.fixed_ops.specs.Points.{Point, step_value}
use Rattle.fixed_ops.specs.Slopes.{Sloped, flat, step_sloped}
use Rattle.solid_model.specs.declared.clause.Clause.{Clause}
use Rattle.solid_model.specs.Slopes.{clause_sloped, solid_sloped}
use Rattle.live_clauses.specs.declared.step.Step.{Step}
use Rattle.live_clauses.specs.Laws.{RootHasTheSlopes, SlopesStandByValues}
use Rattle.live_clauses.specs.Meanings.{ReadsItsOperands, meaning_after, meanings, sloped_at, tape_meaning}
use Rattle.live_clauses.specs.Steps.{step_of, steps_of, value_after}
use Rattle.live_clauses.proofs.RootLaws.{root_of-meaning}

-- what has no operand reads none
no_first : (p : Point) (op : Op) (constant : ℤ) (a b other : Sloped) → arity_of op ≡ 0
    → step_sloped op p constant a b ≡ step_sloped op p constant other b
no_first p X constant a b other none = refl
no_first p Y constant a b other none = refl
no_first p Z constant a b other none = refl
no_first p Const constant a b other none = refl
no_first p op constant a b other none = absurd (omega (arith, none))

-- and what has at most one reads no second one
no_second : (p : Point) (op : Op) (constant : ℤ) (a b other : Sloped) → arity_of op ≤ 1
    → step_sloped op p constant a b ≡ step_sloped op p constant a other
no_second p Add constant a b other few = absurd (omega (arith, few))
no_second p Sub constant a b other few = absurd (omega (arith, few))
no_second p Mul constant a b other few = absurd (omega (arith, few))
no_second p Div constant a b other few = absurd (omega (arith, few))
no_second p Min constant a b other few = absurd (omega (arith, few))
no_second p Max constant a b other few = absurd (omega (arith, few))
no_second p op constant a b other few = refl

-- an operation reads only the operands that it has
pub sloped_at-reads : (p : Point) → ReadsItsOperands (sloped_at p)
sloped_at-reads p = record { no_first = no_first p; no_second = no_second p }

-- the value that an operation gives with its slopes
value-step : (op : Op) (p : Point) (constant : ℤ) (a b : Sloped)
    → (step_sloped op p constant a b).value ≡ step_value op p constant a.value b.value
value-step X p constant a b = refl
value-step Y p constant a b = refl
value-step Z p constant a b = refl
value-step op p constant a b = refl

-- the values of a list of values with their slopes
abbrev values_of : List Sloped → List ℤ
values_of all = map (λ (s : Sloped). s.value) all

value-get_or : (all : List Sloped) (k : ℕ) → (get_or all k flat).value ≡ get_or (values_of all) k (pos 0)
value-get_or [] k = refl
value-get_or (s ∷ all) zero = refl
value-get_or (s ∷ all) (suc k) = value-get_or all k

-- the value of a step is what it makes of the values alone
value-after : (p : Point) (earlier : List Sloped) (step : Step)
    → (meaning_after (sloped_at p) earlier step).value ≡ value_after p (values_of earlier) step
value-after p earlier step =
    value-step step.op p step.value (get_or earlier step.a flat) (get_or earlier step.b flat)
    ∙ ap (λ (v : ℤ). step_value step.op p step.value v (get_or earlier step.b flat).value) (value-get_or earlier step.a)
    ∙ ap (λ (v : ℤ). step_value step.op p step.value (get_or (values_of earlier) step.a (pos 0)) v) (value-get_or earlier step.b)

-- the values of the steps after earlier ones
abbrev values_from : Point → List ℤ → List Step → List ℤ
values_from p earlier steps = fold (λ before step. before ++ value_after p before step ∷ []) earlier steps

values-meanings : (p : Point) (earlier : List Sloped) (steps : List Step)
    → values_of (fold (λ before step. before ++ meaning_after (sloped_at p) before step ∷ []) earlier steps)
    ≡ values_from p (values_of earlier) steps
values-meanings p earlier [] = refl
values-meanings p earlier (step ∷ steps) =
    let new = meaning_after (sloped_at p) earlier step in
    let longer : values_of (earlier ++ new ∷ []) ≡ values_of earlier ++ value_after p (values_of earlier) step ∷ [] =
    map-append (λ (s : Sloped). s.value) earlier (new ∷ []) ∙ ap (λ (v : ℤ). values_of earlier ++ v ∷ []) (value-after p earlier step) in
    values-meanings p (earlier ++ new ∷ []) steps ∙ ap (λ (before : List ℤ). values_from p before steps) longer

pub slopes_stand_by_values : SlopesStandByValues
slopes_stand_by_values p steps place =
    value-get_or (meanings (sloped_at p) steps) place ∙ ap (λ (all : List ℤ). get_or all place (pos 0)) (values-meanings p [] steps)

-- the steps of clauses have the slopes of the clauses
slopes-steps_of : (p : Point) (earlier : List Sloped) (clauses : List Clause)
    → fold (λ before step. before ++ meaning_after (sloped_at p) before step ∷ []) earlier (steps_of clauses)
    ≡ fold (λ before clause. before ++ clause_sloped p before clause ∷ []) earlier clauses
slopes-steps_of p earlier [] = refl
slopes-steps_of p earlier (c ∷ clauses) = slopes-steps_of p (earlier ++ clause_sloped p earlier c ∷ []) clauses

steps_of-sloped : (p : Point) (clauses : List Clause) → tape_meaning (sloped_at p) (steps_of clauses) ≡ solid_sloped p clauses
steps_of-sloped p clauses =
    rw (slopes-steps_of p [] clauses) (rw (length-map clauses step_of) refl)

pub root_has_the_slopes : RootHasTheSlopes
root_has_the_slopes p clauses model =
    root_of-meaning (sloped_at p) (sloped_at-reads p) clauses model ∙ steps_of-sloped p clauses
