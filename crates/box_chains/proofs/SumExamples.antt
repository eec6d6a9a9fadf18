-- Sums over the samples of a box, and what boxes tell, worked out by hand.
use Rattle.std.proofs.Common.{◌≡◌, ◌+◌, ◌*◌, ℕ, true, false, pos, [], ◌∷◌, List, refl}
use Rattle.std.specs.Prelude.{None, Some}
use Rattle.fixed_ops.specs.declared.operation.Op.TheVariants.{X}
use Rattle.live_clauses.specs.declared.step.Step.{Step}
use Rattle.box_chains.specs.Outcomes.{held_decision, outcome_by}
use Rattle.box_chains.specs.Sums.{Sample, sum_in}
use Rattle.box_chains.specs.declared.outcome.Outcome.TheVariants.{Inside, Outside, Open}

abbrev place : Sample → ℕ
place s = s.i + 10 * s.j + 100 * s.k

-- the samples of columns 1 and 2, row 5 and layers 0 and 1: 51, 52, 151 and 152
sum_of_four : sum_in (record { x0 = 1; x1 = 3; y0 = 5; y1 = 6; z0 = 0; z1 = 2 }) place ≡ 406
sum_of_four = refl

-- a box is inside, is outside, or hands on its list
abbrev live : List Step
live = record { op = X; a = 0; b = 0; value = pos 0 } ∷ []

outcomes : outcome_by (Some true) live ∷ outcome_by (Some false) live ∷ outcome_by None live ∷ []
    ≡ Inside ∷ Outside ∷ Open live ∷ []
outcomes = refl

-- one that is held open is not told to be inside
held : held_decision true (Some true) ∷ held_decision true (Some false) ∷ held_decision true None
    ∷ held_decision false (Some true) ∷ held_decision false (Some false) ∷ [] ≡
    None ∷ Some false ∷ None ∷ Some true ∷ Some false ∷ []
held = refl
