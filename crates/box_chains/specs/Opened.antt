-- The work of a box whose outcome is known, but for its own trace.
use Rattle.std.specs.Prelude.{ℕ, List}
use Rattle.live_clauses.specs.declared.step.Step.{Step}
use Rattle.view_places.specs.Boxes.{Indices}
use Rattle.box_chains.specs.Chains.{Descent}
use Rattle.box_chains.specs.Counts.{open_points, open_spans}
use Rattle.box_chains.specs.Outcomes.{outcome_of}
use Rattle.box_chains.specs.Placing.{Sampling}
use Rattle.box_chains.specs.declared.outcome.Outcome.{Outcome}
use Rattle.box_chains.specs.declared.outcome.Outcome.TheVariants.{Inside, Outside, Open}

-- the samples that a descent looks into
abbrev pub sampling : Descent → Sampling
sampling d = record { view = d.view; lattice = d.lattice }

-- the evaluations that the box takes, and the steps that are traced below it
abbrev pub outcome_points : Descent → Indices → Outcome (List Step) → ℕ
outcome_points d b Inside = 0
outcome_points d b Outside = 0
outcome_points d b (Open list) = open_points d b list

abbrev pub outcome_spans : Descent → Indices → Outcome (List Step) → ℕ
outcome_spans d b Inside = 0
outcome_spans d b Outside = 0
outcome_spans d b (Open list) = open_spans d b list

-- the steps that are traced below a box which receives a list
abbrev pub spans_below : Descent → List Step → Indices → ℕ
spans_below d list b = outcome_spans d b (outcome_of (sampling d) list b)
