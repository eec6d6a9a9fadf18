-- The lists that light top samples, and the evaluations that this takes.
use Rattle.std.specs.Prelude.{ℕ, Bool, true, false, List, Option, Some, None, if◌then◌else◌}
use Rattle.box_chains.specs.Chains.{Descent, Visit, chain_end, decision, handed_on}
use Rattle.box_chains.specs.Sums.{Sample, sum_in}
use Rattle.box_chains.specs.Visits.{sample_point}
use Rattle.live_clauses.specs.declared.step.Step.{Step}
use Rattle.view_places.specs.Boxes.{Indices}
use Rattle.normal_shade.specs.DualWork.{dual_points}

-- The list that a box prunes, by which its top samples are lit where it is not split. A box that is
-- outside has no top sample and prunes no list.
abbrev pub pruned : Descent → Visit → List Step
pruned d v = by (decision d v)
  where
    by : Option Bool → List Step
    by None = handed_on d v
    by (Some true) = handed_on d v
    by (Some false) = v.list

-- the evaluations for those samples of a box that pass a test, which are lit by a list
abbrev pub lit_in : (Sample → Bool) → Descent → Indices → List Step → ℕ
lit_in test d b list =
    sum_in b (λ s. if test s then dual_points (sample_point d s) list else 0)

-- the evaluations for those samples of a box that pass a test, each lit by the list that the last box on
-- the way to it prunes
unfoldable pub lit_where : (Sample → Bool) → Descent → Visit → ℕ
lit_where test d v =
    sum_in v.box (λ s. if test s
    then dual_points (sample_point d s) (pruned d (chain_end d v s)) else 0)
