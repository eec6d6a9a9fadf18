-- The work that those samples of a box take that pass a test.
use Rattle.std.specs.Prelude.{ℕ, nat_lt, Bool, ◌&&◌, List, length, if◌then◌else◌}
use Rattle.std.specs.List.{sum_by}
use Rattle.live_clauses.specs.declared.step.Step.{Step}
use Rattle.view_places.specs.Boxes.{Indices, halves_of}
use Rattle.box_chains.specs.Chains.{Descent, Visit, chain, is_long, sum_over}
use Rattle.box_chains.specs.Counts.{cost, is_first}
use Rattle.box_chains.specs.Sums.{Sample, sum_in}

-- the evaluations that those samples of a box take that pass a test
unfoldable pub points_where : (Sample → Bool) → Descent → Visit → ℕ
points_where test d v = sum_in v.box (λ s. if test s then cost d v s else 0)

-- some sample of a box passes a test
abbrev pub has_some : (Sample → Bool) → Indices → Bool
has_some test b = nat_lt 0 (sum_in b (λ s. if test s then 1 else 0))

-- the lengths of the lists of those boxes that have a sample as their first, and some sample that
-- passes a test
abbrev pub lengths_where : (Sample → Bool) → Sample → List Visit → ℕ
lengths_where test s visits =
    sum_by (λ v. if has_some test v.box && is_first v.box s then length v.list else 0) visits

-- The steps that are traced over those boxes that have some sample that passes a test, of a box and
-- the boxes below it. Each is counted at its first sample.
unfoldable pub spans_where : (Sample → Bool) → Descent → Visit → ℕ
spans_where test d v = sum_in v.box (λ s. lengths_where test s (chain d v s))

-- the same of some boxes that receive a list
abbrev pub halves_points_where : (Sample → Bool) → Descent → List Step → List Indices → ℕ
halves_points_where test d list halves = sum_over (points_where test d) list halves

abbrev pub halves_spans_where : (Sample → Bool) → Descent → List Step → List Indices → ℕ
halves_spans_where test d list halves = sum_over (spans_where test d) list halves

-- and of an undecided box that hands on a list, but for its own trace
abbrev pub open_points_where : (Sample → Bool) → Descent → Indices → List Step → ℕ
open_points_where test d b list =
    if is_long d.leaf b then halves_points_where test d list (halves_of d.leaf b)
    else sum_in b (λ s. if test s then length list else 0)

abbrev pub open_spans_where : (Sample → Bool) → Descent → Indices → List Step → ℕ
open_spans_where test d b list =
    if is_long d.leaf b then halves_spans_where test d list (halves_of d.leaf b) else 0
