-- The work that boxes take: evaluations at samples, and steps that are traced over boxes.
use Rattle.std.specs.Prelude.{ℕ, ◌*◌, ◌==◌, Bool, ◌&&◌, List, length, Option, Some, None, if◌then◌else◌}
use Rattle.std.specs.List.{sum_by}
use Rattle.live_clauses.specs.declared.step.Step.{Step}
use Rattle.view_places.specs.Boxes.{Indices, halves_of}
use Rattle.view_places.specs.Spans.{root_box_of}
use Rattle.box_chains.specs.Chains.{Descent, Visit, chain, chain_end, decision, handed_on, is_long, sum_over}
use Rattle.box_chains.specs.Sums.{Sample, size, sum_in}

-- the evaluations that a sample takes in the last box on the way to it: none where that is decided,
-- and else one for each step of the list that it hands on
abbrev pub end_cost : Descent → Visit → ℕ
end_cost d v = by (decision d v)
  where
    by : Option Bool → ℕ
    by None = length (handed_on d v)
    by (Some inside) = 0

-- the evaluations that a sample of a box takes
abbrev pub cost : Descent → Visit → Sample → ℕ
cost d v s = end_cost d (chain_end d v s)

-- the evaluations that all samples of a box take
unfoldable pub points_in : Descent → Visit → ℕ
points_in d v = sum_in v.box (cost d v)

-- a sample is the first of a box
abbrev pub is_first : Indices → Sample → Bool
is_first b s = s.i == b.x0 && (s.j == b.y0 && s.k == b.z0)

-- the lengths of the lists of those boxes that have a sample as their first
abbrev pub first_lengths : Sample → List Visit → ℕ
first_lengths s visits = sum_by (λ v. if is_first v.box s then length v.list else 0) visits

-- The steps that are traced over a box and the boxes below it: the lengths of the lists that they
-- receive. A box is on the way to each of its samples, and is counted at the first.
unfoldable pub spans_in : Descent → Visit → ℕ
spans_in d v = sum_in v.box (λ s. first_lengths s (chain d v s))

-- the box of all samples, which receives the whole list
abbrev pub root_visit : Descent → List Step → Visit
root_visit d list = record { box = root_box_of d.view d.lattice; list = list }

-- the evaluations that some boxes take that receive a list, and the steps that are traced over them
abbrev pub halves_points : Descent → List Step → List Indices → ℕ
halves_points d list halves = sum_over (points_in d) list halves

abbrev pub halves_spans : Descent → List Step → List Indices → ℕ
halves_spans d list halves = sum_over (spans_in d) list halves

-- the work of an undecided box that hands on a list, but for its own trace
abbrev pub open_points : Descent → Indices → List Step → ℕ
open_points d b list =
    if is_long d.leaf b then halves_points d list (halves_of d.leaf b) else size b * length list

abbrev pub open_spans : Descent → Indices → List Step → ℕ
open_spans d b list = if is_long d.leaf b then halves_spans d list (halves_of d.leaf b) else 0
