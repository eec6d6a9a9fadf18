-- The work that shading a box takes.
use Rattle.std.specs.Prelude.{ℕ, Bool, List, if◌then◌else◌}
use Rattle.std.specs.List.{sum_by}
use Rattle.live_clauses.specs.declared.step.Step.{Step}
use Rattle.view_places.specs.Boxes.{Indices, halves_of}
use Rattle.box_chains.specs.Chains.{Descent, Visit, half_visit, is_split, sum_over}
use Rattle.box_chains.specs.Sums.{Sample}
use Rattle.box_chains.specs.Tested.{spans_where}
use Rattle.normal_shade.specs.Lit.{lit_where}

-- the evaluations of some boxes that receive a list
abbrev pub boxes_points : (Sample → Bool) → Descent → List Step → List Indices → ℕ
boxes_points test d list boxes = sum_over (lit_where test d) list boxes

-- the steps that are traced below a box
abbrev pub spans_below : (Sample → Bool) → Descent → Visit → ℕ
spans_below test d v =
    if is_split d v
    then sum_by (λ half. spans_where test d (half_visit d v half)) (halves_of d.leaf v.box) else 0
