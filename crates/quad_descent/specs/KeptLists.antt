-- The lists that boxes hand on which an image was drawn by: one place for each node, in their order.
use Rattle.std.specs.Prelude.{Bool, List, [], ◌∷◌, Option, Some, None, if◌then◌else◌}
use Rattle.std.specs.List.{flat_map}
use Rattle.box_chains.specs.Chains.{Descent, Visit, handed_on, is_long, sides, visit}
use Rattle.live_clauses.specs.declared.step.Step.{Step}
use Rattle.view_places.specs.Boxes.{Indices}
use Rattle.quad_descent.specs.Nodes.{kept_within}

-- The lists of a box by its decision, where these are kept below it if it is split: the list that it
-- hands on to its halves, and those. Another box hands none on.
abbrev pub box_lists : Descent → Visit → List (Option (List Step)) → Option Bool
    → List (Option (List Step))
box_lists d v below (Some inside) = None ∷ []
box_lists d v below None =
    if is_long d.leaf v.box then Some (handed_on d v) ∷ below else None ∷ []

-- the lists of a box and of the boxes below it
abbrev pub lists_of : Descent → Visit → List (Option (List Step))
lists_of d v = kept_within box_lists (sides v.box) d v

-- the lists of the halves of a box that hands on a list
abbrev pub halves_lists : Descent → List Step → List Indices → List (Option (List Step))
halves_lists d list halves = flat_map (λ half. lists_of d (visit half list)) halves
