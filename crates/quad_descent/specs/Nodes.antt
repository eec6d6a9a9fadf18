-- What is kept of the boxes that an image was drawn by.
use Rattle.std.specs.Prelude.{ℕ, zero, suc, ◌+◌, ◌-◌, ◌*◌, nat_lt, Bool, true, false, List, [], ◌∷◌, length, map, fold, Option, Some, None, if◌then◌else◌}
use Rattle.std.specs.List.{flat_map, range_with_len}
use Rattle.box_chains.specs.Chains.{Descent, Visit, decision, half_visit, handed_on, is_long, sides, visit}
use Rattle.fixed_ops.specs.Raw.{is_inside}
use Rattle.live_clauses.specs.Steps.{tape_value}
use Rattle.view_places.specs.Boxes.{Indices, halves_of}
use Rattle.view_places.specs.Places.{point_of}
use Rattle.view_places.specs.Window.{Window}
use Rattle.view_places.specs.declared.lattice.Lattice.{Lattice}
use Rattle.live_clauses.specs.declared.step.Step.{Step}
use Rattle.quad_descent.specs.declared.node.Node.{Node}
use Rattle.quad_descent.specs.declared.node.Node.TheVariants.{Outside, Inside, Leaf, Split}

-- a number whose binary digits are these, the last one lowest
abbrev pub bits_of : List Bool → ℕ
bits_of tests = fold (λ bits test. 2 * bits + (if test then 1 else 0)) 0 tests

-- whether the samples in row j of a box are inside by a list, from the left on
abbrev pub insides : Window → Lattice → List Step → Indices → ℕ → List Bool
insides view lattice list b j =
    map (λ i. is_inside (tape_value (point_of view lattice i j b.z0) list))
    (range_with_len b.x0 (b.x1 - b.x0))

-- the rows of a leaf, each as a number, in eight places of which the last may be empty
abbrev pub rows_of : Window → Lattice → List Step → Indices → List ℕ
rows_of view lattice list b =
    map (λ r. if nat_lt r (b.y1 - b.y0) then bits_of (insides view lattice list b (b.y0 + r)) else 0)
    (range_with_len 0 8)

-- what is kept of a leaf
abbrev pub leaf_node : Descent → Visit → List Node
leaf_node d v = Leaf (rows_of d.view d.lattice (handed_on d v) v.box) ∷ []

-- what is kept of a box that is split: how many nodes stand below it, and those
abbrev pub split_node : List Node → List Node
split_node below = Split (length below) ∷ below

-- the nodes of a box by its decision, where it has these nodes below it if it is split
abbrev pub box_nodes : Descent → Visit → List Node → Option Bool → List Node
box_nodes d v below (Some true) = Inside ∷ []
box_nodes d v below (Some false) = Outside ∷ []
box_nodes d v below None = if is_long d.leaf v.box then split_node below else leaf_node d v

-- What is kept of a box and of the boxes below it, one after another: what a decision makes of the box,
-- where this is kept of its halves, one half after the other.
unfoldable pub kept_within : {K : Type 0} → (Descent → Visit → List K → Option Bool → List K)
    → ℕ → Descent → Visit → List K
kept_within of_box zero d v = []
kept_within of_box (suc n) d v =
    of_box d v
    (flat_map (λ half. kept_within of_box n d (half_visit d v half)) (halves_of d.leaf v.box))
    (decision d v)

-- The nodes of a box and of the boxes below it: whether it is decided inside or outside, the rows
-- of an undecided leaf, or the nodes of its halves, one half after the other.
abbrev pub nodes_of : Descent → Visit → List Node
nodes_of d v = kept_within box_nodes (sides v.box) d v

-- the nodes of the halves of a box that hands on a list
abbrev pub halves_nodes : Descent → List Step → List Indices → List Node
halves_nodes d list halves = flat_map (λ half. nodes_of d (visit half list)) halves
