-- The boxes of more than one cell that a grid is looked into by, one place for each, in their order.
use Rattle.std.specs.Prelude.{ℕ, zero, suc, List, [], ◌∷◌, length, Option, Some, None, if◌then◌else◌}
use Rattle.std.specs.List.{flat_map}
use Rattle.box_chains.specs.Chains.{Visit, half_visit, handed_on, is_long, sides, visit}
use Rattle.live_clauses.specs.declared.step.Step.{Step}
use Rattle.view_places.specs.Boxes.{Indices, halves_of}
use Rattle.oct_descent.specs.Ways.{CellDescent, is_open}
use Rattle.oct_descent.specs.declared.split_box.SplitBox.{SplitBox}

-- what is kept of a box that is split and hands on a list, and of the boxes below it
abbrev pub split_place : List Step → List (Option SplitBox) → List (Option SplitBox)
split_place list below = Some (record { list = list; below = length below }) ∷ below

-- The places of a box of more than one cell, where these stand below it if it is split: the list that
-- it hands on, how many stand below it, and those. Another box has none.
abbrev pub box_places : CellDescent → Visit → List (Option SplitBox) → List (Option SplitBox)
box_places d v below =
    if is_long d.boxes.leaf v.box
    then (if is_open d v then split_place (handed_on d.boxes v) below else None ∷ [])
    else []

unfoldable pub places_within : ℕ → CellDescent → Visit → List (Option SplitBox)
places_within zero d v = []
places_within (suc n) d v =
    box_places d v
    (flat_map (λ half. places_within n d (half_visit d.boxes v half)) (halves_of d.boxes.leaf v.box))

-- the places of a box and of the boxes below it
abbrev pub places_of : CellDescent → Visit → List (Option SplitBox)
places_of d v = places_within (sides v.box) d v

-- those of the halves of a box that hands on a list
abbrev pub halves_places : CellDescent → List Step → List Indices → List (Option SplitBox)
halves_places d list halves = flat_map (λ half. places_of d (visit half list)) halves

-- those of a box that is split and hands on a list
abbrev pub split_places : CellDescent → Indices → List Step → List (Option SplitBox)
split_places d b list = split_place list (halves_places d list (halves_of d.boxes.leaf b))
