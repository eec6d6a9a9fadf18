-- Which boxes of a descent are traced and split, and in which order children are visited.
use Rattle.std.specs.Prelude.{ℕ, ◌*◌, ◌/◌, ◌-◌, nat_lt, ◌==◌, ◌&&◌, ◌||◌, Bool, true, false, not, List, Option, Some, None, length, reverse, take, drop, if◌then◌else◌}
use Rattle.box_chains.specs.Chains.{Descent, Visit, decision, is_long}
use Rattle.box_chains.specs.declared.asked_box.AskedBox.{AskedBox}
use Rattle.view_places.specs.Boxes.{Indices, halves_of}
use Rattle.view_places.specs.Spans.{root_box_of}
use Rattle.box_descent.specs.declared.plan.Border.{Border}
use Rattle.box_descent.specs.declared.plan.Border.TheVariants.{Nowhere, Plane, Solid}
use Rattle.box_descent.specs.declared.plan.Order.{Order}
use Rattle.box_descent.specs.declared.plan.Order.TheVariants.{Ascending, LastLeafFirst, NearestFirst}
use Rattle.box_descent.specs.declared.plan.Plan.{Plan}

-- a box reaches to an end of the root box along an axis
abbrev pub meets_x : Indices → Indices → Bool
meets_x root b = b.x0 == root.x0 || b.x1 == root.x1

abbrev pub meets_y : Indices → Indices → Bool
meets_y root b = b.y0 == root.y0 || b.y1 == root.y1

abbrev pub meets_z : Indices → Indices → Bool
meets_z root b = b.z0 == root.z0 || b.z1 == root.z1

-- a box has a part in the layer that counts as outside
abbrev pub meets : Border → Indices → Indices → Bool
meets Nowhere root b = false
meets Plane root b = meets_x root b || meets_y root b
meets Solid root b = meets_x root b || (meets_y root b || meets_z root b)

abbrev pub meets_border : Plan → Descent → Indices → Bool
meets_border plan d b = meets plan.border (root_box_of d.view d.lattice) b

-- a box prunes a tape even where all of it is inside
abbrev pub is_held : Plan → Descent → Indices → Bool
is_held plan d b = plan.prunes_inside || meets_border plan d b

-- a box, as it is traced
abbrev pub asked : Plan → Descent → Indices → AskedBox
asked plan d b = record { range = b; held = is_held plan d b }

-- a box is traced with those beside it
abbrev pub is_traced : Plan → Indices → Bool
is_traced plan b = plan.traces_leaves || is_long plan.leaf b

-- by what is decided of a box, which may have such a part, it is split unless it is a leaf
abbrev pub goes_on_by : Bool → Option Bool → Bool
goes_on_by border None = true
goes_on_by border (Some true) = border
goes_on_by border (Some false) = false

-- a box that was traced is split: it is no leaf, and is undecided, or all inside with a part in the
-- layer that counts as outside
abbrev pub goes_on : Plan → Descent → Visit → Bool
goes_on plan d v = is_long d.leaf v.box && goes_on_by (meets_border plan d v.box) (decision d v)

-- the children of a box are visited from the last to the first
abbrev pub is_backwards : Plan → Indices → Bool
is_backwards plan b = by plan.order
  where
    by : Order → Bool
    by Ascending = false
    by NearestFirst = true
    by LastLeafFirst = not (is_long (2 * plan.leaf) b)

-- the children of a box in the order in which they are visited
abbrev pub children : Plan → Indices → List Indices
children plan b =
    if is_backwards plan b then reverse (halves_of plan.leaf b) else halves_of plan.leaf b

-- how many of them are visited before the visitor is asked which of the others it wants
abbrev pub group_size : Plan → Indices → ℕ
group_size plan b = by plan.order
  where
    by : Order → ℕ
    by Ascending = length (halves_of plan.leaf b)
    by NearestFirst =
        if nat_lt plan.leaf (b.z1 - b.z0)
        then length (halves_of plan.leaf b) / 2
        else length (halves_of plan.leaf b)
    by LastLeafFirst = length (halves_of plan.leaf b)

abbrev pub first_group : Plan → Indices → List Indices
first_group plan b = take (group_size plan b) (children plan b)

abbrev pub second_group : Plan → Indices → List Indices
second_group plan b = drop (group_size plan b) (children plan b)
