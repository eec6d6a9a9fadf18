-- Several regions that a list is traced over at once. Each has a lane, which is its place among
-- them, and a row holds one element for each lane.
use Rattle.std.specs.Prelude.{ℕ, Bool, true, false, List, [], slice_index_or}
use Rattle.interval_ops.specs.Spans.{Interval, all_numbers}
use Rattle.interval_ops.specs.declared.choice.Choice.{Choice}
use Rattle.interval_ops.specs.declared.choice.Choice.TheVariants.{Left, Right, Both}
use Rattle.interval_ops.specs.declared.region.Region.{Region}
use Rattle.choice_trace.specs.Hulls.{hull_in}
use Rattle.choice_trace.specs.declared.inputs.Inputs.{Inputs}

-- the region of a lane, which past the last is all points
abbrev pub region_in : List Region → ℕ → Region
region_in regions l =
    slice_index_or regions l (record { x = all_numbers; y = all_numbers; z = all_numbers })

-- the flag of a lane, which past the last is false
abbrev pub flag_in : List Bool → ℕ → Bool
flag_in flags l = slice_index_or flags l false

-- whether a choice is of one operand
abbrev pub is_made : Choice → Bool
is_made Left = true
is_made Right = true
is_made Both = false

-- the row at a place of some rows, which past their end is empty
abbrev pub row_in : {A : Type 0} → List (List A) → ℕ → List A
row_in rows place = slice_index_or rows place []

-- the region whose ranges stand in a lane of three rows
abbrev pub region_of : Inputs (List Interval) → ℕ → Region
region_of rows l = record { x = hull_in rows.x l; y = hull_in rows.y l; z = hull_in rows.z l }
