-- Boxes of the grid before.
use Rattle.std.specs.Prelude.{◌≡◌, ℕ, ◌+◌, List, ◌++◌, Option, Some, None, drop, length, slice_index_or}
use Rattle.box_chains.specs.Chains.{Visit, visit}
use Rattle.box_chains.specs.Visits.{IsVisit}
use Rattle.kuhn_cells.specs.Sizes.{SameSize}
use Rattle.live_clauses.specs.declared.step.Step.{Step}
use Rattle.view_places.specs.Boxes.{Indices}
use Rattle.view_places.specs.Window.{Window, size_of}
use Rattle.oct_descent.specs.GridValues.{list_grid_value}
use Rattle.oct_descent.specs.KeptBoxes.{halves_places, places_of}
use Rattle.oct_descent.specs.Kinds.{known_of}
use Rattle.oct_descent.specs.Known.{AreRight, AreSettled}
use Rattle.oct_descent.specs.Ways.{CellDescent, gridded}
use Rattle.oct_descent.specs.declared.old_box.OldBox.{OldBox}
use Rattle.oct_descent.specs.declared.split_box.SplitBox.{SplitBox}

-- a part of a list stands first in it
pub record StandsFirst {K : Type 0} (all part : List K) : Type 0 where
  pub rest : List K
  pub is : all ≡ part ++ rest

-- the list that a box handed on, where it was split
abbrev pub list_in : Option SplitBox → Option (List Step)
list_in None = None
list_in (Some split) = Some split.list

-- how many places a box has, with those of the boxes below it
abbrev pub count_of : Option SplitBox → ℕ
count_of None = 1
count_of (Some split) = split.below + 1

-- of the first of some places
abbrev pub first_list : List (Option SplitBox) → Option (List Step)
first_list places = list_in (slice_index_or places 0 None)

abbrev pub first_count : List (Option SplitBox) → ℕ
first_count places = count_of (slice_index_or places 0 None)

-- a box as the grid before had it, where it reached that box
abbrev pub visit_before : Option OldBox → Indices → Option Visit
visit_before None b = None
visit_before (Some old) b = Some (visit b old.list.now)

-- the list that it received
abbrev pub received_by : Option OldBox → Option (List Step)
received_by None = None
received_by (Some old) = Some old.list.now

-- the list that it handed on to its halves, where it had some: that of the first place that is left
abbrev pub handed_by : Option OldBox → List (Option SplitBox) → Option (List Step)
handed_by None left = None
handed_by (Some old) left = first_list left

-- What is known of the points of a box is right for the list that it received, and the corners of its
-- cells are known but for cells with all corners on one side.
pub record IsLookedInto (view : Window) (b : Indices) (old : OldBox) : Type 0 where
  pub visit_is : IsVisit (gridded view).boxes (visit b old.list.now)
  pub n : SameSize old.values.now.n (size_of view)
  pub right : AreRight (list_grid_value view old.list.now) b (known_of old.values.now)
  pub settled : AreSettled (gridded view) (list_grid_value view old.list.now) b (known_of old.values.now)

-- a box stood in the grid before, and its places stand first of those that are left
pub record IsOldBox (view : Window) (b : Indices) (left : List (Option SplitBox)) (old : OldBox)
    : Type 0 where
  pub looked : IsLookedInto view b old
  pub places : StandsFirst left (places_of (gridded view) (visit b old.list.now))

-- what is left of places once those of a box were passed, where there was such a box
abbrev pub behind : CellDescent → Option Visit → List (Option SplitBox) → List (Option SplitBox)
behind d None left = left
behind d (Some v) left = drop (length (places_of d v)) left

-- some halves of a box stood in the grid before, and received this list
pub record AreOldHalves (view : Window) (b : Indices) (halves : List Indices)
    (left : List (Option SplitBox)) (half : OldBox) : Type 0 where
  pub looked : IsLookedInto view b half
  pub places : StandsFirst left (halves_places (gridded view) half.list.now halves)

-- what is left of places once those of halves were passed that received a list, where there were such
abbrev pub behind_halves : CellDescent → Option (List Step) → List Indices
    → List (Option SplitBox) → List (Option SplitBox)
behind_halves d None halves left = left
behind_halves d (Some list) halves left = drop (length (halves_places d list halves)) left
