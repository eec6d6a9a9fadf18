-- Boxes of a grid as they are traced, and what tracing them told.
use Rattle.std.specs.Prelude.{◌≡◌, ℕ, ◌+◌, ◌<◌, true, List, [], ◌∷◌, drop, length, get_or, if◌then◌else◌}
use Rattle.std.specs.List.{flat_map}
use Rattle.box_chains.specs.Chains.{handed_on, is_long, visit}
use Rattle.box_chains.specs.Outcomes.{HandsOn, IsHandedOn, all_seen, asked_outcome, asked_outcomes, seen}
use Rattle.box_chains.specs.Placing.{Sampling}
use Rattle.box_chains.specs.declared.asked_box.AskedBox.{AskedBox}
use Rattle.box_chains.specs.declared.outcome.Outcome.{Outcome}
use Rattle.box_chains.specs.declared.outcome.Outcome.TheVariants.{Outside}
use Rattle.kuhn_cells.specs.declared.grid_size.GridSize.{GridSize}
use Rattle.live_clauses.specs.Blocks.{list_at}
use Rattle.live_clauses.specs.declared.step.Step.{Step}
use Rattle.view_places.specs.Boxes.{Indices}
use Rattle.view_places.specs.Window.{Window, size_of}
use Rattle.oct_descent.specs.Kinds.{GridKind, descent_of}
use Rattle.oct_descent.specs.Ways.{is_open}

-- a box as it is traced: held open where it covers a point of the border
abbrev pub asked_of : GridKind → GridSize → Indices → AskedBox
asked_of k n b = record { range = b; held = k.meets n b }

-- those of some boxes that are longer than a cell
abbrev pub longer : GridKind → GridSize → List Indices → List AskedBox
longer k n boxes = flat_map (λ b. if is_long 1 b then asked_of k n b ∷ [] else []) boxes

-- what tracing a list over a box told stands at a place, with a list by its number among some
pub record IsAt (k : GridKind) (places : Sampling) (list : List Step) (b : Indices)
    (lists : List (List Step)) (outcomes : List (Outcome ℕ)) (at : ℕ) : Type 0 where
  pub within : at < length outcomes
  pub is : seen lists (get_or outcomes at Outside)
      ≡ asked_outcome places list (asked_of k (size_of places.view) b)
  pub hands : HandsOn (length list) lists (get_or outcomes at Outside)

-- it does where the box is longer than a cell
abbrev pub IsToldAt : GridKind → Sampling → List Step → Indices → List (List Step) → List (Outcome ℕ)
    → ℕ → Type 0
IsToldAt k places list b lists outcomes at =
    is_long 1 b ≡ true → IsAt k places list b lists outcomes at

-- The outcomes from a place on are those of the longer halves from another on: so what is told of the
-- first of these stands at that place, where it is longer than a cell, and the others behind it.
pub record IsStep (k : GridKind) (places : Sampling) (list : List Step) (halves : List Indices)
    (half : Indices) (i : ℕ) (lists : List (List Step)) (outcomes : List (Outcome ℕ)) (at next : ℕ)
    : Type 0 where
  pub told : IsToldAt k places list half lists outcomes at
  pub rest : drop next (all_seen lists outcomes)
      ≡ asked_outcomes places list (longer k (size_of places.view) (drop (i + 1) halves))

-- a box that hands on the list of a number stays open, and it is that box's list
pub record IsOpened (k : GridKind) (view : Window) (b : Indices) (list : List Step)
    (lists : List (List Step)) (at : ℕ) : Type 0 where
  pub open' : is_open (descent_of k view) (visit b list) ≡ true
  pub same : list_at lists at ≡ handed_on (descent_of k view).boxes (visit b list)
  pub hands : IsHandedOn (length list) lists at
