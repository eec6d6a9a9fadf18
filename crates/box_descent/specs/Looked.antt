-- Boxes that can be visited with the tapes of a desk.
use Rattle.std.specs.Prelude.{ℕ, ◌<◌, ◌≤◌, length}
use Rattle.box_chains.specs.Chains.{Descent, visit}
use Rattle.box_chains.specs.Desks.{Tracing, list_of}
use Rattle.box_chains.specs.Visits.{IsVisit}
use Rattle.live_clauses.specs.Live.{IsWhole}
use Rattle.live_clauses.specs.Steps.{IsTape}
use Rattle.view_places.specs.Boxes.{Indices, IsBox}
use Rattle.view_places.specs.Spans.{IsInRoot}
use Rattle.view_places.specs.Window.{IsWindow}
use Rattle.box_descent.specs.declared.plan.Plan.{Plan}

-- the descent of a plan over the samples of a desk
abbrev pub looked : Plan → Tracing → Descent
looked plan desk = record { view = desk.view; lattice = desk.lattice; leaf = plan.leaf }

-- a box of the samples
pub record IsPlaced (desk : Tracing) (b : Indices) : Type 0 where
  pub window : IsWindow desk.view
  pub box : IsBox b
  pub within : IsInRoot desk.view desk.lattice b

-- a box that is given the tape of a number, for which there is room
pub record MayVisit (plan : Plan) (desk : Tracing) (b : Indices) (at : ℕ) : Type 0 where
  pub visit_is : IsVisit (looked plan desk) (visit b (list_of desk at))
  pub among : at < length desk.lists
  pub room : length (list_of desk at) ≤ desk.room

-- The tape of a number can be traced over so many boxes. Traced over several at once, it is whole.
pub record CanTrace (desk : Tracing) (at count : ℕ) : Type 0 where
  pub tape : IsTape (list_of desk at)
  pub among : at < length desk.lists
  pub room : length (list_of desk at) ≤ desk.room
  pub whole : 2 ≤ count → IsWhole (list_of desk at)
