-- What contracts see of a desk, and what looking into a box there needs.
use Rattle.std.specs.Prelude.{◌≡◌, ℕ, ◌<◌, ◌≤◌, List, length}
use Rattle.live_clauses.specs.Blocks.{list_at}
use Rattle.live_clauses.specs.Live.{IsWhole}
use Rattle.live_clauses.specs.declared.step.Step.{Step}
use Rattle.view_places.specs.Boxes.{Indices, IsBox}
use Rattle.view_places.specs.Spans.{IsInRoot}
use Rattle.view_places.specs.Window.{Window}
use Rattle.view_places.specs.declared.lattice.Lattice.{Lattice}
use Rattle.box_chains.specs.Outcomes.{AreFirst}
use Rattle.box_chains.specs.Placing.{Sampling}
use Rattle.box_chains.specs.declared.outcome.Outcome.{Outcome}
use Rattle.box_chains.specs.declared.outcome.Outcome.TheVariants.{Open}

-- what boxes are looked into with: the samples of a lattice over a view, the lists that boxes receive,
-- each by its number, and how many steps a list may have
pub record Tracing : Type 0 where
  pub view : Window
  pub lattice : Lattice
  pub room : ℕ
  pub lists : List (List Step)

-- the samples alone
abbrev pub samples : Tracing → Sampling
samples desk = record { view = desk.view; lattice = desk.lattice }

-- the list of a number
abbrev pub list_of : Tracing → ℕ → List Step
list_of desk at = list_at desk.lists at

-- a desk that has become another one by lists that were put behind its own
pub record HasMore (old new : Tracing) : Type 0 where
  pub view : new.view ≡ old.view
  pub lattice : new.lattice ≡ old.lattice
  pub room : new.room ≡ old.room
  pub lists : AreFirst old.lists new.lists

-- the box is one of a lattice's samples, and there is room for the list of that number
pub record MayTrace (which : Lattice) (desk : Tracing) (b : Indices) (at : ℕ) : Type 0 where
  pub lattice : desk.lattice ≡ which
  pub box : IsBox b
  pub within : IsInRoot desk.view which b
  pub among : at < length desk.lists
  pub room : length (list_of desk at) ≤ desk.room

-- there is room for the list of a number, and each of its steps is needed
pub record HasRoomFor (desk : Tracing) (at : ℕ) : Type 0 where
  pub among : at < length desk.lists
  pub room : length (list_of desk at) ≤ desk.room
  pub whole : IsWhole (list_of desk at)

-- the box is one of a lattice's samples, and what it hands on, if it is open, is the number of a whole
-- list that there is room for
pub record MayOpen (which : Lattice) (desk : Tracing) (b : Indices) (outcome : Outcome ℕ) : Type 0 where
  pub lattice : desk.lattice ≡ which
  pub box : IsBox b
  pub within : IsInRoot desk.view which b
  pub hands : (at : ℕ) → outcome ≡ Open at → HasRoomFor desk at
