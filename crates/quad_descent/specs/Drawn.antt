-- Where the nodes of a box stand among those of a whole image.
use Rattle.std.specs.Prelude.{◌≡◌, ℕ, ◌+◌, List, ◌++◌, length}
use Rattle.box_chains.specs.Sums.{LiesIn, Sample}
use Rattle.box_chains.specs.Visits.{IsVisit, sample_point}
use Rattle.live_clauses.specs.Steps.{tape_value}
use Rattle.live_clauses.specs.declared.step.Step.{Step}
use Rattle.view_places.specs.Boxes.{Indices}
use Rattle.view_places.specs.Window.{Window}
use Rattle.box_chains.specs.Chains.{visit}
use Rattle.quad_descent.specs.Nodes.{halves_nodes, nodes_of}
use Rattle.quad_descent.specs.Raster.{raster, raster_root}
use Rattle.quad_descent.specs.declared.node.Node.{Node}
use Rattle.quad_descent.specs.declared.node.Node.TheVariants.{Split}

-- a part of a list stands in it from a place on
pub record StandsAt {K : Type 0} (all part : List K) (at : ℕ) : Type 0 where
  pub front : List K
  pub rest : List K
  pub place : at ≡ length front
  pub is : all ≡ front ++ (part ++ rest)

-- a list has the values of another at the samples of a box
abbrev pub HasValues : Window → Indices → List Step → List Step → Type 0
HasValues view b list whole_list =
    (s : Sample) → LiesIn b s
    → tape_value (sample_point (raster view) s) list ≡ tape_value (sample_point (raster view) s) whole_list

-- the nodes of a box stand from a place on, for a list that has the values of the whole one there
pub record IsDrawnAt (view : Window) (list : List Step) (at : ℕ) (b : Indices) : Type 0 where
  pub received : List Step
  pub visit_is : IsVisit (raster view) (visit b received)
  pub values : HasValues view b received list
  pub stands : StandsAt (nodes_of (raster view) (raster_root view list))
      (nodes_of (raster view) (visit b received)) at

-- the nodes of some halves of a box that hands on a list stand from a place on
pub record AreDrawnAt (view : Window) (list : List Step) (at : ℕ) (b : Indices)
    (halves : List Indices) : Type 0 where
  pub live : List Step
  pub visit_is : IsVisit (raster view) (visit b live)
  pub values : HasValues view b live list
  pub stands : StandsAt (nodes_of (raster view) (raster_root view list))
      (halves_nodes (raster view) live halves) at

-- how many nodes a node stands for: itself and those below its box
abbrev pub count_of : Node → ℕ
count_of (Split below) = below + 1
count_of _ = 1
