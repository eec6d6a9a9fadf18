-- Boxes that are drawn behind others.
use Rattle.std.specs.Prelude.{◌≡◌, List, ◌++◌, Option, IsTrue}
use Rattle.live_clauses.specs.declared.step.Step.{Step}
use Rattle.view_places.specs.Window.{Window}
use Rattle.quad_descent.specs.KeptLists.{lists_of}
use Rattle.quad_descent.specs.Nodes.{nodes_of}
use Rattle.quad_descent.specs.Raster.{raster, raster_root}
use Rattle.quad_descent.specs.declared.boxes.Boxes.{Boxes}
use Rattle.quad_descent.specs.declared.node.Node.{Node}

-- these nodes stand behind others, and where lists are kept these lists do as well
pub record Adds (before after : Boxes) (new : List Node) (handed : List (Option (List Step)))
    : Type 0 where
  pub nodes : after.nodes.items ≡ before.nodes.items ++ new
  pub lists : IsTrue before.keeps → after.lists.items ≡ before.lists.items ++ handed
  pub keeps : after.keeps ≡ before.keeps

-- the boxes of an image of a list over a view, and where lists are kept their lists
pub record IsDrawn (view : Window) (list : List Step) (boxes : Boxes) : Type 0 where
  pub nodes : boxes.nodes.items ≡ nodes_of (raster view) (raster_root view list)
  pub lists : IsTrue boxes.keeps
      → boxes.lists.items ≡ lists_of (raster view) (raster_root view list)
