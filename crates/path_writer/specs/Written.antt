-- Which contours have paths.
use Rattle.std.specs.Prelude.{◌≡◌, ℕ, ◌+◌, ◌<◌, ◌≤◌, List, [], ◌∷◌, All, length}
use Rattle.kuhn_cells.specs.Corners.{along_x, along_y}
use Rattle.plane_loops.specs.Contours.{Contour}
use Rattle.plane_loops.specs.declared.plane_vertex.PlaneVertex.{PlaneVertex}
use Rattle.view_places.specs.Window.{Window}

-- a vertex lies in the plane grid of a view: between the ends of an edge that are both points of the
-- grid, where the upper one is so only if the lower one is
pub record IsInPlane (w : Window) (v : PlaneVertex) : Type 0 where
  pub some_steps : 1 ≤ v.dir
  pub few_steps : v.dir ≤ 3
  pub x : v.x + along_x v.dir ≤ w.nx
  pub y : v.y + along_y v.dir ≤ w.ny
  pub some : 1 ≤ v.t
  pub few : v.t ≤ 65535

-- pieces of some length end at these places, one after the other, from a place to another one
abbrev pub ArePiecesTo : ℕ → ℕ → List ℕ → Type 0
ArePiecesTo start last [] = start ≡ last
ArePiecesTo start last (end ∷ ends) = (start < end) × ArePiecesTo end last ends

-- A contour over a view has paths: its vertices lie in the plane grid, its loops have vertices of its
-- own, each has some, and together they are its order.
pub record CanBeWritten (w : Window) (c : Contour) : Type 0 where
  pub placed : All (IsInPlane w) c.vertices
  pub known : All (λ k. k < length c.vertices) c.order
  pub pieces : ArePiecesTo 0 (length c.order) c.ends
