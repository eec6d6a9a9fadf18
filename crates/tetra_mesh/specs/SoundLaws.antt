-- What always holds of the meshes of grids.
use Rattle.std.specs.Prelude.{◌≡◌}
use Rattle.kuhn_cells.specs.Cells.{IsBordered}
use Rattle.kuhn_cells.specs.Grids.{Grid}
use Rattle.view_places.specs.Window.{FitsMesh, IsWindow, Window, size_of}
use Rattle.tetra_mesh.specs.Cuts.{mesh_of}
use Rattle.tetra_mesh.specs.Sound.{IsSound, LieApart}

-- the mesh of each grid whose outermost layer is outside is sound
abbrev pub GridMeshesAreSound : Type 0
GridMeshesAreSound = (g : Grid) → IsBordered g → IsSound g (mesh_of g)

-- a grid has as many cells along each axis as a view tells
pub record IsGridOf (w : Window) (g : Grid) : Type 0 where
  pub x : g.x ≡ (size_of w).x
  pub y : g.y ≡ (size_of w).y
  pub z : g.z ≡ (size_of w).z

-- its vertices lie apart over each view of its size of which a mesh may be made
abbrev pub GridMeshesLieApart : Type 0
GridMeshesLieApart =
    (w : Window) (g : Grid) → IsWindow w → FitsMesh w → IsGridOf w g → IsBordered g
    → LieApart w (mesh_of g).vertices
