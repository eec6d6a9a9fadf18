-- The laws of meshes.
use Rattle.std.specs.Prelude.{◌≢◌, Contains, length}
use Rattle.kuhn_cells.specs.declared.edge_key.EdgeKey.{EdgeKey}
use Rattle.kuhn_cells.specs.Faces.{faces}
use Rattle.kuhn_cells.specs.Grids.{Grid, vertices}
use Rattle.mesh_laws.specs.Closed.{IsClosed}
use Rattle.mesh_laws.specs.Frames.{IsFramed}
use Rattle.mesh_laws.specs.Manifold.{IsManifold}
use Rattle.mesh_laws.specs.Places.{AreAllApart, RawPlaces, lattice_place, place_line, raw_place}
use Rattle.mesh_laws.specs.Separating.{IsSeparating}

-- the mesh of each grid is closed
abbrev pub EdgesArePaired : Type 0
EdgesArePaired = (g : Grid) → IsFramed g → IsClosed (faces g)

-- the mesh of each grid is a manifold
abbrev pub HaveOneCycle : Type 0
HaveOneCycle = (g : Grid) → IsFramed g → IsManifold (length (vertices g)) (faces g)

-- the mesh of each grid separates its inside points from the outside ones
abbrev pub Separates : Type 0
Separates = (g : Grid) → IsFramed g → IsSeparating g (vertices g) (faces g)

-- Two vertices have different places on the lattice. Where the raw places of the points of the grid
-- rise by at least 65536, they also have different raw places and different lines.
pub record LieApart (g : Grid) (e f : EdgeKey) : Type 0 where
  pub lattice : lattice_place g e ≢ lattice_place g f
  pub raw : (places : RawPlaces) → AreAllApart g places
      → raw_place places g e ≢ raw_place places g f
  pub lines : (places : RawPlaces) → AreAllApart g places
      → place_line (raw_place places g e) ≢ place_line (raw_place places g f)

-- different vertices of each grid lie apart
abbrev pub PlacesAreDistinct : Type 0
PlacesAreDistinct =
    (g : Grid) → IsFramed g → (e f : EdgeKey) → Contains (vertices g) e → Contains (vertices g) f
    → e ≢ f → LieApart g e f
