-- Theorems for the crates above: what always holds of the definitions.
use Rattle.kuhn_cells.proofs.VertexLaws.{vertices_are_mixed_edges}
use Rattle.mesh_laws.proofs.Facing.{faces_out}
use Rattle.mesh_laws.proofs.Lattice.{lattice_tells}
use Rattle.mesh_laws.proofs.Lines.{line_tells}
use Rattle.mesh_laws.proofs.Paths.{crossed, paths_cross}
use Rattle.mesh_laws.proofs.Raws.{is_raw_place, raw_tells}
use Rattle.mesh_laws.specs.Laws.{PlacesAreDistinct, Separates}
use Rattle.mesh_laws.specs.Places.{raw_place}

-- The mesh of each grid separates its inside points from the outside ones: an edge of the grid
-- holds a vertex exactly where one of its ends is inside and the other is not, and each face has
-- the inside ends of its edges behind it.
pub separates : Separates
separates g framed =
    record {
      crossed = crossed g;
      facing = faces_out g;
      paths = paths_cross g;
    }

-- Different vertices have different places on the lattice of 65536 steps a cell. Where the raw
-- places of the points of the grid rise by at least 65536 along each axis, they also have
-- different raw places and different lines.
pub places_are_distinct : PlacesAreDistinct
places_are_distinct g framed e f at_e at_f differ =
    let v = (vertices_are_mixed_edges g e).0 at_e in
    let w = (vertices_are_mixed_edges g f).0 at_f in
    record {
      lattice = λ same. differ (lattice_tells g e f v.direction w.direction same);
      raw = λ places apart same. differ (raw_tells places g e f apart v w same);
      lines = λ places apart same.
          differ (raw_tells places g e f apart v w (line_tells (raw_place places g e) (raw_place places g f) (is_raw_place places g e apart v) (is_raw_place places g f apart w) same));
    }
