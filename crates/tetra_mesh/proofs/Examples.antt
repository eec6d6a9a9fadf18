-- Places, computed on vertices that were worked out by hand.
use Rattle.std.proofs.Common.{◌≡◌, ℕ, zero, suc, ◌+◌, ◌*◌, ◌/◌, ◌≤◌, ℤ, pos, negsuc, List, [], ◌∷◌, get_or, length, ap, subst, sym, refl, arith}
use Rattle.std.specs.Prelude.{◌≤ℤ◌, All, replicate, slice_index_or}
use Rattle.std.proofs.lemmas.List.{get_or-replicate}
use Rattle.fixed_ops.specs.Raw.{greatest}
use Rattle.tetra_mesh.specs.declared.numbering.Numbering.{Numbering}
use Rattle.tetra_mesh.specs.declared.shapes.Shapes.{Shapes}
use Rattle.tetra_mesh.specs.declared.sided_cell.SidedCell.{SidedCell}
use Rattle.tetra_mesh.specs.declared.vertex.Vertex.{Vertex}
use Rattle.mesh_laws.specs.Places.{way_up}
use Rattle.tetra_mesh.specs.Places.{IsPlaced, lattice_place_along, vertex_place}
use Rattle.tetra_mesh.specs.Numbering.{HasReached, IsNumbered}
use Rattle.tetra_mesh.specs.Shapes.{AreMade, AreShapes, IsMade}
use Rattle.tetra_mesh.specs.Sides.{HaveCells, OfCells}
use Rattle.tetra_mesh.specs.Sound.{lattice_of, raw_of}
use Rattle.tetra_mesh.specs.Tables.{AreTables, IsPointPlace, IsTable}
use Rattle.tetra_mesh.specs.Walks.{CanGoOn}
use Rattle.view_places.specs.declared.lattice.Axis.TheVariants.{X, Y, Z}
use Rattle.view_places.specs.Window.{Window}

-- two cells along each axis, from -1 to 1
cells : Window
cells = record {
  x0 = negsuc 4294967295;
  x1 = pos 4294967296;
  y0 = negsuc 4294967295;
  y1 = pos 4294967296;
  z0 = negsuc 4294967295;
  z1 = pos 4294967296;
  z = pos 0;
  w = 1;
  h = 1;
  d = 1;
  nx = 2;
  ny = 2;
  nz = 2;
}

-- the vertex of an edge in a direction from the point (1, 0, 1)
abbrev from_side : ℕ → ℕ → Vertex
from_side dir t = record { key = record { x = 1; y = 0; z = 1; dir = dir }; t = t }

-- along an axis of the direction the part is added, and along no other
lattice_along : lattice_place_along (from_side 6 8192) Z ≡ 73728
lattice_along = refl

lattice_beside : lattice_place_along (from_side 6 8192) X ≡ 65536
lattice_beside = refl

-- so are the raw places, which are rounded down
raw_along : vertex_place cells (from_side 2 5461) Y ≡ negsuc 3937075199
unfolding cells
raw_along = refl

raw_beside : vertex_place cells (from_side 2 5461) Z ≡ pos 0
unfolding cells
raw_beside = refl

raw_rounds_down : vertex_place (record cells { y1 = negsuc 4294967288 }) (from_side 2 65535) Y ≡ negsuc 4294967293
unfolding cells
raw_rounds_down = refl

-- three cells along x, four along y and two along z, 100 raw units long along x, 150 along y and 45 along z
abbrev uneven : Window
uneven = record {
  x0 = pos 0;
  x1 = pos 300;
  y0 = pos 1000;
  y1 = pos 1600;
  z0 = negsuc 29;
  z1 = pos 60;
  z = pos 0;
  w = 1;
  h = 1;
  d = 1;
  nx = 3;
  ny = 4;
  nz = 2;
}

-- the vertex a quarter of the way from the point (2, 0, 1) on, along x and z
abbrev quarter : Vertex
quarter = record { key = record { x = 2; y = 0; z = 1; dir = 5 }; t = 16384 }

quarter_along_x : lattice_place_along quarter X ≡ 147456
quarter_along_x = refl

quarter_beside_y : lattice_place_along quarter Y ≡ 0
quarter_beside_y = refl

quarter_along_z : lattice_place_along quarter Z ≡ 81920
quarter_along_z = refl

raw_quarter_along_x : vertex_place uneven quarter X ≡ pos 225
raw_quarter_along_x = refl

raw_quarter_beside_y : vertex_place uneven quarter Y ≡ pos 1000
raw_quarter_beside_y = refl

raw_quarter_along_z : vertex_place uneven quarter Z ≡ pos 26
raw_quarter_along_z = refl

-- ---- where an edge is cut

-- a third of the way from the inside end, wherever that is
cut_above : way_up (negsuc 0) (pos 2) ≡ 21845
cut_above = refl

cut_below : way_up (pos 2) (negsuc 0) ≡ 43691
cut_below = refl

-- a point at 0 is outside, and no vertex lies on it
cut_below_zero : way_up (negsuc 0) (pos 0) ≡ 65535
cut_below_zero = refl

cut_above_zero : way_up (pos 0) (negsuc 0) ≡ 1
cut_above_zero = refl

-- nor on an inside point
cut_above_inside : way_up (negsuc 0) (pos 4294967296) ≡ 1
cut_above_inside = refl

cut_below_inside : way_up (pos 4294967296) (negsuc 0) ≡ 65535
cut_below_inside = refl

-- ---- all three axes at once

lattice_of_quarter : lattice_of quarter ≡ record { x = pos 147456; y = pos 0; z = pos 81920 }
lattice_of_quarter = refl

raw_of_quarter : raw_of uneven quarter ≡ record { x = pos 225; y = pos 1000; z = pos 26 }
raw_of_quarter = refl

-- ---- which vertices lie in a grid

abbrev at : ℕ → ℕ → ℕ → ℕ → ℕ → Vertex
at x y z dir t = record { key = record { x = x; y = y; z = z; dir = dir }; t = t }

-- one just below the last point of two cells along each axis
last_is_placed : IsPlaced cells (at 1 1 1 7 65535)
unfolding cells
last_is_placed = record {
  direction = record { some = omega arith; within = omega arith };
  upper_end = record { x = omega arith; y = omega arith; z = omega arith };
  some = omega arith;
  few = omega arith;
}

-- none on an end of its edge
none_on_the_upper_end : IsPlaced cells (at 1 1 1 7 65536) → ⊥
none_on_the_upper_end h = let few : 65536 ≤ 65535 = h.few in omega (arith, few)

none_on_the_lower_end : IsPlaced cells (at 1 1 1 7 0) → ⊥
none_on_the_lower_end h = let some : 1 ≤ 0 = h.some in omega (arith, some)

-- and none beyond the last point along an axis
none_beyond_along_x : IsPlaced cells (at 2 1 0 1 1) → ⊥
unfolding cells
none_beyond_along_x h = let x : 3 ≤ 2 = h.upper_end.x in omega (arith, x)

none_beyond_along_y : IsPlaced cells (at 0 2 1 2 1) → ⊥
unfolding cells
none_beyond_along_y h = let y : 3 ≤ 2 = h.upper_end.y in omega (arith, y)

none_beyond_along_z : IsPlaced cells (at 1 0 2 4 1) → ⊥
unfolding cells
none_beyond_along_z h = let z : 3 ≤ 2 = h.upper_end.z in omega (arith, z)

-- each axis has its own last point
last_of_uneven : IsPlaced uneven (at 2 3 1 7 65535)
last_of_uneven = record {
  direction = record { some = omega arith; within = omega arith };
  upper_end = record { x = omega arith; y = omega arith; z = omega arith };
  some = omega arith;
  few = omega arith;
}

none_beyond_three : IsPlaced uneven (at 3 0 0 1 1) → ⊥
none_beyond_three h = let x : 4 ≤ 3 = h.upper_end.x in omega (arith, x)

none_beyond_two : IsPlaced uneven (at 0 0 2 4 1) → ⊥
none_beyond_two h = let z : 3 ≤ 2 = h.upper_end.z in omega (arith, z)

-- ---- tables of the places of points

-- an end of an axis may be the greatest raw number, and nothing lies beyond that
abbrev up_to : ℤ → Window
up_to x1 = record uneven { x1 = x1; nx = 1 }

greatest_place : IsPointPlace (up_to greatest) X 1 greatest
greatest_place = record { is = refl; raw = (record { le = tt }, record { le = tt }) }

place_beyond : IsPointPlace (up_to (pos 4611686018427387904)) X 1 (pos 4611686018427387904) → ⊥
place_beyond h = let most : pos 4611686018427387904 ≤ℤ greatest = h.raw.1 in most.le

-- the points of each axis have their own places: four along x, five along y and three along z
abbrev places_along_x : List ℤ
places_along_x = pos 0 ∷ pos 100 ∷ pos 200 ∷ pos 300 ∷ []

abbrev places_along_y : List ℤ
places_along_y = pos 1000 ∷ pos 1150 ∷ pos 1300 ∷ pos 1450 ∷ pos 1600 ∷ []

abbrev places_along_z : List ℤ
places_along_z = negsuc 29 ∷ pos 15 ∷ pos 60 ∷ []

each_along_x : (i : ℕ) → i ≤ 3 → IsPointPlace uneven X i (slice_index_or places_along_x i (pos 0))
each_along_x zero h = record { is = refl; raw = (record { le = tt }, record { le = tt }) }
each_along_x (suc zero) h = record { is = refl; raw = (record { le = tt }, record { le = tt }) }
each_along_x (suc (suc zero)) h = record { is = refl; raw = (record { le = tt }, record { le = tt }) }
each_along_x (suc (suc (suc zero))) h = record { is = refl; raw = (record { le = tt }, record { le = tt }) }
each_along_x (suc (suc (suc (suc i)))) h = absurd (omega (arith, h))

each_along_y : (i : ℕ) → i ≤ 4 → IsPointPlace uneven Y i (slice_index_or places_along_y i (pos 0))
each_along_y zero h = record { is = refl; raw = (record { le = tt }, record { le = tt }) }
each_along_y (suc zero) h = record { is = refl; raw = (record { le = tt }, record { le = tt }) }
each_along_y (suc (suc zero)) h = record { is = refl; raw = (record { le = tt }, record { le = tt }) }
each_along_y (suc (suc (suc zero))) h = record { is = refl; raw = (record { le = tt }, record { le = tt }) }
each_along_y (suc (suc (suc (suc zero)))) h = record { is = refl; raw = (record { le = tt }, record { le = tt }) }
each_along_y (suc (suc (suc (suc (suc i))))) h = absurd (omega (arith, h))

each_along_z : (i : ℕ) → i ≤ 2 → IsPointPlace uneven Z i (slice_index_or places_along_z i (pos 0))
each_along_z zero h = record { is = refl; raw = (record { le = tt }, record { le = tt }) }
each_along_z (suc zero) h = record { is = refl; raw = (record { le = tt }, record { le = tt }) }
each_along_z (suc (suc zero)) h = record { is = refl; raw = (record { le = tt }, record { le = tt }) }
each_along_z (suc (suc (suc i))) h = absurd (omega (arith, h))

tables_of_uneven : AreTables uneven places_along_x places_along_y places_along_z
tables_of_uneven = record {
  along_x = record { few = omega arith; holds = each_along_x };
  along_y = record { few = omega arith; holds = each_along_y };
  along_z = record { few = omega arith; holds = each_along_z };
}

-- a table is none without the last point
last_point_is_missing : IsTable uneven X (pos 0 ∷ pos 100 ∷ pos 200 ∷ []) → ⊥
last_point_is_missing h =
    let last = h.holds 3 (omega arith) in
    let is : pos 0 ≡ pos 300 = last.is in
    (cc)

-- the points of 512 cells have a table, here of an axis without length, and those of 513 have none
abbrev without_length : ℕ → Window
without_length nx = record uneven { x0 = pos 0; x1 = pos 0; nx = nx }

all_at_zero : (i : ℕ) → IsPointPlace (without_length 512) X i (pos 0)
all_at_zero i = record {
  is = let none : 0 ≡ 0 + 0 * i / 512 = omega arith in ap (λ (n : ℕ). pos n) none;
  raw = (record { le = tt }, record { le = tt });
}

longest_table : IsTable (without_length 512) X (replicate 513 (pos 0))
longest_table = record {
  few = omega arith;
  holds = λ i within.
      subst (λ (place : ℤ). IsPointPlace (without_length 512) X i place)
      (sym (get_or-replicate 513 i (pos 0) (pos 0) (omega (arith, within)))) (all_at_zero i);
}

no_longer_table : (table : List ℤ) → IsTable (without_length 513) X table → ⊥
no_longer_table table h = let few : 513 ≤ 512 = h.few in omega (arith, few)

-- ---- what the faces of cells need

-- the triangles for the sides of each cell are made
abbrev cell : SidedCell
cell = record { x = 1; y = 2; z = 3; signs = 4 }

shapes_of_a_cell : (shapes : Shapes) → AreMade shapes → IsMade shapes 4 → AreShapes (cell ∷ []) shapes
shapes_of_a_cell shapes made is = record { made = made; each = each }
  where
    each : All (λ (c : SidedCell). IsMade shapes c.signs) (cell ∷ [])
    each zero d h = is
    each (suc i) d h = absurd (omega (arith, h))

shape_that_is_missing : (shapes : Shapes) → get_or shapes.places.items 4 0 ≡ 0 → AreShapes (cell ∷ []) shapes → ⊥
shape_that_is_missing shapes none h =
    let is : IsMade shapes 4 = h.each 0 cell (omega arith) in
    let at : get_or shapes.places.items 4 0 ≡ is.place + 1 = is.at in
    omega (arith, none, at)

shapes_without_places : (shapes : Shapes) → length shapes.places.items ≡ 0 → AreShapes [] shapes → ⊥
shapes_without_places shapes none h =
    let room : length shapes.places.items ≡ 256 = h.made.room in
    omega (arith, none, room)

-- the faces of all cells may be made, and of no more than there are
all_may_be_made : (numbering : Numbering) (shapes : Shapes) → HaveCells numbering.n (cell ∷ [])
    → OfCells numbering.n (cell ∷ []) (λ cells. IsNumbered cells numbering.n numbering)
    → OfCells numbering.n (cell ∷ []) (λ cells. HasReached cells numbering.ahead 1)
    → AreShapes (cell ∷ []) shapes → CanGoOn numbering shapes (cell ∷ []) 1
all_may_be_made numbering shapes cells numbered reached tables =
    record { cells = cells; within = omega arith; numbered = numbered; reached = reached; tables = tables }

none_beyond_the_last : (numbering : Numbering) (shapes : Shapes) → CanGoOn numbering shapes (cell ∷ []) 2 → ⊥
none_beyond_the_last numbering shapes h = let within : 2 ≤ 1 = h.within in omega (arith, within)

-- and none are made of a cell that is not numbered
none_before_its_number : (numbering : Numbering) (shapes : Shapes) → numbering.ahead ≡ 0
    → CanGoOn numbering shapes (cell ∷ []) 1 → ⊥
none_before_its_number numbering shapes none h =
    let reached = h.reached h.cells.0 h.cells.1 in
    let first : 1 ≤ numbering.ahead = reached.first in
    omega (arith, none, first)
