-- Ways, cells by their sides, and triangles by their edges, worked out by hand.
use Rattle.std.proofs.Common.{◌≡◌, ◌≤◌, ℕ, pos, negsuc, List, [], ◌∷◌, length, refl, arith}
use Rattle.std.proofs.lemmas.Int.{ints}
use Rattle.std.specs.Int.RustNames.{count_ones}
use Rattle.kuhn_cells.specs.declared.cell_list.CellValues.{CellValues}
use Rattle.kuhn_cells.specs.declared.edge_key.EdgeKey.{EdgeKey}
use Rattle.kuhn_cells.specs.declared.grid_size.GridSize.{GridSize}
use Rattle.kuhn_cells.specs.declared.triple.Triple.{Triple}
use Rattle.tetra_mesh.specs.declared.shape.Shape.{Shape}
use Rattle.tetra_mesh.specs.declared.sided_cell.SidedCell.{SidedCell}
use Rattle.tetra_mesh.specs.Edges.{HasTriangles, among}
use Rattle.tetra_mesh.specs.Numbering.{AreCells, number_in, rank_of, signs_of}
use Rattle.tetra_mesh.specs.Sides.{AreSidesOf}
use Rattle.tetra_mesh.proofs.WayLaws.{IsPartOf}

-- ---- parts of a way

all_of_a_way : IsPartOf (pos 5) (pos 5)
all_of_a_way = record { least = omega (arith, ints); greatest = omega (arith, ints) }

none_of_a_way_down : IsPartOf (negsuc 4) (pos 0)
none_of_a_way_down = record { least = omega (arith, ints); greatest = omega (arith, ints) }

-- none leads the other way, and none further
the_other_way : IsPartOf (pos 5) (negsuc 0) → ⊥
the_other_way h = omega (arith, ints, h.least)

further : IsPartOf (pos 5) (pos 6) → ⊥
further h = omega (arith, ints, h.greatest)

further_down : IsPartOf (negsuc 4) (negsuc 5) → ⊥
further_down h = omega (arith, ints, h.least)

-- ---- cells by their sides

abbrev size : GridSize
size = record { x = 4; y = 4; z = 4 }

-- of its corners the one along y alone is below 0
abbrev cell : CellValues
cell = record {
  x = 1;
  y = 2;
  z = 3;
  values = pos 0 ∷ pos 1 ∷ negsuc 0 ∷ pos 3 ∷ pos 4 ∷ pos 5 ∷ pos 6 ∷ pos 7 ∷ [];
}

sides_of_a_cell : (sided : List SidedCell) → AreSidesOf size (cell ∷ []) sided
    → sided ≡ record { x = 1; y = 2; z = 3; signs = 4 } ∷ []
unfolding signs_of
sides_of_a_cell sided h = h.sides

-- a mesh has at most as many mixed cells as 256 by 256 by 256
no_more_cells : (cells : List CellValues) → AreCells size cells → length cells ≤ 16777216
no_more_cells cells are = are.few

-- an edge of a cell of which nothing is kept has the number 0
nothing_is_kept : number_in size [] (record { x = 1; y = 2; z = 3; dir = 4 }) ≡ 0
unfolding rank_of count_ones
nothing_is_kept = refl

-- ---- triangles by their edges

abbrev edge : ℕ → EdgeKey
edge dir = record { x = 1; y = 2; z = 3; dir = dir }

abbrev triangle : Triple
triangle = record { a = edge 2; b = edge 4; c = edge 6 }

-- what stands at no place is the edge of the lowest point in no direction
edges_of_no_place : among (edge 2 ∷ []) (record { a = 0; b = 1; c = 2 })
    ≡ record {
      a = edge 2;
      b = record { x = 0; y = 0; z = 0; dir = 0 };
      c = record { x = 0; y = 0; z = 0; dir = 0 };
    }
edges_of_no_place = refl

-- a triangle has up to three edges, and two have up to six
edges_of_one : (shape : Shape) → HasTriangles (triangle ∷ []) shape → length shape.edges.items ≤ 3
edges_of_one shape h = h.few

edges_of_two : (shape : Shape) → HasTriangles (triangle ∷ triangle ∷ []) shape → length shape.edges.items ≤ 6
edges_of_two shape h = h.few
