-- The mesh of the mixed cells of a grid is the mesh of the grid.
use Rattle.std.proofs.Common.{◌≡◌, ℕ, ◌*◌, ◌<◌, ◌≤◌, List, [], ◌∷◌, refl, ap, sym, ◌∙◌, arith}
use Rattle.std.specs.Prelude.{pos, map, flat_map, get_or, length, All}
use Rattle.std.specs.List.{range_with_len}
use Rattle.std.proofs.lemmas.List.Elements.{All-filter, All-head, All-tail, All-weaker}
use Rattle.std.proofs.lemmas.List.FromFn.{get_or-map-range_with_len, get_or-range_with_len}
use Rattle.kuhn_cells.specs.declared.cell_list.CellList.{CellList}
use Rattle.kuhn_cells.specs.declared.cell_list.CellValues.{CellValues}
use Rattle.kuhn_cells.specs.declared.grid_size.GridSize.{GridSize}
use Rattle.kuhn_cells.specs.Arrangement.{differ}
use Rattle.kuhn_cells.specs.Cells.{IsBordered, IsCellOf, cell_at, directions_of, edges_of, has_inside, mixed_cells, lowest_corner}
use Rattle.kuhn_cells.specs.Faces.{Face, all_triangles, face_among, faces}
use Rattle.kuhn_cells.specs.Grids.{Grid, grid_size, value_at, vertices}
use Rattle.kuhn_cells.specs.Lists.{ListsCells}
use Rattle.kuhn_cells.specs.Sizes.{IsBounded}
use Rattle.kuhn_cells.specs.Triangles.{edge_from, further}
use Rattle.kuhn_cells.proofs.CellLaws.{cells_are_few, cells_are_of_the_grid, cells_have_triangles, cells_have_vertices, cells_rise, edges_have_cells, starts}
use Rattle.mesh_laws.proofs.Lists.{flat_of_maps}
use Rattle.tetra_mesh.specs.declared.sided_cell.SidedCell.{SidedCell}
use Rattle.tetra_mesh.specs.declared.vertex.Vertex.{Vertex}
use Rattle.tetra_mesh.specs.CellLaws.{CellsMakeMeshes, MixedCellsAreCells}
use Rattle.tetra_mesh.specs.Cuts.{mesh_of, vertex_of}
use Rattle.mesh_laws.specs.Places.{way_up}
use Rattle.tetra_mesh.specs.Meshes.{Triangulation}
use Rattle.tetra_mesh.specs.Numbering.{AreCells, IsIn, all_faces, vertex_on, vertices_on}
use Rattle.tetra_mesh.specs.Sides.{HasParts, sided_of}
use Rattle.fixed_ops.proofs.Lists.{map_map}

-- ---- the cells

few_cells : (n : GridSize) (x y z : ℕ) → n.x * (n.y * n.z) ≤ 16777216 → x ≡ n.x → y ≡ n.y → z ≡ n.z → x * (y * z) ≤ 16777216
few_cells n x y z all ex ey ez =
    let same : x * (y * z) ≡ n.x * (n.y * n.z) = ap (λ i. i * (y * z)) ex ∙ ap (λ i. n.x * (i * z)) ey ∙ ap (λ i. n.x * (n.y * i)) ez in
    omega (arith, same, all)

pub are_few : (n : GridSize) (list : CellList) (g : Grid) → n.x * (n.y * n.z) ≤ 16777216 → ListsCells n list g → length list.cells.items ≤ 16777216
are_few n list g all is =
    let count = cells_are_few g in
    let most = few_cells n g.x g.y g.z all is.x is.y is.z in
    let same = ap length is.cells in
    omega (arith, count, most, same)

pub are_cells : (n : GridSize) (g : Grid) (vertices : List Vertex) (sided : List SidedCell) → IsBounded n → HasParts n g vertices sided → AreCells n (mixed_cells g)
are_cells n g vertices sided bounded is =
    let x = is.x in
    let y = is.y in
    let z = is.z in
    let within : All (IsIn n) (mixed_cells g) =
    All-weaker (IsCellOf g) (IsIn n) (λ c h. let fx = h.x in let fy = h.y in let fz = h.z in record { x = omega (arith, fx, x); y = omega (arith, fy, y); z = omega (arith, fz, z) }) (mixed_cells g) (cells_are_of_the_grid g) in
    let count = cells_are_few g in
    let most = few_cells n g.x g.y g.z bounded.all x y z in
    record { bounded = bounded; few = omega (arith, count, most); within = within; rise = cells_rise g; edges = edges_have_cells g is.border }

-- ---- the vertices

flat_same : {X A : Type 0} (f h : X → List A) (xs : List X) → All (λ x. f x ≡ h x) xs → flat_map f xs ≡ flat_map h xs
flat_same f h [] same = refl
flat_same f h (x ∷ xs) same =
    let first = All-head (λ x. f x ≡ h x) x xs same in
    let rest = flat_same f h xs (All-tail (λ x. f x ≡ h x) x xs same) in
    cc

directions_near : (c : CellValues) → All (λ d. d < 8) (directions_of c)
unfolding directions_of
directions_near c =
    All-filter (λ d. differ (has_inside c 0) (has_inside c d)) (λ d. d < 8) (range_with_len 1 7) (λ k d few. let h : k < 7 = omega (arith, few) in rw (get_or-range_with_len 1 7 k d h) (omega (arith, h)))

-- the value at a corner of a cell
corner_value : (g : Grid) (c : CellValues) (k : ℕ) → c ≡ cell_at g (lowest_corner c) → k < 8 → get_or c.values k (pos 0) ≡ value_at g (further (lowest_corner c) k)
corner_value g c k is few =
    ap (λ (x : CellValues). get_or x.values k (pos 0)) is ∙ get_or-map-range_with_len (λ d. value_at g (further (lowest_corner c) d)) 0 8 k k (pos 0) few (omega arith)

vertices_of_cell : (g : Grid) (c : CellValues) → IsCellOf g c → map (vertex_of g) (edges_of c) ≡ vertices_on c
vertices_of_cell g c is =
    let p = lowest_corner c in
    let low = sym (ap (value_at g) (starts p)) ∙ sym (corner_value g c 0 is.«is» (omega arith)) in
    map_map (vertex_of g) (edge_from p) (vertex_on c) (directions_of c)
    (All-weaker (λ d. d < 8) (λ d. vertex_of g (edge_from p d) ≡ vertex_on c d) (λ d few.
    let high = sym (corner_value g c d is.«is» few) in
    let make : ℕ → Vertex = λ t. record { key = edge_from p d; t = t } in
    ap make (ap (λ v. way_up v (value_at g (further p d))) low ∙ ap (λ v. way_up (get_or c.values 0 (pos 0)) v) high)) (directions_of c) (directions_near c))

all_vertices : (g : Grid) → IsBordered g → flat_map vertices_on (mixed_cells g) ≡ map (vertex_of g) (vertices g)
all_vertices g border =
    sym (ap (map (vertex_of g)) (cells_have_vertices g border)
    ∙ sym (flat_of_maps (vertex_of g) edges_of (mixed_cells g))
    ∙ flat_same (λ c. map (vertex_of g) (edges_of c)) vertices_on (mixed_cells g) (All-weaker (IsCellOf g) (λ c. map (vertex_of g) (edges_of c) ≡ vertices_on c) (vertices_of_cell g) (mixed_cells g) (cells_are_of_the_grid g)))

-- ---- the faces

faces_of_cells : (g : Grid) → IsBordered g → all_faces (mixed_cells g) (mixed_cells g) ≡ faces g
unfolding faces
faces_of_cells g border =
    sym (ap (λ l. map (face_among l) (all_triangles g)) (cells_have_vertices g border) ∙ ap (map (face_among (flat_map edges_of (mixed_cells g)))) (cells_have_triangles g))

-- ---- the mesh

-- the vertices of the cells of a list, and their places and sides, are those of the grid's mixed cells
pub parts_of_grid : (n : GridSize) (list : CellList) (items : List CellValues) (g : Grid) (vertices : List Vertex) (sided : List SidedCell) → ListsCells n list g → items ≡ list.cells.items → vertices ≡ flat_map vertices_on items → sided ≡ map sided_of items → HasParts n g vertices sided
parts_of_grid n list items g vertices sided is same have sides = record {
  x = is.x;
  y = is.y;
  z = is.z;
  border = is.border;
  on_edges = have ∙ ap (flat_map vertices_on) (same ∙ is.cells);
  sides = sides ∙ ap (map sided_of) (same ∙ is.cells);
}

pub mesh_is : (n : GridSize) (g : Grid) (vertices : List Vertex) (sided : List SidedCell) (faces : List Face) → HasParts n g vertices sided → faces ≡ all_faces (mixed_cells g) (mixed_cells g) → record { vertices = vertices; faces = faces } ≡ mesh_of g
mesh_is n g v sided f is made =
    let make : List Vertex → List Face → Triangulation = λ v f. record { vertices = v; faces = f } in
    ap (λ l. make l f) (is.on_edges ∙ all_vertices g is.border)
    ∙ ap (make (map (vertex_of g) (vertices g))) (made ∙ faces_of_cells g is.border)

-- ---- the same of the grid's own parts

-- the mixed cells of a grid have their vertices, and their places and sides
own_parts : (g : Grid) → IsBordered g → HasParts (grid_size g) g (flat_map vertices_on (mixed_cells g)) (map sided_of (mixed_cells g))
own_parts g border = record { x = refl; y = refl; z = refl; border = border; on_edges = refl; sides = refl }

pub mesh_of_cells : CellsMakeMeshes
mesh_of_cells g border =
    let cells = mixed_cells g in
    sym (mesh_is (grid_size g) g (flat_map vertices_on cells) (map sided_of cells) (all_faces cells cells) (own_parts g border) refl)

pub cells_of_grid : MixedCellsAreCells
cells_of_grid g bounded border =
    are_cells (grid_size g) g (flat_map vertices_on (mixed_cells g)) (map sided_of (mixed_cells g)) bounded (own_parts g border)
