-- How the vertices of a list of mixed cells are numbered.
use Rattle.std.specs.Prelude.{◌≡◌, ℕ, ◌+◌, ◌*◌, ◌%◌, ◌^◌, ◌<◌, ◌≤◌, pos, Bool, List, map, flat_map, take, get_or, length, All, AllPairs, if◌then◌else◌}
use Rattle.std.specs.Int.RustNames.{count_ones}
use Rattle.kuhn_cells.specs.declared.cell_list.CellValues.{CellValues}
use Rattle.kuhn_cells.specs.declared.edge_key.EdgeKey.{EdgeKey}
use Rattle.kuhn_cells.specs.declared.grid_size.GridSize.{GridSize}
use Rattle.kuhn_cells.specs.declared.triple.Triple.{Triple}
use Rattle.kuhn_cells.specs.Arrangement.{differ}
use Rattle.kuhn_cells.specs.Cells.{HasCell, directions_of, edges_of, has_inside, lowest_corner, triangles_of_cell}
use Rattle.kuhn_cells.specs.Faces.{Face, face_among}
use Rattle.kuhn_cells.specs.Laws.{IsCellBefore, OfEdges}
use Rattle.kuhn_cells.specs.Sizes.{IsBounded}
use Rattle.kuhn_cells.specs.Triangles.{edge_from}
use Rattle.tetra_mesh.specs.declared.entry.Entry.{Entry}
use Rattle.tetra_mesh.specs.declared.numbering.Numbering.{Numbering}
use Rattle.tetra_mesh.specs.declared.vertex.Vertex.{Vertex}
use Rattle.mesh_laws.specs.Places.{way_up}

abbrev pub one_if : Bool → ℕ
one_if b = if b then 1 else 0

-- the binary number whose digit of weight 2 ^ k says whether corner k passes a test
abbrev pub digits : (ℕ → Bool) → ℕ
digits f =
    one_if (f 0) + 2 * one_if (f 1) + 4 * one_if (f 2) + 8 * one_if (f 3)
    + 16 * one_if (f 4) + 32 * one_if (f 5) + 64 * one_if (f 6) + 128 * one_if (f 7)

-- which corners of a cell are inside
unfoldable pub signs_of : CellValues → ℕ
signs_of c = digits (has_inside c)

-- which corners of a cell are not on the side of its lowest corner
unfoldable pub mask_of : CellValues → ℕ
mask_of c = digits (λ d. differ (has_inside c 0) (has_inside c d))

-- how many digits of a number stand below one of them
unfoldable pub rank_of : ℕ → ℕ → ℕ
rank_of mask dir = count_ones (mask % 2 ^ dir)

-- the vertices on the edges from the lowest corner of a cell
abbrev pub vertex_on : CellValues → ℕ → Vertex
vertex_on c d = record {
  key = edge_from (lowest_corner c) d;
  t = way_up (get_or c.values 0 (pos 0)) (get_or c.values d (pos 0));
}

abbrev pub vertices_on : CellValues → List Vertex
vertices_on c = map (vertex_on c) (directions_of c)

-- the place in two layers at which what is known of a cell is kept
abbrev pub slot_of : GridSize → ℕ → ℕ → ℕ → ℕ
slot_of n x y z = (z % 2 * n.y + y) * n.x + x

-- what is kept of a cell after others: how many vertices stand before its own, and which edges have one
abbrev pub entry_after : List CellValues → CellValues → Entry
entry_after cells c = record { base = length (flat_map edges_of cells); mask = mask_of c }

abbrev pub no_entry : Entry
no_entry = record { base = 0; mask = 0 }

-- a cell lies in a grid of so many cells along each axis
pub record IsIn (n : GridSize) (c : CellValues) : Type 0 where
  pub x : c.x < n.x
  pub y : c.y < n.y
  pub z : c.z < n.z

-- mixed cells of a grid, of which each edge of each triangle starts at one
pub record AreCells (n : GridSize) (cells : List CellValues) : Type 0 where
  pub bounded : IsBounded n
  pub few : length cells ≤ 16777216
  pub within : All (IsIn n) cells
  pub rise : AllPairs IsCellBefore cells
  pub edges : All (λ c. All (OfEdges (HasCell cells c)) (triangles_of_cell c)) cells

-- a base is small enough that numbers above it fit
abbrev pub IsSmall : Entry → Type 0
IsSmall e = e.base < 2 ^ 31

-- Of cells, so many are numbered. Those are kept that lie in the highest two layers among them.
pub record IsNumbered (cells : List CellValues) (n : GridSize) (s : Numbering) : Type 0 where
  pub width : s.n ≡ n
  pub some : s.ahead ≤ length cells
  pub vertices : s.vertices ≡ length (flat_map edges_of (take s.ahead cells))
  pub room : length s.slots.items ≡ 2 * n.x * n.y
  pub small : All IsSmall s.slots.items
  pub kept : (j : ℕ) (d : CellValues) (e : Entry) → j < s.ahead
      → ((k : ℕ) → k < s.ahead → (get_or cells k d).z ≤ (get_or cells j d).z + 1)
      → let c = get_or cells j d in
      get_or s.slots.items (slot_of n c.x c.y c.z) e ≡ entry_after (take j cells) c

-- no numbered cell lies more than one layer above z
abbrev pub LiesBelow : List CellValues → ℕ → ℕ → Type 0
LiesBelow cells ahead z = (k : ℕ) (d : CellValues) → k < ahead → (get_or cells k d).z ≤ z + 1

-- every cell that lies at most one layer above z is numbered
abbrev pub ReachesAbove : List CellValues → ℕ → ℕ → Type 0
ReachesAbove cells ahead z =
    (k : ℕ) (d : CellValues) → k < length cells → (get_or cells k d).z ≤ z + 1 → k < ahead

-- The first cells of a list are numbered, and no numbered cell lies more than one layer above any
-- of the others.
pub record HasReached (cells : List CellValues) (ahead done : ℕ) : Type 0 where
  pub first : done ≤ ahead
  pub near : (j k : ℕ) (d : CellValues) → j < ahead → done ≤ k → k < length cells
      → (get_or cells j d).z ≤ (get_or cells k d).z + 1

-- the number of a vertex by what is kept of its cell
abbrev pub number_in : GridSize → List Entry → EdgeKey → ℕ
number_in n slots e = let entry =
    get_or slots (slot_of n e.x e.y e.z) no_entry in entry.base + rank_of entry.mask e.dir

abbrev pub face_in : GridSize → List Entry → Triple → Face
face_in n slots t =
    record { a = number_in n slots t.a; b = number_in n slots t.b; c = number_in n slots t.c }

-- the faces of cells, by the places of their vertices among those of all cells
abbrev pub all_faces : List CellValues → List CellValues → List Face
all_faces all cells = map (face_among (flat_map edges_of all)) (flat_map triangles_of_cell cells)

-- two layers of what is kept
pub record AreSlots (n : GridSize) (slots : List Entry) : Type 0 where
  pub bounded : IsBounded n
  pub room : length slots ≡ 2 * n.x * n.y
  pub small : All IsSmall slots

-- an edge whose vertex may be looked up
pub record IsKept (n : GridSize) (e : EdgeKey) : Type 0 where
  pub x : e.x < n.x
  pub y : e.y < n.y
  pub z : e.z < n.z
  pub dir : e.dir < 8
