-- The cells behind places and sides, one after another.
use Rattle.std.proofs.Common.{◌≡◌, ℕ, zero, suc, ◌+◌, ◌<◌, ◌≤◌, true, List, [], ◌∷◌, ◌++◌, get_or, length, map, take, drop, refl, subst, sym, ap, ◌∙◌, arith, append-nil, append_assoc, length-append}
use Rattle.std.specs.Prelude.{All, flat_map, pos, ◌-◌}
use Rattle.std.specs.List.{range_with_len}
use Rattle.std.proofs.lemmas.List.{drop-drop, drop-map, drop_more, ext_get_or, get_or-map, get_or_default, length-map, map-append, take-append-drop, take-map, take_more, take_rest}
use Rattle.std.proofs.lemmas.List.Concat.{flat_map-append, flat_map-cons}
use Rattle.std.proofs.lemmas.List.Elements.{All-drop, All-filter, All-map, All-take}
use Rattle.std.proofs.lemmas.List.FromFn.{get_or-range_with_len}
use Rattle.kuhn_cells.specs.declared.cell_list.CellValues.{CellValues}
use Rattle.kuhn_cells.specs.Arrangement.{differ}
use Rattle.kuhn_cells.specs.Cells.{IsCellOf, cell_at, directions_of, has_inside, is_mixed_cell}
use Rattle.kuhn_cells.specs.declared.grid_size.GridSize.{GridSize}
use Rattle.kuhn_cells.specs.Grids.{grid_size}
use Rattle.kuhn_cells.specs.Sizes.{IsBounded}
use Rattle.kuhn_cells.specs.Triangles.{point}
use Rattle.live_clauses.specs.declared.step.Step.{Step}
use Rattle.oct_descent.specs.GridValues.{list_grid}
use Rattle.ply_writer.specs.Ply.{face_line, ply_header, ply_of, vertex_line}
use Rattle.tetra_mesh.specs.declared.sided_cell.SidedCell.{SidedCell}
use Rattle.tetra_mesh.specs.declared.vertex.Vertex.{Vertex}
use Rattle.tetra_mesh.specs.Meshes.{Triangulation}
use Rattle.tetra_mesh.specs.Numbering.{all_faces, vertex_on, vertices_on}
use Rattle.tetra_mesh.specs.Places.{IsPlaced}
use Rattle.tetra_mesh.specs.Sides.{AreSidesOf, sided_of}
use Rattle.view_places.specs.Window.{Window, size_of}
use Rattle.grid_text.specs.Texts.{AreCellsOf, cells_of, lines_left, text_of}
use Rattle.kuhn_cells.proofs.CellLaws.{cells_are_of_the_grid}
use Rattle.tetra_mesh.proofs.GridLaws.{cells_of_grid, mesh_of_cells}
use Rattle.oct_descent.proofs.Blocks.{grids_are_bordered_is}
use Rattle.mesh_laws.proofs.Lattice.{way_is_share}

-- ---- one cell

no_cell : CellValues
no_cell = record { x = 0; y = 0; z = 0; values = [] }

-- the cell that has the place and sides at a place of a list
pub record IsAt (view : Window) (list : List Step) (cells : List CellValues) (i : ℕ) (s : SidedCell) : Type 0 where
  pub cell : CellValues
  pub within : i < length cells
  pub here : cell ≡ get_or cells i cell
  pub sided : s ≡ sided_of cell
  pub own : IsCellOf (list_grid view list) cell

pub at : (view : Window) (list : List Step) (cells : List CellValues) (sided : List SidedCell) (i : ℕ) (d : SidedCell) → AreCellsOf view list cells sided → i < length sided → IsAt view list cells i (get_or sided i d)
at view list cells sided i d are inside =
    let long = ap length are.sides ∙ length-map cells sided_of in
    let within : i < length cells = omega (arith, long, inside) in
    record {
      cell = get_or cells i no_cell;
      within = within;
      here = get_or_default cells i no_cell (get_or cells i no_cell) within;
      sided = ap (λ l. get_or l i d) are.sides ∙ get_or-map sided_of cells i no_cell d within;
      own = are.each i no_cell within;
    }

-- the same, where nothing is known of the grid
pub record IsBehind (cells : List CellValues) (i : ℕ) (s : SidedCell) : Type 0 where
  pub cell : CellValues
  pub within : i < length cells
  pub here : cell ≡ get_or cells i cell
  pub sided : s ≡ sided_of cell

pub behind : (cells : List CellValues) (sided : List SidedCell) (i : ℕ) (d : SidedCell) → sided ≡ map sided_of cells → i < length sided → IsBehind cells i (get_or sided i d)
behind cells sided i d same inside =
    let long = ap length same ∙ length-map cells sided_of in
    let within : i < length cells = omega (arith, long, inside) in
    record {
      cell = get_or cells i no_cell;
      within = within;
      here = get_or_default cells i no_cell (get_or cells i no_cell) within;
      sided = ap (λ l. get_or l i d) same ∙ get_or-map sided_of cells i no_cell d within;
    }

pub grid_x : (view : Window) (list : List Step) → (list_grid view list).x ≡ view.nx
unfolding list_grid
grid_x view list = refl

pub grid_y : (view : Window) (list : List Step) → (list_grid view list).y ≡ view.ny
unfolding list_grid
grid_y view list = refl

pub grid_z : (view : Window) (list : List Step) → (list_grid view list).z ≡ view.nz
unfolding list_grid
grid_z view list = refl

-- it lies in the grid
pub record LiesIn (view : Window) (s : SidedCell) : Type 0 where
  pub x : s.x < view.nx
  pub y : s.y < view.ny
  pub z : s.z < view.nz

pub lies_in : (view : Window) (list : List Step) (cells : List CellValues) (i : ℕ) (s : SidedCell) → IsAt view list cells i s → LiesIn view s
lies_in view list cells i s is = record {
  x = omega (arith, ap (λ (s : SidedCell). s.x) is.sided, is.own.x, grid_x view list);
  y = omega (arith, ap (λ (s : SidedCell). s.y) is.sided, is.own.y, grid_y view list);
  z = omega (arith, ap (λ (s : SidedCell). s.z) is.sided, is.own.z, grid_z view list);
}

-- and it is the one at its place
pub found : (view : Window) (list : List Step) (cells : List CellValues) (i : ℕ) (s : SidedCell) (is : IsAt view list cells i s) → cell_at (list_grid view list) (point s.x s.y s.z) ≡ is.cell
found view list cells i s is =
    ap (λ (s : SidedCell). cell_at (list_grid view list) (point s.x s.y s.z)) is.sided ∙ sym is.own.«is»

pub found_mixed : (view : Window) (list : List Step) (cells : List CellValues) (i : ℕ) (s : SidedCell) → IsAt view list cells i s → is_mixed_cell (cell_at (list_grid view list) (point s.x s.y s.z)) ≡ true
found_mixed view list cells i s is = ap is_mixed_cell (found view list cells i s is) ∙ is.own.mixed

-- ---- its vertices

directions_near : (c : CellValues) → All (λ d. (1 ≤ d) × (d ≤ 7)) (directions_of c)
unfolding directions_of
directions_near c =
    All-filter (λ d. differ (has_inside c 0) (has_inside c d)) (λ d. (1 ≤ d) × (d ≤ 7)) (range_with_len 1 7)
    (λ k d few. let h : k < 7 = omega (arith, few) in rw (get_or-range_with_len 1 7 k d h) (omega arith, omega (arith, h)))

-- the vertices of a cell lie in the grid
pub placed : (view : Window) (list : List Step) (c : CellValues) → IsCellOf (list_grid view list) c → All (IsPlaced view) (vertices_on c)
placed view list c own =
    All-map (IsPlaced view) (vertex_on c) (directions_of c) (λ k e within.
    let d = get_or (directions_of c) k e in
    let near = directions_near c k e within in
    let way = way_is_share (get_or c.values 0 (pos 0)) (get_or c.values d (pos 0)) in
    record {
      direction = record { some = near.0; within = near.1 };
      upper_end = record {
        x = omega (arith, own.x, grid_x view list);
        y = omega (arith, own.y, grid_y view list);
        z = omega (arith, own.z, grid_z view list);
      };
      some = way.some;
      few = way.few;
    })

-- ---- one cell after another

-- the last of the first cells
pub flat_last : {A : Type 0} (f : CellValues → List A) (cells : List CellValues) (i : ℕ) (c : CellValues) → i < length cells → c ≡ get_or cells i c → flat_map f (take (i + 1) cells) ≡ flat_map f (take i cells) ++ f c
flat_last f cells i c within here =
    ap (flat_map f) (take_more cells i c within ∙ ap (λ x. take i cells ++ x ∷ []) (sym here))
    ∙ flat_map-append f (take i cells) (c ∷ [])
    ∙ ap (λ l. flat_map f (take i cells) ++ l) (append-nil (f c))

-- the first of the last cells
pub flat_first : {A : Type 0} (f : CellValues → List A) (cells : List CellValues) (i : ℕ) (c : CellValues) → i < length cells → c ≡ get_or cells i c → flat_map f (drop i cells) ≡ f c ++ flat_map f (drop (i + 1) cells)
flat_first f cells i c within here =
    ap (flat_map f) (drop_more cells i c within ∙ ap (λ x. x ∷ drop (i + 1) cells) (sym here))

-- the lines of one cell more stand before a piece
pub lines_more : (line : Vertex → List ℕ) (cells : List CellValues) (i : ℕ) (c : CellValues) (new now old : List ℕ) → i < length cells → c ≡ get_or cells i c → new ≡ flat_map line (vertices_on c) ++ now
    → now ≡ flat_map line (flat_map vertices_on (drop (i + 1) cells)) ++ old → new ≡ flat_map line (flat_map vertices_on (drop i cells)) ++ old
lines_more line cells i c new now old within here grown stood =
    let own = flat_map line (vertices_on c) in
    let later = flat_map line (flat_map vertices_on (drop (i + 1) cells)) in
    grown
    ∙ ap (λ l. own ++ l) stood
    ∙ sym (append_assoc own later old)
    ∙ ap (λ l. l ++ old) (sym (ap (flat_map line) (flat_first vertices_on cells i c within here) ∙ flat_map-append line (vertices_on c) (flat_map vertices_on (drop (i + 1) cells))))

-- ---- some of the cells

pub part : (view : Window) (list : List Step) (cells : List CellValues) (sided : List SidedCell) (from count : ℕ) → AreCellsOf view list cells sided → AreCellsOf view list (take count (drop from cells)) (take count (drop from sided))
part view list cells sided from count are = record {
  sides = ap (λ l. take count (drop from l)) are.sides ∙ ap (take count) (drop-map sided_of from cells) ∙ take-map sided_of count (drop from cells);
  each = All-take (IsCellOf (list_grid view list)) count (drop from cells) (All-drop (IsCellOf (list_grid view list)) from cells are.each);
}

-- the cells are told by their places
pub same_cells : (view : Window) (list : List Step) (cells others : List CellValues) (sided : List SidedCell) → AreCellsOf view list cells sided → AreCellsOf view list others sided → cells ≡ others
same_cells view list cells others sided are too =
    let long = ap length are.sides ∙ length-map cells sided_of in
    let long_too = ap length too.sides ∙ length-map others sided_of in
    ext_get_or no_cell cells others (omega (arith, long, long_too)) (λ k less.
    let d = sided_of no_cell in
    let is = at view list cells sided k d are (omega (arith, less, long)) in
    let it = at view list others sided k d too (omega (arith, less, long)) in
    get_or_default cells k no_cell is.cell is.within ∙ sym is.here
    ∙ sym (found view list cells k (get_or sided k d) is) ∙ found view list others k (get_or sided k d) it
    ∙ it.here ∙ get_or_default others k it.cell no_cell it.within)

pub next_sides : (cells : List CellValues) (sided : List SidedCell) (from : ℕ) → sided ≡ map sided_of cells → take (length sided - from) (drop from sided) ≡ map sided_of (drop from cells)
next_sides cells sided from same = take_rest sided from ∙ ap (drop from) same ∙ drop-map sided_of from cells

-- and some of those
pub slice_part : (view : Window) (list : List Step) (cells : List CellValues) (sided : List SidedCell) (from count : ℕ) → AreCellsOf view list cells sided
    → AreCellsOf view list (take count (drop from cells)) (take count (take (length sided - from) (drop from sided)))
slice_part view list cells sided from count are =
    subst (AreCellsOf view list (take count (drop from cells))) (sym (ap (take count) (take_rest sided from))) (part view list cells sided from count are)

-- the lines of a part of the cells, and of those behind it
pub lines_parted : (line : Vertex → List ℕ) (cells : List CellValues) (from count : ℕ) (new old : List ℕ) → old ≡ [] → new ≡ flat_map line (flat_map vertices_on (take count (drop from cells))) ++ old
    → flat_map line (flat_map vertices_on (drop from cells)) ≡ new ++ flat_map line (flat_map vertices_on (drop (from + count) cells))
lines_parted line cells from count new old none made =
    let f : List CellValues → List ℕ = λ l. flat_map line (flat_map vertices_on l) in
    let here = take count (drop from cells) in
    let later = drop count (drop from cells) in
    let own : new ≡ f here = made ∙ ap (λ l. f here ++ l) none ∙ append-nil (f here) in
    ap f (sym (take-append-drop count (drop from cells)))
    ∙ ap (flat_map line) (flat_map-append vertices_on here later)
    ∙ flat_map-append line (flat_map vertices_on here) (flat_map vertices_on later)
    ∙ ap (λ l. l ++ f later) (sym own)
    ∙ ap (λ l. new ++ f l) (drop-drop count from cells)

-- ---- one row after another, and one layer

next_flat : {A : Type 0} (f : ℕ → List A) (low n : ℕ) → flat_map f (range_with_len low (suc n)) ≡ flat_map f (range_with_len low n) ++ f (low + n)
next_flat f low zero =
    let from : low ≡ low + 0 = omega arith in
    flat_map-cons f low (range_with_len (low + 1) zero) ∙ append-nil (f low) ∙ ap f from
next_flat f low (suc n) =
    let from : low + 1 + n ≡ low + suc n = omega arith in
    flat_map-cons f low (range_with_len (low + 1) (suc n))
    ∙ ap (λ l. f low ++ l) (next_flat f (low + 1) n)
    ∙ sym (append_assoc (f low) (flat_map f (range_with_len (low + 1) n)) (f (low + 1 + n)))
    ∙ ap (λ l. l ++ f (low + 1 + n)) (sym (flat_map-cons f low (range_with_len (low + 1) n)))
    ∙ ap (λ k. flat_map f (range_with_len low (suc n)) ++ f k) from

-- the places and sides of one part more
pub sides_more : (f : ℕ → List CellValues) (n : ℕ) (old now new own : List SidedCell) → now ≡ old ++ map sided_of (flat_map f (range_with_len 0 n)) → own ≡ map sided_of (f n) → new ≡ now ++ own
    → new ≡ old ++ map sided_of (flat_map f (range_with_len 0 (n + 1)))
sides_more f n old now new own stood is grown =
    let before = map sided_of (flat_map f (range_with_len 0 n)) in
    let from : 0 + n ≡ n = omega arith in
    let more : n + 1 ≡ suc n = omega arith in
    let whole : flat_map f (range_with_len 0 (n + 1)) ≡ flat_map f (range_with_len 0 n) ++ f n = ap (λ k. flat_map f (range_with_len 0 k)) more ∙ next_flat f 0 n ∙ ap (λ k. flat_map f (range_with_len 0 n) ++ f k) from in
    grown
    ∙ ap (λ l. l ++ own) stood
    ∙ append_assoc old before own
    ∙ ap (λ l. old ++ (before ++ l)) is
    ∙ ap (λ l. old ++ l) (sym (map-append sided_of (flat_map f (range_with_len 0 n)) (f n)) ∙ ap (map sided_of) (sym whole))

-- ---- all cells of the grid

size_is : (view : Window) (list : List Step) → grid_size (list_grid view list) ≡ size_of view
unfolding list_grid
size_is view list = refl

pub own_cells : (view : Window) (list : List Step) (sided : List SidedCell) → sided ≡ map sided_of (cells_of view list) → AreCellsOf view list (cells_of view list) sided
own_cells view list sided same = record { sides = same; each = cells_are_of_the_grid (list_grid view list) }

pub own_sides : (view : Window) (list : List Step) (n : GridSize) (sided : List SidedCell) → n ≡ size_of view → IsBounded n → sided ≡ map sided_of (cells_of view list)
    → AreSidesOf n (cells_of view list) sided
own_sides view list n sided size bounded same =
    let whole : grid_size (list_grid view list) ≡ n = size_is view list ∙ sym size in
    subst (λ m. AreSidesOf m (cells_of view list) sided) whole
    (record { mixed = cells_of_grid (list_grid view list) (subst IsBounded (sym whole) bounded) (grids_are_bordered_is view list); sides = same })

-- the header, and what comes after it, is the whole text
pub text_is : (view : Window) (list : List Step) (vertices faces made : ℕ) (bytes none : List ℕ) → vertices ≡ length (flat_map vertices_on (cells_of view list))
    → faces ≡ length (all_faces (cells_of view list) (cells_of view list)) → made ≡ 0 → none ≡ [] → bytes ≡ ply_header vertices faces ++ none → bytes ++ lines_left view list 0 made ≡ text_of view list
text_is view list vertices faces made bytes none vs fs start empty is =
    let cells = cells_of view list in
    let header = ply_header (length (flat_map vertices_on cells)) (length (all_faces cells cells)) in
    let head : bytes ≡ header = is ∙ ap (λ l. ply_header vertices faces ++ l) empty ∙ append-nil (ply_header vertices faces) ∙ ap (λ n. ply_header n faces) vs ∙ ap (ply_header (length (flat_map vertices_on cells))) fs in
    let vertices = flat_map vertices_on cells in
    let faces = all_faces cells cells in
    let whole : text_of view list ≡ ply_of view vertices faces = ap (λ (mesh : Triangulation). ply_of view mesh.vertices mesh.faces) (mesh_of_cells (list_grid view list) (grids_are_bordered_is view list)) in
    let lines : header ++ lines_left view list 0 0 ≡ ply_of view vertices faces = sym (append_assoc header (flat_map (vertex_line view) vertices) (flat_map face_line faces)) in
    ap (λ l. l ++ lines_left view list 0 made) head ∙ ap (λ k. header ++ lines_left view list 0 k) start ∙ lines ∙ sym whole

-- a piece that has a byte comes before what is left
pub some_left : (lines piece rest after all : List ℕ) → lines ≡ piece ++ rest → 0 < length piece → all ≡ lines ++ after → all ≡ [] → 1 ≤ 0
some_left lines piece rest after all is some whole none =
    absurd (omega (arith, some, ap length is, ap length whole, ap length none, length-append piece rest, length-append lines after))
