-- The cells behind places and sides.
use Rattle.std.proofs.Common.{◌≡◌, ℕ, ◌<◌, List, [], ◌∷◌, ◌++◌, sym, ap, ◌∙◌, subst, arith}
use Rattle.std.specs.Prelude.{flat_map, get_or, length, map, set, take, ◌+◌}
use Rattle.std.specs.Int.RustNames.{count_ones}
use Rattle.std.proofs.lemmas.List.{append-nil, get_or-map, get_or_default, length-append, length-map, take_more}
use Rattle.std.proofs.lemmas.List.Concat.{flat_map-append}
use Rattle.kuhn_cells.specs.declared.cell_list.CellValues.{CellValues}
use Rattle.kuhn_cells.specs.declared.grid_size.GridSize.{GridSize}
use Rattle.kuhn_cells.specs.Cells.{directions_of, edges_of, lowest_corner}
use Rattle.kuhn_cells.specs.Triangles.{edge_from}
use Rattle.tetra_mesh.specs.declared.entry.Entry.{Entry}
use Rattle.tetra_mesh.specs.declared.numbering.Numbering.{Numbering}
use Rattle.tetra_mesh.specs.declared.sided_cell.SidedCell.{SidedCell}
use Rattle.tetra_mesh.specs.Numbering.{LiesBelow, ReachesAbove, mask_of, slot_of, vertex_on, vertices_on}
use Rattle.tetra_mesh.specs.Sides.{AreSidesOf, Numbers, mask_by, sided_of}
use Rattle.tetra_mesh.proofs.Bits.{mask_is, ones}

-- the cell of a list that has a place and sides
pub record IsBehind (cells : List CellValues) (i : ℕ) (s : SidedCell) : Type 0 where
  pub cell : CellValues
  pub within : i < length cells
  pub here : cell ≡ get_or cells i cell
  pub sided : s ≡ sided_of cell

no_cell : CellValues
no_cell = record { x = 0; y = 0; z = 0; values = [] }

abbrev pub no_sides : SidedCell
no_sides = record { x = 0; y = 0; z = 0; signs = 0 }

pub behind : (cells : List CellValues) (sided : List SidedCell) (i : ℕ) → sided ≡ map sided_of cells → i < length sided → IsBehind cells i (get_or sided i no_sides)
behind cells sided i same inside =
    let long = ap length same ∙ length-map cells sided_of in
    let within : i < length cells = omega (arith, long, inside) in
    record {
      cell = get_or cells i no_cell;
      within = within;
      here = get_or_default cells i no_cell (get_or cells i no_cell) within;
      sided = ap (λ l. get_or l i no_sides) same ∙ get_or-map sided_of cells i no_cell no_sides within;
    }

-- the same, where a size or a number is spelled in two ways
pub sides_as : (cells : List CellValues) (sided : List SidedCell) (n m : GridSize) → n ≡ m → AreSidesOf n cells sided → AreSidesOf m cells sided
sides_as cells sided n m same are = let P : GridSize → Type 0 = λ i. AreSidesOf i cells sided in subst P same are

pub lower_z : (cells : List CellValues) (ahead y z : ℕ) → y ≡ z → LiesBelow cells ahead y → LiesBelow cells ahead z
lower_z cells ahead y z same below = let P : ℕ → Type 0 = λ i. LiesBelow cells ahead i in subst P same below

pub upper_z : (cells : List CellValues) (ahead y z : ℕ) → y ≡ z → ReachesAbove cells ahead y → ReachesAbove cells ahead z
upper_z cells ahead y z same reached =
    let P : ℕ → Type 0 = λ i. ReachesAbove cells ahead i in subst P same reached

-- one more cell is numbered
pub record NumbersCell (c : CellValues) (old new : Numbering) : Type 0 where
  pub width : new.n ≡ old.n
  pub ahead : new.ahead ≡ old.ahead + 1
  pub vertices : new.vertices ≡ old.vertices + length (edges_of c)
  pub slots : new.slots.items ≡ set old.slots.items (slot_of old.n c.x c.y c.z) (record { base = old.vertices; mask = mask_of c })

-- so it is where its place and sides are
pub numbers_cell : (c : CellValues) (s : SidedCell) (old new : Numbering) → s ≡ sided_of c → Numbers s old new → NumbersCell c old new
numbers_cell c s old new same numbers =
    let P : SidedCell → Type 0 = λ s. Numbers s old new in
    let step = subst P same numbers in
    let make : ℕ → Entry = λ m. record { base = old.vertices; mask = m } in
    record {
      width = step.width;
      ahead = step.ahead;
      vertices = step.vertices ∙ ap (λ n. old.vertices + n) (ap count_ones (mask_is c) ∙ ones c ∙ sym (length-map (directions_of c) (edge_from (lowest_corner c))));
      slots = step.slots ∙ ap (λ m. set old.slots.items (slot_of old.n c.x c.y c.z) (make m)) (mask_is c);
    }

-- ---- counts

-- a cell has as many vertices as directions to the other side, which are seven at most
pub vertices_counted : (s : SidedCell) (c : CellValues) → s ≡ sided_of c → count_ones (mask_by s.signs) ≡ length (vertices_on c)
vertices_counted s c same =
    ap (λ (x : SidedCell). count_ones (mask_by x.signs)) same ∙ ap count_ones (mask_is c) ∙ ones c ∙ sym (length-map (directions_of c) (vertex_on c))

-- a count of something at each cell goes on with one more
pub count_more : {A : Type 0} (f : CellValues → List A) (cells : List CellValues) (i count own : ℕ) (c : CellValues) → i < length cells → c ≡ get_or cells i c → own ≡ length (f c) → count ≡ length (flat_map f (take i cells)) → count + own ≡ length (flat_map f (take (i + 1) cells))
count_more f cells i count own c within here is stood =
    let before = flat_map f (take i cells) in
    let taken : take (i + 1) cells ≡ take i cells ++ c ∷ [] = take_more cells i c within ∙ ap (λ x. take i cells ++ x ∷ []) (sym here) in
    let whole : flat_map f (take (i + 1) cells) ≡ before ++ f c =
    ap (flat_map f) taken ∙ flat_map-append f (take i cells) (c ∷ []) ∙ ap (λ l. before ++ l) (append-nil (f c)) in
    omega (arith, is, stood, ap length whole, length-append before (f c))
