-- The faces of one cell after another.
use Rattle.std.proofs.Common.{◌≡◌, ℕ, ◌+◌, ◌<◌, List, [], ◌∷◌, ◌++◌, refl, ap, sym, ◌∙◌, subst, arith}
use Rattle.std.specs.Prelude.{map, flat_map, drop, take, get_or, length, All, Contains}
use Rattle.std.proofs.lemmas.List.{append_assoc, drop_more, get_or_default, map-append}
use Rattle.std.proofs.lemmas.List.Elements.{All-contains, All-weaker}
use Rattle.kuhn_cells.specs.declared.cell_list.CellValues.{CellValues}
use Rattle.kuhn_cells.specs.declared.edge_key.EdgeKey.{EdgeKey}
use Rattle.kuhn_cells.specs.declared.grid_size.GridSize.{GridSize}
use Rattle.kuhn_cells.specs.Cells.{HasCell, directions_of, edges_of, lowest_corner, triangles_of_cell}
use Rattle.kuhn_cells.specs.Faces.{Face, face_among, number_among}
use Rattle.kuhn_cells.specs.Grids.{lower}
use Rattle.kuhn_cells.specs.Laws.{OfEdges}
use Rattle.kuhn_cells.specs.Triangles.{GridPoint, edge_from}
use Rattle.tetra_mesh.specs.declared.entry.Entry.{Entry}
use Rattle.tetra_mesh.specs.declared.numbering.Numbering.{Numbering}
use Rattle.tetra_mesh.specs.Numbering.{AreCells, AreSlots, HasReached, IsIn, IsKept, IsNumbered, LiesBelow, ReachesAbove, all_faces, face_in, no_entry, number_in, rank_of, slot_of}
use Rattle.tetra_mesh.proofs.NumberLaws.{is_direction, number_by_cells}
use Rattle.tetra_mesh.proofs.ReachLaws.{not_above}
use Rattle.fixed_ops.proofs.Lists.{map_same}

-- ---- the edges of a cell

edges_at : (cells : List CellValues) (n : GridSize) (i : ℕ) (c : CellValues) → AreCells n cells → i < length cells → c ≡ get_or cells i c → All (OfEdges (HasCell cells c)) (triangles_of_cell c)
edges_at cells n i c are within here =
    let P : CellValues → Type 0 = λ x. All (OfEdges (HasCell cells x)) (triangles_of_cell x) in
    subst P (sym here) (are.edges i c within)

edge_kept : (cells : List CellValues) (n m : GridSize) (c : CellValues) (e : EdgeKey) → AreCells n cells → m ≡ n → HasCell cells c e → IsKept m e
edge_kept cells n m c e are same h =
    let is = All-contains (IsIn n) cells h.cell are.within h.listed in
    let x : h.cell.x ≡ e.x = ap (λ (p : GridPoint). p.x) h.place in
    let y : h.cell.y ≡ e.y = ap (λ (p : GridPoint). p.y) h.place in
    let dir = is_direction h.cell e.dir h.direction in
    let fx = is.x in
    let fy = is.y in
    let z : h.cell.z ≡ e.z = ap (λ (p : GridPoint). p.z) h.place in
    let fz = is.z in
    let P : GridSize → Type 0 = λ s. IsKept s e in
    subst P (sym same) (record { x = omega (arith, x, fx); y = omega (arith, y, fy); z = omega (arith, z, fz); dir = dir.1 })

pub all_kept : (cells : List CellValues) (n m : GridSize) (i : ℕ) (c : CellValues) → AreCells n cells → m ≡ n → i < length cells → c ≡ get_or cells i c → All (OfEdges (IsKept m)) (triangles_of_cell c)
all_kept cells n m i c are same within here =
    let keep = λ (e : EdgeKey) (h : HasCell cells c e). edge_kept cells n m c e are same h in
    All-weaker (OfEdges (HasCell cells c)) (OfEdges (IsKept m)) (λ t h. record { a = keep t.a h.a; b = keep t.b h.b; c = keep t.c h.c }) (triangles_of_cell c) (edges_at cells n i c are within here)

-- what is looked up is the place of the vertex
looked_up : (cells : List CellValues) (n : GridSize) (s : Numbering) (c : CellValues) (e : EdgeKey) → AreCells n cells → IsNumbered cells n s → LiesBelow cells s.ahead c.z → ReachesAbove cells s.ahead c.z → HasCell cells c e → number_in n s.slots.items e ≡ number_among (flat_map edges_of cells) e
looked_up cells n s c e are is below reached h =
    let j = h.listed.0 in
    let within = h.listed.1 in
    let b = get_or cells j h.cell in
    let same : b ≡ h.cell = h.listed.2 in
    let place : lowest_corner b ≡ lower e = ap lowest_corner same ∙ h.place in
    let z : b.z ≡ e.z = ap (λ (p : GridPoint). p.z) place in
    let above = h.above in
    let near = h.near in
    let numbered : j < s.ahead = reached j h.cell within (omega (arith, z, near)) in
    let kept = is.kept j h.cell no_entry numbered (λ k less. let low = below k h.cell less in omega (arith, low, z, above)) in
    let number : Entry → ℕ = λ entry. entry.base + rank_of entry.mask e.dir in
    let slot = ap (λ (p : GridPoint). slot_of n p.x p.y p.z) place in
    let P : CellValues → Type 0 = λ x. Contains (directions_of x) e.dir in
    let direction = subst P (sym same) h.direction in
    let key : edge_from (lowest_corner b) e.dir ≡ e = ap (λ p. edge_from p e.dir) place in
    ap (λ i. number (get_or s.slots.items i no_entry)) (sym slot)
    ∙ ap number kept
    ∙ sym (number_by_cells cells j e.dir h.cell are.rise within direction)
    ∙ ap (number_among (flat_map edges_of cells)) key

pub faces_here : (cells : List CellValues) (n : GridSize) (s : Numbering) (i : ℕ) (c : CellValues) → AreCells n cells → IsNumbered cells n s → LiesBelow cells s.ahead c.z → ReachesAbove cells s.ahead c.z → i < length cells → c ≡ get_or cells i c → map (face_in n s.slots.items) (triangles_of_cell c) ≡ map (face_among (flat_map edges_of cells)) (triangles_of_cell c)
faces_here cells n s i c are is below reached within here =
    let look = λ (e : EdgeKey) (h : HasCell cells c e). looked_up cells n s c e are is below reached h in
    let all = flat_map edges_of cells in
    map_same (face_in n s.slots.items) (face_among all) (triangles_of_cell c)
    (All-weaker (OfEdges (HasCell cells c)) (λ t. face_in n s.slots.items t ≡ face_among all t) (λ t h. rw (look t.a h.a, look t.b h.b, look t.c h.c) refl) (triangles_of_cell c) (edges_at cells n i c are within here))

-- ---- one cell after another

-- what is left after one cell more
pub faces_next : (cells : List CellValues) (i : ℕ) (c : CellValues) (all now new here : List Face) → i < length cells → c ≡ get_or cells i c → new ≡ now ++ here → all ≡ now ++ all_faces cells (drop i cells) → here ≡ map (face_among (flat_map edges_of cells)) (triangles_of_cell c) → all ≡ new ++ all_faces cells (drop (i + 1) cells)
faces_next cells i c all now new here within is grown stood own =
    let f = face_among (flat_map edges_of cells) in
    let later = drop (i + 1) cells in
    let split : drop i cells ≡ c ∷ later = drop_more cells i c within ∙ ap (λ x. x ∷ later) (sym is) in
    stood
    ∙ ap (λ l. now ++ all_faces cells l) split
    ∙ ap (λ l. now ++ l) (map-append f (triangles_of_cell c) (flat_map triangles_of_cell later) ∙ ap (λ l. l ++ all_faces cells later) (sym own))
    ∙ sym (append_assoc now here (all_faces cells later))
    ∙ ap (λ l. l ++ all_faces cells later) (sym grown)

pub below_at : (cells : List CellValues) (ahead i : ℕ) (c : CellValues) → HasReached cells ahead i → i < length cells → c ≡ get_or cells i c → LiesBelow cells ahead c.z
below_at cells ahead i c reached within here k d less =
    let same : (get_or cells i d).z ≡ c.z = ap (λ (x : CellValues). x.z) (get_or_default cells i d c within ∙ sym here) in
    let near = reached.near k i d less (omega arith) within in
    omega (arith, near, same)

pub reached_more : (cells : List CellValues) (n : GridSize) (ahead i : ℕ) (c : CellValues) → AreCells n cells → i < length cells → c ≡ get_or cells i c → LiesBelow cells ahead c.z → ReachesAbove cells ahead c.z → HasReached cells ahead (i + 1)
reached_more cells n ahead i c are within here below above =
    let own : (get_or cells i c).z ≡ c.z = ap (λ (x : CellValues). x.z) (sym here) in
    let numbered = above i c within (omega (arith, own)) in
    record {
      first = omega (arith, numbered);
      near = λ j k d less later inside.
          let same : (get_or cells i d).z ≡ c.z = ap (λ (x : CellValues). x.z) (get_or_default cells i d c within ∙ sym here) in
          let low = below j d less in
          let rises = not_above (get_or cells i d) (get_or cells k d) (are.rise i k d (omega (arith, later)) inside) in
          omega (arith, low, same, rises);
    }

-- ---- the same, where a size is spelled in two ways

pub numbered_as : (cells : List CellValues) (n m : GridSize) (s : Numbering) → n ≡ m → IsNumbered cells n s → IsNumbered cells m s
numbered_as cells n m s same is = let P : GridSize → Type 0 = λ i. IsNumbered cells i s in subst P same is

pub slots_of : (cells : List CellValues) (n m : GridSize) (s : Numbering) (slots : List Entry) → AreCells n cells → IsNumbered cells n s → m ≡ n → slots ≡ s.slots.items → AreSlots m slots
slots_of cells n m s slots are is same equal =
    let P : GridSize → Type 0 = λ i. AreSlots i slots in
    let Q : List Entry → Type 0 = λ l. AreSlots n l in
    subst P (sym same) (subst Q (sym equal) (record { bounded = are.bounded; room = is.room; small = is.small }))

-- where nothing is numbered, no list matters
pub nothing : (cells : List CellValues) (n : GridSize) (s : Numbering) → IsNumbered [] n s → s.ahead ≡ 0
nothing cells n s is = let some = is.some in omega (arith, some)

pub started : (cells : List CellValues) (n : GridSize) (s : Numbering) → IsNumbered [] n s → IsNumbered cells n s
started cells n s is =
    let some = is.some in
    let none : s.ahead ≡ 0 = omega (arith, some) in
    record {
      width = is.width;
      some = omega (arith, none);
      vertices = is.vertices ∙ ap (λ i. length (flat_map edges_of (take i []))) none ∙ sym (ap (λ i. length (flat_map edges_of (take i cells))) none);
      room = is.room;
      small = is.small;
      kept = λ j d e less near. absurd (omega (arith, less, none));
    }
