-- The mixed cells of a grid have all of its mesh.
use Rattle.std.proofs.Common.{◌≡◌, ℕ, zero, suc, ◌+◌, ◌*◌, ◌/◌, ◌%◌, ◌<◌, ◌≤◌, Bool, true, false, List, [], ◌∷◌, refl, arith, ◌∙◌, ap, subst, sym, inl, inr, add-zero, cond}
use Rattle.std.specs.Prelude.{◌⊎◌, ◌||◌, ◌==◌, not, pos, map, filter, flat_map, get_or, length, All, AllPairs, Contains}
use Rattle.std.specs.List.{list_any, range_with_len}
use Rattle.std.proofs.lemmas.Bool.{and_cases, and_parts, eq-eqb, leb-true, le-leb, and_from, not-false, or_left, or_right, or_parts}
use Rattle.std.proofs.lemmas.List.{append-nil}
use Rattle.std.proofs.lemmas.List.Elements.{All-cons, All-filter, All-map, All-nil, All-same, All-weaker, filter_passes}
use Rattle.std.proofs.lemmas.List.Kept.{AllPairs-filter}
use Rattle.fixed_ops.specs.Raw.{is_inside}
use Rattle.kuhn_cells.specs.declared.cell_list.CellValues.{CellValues}
use Rattle.kuhn_cells.specs.declared.edge_key.EdgeKey.{EdgeKey}
use Rattle.kuhn_cells.specs.Arrangement.{differ}
use Rattle.kuhn_cells.specs.Cells.{HasCell, IsBordered, IsCellOf, cell_at, directions_of, edges_of, has_inside, is_mixed_cell, is_outermost, mixed_cells, lowest_corner, triangles_of_cell}
use Rattle.kuhn_cells.specs.Corners.{along_x, along_y, along_z}
use Rattle.kuhn_cells.specs.Faces.{all_triangles, cell_triangles}
use Rattle.kuhn_cells.specs.Grids.{Grid, is_inside_at, is_mixed, is_point, lower, over_block, upper, vertices}
use Rattle.kuhn_cells.specs.Laws.{CellsAreFew, CellsAreOfTheGrid, CellsHaveTriangles, CellsHaveVertices, CellsRise, EdgesHaveCells, IsCellBefore, OfEdges}
use Rattle.kuhn_cells.specs.Triangles.{GridPoint, edge_from, further, point, triangles_by}
use Rattle.kuhn_cells.proofs.EdgeLaws.{IsParting, all_tetrahedra}
use Rattle.kuhn_cells.proofs.FaceLaws.{all_in_block, vertex_of}
use Rattle.kuhn_cells.proofs.VertexLaws.{in_vertices}
use Rattle.fixed_ops.proofs.Lists.{all_flat, all_kept, filter_flat, filter_length, filter_of_map, flat_flat, flat_last, flat_length, flat_none, flat_same, from_flat, from_map, in_order, none_left}

-- ---- blocks of lists

-- what a block of lists is where those of its last layers are empty
trimmed : {A : Type 0} (nx ny nz : ℕ) (at : GridPoint → List A) → ((x y z : ℕ) → x ≤ nx → y ≤ ny → z ≤ nz → (x ≡ nx) ⊎ ((y ≡ ny) ⊎ (z ≡ nz)) → at (point x y z) ≡ []) → over_block (nx + 1) (ny + 1) (nz + 1) at ≡ over_block nx ny nz at
trimmed nx ny nz at none =
    flat_last _ 0 nz (flat_none _ 0 (ny + 1) (λ y fy. flat_none _ 0 (nx + 1) (λ x fx. none x y (0 + nz) (omega (arith, fx)) (omega (arith, fy)) (omega arith) (inr (inr (omega arith))))))
    ∙ flat_same _ _ 0 nz (λ z fz.
    flat_last _ 0 ny (flat_none _ 0 (nx + 1) (λ x fx. none x (0 + ny) z (omega (arith, fx)) (omega arith) (omega (arith, fz)) (inr (inl (omega arith)))))
    ∙ flat_same _ _ 0 ny (λ y fy. flat_last _ 0 nx (none (0 + nx) y z (omega arith) (omega (arith, fy)) (omega (arith, fz)) (inl (omega arith)))))

block_same : {A : Type 0} (nx ny nz : ℕ) (at by : GridPoint → List A) → ((x y z : ℕ) → x < nx → y < ny → z < nz → at (point x y z) ≡ by (point x y z)) → over_block nx ny nz at ≡ over_block nx ny nz by
block_same nx ny nz at by same =
    flat_same _ _ 0 nz (λ z fz. flat_same _ _ 0 ny (λ y fy. flat_same _ _ 0 nx (λ x fx. same x y z (omega (arith, fx)) (omega (arith, fy)) (omega (arith, fz)))))

-- ---- a filter of a block

filter_block : {A : Type 0} (p : A → Bool) (nx ny nz : ℕ) (at : GridPoint → List A) → filter p (over_block nx ny nz at) ≡ over_block nx ny nz (λ q. filter p (at q))
filter_block p nx ny nz at =
    filter_flat p _ (range_with_len 0 nz)
    ∙ flat_same _ _ 0 nz (λ z fz. filter_flat p _ (range_with_len 0 ny) ∙ flat_same _ _ 0 ny (λ y fy. filter_flat p _ (range_with_len 0 nx)))

flat_block : {A B : Type 0} (h : A → List B) (nx ny nz : ℕ) (at : GridPoint → List A) → flat_map h (over_block nx ny nz at) ≡ over_block nx ny nz (λ q. flat_map h (at q))
flat_block h nx ny nz at =
    flat_flat h _ (range_with_len 0 nz)
    ∙ flat_same _ _ 0 nz (λ z fz. flat_flat h _ (range_with_len 0 ny) ∙ flat_same _ _ 0 ny (λ y fy. flat_flat h _ (range_with_len 0 nx)))

-- ---- the mixed cells of a block

only : CellValues → List CellValues
only c = filter is_mixed_cell (c ∷ [])

-- what the mixed cells of a grid have is what all cells have, where the others have nothing
over_cells : {A : Type 0} (g : Grid) (f : CellValues → List A) (at : GridPoint → List A) → ((x y z : ℕ) → x < g.x → y < g.y → z < g.z → at (point x y z) ≡ f (cell_at g (point x y z))) → ((p : GridPoint) → is_mixed_cell (cell_at g p) ≡ false → f (cell_at g p) ≡ []) → over_block g.x g.y g.z at ≡ flat_map f (mixed_cells g)
unfolding mixed_cells
over_cells g f at same none =
    sym (ap (flat_map f) (filter_block is_mixed_cell g.x g.y g.z (λ p. cell_at g p ∷ []))
    ∙ flat_block f g.x g.y g.z (λ p. filter is_mixed_cell (cell_at g p ∷ []))
    ∙ block_same g.x g.y g.z (λ p. flat_map f (filter is_mixed_cell (cell_at g p ∷ []))) at (λ x y z fx fy fz. here (point x y z) ∙ sym (same x y z fx fy fz)))
  where
    by : (c : CellValues) (b : Bool) → (b ≡ false → f c ≡ []) → flat_map f (cond b (c ∷ []) []) ≡ f c
    by c true empty = append-nil (f c)
    by c false empty = sym (empty refl)

    here : (p : GridPoint) → flat_map f (filter is_mixed_cell (cell_at g p ∷ [])) ≡ f (cell_at g p)
    here p = by (cell_at g p) (is_mixed_cell (cell_at g p)) (none p)

-- ---- cells whose corners agree

passes_none : {X : Type 0} (p : X → Bool) (xs : List X) (k : ℕ) (d : X) → list_any p xs ≡ false → k < length xs → p (get_or xs k d) ≡ false
passes_none p [] k d h within = absurd (omega (arith, within))
passes_none p (x ∷ xs) zero d h within = (or_parts (p x) (list_any p xs) h).0
passes_none p (x ∷ xs) (suc k) d h within = passes_none p xs k d (or_parts (p x) (list_any p xs) h).1 (omega (arith, within))

-- every corner of a cell that is not mixed is on the side of its lowest corner
agree : (c : CellValues) (k : ℕ) → is_mixed_cell c ≡ false → k < length c.values → has_inside c k ≡ has_inside c 0
agree c k h within = by (and_cases (list_any is_inside c.values) (list_any (λ v. not (is_inside v)) c.values) h)
  where
    by : (list_any is_inside c.values ≡ false) ⊎ (list_any (λ v. not (is_inside v)) c.values ≡ false) → has_inside c k ≡ has_inside c 0
    by (inl none) = passes_none is_inside c.values k (pos 0) none within ∙ sym (passes_none is_inside c.values 0 (pos 0) none (omega (arith, within)))
    by (inr none) =
        not-false _ (passes_none (λ v. not (is_inside v)) c.values k (pos 0) none within) ∙ sym (not-false _ (passes_none (λ v. not (is_inside v)) c.values 0 (pos 0) none (omega (arith, within))))

-- signs that are equal do not differ
pub same_side : (b c : Bool) → c ≡ b → differ b c ≡ false
same_side true c e = rw e refl
same_side false c e = e

no_directions : (c : CellValues) → is_mixed_cell c ≡ false → length c.values ≡ 8 → directions_of c ≡ []
unfolding directions_of
no_directions c h eight =
    let at = λ (k : ℕ) (few : k < 8). same_side (has_inside c 0) (has_inside c k) (agree c k h (omega (arith, few, eight))) in
    rw (at 1 (omega arith), at 2 (omega arith), at 3 (omega arith), at 4 (omega arith), at 5 (omega arith), at 6 (omega arith), at 7 (omega arith)) refl

-- corners that agree have no triangle
alike : (p : GridPoint) (tetra : ℕ) (v : Bool) → triangles_by p tetra (v ∷ v ∷ v ∷ v ∷ []) ≡ []
alike p tetra true = refl
alike p tetra false = refl

no_triangles : (c : CellValues) → is_mixed_cell c ≡ false → length c.values ≡ 8 → triangles_of_cell c ≡ []
unfolding triangles_of_cell
no_triangles c h eight =
    let v = has_inside c 0 in
    let p = lowest_corner c in
    let at = λ (k : ℕ) (few : k < 8). agree c k h (omega (arith, few, eight)) in
    let x = at 1 (omega arith) in
    let y = at 2 (omega arith) in
    let xy = at 3 (omega arith) in
    let z = at 4 (omega arith) in
    let xz = at 5 (omega arith) in
    let yz = at 6 (omega arith) in
    let xyz = at 7 (omega arith) in
    let pattern = λ (a b : ℕ) (e : has_inside c a ≡ v) (f : has_inside c b ≡ v). four v (has_inside c a) (has_inside c b) (has_inside c 7) e f xyz in
    let none = λ (tetra : ℕ) (vs : List Bool) (e : vs ≡ v ∷ v ∷ v ∷ v ∷ []). ap (triangles_by p tetra) e ∙ alike p tetra v in
    rw (none 0 _ (pattern 1 3 x xy), none 1 _ (pattern 1 5 x xz), none 2 _ (pattern 2 3 y xy), none 3 _ (pattern 2 6 y yz), none 4 _ (pattern 4 5 z xz), none 5 _ (pattern 4 6 z yz)) refl
  where
    four : (v a b d : Bool) → a ≡ v → b ≡ v → d ≡ v → v ∷ a ∷ b ∷ d ∷ [] ≡ v ∷ v ∷ v ∷ v ∷ []
    four v a b d e f g = rw (e, f, g) refl

-- ---- the triangles

pub cells_have_triangles : CellsHaveTriangles
unfolding all_triangles triangles_of_cell
cells_have_triangles g =
    over_cells g triangles_of_cell (cell_triangles (is_inside_at g)) (λ x y z fx fy fz. refl) (λ p h. no_triangles (cell_at g p) h refl)

-- ---- the vertices

-- a point whose last index along some axis is the last one
is_last : (g : Grid) (p : GridPoint) → (p.x ≡ g.x) ⊎ ((p.y ≡ g.y) ⊎ (p.z ≡ g.z)) → is_outermost g p ≡ true
is_last g p (inl e) = or_left (p.x == 0 || p.x == g.x) ((p.y == 0 || p.y == g.y) || (p.z == 0 || p.z == g.z)) (or_right (p.x == 0) (p.x == g.x) (eq-eqb p.x g.x e))
is_last g p (inr (inl e)) =
    or_right (p.x == 0 || p.x == g.x) ((p.y == 0 || p.y == g.y) || (p.z == 0 || p.z == g.z)) (or_left (p.y == 0 || p.y == g.y) (p.z == 0 || p.z == g.z) (or_right (p.y == 0) (p.y == g.y) (eq-eqb p.y g.y e)))
is_last g p (inr (inr e)) =
    or_right (p.x == 0 || p.x == g.x) ((p.y == 0 || p.y == g.y) || (p.z == 0 || p.z == g.z)) (or_right (p.y == 0 || p.y == g.y) (p.z == 0 || p.z == g.z) (or_right (p.z == 0) (p.z == g.z) (eq-eqb p.z g.z e)))

-- an edge from such a point has no inside end
outer_edge : (g : Grid) → IsBordered g → (p : GridPoint) (dir : ℕ) → p.x ≤ g.x → p.y ≤ g.y → p.z ≤ g.z → (p.x ≡ g.x) ⊎ ((p.y ≡ g.y) ⊎ (p.z ≡ g.z)) → is_point g (further p dir) ≡ true → is_mixed (is_inside_at g) (edge_from p dir) ≡ false
outer_edge g border p dir x y z last h =
    let hx = and_parts _ _ h in
    let hy = and_parts _ _ hx.1 in
    let fx = leb-true (p.x + along_x dir) g.x hx.0 in
    let fy = leb-true (p.y + along_y dir) g.y hy.0 in
    let fz = leb-true (p.z + along_z dir) g.z hy.1 in
    let here = border.outside p (and_from _ _ (le-leb p.x g.x x) (and_from _ _ (le-leb p.y g.y y) (le-leb p.z g.z z))) (is_last g p last) in
    let there = border.outside (further p dir) h (is_last g (further p dir) (on (along_x dir) (along_y dir) (along_z dir) fx fy fz last)) in
    same_side (is_inside_at g p) (is_inside_at g (further p dir)) (there ∙ sym here)
  where
    on : (a b c : ℕ) → p.x + a ≤ g.x → p.y + b ≤ g.y → p.z + c ≤ g.z → (p.x ≡ g.x) ⊎ ((p.y ≡ g.y) ⊎ (p.z ≡ g.z)) → (p.x + a ≡ g.x) ⊎ ((p.y + b ≡ g.y) ⊎ (p.z + c ≡ g.z))
    on a b c fx fy fz (inl e) = inl (omega (arith, e, fx))
    on a b c fx fy fz (inr (inl e)) = inr (inl (omega (arith, e, fy)))
    on a b c fx fy fz (inr (inr e)) = inr (inr (omega (arith, e, fz)))

-- the edges from a point that have exactly one inside end
own : Grid → GridPoint → List EdgeKey
own g p = filter (is_mixed (is_inside_at g)) (filter (λ e. is_point g (upper e)) (map (edge_from p) (range_with_len 1 7)))

none_from_last : (g : Grid) → IsBordered g → (x y z : ℕ) → x ≤ g.x → y ≤ g.y → z ≤ g.z → (x ≡ g.x) ⊎ ((y ≡ g.y) ⊎ (z ≡ g.z)) → own g (point x y z) ≡ []
unfolding own
none_from_last g border x y z fx fy fz last =
    let p = point x y z in
    none_left (is_mixed (is_inside_at g)) (λ e. is_point g (upper e)) (map (edge_from p) (range_with_len 1 7)) (All-map (λ e. is_point g (upper e) ≡ true → is_mixed (is_inside_at g) e ≡ false) (edge_from p) (range_with_len 1 7) (λ k d within. outer_edge g border p (get_or (range_with_len 1 7) k d) fx fy fz last))

-- no step leads away
pub starts : (p : GridPoint) → further p 0 ≡ p
starts p = rw (add-zero p.x, add-zero p.y, add-zero p.z) refl

sides : (f : ℕ → Bool) (b c : Bool) → b ≡ c → filter (λ d. differ b (f d)) (range_with_len 1 7) ≡ filter (λ d. differ c (f d)) (range_with_len 1 7)
sides f b c e = rw e refl

cell_directions : (g : Grid) (p : GridPoint) → filter (λ d. is_mixed (is_inside_at g) (edge_from p d)) (range_with_len 1 7) ≡ directions_of (cell_at g p)
unfolding directions_of
cell_directions g p =
    sides (λ d. is_inside_at g (further p d)) (is_inside_at g p) (is_inside_at g (further p 0)) (ap (is_inside_at g) (sym (starts p)))

one_more : (n g k : ℕ) → k < g → k + n % 2 ≤ g
one_more n g k h = omega (arith, h)

own_in_cell : (g : Grid) (x y z : ℕ) → x < g.x → y < g.y → z < g.z → own g (point x y z) ≡ edges_of (cell_at g (point x y z))
unfolding own
own_in_cell g x y z fx fy fz =
    let p = point x y z in
    let within : (dir : ℕ) → is_point g (further p dir) ≡ true = λ dir. and_from _ _ (le-leb (x + along_x dir) g.x (one_more dir g.x x fx)) (and_from _ _ (le-leb (y + along_y dir) g.y (one_more (dir / 2) g.y y fy)) (le-leb (z + along_z dir) g.z (one_more (dir / 4) g.z z fz))) in
    ap (filter (is_mixed (is_inside_at g))) (all_kept (λ e. is_point g (upper e)) (map (edge_from p) (range_with_len 1 7)) (All-map (λ e. is_point g (upper e) ≡ true) (edge_from p) (range_with_len 1 7) (λ k d few. within (get_or (range_with_len 1 7) k d))))
    ∙ filter_of_map (is_mixed (is_inside_at g)) (edge_from p) (range_with_len 1 7)
    ∙ ap (map (edge_from p)) (cell_directions g p)

pub cells_have_vertices : CellsHaveVertices
unfolding vertices own
cells_have_vertices g border =
    let within = λ (e : EdgeKey). is_point g (upper e) in
    let mixed = is_mixed (is_inside_at g) in
    let from = λ (p : GridPoint). map (edge_from p) (range_with_len 1 7) in
    ap (filter mixed) (filter_block within (g.x + 1) (g.y + 1) (g.z + 1) from)
    ∙ filter_block mixed (g.x + 1) (g.y + 1) (g.z + 1) (λ p. filter within (from p))
    ∙ trimmed g.x g.y g.z (own g) (none_from_last g border)
    ∙ over_cells g edges_of (own g) (own_in_cell g) (λ p h. ap (map (edge_from (lowest_corner (cell_at g p)))) (no_directions (cell_at g p) h refl))

-- ---- the cells

lone_cell : (g : Grid) (p : GridPoint) → p.x < g.x → p.y < g.y → p.z < g.z → All (λ c. (c.x < g.x) × (c.y < g.y) × (c.z < g.z) × (c ≡ cell_at g (lowest_corner c))) (cell_at g p ∷ [])
lone_cell g p x y z = All-cons (λ c. (c.x < g.x) × (c.y < g.y) × (c.z < g.z) × (c ≡ cell_at g (lowest_corner c))) (cell_at g p) [] (x, y, z, refl) (All-nil (λ c. (c.x < g.x) × (c.y < g.y) × (c.z < g.z) × (c ≡ cell_at g (lowest_corner c))))

pub cells_are_of_the_grid : CellsAreOfTheGrid
unfolding mixed_cells
cells_are_of_the_grid g k d within =
    let all = over_block g.x g.y g.z (λ p. cell_at g p ∷ []) in
    let P = λ (c : CellValues). (c.x < g.x) × (c.y < g.y) × (c.z < g.z) × (c ≡ cell_at g (lowest_corner c)) in
    let h = All-filter is_mixed_cell P all (all_in_block P g.x g.y g.z (λ p. cell_at g p ∷ []) (lone_cell g)) k d within in
    record { x = h.0; y = h.1; z = h.2; «is» = h.3; mixed = filter_passes is_mixed_cell all k d within }

lone_in_order : (c : CellValues) → AllPairs IsCellBefore (c ∷ [])
lone_in_order c i j d less within = absurd (omega (arith, less, within))

lone_has : (P : CellValues → Type 0) (c : CellValues) → P c → All P (c ∷ [])
lone_has P c h = All-cons P c [] h (All-nil P)

abbrev cell_row : Grid → ℕ → ℕ → List CellValues
cell_row g z y = flat_map (λ x. cell_at g (point x y z) ∷ []) (range_with_len 0 g.x)

row_order : (g : Grid) (z y : ℕ) → AllPairs IsCellBefore (cell_row g z y)
row_order g z y =
    in_order IsCellBefore (λ x. cell_at g (point x y z) ∷ []) (λ x c. (c.x ≡ x) × (c.y ≡ y) × (c.z ≡ z)) (λ x. lone_in_order (cell_at g (point x y z))) (λ x. lone_has (λ c. (c.x ≡ x) × (c.y ≡ y) × (c.z ≡ z)) (cell_at g (point x y z)) (refl, refl, refl)) (λ i j c d less p q. inr (omega (arith, p.2, q.2), inr (omega (arith, p.1, q.1), omega (arith, p.0, q.0, less)))) 0 g.x

row_of : (g : Grid) (z y : ℕ) → All (λ c. (c.y ≡ y) × (c.z ≡ z)) (cell_row g z y)
row_of g z y =
    all_flat (λ c. (c.y ≡ y) × (c.z ≡ z)) (λ x. cell_at g (point x y z) ∷ []) (λ x. lone_has (λ c. (c.y ≡ y) × (c.z ≡ z)) (cell_at g (point x y z)) (refl, refl)) (range_with_len 0 g.x)

abbrev cell_layer : Grid → ℕ → List CellValues
cell_layer g z = flat_map (cell_row g z) (range_with_len 0 g.y)

layer_order : (g : Grid) (z : ℕ) → AllPairs IsCellBefore (cell_layer g z)
layer_order g z =
    in_order IsCellBefore (cell_row g z) (λ y c. (c.y ≡ y) × (c.z ≡ z)) (row_order g z) (row_of g z) (λ i j c d less p q. inr (omega (arith, p.1, q.1), inl (omega (arith, p.0, q.0, less)))) 0 g.y

layer_of : (g : Grid) (z : ℕ) → All (λ c. c.z ≡ z) (cell_layer g z)
layer_of g z = all_flat (λ c. c.z ≡ z) (cell_row g z) (λ y k d within. (row_of g z y k d within).1) (range_with_len 0 g.y)

cell_order : (g : Grid) → AllPairs IsCellBefore (over_block g.x g.y g.z (λ p. cell_at g p ∷ []))
cell_order g =
    in_order IsCellBefore (cell_layer g) (λ z c. c.z ≡ z) (layer_order g) (layer_of g) (λ i j c d less p q. inl (omega (arith, p, q, less))) 0 g.z

pub cells_rise : CellsRise
unfolding mixed_cells
cells_rise g = AllPairs-filter IsCellBefore is_mixed_cell (over_block g.x g.y g.z (λ p. cell_at g p ∷ [])) (cell_order g)

pub cells_are_few : CellsAreFew
unfolding mixed_cells
cells_are_few g =
    let all = over_block g.x g.y g.z (λ p. cell_at g p ∷ []) in
    let whole = flat_length _ 0 g.z (g.y * (g.x * 1)) (λ z. flat_length _ 0 g.y (g.x * 1) (λ y. flat_length (λ x. cell_at g (point x y z) ∷ []) 0 g.x 1 (λ x. refl))) in
    let same : g.z * (g.y * (g.x * 1)) ≡ g.x * (g.y * g.z) = grind arith in
    omega (arith, filter_length is_mixed_cell all, whole, same)

-- ---- the cells of edges

moved : {A : Type 0} (xs ys : List A) (x y : A) → xs ≡ ys → x ≡ y → Contains xs x → Contains ys y
moved {A} xs ys x y same equal h =
    let P : List A → Type 0 = λ l. Contains l x in
    let Q : A → Type 0 = λ a. Contains ys a in
    subst Q equal (subst P same h)

cell_of_edge : (g : Grid) → IsBordered g → (c : CellValues) → IsCellOf g c → (e : EdgeKey) → IsParting (is_inside_at g) (lowest_corner c) e → HasCell (mixed_cells g) c e
cell_of_edge g border c is e h =
    let vertex = in_vertices g e (vertex_of g (lowest_corner c) e is.x is.y is.z h) in
    let listed = moved (vertices g) (flat_map edges_of (mixed_cells g)) e e (cells_have_vertices g border) refl vertex in
    let owner = from_flat edges_of (mixed_cells g) e listed in
    let dir = from_map (edge_from (lowest_corner owner.0)) (directions_of owner.0) e owner.2 in
    let near = h.near_z in
    record {
      cell = owner.0;
      listed = owner.1;
      place = ap lower dir.2;
      direction = moved (directions_of owner.0) (directions_of owner.0) dir.0 e.dir refl (ap (λ (e : EdgeKey). e.dir) dir.2) dir.1;
      above = h.above;
      near = omega (arith, near);
    }

pub edges_have_cells : EdgesHaveCells
unfolding triangles_of_cell
edges_have_cells g border k d within =
    let c = get_or (mixed_cells g) k d in
    let is = cells_are_of_the_grid g k d within in
    let inside = is_inside_at g in
    let has = cell_of_edge g border c is in
    All-same (OfEdges (HasCell (mixed_cells g) c)) (triangles_of_cell c) (cell_triangles inside (lowest_corner c)) (ap triangles_of_cell is.«is»)
    (All-weaker (OfEdges (IsParting inside (lowest_corner c))) (OfEdges (HasCell (mixed_cells g) c)) (λ t h. record { a = has t.a h.a; b = has t.b h.b; c = has t.c h.c }) (cell_triangles inside (lowest_corner c)) (all_tetrahedra inside (lowest_corner c)))
