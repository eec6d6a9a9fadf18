-- The triangles of a cell by its signs.
use Rattle.std.proofs.Common.{◌≡◌, ℕ, ◌+◌, ◌*◌, ◌<◌, ◌≤◌, Bool, true, false, List, [], ◌∷◌, ◌++◌, refl, ap, subst, sym, ◌∙◌, inl, inr, zero-add, arith, length-append}
use Rattle.std.specs.Prelude.{◌⊎◌, ◌==◌, nat_lt, min, map, flat_map, get_or, length, All, if◌then◌else◌}
use Rattle.std.specs.List.{range_with_len}
use Rattle.std.proofs.lemmas.Bool.{agree_below, agree_below_at, cases_lt, ltb-true}
use Rattle.std.proofs.lemmas.List.{append-nil, get_or_append_left, get_or_push, length-map}
use Rattle.std.proofs.lemmas.List.Concat.{flat_map-append}
use Rattle.std.proofs.lemmas.List.Elements.{All-same}
use Rattle.std.proofs.lemmas.Simd.{map-map}
use Rattle.kuhn_cells.specs.declared.cell_list.CellValues.{CellValues}
use Rattle.kuhn_cells.specs.declared.edge_key.EdgeKey.{EdgeKey}
use Rattle.kuhn_cells.specs.declared.triple.Triple.{Triple}
use Rattle.kuhn_cells.specs.Arrangement.{arrangement, inside_count, pattern_of}
use Rattle.kuhn_cells.specs.Cells.{has_inside, lowest_corner, triangles_of_cell}
use Rattle.kuhn_cells.specs.Corners.{along_x, along_y, along_z, corner}
use Rattle.kuhn_cells.specs.Triangles.{edge_between, has_sign, point, triangles_among, triangles_by, triangles_in, triangles_of}
use Rattle.mesh_laws.proofs.FanLaws.{unmapped}
use Rattle.mesh_laws.proofs.Lists.{flat_of_maps}
use Rattle.tetra_mesh.specs.declared.sided_cell.SidedCell.{SidedCell}
use Rattle.tetra_mesh.specs.declared.shape.Shape.{Shape}
use Rattle.tetra_mesh.specs.Edges.{HasTriangles}
use Rattle.tetra_mesh.specs.Numbering.{signs_of}
use Rattle.tetra_mesh.specs.Shapes.{moved, moved_triple, shape_front, shape_of, sided_triangles}
use Rattle.tetra_mesh.specs.Sides.{sided_of}
use Rattle.tetra_mesh.proofs.Bits.{digit}
use Rattle.tetra_mesh.proofs.NumberLaws.{range_parts}
use Rattle.fixed_ops.proofs.Lists.{flat_same}

corners_few : (tetra which : ℕ) → tetra < 6 → which < 4 → corner tetra which < 8
corners_few tetra which few fw =
    ltb-true _ _ (agree_below_at (λ w. nat_lt (corner tetra w) 8) (λ w. true) 4 which (agree_below_at (λ t. agree_below (λ w. nat_lt (corner t w) 8) (λ w. true) 4) (λ t. true) 6 tetra refl few) fw)

sign : (c : CellValues) (k : ℕ) → k < 8 → has_sign (signs_of c) k ≡ has_inside c k
unfolding signs_of
sign c k few = digit (has_inside c) k few

-- the triangles by the signs are those by the values
pub by_signs : (c : CellValues) (tetra : ℕ) → tetra < 6 → triangles_of c.x c.y c.z tetra (signs_of c) ≡ triangles_in (lowest_corner c) tetra (has_inside c)
by_signs c tetra few =
    let at = λ (which : ℕ) (fw : which < 4). sign c (corner tetra which) (corners_few tetra which few fw) in
    ap (triangles_by (lowest_corner c) tetra) (four _ _ _ _ _ _ _ _ (at 0 (omega arith)) (at 1 (omega arith)) (at 2 (omega arith)) (at 3 (omega arith)))
  where
    four : (a b d e a' b' d' e' : Bool) → a ≡ a' → b ≡ b' → d ≡ d' → e ≡ e' → a ∷ b ∷ d ∷ e ∷ [] ≡ a' ∷ b' ∷ d' ∷ e' ∷ []
    four a b d e a' b' d' e' h i j k = cc

-- ---- the cell at the origin

abbrev lifted : (EdgeKey → EdgeKey) → Triple → Triple
lifted f t = record { a = f t.a; b = f t.b; c = f t.c }

-- triangles whose edges are moved
among_moved : (f : EdgeKey → EdgeKey) (edge far : ℕ → ℕ → EdgeKey) → ((i j : ℕ) → f (edge i j) ≡ far i j) → (count a b c d : ℕ) → map (lifted f) (triangles_among edge count a b c d) ≡ triangles_among far count a b c d
among_moved f edge far same count a b c d = by (count == 1) (count == 3) (count == 2)
  where
    by : (one three two : Bool) → map (lifted f) (if one then record { a = edge a b; b = edge a c; c = edge a d } ∷ [] else (if three then record { a = edge a b; b = edge a d; c = edge a c } ∷ [] else (if two then record { a = edge a c; b = edge a d; c = edge b d } ∷ record { a = edge a c; b = edge b d; c = edge b c } ∷ [] else []))) ≡ (if one then record { a = far a b; b = far a c; c = far a d } ∷ [] else (if three then record { a = far a b; b = far a d; c = far a c } ∷ [] else (if two then record { a = far a c; b = far a d; c = far b d } ∷ record { a = far a c; b = far b d; c = far b c } ∷ [] else [])))
    by true three two = rw (same a b, same a c, same a d) refl
    by false true two = rw (same a b, same a c, same a d) refl
    by false false true = rw (same a c, same a d, same b d, same b c) refl
    by false false false = refl

edge_moved : (c : CellValues) (i j : ℕ) → moved (sided_of c) (edge_between (point 0 0 0) i j) ≡ edge_between (lowest_corner c) i j
edge_moved c i j = rw (zero-add (along_x (min i j)), zero-add (along_y (min i j)), zero-add (along_z (min i j))) refl

tetra_moved : (c : CellValues) (tetra signs : ℕ) → map (moved_triple (sided_of c)) (triangles_of 0 0 0 tetra signs) ≡ triangles_of c.x c.y c.z tetra signs
tetra_moved c tetra signs =
    let pattern = pattern_of (has_sign signs) tetra in
    let corners = arrangement tetra pattern in
    among_moved (moved (sided_of c)) (edge_between (point 0 0 0)) (edge_between (lowest_corner c)) (edge_moved c) (inside_count pattern) (get_or corners 0 0) (get_or corners 1 0) (get_or corners 2 0) (get_or corners 3 0)

-- the triangles of a cell are those of the cell at the origin with its signs
pub shape_moved : (c : CellValues) → sided_triangles (sided_of c) ≡ triangles_of_cell c
unfolding shape_of triangles_of_cell
shape_moved c =
    sym (flat_of_maps (moved_triple (sided_of c)) (λ tetra. triangles_of 0 0 0 tetra (signs_of c)) (range_with_len 0 6))
    ∙ flat_same (λ tetra. map (moved_triple (sided_of c)) (triangles_of 0 0 0 tetra (signs_of c))) (λ tetra. triangles_in (lowest_corner c) tetra (has_inside c)) 0 6 (λ tetra few. tetra_moved c tetra (signs_of c) ∙ by_signs c tetra (omega (arith, few)))

-- there are as many of them
pub shape_long : (s : SidedCell) (c : CellValues) → s ≡ sided_of c → length (shape_of s.signs) ≡ length (triangles_of_cell c)
shape_long s c same =
    ap (λ (x : SidedCell). length (shape_of x.signs)) same ∙ sym (length-map (shape_of (signs_of c)) (moved_triple (sided_of c))) ∙ ap length (shape_moved c)

pub faces_moved : {A : Type 0} (f : Triple → A) (c : SidedCell) (ts : List Triple) → ts ≡ shape_of c.signs → map (λ t. f (moved_triple c t)) ts ≡ map f (sided_triangles c)
faces_moved f c ts is =
    sym (map-map f (moved_triple c) ts) ∙ ap (λ l. map f (map (moved_triple c) l)) is

pub all_moved : (P : Triple → Type 0) (c : SidedCell) (ts : List Triple) → ts ≡ shape_of c.signs → All P (sided_triangles c) → All (λ t. P (moved_triple c t)) ts
all_moved P c ts is all =
    unmapped P (moved_triple c) ts (All-same P (map (moved_triple c) ts) (sided_triangles c) (ap (map (moved_triple c)) is) all)

-- ---- how many triangles there are

-- a tetrahedron has two at most
among_few : (edge : ℕ → ℕ → EdgeKey) (count a b c d : ℕ) → length {A = Triple} (triangles_among edge count a b c d) ≤ 2
among_few edge count a b c d = by (count == 1) (count == 3) (count == 2)
  where
    by : (one three two : Bool) → length {A = Triple} (if one then record { a = edge a b; b = edge a c; c = edge a d } ∷ [] else (if three then record { a = edge a b; b = edge a d; c = edge a c } ∷ [] else (if two then record { a = edge a c; b = edge a d; c = edge b d } ∷ record { a = edge a c; b = edge b d; c = edge b c } ∷ [] else []))) ≤ 2
    by true three two = omega arith
    by false true two = omega arith
    by false false true = omega arith
    by false false false = omega arith

flat_few : {A : Type 0} (f : ℕ → List A) → ((k : ℕ) → length (f k) ≤ 2) → (xs : List ℕ) → length (flat_map f xs) ≤ 2 * length xs
flat_few f each [] = omega arith
flat_few f each (x ∷ xs) = omega (arith, length-append (f x) (flat_map f xs), each x, flat_few f each xs)

-- and a cell twelve
pub few_triangles : (signs : ℕ) → length (shape_of signs) ≤ 12
unfolding shape_of
few_triangles signs =
    flat_few (λ tetra. triangles_of 0 0 0 tetra signs) (λ tetra.
    let pattern = pattern_of (has_sign signs) tetra in
    let corners = arrangement tetra pattern in
    among_few (edge_between (point 0 0 0)) (inside_count pattern) (get_or corners 0 0) (get_or corners 1 0) (get_or corners 2 0) (get_or corners 3 0)) (range_with_len 0 6)

-- ---- one more tetrahedron, and one more shape

pub shape_more : (signs tetra : ℕ) (now new ts : List Triple) → now ≡ shape_front signs tetra → new ≡ now ++ ts → ts ≡ triangles_of 0 0 0 tetra signs → new ≡ shape_front signs (tetra + 1)
shape_more signs tetra now new ts stood grown is =
    let f = λ (t : ℕ). triangles_of 0 0 0 t signs in
    let e : 0 + tetra ≡ tetra = omega arith in
    grown
    ∙ ap (λ l. l ++ ts) stood
    ∙ ap (λ l. shape_front signs tetra ++ l) is
    ∙ sym (ap (flat_map f) (range_parts 0 tetra 0) ∙ flat_map-append f (range_with_len 0 tetra) ((0 + tetra) ∷ []) ∙ ap (λ l. flat_map f (range_with_len 0 tetra) ++ l) (append-nil (f (0 + tetra)) ∙ ap f e))

pub shape_whole : (signs tetra : ℕ) → tetra ≡ 6 → shape_front signs tetra ≡ shape_of signs
unfolding shape_of
shape_whole signs tetra six = ap (shape_front signs) six

pub shapes_more : (signs : ℕ) (now new : List Shape) (v : Shape) → length now ≡ signs → ((k : ℕ) (d : Shape) → k < signs → HasTriangles (shape_of k) (get_or now k d)) → new ≡ now ++ v ∷ [] → HasTriangles (shape_of signs) v → (k : ℕ) (d : Shape) → k < signs + 1 → HasTriangles (shape_of k) (get_or new k d)
shapes_more signs now new v room each grown is k d less = by (cases_lt k signs)
  where
    by : (k < signs) ⊎ (signs ≤ k) → HasTriangles (shape_of k) (get_or new k d)
    by (inl earlier) =
        subst (HasTriangles (shape_of k)) (sym (ap (λ l. get_or l k d) grown ∙ get_or_append_left now (v ∷ []) d k (omega (arith, earlier, room)))) (each k d earlier)
    by (inr late) =
        let same : k ≡ signs = omega (arith, late, less) in
        subst (HasTriangles (shape_of k)) (sym (ap (λ l. get_or l k d) grown ∙ get_or_push now v d k (room ∙ sym same))) (subst (λ n. HasTriangles (shape_of n) v) (sym same) is)
