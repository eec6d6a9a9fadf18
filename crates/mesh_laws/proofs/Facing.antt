-- Each face of a grid has the inside ends of its edges behind it.
use Rattle.std.proofs.Common.{◌≡◌, ℕ, ◌+◌, ◌-◌, ◌*◌, ℤ, pos, Bool, true, false, List, refl, arith, ap, sym, subst, ◌∙◌, inl, inr}
use Rattle.std.specs.Prelude.{◌<ℤ◌, get_or, All}
use Rattle.std.proofs.lemmas.Bool.{cond-true, cond-false}
use Rattle.std.proofs.lemmas.List.Elements.{All-map, All-weaker}
use Rattle.fixed_ops.specs.Cut.{cut_of}
use Rattle.kuhn_cells.specs.declared.edge_key.EdgeKey.{EdgeKey}
use Rattle.kuhn_cells.specs.declared.triple.Triple.{Triple}
use Rattle.kuhn_cells.specs.Corners.{along_x, along_y, along_z, corner, is_negative}
use Rattle.kuhn_cells.specs.Faces.{all_triangles, cell_triangles, face_among, faces}
use Rattle.kuhn_cells.specs.Grids.{Grid, is_inside_at, lower, upper, value_at, vertices}
use Rattle.kuhn_cells.specs.Triangles.{GridPoint, further, point, triangles_in}
use Rattle.kuhn_cells.specs.Vectors.{Vector, determinant, determinant_at}
use Rattle.kuhn_cells.proofs.FaceLaws.{all_in_block, numbers_are_places, triangles_have_vertices}
use Rattle.mesh_laws.specs.Places.{inner_end, inner_of, lattice_place, point_place, share, share_between}
use Rattle.mesh_laws.specs.Separating.{FacesOut, HasInsideBehind, IsBehind}
use Rattle.mesh_laws.proofs.Determinants.{IsLow, IsWeight, arrow, below_zero, between, diff, diff_same, from_last, low_between, vector, weighed}
use Rattle.mesh_laws.proofs.Sides.{AreEnds, HasEnds, IsOut, all_out, ends_low, is_behind, less_at, some_less, to_end}
use Rattle.mesh_laws.proofs.Turns.{Way, key_of, pattern_at, triangles_of_tetrahedron, triple_of, ways_in}
use Rattle.fixed_ops.proofs.Lists.{all_within}

-- ---- the place of a vertex between the ends of its edge

pub cut_is_weight : (a b : ℤ) → IsWeight (65536 - cut_of a b) (cut_of a b)
cut_is_weight a b = record { inner = omega arith; outer = omega arith; whole = omega arith }

abbrev place_of : GridPoint → Vector
place_of p = record { x = pos p.x; y = pos p.y; z = pos p.z }

abbrev cut_at : Grid → GridPoint → GridPoint → ℕ
cut_at g p q = cut_of (value_at g p) (value_at g q)

-- so many parts of the one end and so many of the other
abbrev spot : Grid → GridPoint → GridPoint → GridPoint
spot g p q = weighed (65536 - cut_at g p q) (cut_at g p q) p q

of_two : {A B : Type 0} (f : A → A → B) (a b c d : A) → a ≡ c → b ≡ d → f a b ≡ f c d
of_two f a b c d p q = rw (p, q) refl

same_vector : (a b c d e f : ℕ) → a ≡ d → b ≡ e → c ≡ f → place_of (point a b c) ≡ place_of (point d e f)
same_vector a b c d e f p q r = rw (p, q, r) refl

-- along one axis, from the end e on, d further
upwards : (e d p q s k share : ℕ) → k + s ≡ 65536 → share ≡ s → e ≡ p → e + d ≡ q → 65536 * e + share * d ≡ k * p + s * q
upwards e d p q s k share h i j l = omega (arith, ap (λ m. m * e) h, ap (λ m. m * d) i, ap (λ m. k * m) j, ap (λ m. s * m) l)

downwards : (e d p q s k share : ℕ) → k + s ≡ 65536 → share ≡ k → e ≡ q → e + d ≡ p → 65536 * e + share * d ≡ k * p + s * q
downwards e d p q s k share h i j l = omega (arith, ap (λ m. m * e) h, ap (λ m. m * d) i, ap (λ m. s * m) j, ap (λ m. k * m) l)

record LiesAt (g : Grid) (e : EdgeKey) (p q : GridPoint) : Type 0 where
  place : lattice_place g e ≡ place_of (spot g p q)
  inner : inner_end g e ≡ p

lies_at : (g : Grid) (e : EdgeKey) (p q : GridPoint) → is_inside_at g p ≡ true → is_inside_at g q ≡ false → AreEnds e p q → LiesAt g e p q
lies_at g e p q lit dark (inl h) =
    let s = cut_at g p q in
    let w = (cut_is_weight (value_at g p) (value_at g q)).whole in
    let e_share : share g e ≡ s = of_two (share_between g) (lower e) (upper e) p q h.0 h.1 ∙ cond-true (is_inside_at g p) s (65536 - cut_at g q p) lit in
    record {
      place = same_vector _ _ _ _ _ _
          (upwards e.x (along_x e.dir) p.x q.x s (65536 - s) (share g e) w e_share (ap (λ (r : GridPoint). r.x) h.0) (ap (λ (r : GridPoint). r.x) h.1))
          (upwards e.y (along_y e.dir) p.y q.y s (65536 - s) (share g e) w e_share (ap (λ (r : GridPoint). r.y) h.0) (ap (λ (r : GridPoint). r.y) h.1))
          (upwards e.z (along_z e.dir) p.z q.z s (65536 - s) (share g e) w e_share (ap (λ (r : GridPoint). r.z) h.0) (ap (λ (r : GridPoint). r.z) h.1));
      inner = of_two (inner_of g) (lower e) (upper e) p q h.0 h.1 ∙ cond-true (is_inside_at g p) p q lit;
    }
lies_at g e p q lit dark (inr h) =
    let s = cut_at g p q in
    let w = (cut_is_weight (value_at g p) (value_at g q)).whole in
    let e_share : share g e ≡ 65536 - s = of_two (share_between g) (lower e) (upper e) q p h.0 h.1 ∙ cond-false (is_inside_at g q) (cut_at g q p) (65536 - s) dark in
    record {
      place = same_vector _ _ _ _ _ _
          (downwards e.x (along_x e.dir) p.x q.x s (65536 - s) (share g e) w e_share (ap (λ (r : GridPoint). r.x) h.0) (ap (λ (r : GridPoint). r.x) h.1))
          (downwards e.y (along_y e.dir) p.y q.y s (65536 - s) (share g e) w e_share (ap (λ (r : GridPoint). r.y) h.0) (ap (λ (r : GridPoint). r.y) h.1))
          (downwards e.z (along_z e.dir) p.z q.z s (65536 - s) (share g e) w e_share (ap (λ (r : GridPoint). r.z) h.0) (ap (λ (r : GridPoint). r.z) h.1));
      inner = of_two (inner_of g) (lower e) (upper e) q p h.0 h.1 ∙ cond-false (is_inside_at g q) q p dark;
    }

-- ---- a triangle of a tetrahedron

-- the ends of an edge of a tetrahedron of a cell
abbrev lit_end : GridPoint → ℕ → Way → GridPoint
lit_end cell tetra w = further cell (corner tetra w.inner)

abbrev dark_end : GridPoint → ℕ → Way → GridPoint
dark_end cell tetra w = further cell (corner tetra w.outer)

abbrev spot_of : Grid → GridPoint → ℕ → Way → GridPoint
spot_of g cell tetra w = spot g (lit_end cell tetra w) (dark_end cell tetra w)

abbrev cut_on : Grid → GridPoint → ℕ → Way → ℕ
cut_on g cell tetra w = cut_at g (lit_end cell tetra w) (dark_end cell tetra w)

lies : (g : Grid) (cell : GridPoint) (tetra : ℕ) (w : Way) → HasEnds (is_inside_at g) cell tetra w → LiesAt g (key_of cell tetra w) (lit_end cell tetra w) (dark_end cell tetra w)
lies g cell tetra w h = lies_at g (key_of cell tetra w) (lit_end cell tetra w) (dark_end cell tetra w) h.lit h.dark h.ends

abbrev scaled : GridPoint → GridPoint
scaled p = point (65536 * p.x) (65536 * p.y) (65536 * p.z)

-- the cell's own place does not matter
shifted : (c i o j k l : ℕ) → k + l ≡ 65536 → (k * (c + i) + l * (c + o)) + (k * j + l * j) ≡ (k * i + l * o) + 65536 * (c + j)
shifted c i o j k l h = omega (arith, ap (λ m. m * c) h, ap (λ m. m * j) h)

same_diffs : (a b c a' b' c' d e f d' e' f' : ℕ) → diff a a' ≡ diff d d' → diff b b' ≡ diff e e' → diff c c' ≡ diff f f' → vector (arrow (point a' b' c') (point a b c)) ≡ vector (arrow (point d' e' f') (point d e f))
same_diffs a b c a' b' c' d e f d' e' f' p q r = rw (p, q, r) refl

same_arrow : (cell : GridPoint) (tetra from k l : ℕ) (w : Way) → k + l ≡ 65536 → vector (arrow (scaled (further cell (corner tetra from))) (weighed k l (lit_end cell tetra w) (dark_end cell tetra w))) ≡ vector (between k l (to_end tetra from w))
same_arrow cell tetra from k l w h =
    same_diffs _ _ _ _ _ _ _ _ _ _ _ _
    (diff_same _ _ _ _ (shifted cell.x (along_x (corner tetra w.inner)) (along_x (corner tetra w.outer)) (along_x (corner tetra from)) k l h))
    (diff_same _ _ _ _ (shifted cell.y (along_y (corner tetra w.inner)) (along_y (corner tetra w.outer)) (along_y (corner tetra from)) k l h))
    (diff_same _ _ _ _ (shifted cell.z (along_z (corner tetra w.inner)) (along_z (corner tetra w.outer)) (along_z (corner tetra from)) k l h))

of_three : {A B : Type 0} (f : A → A → A → B) (a b c d e g : A) → a ≡ d → b ≡ e → c ≡ g → f a b c ≡ f d e g
of_three f a b c d e g p q r = rw (p, q, r) refl

-- a corner of a tetrahedron lies behind a triangle where the check says so
corner_behind : (g : Grid) (cell : GridPoint) (tetra from : ℕ) (t : Way × Way × Way) → is_behind tetra t from ≡ true → determinant_at (place_of (spot_of g cell tetra t.0)) (place_of (spot_of g cell tetra t.1)) (place_of (spot_of g cell tetra t.2)) (point_place (further cell (corner tetra from))) <ℤ pos 0
unfolding diff
corner_behind g cell tetra from t h =
    let i = scaled (further cell (corner tetra from)) in
    let s = λ (w : Way). cut_on g cell tetra w in
    let weight = λ (w : Way). cut_is_weight (value_at g (lit_end cell tetra w)) (value_at g (dark_end cell tetra w)) in
    let same = λ (w : Way). same_arrow cell tetra from (65536 - s w) (s w) w (weight w).whole in
    let turned = from_last (spot_of g cell tetra t.0) (spot_of g cell tetra t.1) (spot_of g cell tetra t.2) i in
    let moved = of_three determinant _ _ _ _ _ _ (same t.1) (same t.0) (same t.2) in
    let low = low_between (less_at tetra from t) (to_end tetra from t.1) (to_end tetra from t.0) (to_end tetra from t.2) (ends_low tetra t from h) (65536 - s t.1) (s t.1) (65536 - s t.0) (s t.0) (65536 - s t.2) (s t.2) (weight t.1) (weight t.0) (weight t.2) in
    let below = below_zero _ _ _ (subst (λ (b : Bool). IsLow b (between (65536 - s t.1) (s t.1) (to_end tetra from t.1)) (between (65536 - s t.0) (s t.0) (to_end tetra from t.0)) (between (65536 - s t.2) (s t.2) (to_end tetra from t.2))) (some_less tetra t from h) low) in
    subst (λ (d : ℤ). d <ℤ pos 0) (sym (turned ∙ moved)) below

of_four : {A B C : Type 0} (f : A → A → A → C → B) (a b c d e g : A) (i j : C) → a ≡ d → b ≡ e → c ≡ g → i ≡ j → f a b c i ≡ f d e g j
of_four f a b c d e g i j p q r s = rw (p, q, r, s) refl

inside_behind : (g : Grid) (cell : GridPoint) (tetra : ℕ) (t : Way × Way × Way) → IsOut (is_inside_at g) cell tetra t → HasInsideBehind g (key_of cell tetra t.0) (key_of cell tetra t.1) (key_of cell tetra t.2)
inside_behind g cell tetra t h =
    let first = lies g cell tetra t.0 h.first in
    let second = lies g cell tetra t.1 h.second in
    let third = lies g cell tetra t.2 h.third in
    let at = λ (a b c : Vector) (p : GridPoint). determinant_at a b c (point_place p) in
    let behind : (w : Way) → is_behind tetra t w.inner ≡ true → inner_end g (key_of cell tetra w) ≡ lit_end cell tetra w → IsBehind g (key_of cell tetra t.0) (key_of cell tetra t.1) (key_of cell tetra t.2) (key_of cell tetra w) =
    λ w b inner. subst (λ (d : ℤ). d <ℤ pos 0) (sym (of_four at _ _ _ _ _ _ _ _ first.place second.place third.place inner)) (corner_behind g cell tetra w.inner t b) in
    record {
      at_a = behind t.0 h.at_first first.inner;
      at_b = behind t.1 h.at_second second.inner;
      at_c = behind t.2 h.at_third third.inner;
    }

-- ---- the faces of a grid

abbrev IsTurnedOut : Grid → Triple → Type 0
IsTurnedOut g t = HasInsideBehind g t.a t.b t.c

triangles_out : (g : Grid) → All (IsTurnedOut g) (all_triangles g)
unfolding all_triangles
triangles_out g =
    let inside = is_inside_at g in
    all_in_block (IsTurnedOut g) g.x g.y g.z (cell_triangles inside) (λ cell x y z.
    all_within (IsTurnedOut g) (λ tetra. triangles_in cell tetra (λ c. inside (further cell c))) 0 6 (λ tetra few.
    let ways = ways_in (is_negative tetra) (pattern_at inside cell tetra) in
    subst (λ (ts : List Triple). All (IsTurnedOut g) ts) (sym (triangles_of_tetrahedron inside cell tetra))
    (All-map (IsTurnedOut g) (triple_of cell tetra) ways (All-weaker (IsOut inside cell tetra) (λ t. IsTurnedOut g (triple_of cell tetra t)) (inside_behind g cell tetra) ways (all_out inside cell tetra (omega (arith, few)))))))

same_three : (g : Grid) (a b c d e f : EdgeKey) → a ≡ d → b ≡ e → c ≡ f → HasInsideBehind g d e f → HasInsideBehind g a b c
same_three g a b c d e f p q r h =
    subst (λ (x : EdgeKey). HasInsideBehind g x b c) (sym p) (subst (λ (x : EdgeKey). HasInsideBehind g d x c) (sym q) (subst (λ (x : EdgeKey). HasInsideBehind g d e x) (sym r) h))

pub faces_out : (g : Grid) → All (FacesOut g (vertices g)) (faces g)
unfolding faces
faces_out g =
    All-map (FacesOut g (vertices g)) (face_among (vertices g)) (all_triangles g) (λ k e within d.
    let t = get_or (all_triangles g) k e in
    let v = triangles_have_vertices g k e within in
    same_three g _ _ _ t.a t.b t.c (numbers_are_places g t.a d v.a).1 (numbers_are_places g t.b d v.b).1 (numbers_are_places g t.c d v.c).1 (triangles_out g k e within))
