-- The arcs round a vertex of a grid are those round its edge.
use Rattle.std.proofs.Common.{◌≡◌, ℕ, ◌+◌, ◌-◌, ◌*◌, ◌/◌, ◌%◌, ◌<◌, ◌≤◌, Bool, true, false, List, [], ◌∷◌, length, refl, arith, ap, sym, ◌∙◌, inl, inr}
use Rattle.std.specs.Prelude.{◌==◌, ◌⊎◌, map, get_or, if◌then◌else◌}
use Rattle.std.specs.List.{position_or_len}
use Rattle.std.proofs.lemmas.Bool.{cases_eq, eq-eqb, eqb-true, ltb-true, ne_eqb}
use Rattle.std.proofs.lemmas.List.{get_or-map}
use Rattle.std.proofs.lemmas.List.Sums.{passes_at_first}
use Rattle.kuhn_cells.specs.declared.edge_key.EdgeKey.{EdgeKey}
use Rattle.kuhn_cells.specs.Corners.{along_x, along_y, along_z, corner}
use Rattle.kuhn_cells.specs.Grids.{lower}
use Rattle.kuhn_cells.specs.Triangles.{GridPoint, further, point}
use Rattle.mesh_laws.specs.Manifold.{arcs_at}
use Rattle.mesh_laws.proofs.Lattice.{few_steps}
use Rattle.mesh_laws.proofs.Owners.{direction, low}
use Rattle.mesh_laws.proofs.Rings.{edge_number, is_point_of, offset, pattern_in, sign_in}
use Rattle.mesh_laws.proofs.Turns.{Way, key_of, pattern_at}

-- ---- the points and edges near the lower end of an edge

abbrev pub spot : GridPoint → ℕ → GridPoint
spot l o = point (l.x + o % 3 - 1) (l.y + o / 3 % 3 - 1) (l.z + o / 9 - 1)

abbrev pub key_near : GridPoint → ℕ → EdgeKey
key_near l n = record { x = (spot l (n % 27)).x; y = (spot l (n % 27)).y; z = (spot l (n % 27)).z; dir = n / 27 }

abbrev pub number_near : GridPoint → EdgeKey → ℕ
number_near l k = (k.x + 1 - l.x) + 3 * ((k.y + 1 - l.y) + 3 * (k.z + 1 - l.z)) + 27 * k.dir

-- the cell of which a corner is the lower end
abbrev pub cell_back : GridPoint → ℕ → GridPoint
cell_back l mask = point (l.x - along_x mask) (l.y - along_y mask) (l.z - along_z mask)

pub record IsBack (l : GridPoint) (mask : ℕ) : Type 0 where
  pub x : along_x mask ≤ l.x
  pub y : along_y mask ≤ l.y
  pub z : along_z mask ≤ l.z

-- three digits
first_digit : (a b c : ℕ) → a ≤ 2 → (a + 3 * (b + 3 * c)) % 3 ≡ a
first_digit a b c h = omega (arith, h)

second_digit : (a b c : ℕ) → a ≤ 2 → b ≤ 2 → (a + 3 * (b + 3 * c)) / 3 % 3 ≡ b
second_digit a b c h k = omega (arith, h, k)

third_digit : (a b c : ℕ) → a ≤ 2 → b ≤ 2 → (a + 3 * (b + 3 * c)) / 9 ≡ c
third_digit a b c h k = omega (arith, h, k)

digit_small : (n m : ℕ) → n % 2 + 1 - m ≤ 2
digit_small n m = omega arith

back_on : (l m c : ℕ) → m ≤ 1 → m ≤ l → l + (c + 1 - m) - 1 ≡ (l - m) + c
back_on l m c few h = omega (arith, few, h)

pub spot_is : (l : GridPoint) (mask c : ℕ) → IsBack l mask → spot l (offset mask c) ≡ further (cell_back l mask) c
spot_is l mask c back =
    let a = along_x c + 1 - along_x mask in
    let b = along_y c + 1 - along_y mask in
    let d = along_z c + 1 - along_z mask in
    let ha = digit_small c (along_x mask) in
    let hb = digit_small (c / 2) (along_y mask) in
    rw (first_digit a b d ha, second_digit a b d ha hb, third_digit a b d ha hb, back_on l.x (along_x mask) (along_x c) (few_steps mask) back.x, back_on l.y (along_y mask) (along_y c) (few_steps (mask / 2)) back.y, back_on l.z (along_z mask) (along_z c) (few_steps (mask / 4)) back.z) refl

-- ---- the edges of a tetrahedron round the edge

offset_small : (mask c : ℕ) → offset mask c < 27
offset_small mask c = omega arith

low_part : (o d : ℕ) → o < 27 → (o + 27 * d) % 27 ≡ o
low_part o d h = omega (arith, h)

high_part : (o d : ℕ) → o < 27 → (o + 27 * d) / 27 ≡ d
high_part o d h = omega (arith, h)

key_from : (o d : ℕ) (l p : GridPoint) → o < 27 → spot l o ≡ p → key_near l (o + 27 * d) ≡ record { x = p.x; y = p.y; z = p.z; dir = d }
key_from o d l p small e =
    rw (low_part o d small, high_part o d small, ap (λ (q : GridPoint). q.x) e, ap (λ (q : GridPoint). q.y) e, ap (λ (q : GridPoint). q.z) e) refl

pub key_is : (l : GridPoint) (mask tetra : ℕ) (w : Way) → IsBack l mask → key_near l (edge_number mask tetra w) ≡ key_of (cell_back l mask) tetra w
key_is l mask tetra w back =
    key_from (offset mask (low tetra w)) (direction tetra w) l (further (cell_back l mask) (low tetra w)) (offset_small mask (low tetra w)) (spot_is l mask (low tetra w) back)

number_from : (c l m a : ℕ) → c + m ≡ l → (c + a) + 1 - l ≡ a + 1 - m
number_from c l m a e = omega (arith, e)

go_back : (l m : ℕ) → m ≤ l → (l - m) + m ≡ l
go_back l m h = omega (arith, h)

pub number_is : (l : GridPoint) (mask tetra : ℕ) (w : Way) → IsBack l mask → number_near l (key_of (cell_back l mask) tetra w) ≡ edge_number mask tetra w
number_is l mask tetra w back =
    rw (number_from (l.x - along_x mask) l.x (along_x mask) (along_x (low tetra w)) (go_back l.x (along_x mask) back.x), number_from (l.y - along_y mask) l.y (along_y mask) (along_y (low tetra w)) (go_back l.y (along_y mask) back.y), number_from (l.z - along_z mask) l.z (along_z mask) (along_z (low tetra w)) (go_back l.z (along_z mask) back.z)) refl

itself : (n : ℕ) → n + 1 - n ≡ 1
itself n = omega arith

pub own_number : (e : EdgeKey) → number_near (lower e) e ≡ 13 + 27 * e.dir
own_number e = rw (itself e.x, itself e.y, itself e.z) refl

one_back : (n : ℕ) → n + 1 - 1 ≡ n
one_back n = omega arith

pub own_spot : (l : GridPoint) → spot l 13 ≡ l
own_spot l = rw (one_back l.x, one_back l.y, one_back l.z) refl

pub own_key : (e : EdgeKey) → key_near (lower e) (13 + 27 * e.dir) ≡ e
own_key e = key_from 13 e.dir (lower e) (lower e) (omega arith) (own_spot (lower e))

-- ---- the signs of the points

pub sign_is : (os : List ℕ) (s : ℕ → Bool) (o : ℕ) → is_point_of os o ≡ true → sign_in os (map s os) o ≡ s o
sign_is os s o h =
    let i = position_or_len (λ k. k == o) os in
    let few = ltb-true i (length os) h in
    get_or-map s os i 0 false few ∙ ap s (eqb-true (get_or os i 0) o (passes_at_first (λ k. k == o) os 0 few))

pub pattern_is : (os : List ℕ) (inside : GridPoint → Bool) (l : GridPoint) (m : ℕ × ℕ) → IsBack l m.0 → ((k : ℕ) → k < 4 → is_point_of os (offset m.0 (corner m.1 k)) ≡ true) → pattern_in os (map (λ o. inside (spot l o)) os) m ≡ pattern_at inside (cell_back l m.0) m.1
pattern_is os inside l m back near =
    let one : (k : ℕ) → k < 4 → sign_in os (map (λ o. inside (spot l o)) os) (offset m.0 (corner m.1 k)) ≡ inside (further (cell_back l m.0) (corner m.1 k)) =
    λ k few. sign_is os (λ o. inside (spot l o)) (offset m.0 (corner m.1 k)) (near k few) ∙ ap inside (spot_is l m.0 (corner m.1 k) back) in
    rw (one 0 (omega arith), one 1 (omega arith), one 2 (omega arith), one 3 (omega arith)) refl

-- ---- arcs by the numbers of the vertices and by the numbers of the edges

pub same_test : (a b c d : ℕ) → (a ≡ b → c ≡ d) → (c ≡ d → a ≡ b) → (a == b) ≡ (c == d)
same_test a b c d there back = by (cases_eq a b)
  where
    by : (a ≡ b) ⊎ (a ≡ b → ⊥) → (a == b) ≡ (c == d)
    by (inl e) = eq-eqb a b e ∙ sym (eq-eqb c d (there e))
    by (inr differ) = ne_eqb a b differ ∙ sym (ne_eqb c d (λ e. differ (back e)))

abbrev pub both_by : (ℕ → ℕ) → ℕ × ℕ → ℕ × ℕ
both_by f a = (f a.0, f a.1)

pub same_arcs : (u e n0 n1 n2 c0 c1 c2 : ℕ) (f : ℕ → ℕ) → (n0 == u) ≡ (c0 == e) → (n1 == u) ≡ (c1 == e) → (n2 == u) ≡ (c2 == e) → f c0 ≡ n0 → f c1 ≡ n1 → f c2 ≡ n2 → arcs_at u n0 n1 n2 ≡ map (both_by f) (arcs_at e c0 c1 c2)
same_arcs u e n0 n1 n2 c0 c1 c2 f t0 t1 t2 p0 p1 p2 = rw (t0, t1, t2) (by (c0 == e) (c1 == e) (c2 == e))
  where
    by : (first second third : Bool) → (if first then (n1, n2) ∷ [] else (if second then (n2, n0) ∷ [] else (if third then (n0, n1) ∷ [] else []))) ≡ map (both_by f) (if first then (c1, c2) ∷ [] else (if second then (c2, c0) ∷ [] else (if third then (c0, c1) ∷ [] else [])))
    by true second third = rw (p1, p2) refl
    by false true third = rw (p2, p0) refl
    by false false true = rw (p0, p1) refl
    by false false false = refl
