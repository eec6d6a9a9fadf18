-- Grids with their cells, and a mesh worked out by hand.
use Rattle.std.proofs.Common.{◌≡◌, ℕ, ◌<◌, Bool, true, false, List, [], ◌∷◌, refl, ap, arith, ◌∙◌}
use Rattle.std.specs.Prelude.{ℤ, pos, negsuc, not, ◌||◌, replicate}
use Rattle.std.proofs.lemmas.Bool.{agree_below, agree_below_at, and_parts, leb-true}
use Rattle.kuhn_cells.specs.declared.cell_list.CellList.{CellList}
use Rattle.kuhn_cells.specs.declared.cell_list.CellValues.{CellValues}
use Rattle.kuhn_cells.specs.Arrangement.{arranged}
use Rattle.kuhn_cells.specs.Cells.{is_outermost, mixed_cells}
use Rattle.kuhn_cells.specs.Faces.{Face, all_triangles, faces}
use Rattle.kuhn_cells.specs.Grids.{Grid, grid_size, is_inside_at, is_point, vertices}
use Rattle.kuhn_cells.specs.Lists.{ListsCells, listed_size}
use Rattle.kuhn_cells.specs.Triangles.{GridPoint, point}
use Rattle.tetra_mesh.specs.declared.vertex.Vertex.{Vertex}
use Rattle.tetra_mesh.specs.Cuts.{mesh_of}
use Rattle.tetra_mesh.specs.Meshes.{Triangulation}

-- Two cells along each axis. The value is a quarter below 0 at the middle point, and 3, 7 or 11 quarters at the others.
abbrev pub inside : ℤ
inside = negsuc 1073741823

abbrev pub axis : ℤ
axis = pos 3221225472

abbrev pub face_diagonal : ℤ
face_diagonal = pos 7516192768

abbrev pub body_diagonal : ℤ
body_diagonal = pos 11811160064

abbrev pub lone_point : Grid
lone_point = record { x = 2; y = 2; z = 2; values = body_diagonal ∷ face_diagonal ∷ body_diagonal ∷ face_diagonal ∷ axis ∷ face_diagonal ∷ body_diagonal ∷ face_diagonal ∷ body_diagonal ∷ face_diagonal ∷ axis ∷ face_diagonal ∷ axis ∷ inside ∷ axis ∷ face_diagonal ∷ axis ∷ face_diagonal ∷ body_diagonal ∷ face_diagonal ∷ body_diagonal ∷ face_diagonal ∷ axis ∷ face_diagonal ∷ body_diagonal ∷ face_diagonal ∷ body_diagonal ∷ [] }

abbrev at : ℕ → ℕ → ℕ → ℕ → ℕ → Vertex
at x y z dir t = record { key = record { z = z; y = y; x = x; dir = dir }; t = t }

abbrev face : ℕ → ℕ → ℕ → Face
face a b c = record { a = a; b = b; c = c }

abbrev expected : Triangulation
expected = record {
  vertices = at 0 0 0 7 60075 ∷ at 1 0 0 6 57344 ∷ at 0 1 0 5 57344 ∷ at 1 1 0 4 49152 ∷ at 0 0 1 3 57344 ∷ at 1 0 1 2 49152 ∷ at 0 1 1 1 49152 ∷ at 1 1 1 1 16384 ∷ at 1 1 1 2 16384 ∷ at 1 1 1 3 8192 ∷ at 1 1 1 4 16384 ∷ at 1 1 1 5 8192 ∷ at 1 1 1 6 8192 ∷ at 1 1 1 7 5461 ∷ [];
  faces = face 0 3 1 ∷ face 0 1 5 ∷ face 0 2 3 ∷ face 0 6 2 ∷ face 0 5 4 ∷ face 0 4 6 ∷ face 1 3 7 ∷ face 1 7 5 ∷ face 2 8 3 ∷ face 2 6 8 ∷ face 3 9 7 ∷ face 3 8 9 ∷ face 4 5 10 ∷ face 4 10 6 ∷ face 5 7 11 ∷ face 5 11 10 ∷ face 6 12 8 ∷ face 6 10 12 ∷ face 7 9 13 ∷ face 7 13 11 ∷ face 8 13 9 ∷ face 8 12 13 ∷ face 10 11 13 ∷ face 10 13 12 ∷ [];
}

mesh_of_lone_point : mesh_of lone_point ≡ expected
unfolding vertices faces all_triangles arranged
mesh_of_lone_point = refl

-- ---- what the tests hand in

yes : ℕ → Bool
yes k = true

-- a point of the outermost layer is outside
is_safe : Grid → ℕ → ℕ → ℕ → Bool
is_safe g z y x = not (is_outermost g (point x y z)) || not (is_inside_at g (point x y z))

implied : (a b : Bool) → (not a || not b) ≡ true → a ≡ true → b ≡ false
implied true false h e = refl
implied true true h e = absurd (cc)
implied false b h e = absurd (cc)

all_safe : Grid → ℕ → Bool
all_safe g n = agree_below (λ z. agree_below (λ y. agree_below (is_safe g z y) yes n) yes n) yes n

outside : (g : Grid) (n : ℕ) → g.x < n → g.y < n → g.z < n → all_safe g n ≡ true → (p : GridPoint) → is_point g p ≡ true → is_outermost g p ≡ true → is_inside_at g p ≡ false
unfolding all_safe is_safe yes
outside g n fx fy fz safe p is outer =
    let x = and_parts _ _ is in
    let y = and_parts _ _ x.1 in
    let px = leb-true p.x g.x x.0 in
    let py = leb-true p.y g.y y.0 in
    let pz = leb-true p.z g.z y.1 in
    implied (is_outermost g p) (is_inside_at g p) (agree_below_at (is_safe g p.z p.y) yes n p.x (agree_below_at (λ y. agree_below (is_safe g p.z y) yes n) yes n p.y (agree_below_at (λ z. agree_below (λ y. agree_below (is_safe g z y) yes n) yes n) yes n p.z safe (omega (arith, pz, fz))) (omega (arith, py, fy))) (omega (arith, px, fx))) outer

lone_point_is_safe : all_safe lone_point 3 ≡ true
unfolding all_safe is_safe yes
lone_point_is_safe = refl

abbrev cell : ℕ → ℕ → ℕ → List ℤ → CellValues
cell x y z values = record { x = x; y = y; z = z; values = values }

abbrev eight : ℤ → ℤ → ℤ → ℤ → ℤ → ℤ → ℤ → ℤ → List ℤ
eight a b c d e f g h = a ∷ b ∷ c ∷ d ∷ e ∷ f ∷ g ∷ h ∷ []

abbrev pub cells_round : ℤ → ℤ → ℤ → ℤ → List CellValues
cells_round i a f b =
    cell 0 0 0 (eight b f f a f a a i)
    ∷ cell 1 0 0 (eight f b a f a f i a)
    ∷ cell 0 1 0 (eight f a b f a i f a)
    ∷ cell 1 1 0 (eight a f f b i a a f)
    ∷ cell 0 0 1 (eight f a a i b f f a)
    ∷ cell 1 0 1 (eight a f i a f b a f)
    ∷ cell 0 1 1 (eight a i f a f a b f)
    ∷ cell 1 1 1 (eight i a a f a f f b)
    ∷ []

cells_of_lone_point : cells_round inside axis face_diagonal body_diagonal ≡ mixed_cells lone_point
unfolding mixed_cells
cells_of_lone_point = refl

pub lists_lone_point : (i a f b : ℤ) (list : CellList) → i ≡ inside → a ≡ axis → f ≡ face_diagonal → b ≡ body_diagonal → listed_size list ≡ grid_size lone_point → list.cells.items ≡ cells_round i a f b → ListsCells (grid_size lone_point) list lone_point
lists_lone_point i a f b list ei ea ef eb n items =
    record {
      x = refl;
      y = refl;
      z = refl;
      border = record { whole = refl; outside = outside lone_point 3 (omega arith) (omega arith) (omega arith) lone_point_is_safe };
      count = n;
      cells = items ∙ same ∙ cells_of_lone_point;
    }
  where
    same : cells_round i a f b ≡ cells_round inside axis face_diagonal body_diagonal
    same = rw (ei, ea, ef, eb) refl

abbrev pub lone_cell : Grid
lone_cell = record { x = 1; y = 1; z = 1; values = replicate 8 (pos 0) }

lone_cell_is_safe : all_safe lone_cell 2 ≡ true
unfolding all_safe is_safe yes
lone_cell_is_safe = refl

none_mixed : [] ≡ mixed_cells lone_cell
unfolding mixed_cells
none_mixed = refl

pub lists_lone_cell : (list : CellList) → listed_size list ≡ grid_size lone_cell → list.cells.items ≡ [] → ListsCells (grid_size lone_cell) list lone_cell
lists_lone_cell list n items =
    record {
      x = refl;
      y = refl;
      z = refl;
      border = record { whole = refl; outside = outside lone_cell 2 (omega arith) (omega arith) (omega arith) lone_cell_is_safe };
      count = n;
      cells = items ∙ none_mixed;
    }
