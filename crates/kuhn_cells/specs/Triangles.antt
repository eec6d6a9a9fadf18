-- The triangles of one tetrahedron.
use Rattle.std.specs.Prelude.{ℕ, ◌+◌, ◌-◌, ◌/◌, ◌%◌, ◌^◌, ◌==◌, min, max, Bool, List, [], ◌∷◌, get_or, if◌then◌else◌}
use Rattle.kuhn_cells.specs.declared.edge_key.EdgeKey.{EdgeKey}
use Rattle.kuhn_cells.specs.declared.triple.Triple.{Triple}
use Rattle.kuhn_cells.specs.Arrangement.{arrangement, inside_count, pattern_of}
use Rattle.kuhn_cells.specs.Corners.{along_x, along_y, along_z}

-- a point of a grid, by its index along each axis
pub record GridPoint : Type 0 where
  pub x : ℕ
  pub y : ℕ
  pub z : ℕ

abbrev pub point : ℕ → ℕ → ℕ → GridPoint
point x y z = record { x = x; y = y; z = z }

-- the point that lies one step further along each axis of a mask
abbrev pub further : GridPoint → ℕ → GridPoint
further p mask = record { x = p.x + along_x mask; y = p.y + along_y mask; z = p.z + along_z mask }

-- the edge from a point in a direction
abbrev pub edge_from : GridPoint → ℕ → EdgeKey
edge_from p dir = record { x = p.x; y = p.y; z = p.z; dir = dir }

-- The edge between two corners of a cell, of which one mask is a part of the other: its lower point, and the
-- direction, which is the greater mask without the lesser.
abbrev pub edge_between : GridPoint → ℕ → ℕ → EdgeKey
edge_between cell a b = edge_from (further cell (min a b)) (max a b - min a b)

-- The triangles of the arranged corners a, b, c and d by how many of the four are inside. Seen from
-- the outside each runs counterclockwise.
abbrev pub triangles_among : (ℕ → ℕ → EdgeKey) → ℕ → ℕ → ℕ → ℕ → ℕ → List Triple
triangles_among edge count a b c d =
    if count == 1 then record { a = edge a b; b = edge a c; c = edge a d } ∷ []
    else (if count == 3 then record { a = edge a b; b = edge a d; c = edge a c } ∷ []
    else (if count == 2
    then record { a = edge a c; b = edge a d; c = edge b d }
    ∷ record { a = edge a c; b = edge b d; c = edge b c } ∷ []
    else []))

-- the triangles of a tetrahedron of a cell, where some of its corners v0 to v3 are inside
abbrev pub triangles_by : GridPoint → ℕ → List Bool → List Triple
triangles_by cell tetra pattern =
    let corners = arrangement tetra pattern in
    triangles_among (edge_between cell) (inside_count pattern)
    (get_or corners 0 0) (get_or corners 1 0) (get_or corners 2 0) (get_or corners 3 0)

-- the same, where a test says which corners of the cell are inside
abbrev pub triangles_in : GridPoint → ℕ → (ℕ → Bool) → List Triple
triangles_in cell tetra inside = triangles_by cell tetra (pattern_of inside tetra)

-- bit c of the signs of a cell is 1 where its corner c is inside
abbrev pub has_sign : ℕ → ℕ → Bool
has_sign signs c = signs / 2 ^ c % 2 == 1

-- the triangles of a tetrahedron of the cell at (x, y, z) with these signs
abbrev pub triangles_of : ℕ → ℕ → ℕ → ℕ → ℕ → List Triple
triangles_of x y z tetra signs = triangles_in (point x y z) tetra (has_sign signs)
