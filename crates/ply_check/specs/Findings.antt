-- What is found of faces, worked out.
use Rattle.std.specs.Prelude.{ℕ, ◌-◌, ◌==◌, nat_lt, nat_le, Bool, ◌&&◌, not, List, [], ◌∷◌, length, get_or, if◌then◌else◌}
use Rattle.std.specs.List.{list_all, position_or_len, range_with_len}
use Rattle.kuhn_cells.specs.Faces.{Face as Triple}
use Rattle.mesh_laws.specs.Closed.{directed_edges, occurrences}
use Rattle.mesh_laws.specs.Manifold.{arcs}
use Rattle.ply_check.specs.declared.finding.Finding.{Finding}
use Rattle.ply_check.specs.declared.finding.Finding.TheVariants.{Closed, Edge, Face, Vertex}
use Rattle.ply_check.specs.Walks.{first_of, stepped}

-- whether the vertices of a face all differ
abbrev pub is_triangle : Triple → Bool
is_triangle f = not (f.a == f.b) && (not (f.b == f.c) && not (f.c == f.a))

-- whether an edge occurs in one place only, and so does the edge back
abbrev pub is_paired : List (ℕ × ℕ) → ℕ × ℕ → Bool
is_paired es e = occurrences es e.0 e.1 == 1 && occurrences es e.1 e.0 == 1

-- where the first arc from a vertex leads
abbrev pub after : List (ℕ × ℕ) → ℕ → ℕ
after [] v = 0
after (e ∷ es) v = if e.0 == v then e.1 else after es v

-- whether a walk along arcs is not back at its start after a number of steps
abbrev pub is_away : List (ℕ × ℕ) → ℕ → Bool
is_away es steps = not (stepped (after es) steps (first_of es) == first_of es)

-- whether there are three arcs at least, and a walk along them from the first one on is not back in
-- fewer steps than there are arcs
abbrev pub goes_round : List (ℕ × ℕ) → Bool
goes_round es = nat_le 3 (length es) && list_all (is_away es) (range_with_len 1 (length es - 1))

-- The first of these: a face whose vertices do not all differ, an edge that is not paired, a vertex
-- below the count round which its faces do not go; and else that they are closed.
abbrev pub finding_of : ℕ → List Triple → Finding
finding_of count faces =
    let edges = directed_edges faces in
    let face = position_or_len (λ f. not (is_triangle f)) faces in
    let edge = position_or_len (λ e. not (is_paired edges e)) edges in
    let vertex = position_or_len (λ v. not (goes_round (arcs faces v))) (range_with_len 0 count) in
    if nat_lt face (length faces) then Face face
    else (if nat_lt edge (length edges) then Edge (get_or edges edge (0, 0)).0 (get_or edges edge (0, 0)).1
    else (if nat_lt vertex count then Vertex vertex else Closed))
