-- The turns of a tetrahedron: the pairs of edges that follow each other round one of its triangles.
use Rattle.std.proofs.Common.{◌≡◌, ℕ, Bool, true, false, List, [], ◌∷◌, refl, arith, ap, ◌∙◌}
use Rattle.std.specs.Prelude.{◌==◌, min, max, map, flat_map, get_or, if◌then◌else◌}
use Rattle.std.specs.List.{range_with_len}
use Rattle.std.proofs.lemmas.List.Folds.{flat_map-map}
use Rattle.kuhn_cells.specs.declared.edge_key.EdgeKey.{EdgeKey}
use Rattle.kuhn_cells.specs.declared.triple.Triple.{Triple}
use Rattle.kuhn_cells.specs.Arrangement.{arranged, inside_count, pattern_of}
use Rattle.kuhn_cells.specs.Corners.{corner, is_negative}
use Rattle.kuhn_cells.specs.Faces.{all_triangles, cell_triangles}
use Rattle.kuhn_cells.specs.Grids.{Grid, is_inside_at, over_block}
use Rattle.kuhn_cells.specs.Triangles.{GridPoint, edge_between, further, point, triangles_among, triangles_in}
use Rattle.kuhn_cells.proofs.EdgeLaws.{corner_at}
use Rattle.mesh_laws.proofs.Lists.{flat_of_maps, flat_same}
use Rattle.fixed_ops.proofs.Lists.{flat_flat}

-- the pairs in which three things follow each other, round and round
abbrev pub round : {A : Type 0} → A → A → A → List (A × A)
round x y z = (x, y) ∷ (y, z) ∷ (z, x) ∷ []

abbrev pub turns_of : Triple → List (EdgeKey × EdgeKey)
turns_of t = round t.a t.b t.c

-- an edge of a tetrahedron from an inside corner to an outside one, by their positions
pub record Way : Type 0 where
  pub inner : ℕ
  pub outer : ℕ

abbrev pub way : ℕ → ℕ → Way
way i j = record { inner = i; outer = j }

-- the edges of the triangles of the arranged corners a, b, c and d, each from inside to outside
abbrev pub edges_among : {A : Type 0} → (ℕ → ℕ → A) → ℕ → ℕ → ℕ → ℕ → ℕ → List (A × A × A)
edges_among edge count a b c d =
    if count == 1 then (edge a b, edge a c, edge a d) ∷ []
    else (if count == 3 then (edge b a, edge d a, edge c a) ∷ []
    else (if count == 2 then (edge a c, edge a d, edge b d) ∷ (edge a c, edge b d, edge b c) ∷ []
    else []))

-- the triangles of a tetrahedron by its sign and by which of its corners are inside, and their turns
unfoldable pub ways_in : Bool → List Bool → List (Way × Way × Way)
ways_in negative pattern =
    let ks = arranged negative pattern in
    edges_among way (inside_count pattern) (get_or ks 0 0) (get_or ks 1 0) (get_or ks 2 0) (get_or ks 3 0)

abbrev pub turns_in : Bool → List Bool → List (Way × Way)
turns_in negative pattern = flat_map (λ t. round t.0 t.1 t.2) (ways_in negative pattern)

-- the key of an edge of a tetrahedron of a cell
abbrev pub key_of : GridPoint → ℕ → Way → EdgeKey
key_of cell tetra w = edge_between cell (corner tetra w.inner) (corner tetra w.outer)

abbrev pub keys_of : GridPoint → ℕ → Way × Way → EdgeKey × EdgeKey
keys_of cell tetra t = (key_of cell tetra t.0, key_of cell tetra t.1)

abbrev pub triple_of : GridPoint → ℕ → Way × Way × Way → Triple
triple_of cell tetra t = record { a = key_of cell tetra t.0; b = key_of cell tetra t.1; c = key_of cell tetra t.2 }

abbrev pub pattern_at : (GridPoint → Bool) → GridPoint → ℕ → List Bool
pattern_at inside cell tetra = pattern_of (λ c. inside (further cell c)) tetra

-- the turns of a tetrahedron of a cell, and of all tetrahedra of a cell
abbrev pub turns_at : (GridPoint → Bool) → GridPoint → ℕ → List (EdgeKey × EdgeKey)
turns_at inside cell tetra = map (keys_of cell tetra) (turns_in (is_negative tetra) (pattern_at inside cell tetra))

abbrev pub cell_turns : (GridPoint → Bool) → GridPoint → List (EdgeKey × EdgeKey)
cell_turns inside cell = flat_map (turns_at inside cell) (range_with_len 0 6)

-- the turns of the triangles of a grid
unfoldable pub all_turns : Grid → List (EdgeKey × EdgeKey)
all_turns g = over_block g.x g.y g.z (cell_turns (is_inside_at g))

-- ---- they are the turns of the triangles

min_both : (a b : ℕ) → min a b ≡ min b a
min_both a b = omega arith

max_both : (a b : ℕ) → max a b ≡ max b a
max_both a b = omega arith

edge_both : (cell : GridPoint) (a b : ℕ) → edge_between cell a b ≡ edge_between cell b a
edge_both cell a b = rw (min_both a b, max_both a b) refl

abbrev triple : EdgeKey × EdgeKey × EdgeKey → Triple
triple t = record { a = t.0; b = t.1; c = t.2 }

turned : (edge : ℕ → ℕ → EdgeKey) → ((a b : ℕ) → edge a b ≡ edge b a) → (count a b c d : ℕ) → triangles_among edge count a b c d ≡ map triple (edges_among edge count a b c d)
turned edge both count a b c d = by (count == 1) (count == 3) (count == 2)
  where
    by : (one three two : Bool) → (if one then record { a = edge a b; b = edge a c; c = edge a d } ∷ [] else (if three then record { a = edge a b; b = edge a d; c = edge a c } ∷ [] else (if two then record { a = edge a c; b = edge a d; c = edge b d } ∷ record { a = edge a c; b = edge b d; c = edge b c } ∷ [] else []))) ≡ map triple (if one then (edge a b, edge a c, edge a d) ∷ [] else (if three then (edge b a, edge d a, edge c a) ∷ [] else (if two then (edge a c, edge a d, edge b d) ∷ (edge a c, edge b d, edge b c) ∷ [] else [])))
    by true three two = refl
    by false true two = rw (both b a, both d a, both c a) refl
    by false false true = refl
    by false false false = refl

mapped : (key : Way → EdgeKey) (count a b c d : ℕ) → map triple (edges_among (λ i j. key (way i j)) count a b c d) ≡ map (λ (t : Way × Way × Way). triple (key t.0, key t.1, key t.2)) (edges_among way count a b c d)
mapped key count a b c d = by (count == 1) (count == 3) (count == 2)
  where
    by : (one three two : Bool) → map triple (if one then (key (way a b), key (way a c), key (way a d)) ∷ [] else (if three then (key (way b a), key (way d a), key (way c a)) ∷ [] else (if two then (key (way a c), key (way a d), key (way b d)) ∷ (key (way a c), key (way b d), key (way b c)) ∷ [] else []))) ≡ map (λ (t : Way × Way × Way). triple (key t.0, key t.1, key t.2)) (if one then (way a b, way a c, way a d) ∷ [] else (if three then (way b a, way d a, way c a) ∷ [] else (if two then (way a c, way a d, way b d) ∷ (way a c, way b d, way b c) ∷ [] else [])))
    by true three two = refl
    by false true two = refl
    by false false true = refl
    by false false false = refl

pub triangles_of_tetrahedron : (inside : GridPoint → Bool) (cell : GridPoint) (tetra : ℕ) → triangles_in cell tetra (λ c. inside (further cell c)) ≡ map (triple_of cell tetra) (ways_in (is_negative tetra) (pattern_at inside cell tetra))
unfolding ways_in
triangles_of_tetrahedron inside cell tetra =
    let pattern = pattern_at inside cell tetra in
    let ks = arranged (is_negative tetra) pattern in
    let count = inside_count pattern in
    turned (edge_between cell) (edge_both cell) count _ _ _ _
    ∙ rw (corner_at tetra ks 0, corner_at tetra ks 1, corner_at tetra ks 2, corner_at tetra ks 3) (mapped (key_of cell tetra) count (get_or ks 0 0) (get_or ks 1 0) (get_or ks 2 0) (get_or ks 3 0))

pub turns_of_tetrahedron : (inside : GridPoint → Bool) (cell : GridPoint) (tetra : ℕ) → flat_map turns_of (triangles_in cell tetra (λ c. inside (further cell c))) ≡ turns_at inside cell tetra
turns_of_tetrahedron inside cell tetra =
    let ways = ways_in (is_negative tetra) (pattern_at inside cell tetra) in
    ap (flat_map turns_of) (triangles_of_tetrahedron inside cell tetra)
    ∙ flat_map-map turns_of (triple_of cell tetra) ways
    ∙ flat_of_maps (keys_of cell tetra) (λ t. round t.0 t.1 t.2) ways

pub turns_of_cell : (inside : GridPoint → Bool) (cell : GridPoint) → flat_map turns_of (cell_triangles inside cell) ≡ cell_turns inside cell
turns_of_cell inside cell =
    flat_flat turns_of (λ tetra. triangles_in cell tetra (λ c. inside (further cell c))) (range_with_len 0 6)
    ∙ flat_same (λ tetra. flat_map turns_of (triangles_in cell tetra (λ c. inside (further cell c)))) (turns_at inside cell) (turns_of_tetrahedron inside cell) (range_with_len 0 6)

flat_block : {A B : Type 0} (f : A → List B) (nx ny nz : ℕ) (at : GridPoint → List A) (to : GridPoint → List B) → ((p : GridPoint) → flat_map f (at p) ≡ to p) → flat_map f (over_block nx ny nz at) ≡ over_block nx ny nz to
flat_block f nx ny nz at to same =
    flat_flat f _ (range_with_len 0 nz) ∙ flat_same _ _ (λ z.
    flat_flat f _ (range_with_len 0 ny) ∙ flat_same _ _ (λ y.
    flat_flat f _ (range_with_len 0 nx) ∙ flat_same _ _ (λ x. same (point x y z)) (range_with_len 0 nx)) (range_with_len 0 ny)) (range_with_len 0 nz)

pub turns_are_all : (g : Grid) → flat_map turns_of (all_triangles g) ≡ all_turns g
unfolding all_triangles all_turns
turns_are_all g = flat_block turns_of g.x g.y g.z (cell_triangles (is_inside_at g)) (cell_turns (is_inside_at g)) (turns_of_cell (is_inside_at g))
