-- The places of the edges and corners of faces.
use Rattle.std.proofs.Common.{◌≡◌, ℕ, zero, suc, ◌+◌, ◌*◌, ◌/◌, ◌%◌, ◌<◌, ◌≤◌, List, [], ◌∷◌, length, get_or, refl, sym, ap, arith, subst, ◌∙◌}
use Rattle.std.specs.Prelude.{All}
use Rattle.std.specs.List.{HoldsAt}
use Rattle.std.proofs.lemmas.List.{get_or-map, get_or_default, length-map}
use Rattle.kuhn_cells.specs.Faces.{Face as Triple}
use Rattle.mesh_laws.specs.Closed.{IsTriangle, directed_edges, directed_edges_of}
use Rattle.ply_check.specs.Corners.{corners, triple_of, triples}
use Rattle.ply_check.specs.Faults.{edge}
use Rattle.ply_check.specs.Lowest.{IsLowestFault}

pub edges_long : (fs : List Triple) → length (directed_edges fs) ≡ 3 * length fs
edges_long [] = refl
edges_long (f ∷ fs) = omega (arith, edges_long fs)

pub corners_long : (faces : List (List ℕ)) → length (corners faces) ≡ 3 * length faces
corners_long faces =
    length-map (directed_edges (triples faces)) (λ (e : ℕ × ℕ). e.0)
    ∙ (edges_long (triples faces) ∙ ap (λ n. 3 * n) (length-map faces triple_of))

-- the edge at a corner of a face
pub edge_by : (fs : List Triple) (d : Triple) (n k j : ℕ) → j ≡ 3 * n + k → k < 3 → n < length fs
    → edge fs j ≡ get_or (directed_edges_of (get_or fs n d)) k (0, 0)
edge_by [] d n k j at corner within = absurd (omega (arith, within))
edge_by (f ∷ fs) d zero zero zero at corner within = refl
edge_by (f ∷ fs) d zero (suc zero) (suc zero) at corner within = refl
edge_by (f ∷ fs) d zero (suc (suc zero)) (suc (suc zero)) at corner within = refl
edge_by (f ∷ fs) d (suc n) k (suc (suc (suc j))) at corner within = edge_by fs d n k j (omega (arith, at)) corner (omega (arith, within))
edge_by (f ∷ fs) d zero (suc (suc (suc k))) j at corner within = absurd (omega (arith, corner))
edge_by (f ∷ fs) d zero zero (suc j) at corner within = absurd (omega (arith, at))
edge_by (f ∷ fs) d zero (suc zero) zero at corner within = absurd (omega (arith, at))
edge_by (f ∷ fs) d zero (suc zero) (suc (suc j)) at corner within = absurd (omega (arith, at))
edge_by (f ∷ fs) d zero (suc (suc zero)) zero at corner within = absurd (omega (arith, at))
edge_by (f ∷ fs) d zero (suc (suc zero)) (suc zero) at corner within = absurd (omega (arith, at))
edge_by (f ∷ fs) d zero (suc (suc zero)) (suc (suc (suc j))) at corner within = absurd (omega (arith, at))
edge_by (f ∷ fs) d (suc n) k zero at corner within = absurd (omega (arith, at))
edge_by (f ∷ fs) d (suc n) k (suc zero) at corner within = absurd (omega (arith, at))
edge_by (f ∷ fs) d (suc n) k (suc (suc zero)) at corner within = absurd (omega (arith, at))

-- by the numbers that a face is written as
pub edge_of : (faces : List (List ℕ)) (n k j : ℕ) → j ≡ 3 * n + k → k < 3 → n < length faces
    → edge (triples faces) j ≡ get_or (directed_edges_of (triple_of (get_or faces n []))) k (0, 0)
edge_of faces n k j at corner within =
    edge_by (triples faces) (triple_of []) n k j at corner (omega (arith, within, length-map faces triple_of))
    ∙ ap (λ (f : Triple). get_or (directed_edges_of f) k (0, 0)) (get_or-map triple_of faces n [] (triple_of []) within)

pub edge_there : (faces : List (List ℕ)) (j k : ℕ) → j % 3 ≡ k → j < 3 * length faces
    → edge (triples faces) j ≡ get_or (directed_edges_of (triple_of (get_or faces (j / 3) []))) k (0, 0)
edge_there faces j k at within = edge_of faces (j / 3) k j (omega arith) (omega arith) (omega arith)

three : (xs : List ℕ) (k : ℕ) → k < 3 → (get_or (directed_edges_of (triple_of xs)) k (0, 0)).0 ≡ get_or xs k 0
three xs zero few = refl
three xs (suc zero) few = refl
three xs (suc (suc zero)) few = refl
three xs (suc (suc (suc k))) few = absurd (omega (arith, few))

-- the vertex at a corner
pub corner_at : (faces : List (List ℕ)) (j : ℕ) → j < 3 * length faces
    → get_or (corners faces) j 0 ≡ get_or (get_or faces (j / 3) []) (j % 3) 0
corner_at faces j within =
    get_or-map (λ (e : ℕ × ℕ). e.0) (directed_edges (triples faces)) j (0, 0) 0 (omega (arith, within, edges_long (triples faces), length-map faces triple_of))
    ∙ (ap (λ (e : ℕ × ℕ). e.0) (edge_there faces j (j % 3) refl within) ∙ three (get_or faces (j / 3) []) (j % 3) (omega arith))

-- each vertex of a face stands at a corner
pub corner_of : (faces : List (List ℕ)) (n k : ℕ) → k < 3 → n < length faces → get_or (corners faces) (3 * n + k) 0 ≡ get_or (get_or faces n []) k 0
corner_of faces n k few within =
    get_or-map (λ (e : ℕ × ℕ). e.0) (directed_edges (triples faces)) (3 * n + k) (0, 0) 0 (omega (arith, within, few, edges_long (triples faces), length-map faces triple_of))
    ∙ (ap (λ (e : ℕ × ℕ). e.0) (edge_of faces n k (3 * n + k) refl few within) ∙ three (get_or faces n []) k few)

pub corners_below : (faces : List (List ℕ)) (top : ℕ) → ((n k : ℕ) → n < length faces → k < 3 → get_or (get_or faces n []) k 0 < top)
    → All (λ v. v < top) (corners faces)
corners_below faces top each j d within =
    let long = corners_long faces in
    let low = each (j / 3) (j % 3) (omega (arith, within, long)) (omega arith) in
    omega (arith, low, corner_at faces j (omega (arith, within, long)), get_or_default (corners faces) j d 0 within)

-- ---- the first face whose vertices do not differ

pub triple_at : (faces : List (List ℕ)) (n : ℕ) (d : Triple) → n < length faces → get_or (triples faces) n d ≡ triple_of (get_or faces n [])
triple_at faces n d within = get_or-map triple_of faces n [] d within

pub all_triangles : (faces : List (List ℕ)) (n : ℕ) → length faces ≤ n → ((k : ℕ) → k < n → IsTriangle (triple_of (get_or faces k []))) → All IsTriangle (triples faces)
all_triangles faces n past each k d within =
    let low : k < length faces = omega (arith, within, length-map faces triple_of) in
    subst IsTriangle (sym (triple_at faces k d low)) (each k (omega (arith, low, past)))

pub first_fault : (faces : List (List ℕ)) (n : ℕ) → n < length faces → ((k : ℕ) → k < n → IsTriangle (triple_of (get_or faces k [])))
    → (IsTriangle (triple_of (get_or faces n [])) → ⊥) → IsLowestFault (HoldsAt IsTriangle (triples faces)) (length (triples faces)) n
first_fault faces n within each fails =
    record {
      within = omega (arith, within, length-map faces triple_of);
      fails = λ h. fails (subst IsTriangle (triple_at faces n (triple_of []) within) (h (triple_of [])));
      below = λ j less d. subst IsTriangle (sym (triple_at faces j d (omega (arith, less, within)))) (each j less);
    }
