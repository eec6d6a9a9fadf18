-- The contour of a plane grid: loops along its segments.
use Rattle.std.specs.Prelude.{◌≡◌, ℕ, ◌+◌, ◌-◌, ◌==◌, ◌<◌, List, [], ◌∷◌, count_by, drop, get_or, length, take, All, AllPairs, Contains}
use Rattle.std.specs.List.{concat}
use Rattle.mesh_laws.specs.Manifold.{cycle_arcs}
use Rattle.plane_loops.specs.declared.plane_vertex.PlaneVertex.{PlaneVertex}
use Rattle.plane_loops.specs.Planes.{PlaneEdge, PlaneGrid, mixed_edges, vertices}
use Rattle.plane_loops.specs.Segments.{segments}

-- a segment runs from a vertex to another, by their numbers
pub record AreJoined (g : PlaneGrid) (u v : ℕ) : Type 0 where
  pub from : u < length (mixed_edges g)
  pub to : v < length (mixed_edges g)
  pub along : (d : PlaneEdge) → Contains (segments g)
      (record { from = get_or (mixed_edges g) u d; to = get_or (mixed_edges g) v d })

-- the first vertex of a loop
abbrev pub start_of : List ℕ → ℕ
start_of loop = get_or loop 0 0

-- a loop has vertices, and the first is lower than the others
abbrev pub StartsLowest : List ℕ → Type 0
StartsLowest [] = ⊥
StartsLowest (v ∷ vs) = All (λ w. v < w) vs

-- Loops along joined vertices, of which there are so many: consecutive vertices of a loop are joined,
-- and so is the last with the first; each vertex stands on one loop, once; each loop starts at its
-- lowest vertex, and the starts rise.
pub record AreLoops (count : ℕ) (Joined : ℕ → ℕ → Type 0) (loops : List (List ℕ)) : Type 0 where
  pub joined : All (λ loop. All (λ arc. Joined arc.0 arc.1) (cycle_arcs loop)) loops
  pub once : (v : ℕ) → v < count → count_by (λ w. w == v) (concat loops) ≡ 1
  pub within : All (λ v. v < count) (concat loops)
  pub lowest : All StartsLowest loops
  pub rise : AllPairs (λ k l. start_of k < start_of l) loops

-- the vertices of a contour, its loops one after the other, and where each loop ends among them
pub record Contour : Type 0 where
  pub vertices : List PlaneVertex
  pub order : List ℕ
  pub ends : List ℕ

-- the pieces of a list that end at these places, of which the first starts at a place of its own
abbrev pub pieces_from : {A : Type 0} → ℕ → List A → List ℕ → List (List A)
pieces_from start xs [] = []
pieces_from start xs (end ∷ ends) = take (end - start) (drop start xs) ∷ pieces_from end xs ends

-- the loops of a contour, by the numbers of their vertices
abbrev pub loops_of : Contour → List (List ℕ)
loops_of c = pieces_from 0 c.order c.ends

-- where each loop ends, where so many vertices stand before the first
abbrev pub ends_from : ℕ → List (List ℕ) → List ℕ
ends_from before [] = []
ends_from before (loop ∷ loops) = (before + length loop) ∷ ends_from (before + length loop) loops

-- the contour that has some loops
abbrev pub contour_with : PlaneGrid → List (List ℕ) → Contour
contour_with g loops =
    record { vertices = vertices g; order = concat loops; ends = ends_from 0 loops }

-- A contour of a grid: its vertices are all edges with exactly one inside end, in their order, and
-- its loops follow the segments.
pub record IsContour (g : PlaneGrid) (c : Contour) : Type 0 where
  pub loops : List (List ℕ)
  pub follow : AreLoops (length (mixed_edges g)) (AreJoined g) loops
  pub «is» : c ≡ contour_with g loops
