-- The arcs opposite a vertex, with the places of the edges that leave it.
use Rattle.std.specs.Prelude.{ℕ, suc, ◌+◌, ◌*◌, ◌==◌, ◌<◌, Bool, ◌||◌, List, [], ◌∷◌, ◌++◌, map, All, if◌then◌else◌}
use Rattle.kuhn_cells.specs.Faces.{Face as Triple}
use Rattle.ply_check.specs.declared.arc.Arc.{Arc}

-- whether a face has a vertex
abbrev pub has : ℕ → Triple → Bool
has u f = f.a == u || (f.b == u || f.c == u)

-- the arc that the face of a number leaves opposite a vertex
abbrev pub arcs_of : ℕ → ℕ → Triple → List Arc
arcs_of u n f =
    if f.a == u then record { next = f.b; last = f.c; place = 3 * n } ∷ []
    else (if f.b == u then record { next = f.c; last = f.a; place = 3 * n + 1 } ∷ []
    else (if f.c == u then record { next = f.a; last = f.b; place = 3 * n + 2 } ∷ [] else []))

-- those of faces that are numbered from one on
abbrev pub arcs_from : ℕ → ℕ → List Triple → List Arc
arcs_from u n [] = []
arcs_from u n (f ∷ fs) = arcs_of u n f ++ arcs_from u (suc n) fs

-- where arcs run, without the places
abbrev pub pairs : List Arc → List (ℕ × ℕ)
pairs arcs = map (λ (a : Arc). (a.next, a.last)) arcs

-- an arc runs between vertices below a number
pub record IsWithin (top : ℕ) (a : Arc) : Type 0 where
  pub next : a.next < top
  pub last : a.last < top

abbrev pub AreWithin : ℕ → List Arc → Type 0
AreWithin top arcs = All (IsWithin top) arcs
