-- What breaks that faces are closed and a manifold, of the vertices below a number.
use Rattle.std.specs.Prelude.{◌≡◌, ℕ, ◌<◌, ◌≤◌, ◌⊎◌, List, [], length, get_or, All}
use Rattle.kuhn_cells.specs.Faces.{Face as Triple}
use Rattle.mesh_laws.specs.Closed.{directed_edges}
use Rattle.mesh_laws.specs.Manifold.{HasFan}
use Rattle.ply_check.specs.declared.mesh_faults.Faults.{Faults}
use Rattle.ply_check.specs.Degrees.{AreDegrees}
use Rattle.ply_check.specs.Verdicts.{ArePaired, IsPaired}

-- the edge at a place among those of all faces
abbrev pub edge : List Triple → ℕ → ℕ × ℕ
edge fs place = get_or (directed_edges fs) place (0, 0)

-- Before a place all edges from vertices below a number are paired, and the edge there is not, unless
-- the place is the end.
pub record IsFirstBelow (fs : List Triple) (n place : ℕ) : Type 0 where
  pub within : place ≤ length (directed_edges fs)
  pub paired : (j : ℕ) → j < place → (edge fs j).0 < n → IsPaired (directed_edges fs) (edge fs j)
  pub there : place < length (directed_edges fs) → IsPaired (directed_edges fs) (edge fs place) → ⊥

-- The vertices below a number and below one of them have fans, and that one has none, unless it is the
-- top.
pub record IsLowestBelow (fs : List Triple) (top n vertex : ℕ) : Type 0 where
  pub most : (vertex ≡ top) ⊎ (vertex < n)
  pub fans : (j : ℕ) → j < n → j < vertex → HasFan fs j
  pub fails : vertex < top → HasFan fs vertex → ⊥

pub record AreFaultsBelow (fs : List Triple) (top n : ℕ) (faults : Faults) : Type 0 where
  pub edge : IsFirstBelow fs n faults.edge
  pub vertex : ArePaired fs → IsLowestBelow fs top n faults.vertex

-- tables of so many vertices have nothing noted: of none how many edges lead there, or come back
pub record AreClear (top : ℕ) (to back next : List ℕ) : Type 0 where
  pub degrees : AreDegrees top [] to back
  pub size : length next ≡ top
  pub below : All (λ v. v < top) next
