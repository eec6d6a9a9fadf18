-- What the code needs to know of its tables.
use Rattle.std.specs.Prelude.{◌≡◌, ℕ, ◌+◌, ◌*◌, ◌<◌, ◌≤◌, ℤ, pos, true, List, get_or, map, length}
use Rattle.std.specs.List.{range_with_len}
use Rattle.fixed_ops.specs.Raw.{is_inside}
use Rattle.kuhn_cells.specs.Arrangement.{differ}
use Rattle.plane_loops.specs.Following.{edges_before, next_by, place_of, triangle_by}
use Rattle.plane_loops.specs.Planes.{PlaneEdge, PlanePoint, lower, upper}

-- an edge in a grid of so many cells along each axis
pub record IsInGrid (n : ℕ) (e : PlaneEdge) : Type 0 where
  pub x : e.x < n
  pub y : e.y < n
  pub some : 1 ≤ e.dir
  pub few : e.dir ≤ 3

-- an edge in a grid whose successor can be told: the triangle to its left and the next edge lie there
pub record HasNext (n : ℕ) (signs : List ℕ) (e : PlaneEdge) : Type 0 where
  pub here : IsInGrid n e
  pub left : (triangle_by n signs e).back_x ≤ e.x
  pub below : (triangle_by n signs e).back_y ≤ e.y
  pub next : IsInGrid n (next_by n signs e)

-- for each cell, how many vertices stand on the edges of the cells before it
abbrev pub bases_of : ℕ → List ℕ → List ℕ
bases_of n signs = map (λ k. length (edges_before n signs k)) (range_with_len 0 (n * n))

-- a table of the values of the points of a grid tells that exactly one end of an edge is inside
abbrev pub IsParted : ℕ → List ℤ → PlaneEdge → Type 0
IsParted n values e =
    let value = λ (p : PlanePoint). get_or values (place_of (n + 1) p) (pos 0) in
    differ (is_inside (value (lower e))) (is_inside (value (upper e))) ≡ true
