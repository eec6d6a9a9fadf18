-- Boxes that lie beside each other, and the nearer and the farther halves of a box.
use Rattle.std.specs.Prelude.{ℕ, ◌-◌, ◌≤◌, nat_lt, List, [], ◌∷◌, if◌then◌else◌}
use Rattle.std.specs.List.{count_by, flat_map, sum_by}
use Rattle.box_chains.specs.Chains.{visit}
use Rattle.live_clauses.specs.declared.step.Step.{Step}
use Rattle.view_places.specs.Boxes.{Indices, halves_x, halves_y, middle}
use Rattle.view_places.specs.Window.{Window}
use Rattle.height_map.specs.Bound.{layered}
use Rattle.box_chains.specs.Tested.{points_where, spans_where}
use Rattle.height_map.specs.Columns.{covers, is_open, leaf_top}

-- no column lies in two of some boxes
abbrev pub LieBeside : ℕ → List Indices → Type 0
LieBeside w boxes = (p : ℕ) → count_by (λ b. covers w b p) boxes ≤ 1

-- the top of a column, once the samples of such boxes are looked at
abbrev pub beside_top : Window → List Step → List Indices → ℕ → ℕ → ℕ
beside_top view list [] p old = old
beside_top view list (b ∷ bs) p old =
    if covers view.w b p then leaf_top view list b p old else beside_top view list bs p old

-- the evaluations that such boxes take which receive a list, over some tops, and the steps that are
-- traced
abbrev pub beside_points : Window → List Step → List ℕ → List Indices → ℕ
beside_points view list tops boxes =
    sum_by (λ b. points_where (is_open view list b tops) (layered view) (visit b list)) boxes

abbrev pub beside_traced : Window → List Step → List ℕ → List Indices → ℕ
beside_traced view list tops boxes =
    sum_by (λ b. spans_where (is_open view list b tops) (layered view) (visit b list)) boxes

-- the halves of a box by y and by x alone
abbrev pub level_halves : ℕ → Indices → List Indices
level_halves leaf b = flat_map (halves_x leaf) (halves_y leaf b)

-- the halves of a box that lie nearest
abbrev pub nearer : ℕ → Indices → List Indices
nearer leaf b =
    level_halves leaf (if nat_lt leaf (b.z1 - b.z0) then record b { z0 = middle b.z0 b.z1 } else b)

-- and those behind them, of which there are none where a box is not halved along z
abbrev pub farther : ℕ → Indices → List Indices
farther leaf b =
    if nat_lt leaf (b.z1 - b.z0) then level_halves leaf (record b { z1 = middle b.z0 b.z1 }) else []
