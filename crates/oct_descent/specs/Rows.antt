-- The mixed cells of a list's grid, row by row.
use Rattle.std.specs.Prelude.{ℕ, ◌-◌, List, [], ◌∷◌, filter}
use Rattle.std.specs.List.{flat_map, range_with_len}
use Rattle.kuhn_cells.specs.Cells.{cell_at, is_mixed_cell}
use Rattle.kuhn_cells.specs.Triangles.{GridPoint, point}
use Rattle.kuhn_cells.specs.declared.cell_list.CellValues.{CellValues}
use Rattle.live_clauses.specs.declared.step.Step.{Step}
use Rattle.view_places.specs.Window.{Window, size_of}
use Rattle.oct_descent.specs.GridValues.{list_grid}

-- the cell at a place, where it is mixed
abbrev pub cells_at : Window → List Step → GridPoint → List CellValues
cells_at view list p = filter is_mixed_cell (cell_at (list_grid view list) p ∷ [])

-- those mixed cells of row y of layer z that lie from low on, below high
abbrev pub cells_between : Window → List Step → ℕ → ℕ → ℕ → ℕ → List CellValues
cells_between view list low high y z =
    flat_map (λ x. cells_at view list (point x y z)) (range_with_len low (high - low))

-- the mixed cells of row y of layer z
abbrev pub cells_in_row : Window → List Step → ℕ → ℕ → List CellValues
cells_in_row view list y z =
    flat_map (λ x. cells_at view list (point x y z)) (range_with_len 0 (size_of view).x)

-- the mixed cells of layer z
abbrev pub cells_in_layer : Window → List Step → ℕ → List CellValues
cells_in_layer view list z =
    flat_map (λ y. cells_in_row view list y z) (range_with_len 0 (size_of view).y)
