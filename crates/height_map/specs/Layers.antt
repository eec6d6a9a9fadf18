-- The columns of a leaf, and the layers of their samples.
use Rattle.std.specs.Prelude.{◌≡◌, ℕ, ◌+◌, ◌-◌, ◌*◌, ◌/◌, ◌%◌, ◌<◌, ◌==◌, Bool, List, map, get_or, slice_index_or, if◌then◌else◌}
use Rattle.std.specs.List.{filter, flat_map, list_any, range_with_len}
use Rattle.fixed_ops.specs.Points.{Point}
use Rattle.live_clauses.specs.declared.step.Step.{Step}
use Rattle.view_places.specs.Boxes.{Indices}
use Rattle.view_places.specs.Places.{point_of}
use Rattle.view_places.specs.Window.{Window}
use Rattle.view_places.specs.declared.lattice.Lattice.TheVariants.{Height}
use Rattle.height_map.specs.Tops.{inside}
use Rattle.height_map.specs.declared.column.Column.{Column}

-- a column is one of a height map's, whose tops there are
pub record IsColumn (view : Window) (len : ℕ) (column : Column) : Type 0 where
  pub narrow : column.i < view.w
  pub low : column.j < view.h
  pub place : column.place ≡ column.j * view.w + column.i
  pub there : column.place < len

-- the columns of a box in row j, from the left on, where whole rows have w columns
abbrev pub columns_in : ℕ → Indices → ℕ → List Column
columns_in w b j =
    map (λ i. record { i = i; j = j; place = j * w + i }) (range_with_len b.x0 (b.x1 - b.x0))

-- the columns of a box, row by row
abbrev pub columns_of : ℕ → Indices → List Column
columns_of w b = flat_map (columns_in w b) (range_with_len b.y0 (b.y1 - b.y0))

-- those columns that have no top
abbrev pub open_among : List ℕ → List Column → List Column
open_among tops columns = filter (λ column. get_or tops column.place 0 == 0) columns

-- whether the top of one of some columns stands at a place
abbrev pub stand_at : List Column → ℕ → Bool
stand_at columns p = list_any (λ column. p == column.place) columns

-- column n of some, from 0 on
abbrev pub nth : List Column → ℕ → Column
nth columns n = slice_index_or columns n (record { i = 0; j = 0; place = 0 })

-- the point of the sample of a column in layer k
abbrev pub point_at : Window → ℕ → Column → Point
point_at view k column = point_of view Height column.i column.j k

-- the layer of the samples at k of a box
abbrev pub layer_of : Indices → ℕ → Indices
layer_of b k = record b { z0 = k; z1 = k + 1 }

-- the top of a column, once its sample in layer k is looked at: right above that where it is inside
abbrev pub layer_top : Window → List Step → ℕ → ℕ → ℕ → ℕ
layer_top view list k p old =
    if inside view list (p % view.w) (p / view.w) k then k + 1 else old
