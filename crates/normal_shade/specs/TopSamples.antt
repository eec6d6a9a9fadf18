-- Top samples of columns, which are lit side by side.
use Rattle.std.specs.Prelude.{◌≡◌, ℕ, ◌+◌, ◌*◌, ◌<◌, ◌==◌, Bool, true, false, List, length, get_or, slice_index_or, if◌then◌else◌}
use Rattle.std.specs.List.{All, list_any, sum_by}
use Rattle.fixed_ops.specs.Counts.{Counts, RisesBy, points_of}
use Rattle.fixed_ops.specs.Points.{Point}
use Rattle.live_clauses.specs.declared.step.Step.{Step}
use Rattle.view_places.specs.Places.{point_of}
use Rattle.view_places.specs.Window.{Window}
use Rattle.view_places.specs.declared.lattice.Lattice.TheVariants.{Height}
use Rattle.normal_shade.specs.DualWork.{dual_points}
use Rattle.normal_shade.specs.Marks.{shade_at}
use Rattle.normal_shade.specs.declared.top_sample.TopSample.{TopSample}

-- a sample of a height map that has so many columns, and where its column stands among them
pub record IsSample (view : Window) (columns : ℕ) (sample : TopSample) : Type 0 where
  pub narrow : sample.i < view.w
  pub low : sample.j < view.h
  pub high : sample.k < view.d
  pub place : sample.place ≡ sample.j * view.w + sample.i
  pub there : sample.place < columns

-- which is the top one of its column by some tops
abbrev pub HasTop : List ℕ → TopSample → Type 0
HasTop tops sample = get_or tops sample.place 0 ≡ sample.k + 1

-- whether the column of one of some top samples stands at a place
abbrev pub stand_at : List TopSample → ℕ → Bool
stand_at samples p = list_any (λ sample. p == sample.place) samples

-- top sample n of some, from 0 on
abbrev pub nth : List TopSample → ℕ → TopSample
nth samples n = slice_index_or samples n (record { i = 0; j = 0; k = 0; place = 0 })

-- where a top sample lies
abbrev pub point_at : Window → TopSample → Point
point_at view sample = point_of view Height sample.i sample.j sample.k

-- the evaluations for some top samples, which are lit by a list
abbrev pub lit_samples : Window → List Step → List TopSample → ℕ
lit_samples view list samples = sum_by (λ sample. dual_points (point_at view sample) list) samples

-- The columns at some places are lit, and the points that this takes are counted, but for those of the top
-- samples that wait.
pub record AllButWaiting (view : Window) (list : List Step) (tops : List ℕ) (columns : ℕ → Bool)
    (points : ℕ) (waiting : List TopSample) (old new : List ℕ) (before after : Counts) : Type 0 where
  pub same : length new ≡ length old
  pub among : (p : ℕ) → stand_at waiting p ≡ true → columns p ≡ true
  pub each : (p : ℕ) → p < length old → stand_at waiting p ≡ false
      → get_or new p 0 ≡ (if columns p then shade_at view list tops p else get_or old p 0)
  pub have : All (HasTop tops) waiting
  pub lit : ℕ
  pub rises : RisesBy before after (points_of lit)
  pub all : lit + lit_samples view list waiting ≡ points
