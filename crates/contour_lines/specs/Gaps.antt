-- Points that have no values yet, and how they get them.
use Rattle.std.specs.Prelude.{◌≡◌, ◌≢◌, ℕ, ◌<◌, ◌≤◌, ℤ, Bool, true, ◌||◌, List, Some, None, slice_index_or, if◌then◌else◌}
use Rattle.std.specs.List.{All, AllPairs, list_any}
use Rattle.fixed_ops.specs.Points.{Point}
use Rattle.kuhn_cells.specs.Sizes.{SameSize}
use Rattle.kuhn_cells.specs.Triangles.{GridPoint, further, point}
use Rattle.oct_descent.specs.Known.{Known}
use Rattle.oct_descent.specs.Tables.{is_known, same_point}
use Rattle.view_places.specs.Places.{point_of}
use Rattle.view_places.specs.Window.{Window}
use Rattle.view_places.specs.declared.lattice.Lattice.TheVariants as lattices
use Rattle.contour_lines.specs.declared.gap.Gap.{Gap}

-- the point of a gap
abbrev pub spot : Gap → GridPoint
spot gap = point gap.x gap.y 0

-- where it lies
abbrev pub lies_at : Window → Gap → Point
lies_at view gap = point_of view lattices.Grid gap.x gap.y 0

-- gap n of some, from 0 on
abbrev pub nth : List Gap → ℕ → Gap
nth gaps n = slice_index_or gaps n (record { x = 0; y = 0 })

-- the point is one of the plane grid's
pub record StandsIn (t : Known) (gap : Gap) : Type 0 where
  pub x : gap.x ≤ t.n.x
  pub y : gap.y ≤ t.n.y

-- a point is that of one of some gaps
abbrev pub has_gap : List Gap → GridPoint → Bool
has_gap gaps p = list_any (λ gap. same_point (spot gap) p) gaps

-- the points of some gaps get their values, and all else stays
pub record Fills (g : GridPoint → ℤ) (gaps : List Gap) (before after : Known) : Type 0 where
  pub n : SameSize after.n before.n
  pub each : (q : GridPoint)
      → after.at q ≡ (if has_gap gaps q then Some (g q) else before.at q)

-- the point of a gap is a corner of a cell, by its mask, which is less than a number
pub record IsCornerBelow (count : ℕ) (p q : GridPoint) : Type 0 where
  pub mask : ℕ
  pub less : mask < count
  pub at : q ≡ further p mask

-- Gaps at those of the first corners of a cell that are not known: no point has two.
pub record AreGapsBelow (count : ℕ) (t : Known) (p : GridPoint) (gaps : List Gap) : Type 0 where
  pub stand : All (StandsIn t) gaps
  pub corners : All (λ gap. IsCornerBelow count p (spot gap)) gaps
  pub unknown : All (λ gap. t.at (spot gap) ≡ None) gaps
  pub apart : AllPairs (λ a b. spot a ≢ spot b) gaps
  pub all : (c : ℕ) → c < count
      → (has_gap gaps (further p c) || is_known (t.at (further p c))) ≡ true

-- and of all corners
abbrev pub AreGaps : Known → GridPoint → List Gap → Type 0
AreGaps t p gaps = AreGapsBelow 4 t p gaps
