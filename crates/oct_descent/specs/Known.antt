-- What is known of the points of a grid, how it becomes more, and what that takes.
use Rattle.std.specs.Prelude.{◌≡◌, ℕ, ◌+◌, ◌≤◌, ℤ, true, Option, Some, None, ◌⊎◌, if◌then◌else◌}
use Rattle.box_chains.specs.Chains.{Visit}
use Rattle.box_chains.specs.Sums.{LiesIn, Sample, sum_in}
use Rattle.box_chains.specs.Tallied.{CountsAtMost}
use Rattle.fixed_ops.specs.Counts.{Counts}
use Rattle.kuhn_cells.specs.Triangles.{GridPoint, point}
use Rattle.kuhn_cells.specs.Sizes.{SameSize}
use Rattle.kuhn_cells.specs.declared.grid_size.GridSize.{GridSize}
use Rattle.view_places.specs.Boxes.{Indices}
use Rattle.oct_descent.specs.Bound.{CountsAtLeast, cell_spans_in}
use Rattle.oct_descent.specs.Tables.{IsDue, IsEnough, IsUniform, is_known, same_point}
use Rattle.oct_descent.specs.Ways.{CellDescent, Covers, is_working}

-- how many cells a grid has, the box of all its points, and the values that are known of points
pub record Known : Type 0 where
  pub n : GridSize
  pub points : Indices
  pub at : GridPoint → Option ℤ

-- one point gets a value
pub record Sets (p : GridPoint) (v : ℤ) (before after : Known) : Type 0 where
  pub n : SameSize after.n before.n
  pub each : (q : GridPoint) → after.at q ≡ (if same_point p q then Some v else before.at q)

-- a point of a box that was not known gets its value
pub record IsNew (g : GridPoint → ℤ) (b : Indices) (before after : Known) (p : GridPoint) : Type 0 where
  pub unknown : before.at p ≡ None
  pub covered : Covers b p
  pub value : after.at p ≡ Some (g p)

-- some points of a box that were not known get their values, and all else stays
pub record Grows (g : GridPoint → ℤ) (b : Indices) (before after : Known) : Type 0 where
  pub n : SameSize after.n before.n
  pub each : (p : GridPoint) → (after.at p ≡ before.at p) ⊎ IsNew g b before after p

-- what is known of the points that a box covers are their values
abbrev pub AreRight : (GridPoint → ℤ) → Indices → Known → Type 0
AreRight g b t = (p : GridPoint) → Covers b p → is_known (t.at p) ≡ true → t.at p ≡ Some (g p)

-- all points that a box covers are known
abbrev pub AllKnown : Known → Indices → Type 0
AllKnown t b = (p : GridPoint) → Covers b p → is_known (t.at p) ≡ true

-- all corners of each cell of a box are known, but for cells with all corners on one side
abbrev pub AreSettled : CellDescent → (GridPoint → ℤ) → Indices → Known → Type 0
AreSettled d g b t = (s : Sample) → LiesIn b s → AllKnown t (d.cell s) ⊎ IsUniform g (d.cell s)

-- all corners of the working cells of a box are known
abbrev pub AreWorked : CellDescent → Visit → Known → Type 0
AreWorked d v t = (s : Sample) → LiesIn v.box s → is_working d v s ≡ true → AllKnown t (d.cell s)

-- the sum of a number over the points that are not known
abbrev pub left : (GridPoint → ℕ) → Known → ℕ
left f t =
    sum_in t.points
    (λ s. if is_known (t.at (point s.i s.j s.k)) then 0 else f (point s.i s.j s.k))

-- no more evaluations are counted than the points take that become known, and at most so many hulls
pub record Charges (f : GridPoint → ℕ) (spans : ℕ) (before after : Known) (told now : Counts)
    : Type 0 where
  pub points : ℕ
  pub enough : points + left f after ≤ left f before
  pub counts : CountsAtMost points spans told now

-- whatever points take, if it is enough for a box, no more is counted
abbrev pub ChargesBox : CellDescent → Visit → Known → Known → Counts → Counts → Type 0
ChargesBox d v before after told now =
    (f : GridPoint → ℕ) → IsEnough f d v → Charges f (cell_spans_in d v) before after told now

-- where each point that a box covers takes at least so many evaluations, no more are counted
abbrev pub ChargesCorners : Indices → ℕ → Known → Known → Counts → Counts → Type 0
ChargesCorners b len before after told now = (f : GridPoint → ℕ)
    → ((p : GridPoint) → Covers b p → len ≤ f p) → Charges f 0 before after told now

-- no fewer evaluations are counted than the points take that become known
pub record Pays (f : GridPoint → ℕ) (before after : Known) (told now : Counts) : Type 0 where
  pub points : ℕ
  pub due : left f before ≤ points + left f after
  pub counts : CountsAtLeast points told now

-- whatever points take, if each working cell of a box takes as much, no less is counted
abbrev pub PaysBox : CellDescent → Visit → Known → Known → Counts → Counts → Type 0
PaysBox d v before after told now =
    (f : GridPoint → ℕ) → IsDue f d v → Pays f before after told now

-- where each point that a box covers takes at most so many evaluations, no fewer are counted
abbrev pub PaysCorners : Indices → ℕ → Known → Known → Counts → Counts → Type 0
PaysCorners b len before after told now = (f : GridPoint → ℕ)
    → ((p : GridPoint) → Covers b p → f p ≤ len) → Pays f before after told now
