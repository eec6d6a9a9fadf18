-- What looking into a box takes after a mesh of another list over the same view.
use Rattle.std.specs.Prelude.{◌≡◌, ℕ, ◌-◌, ◌≤◌, true, List, length, Option}
use Rattle.std.specs.List.{All, sum_by}
use Rattle.box_chains.specs.Chains.{Visit, visit}
use Rattle.box_chains.specs.Sums.{LiesIn, Sample}
use Rattle.fixed_ops.specs.Counts.{Counts}
use Rattle.kuhn_cells.specs.Triangles.{GridPoint}
use Rattle.live_clauses.specs.declared.step.Step.{Step}
use Rattle.view_places.specs.Boxes.{Indices}
use Rattle.oct_descent.specs.After.{cell_spans_after, is_new_working, is_old_cell, long_spans_after, received_half}
use Rattle.oct_descent.specs.Desks.{own_spans}
use Rattle.oct_descent.specs.Known.{AllKnown, Charges, Known, Pays}
use Rattle.oct_descent.specs.Ways.{CellDescent, Covers, way_end}

-- each corner of a new working cell of a box takes no less than the length of the list that the cell
-- receives
abbrev pub IsEnoughAfter : (GridPoint → ℕ) → CellDescent → Option Visit → Visit → Type 0
IsEnoughAfter f d before v = (s : Sample) → LiesIn v.box s → is_new_working d before v s ≡ true
    → (p : GridPoint) → Covers (d.cell s) p → length (way_end d v s).list ≤ f p

-- Whatever points take, if it is enough for the new working cells of a box, no more is counted, and no
-- more steps are traced than those of the boxes that are not old.
abbrev pub ChargesBoxAfter : CellDescent → Option Visit → Visit → Known → Known → Counts
    → Counts → Type 0
ChargesBoxAfter d before v grid_before grid_after told now = (f : GridPoint → ℕ)
    → IsEnoughAfter f d before v
    → Charges f (cell_spans_after d before v) grid_before grid_after told now

-- the steps that are traced over some halves of a box, which receive a list, where these and the boxes
-- below them are not old; in the mesh before they received another list, if any
abbrev pub halves_spans_after : CellDescent → Option (List Step) → List Step → List Indices → ℕ
halves_spans_after d before list halves =
    sum_by (λ half. cell_spans_after d (received_half before half) (visit half list)) halves

-- and of these, those that are traced over boxes of more than one cell
abbrev pub halves_long_spans_after : CellDescent → Option (List Step) → List Step → List Indices → ℕ
halves_long_spans_after d before list halves =
    sum_by (λ half. long_spans_after d (received_half before half) (visit half list)) halves

-- whatever points take is enough for the new working cells of each half
abbrev pub IsEnoughHalvesAfter : (GridPoint → ℕ) → CellDescent → Option (List Step) → List Step
    → List Indices → Type 0
IsEnoughHalvesAfter f d before list halves =
    All (λ half. IsEnoughAfter f d (received_half before half) (visit half list)) halves

-- whatever points take, if it is enough for the new working cells of each half of a box, no more is
-- counted
abbrev pub ChargesHalvesAfter : CellDescent → Option (List Step) → List Step → List Indices
    → Known → Known → Counts → Counts → Type 0
ChargesHalvesAfter d before list halves grid_before grid_after told now = (f : GridPoint → ℕ)
    → IsEnoughHalvesAfter f d before list halves
    → Charges f (halves_spans_after d before list halves) grid_before grid_after told now

-- the steps that are traced over a new box while it is looked into: those that are traced over the
-- boxes below it, and over a cell its own
abbrev pub spans_below_after : CellDescent → Option Visit → Visit → ℕ
spans_below_after d before v = cell_spans_after d before v - own_spans v

-- and of these, those that are traced over boxes of more than one cell
abbrev pub long_spans_below_after : CellDescent → Option Visit → Visit → ℕ
long_spans_below_after d before v = long_spans_after d before v - own_spans v

-- whatever points take, if it is enough for the new working cells of a box that is traced already, no
-- more is counted
abbrev pub ChargesBelowAfter : CellDescent → Option Visit → Visit → Known → Known → Counts
    → Counts → Type 0
ChargesBelowAfter d before v grid_before grid_after told now = (f : GridPoint → ℕ)
    → IsEnoughAfter f d before v
    → Charges f (spans_below_after d before v) grid_before grid_after told now

-- each corner of a new working cell of a box takes no more than the length of the list that the cell
-- receives, and each corner of an old cell nothing
pub record IsDueAfter (f : GridPoint → ℕ) (d : CellDescent) (before : Option Visit) (v : Visit)
    : Type 0 where
  pub new : (s : Sample) → LiesIn v.box s → is_new_working d before v s ≡ true → (p : GridPoint)
      → Covers (d.cell s) p → f p ≤ length (way_end d v s).list
  pub old : (s : Sample) → LiesIn v.box s → is_old_cell d before v s ≡ true → (p : GridPoint)
      → Covers (d.cell s) p → f p ≡ 0

-- whatever points take, if it is due for a box, no less is counted
abbrev pub PaysBoxAfter : CellDescent → Option Visit → Visit → Known → Known → Counts → Counts → Type 0
PaysBoxAfter d before v grid_before grid_after told now =
    (f : GridPoint → ℕ) → IsDueAfter f d before v → Pays f grid_before grid_after told now

-- whatever points take is due for each half
abbrev pub IsDueHalvesAfter : (GridPoint → ℕ) → CellDescent → Option (List Step) → List Step
    → List Indices → Type 0
IsDueHalvesAfter f d before list halves =
    All (λ half. IsDueAfter f d (received_half before half) (visit half list)) halves

-- whatever points take, if it is due for each half of a box, no less is counted
abbrev pub PaysHalvesAfter : CellDescent → Option (List Step) → List Step → List Indices → Known → Known
    → Counts → Counts → Type 0
PaysHalvesAfter d before list halves grid_before grid_after told now =
    (f : GridPoint → ℕ) → IsDueHalvesAfter f d before list halves → Pays f grid_before grid_after told now

-- all corners of the new working cells of a box are known
abbrev pub AreWorkedAfter : CellDescent → Option Visit → Visit → Known → Type 0
AreWorkedAfter d before v t = (s : Sample) → LiesIn v.box s → is_new_working d before v s ≡ true
    → AllKnown t (d.cell s)
