-- What looking into a box of a grid needs, and the work of its halves.
use Rattle.std.specs.Prelude.{◌≡◌, ℕ, ◌<◌, ◌≤◌, List, length, false, ◌⊎◌}
use Rattle.std.specs.List.{All, sum_by}
use Rattle.std.specs.List.Sorted.{IsPermutation}
use Rattle.box_chains.specs.Chains.{Visit, is_long, visit}
use Rattle.box_chains.specs.Desks.{Tracing, list_of}
use Rattle.box_chains.specs.Visits.{IsVisit}
use Rattle.fixed_ops.specs.Counts.{Counts}
use Rattle.kuhn_cells.specs.Sizes.{SameSize}
use Rattle.kuhn_cells.specs.Triangles.{GridPoint}
use Rattle.live_clauses.specs.declared.step.Step.{Step}
use Rattle.view_places.specs.Boxes.{Indices, halves_of}
use Rattle.view_places.specs.Window.{size_of}
use Rattle.oct_descent.specs.Desks.{halves_spans, own_spans, spans_below}
use Rattle.oct_descent.specs.Kinds.{GridKind, descent_of, value_in}
use Rattle.oct_descent.specs.Known.{AreRight, Charges, Known, Pays}
use Rattle.oct_descent.specs.Tables.{IsDue, IsEnough}
use Rattle.oct_descent.specs.Ways.{CellDescent}
use Rattle.view_places.specs.declared.lattice.Lattice.TheVariants as lattices

-- The box is one of the grid's, whose points these are, and there is room for the list of a number.
-- What is known of the points that the box covers are the list's values.
pub record MayLook (k : GridKind) (desk : Tracing) (b : Indices) (at : ℕ) (t : Known) : Type 0 where
  pub lattice : desk.lattice ≡ lattices.Grid
  pub visit_is : IsVisit (descent_of k desk.view).boxes (visit b (list_of desk at))
  pub n : SameSize t.n (size_of desk.view)
  pub among : at < length desk.lists
  pub room : length (list_of desk at) ≤ desk.room
  pub right : AreRight (value_in k desk.view (list_of desk at)) b t

-- the halves of a box in some order, which is their own where some of them is longer than a cell
pub record AreTurned (b : Indices) (halves : List Indices) : Type 0 where
  pub among : IsPermutation (halves_of 1 b) halves
  pub order : (halves ≡ halves_of 1 b) ⊎ All (λ h. is_long 1 h ≡ false) halves

-- whatever points take, if it is enough for each half of a box, no more is counted
abbrev pub ChargesHalves : CellDescent → List Step → List Indices → Known → Known → Counts → Counts
    → Type 0
ChargesHalves d list halves before after told now =
    (f : GridPoint → ℕ) → All (λ half. IsEnough f d (visit half list)) halves
    → Charges f (halves_spans d list halves) before after told now

-- whatever points take, if the working cells of each half of a box take as much, no less is counted
abbrev pub PaysHalves : CellDescent → List Step → List Indices → Known → Known → Counts → Counts
    → Type 0
PaysHalves d list halves before after told now = (f : GridPoint → ℕ)
    → All (λ half. IsDue f d (visit half list)) halves → Pays f before after told now

-- whatever points take, if it is enough for a box that is traced already, no more is counted
abbrev pub ChargesBelow : CellDescent → Visit → Known → Known → Counts → Counts → Type 0
ChargesBelow d v before after told now =
    (f : GridPoint → ℕ) → IsEnough f d v → Charges f (spans_below d v) before after told now

-- what is traced of halves before they are looked into, and while they are
abbrev pub owned : List Step → List Indices → ℕ
owned list halves = sum_by (λ h. own_spans (visit h list)) halves

abbrev pub halves_below : CellDescent → List Step → List Indices → ℕ
halves_below d list halves = sum_by (λ h. spans_below d (visit h list)) halves
