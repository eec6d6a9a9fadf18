-- What a cell filler does at boxes.
use Rattle.std.specs.Prelude.{⊤, ◌≡◌, List, true, false}
use Rattle.std.specs.List.{All}
use Rattle.box_chains.specs.Chains.{Descent, Visit}
use Rattle.box_descent.specs.Visitors.{Meaning}
use Rattle.box_descent.specs.declared.plan.Border.TheVariants.{Plane}
use Rattle.box_descent.specs.declared.plan.Order.TheVariants.{LastLeafFirst}
use Rattle.box_descent.specs.declared.plan.Plan.{Plan}
use Rattle.fixed_ops.specs.Counts.{Counts}
use Rattle.kuhn_cells.specs.Sizes.{SameSize}
use Rattle.live_clauses.specs.declared.step.Step.{Step}
use Rattle.oct_descent.specs.Bound.{CountsHullsAtLeast}
use Rattle.oct_descent.specs.Halves.{ChargesBelow}
use Rattle.oct_descent.specs.Known.{AreRight, AreSettled, AreWorked, Grows, PaysBox}
use Rattle.view_places.specs.Boxes.{Indices}
use Rattle.view_places.specs.Window.{size_of}
use Rattle.contour_lines.specs.Tables.{known_of}
use Rattle.contour_lines.specs.Traced.{long_spans_below}
use Rattle.contour_lines.specs.Ways.{flat_value, planar}
use Rattle.contour_lines.specs.declared.cell_filler.CellFiller.{CellFiller}

-- its boxes: cells are leaves, which are not traced with the others, and come last first
abbrev pub fill_plan : Plan
fill_plan = record { leaf = 1; traces_leaves = false; prunes_inside = false; border = Plane; order = LastLeafFirst }

-- its values are those of the grid of a view that lies flat
pub record CanFill (d : Descent) (s : CellFiller) : Type 0 where
  pub boxes : d ≡ (planar d.view).boxes
  pub flat : d.view.nz ≡ 1
  pub n : SameSize (known_of s.values).n (size_of d.view)

-- and what is known of the points that these boxes cover are the list's values
pub record CanLook (d : Descent) (s : CellFiller) (list : List Step) (boxes : List Indices) : Type 0 where
  pub can : CanFill d s
  pub right : All (λ b. AreRight (flat_value d.view list) b (known_of s.values)) boxes

-- the corners of the working cells of a box are evaluated until memory is wanted
pub record FillsSome (d : Descent) (old new : CellFiller) (v : Visit) (before after : Counts) : Type 0 where
  pub grows : Grows (flat_value d.view v.list) v.box (known_of old.values) (known_of new.values)
  pub counted : ChargesBelow (planar d.view) v (known_of old.values) (known_of new.values) before after
  pub paid : PaysBox (planar d.view) v (known_of old.values) (known_of new.values) before after

-- or all of them
pub record FillsAll (d : Descent) (old new : CellFiller) (v : Visit) (before after : Counts) : Type 0 where
  pub some : FillsSome d old new v before after
  pub settled : AreSettled (planar d.view) (flat_value d.view v.list) v.box (known_of new.values)
  pub worked : AreWorked (planar d.view) v (known_of new.values)
  pub traced : CountsHullsAtLeast (long_spans_below (planar d.view) v) before after

abbrev pub filling : Meaning CellFiller ⊤
filling = record {
  plan = fill_plan;
  ready = CanFill;
  wanted = λ d s b. true;
  fits = CanLook;
  draws = FillsAll;
  halts = FillsSome;
  opens = λ d old new v mark. new ≡ old;
  closes = λ old new mark. new ≡ old;
}
