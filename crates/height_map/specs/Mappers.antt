-- What a mapper does at boxes.
use Rattle.std.specs.Prelude.{⊤, ◌≡◌, ◌*◌, List, true, false, length}
use Rattle.box_chains.specs.Chains.{Descent, Visit}
use Rattle.box_chains.specs.Opened.{outcome_spans, sampling}
use Rattle.box_chains.specs.Outcomes.{outcome_of}
use Rattle.box_chains.specs.Tallied.{CountsAtMost}
use Rattle.box_chains.specs.declared.outcome.Outcome.{Outcome}
use Rattle.box_descent.specs.Visitors.{Meaning}
use Rattle.box_descent.specs.declared.plan.Border.TheVariants.{Nowhere}
use Rattle.box_descent.specs.declared.plan.Order.TheVariants.{NearestFirst}
use Rattle.box_descent.specs.declared.plan.Plan.{Plan}
use Rattle.fixed_ops.specs.Counts.{Counts}
use Rattle.live_clauses.specs.declared.step.Step.{Step}
use Rattle.view_places.specs.Boxes.{Indices}
use Rattle.height_map.specs.Beside.{LieBeside}
use Rattle.height_map.specs.Bound.{CountsPoints, CountsSpans, layered}
use Rattle.height_map.specs.Columns.{Changes, covers, has_open}
use Rattle.height_map.specs.Opened.{outcome_points, outcome_top, outcome_traced}
use Rattle.height_map.specs.declared.drawing.Mapper.{Mapper}

-- its boxes: leaves are traced with the others, and the nearer children of a box come first
abbrev pub map_plan : Plan
map_plan = record { leaf = 8; traces_leaves = true; prunes_inside = false; border = Nowhere; order = NearestFirst }

-- it has a top for each of the view's columns
pub record CanMap (d : Descent) (s : Mapper) : Type 0 where
  pub layers : d ≡ layered d.view
  pub tops : length s.tops.items ≡ d.view.h * d.view.w

-- and some boxes can be drawn next that lie beside each other
pub record CanDraw (d : Descent) (s : Mapper) (list : List Step) (boxes : List Indices) : Type 0 where
  pub can : CanMap d s
  pub beside : LieBeside d.view.w boxes

-- what tracing tells of a box
abbrev pub told_of : Descent → Visit → Outcome (List Step)
told_of d v = outcome_of (sampling d) v.list v.box

-- the columns of a box get the tops that its samples give them, with exactly the work of those samples
-- that do not lie behind a top, but for the trace of the box
pub record Draws (d : Descent) (old new : Mapper) (v : Visit) (before after : Counts) : Type 0 where
  pub tops : Changes (covers d.view.w v.box) (outcome_top d.view v.box (told_of d v)) old.tops.items new.tops.items
  pub at_most : CountsAtMost (outcome_points d.view old.tops.items v.box (told_of d v))
      (outcome_spans (layered d.view) v.box (told_of d v)) before after
  pub points : CountsPoints (outcome_points d.view old.tops.items v.box (told_of d v)) before after
  pub hulls : CountsSpans (outcome_traced d.view old.tops.items v.box (told_of d v)) before after

-- or with no more than that
abbrev pub DrawsSome : Descent → Mapper → Mapper → Visit → Counts → Counts → Type 0
DrawsSome d old new v before after =
    CountsAtMost (outcome_points d.view old.tops.items v.box (told_of d v))
    (outcome_spans (layered d.view) v.box (told_of d v)) before after

abbrev pub mapping : Meaning Mapper ⊤
mapping = record {
  plan = map_plan;
  ready = CanMap;
  wanted = λ d s b. has_open d.view.w s.tops.items b;
  fits = CanDraw;
  draws = Draws;
  halts = DrawsSome;
  opens = λ d old new v mark. new ≡ old;
  closes = λ old new mark. new ≡ old;
}
