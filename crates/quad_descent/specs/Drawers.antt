-- What a drawer does at boxes.
use Rattle.std.specs.Prelude.{◌≡◌, ◌≢◌, ◌-◌, ◌<◌, [], ◌∷◌, List, Some, true, false, is_some, length, set, if◌then◌else◌}
use Rattle.box_chains.specs.Chains.{Descent, Visit, handed_on}
use Rattle.box_chains.specs.Redrawn.{points_after}
use Rattle.box_chains.specs.Tallied.{CountsAtMost, CountsExactly}
use Rattle.box_descent.specs.Visitors.{Meaning}
use Rattle.box_descent.specs.declared.plan.Border.TheVariants.{Nowhere}
use Rattle.box_descent.specs.declared.plan.Order.TheVariants.{Ascending}
use Rattle.box_descent.specs.declared.plan.Plan.{Plan}
use Rattle.fixed_ops.specs.Counts.{Counts}
use Rattle.live_clauses.specs.declared.step.Step.{Step}
use Rattle.view_places.specs.Boxes.{Indices}
use Rattle.quad_descent.specs.Adding.{Adds}
use Rattle.quad_descent.specs.KeptLists.{lists_of}
use Rattle.quad_descent.specs.Nodes.{nodes_of}
use Rattle.quad_descent.specs.OldTrees.{IsBehind, Passes, StandNext, lists_before, next_handed, nodes_before, spans_below, visit_before}
use Rattle.quad_descent.specs.Raster.{raster}
use Rattle.quad_descent.specs.declared.drawing.Drawer.{Drawer}
use Rattle.quad_descent.specs.declared.drawing.Mark.{Mark}
use Rattle.quad_descent.specs.declared.node.Node.TheVariants.{Split}

-- its boxes: leaves are traced with the others
abbrev pub draw_plan : Plan
draw_plan = record { leaf = 8; traces_leaves = true; prunes_inside = false; border = Nowhere; order = Ascending }

-- some boxes of a raster that are given a list can be drawn next: they are the next ones of the tree
-- before, and received another list there, where it reached them
pub record CanDraw (d : Descent) (s : Drawer) (list : List Step) (boxes : List Indices) : Type 0 where
  pub raster : d ≡ raster d.view
  pub next : StandNext d boxes s.before
  pub new : s.before.received ≢ Some list

-- A box is drawn with all boxes below it, and with exactly their work but for its own trace. What the tree
-- before had of it is passed.
pub record Draws (d : Descent) (old new : Drawer) (v : Visit) (before after : Counts) : Type 0 where
  pub adds : Adds old.boxes new.boxes (nodes_of d v) (lists_of d v)
  pub passes : Passes (nodes_before d (visit_before old.before.received v.box))
      (lists_before d (visit_before old.before.received v.box)) old.before new.before
  pub received : new.before.received ≡ old.before.received
  pub counted : CountsExactly (points_after d (visit_before old.before.received v.box) v)
      (spans_below d (visit_before old.before.received v.box) v) before after

-- or with no more work than that
abbrev pub DrawsSome : Descent → Drawer → Drawer → Visit → Counts → Counts → Type 0
DrawsSome d old new v before after =
    CountsAtMost (points_after d (visit_before old.before.received v.box) v)
    (spans_below d (visit_before old.before.received v.box) v) before after

-- a box that is split is drawn, and none below it so far: these are the next ones of the tree before, if
-- that split the box as well
pub record Opens (d : Descent) (old new : Drawer) (v : Visit) (mark : Mark) : Type 0 where
  pub place : mark.place ≡ length old.boxes.nodes.items
  pub adds : Adds old.boxes new.boxes (Split 0 ∷ []) (Some (handed_on d v) ∷ [])
  pub behind : IsBehind (if is_some old.before.received then 1 else 0) old.before new.before
  pub received : mark.received_before ≡ old.before.received
  pub handed : new.before.received ≡ next_handed old.before
  pub other : new.before.received ≢ Some (handed_on d v)

-- once they are drawn, it is known how many there are
pub record Closes (old new : Drawer) (mark : Mark) : Type 0 where
  pub nodes : mark.place < length old.boxes.nodes.items → new.boxes.nodes.items
      ≡ set old.boxes.nodes.items mark.place (Split (length old.boxes.nodes.items - mark.place - 1))
  pub lists : new.boxes.lists.items ≡ old.boxes.lists.items
  pub keeps : new.boxes.keeps ≡ old.boxes.keeps
  pub behind : IsBehind 0 old.before new.before
  pub received : new.before.received ≡ mark.received_before

abbrev pub drawing : Meaning Drawer Mark
drawing = record {
  plan = draw_plan;
  ready = λ d s. d ≡ raster d.view;
  wanted = λ d s b. true;
  fits = CanDraw;
  draws = Draws;
  halts = DrawsSome;
  opens = Opens;
  closes = Closes;
}
