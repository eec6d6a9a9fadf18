-- What a box shows of its samples: the list that it hands on has their values, and a decision is
-- right of them.
use Rattle.std.proofs.Common.{◌≡◌, ℕ, ◌<◌, ◌≤◌, ℤ, Bool, length, arith}
use Rattle.std.specs.Prelude.{Some}
use Rattle.std.proofs.lemmas.Int.{ints}
use Rattle.choice_trace.specs.Hulls.{IsIn, choices_over, tape_hull}
use Rattle.choice_trace.specs.Laws.{AreRanges}
use Rattle.fixed_ops.specs.Raw.{is_inside}
use Rattle.interval_ops.specs.Decided.{decided_of}
use Rattle.interval_ops.specs.Spans.{Holds, Interval}
use Rattle.live_clauses.specs.Steps.{IsTape, tape_value}
use Rattle.view_places.specs.Boxes.{Indices}
use Rattle.view_places.specs.Places.{steps_of}
use Rattle.view_places.specs.Spans.{IsInRoot, last_of, region_of}
use Rattle.view_places.specs.Window.{Window}
use Rattle.view_places.specs.declared.lattice.Axis.TheVariants as axes
use Rattle.view_places.specs.declared.lattice.Lattice.{Lattice}
use Rattle.view_places.specs.declared.lattice.Lattice.TheVariants.{Raster, Height, Grid}
use Rattle.box_chains.specs.Chains.{Descent, Visit, decision, handed_on}
use Rattle.box_chains.specs.Laws.{LayersHold}
use Rattle.box_chains.specs.Sums.{LiesIn, Sample}
use Rattle.box_chains.specs.Visits.{IsVisit, sample_point}

-- an index of a box is one of the samples from its first to its last
last-after : (lattice : Lattice) (low high : ℕ) → low < high → low ≤ last_of lattice high
last-after Raster low high h = omega (arith, h)
last-after Height low high h = omega (arith, h)
last-after Grid low high h = omega (arith, h)

-- the last samples of a box are samples
record HasSteps (d : Descent) (b : Indices) : Type 0 where
  x : last_of d.lattice b.x1 ≤ steps_of d.view d.lattice axes.X
  y : last_of d.lattice b.y1 ≤ steps_of d.view d.lattice axes.Y
  z : last_of d.lattice b.z1 ≤ steps_of d.view d.lattice axes.Z

has-steps : (v : Window) (lattice : Lattice) (leaf : ℕ) (b : Indices) → IsInRoot v lattice b
    → HasSteps (record { view = v; lattice = lattice; leaf = leaf }) b
has-steps v Raster leaf b in' =
    record { x = omega (arith, in'.x); y = omega (arith, in'.y); z = omega (arith, in'.z) }
has-steps v Height leaf b in' =
    record { x = omega (arith, in'.x); y = omega (arith, in'.y); z = omega (arith, in'.z) }
has-steps v Grid leaf b in' =
    record { x = omega (arith, in'.x); y = omega (arith, in'.y); z = omega (arith, in'.z) }

-- the ranges of a box are spans
pub region-is : (laws : LayersHold) (d : Descent) (v : Visit) → IsVisit d v
    → AreRanges (region_of d.view d.lattice v.box)
region-is laws d v is =
    let steps = has-steps d.view d.lattice d.leaf v.box is.within in
    let b = v.box in
    let x = last-after d.lattice b.x0 b.x1 is.box.x in
    let y = last-after d.lattice b.y0 b.y1 is.box.y in
    let z = last-after d.lattice b.z0 b.z1 is.box.z in
    record {
      x = laws.spans d.view d.lattice axes.X b.x0 b.x1 is.window
          (omega (arith, x, steps.x)) steps.x;
      y = laws.spans d.view d.lattice axes.Y b.y0 b.y1 is.window
          (omega (arith, y, steps.y)) steps.y;
      z = laws.spans d.view d.lattice axes.Z b.z0 b.z1 is.window
          (omega (arith, z, steps.z)) steps.z;
    }

-- and hold its samples
pub region-holds : (laws : LayersHold) (d : Descent) (v : Visit) (s : Sample) → IsVisit d v
    → LiesIn v.box s → IsIn (region_of d.view d.lattice v.box) (sample_point d s)
region-holds laws d v s is lies =
    let b = v.box in
    record {
      x = (laws.ranges d.view d.lattice axes.X b.x0 b.x1 is.window
          (last-after d.lattice b.x0 b.x1 is.box.x)).holds s.i lies.x.0
          (last-after d.lattice s.i b.x1 lies.x.1);
      y = (laws.ranges d.view d.lattice axes.Y b.y0 b.y1 is.window
          (last-after d.lattice b.y0 b.y1 is.box.y)).holds s.j lies.y.0
          (last-after d.lattice s.j b.y1 lies.y.1);
      z = (laws.ranges d.view d.lattice axes.Z b.z0 b.z1 is.window
          (last-after d.lattice b.z0 b.z1 is.box.z)).holds s.k lies.z.0
          (last-after d.lattice s.k b.z1 lies.z.1);
    }

-- The list that a box hands on can be evaluated, and is no longer than the one that it receives.
pub handed-is : (laws : LayersHold) (d : Descent) (v : Visit) → IsVisit d v
    → IsTape (handed_on d v) × (length (handed_on d v) ≤ length v.list)
handed-is laws d v is =
    let region = region_of d.view d.lattice v.box in
    laws.tapes v.list (choices_over region v.list) is.tape (laws.choices region v.list)

-- It has the value of the list that the box receives at each sample of the box.
pub handed-value : (laws : LayersHold) (d : Descent) (v : Visit) (s : Sample) → IsVisit d v
    → LiesIn v.box s
    → tape_value (sample_point d s) (handed_on d v) ≡ tape_value (sample_point d s) v.list
handed-value laws d v s is lies =
    let region = region_of d.view d.lattice v.box in
    let p = sample_point d s in
    laws.kept p v.list (choices_over region v.list) is.tape (laws.choices region v.list)
    (laws.right region p v.list (region-is laws d v is) (region-holds laws d v s is lies) is.tape)

-- what a span that holds a value decides is so of the value
decided-right : (s : Interval) (x : ℤ) (inside : Bool) → Holds s x → decided_of s ≡ Some inside
    → is_inside x ≡ inside
decided-right s x inside h e = grind (arith, ints, h, e)

-- A box that is decided is decided rightly for each of its samples.
pub decision-right : (laws : LayersHold) (d : Descent) (v : Visit) (s : Sample) (inside : Bool)
    → IsVisit d v → LiesIn v.box s
    → decision d v ≡ Some inside → is_inside (tape_value (sample_point d s) v.list) ≡ inside
decision-right laws d v s inside is lies e =
    let region = region_of d.view d.lattice v.box in
    let p = sample_point d s in
    decided-right (tape_hull region v.list) (tape_value p v.list) inside
    (laws.held region p v.list (region-is laws d v is) (region-holds laws d v s is lies) is.tape) e
