-- The list that a box prunes: it has the slopes of the list that it receives, at the samples of the box.
use Rattle.std.proofs.Common.{◌≡◌, ℕ, ◌≤◌, Bool, true, false, cond, List, length, refl, sym, ap, ◌∙◌, arith}
use Rattle.std.specs.Prelude.{Option, Some, None}
use Rattle.choice_trace.specs.Hulls.{IsIn}
use Rattle.live_clauses.specs.Meanings.{sloped_at, tape_meaning}
use Rattle.live_clauses.specs.Steps.{IsTape}
use Rattle.live_clauses.specs.declared.step.Step.{Step}
use Rattle.view_places.specs.Spans.{region_of}
use Rattle.view_places.specs.Window.{Window}
use Rattle.view_places.specs.declared.lattice.Axis.TheVariants as axes
use Rattle.view_places.specs.declared.lattice.Lattice.TheVariants.{Height}
use Rattle.box_chains.specs.Chains.{Descent, Visit, decision, handed_on, is_long, is_split}
use Rattle.box_chains.specs.Laws.{Lawful}
use Rattle.box_chains.specs.Sums.{LiesIn, Sample}
use Rattle.box_chains.specs.Visits.{IsVisit, sample_point}
use Rattle.height_map.specs.Bound.{layered}
use Rattle.normal_shade.specs.Laws.{SlopesAreKept}
use Rattle.normal_shade.specs.Lit.{pruned}

-- the ranges of a box hold its samples
region-holds : (laws : Lawful) (view : Window) (v : Visit) (s : Sample) → IsVisit (layered view) v → LiesIn v.box s
    → IsIn (region_of view Height v.box) (sample_point (layered view) s)
region-holds laws view v s is lies =
    let b = v.box in
    record {
      x = (laws.layers.ranges view Height axes.X b.x0 b.x1 is.window (omega (arith, is.box.x))).holds s.i lies.x.0 (omega (arith, lies.x.1));
      y = (laws.layers.ranges view Height axes.Y b.y0 b.y1 is.window (omega (arith, is.box.y))).holds s.j lies.y.0 (omega (arith, lies.y.1));
      z = (laws.layers.ranges view Height axes.Z b.z0 b.z1 is.window (omega (arith, is.box.z))).holds s.k lies.z.0 (omega (arith, lies.z.1));
    }

-- so the list that is handed on has the value and the slopes of the one that is received, at each sample of the box
slopes-handed : (laws : Lawful) (kept : SlopesAreKept) (view : Window) (v : Visit) (s : Sample) → IsVisit (layered view) v → LiesIn v.box s
    → tape_meaning (sloped_at (sample_point (layered view) s)) (handed_on (layered view) v) ≡ tape_meaning (sloped_at (sample_point (layered view) s)) v.list
slopes-handed laws kept view v s is lies =
    kept (region_of view Height v.box) (sample_point (layered view) s) v.list (laws.visits.ranges (layered view) v is) (region-holds laws view v s is lies) is.tape

-- and so has the list that is pruned
pub slopes-pruned : (laws : Lawful) (kept : SlopesAreKept) (view : Window) (v : Visit) (s : Sample) → IsVisit (layered view) v → LiesIn v.box s
    → tape_meaning (sloped_at (sample_point (layered view) s)) (pruned (layered view) v) ≡ tape_meaning (sloped_at (sample_point (layered view) s)) v.list
slopes-pruned laws kept view v s is lies = by (decision (layered view) v) refl (slopes-handed laws kept view v s is lies)
  where
    means : List Step → Type 0
    means list = tape_meaning (sloped_at (sample_point (layered view) s)) list ≡ tape_meaning (sloped_at (sample_point (layered view) s)) v.list

    by : (t : Option Bool) → decision (layered view) v ≡ t → means (handed_on (layered view) v) → means (pruned (layered view) v)
    by None e h = rw e h
    by (Some true) e h = rw e h
    by (Some false) e h = rw e refl

-- it can be evaluated, and is no longer
pub pruned-tape : (laws : Lawful) (d : Descent) (v : Visit) → IsVisit d v → IsTape (pruned d v) × (length (pruned d v) ≤ length v.list)
pruned-tape laws d v is = by (decision d v) refl (laws.visits.handed d v is)
  where
    fits : List Step → Type 0
    fits list = IsTape list × (length list ≤ length v.list)

    by : (t : Option Bool) → decision d v ≡ t → fits (handed_on d v) → fits (pruned d v)
    by None e h = rw e h
    by (Some true) e h = rw e h
    by (Some false) e h = rw e (is.tape, omega arith)

-- a box that is split is undecided
pub split-undecided : (d : Descent) (v : Visit) → is_split d v ≡ true → decision d v ≡ None
split-undecided d v = by (decision d v) refl
  where
    by : (t : Option Bool) → decision d v ≡ t → is_split d v ≡ true → t ≡ None
    by None e h = refl
    by (Some inside) e h = absurd (omega (arith, ap (λ t. cond {A = ℕ} t 1 0) (sym h ∙ unsplit e)))
      where
        unsplit : decision d v ≡ Some inside → is_split d v ≡ false
        unsplit e = rw e refl

-- and long
pub split-long : (d : Descent) (v : Visit) → is_split d v ≡ true → is_long d.leaf v.box ≡ true
split-long d v e = let none = split-undecided d v e in rw none at e

-- and prunes the list that it hands on
pub split-pruned : (d : Descent) (v : Visit) → is_split d v ≡ true → pruned d v ≡ handed_on d v
split-pruned d v e = let none = split-undecided d v e in rw none refl

-- ---- what tracing tells of a box that is split even where it is decided
