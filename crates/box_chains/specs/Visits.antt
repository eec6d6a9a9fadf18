-- Where samples lie, and boxes of samples with lists that can be evaluated.
use Rattle.fixed_ops.specs.Points.{Point}
use Rattle.live_clauses.specs.Steps.{IsTape}
use Rattle.view_places.specs.Boxes.{IsBox}
use Rattle.view_places.specs.Places.{point_of}
use Rattle.view_places.specs.Spans.{IsInRoot}
use Rattle.view_places.specs.Window.{IsWindow}
use Rattle.box_chains.specs.Chains.{Descent, Visit}
use Rattle.box_chains.specs.Sums.{Sample}

-- where a sample lies
abbrev pub sample_point : Descent → Sample → Point
sample_point d s = point_of d.view d.lattice s.i s.j s.k

-- a box of the samples, which receives a list that can be evaluated
pub record IsVisit (d : Descent) (v : Visit) : Type 0 where
  pub window : IsWindow d.view
  pub box : IsBox v.box
  pub within : IsInRoot d.view d.lattice v.box
  pub tape : IsTape v.list
