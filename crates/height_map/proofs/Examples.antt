-- The tops and the work of height maps, computed on lists that were worked out by hand.
use Rattle.std.proofs.Common.{◌≡◌, ℕ, pos, negsuc, [], ◌∷◌, List, refl, arith}
use Rattle.box_chains.specs.Chains.{chain_within}
use Rattle.box_chains.specs.Counts.{spans_in}
use Rattle.fixed_ops.specs.Counts.{Counts}
use Rattle.fixed_ops.specs.declared.operation.Op.TheVariants.{X, Y, Z, Const, Neg, Sub, Max}
use Rattle.live_clauses.specs.declared.step.Step.{Step}
use Rattle.view_places.specs.Boxes.{Indices}
use Rattle.view_places.specs.Window.{Window}
use Rattle.view_places.specs.declared.lattice.Lattice.{Lattice}
use Rattle.view_places.specs.declared.lattice.Lattice.TheVariants.{Raster, Height}
use Rattle.height_map.specs.Bound.{CountsPoints, CountsSpans, height_points, height_spans, near_spans}
use Rattle.box_chains.specs.Placing.{Sampling}
use Rattle.box_chains.specs.Tested.{points_where, spans_where}
use Rattle.height_map.specs.Columns.{IsLeafOf}
use Rattle.height_map.specs.Tops.{tops_of}

-- from -1 to 1
abbrev window : ℕ → ℕ → ℕ → Window
window w h d = record {
  x0 = negsuc 4294967295;
  x1 = pos 4294967296;
  y0 = negsuc 4294967295;
  y1 = pos 4294967296;
  z0 = negsuc 4294967295;
  z1 = pos 4294967296;
  z = pos 0;
  w = w;
  h = h;
  d = d;
  nx = 1;
  ny = 1;
  nz = 1;
}

-- the coordinate z
abbrev toward : List Step
toward = record { op = Z; a = 0; b = 0; value = pos 0 } ∷ []

-- the far half of the samples is inside
toward_tops : tops_of (window 1 1 16) toward ≡ 8 ∷ []
toward_tops = refl

-- both halves are decided, since no sample lies at 0
toward_points : height_points (window 1 1 16) toward ≡ 0
unfolding points_where chain_within
toward_points = refl

toward_spans : height_spans (window 1 1 16) toward ≡ 3
unfolding spans_in chain_within
toward_spans = refl

-- and all three boxes are traced, since the nearest sample that is inside lies in the far half
toward_traced : near_spans (window 1 1 16) toward ≡ 3
unfolding spans_where chain_within
toward_traced = refl

-- one leaf of eight samples: the four nearer ones and the first that is inside do not lie behind the top
leaf_tops : tops_of (window 1 1 8) toward ≡ 4 ∷ []
leaf_tops = refl

leaf_points : height_points (window 1 1 8) toward ≡ 5
unfolding points_where chain_within
leaf_points = refl

-- with three samples the one at 0 is not inside
three_tops : tops_of (window 2 1 3) toward ≡ 1 ∷ 1 ∷ []
three_tops = refl

-- what is inside over all samples has its tops at the near end, and nothing is evaluated
abbrev full : List Step
full = record { op = Const; a = 0; b = 0; value = negsuc 4294967295 } ∷ []

full_tops : tops_of (window 2 2 3) full ≡ 3 ∷ 3 ∷ 3 ∷ 3 ∷ []
full_tops = refl

full_points : height_points (window 2 2 3) full ≡ 0
unfolding points_where chain_within
full_points = refl

-- and what is outside has none
empty_tops : tops_of (window 2 1 3) (record { op = Const; a = 0; b = 0; value = pos 4294967296 } ∷ []) ≡ 0 ∷ 0 ∷ []
empty_tops = refl

-- the coordinate x: of three columns the left one alone is inside, in both rows
abbrev across : List Step
across = record { op = X; a = 0; b = 0; value = pos 0 } ∷ []

across_tops : tops_of (window 3 2 1) across ≡ 1 ∷ 0 ∷ 0 ∷ 1 ∷ 0 ∷ 0 ∷ []
across_tops = refl

-- the left column is inside at its nearest sample, and both samples of the other one are outside
across_points : height_points (window 2 1 2) across ≡ 3
unfolding points_where chain_within
across_points = refl

-- the coordinate y: the lower row alone is inside
down_tops : tops_of (window 3 2 1) (record { op = Y; a = 0; b = 0; value = pos 0 } ∷ []) ≡ 0 ∷ 0 ∷ 0 ∷ 1 ∷ 1 ∷ 1 ∷ []
down_tops = refl

-- the greater of z and its opposite, less a half, but no less than -3: seven steps
abbrev slab : List Step
slab =
    record { op = Z; a = 0; b = 0; value = pos 0 }
    ∷ record { op = Neg; a = 0; b = 0; value = pos 0 }
    ∷ record { op = Max; a = 0; b = 1; value = pos 0 }
    ∷ record { op = Const; a = 0; b = 0; value = pos 2147483648 }
    ∷ record { op = Sub; a = 2; b = 3; value = pos 0 }
    ∷ record { op = Const; a = 0; b = 0; value = negsuc 12884901887 }
    ∷ record { op = Max; a = 4; b = 5; value = pos 0 }
    ∷ []

-- sample 11 is the nearest one that is inside
slab_tops : tops_of (window 1 1 16) slab ≡ 12 ∷ []
slab_tops = refl

-- five samples do not lie behind it, in the near half, where three steps are live
slab_points : height_points (window 1 1 16) slab ≡ 15
unfolding points_where chain_within
slab_points = refl

-- all boxes are the root, which receives the whole list, and its halves, which receive five steps
slab_spans : height_spans (window 1 1 16) slab ≡ 17
unfolding spans_in chain_within
slab_spans = refl

-- the far half lies behind the top, and is not traced
slab_traced : near_spans (window 1 1 16) slab ≡ 12
unfolding spans_where chain_within
slab_traced = refl

-- two columns: the left one is inside at each sample, and the right one at none, so that no box lies behind both tops
side_traced : near_spans (window 2 1 9) across ≡ 3
unfolding spans_where chain_within
side_traced = refl

-- evaluations and hulls are counted each by themselves
abbrev counted : ℕ → ℕ → Counts
counted points spans = record { points = points; spans = spans; corners = 300 }

three_evaluations : CountsPoints 3 (counted 1 20) (counted 4 20)
three_evaluations = refl

three_hulls : CountsSpans 3 (counted 1 20) (counted 1 23)
three_hulls = refl

-- the samples of three columns, two rows and so many layers, and the box of all of them below a layer and a row
abbrev layers : Lattice → ℕ → Sampling
layers lattice d = record { view = window 3 2 d; lattice = lattice }

abbrev below : ℕ → ℕ → Indices
below y1 z1 = record { x0 = 0; x1 = 3; y0 = 0; y1 = y1; z0 = 0; z1 = z1 }

-- the box of all samples is one of the height map's, which has six tops and at most 1024 layers
all_are_leaf : IsLeafOf (layers Height 1024) 3 (below 2 1024) 6
all_are_leaf = record {
  lattice = refl;
  within = record { x = omega arith; y = omega arith; z = omega arith };
  width = refl;
  among = record { columns = omega arith; rows = omega arith; few = omega arith };
  high = omega arith;
}

-- no box is one of a raster's, reaches below the last row, has tops in wider rows or fewer tops, or has more layers
raster_leaf : IsLeafOf (layers Raster 1024) 3 (below 2 1) 6 → ⊥
raster_leaf is = let same : Raster ≡ Height = is.lattice in (cc)

leaf_below : IsLeafOf (layers Height 8) 3 (below 3 8) 9 → ⊥
leaf_below is = omega (arith, is.within.y)

wider_leaf : IsLeafOf (layers Height 8) 4 (below 2 8) 8 → ⊥
wider_leaf is = let same : 4 ≡ 3 = is.width in omega (arith, same)

fewer_tops : IsLeafOf (layers Height 8) 3 (below 2 8) 5 → ⊥
fewer_tops is = omega (arith, is.among.rows)

higher_leaf : IsLeafOf (layers Height 1025) 3 (below 2 1025) 6 → ⊥
higher_leaf is = omega (arith, is.high)
