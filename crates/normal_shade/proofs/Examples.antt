-- Shaded height maps and their work, computed on lists that were worked out by hand.
use Rattle.std.proofs.Common.{◌≡◌, ◌≤◌, ℕ, pos, negsuc, [], ◌∷◌, List, refl}
use Rattle.box_chains.specs.Chains.{chain_within}
use Rattle.box_chains.specs.Tested.{spans_where}
use Rattle.fixed_ops.specs.declared.operation.Op.TheVariants.{X, Y, Z, Const, Neg, Square, Mul, Add, Min, Max}
use Rattle.live_clauses.specs.declared.step.Step.{Step}
use Rattle.live_clauses.specs.Steps.{IsTape}
use Rattle.view_places.specs.Window.{IsWindow, Window}
use Rattle.normal_shade.specs.DualWork.{dual_points}
use Rattle.normal_shade.specs.Laws.{ShadePointsAreBounded}
use Rattle.normal_shade.specs.Lit.{lit_where}
use Rattle.normal_shade.specs.Shades.{shade_points, shade_spans, shades_of}

-- from -1 to 1
abbrev window : ℕ → ℕ → ℕ → Window
window w h d = record {
  x0 = negsuc 4294967295;
  x1 = pos 4294967296;
  y0 = negsuc 4294967295;
  y1 = pos 4294967296;
  z0 = negsuc 4294967295;
  z1 = pos 4294967296;
  z = pos 0;
  w = w;
  h = h;
  d = d;
  nx = 1;
  ny = 1;
  nz = 1;
}

-- the coordinate z, which rises toward the light alone
abbrev toward : List Step
toward = record { op = Z; a = 0; b = 0; value = pos 0 } ∷ []

toward_shades : shades_of (window 1 1 3) toward ≡ 255 ∷ []
toward_shades = refl

-- the sum of x and z rises along both alike: half of 254, and 1
abbrev slope : List Step
slope =
    record { op = X; a = 0; b = 0; value = pos 0 }
    ∷ record { op = Z; a = 0; b = 0; value = pos 0 }
    ∷ record { op = Add; a = 0; b = 1; value = pos 0 }
    ∷ []

slope_shades : shades_of (window 1 1 3) slope ≡ 128 ∷ []
slope_shades = refl

-- of three columns the right one has no sample inside
slope_row : shades_of (window 3 1 3) slope ≡ 128 ∷ 128 ∷ 0 ∷ []
slope_row = refl

-- where all is inside and nothing rises, it is as light as can be
full_shades : shades_of (window 1 1 3) (record { op = Const; a = 0; b = 0; value = negsuc 4294967295 } ∷ []) ≡ 255 ∷ []
full_shades = refl

-- and where nothing is inside, there is no light
empty_shades : shades_of (window 1 1 3) (record { op = Const; a = 0; b = 0; value = pos 4294967296 } ∷ []) ≡ 0 ∷ []
empty_shades = refl

-- the product of y and the square of x, and z: the upper row, where y is 1, is inside in the middle alone; in the
-- lower one the sides are inside at each sample, and rise by -2 along x and by 1 along y and z each
abbrev saddle : List Step
saddle =
    record { op = X; a = 0; b = 0; value = pos 0 }
    ∷ record { op = Y; a = 0; b = 0; value = pos 0 }
    ∷ record { op = Z; a = 0; b = 0; value = pos 0 }
    ∷ record { op = Square; a = 0; b = 0; value = pos 0 }
    ∷ record { op = Mul; a = 1; b = 3; value = pos 0 }
    ∷ record { op = Add; a = 2; b = 4; value = pos 0 }
    ∷ []

saddle_shades : shades_of (window 3 2 3) saddle ≡ 0 ∷ 255 ∷ 0 ∷ 64 ∷ 255 ∷ 64 ∷ []
saddle_shades = refl

-- one leaf, which is undecided: one evaluation for the value of its one step, and a coordinate's derivatives are there
leaf_points : shade_points (window 1 1 3) toward ≡ 1
unfolding lit_where dual_points chain_within
leaf_points = refl

-- of a sum the derivatives take three more
slope_points : shade_points (window 1 1 3) slope ≡ 6
unfolding lit_where dual_points chain_within
slope_points = refl

-- and of the saddle, in each of four columns, six values, four operations for the square, nine for the product, three for the sum
saddle_points : shade_points (window 3 2 3) saddle ≡ 88
unfolding lit_where dual_points chain_within
saddle_points = refl

-- no more than ten are allowed of one step in one column
most_points : ShadePointsAreBounded → IsWindow (window 1 1 3) → IsTape toward → shade_points (window 1 1 3) toward ≤ 10
most_points law is tape = law (window 1 1 3) toward is tape

-- a box that is inside, where nothing is chosen: -1 as the negative of 1, two values and three operations for the derivatives
abbrev negative : List Step
negative =
    record { op = Const; a = 0; b = 0; value = pos 4294967296 }
    ∷ record { op = Neg; a = 0; b = 0; value = pos 0 }
    ∷ []

whole_points : shade_points (window 1 1 3) negative ≡ 5
unfolding lit_where dual_points chain_within
whole_points = refl

-- a box that is inside, where -2 is chosen from it and the negative of z: the one step that is left has one value
abbrev deep : List Step
deep =
    record { op = Const; a = 0; b = 0; value = negsuc 8589934591 }
    ∷ record { op = Z; a = 0; b = 0; value = pos 0 }
    ∷ record { op = Neg; a = 1; b = 0; value = pos 0 }
    ∷ record { op = Min; a = 0; b = 2; value = pos 0 }
    ∷ []

deep_points : shade_points (window 1 1 3) deep ≡ 1
unfolding lit_where dual_points chain_within
deep_points = refl

-- The greater of z and its negative, less 2: the box is inside, and the choice is open. At the nearest sample z is above 0, so
-- the negative is not reached: five values, and three operations for the sum.
abbrev edge : List Step
edge =
    record { op = Z; a = 0; b = 0; value = pos 0 }
    ∷ record { op = Neg; a = 0; b = 0; value = pos 0 }
    ∷ record { op = Max; a = 0; b = 1; value = pos 0 }
    ∷ record { op = Const; a = 0; b = 0; value = negsuc 8589934591 }
    ∷ record { op = Add; a = 2; b = 3; value = pos 0 }
    ∷ []

edge_points : shade_points (window 1 1 3) edge ≡ 8
unfolding lit_where dual_points chain_within
edge_points = refl

-- and the lesser of them, less 2: there the negative is taken, and takes three more
abbrev edge_below : List Step
edge_below =
    record { op = Z; a = 0; b = 0; value = pos 0 }
    ∷ record { op = Neg; a = 0; b = 0; value = pos 0 }
    ∷ record { op = Min; a = 0; b = 1; value = pos 0 }
    ∷ record { op = Const; a = 0; b = 0; value = negsuc 8589934591 }
    ∷ record { op = Add; a = 2; b = 3; value = pos 0 }
    ∷ []

below_points : shade_points (window 1 1 3) edge_below ≡ 11
unfolding lit_where dual_points chain_within
below_points = refl

-- of two halves the far one alone has the top sample: the near one is not traced
half_points : shade_points (window 1 1 16) toward ≡ 1
unfolding lit_where dual_points chain_within
half_points = refl

half_spans : shade_spans (window 1 1 16) toward ≡ 2
unfolding spans_where chain_within
half_spans = refl

-- the lesser of z and 1/64: the far half, which is inside, alone chooses z, and prunes the two other steps
abbrev far : List Step
far =
    record { op = Z; a = 0; b = 0; value = pos 0 }
    ∷ record { op = Const; a = 0; b = 0; value = pos 67108864 }
    ∷ record { op = Min; a = 0; b = 1; value = pos 0 }
    ∷ []

far_points : shade_points (window 1 1 16) far ≡ 1
unfolding lit_where dual_points chain_within
far_points = refl

far_spans : shade_spans (window 1 1 16) far ≡ 6
unfolding spans_where chain_within
far_spans = refl

-- with no top nothing is traced, and nothing is lit
abbrev nothing : List Step
nothing = record { op = Const; a = 0; b = 0; value = pos 4294967296 } ∷ []

none_points : shade_points (window 1 1 3) nothing ≡ 0
unfolding lit_where dual_points chain_within
none_points = refl

none_spans : shade_spans (window 1 1 3) nothing ≡ 0
unfolding spans_where chain_within
none_spans = refl
