-- Plane grids and their work, computed on lists that were worked out by hand.
use Rattle.std.proofs.Common.{◌≡◌, ℕ, zero, suc, ◌<◌, ℤ, pos, negsuc, true, false, [], ◌∷◌, List, inl, inr, refl, sym, ap, ◌∙◌, arith}
use Rattle.std.specs.Prelude.{◌||◌, All, None, Some, if◌then◌else◌, is_some, unwrap_or}
use Rattle.std.proofs.lemmas.Bool.{false≢true}
use Rattle.fixed_ops.specs.Raw.{is_inside}
use Rattle.fixed_ops.specs.declared.operation.Op.TheVariants.{X, Z, Const}
use Rattle.kuhn_cells.specs.Triangles.{further, point}
use Rattle.live_clauses.specs.declared.step.Step.{Step}
use Rattle.oct_descent.specs.Bound.{cell_spans_in, long_spans_in}
use Rattle.oct_descent.specs.Known.{Known}
use Rattle.oct_descent.specs.Tables.{is_known, same_point}
use Rattle.oct_descent.specs.Ways.{way_within}
use Rattle.view_places.specs.Window.{Window}
use Rattle.contour_lines.specs.declared.gap.Gap.{Gap}
use Rattle.contour_lines.specs.Bound.{contour_least, contour_long_spans, contour_points, contour_spans, flat_least, flat_points, plane_lengths, plane_working_lengths}
use Rattle.contour_lines.specs.Corners.{AllShow, IsSeen, IsShown}
use Rattle.contour_lines.specs.Gaps.{AreGaps, IsCornerBelow, StandsIn, has_gap, lies_at, spot}
use Rattle.contour_lines.specs.Planes.{laid_flat, plane_value}
use Rattle.contour_lines.specs.Signs.{signs_at}
use Rattle.contour_lines.specs.Ways.{plane_root}

-- from -1 to 1, at a height
abbrev window : ℤ → ℕ → Window
window height n = record {
  x0 = negsuc 4294967295;
  x1 = pos 4294967296;
  y0 = negsuc 4294967295;
  y1 = pos 4294967296;
  z0 = negsuc 4294967295;
  z1 = pos 4294967296;
  z = height;
  w = 1;
  h = 1;
  d = 1;
  nx = n;
  ny = n;
  nz = n;
}

-- what is inside everywhere: all four cells have points of the border, and only the inner point counts as inside
abbrev full : List Step
full = record { op = Const; a = 0; b = 0; value = negsuc 4294967295 } ∷ []

full_points : contour_points (window (pos 0) 2) full ≡ 9
unfolding flat_points way_within
full_points = refl

full_least : contour_least (window (pos 0) 2) full ≡ 9
unfolding flat_least way_within
full_least = refl

full_spans : contour_spans (window (pos 0) 2) full ≡ 5
unfolding cell_spans_in way_within
full_spans = refl

-- of the five boxes one has more than one cell
full_long : contour_long_spans (window (pos 0) 2) full ≡ 1
unfolding long_spans_in way_within
full_long = refl

full_inner : plane_value (window (pos 0) 2) full 1 1 ≡ negsuc 4294967295
full_inner = refl

full_border : plane_value (window (pos 0) 2) full 0 1 ≡ pos 0
full_border = refl

full_signs : signs_at (window (pos 0) 2) full 0 0 ∷ signs_at (window (pos 0) 2) full 1 0 ∷ signs_at (window (pos 0) 2) full 0 1 ∷ signs_at (window (pos 0) 2) full 1 1 ∷ [] ≡ 8 ∷ 4 ∷ 2 ∷ 1 ∷ []
full_signs = refl

-- the coordinate x: the cells with x from 0 on are decided outside
abbrev half : List Step
half = record { op = X; a = 0; b = 0; value = pos 0 } ∷ []

half_points : contour_points (window (pos 0) 2) half ≡ 6
unfolding flat_points way_within
half_points = refl

half_spans : contour_spans (window (pos 0) 2) half ≡ 5
unfolding cell_spans_in way_within
half_spans = refl

-- the coordinate z has the height everywhere, whatever the ends of z are
abbrev up : List Step
up = record { op = Z; a = 0; b = 0; value = pos 0 } ∷ []

up_value : plane_value (window (pos 4294967296) 4) up 1 2 ≡ pos 4294967296
up_value = refl

up_points : contour_points (window (pos 4294967296) 2) up ≡ 0
unfolding flat_points way_within
up_points = refl

up_least : contour_least (window (pos 4294967296) 2) up ≡ 0
unfolding flat_least way_within
up_least = refl

up_spans : contour_spans (window (pos 4294967296) 2) up ≡ 1
unfolding cell_spans_in way_within
up_spans = refl

-- and below 0 the same box is decided inside, and is looked into for the sake of the border alone: of three by three
-- cells the one in the middle is not a working one
down_points : contour_points (window (negsuc 4294967295) 3) up ≡ 16
unfolding flat_points way_within
down_points = refl

-- of three by three cells the box of all is split into one cell, two boxes of two cells and one of four: four boxes of
-- more than one cell
down_long : contour_long_spans (window (negsuc 4294967295) 3) up ≡ 4
unfolding long_spans_in way_within
down_long = refl

-- a box that is decided outside is traced all the same
up_long : contour_long_spans (window (pos 4294967296) 2) up ≡ 1
unfolding long_spans_in way_within
up_long = refl

-- of the four cells at the inner point the two with x up to 0 receive the one step, and the others are no working ones
lengths_at_inner : plane_lengths (laid_flat (window (pos 0) 2)) half (point 1 1 0) ≡ 1 ∷ 0 ∷ 1 ∷ 0 ∷ []
unfolding way_within
lengths_at_inner = refl

working_lengths_at_inner : plane_working_lengths (laid_flat (window (pos 0) 2)) half (point 1 1 0) ≡ 1 ∷ 1 ∷ []
unfolding way_within
working_lengths_at_inner = refl

-- the box of two cells along x and three along y, with the whole list
root_of_six : plane_root (record (window (pos 0) 2) { ny = 3; nz = 1 }) half
    ≡ record { box = record { x0 = 0; x1 = 2; y0 = 0; y1 = 3; z0 = 0; z1 = 1 }; list = half }
root_of_six = refl

-- ---- points without values

-- four cells along each axis, from 0 to 8, from 10 to 50 and from 100 to 500: a point lies at the lower end of z
gap_lies_at : lies_at (record (window (pos 7) 4) { x0 = pos 0; x1 = pos 8; y0 = pos 10; y1 = pos 50; z0 = pos 100; z1 = pos 500 }) (record { x = 1; y = 3 })
    ≡ record { x = pos 2; y = pos 40; z = pos 100 }
gap_lies_at = refl

-- of one cell all corners are known but the one that lies furthest along both axes: that one is a gap
abbrev three_known : Known
three_known = record {
  n = record { x = 1; y = 1; z = 1 };
  points = record { x0 = 0; x1 = 2; y0 = 0; y1 = 2; z0 = 0; z1 = 1 };
  at = λ p. if same_point p (point 1 1 0) then None else Some (pos 5);
}

abbrev last_corner : List Gap
last_corner = record { x = 1; y = 1 } ∷ []

last_corner_is_a_gap : AreGaps three_known (point 0 0 0) last_corner
last_corner_is_a_gap = record {
  stand = stand;
  corners = corners;
  unknown = unknown;
  apart = λ i j d less within. absurd (omega (arith, less, within));
  all = all;
}
  where
    stand : All (StandsIn three_known) last_corner
    stand zero d h = record { x = omega arith; y = omega arith }
    stand (suc i) d h = absurd (omega (arith, h))

    corners : All (λ (gap : Gap). IsCornerBelow 4 (point 0 0 0) (spot gap)) last_corner
    corners zero d h = record { mask = 3; less = omega arith; at = refl }
    corners (suc i) d h = absurd (omega (arith, h))

    unknown : All (λ (gap : Gap). three_known.at (spot gap) ≡ None) last_corner
    unknown zero d h = refl
    unknown (suc i) d h = absurd (omega (arith, h))

    all : (c : ℕ) → c < 4
        → (has_gap last_corner (further (point 0 0 0) c) || is_known (three_known.at (further (point 0 0 0) c))) ≡ true
    all zero h = refl
    all (suc zero) h = refl
    all (suc (suc zero)) h = refl
    all (suc (suc (suc zero))) h = refl
    all (suc (suc (suc (suc c)))) h = absurd (omega (arith, h))

last_corner_is_missing : AreGaps three_known (point 0 0 0) [] → ⊥
last_corner_is_missing h = let found : false ≡ true = h.all 3 (omega arith) in (cc)

-- nor are all corners known where that one is not
not_all_known : IsSeen three_known (point 0 0 0) (record { all = true; inside = false; outside = true }) → ⊥
not_all_known h = let known : false ≡ true = h.all refl 3 (omega arith) in (cc)

-- the three that are known are all outside, which is seen: to see nothing of this cell is refused
three_are_seen : IsSeen three_known (point 0 0 0) (record { all = false; inside = false; outside = true })
three_are_seen = record {
  all = λ e. absurd (false≢true e);
  lacks = λ e. record { corner = 3; few = omega arith; unknown = refl };
  inside = λ e. absurd (false≢true e);
  none_inside = λ e. outside;
  outside = λ e. record { corner = 0; few = omega arith; value = pos 5; known = refl; side = refl };
  none_outside = λ e. absurd (false≢true (sym e));
}
  where
    outside : AllShow three_known (point 0 0 0) 4 false
    outside zero v h is = ap is_inside (sym (ap (λ o. unwrap_or o v) is))
    outside (suc zero) v h is = ap is_inside (sym (ap (λ o. unwrap_or o v) is))
    outside (suc (suc zero)) v h is = ap is_inside (sym (ap (λ o. unwrap_or o v) is))
    outside (suc (suc (suc zero))) v h is = absurd (false≢true (ap is_some is))
    outside (suc (suc (suc (suc c)))) v h is = absurd (omega (arith, h))

nothing_seen_is_refused : IsSeen three_known (point 0 0 0) (record { all = false; inside = false; outside = false }) → ⊥
nothing_seen_is_refused h = let side : false ≡ true = h.none_outside refl 0 (pos 5) (omega arith) refl in (cc)

-- where all corners are known and inside, it is refused to see none inside, or not to see that all are known
abbrev inside_known : Known
inside_known = record three_known { at = λ p. Some (negsuc 4) }

none_seen_inside_is_refused : IsSeen inside_known (point 0 0 0) (record { all = true; inside = false; outside = false }) → ⊥
none_seen_inside_is_refused h = let side : true ≡ false = h.none_inside refl 0 (negsuc 4) (omega arith) refl in (cc)

some_unknown_is_refused : IsSeen inside_known (point 0 0 0) (record { all = false; inside = true; outside = false }) → ⊥
some_unknown_is_refused h = let known : true ≡ false = (h.lacks refl).unknown in (cc)

-- that cell is shown, and the other one, whose known corners all lie outside, is not
all_known_is_shown : IsShown inside_known (point 0 0 0)
all_known_is_shown = inl (λ c few. refl)

one_side_is_not_shown : IsShown three_known (point 0 0 0) → ⊥
one_side_is_not_shown (inl known) = let corner : false ≡ true = known 3 (omega arith) in (cc)
one_side_is_not_shown (inr sides) = by sides.0.corner sides.0.value sides.0.few sides.0.known sides.0.side
  where
    by : (c : ℕ) (v : ℤ) → c < 4 → three_known.at (further (point 0 0 0) c) ≡ Some v → is_inside v ≡ true → ⊥
    by zero v few is inside = false≢true (ap is_inside (ap (λ o. unwrap_or o v) is) ∙ inside)
    by (suc zero) v few is inside = false≢true (ap is_inside (ap (λ o. unwrap_or o v) is) ∙ inside)
    by (suc (suc zero)) v few is inside = false≢true (ap is_inside (ap (λ o. unwrap_or o v) is) ∙ inside)
    by (suc (suc (suc zero))) v few is inside = false≢true (ap is_some is)
    by (suc (suc (suc (suc c)))) v few is inside = absurd (omega (arith, few))
