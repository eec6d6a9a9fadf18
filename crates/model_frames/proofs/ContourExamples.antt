-- The contours of solids, computed on models and views that were worked out by hand.
use Rattle.std.proofs.Common.{◌≡◌, ◌≢◌, ℕ, pos, negsuc, List, [], ◌∷◌, ◌++◌, refl, arith}
use Rattle.std.specs.Prelude.{codes, replicate}
use Rattle.std.specs.Fmt.{digits}
use Rattle.box_chains.specs.Tallied.{work_of}
use Rattle.contour_lines.specs.Bound.{flat_least, flat_points}
use Rattle.fixed_ops.specs.NumberTexts.{size_text}
use Rattle.fixed_ops.specs.declared.operation.Op.TheVariants.{X, Z, Const}
use Rattle.oct_descent.specs.Bound.{cell_spans_in, long_spans_in}
use Rattle.oct_descent.specs.Ways.{way_within}
use Rattle.plane_loops.specs.Following.{edges_before, loops_from, mark_all, next_by, walk}
use Rattle.plane_loops.specs.Planes.{mixed_edges}
use Rattle.plane_loops.specs.Segments.{Segment, segments}
use Rattle.plane_loops.specs.WorkedOut.{contour_of}
use Rattle.solid_model.specs.declared.clause.Clause.{Clause}
use Rattle.view_places.specs.Window.{Window}
use Rattle.model_frames.specs.ClosedTexts.{IsClosedText}
use Rattle.model_frames.specs.Contours.{contour_text, contour_work, plain_contour, solid_plane}
use Rattle.model_frames.specs.Frames.{frame_part}
use Rattle.model_frames.specs.declared.frame.Frame.TheVariants as frames

-- two cells along each axis, from -1 to 1, at the height 0.5
abbrev window : Window
window = record {
  x0 = negsuc 4294967295;
  x1 = pos 4294967296;
  y0 = negsuc 4294967295;
  y1 = pos 4294967296;
  z0 = negsuc 4294967295;
  z1 = pos 4294967296;
  z = pos 2147483648;
  w = 1;
  h = 1;
  d = 1;
  nx = 2;
  ny = 2;
  nz = 2;
}

-- a number below 0 is inside at the middle point alone, whatever clauses there are beside it
abbrev inside : List Clause
inside =
    record { name = codes "u"; op = X; a = 0; b = 0; value = pos 0 }
    ∷ record { name = codes "a"; op = Const; a = 0; b = 0; value = negsuc 4294967295 } ∷ []

middle_point : (solid_plane window inside).values
    ≡ pos 0 ∷ pos 0 ∷ pos 0 ∷ pos 0 ∷ negsuc 4294967295 ∷ pos 0 ∷ pos 0 ∷ pos 0 ∷ pos 0 ∷ []
middle_point = refl

-- of the six segments round it none is listed twice
abbrev segment : ℕ × ℕ × ℕ → ℕ × ℕ × ℕ → Segment
segment from to = record { from = record { x = from.0; y = from.1; dir = from.2 }; to = record { x = to.0; y = to.1; dir = to.2 } }

first_two_differ : (bytes : List ℕ) → IsClosedText window inside bytes → segment (0, 0, 3) (1, 0, 2) ≢ segment (0, 1, 1) (0, 0, 3)
unfolding segments
first_two_differ bytes closed = closed.closed.distinct 0 1 (segment (0, 0, 0) (0, 0, 0)) (omega arith) (omega arith)

-- values are those at the height of the view
at_the_height : (solid_plane window (record { name = codes "z"; op = Z; a = 0; b = 0; value = pos 0 } ∷ [])).values ≡ replicate 9 (pos 2147483648)
at_the_height = refl

-- the loop lies close to the border, whose points are outside
one_loop : contour_text window inside
    ≡ codes "M -0.9999847412 -0.9999847412 L 0.0000000000 -0.9999847412 L 0.9999847412 0.0000000000 L 0.9999847412 0.9999847412 L 0.0000000000 0.9999847412 L -0.9999847412 0.0000000000 Z\n"
unfolding contour_of edges_before next_by walk mark_all loops_from mixed_edges digits size_text
one_loop = refl

-- each of the nine points takes an evaluation of the one clause that is live, the box is traced and its four cells may be,
-- and plain evaluation takes both clauses
work_of_one_loop : contour_work window inside
    ≡ record { least = work_of 9 1 0; most = work_of 9 5 20; bound = work_of 9 5 20; plain = 18 }
unfolding flat_points flat_least cell_spans_in long_spans_in way_within
work_of_one_loop = refl

plain_points : plain_contour (record window { nx = 3 }) 7 ≡ 84
plain_points = refl

-- what is written for a contour is its path, and beside it stands its work
part_of_one_loop : frame_part (frames.Contour window) inside
    ≡ record {
      bytes = codes "M -0.9999847412 -0.9999847412 L 0.0000000000 -0.9999847412 L 0.9999847412 0.0000000000 "
          ++ codes "L 0.9999847412 0.9999847412 L 0.0000000000 0.9999847412 L -0.9999847412 0.0000000000 Z\n";
      work = record { least = work_of 9 1 0; most = work_of 9 5 20; bound = work_of 9 5 20; plain = 18 };
    }
unfolding contour_of edges_before next_by walk mark_all loops_from mixed_edges digits size_text flat_points flat_least cell_spans_in long_spans_in way_within
part_of_one_loop = refl
