-- The definitions of frames, computed on models and views that were worked out by hand.
use Rattle.std.proofs.Common.{◌≡◌, ℕ, pos, negsuc, List, [], ◌∷◌, ◌++◌, map, Some, None, Result, Ok, Err, refl, ap, ◌∙◌, arith}
use Rattle.std.specs.Prelude.{Vec, codes, replicate, take}
use Rattle.std.specs.Fmt.{digits}
use Rattle.std.specs.declared.alloc.Global.{Global}
use Rattle.box_chains.specs.Chains.{chain_within}
use Rattle.box_chains.specs.Counts.{points_in, spans_in}
use Rattle.clause_reader.specs.Reading.{text_read}
use Rattle.clause_reader.specs.declared.text_fault.TextFault.{TextFault}
use Rattle.box_chains.specs.Tested.{points_where, spans_where}
use Rattle.oct_descent.specs.Bound.{long_spans_in, mesh_least, mesh_points, cell_spans_in as spans_of_cells}
use Rattle.oct_descent.specs.GridValues.{list_grid}
use Rattle.oct_descent.specs.Trees.{Gridding}
use Rattle.oct_descent.specs.Ways.{way_within}
use Rattle.fixed_ops.specs.declared.operation.Op.TheVariants.{Const}
use Rattle.fixed_ops.specs.Numerals.{cut_magnitude, is_unsigned_numeral, nearest_raw, unsigned_raw}
use Rattle.kuhn_cells.specs.Faces.{all_triangles, faces}
use Rattle.kuhn_cells.specs.Grids.{vertices}
use Rattle.ply_writer.specs.Ply.{ply_of}
use Rattle.solid_model.specs.declared.clause.Clause.{Clause}
use Rattle.tetra_mesh.specs.Meshes.{Triangulation}
use Rattle.view_places.specs.Window.{Window}
use Rattle.normal_shade.specs.DualWork.{dual_points}
use Rattle.normal_shade.specs.Lit.{lit_where}
use Rattle.model_frames.specs.Drawn.{drawn_bytes}
use Rattle.model_frames.specs.Frames.{CanDraw, frame_name, frame_part}
use Rattle.model_frames.specs.Heights.{heights_of, plain_depths}
use Rattle.live_clauses.specs.declared.step.Step.{Step}
use Rattle.model_frames.specs.Images.{image_of, list_before, plain_points}
use Rattle.model_frames.specs.Meshes.{grid_before, grid_of, mesh_text, meshed_text, plain_grid}
use Rattle.model_frames.specs.Shades.{shaded_of}
use Rattle.model_frames.specs.SoundTexts.{IsSoundText}
use Rattle.fixed_ops.specs.Counts.{no_counts, points_of, spans_of}
use Rattle.model_frames.specs.Work.{CountsWithin, CountsWork, FitsCounts, PointsRiseAtMost, Work, both, exactly, frame_work, height_work, mesh_work, mesh_work_after, no_work}
use Rattle.model_frames.specs.declared.drawn.Drawn.TheVariants as drawings
use Rattle.model_frames.specs.declared.frame.Frame.TheVariants as frames

-- the clauses of a text that is read
abbrev solid : List ℕ → List Clause
solid text = by (text_read text)
  where
    by : Result (List Clause) TextFault → List Clause
    by (Ok clauses) = clauses
    by (Err fault) = []

-- the window from -1 to 1 with so many columns, rows and layers, one cell along each axis, and its raster at 0
abbrev window : ℕ → ℕ → ℕ → Window
window columns rows layers = record {
  x0 = negsuc 4294967295;
  x1 = pos 4294967296;
  y0 = negsuc 4294967295;
  y1 = pos 4294967296;
  z0 = negsuc 4294967295;
  z1 = pos 4294967296;
  z = pos 0;
  w = columns;
  h = rows;
  d = layers;
  nx = 1;
  ny = 1;
  nz = 1;
}

-- x * x + y * y is below 0.5 in the middle alone
disc_image : image_of (window 3 3 1) (solid (codes "a var-x\nb var-y\nc mul a a\nd mul b b\ne add c d\nr const 0.5\nf sub e r\n"))
    ≡ codes "P5\n3 3\n255\n" ++ 0 ∷ 0 ∷ 0 ∷ 0 ∷ 255 ∷ 0 ∷ 0 ∷ 0 ∷ 0 ∷ []
unfolding digits cut_magnitude is_unsigned_numeral nearest_raw unsigned_raw
disc_image = refl

-- Of two columns and three rows from the top on, the left one of the last row alone lies below 0 along both axes, and of
-- its two samples the far one along the third axis too.
corner_image : image_of (window 2 3 1) (solid (codes "x var-x\ny var-y\nm max x y\n"))
    ≡ codes "P5\n2 3\n255\n" ++ 0 ∷ 0 ∷ 0 ∷ 0 ∷ 255 ∷ 0 ∷ []
unfolding digits
corner_image = refl

corner_map : heights_of (window 2 3 2) (solid (codes "x var-x\ny var-y\nz var-z\nm max x y\nk max m z\n"))
    ≡ codes "P5\n2 3\n2\n" ++ 0 ∷ 0 ∷ 0 ∷ 0 ∷ 1 ∷ 0 ∷ []
unfolding digits heights_of
corner_map = refl

-- plain evaluation goes over all pixels, samples or points
plain_pixels : plain_points (window 2 3 5) 7 ≡ 42
plain_pixels = refl

plain_samples : plain_depths (window 2 3 5) 7 ≡ 210
plain_samples = refl

plain_corners : plain_grid (record (window 2 3 5) { nx = 3; ny = 3; nz = 3 }) 7 ≡ 448
plain_corners = refl

-- The left one of two boxes holds five samples, of which the middle one is 0, and so stays undecided.
undecided_half : frame_work (window 9 1 1) (solid (codes "x var-x\n"))
    ≡ exactly 5 3 9
unfolding points_in spans_in chain_within
undecided_half = refl

-- what is decided at once takes no evaluation
decided_at_once : frame_work (window 8 8 1) (solid (codes "a const -1\n"))
    ≡ exactly 0 1 64
unfolding points_in spans_in chain_within cut_magnitude is_unsigned_numeral nearest_raw unsigned_raw
decided_at_once = refl

-- of three samples of a column the one below 0 is the far one, whose top is 1
far_top : heights_of (window 1 1 3) (solid (codes "z var-z\n")) ≡ codes "P5\n1 1\n3\n" ++ 1 ∷ []
unfolding digits heights_of
far_top = refl

-- of 300 samples the lower 150 are below 0, and each top has two bytes
two_bytes : heights_of (window 1 1 300) (solid (codes "z var-z\n")) ≡ codes "P5\n1 1\n300\n" ++ 0 ∷ 150 ∷ []
unfolding digits heights_of
two_bytes = refl

-- one cell has no point but those of the outermost layer, which are outside
one_cell : mesh_text (window 1 1 1) (solid (codes "a const -1\n"))
    ≡ codes "ply\nformat ascii 1.0\nelement vertex 0\nproperty double x\nproperty double y\nproperty double z\nelement face 0\nproperty list uchar int vertex_indices\nend_header\n"
unfolding digits grid_of mesh_text vertices faces all_triangles cut_magnitude is_unsigned_numeral nearest_raw unsigned_raw
one_cell = refl

-- two cells along each axis have 27 points, by z, then by y, then by x, of which the middle one alone keeps what is below 0
abbrev two_cells : Window
two_cells = record (window 1 1 1) { nx = 2; ny = 2; nz = 2 }

inner_point : (grid_of two_cells (λ p. negsuc 0)).values ≡ replicate 13 (pos 0) ++ negsuc 0 ∷ replicate 13 (pos 0)
unfolding grid_of
inner_point = refl

along_x : take 4 (grid_of two_cells (λ p. p.x)).values ≡ pos 0 ∷ pos 0 ∷ pos 4294967296 ∷ pos 0 ∷ []
unfolding grid_of
along_x = refl

along_y : take 7 (grid_of two_cells (λ p. p.y)).values ≡ replicate 6 (pos 0) ++ pos 4294967296 ∷ []
unfolding grid_of
along_y = refl

along_z : take 19 (grid_of two_cells (λ p. p.z)).values ≡ replicate 18 (pos 0) ++ pos 4294967296 ∷ []
unfolding grid_of
along_z = refl

-- the work of two frames is the sum, number by number
sum_of_work : both (exactly 1 20 300) (exactly 4 50 600) ≡ exactly 5 70 900
sum_of_work = refl

nothing_adds_nothing : both no_work (exactly 1 20 300) ≡ exactly 1 20 300
nothing_adds_nothing = refl

-- a count has at most 64 bits
points_beyond_a_count : FitsCounts (exactly 18446744073709551616 0 0) → ⊥
points_beyond_a_count fits = absurd (omega (arith, fits.points))

spans_beyond_a_count : FitsCounts (exactly 0 18446744073709551616 0) → ⊥
spans_beyond_a_count fits = absurd (omega (arith, fits.spans))

-- of a clause that the last one does not need, a map and a mesh take no work, but plain evaluation of it does
map_of_two_clauses : height_work (window 1 1 3) (solid (codes "u var-x\nz var-z\n")) ≡ exactly 3 1 6
unfolding points_in spans_in points_where spans_where chain_within
map_of_two_clauses = refl

-- a mesh of one cell is traced at no box of more than one
mesh_of_two_clauses : mesh_work (window 1 1 1) (solid (codes "u var-x\na const -1\n"))
    ≡ record (exactly 8 1 16) { least = points_of 8 }
unfolding mesh_points mesh_least long_spans_in spans_of_cells way_within cut_magnitude is_unsigned_numeral nearest_raw unsigned_raw
mesh_of_two_clauses = refl

-- a text that is sound is that of the very mesh of the solid, and of no other
sound_text_is : (view : Window) (clauses : List Clause) (text : List ℕ) → IsSoundText view clauses text → text ≡ mesh_text view clauses
unfolding mesh_text
sound_text_is view clauses text sound = sound.text_is ∙ ap (λ (mesh : Triangulation). ply_of view mesh.vertices mesh.faces) sound.«is»

-- the views that differ from one in a single number
abbrev other_views : Window → List Window
other_views view =
    record view { x0 = pos 0 } ∷ record view { x1 = pos 0 } ∷ record view { y0 = pos 0 } ∷ record view { y1 = pos 0 }
    ∷ record view { z0 = pos 0 } ∷ record view { z1 = pos 0 } ∷ record view { z = pos 1 } ∷ record view { w = 9 }
    ∷ record view { h = 9 } ∷ record view { d = 9 } ∷ record view { nx = 9 } ∷ record view { ny = 9 }
    ∷ record view { nz = 9 } ∷ []

-- an image and a mesh take over what has their very view, and nothing of any other
image_of_this_view : (list : List Step) → list_before (Some (record { view = two_cells; list = list })) two_cells ≡ Some list
image_of_this_view list = refl

image_of_another_view : (list : List Step)
    → map (list_before (Some (record { view = two_cells; list = list }))) (other_views two_cells) ≡ replicate 13 None
image_of_another_view list = refl

mesh_of_this_view : (list : List Step) → grid_before (Some (record { view = two_cells; list = list })) two_cells ≡ Some list
mesh_of_this_view list = refl

mesh_of_another_view : (list : List Step)
    → map (grid_before (Some (record { view = two_cells; list = list }))) (other_views two_cells) ≡ replicate 13 None
mesh_of_another_view list = refl

-- after a mesh of another view one takes no less than a fresh one
mesh_after_another_view : (list : List Step)
    → mesh_work_after (Some (record { view = two_cells; list = list })) (window 1 1 1) (solid (codes "u var-x\na const -1\n"))
    ≡ record (exactly 8 1 16) { least = points_of 8 }
unfolding mesh_points mesh_least long_spans_in spans_of_cells way_within cut_magnitude is_unsigned_numeral nearest_raw unsigned_raw
mesh_after_another_view list = refl

-- exact work is counted neither more nor less, and evaluations are no hulls
abbrev two_points : Work
two_points = exactly 2 0 0

one_for_two : CountsWork no_counts (points_of 1) two_points → ⊥
unfolding CountsWork
one_for_two counts = (grind (arith, counts.enough.points, counts.rises))

none_for_two : CountsWork no_counts no_counts two_points → ⊥
unfolding CountsWork
none_for_two counts = (grind (arith, counts.enough.points, counts.rises))

three_for_two : CountsWithin no_counts (points_of 3) two_points → ⊥
unfolding CountsWithin
three_for_two counts = (grind (arith, counts.within.points, counts.rises))

hull_for_two : CountsWithin no_counts (spans_of 1) two_points → ⊥
unfolding CountsWithin
hull_for_two counts = (grind (arith, counts.within.spans, counts.rises))

three_above_two : PointsRiseAtMost no_counts (points_of 3) 2 → ⊥
three_above_two rises = (grind (arith, rises.few, rises.rises))

-- a frame is named by what it shows
names_of_frames : map frame_name (frames.Render two_cells ∷ frames.Height two_cells ∷ frames.Shade two_cells ∷ frames.Mesh two_cells ∷ frames.Contour two_cells ∷ frames.Text ∷ [])
    ≡ codes "render" ∷ codes "height" ∷ codes "shade" ∷ codes "mesh" ∷ codes "contour" ∷ codes "text" ∷ []
names_of_frames = refl

-- any view has an image, a map has at most 1024 columns, and a mesh at most 16777216 cells
image_of_any_view : (view : Window) → CanDraw (frames.Render view)
image_of_any_view view = tt

text_of_any_model : CanDraw frames.Text
text_of_any_model = tt

map_of_many_cells : CanDraw (frames.Height (record (window 1024 1024 1) { nx = 512; ny = 512; nz = 512 }))
map_of_many_cells = record { w = omega arith; h = omega arith }

wide_map : CanDraw (frames.Height (window 1025 1 1)) → ⊥
wide_map can = absurd (omega (arith, can.w))

wide_picture : CanDraw (frames.Shade (window 1025 1 1)) → ⊥
wide_picture can = absurd (omega (arith, can.w))

mesh_of_many_columns : CanDraw (frames.Mesh (window 4096 4096 1))
mesh_of_many_columns = record { x = omega arith; y = omega arith; z = omega arith; all = omega arith }

many_cells : CanDraw (frames.Mesh (record (window 1 1 1) { nx = 512; ny = 512; nz = 65 })) → ⊥
many_cells can = absurd (omega (arith, can.all))

oblong_contour : CanDraw (frames.Contour (record (window 1 1 1) { nx = 2; ny = 3 })) → ⊥
oblong_contour can = absurd (omega (arith, can.square))

-- The frames of one coordinate, each with its work. Of three columns the left one is below 0.
part_of_an_image : frame_part (frames.Render (window 3 1 1)) (solid (codes "x var-x\n"))
    ≡ record { bytes = codes "P5\n3 1\n255\n" ++ 255 ∷ 0 ∷ 0 ∷ []; work = exactly 3 1 3 }
unfolding digits points_in spans_in chain_within
part_of_an_image = refl

part_of_a_map : frame_part (frames.Height (window 1 1 3)) (solid (codes "u var-x\nz var-z\n"))
    ≡ record { bytes = codes "P5\n1 1\n3\n" ++ 1 ∷ []; work = exactly 3 1 6 }
unfolding digits heights_of points_in spans_in points_where spans_where chain_within
part_of_a_map = refl

-- the text of a mesh that has nothing
abbrev no_mesh : List ℕ
no_mesh = codes "ply\nformat ascii 1.0\nelement vertex 0\nproperty double x\nproperty double y\nproperty double z\n"
    ++ codes "element face 0\nproperty list uchar int vertex_indices\nend_header\n"

part_of_a_mesh : frame_part (frames.Mesh (window 1 1 1)) (solid (codes "u var-x\na const -1\n"))
    ≡ record { bytes = no_mesh; work = record (exactly 8 1 16) { least = points_of 8 } }
unfolding digits grid_of mesh_text vertices faces all_triangles mesh_points mesh_least long_spans_in spans_of_cells way_within cut_magnitude is_unsigned_numeral nearest_raw unsigned_raw
part_of_a_mesh = refl

part_of_a_text : frame_part frames.Text (solid (codes " x  var-x")) ≡ record { bytes = codes "x var-x\n"; work = no_work }
part_of_a_text = refl

-- z and the product of y and the square of x, from the top on: the sides of the upper row are outside, those of the lower
-- one rise by 1 along y and z and by 2 along x, and in the middle only z rises
saddle_picture : shaded_of (window 3 2 3) (solid (codes "x var-x\ny var-y\nz var-z\ns square x\nm mul y s\na add z m\n"))
    ≡ codes "P5\n3 2\n255\n" ++ 0 ∷ 255 ∷ 0 ∷ 64 ∷ 255 ∷ 64 ∷ []
unfolding digits
saddle_picture = refl

-- Three samples, and one evaluation more for the value at the top one, as a coordinate's derivatives take none; the one box is
-- traced for both. Plain evaluation of two clauses takes 13 of each.
part_of_a_picture : frame_part (frames.Shade (window 1 1 3)) (solid (codes "u var-x\nz var-z\n"))
    ≡ record { bytes = codes "P5\n1 1\n255\n" ++ 255 ∷ []; work = exactly 4 2 26 }
unfolding digits points_in spans_in points_where spans_where lit_where dual_points chain_within
part_of_a_picture = refl

-- -2 is less than z wherever it lies: for the height map nothing is evaluated, and the box is lit by the one step that it prunes
part_of_a_deep_picture : frame_part (frames.Shade (window 1 1 3)) (solid (codes "a const -2\nz var-z\nm min a z\n"))
    ≡ record { bytes = codes "P5\n1 1\n255\n" ++ 255 ∷ []; work = exactly 1 6 39 }
unfolding digits points_in spans_in points_where spans_where lit_where dual_points chain_within cut_magnitude is_unsigned_numeral nearest_raw unsigned_raw
part_of_a_deep_picture = refl

-- What is drawn are the bytes that are there, those of the boxes of an image, those of a picture whose pixels are there, or the
-- text of a mesh, which begins with its 14 vertices. An image of -1 is inside, whatever lies there.
bytes_that_are_there : (bytes : Vec ℕ Global) → bytes.items ≡ codes "ab" → drawn_bytes (drawings.Bytes bytes) ≡ codes "ab"
bytes_that_are_there bytes are = are

image_that_is_drawn : drawn_bytes (drawings.Image (record { view = window 2 1 1; list = record { op = Const; a = 0; b = 0; value = negsuc 4294967295 } ∷ [] }))
    ≡ codes "P5\n2 1\n255\n" ++ 255 ∷ 255 ∷ []
unfolding digits
image_that_is_drawn = refl

picture_that_is_drawn : (pixels : Vec ℕ Global) → pixels.items ≡ 0 ∷ 64 ∷ []
    → drawn_bytes (drawings.Pixels (window 2 1 3) pixels) ≡ codes "P5\n2 1\n255\n" ++ 0 ∷ 64 ∷ []
unfolding digits
picture_that_is_drawn pixels are = ap (λ items. codes "P5\n2 1\n255\n" ++ items) are

abbrev inner_mesh : Gridding
inner_mesh = record { view = two_cells; list = record { op = Const; a = 0; b = 0; value = negsuc 4294967295 } ∷ [] }

mesh_that_is_drawn : take 39 (drawn_bytes (drawings.Mesh inner_mesh)) ≡ codes "ply\nformat ascii 1.0\nelement vertex 14\n"
unfolding digits list_grid vertices faces all_triangles
mesh_that_is_drawn = refl

-- the mesh that stands has its text, and where none stands there is no text
mesh_that_stands : take 39 (meshed_text (Some inner_mesh)) ≡ codes "ply\nformat ascii 1.0\nelement vertex 14\n"
unfolding digits list_grid vertices faces all_triangles
mesh_that_stands = refl

no_mesh_stands : meshed_text None ≡ []
no_mesh_stands = refl
