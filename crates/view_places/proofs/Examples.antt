-- Places and boxes, computed on views that were worked out by hand.
use Rattle.std.proofs.Common.{◌≡◌, ℕ, zero, suc, pos, negsuc, ◌≤◌, [], ◌∷◌, map, true, false, refl, arith}
use Rattle.std.specs.List.{range_with_len}
use Rattle.std.specs.Prelude.{◌==◌, ◌≤ℤ◌, if◌then◌else◌}
use Rattle.fixed_ops.specs.Raw.{IsRaw, greatest, least}
use Rattle.view_places.specs.declared.course.Course.TheVariants.{Rising, Falling, Level}
use Rattle.view_places.specs.declared.lattice.Axis.TheVariants as axes
use Rattle.view_places.specs.declared.lattice.Lattice.TheVariants.{Raster, Height, Grid}
use Rattle.view_places.specs.Boxes.{Indices, IsBox, middle, one_sample}
use Rattle.view_places.specs.Places.{sample_place, point_of, raster_point, steps_of}
use Rattle.view_places.specs.Samples.{place_by}
use Rattle.view_places.specs.Spans.{IsInRoot, IsPlaceAmong, region_of, root_box_of}
use Rattle.view_places.specs.Window.{AreEnds, FitsContour, FitsHeight, IsCount, IsWindow, Window, fits_mesh, has_room, plane_cells_have_room, same_view, size_of}

-- from -1 to 1, with this count along each axis
abbrev counted : ℕ → Window
counted n = record {
  x0 = negsuc 4294967295;
  x1 = pos 4294967296;
  y0 = negsuc 4294967295;
  y1 = pos 4294967296;
  z0 = negsuc 4294967295;
  z1 = pos 4294967296;
  z = pos 0;
  w = n;
  h = n;
  d = n;
  nx = n;
  ny = n;
  nz = n;
}

-- a third of 2^33 is not whole: columns are rounded down, and rows the other way
column_rounds_down : sample_place (counted 4) Raster axes.X 1 ≡ negsuc 1431655765
column_rounds_down = refl

row_rounds_up : sample_place (counted 4) Raster axes.Y 1 ≡ pos 1431655766
row_rounds_up = refl

layer_rounds_down : sample_place (counted 4) Height axes.Z 2 ≡ pos 1431655765
layer_rounds_down = refl

-- the second of five samples from 3 to 11: up from 3, down from 11, or at 3 as all are
second_by_course : place_by Rising (pos 3) (pos 11) 4 1 ∷ place_by Falling (pos 3) (pos 11) 4 1
    ∷ place_by Level (pos 3) (pos 11) 4 1 ∷ [] ≡ pos 5 ∷ pos 9 ∷ pos 3 ∷ []
second_by_course = refl

-- the rows of a mesh rise
mesh_rows_rise : sample_place (counted 3) Grid axes.Y 1 ≡ negsuc 1431655765
mesh_rows_rise = refl

-- a lone column lies at the lower end, a lone row at the upper one
lone_sample : raster_point (counted 1) 0 0 ≡ record { x = negsuc 4294967295; y = pos 4294967296; z = pos 0 }
lone_sample = refl

last_sample : raster_point (counted 2) 1 1 ≡ record { x = pos 4294967296; y = negsuc 4294967295; z = pos 0 }
last_sample = refl

-- a grid has as many cells along each axis as its view says for that axis
cells_along_each_axis : size_of (record (counted 4) { nx = 2; ny = 3; nz = 5 }) ≡ record { x = 2; y = 3; z = 5 }
cells_along_each_axis = refl

-- a contour needs room along x and along y, but none along z
contour_needs_no_depth : plane_cells_have_room (record (counted 4) { z0 = pos 5; z1 = pos 5 }) ≡ true
unfolding has_room
contour_needs_no_depth = refl

contour_without_room_along_x : plane_cells_have_room (record (counted 4) { x0 = pos 5; x1 = pos 262148 }) ≡ false
unfolding has_room
contour_without_room_along_x = refl

contour_without_room_along_y : plane_cells_have_room (record (counted 4) { y0 = pos 5; y1 = pos 262148 }) ≡ false
unfolding has_room
contour_without_room_along_y = refl

just_room_for_a_contour : plane_cells_have_room (record (counted 4) { x0 = pos 5; x1 = pos 262149; y0 = pos 7; y1 = pos 262151 }) ≡ true
unfolding has_room
just_room_for_a_contour = refl

-- and as many cells along x as along y, at most 256
contour_of_oblong_grid : FitsContour (record (counted 4) { ny = 5 }) → ⊥
contour_of_oblong_grid fits = absurd (omega (arith, fits.square))

too_many_cells_of_a_contour : FitsContour (counted 257) → ⊥
too_many_cells_of_a_contour fits = absurd (omega (arith, fits.few))

-- a mesh needs room along each axis
room_everywhere : fits_mesh (counted 4) ≡ true
unfolding has_room
room_everywhere = refl

no_room_along_x : fits_mesh (record (counted 4) { x0 = pos 5; x1 = pos 5 }) ≡ false
unfolding has_room
no_room_along_x = refl

no_room_along_y : fits_mesh (record (counted 4) { y0 = pos 5; y1 = pos 5 }) ≡ false
unfolding has_room
no_room_along_y = refl

no_room_along_z : fits_mesh (record (counted 4) { z0 = pos 5; z1 = pos 5 }) ≡ false
unfolding has_room
no_room_along_z = refl

-- each axis is asked for its own cells: 131072 raw units are room for two of them and no more
abbrev narrow : ℕ → ℕ → ℕ → Window
narrow nx ny nz = record (counted 1) {
  x0 = pos 0;
  x1 = pos 131072;
  y0 = pos 0;
  y1 = pos 131072;
  z0 = pos 0;
  z1 = pos 131072;
  nx = nx;
  ny = ny;
  nz = nz;
}

room_for_two : fits_mesh (narrow 2 2 2) ≡ true
unfolding has_room
room_for_two = refl

third_along_x : fits_mesh (narrow 3 1 1) ≡ false
unfolding has_room
third_along_x = refl

third_along_y : fits_mesh (narrow 1 3 1) ≡ false
unfolding has_room
third_along_y = refl

third_along_z : fits_mesh (narrow 1 1 3) ≡ false
unfolding has_room
third_along_z = refl

-- a mesh has at most 16777216 cells, which is 512 by 512 by 64 or 256 along each axis; of the products of three
-- counts of at most 512 the next one is 145 by 317 by 365
most_cells : fits_mesh (record (counted 1) { nx = 512; ny = 512; nz = 64 }) ≡ true
unfolding has_room
most_cells = refl

most_along_each : fits_mesh (counted 256) ≡ true
unfolding has_room
most_along_each = refl

nine_cells_more : fits_mesh (record (counted 1) { nx = 145; ny = 317; nz = 365 }) ≡ false
unfolding has_room
nine_cells_more = refl

-- of 17 indices from 3 on the lower half has 9
lower_half_has_the_odd_index : middle 3 20 ≡ 12
lower_half_has_the_odd_index = refl

-- a box has an index on each axis
abbrev sides_to : ℕ → ℕ → ℕ → Indices
sides_to x1 y1 z1 = record { x0 = 3; x1 = x1; y0 = 5; y1 = y1; z0 = 7; z1 = z1 }

one_index_on_each : IsBox (sides_to 4 6 8)
one_index_on_each = record { x = omega arith; y = omega arith; z = omega arith }

none_along_x : IsBox (sides_to 3 6 8) → ⊥
none_along_x h = omega (arith, h.x)

none_along_y : IsBox (sides_to 4 5 8) → ⊥
none_along_y h = omega (arith, h.y)

none_along_z : IsBox (sides_to 4 6 7) → ⊥
none_along_z h = omega (arith, h.z)

-- an image of one pixel is the box of the one index 0 on each axis
lone_pixel : root_box_of (counted 1) Raster ≡ one_sample
lone_pixel = refl

-- ---- a view whose axes differ: 3 columns, 4 rows and 5 layers, and 6 by 3 by 4 cells

abbrev uneven : Window
uneven = record {
  x0 = pos 10;
  x1 = pos 17;
  y0 = pos 20;
  y1 = pos 50;
  z0 = pos 100;
  z1 = pos 400;
  z = pos 9;
  w = 3;
  h = 4;
  d = 5;
  nx = 6;
  ny = 3;
  nz = 4;
}

-- half of 7 along x, and two thirds of 30 from the top along y
uneven_pixel : raster_point uneven 1 2 ≡ record { x = pos 13; y = pos 30; z = pos 9 }
uneven_pixel = refl

-- a third of 30 from the top along y, and three quarters of 300 along z
uneven_layer : point_of uneven Height 1 1 3 ≡ record { x = pos 13; y = pos 40; z = pos 325 }
uneven_layer = refl

-- a sixth of 7, two thirds of 30 and three quarters of 300
uneven_corner : point_of uneven Grid 1 2 3 ≡ record { x = pos 11; y = pos 40; z = pos 325 }
uneven_corner = refl

-- the samples of an image, of a height map and of a mesh, along each axis
uneven_pixels : root_box_of uneven Raster ≡ record { x0 = 0; x1 = 3; y0 = 0; y1 = 4; z0 = 0; z1 = 1 }
uneven_pixels = refl

uneven_layers : root_box_of uneven Height ≡ record { x0 = 0; x1 = 3; y0 = 0; y1 = 4; z0 = 0; z1 = 5 }
uneven_layers = refl

uneven_cells : root_box_of uneven Grid ≡ record { x0 = 0; x1 = 6; y0 = 0; y1 = 3; z0 = 0; z1 = 4 }
uneven_cells = refl

-- the ranges of columns 1 and 2 and of rows 0 to 2, and those of the corners of some cells
ranges_of_pixels : region_of uneven Raster (record { x0 = 1; x1 = 3; y0 = 0; y1 = 3; z0 = 0; z1 = 1 })
    ≡ record {
      x = record { lo = pos 13; hi = pos 17 };
      y = record { lo = pos 30; hi = pos 50 };
      z = record { lo = pos 9; hi = pos 9 };
    }
ranges_of_pixels = refl

ranges_of_layers : region_of uneven Height (record { x0 = 1; x1 = 3; y0 = 0; y1 = 3; z0 = 1; z1 = 4 })
    ≡ record {
      x = record { lo = pos 13; hi = pos 17 };
      y = record { lo = pos 30; hi = pos 50 };
      z = record { lo = pos 175; hi = pos 325 };
    }
ranges_of_layers = refl

ranges_of_cells : region_of uneven Grid (record { x0 = 1; x1 = 3; y0 = 1; y1 = 3; z0 = 0; z1 = 2 })
    ≡ record {
      x = record { lo = pos 11; hi = pos 13 };
      y = record { lo = pos 30; hi = pos 50 };
      z = record { lo = pos 100; hi = pos 250 };
    }
ranges_of_cells = refl

-- a box lies in the root box up to its very ends, and no further along any axis
abbrev layers_to : ℕ → ℕ → ℕ → Indices
layers_to x1 y1 z1 = record { x0 = 0; x1 = x1; y0 = 0; y1 = y1; z0 = 0; z1 = z1 }

box_of_all_layers : IsInRoot uneven Height (layers_to 3 4 5)
box_of_all_layers = record { x = omega arith; y = omega arith; z = omega arith }

box_too_wide : IsInRoot uneven Height (layers_to 4 4 5) → ⊥
box_too_wide h = omega (arith, h.x)

box_too_high : IsInRoot uneven Height (layers_to 3 5 5) → ⊥
box_too_high h = omega (arith, h.y)

box_too_deep : IsInRoot uneven Height (layers_to 3 4 6) → ⊥
box_too_deep h = omega (arith, h.z)

-- a height map has at most 1024 columns and 1024 rows
height_map_of_most : FitsHeight (record uneven { w = 1024; h = 1024 })
height_map_of_most = record { w = omega arith; h = omega arith }

too_many_columns : FitsHeight (record uneven { w = 1025 }) → ⊥
too_many_columns h = omega (arith, h.w)

too_many_rows : FitsHeight (record uneven { h = 1025 }) → ⊥
too_many_rows h = omega (arith, h.h)

-- how many steps lie between the first and the last sample of each axis
steps_of_pixels : steps_of uneven Raster axes.X ∷ steps_of uneven Raster axes.Y ∷ steps_of uneven Raster axes.Z ∷ []
    ≡ 2 ∷ 3 ∷ 0 ∷ []
steps_of_pixels = refl

steps_of_layers : steps_of uneven Height axes.X ∷ steps_of uneven Height axes.Y ∷ steps_of uneven Height axes.Z ∷ []
    ≡ 2 ∷ 3 ∷ 4 ∷ []
steps_of_layers = refl

steps_of_cells : steps_of uneven Grid axes.X ∷ steps_of uneven Grid axes.Y ∷ steps_of uneven Grid axes.Z ∷ []
    ≡ 6 ∷ 3 ∷ 4 ∷ []
steps_of_cells = refl

-- columns 1 and 2 are at 13 and 17: neither the place of column 0 is among them nor one between
place_before : IsPlaceAmong uneven Raster axes.X 1 2 (pos 10) → ⊥
place_before h = by h.index h.above h.below h.is
  where
    by : (i : ℕ) → 1 ≤ i → i ≤ 2 → sample_place uneven Raster axes.X i ≡ pos 10 → ⊥
    by zero some few e = omega (arith, some)
    by (suc zero) some few e = cc
    by (suc (suc zero)) some few e = cc
    by (suc (suc (suc i))) some few e = omega (arith, few)

-- ---- what a view keeps

largest_ends : AreEnds least greatest
largest_ends = record {
  low_raw = (record { le = tt }, record { le = tt });
  high_raw = (record { le = tt }, record { le = tt });
  ordered = record { le = tt };
}

largest_window : IsWindow (record {
  x0 = least;
  x1 = greatest;
  y0 = least;
  y1 = greatest;
  z0 = least;
  z1 = greatest;
  z = least;
  w = 4096;
  h = 4096;
  d = 1024;
  nx = 512;
  ny = 512;
  nz = 512;
})
largest_window = record {
  x = largest_ends;
  y = largest_ends;
  z_ends = largest_ends;
  z = (record { le = tt }, record { le = tt });
  w = record { some = omega arith; few = omega arith };
  h = record { some = omega arith; few = omega arith };
  d = record { some = omega arith; few = omega arith };
  nx = record { some = omega arith; few = omega arith };
  ny = record { some = omega arith; few = omega arith };
  nz = record { some = omega arith; few = omega arith };
}

-- the ends of an axis may be one place, and a count may be 1
lone_place : AreEnds (pos 10) (pos 10)
lone_place = record {
  low_raw = (record { le = tt }, record { le = tt });
  high_raw = (record { le = tt }, record { le = tt });
  ordered = record { le = tt };
}

lone_count : IsCount 512 1
lone_count = record { some = omega arith; few = omega arith }

no_window_has_more : (v : Window) → IsWindow v → (v.w ≤ 4096) × (v.h ≤ 4096) × (v.d ≤ 1024)
no_window_has_more v is = (is.w.few, is.h.few, is.d.few)

no_mesh_has_more : (v : Window) → IsWindow v → (v.nx ≤ 512) × (v.ny ≤ 512) × (v.nz ≤ 512)
no_mesh_has_more v is = (is.nx.few, is.ny.few, is.nz.few)

none_has_none : (v : Window) → IsWindow v → (1 ≤ v.w) × (1 ≤ v.h) × (1 ≤ v.d)
none_has_none v is = (is.w.some, is.h.some, is.d.some)

no_mesh_has_none : (v : Window) → IsWindow v → (1 ≤ v.nx) × (1 ≤ v.ny) × (1 ≤ v.nz)
no_mesh_has_none v is = (is.nx.some, is.ny.some, is.nz.some)

ends_are_in_order : (v : Window) → IsWindow v → (v.x0 ≤ℤ v.x1) × (v.y0 ≤ℤ v.y1) × (v.z0 ≤ℤ v.z1)
ends_are_in_order v is = (is.x.ordered, is.y.ordered, is.z_ends.ordered)

lower_ends_are_raw : (v : Window) → IsWindow v → IsRaw v.x0 × IsRaw v.y0 × IsRaw v.z0 × IsRaw v.z
lower_ends_are_raw v is = (is.x.low_raw, is.y.low_raw, is.z_ends.low_raw, is.z)

upper_ends_are_raw : (v : Window) → IsWindow v → IsRaw v.x1 × IsRaw v.y1 × IsRaw v.z1
upper_ends_are_raw v is = (is.x.high_raw, is.y.high_raw, is.z_ends.high_raw)

-- ---- views that are one

abbrev one_at : ℕ → ℕ → ℕ
one_at place at = if place == at then 1 else 0

-- thirteen numbers, of which the one at this place is 1 and the others are 0
abbrev marked : ℕ → Window
marked at = record {
  x0 = pos (one_at 0 at);
  x1 = pos (one_at 1 at);
  y0 = pos (one_at 2 at);
  y1 = pos (one_at 3 at);
  z0 = pos (one_at 4 at);
  z1 = pos (one_at 5 at);
  z = pos (one_at 6 at);
  w = one_at 7 at;
  h = one_at 8 at;
  d = one_at 9 at;
  nx = one_at 10 at;
  ny = one_at 11 at;
  nz = one_at 12 at;
}

-- each number tells two views apart
each_number_counts : map (λ at. same_view (marked at) (marked 13)) (range_with_len 0 14)
    ≡ false ∷ false ∷ false ∷ false ∷ false ∷ false ∷ false ∷ false ∷ false ∷ false ∷ false ∷ false ∷ false ∷ true ∷ []
each_number_counts = refl
