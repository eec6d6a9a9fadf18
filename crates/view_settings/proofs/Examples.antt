-- Which settings verbs take, and what they make, worked out by hand.
use Rattle.std.proofs.Common.{◌≡◌, ℕ, pos, List, [], ◌∷◌, None, Some, Ok, Err, true, false, refl, arith}
use Rattle.std.specs.Prelude.{codes, map}
use Rattle.std.specs.List.{IsDistinct}
use Rattle.view_settings.specs.declared.forge.Forge.{Forge as Forged}
use Rattle.view_settings.specs.declared.job.Job.TheVariants as jobs
use Rattle.view_settings.specs.declared.kind.Kind.TheVariants as kinds
use Rattle.view_settings.specs.declared.name.Name.{Name}
use Rattle.view_settings.specs.declared.name.Name.TheVariants.{X0, X1, Y0, Y1, Z0, Z1, Z, W, H, D, N, Nx, Ny, Nz, Seed, Solids}
use Rattle.view_settings.specs.declared.reads.Reads.TheVariants as reading
use Rattle.view_settings.specs.declared.setting.Setting.{Setting}
use Rattle.view_settings.specs.declared.setting.Value.TheVariants.{Raw, Count}
use Rattle.view_settings.specs.declared.verb.Verb.TheVariants.{Render, Count as Counts, Height as Heights, Mesh, Text, Replay, Forge}
use Rattle.view_settings.specs.declared.word_fault.WordReason.TheVariants.{OutOfRange}
use Rattle.view_settings.specs.Verbs.{kind_of}
use Rattle.view_settings.specs.Names.{name_called}
use Rattle.view_settings.specs.Setting.{IsSetting, value_read}
use Rattle.view_settings.specs.Settings.{AreSettings}
use Rattle.view_settings.specs.Verbs.{IsJob, reads}
use Rattle.view_settings.specs.Views.{forge_of, is_empty, window_of}
use Rattle.view_places.specs.Window.{FitsContour, FitsHeight, FitsMesh, IsWindow, Window}

-- the ends of a range of counts belong to it
least_count : value_read (kinds.Count 1 1024) (codes "1") ≡ Ok (Count 1)
least_count = refl

greatest_count : value_read (kinds.Count 1 1024) (codes "1024") ≡ Ok (Count 1024)
greatest_count = refl

count_too_large : value_read (kinds.Count 1 1024) (codes "1025") ≡ Err OutOfRange
count_too_large = refl

-- the ranges
layers_of_a_height_map : kind_of Heights D ≡ Some (kinds.Count 1 1024)
layers_of_a_height_map = refl

rows_of_a_height_map : kind_of Heights H ≡ Some (kinds.Count 1 1024)
rows_of_a_height_map = refl

columns_of_counts : kind_of Counts W ≡ Some (kinds.Count 1 4096)
columns_of_counts = refl

cells_of_a_mesh : kind_of Mesh N ≡ Some (kinds.Count 1 256)
cells_of_a_mesh = refl

cells_along_x : kind_of Mesh Nx ≡ Some (kinds.Count 1 512)
cells_along_x = refl

cells_along_y : kind_of Mesh Ny ≡ Some (kinds.Count 1 512)
cells_along_y = refl

cells_along_z : kind_of Mesh Nz ≡ Some (kinds.Count 1 512)
cells_along_z = refl

discs : kind_of Forge Solids ≡ Some (kinds.Count 1 5000)
discs = refl

-- a verb that draws an image has a height and no span along z; the others the other way round
image_of_discs_has_a_height : kind_of Forge Z ≡ Some kinds.Numeral
image_of_discs_has_a_height = refl

image_has_no_span_along_z : kind_of Forge Z1 ≡ None
image_has_no_span_along_z = refl

height_map_has_no_height : kind_of Heights Z ≡ None
height_map_has_no_height = refl

mesh_has_a_span_along_z : kind_of Mesh Z0 ≡ Some kinds.Numeral
mesh_has_a_span_along_z = refl

mesh_has_no_columns : kind_of Mesh W ≡ None
mesh_has_no_columns = refl

image_has_no_cells : kind_of Render N ≡ None
image_has_no_cells = refl

-- ends that are called much alike
lower_end_of_y : name_called (codes "y0") ≡ Some Y0
lower_end_of_y = refl

lower_end_of_z : name_called (codes "z0") ≡ Some Z0
lower_end_of_z = refl

-- a text and a script have no window
text_has_no_window : kind_of Text X0 ≡ None
text_has_no_window = refl

script_has_no_window : kind_of Replay Y1 ≡ None
script_has_no_window = refl

height_map_has_a_span_along_z : kind_of Heights Z1 ≡ Some kinds.Numeral
height_map_has_a_span_along_z = refl

-- every number of 64 bits is a seed
seeds : kind_of Forge Seed ≡ Some (kinds.Count 0 18446744073709551615)
seeds = refl

abbrev a_number : Name → ℕ → Setting
a_number name n = record { name = name; value = Raw (pos n) }

abbrev a_count : Name → ℕ → Setting
a_count name n = record { name = name; value = Count n }

-- each setting by a value of its own, the last name first
abbrev every_setting : List Setting
every_setting =
    a_count Solids 25 ∷ a_count Seed 24 ∷ a_count Nz 23 ∷ a_count Ny 22 ∷ a_count Nx 21 ∷
    a_count N 20 ∷ a_count D 19 ∷ a_count H 18 ∷ a_count W 17 ∷ a_number Z 16 ∷ a_number Z1 15 ∷ a_number Z0 14 ∷ a_number Y1 13 ∷
    a_number Y0 12 ∷ a_number X1 11 ∷ a_number X0 10 ∷ []

each_setting_sets_its_own : forge_of every_setting ≡ record {
  seed = 24;
  solids = 25;
  view = record {
    x0 = pos 10;
    x1 = pos 11;
    y0 = pos 12;
    y1 = pos 13;
    z0 = pos 14;
    z1 = pos 15;
    z = pos 16;
    w = 17;
    h = 18;
    d = 19;
    nx = 21;
    ny = 22;
    nz = 23;
  };
}
each_setting_sets_its_own = refl

-- an axis without a count of its own has that of all axes, wherever this was given
abbrev cells_along : List Setting → ℕ × ℕ × ℕ
cells_along settings =
    let v = window_of settings in (v.nx, v.ny, v.nz)

cells_of_other_axes : cells_along (a_count Ny 3 ∷ a_count N 5 ∷ []) ≡ (5, 3, 5)
cells_of_other_axes = refl

in_the_other_order : cells_along (a_count N 5 ∷ a_count Ny 3 ∷ []) ≡ (5, 3, 5)
in_the_other_order = refl

cells_of_one_axis : cells_along (a_count Nz 7 ∷ []) ≡ (64, 64, 7)
cells_of_one_axis = refl

-- a window whose axes differ
abbrev uneven : Window
uneven = record (window_of []) { x0 = pos 10; x1 = pos 17; y0 = pos 20; y1 = pos 50; z0 = pos 100; z1 = pos 400 }

-- ends that are one place are in order
lone_place_is_not_empty : is_empty (record uneven { x1 = pos 10; y1 = pos 20; z1 = pos 100 }) ≡ false
lone_place_is_not_empty = refl

empty_along_x : is_empty (record uneven { x1 = pos 9 }) ≡ true
empty_along_x = refl

empty_along_y : is_empty (record uneven { y1 = pos 19 }) ≡ true
empty_along_y = refl

empty_along_z : is_empty (record uneven { z1 = pos 99 }) ≡ true
empty_along_z = refl

-- ---- what a job reads

-- A script is replayed, a solid is translated, a mesh is checked, and a model that is made from a seed has no input.
-- The others draw, count or write a model.
inputs : map reads
    (jobs.Render uneven ∷ jobs.Height uneven ∷ jobs.Mesh uneven ∷ jobs.Count uneven ∷ jobs.Text ∷ jobs.Replay
    ∷ jobs.Forge (record { seed = 7; solids = 3; view = uneven }) ∷ jobs.Shade uneven ∷ jobs.Contour uneven
    ∷ jobs.Solid ∷ jobs.Check ∷ [])
    ≡ reading.Model ∷ reading.Model ∷ reading.Model ∷ reading.Model ∷ reading.Model ∷ reading.Script
    ∷ reading.Nothing ∷ reading.Model ∷ reading.Model
    ∷ reading.Solid ∷ reading.Mesh ∷ []
inputs = refl

-- ---- what a job keeps

images_have_windows : (v : Window) → (IsJob (jobs.Render v) → IsWindow v) × (IsJob (jobs.Count v) → IsWindow v)
images_have_windows v = (λ is. is, λ is. is)

height_map_fits : (v : Window) → IsJob (jobs.Height v) → IsWindow v × FitsHeight v
height_map_fits v is = is

shade_fits : (v : Window) → IsJob (jobs.Shade v) → IsWindow v × FitsHeight v
shade_fits v is = is

contour_fits : (v : Window) → IsJob (jobs.Contour v) → IsWindow v × FitsContour v
contour_fits v is = is

mesh_fits : (v : Window) → IsJob (jobs.Mesh v) → IsWindow v × FitsMesh v
mesh_fits v is = is

discs_have_a_window : (f : Forged) → IsJob (jobs.Forge f) → IsWindow f.view
discs_have_a_window f is = is.0

too_many_discs : IsJob (jobs.Forge (record { seed = 7; solids = 5001; view = uneven })) → ⊥
too_many_discs is = omega (arith, is.1.few)

most_discs : (v : Window) → IsWindow v → IsJob (jobs.Forge (record { seed = 7; solids = 5000; view = v }))
most_discs v is = (is, record { some = omega arith; few = omega arith })

-- no name is given twice, and each setting is one of the verb
named_twice : AreSettings (record { verb = Render; settings = a_count W 3 ∷ a_count W 3 ∷ [] }) → ⊥
unfolding IsDistinct
named_twice are = let other : true ≡ false = are.distinct.0.0 in (cc)

named_once : AreSettings (record { verb = Render; settings = a_count W 3 ∷ a_count H 3 ∷ [] })
unfolding IsDistinct
named_once = record {
  each = (of_the_image W refl, (of_the_image H refl, tt));
  distinct = ((refl, tt), (tt, tt));
}
  where
    of_the_image : (name : Name) → kind_of Render name ≡ Some (kinds.Count 1 4096)
        → IsSetting Render (a_count name 3)
    of_the_image name taken = record {
      kind = kinds.Count 1 4096;
      taken = taken;
      value = (omega arith, omega arith);
    }

setting_of_another_verb : IsSetting Render (a_count N 3) → ⊥
setting_of_another_verb is = let taken : None ≡ Some is.kind = is.taken in (cc)
