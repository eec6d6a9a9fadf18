-- What words ask for and why they are refused, worked out by hand.
use Rattle.std.proofs.Common.{◌≡◌, pos, negsuc, List, [], ◌∷◌, None, Some, Ok, Err, refl, arith}
use Rattle.std.specs.Prelude.{codes, filter, is_some, map}
use Rattle.std.specs.List.{range_with_len}
use Rattle.fixed_ops.specs.Numerals.{cut_magnitude, is_unsigned_numeral, nearest_raw, unsigned_raw}
use Rattle.view_settings.specs.declared.job.Job.TheVariants as jobs
use Rattle.view_settings.specs.declared.kind.Kind.TheVariants as kinds
use Rattle.view_settings.specs.declared.name.Name.{Name}
use Rattle.view_settings.specs.declared.name.Name.TheVariants.{X0, X1, Y0, Y1, Z0, Z1, Z, W, H, D, N, Nx, Ny, Nz, Seed, Solids}
use Rattle.view_settings.specs.declared.setting.Value.TheVariants.{Count, Raw}
use Rattle.view_settings.specs.declared.verb.Verb.{Verb}
use Rattle.view_settings.specs.declared.verb.Verb.TheVariants as verbs
use Rattle.view_settings.specs.declared.word_fault.WordReason.TheVariants.{NoVerb, UnknownVerb, NotASetting, UnknownSetting, Twice, BadValue, OutOfRange, EmptySpan, CellTooSmall, TooManyCells}
use Rattle.view_settings.specs.Kinds.{greatest_of}
use Rattle.view_settings.specs.Verbs.{kind_of}
use Rattle.view_settings.specs.Names.{name_called, names, number_of}
use Rattle.view_settings.specs.Setting.{IsValue, setting_of, value_read}
use Rattle.view_settings.specs.Verbs.{verb_named}
use Rattle.view_places.specs.Window.{Window, has_room}
use Rattle.view_settings.specs.Words.{job_of}

each_name_is_read : map name_called (codes "x0" ∷ codes "x1" ∷ codes "y0" ∷ codes "y1"
    ∷ codes "z0" ∷ codes "z1" ∷ codes "z" ∷ codes "w" ∷ codes "h" ∷ codes "d" ∷ codes "n"
    ∷ codes "nx" ∷ codes "ny" ∷ codes "nz" ∷ codes "seed" ∷ codes "solids" ∷ codes "x" ∷ [])
    ≡ Some X0 ∷ Some X1 ∷ Some Y0 ∷ Some Y1 ∷ Some Z0 ∷ Some Z1 ∷ Some Z ∷ Some W ∷ Some H
    ∷ Some D ∷ Some N ∷ Some Nx ∷ Some Ny ∷ Some Nz ∷ Some Seed ∷ Some Solids ∷ None ∷ []
each_name_is_read = refl

each_verb_is_read : map verb_named (codes "render" ∷ codes "height" ∷ codes "mesh" ∷ codes "count"
    ∷ codes "text" ∷ codes "replay" ∷ codes "forge" ∷ codes "shade" ∷ codes "contour"
    ∷ codes "solid" ∷ codes "check" ∷ codes "forges" ∷ [])
    ≡ Some verbs.Render ∷ Some verbs.Height ∷ Some verbs.Mesh ∷ Some verbs.Count ∷ Some verbs.Text
    ∷ Some verbs.Replay ∷ Some verbs.Forge ∷ Some verbs.Shade ∷ Some verbs.Contour ∷ Some verbs.Solid
    ∷ Some verbs.Check ∷ None ∷ []
each_verb_is_read = refl

-- no two names have one number
names_are_numbered : map number_of names ≡ range_with_len 0 16
names_are_numbered = refl

-- the settings that a verb has
abbrev settings_of : Verb → List Name
settings_of verb = filter (λ name. is_some (kind_of verb name)) names

images_are_flat : settings_of verbs.Render ≡ X0 ∷ X1 ∷ Y0 ∷ Y1 ∷ Z ∷ W ∷ H ∷ []
images_are_flat = refl

height_maps_are_deep : settings_of verbs.Height ≡ X0 ∷ X1 ∷ Y0 ∷ Y1 ∷ Z0 ∷ Z1 ∷ W ∷ H ∷ D ∷ []
height_maps_are_deep = refl

meshes_have_cells :
    settings_of verbs.Mesh ≡ X0 ∷ X1 ∷ Y0 ∷ Y1 ∷ Z0 ∷ Z1 ∷ N ∷ Nx ∷ Ny ∷ Nz ∷ []
meshes_have_cells = refl

counts_are_of_images : settings_of verbs.Count ≡ X0 ∷ X1 ∷ Y0 ∷ Y1 ∷ Z ∷ W ∷ H ∷ []
counts_are_of_images = refl

texts_have_none : settings_of verbs.Text ≡ []
texts_have_none = refl

scripts_have_none : settings_of verbs.Replay ≡ []
scripts_have_none = refl

models_are_made_of_a_seed : settings_of verbs.Forge ≡ X0 ∷ X1 ∷ Y0 ∷ Y1 ∷ Z ∷ W ∷ H ∷ Seed ∷ Solids ∷ []
models_are_made_of_a_seed = refl

shades_take_what_height_maps_take : settings_of verbs.Shade ≡ settings_of verbs.Height
shades_take_what_height_maps_take = refl

contours_are_flat : settings_of verbs.Contour ≡ X0 ∷ X1 ∷ Y0 ∷ Y1 ∷ Z ∷ N ∷ []
contours_are_flat = refl

forms_have_none : settings_of verbs.Solid ≡ []
forms_have_none = refl

checks_have_none : settings_of verbs.Check ≡ []
checks_have_none = refl

greatest_counts : map greatest_of (W ∷ H ∷ D ∷ N ∷ Nx ∷ Ny ∷ Nz ∷ Solids ∷ [])
    ≡ 4096 ∷ 4096 ∷ 1024 ∷ 256 ∷ 512 ∷ 512 ∷ 512 ∷ 5000 ∷ []
greatest_counts = refl

no_count : value_read (kinds.Count 1 1024) (codes "0") ≡ Err OutOfRange
no_count = refl

twenty_digits : value_read (kinds.Count 1 1024) (codes "00000000000000001024") ≡ Ok (Count 1024)
twenty_digits = refl

more_digits : value_read (kinds.Count 1 1024) (codes "000000000000000000001") ≡ Err BadValue
more_digits = refl

no_digit : value_read (kinds.Count 1 1024) [] ≡ Err BadValue
no_digit = refl

half : value_read kinds.Numeral (codes "-.5") ≡ Ok (Raw (negsuc 2147483647))
unfolding cut_magnitude is_unsigned_numeral nearest_raw unsigned_raw
half = refl

count_of_one : IsValue (kinds.Count 1 1024) (Count 1)
count_of_one = (omega arith, omega arith)

-- from -1 to 1 along each axis, at height 0
abbrev untold : Window
untold = record {
  x0 = negsuc 4294967295;
  x1 = pos 4294967296;
  y0 = negsuc 4294967295;
  y1 = pos 4294967296;
  z0 = negsuc 4294967295;
  z1 = pos 4294967296;
  z = pos 0;
  w = 512;
  h = 512;
  d = 255;
  nx = 64;
  ny = 64;
  nz = 64;
}

image_alone : job_of (codes "render" ∷ []) ≡ Ok (jobs.Render untold)
image_alone = refl

height_map_alone : job_of (codes "height" ∷ []) ≡ Ok (jobs.Height untold)
height_map_alone = refl

shade_alone : job_of (codes "shade" ∷ []) ≡ Ok (jobs.Shade untold)
shade_alone = refl

contour_alone : job_of (codes "contour" ∷ []) ≡ Ok (jobs.Contour untold)
unfolding has_room
contour_alone = refl

no_room_in_the_plane : job_of (codes "contour" ∷ codes "y0=1" ∷ []) ≡ Err (record { at = 0; reason = CellTooSmall })
unfolding setting_of has_room cut_magnitude is_unsigned_numeral nearest_raw unsigned_raw
no_room_in_the_plane = refl

forms_alone : job_of (codes "solid" ∷ []) ≡ Ok jobs.Solid
forms_alone = refl

check_alone : job_of (codes "check" ∷ []) ≡ Ok jobs.Check
check_alone = refl

mesh_alone : job_of (codes "mesh" ∷ []) ≡ Ok (jobs.Mesh untold)
unfolding has_room
mesh_alone = refl

count_alone : job_of (codes "count" ∷ []) ≡ Ok (jobs.Count untold)
count_alone = refl

text_alone : job_of (codes "text" ∷ []) ≡ Ok jobs.Text
text_alone = refl

script_alone : job_of (codes "replay" ∷ []) ≡ Ok jobs.Replay
script_alone = refl

model_alone : job_of (codes "forge" ∷ []) ≡ Ok (jobs.Forge (record {
  seed = 0;
  solids = 16;
  view = untold;
}))
model_alone = refl

some_settings : job_of (codes "render" ∷ codes "y1=3" ∷ codes "h=7" ∷ codes "z=2" ∷ [])
    ≡ Ok (jobs.Render (record untold {
      y1 = pos 12884901888;
      h = 7;
      z = pos 8589934592;
    }))
unfolding setting_of cut_magnitude is_unsigned_numeral nearest_raw unsigned_raw
some_settings = refl

no_word : job_of [] ≡ Err (record { at = 0; reason = NoVerb })
no_word = refl

no_verb : job_of (codes "draw" ∷ codes "w" ∷ []) ≡ Err (record { at = 1; reason = UnknownVerb })
no_verb = refl

no_equals : job_of (codes "render" ∷ codes "w" ∷ []) ≡ Err (record { at = 2; reason = NotASetting })
unfolding setting_of
no_equals = refl

setting_of_another_verb : job_of (codes "render" ∷ codes "w=3" ∷ codes "n=3" ∷ [])
    ≡ Err (record { at = 3; reason = UnknownSetting })
unfolding setting_of
setting_of_another_verb = refl

-- a name that was given goes before its value
given_before : job_of (codes "render" ∷ codes "w=3" ∷ codes "h=3" ∷ codes "w=x" ∷ [])
    ≡ Err (record { at = 4; reason = Twice })
unfolding setting_of
given_before = refl

-- the value begins after the first sign
second_equals : job_of (codes "render" ∷ codes "x0==1" ∷ [])
    ≡ Err (record { at = 2; reason = BadValue })
unfolding setting_of cut_magnitude is_unsigned_numeral nearest_raw unsigned_raw
second_equals = refl

count_with_a_sign : job_of (codes "render" ∷ codes "w=+3" ∷ [])
    ≡ Err (record { at = 2; reason = BadValue })
unfolding setting_of
count_with_a_sign = refl

count_too_great : job_of (codes "height" ∷ codes "w=1025" ∷ codes "w" ∷ [])
    ≡ Err (record { at = 2; reason = OutOfRange })
unfolding setting_of
count_too_great = refl

-- what all words make together has the number 0
ends_exchanged : job_of (codes "mesh" ∷ codes "y0=2" ∷ []) ≡ Err (record { at = 0; reason = EmptySpan })
unfolding setting_of cut_magnitude is_unsigned_numeral nearest_raw unsigned_raw
ends_exchanged = refl

no_room : job_of (codes "mesh" ∷ codes "y0=1" ∷ []) ≡ Err (record { at = 0; reason = CellTooSmall })
unfolding setting_of has_room cut_magnitude is_unsigned_numeral nearest_raw unsigned_raw
no_room = refl

too_many : job_of (codes "mesh" ∷ codes "nx=512" ∷ codes "ny=512" ∷ codes "nz=65" ∷ [])
    ≡ Err (record { at = 0; reason = TooManyCells })
unfolding setting_of has_room
too_many = refl

-- all three reasons hold, then the last two
ends_are_asked_first :
    job_of (codes "mesh" ∷ codes "nx=512" ∷ codes "ny=512" ∷ codes "nz=65" ∷ codes "x0=2" ∷ [])
    ≡ Err (record { at = 0; reason = EmptySpan })
unfolding setting_of has_room cut_magnitude is_unsigned_numeral nearest_raw unsigned_raw
ends_are_asked_first = refl

room_is_asked_next :
    job_of (codes "mesh" ∷ codes "nx=512" ∷ codes "ny=512" ∷ codes "nz=65" ∷ codes "x0=1" ∷ [])
    ≡ Err (record { at = 0; reason = CellTooSmall })
unfolding setting_of has_room cut_magnitude is_unsigned_numeral nearest_raw unsigned_raw
room_is_asked_next = refl

-- a count that all axes share is asked for its own range, though no axis uses it
unused_count :
    job_of (codes "mesh" ∷ codes "nx=4" ∷ codes "ny=4" ∷ codes "nz=4" ∷ codes "n=257" ∷ [])
    ≡ Err (record { at = 5; reason = OutOfRange })
unfolding setting_of
unused_count = refl

flat_mesh : job_of (codes "mesh" ∷ codes "nz=2" ∷ codes "n=9" ∷ [])
    ≡ Ok (jobs.Mesh (record untold { nx = 9; ny = 9; nz = 2 }))
unfolding setting_of has_room
flat_mesh = refl

line_of_samples : job_of (codes "render" ∷ codes "y0=1" ∷ [])
    ≡ Ok (jobs.Render (record untold { y0 = pos 4294967296 }))
unfolding setting_of cut_magnitude is_unsigned_numeral nearest_raw unsigned_raw
line_of_samples = refl
