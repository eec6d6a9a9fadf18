-- What the settings that were given say: a window, and a model that is made.
use Rattle.std.specs.Prelude.{ℕ, ◌^◌, ℤ, pos, int_lt, Bool, ◌||◌, List, find, Option, Some}
use Rattle.std.specs.Option.{option_map}
use lib.IntN.{neg_ℤ}
use Rattle.view_settings.specs.declared.forge.Forge.{Forge}
use Rattle.view_settings.specs.declared.name.Name.{Name}
use Rattle.view_settings.specs.declared.name.Name.TheVariants.{X0, X1, Y0, Y1, Z0, Z1, Z, W, H, D, N, Nx, Ny, Nz, Seed, Solids}
use Rattle.view_settings.specs.declared.setting.Setting.{Setting}
use Rattle.view_settings.specs.declared.setting.Value.{Value}
use Rattle.view_settings.specs.declared.setting.Value.TheVariants as values
use Rattle.view_settings.specs.Names.{is_same}
use Rattle.view_places.specs.Window.{Window}

-- the value that was given under a name
abbrev pub value_given : Name → List Setting → Option Value
value_given name settings =
    option_map (λ setting. setting.value) (find (λ setting. is_same name setting.name) settings)

-- the raw number that was given, or this one
abbrev pub raw_or : Option Value → ℤ → ℤ
raw_or (Some (values.Raw v)) default = v
raw_or given default = default

-- the count that was given, or this one
abbrev pub count_or : Option Value → ℕ → ℕ
count_or (Some (values.Count n)) default = n
count_or given default = default

-- the raw numbers of 1 and -1
abbrev pub one : ℤ
one = pos (2 ^ 32)

abbrev pub minus_one : ℤ
minus_one = neg_ℤ one

-- the cells of a mesh along an axis for which no count of its own was given
abbrev pub cells_of : List Setting → ℕ
cells_of settings = count_or (value_given N settings) 64

-- the window that the settings make, with the defaults where they are silent
abbrev pub window_of : List Setting → Window
window_of settings = record {
  x0 = raw_or (value_given X0 settings) minus_one;
  x1 = raw_or (value_given X1 settings) one;
  y0 = raw_or (value_given Y0 settings) minus_one;
  y1 = raw_or (value_given Y1 settings) one;
  z0 = raw_or (value_given Z0 settings) minus_one;
  z1 = raw_or (value_given Z1 settings) one;
  z = raw_or (value_given Z settings) (pos 0);
  w = count_or (value_given W settings) 512;
  h = count_or (value_given H settings) 512;
  d = count_or (value_given D settings) 255;
  nx = count_or (value_given Nx settings) (cells_of settings);
  ny = count_or (value_given Ny settings) (cells_of settings);
  nz = count_or (value_given Nz settings) (cells_of settings);
}

-- the model that the settings have made
abbrev pub forge_of : List Setting → Forge
forge_of settings = record {
  seed = count_or (value_given Seed settings) 0;
  solids = count_or (value_given Solids settings) 16;
  view = window_of settings;
}

-- the ends of some axis are not in order
abbrev pub is_empty : Window → Bool
is_empty v = int_lt v.x1 v.x0 || (int_lt v.y1 v.y0 || int_lt v.z1 v.z0)
