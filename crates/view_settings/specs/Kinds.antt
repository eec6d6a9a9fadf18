-- The lists of settings that verbs take, and which values each setting may have.
use Rattle.std.specs.Prelude.{◌≡◌, ℕ, ◌-◌, ◌^◌, Option, Some, None}
use Rattle.view_settings.specs.declared.kind.Kind.{Kind}
use Rattle.view_settings.specs.declared.kind.Kind.TheVariants as kinds
use Rattle.view_settings.specs.declared.name.Name.{Name}
use Rattle.view_settings.specs.declared.name.Name.TheVariants.{X0, X1, Y0, Y1, Z0, Z1, Z, W, H, D, N, Nx, Ny, Nz, Seed, Solids}

-- a count from 1 to the greatest one
abbrev pub count_to : ℕ → Option Kind
count_to greatest = Some (kinds.Count 1 greatest)

-- the ends of a window
abbrev pub window_kind : Name → Option Kind
window_kind X0 = Some kinds.Numeral
window_kind X1 = Some kinds.Numeral
window_kind Y0 = Some kinds.Numeral
window_kind Y1 = Some kinds.Numeral
window_kind Z0 = None
window_kind Z1 = None
window_kind Z = None
window_kind W = None
window_kind H = None
window_kind D = None
window_kind N = None
window_kind Nx = None
window_kind Ny = None
window_kind Nz = None
window_kind Seed = None
window_kind Solids = None

-- a window, a height, columns and rows
abbrev pub image_kind : Name → Option Kind
image_kind Z = Some kinds.Numeral
image_kind W = count_to 4096
image_kind H = count_to 4096
image_kind name = window_kind name

-- a window and a span along z
abbrev pub solid_kind : Name → Option Kind
solid_kind Z0 = Some kinds.Numeral
solid_kind Z1 = Some kinds.Numeral
solid_kind name = window_kind name

-- and columns, rows and layers
abbrev pub height_kind : Name → Option Kind
height_kind W = count_to 1024
height_kind H = count_to 1024
height_kind D = count_to 1024
height_kind name = solid_kind name

-- columns and rows are those of a height map
abbrev pub HasHeightSides : (Name → Option Kind) → Type 0
HasHeightSides kind = (kind W ≡ count_to 1024) × (kind H ≡ count_to 1024)

-- or cells, along all axes alike and along each
abbrev pub mesh_kind : Name → Option Kind
mesh_kind N = count_to 256
mesh_kind Nx = count_to 512
mesh_kind Ny = count_to 512
mesh_kind Nz = count_to 512
mesh_kind name = solid_kind name

-- a window, a height, and cells along x and y alike
abbrev pub contour_kind : Name → Option Kind
contour_kind Z = Some kinds.Numeral
contour_kind N = count_to 256
contour_kind name = window_kind name

-- one count says how many cells there are along x and along y
abbrev pub HasOneCount : (Name → Option Kind) → Type 0
HasOneCount kind = (kind N ≡ count_to 256) × (kind Nx ≡ None) × (kind Ny ≡ None)

-- an image, and where the generator starts and how many discs it makes
abbrev pub forge_kind : Name → Option Kind
forge_kind Seed = Some (kinds.Count 0 (2 ^ 64 - 1))
forge_kind Solids = count_to 5000
forge_kind name = image_kind name

-- the greatest count of at least 1 that a setting may have, whatever the verb
abbrev pub greatest_of : Name → ℕ
greatest_of X0 = 0
greatest_of X1 = 0
greatest_of Y0 = 0
greatest_of Y1 = 0
greatest_of Z0 = 0
greatest_of Z1 = 0
greatest_of Z = 0
greatest_of W = 4096
greatest_of H = 4096
greatest_of D = 1024
greatest_of N = 256
greatest_of Nx = 512
greatest_of Ny = 512
greatest_of Nz = 512
greatest_of Seed = 0
greatest_of Solids = 5000
