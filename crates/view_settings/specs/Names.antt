-- The names of settings.
use Rattle.std.specs.Prelude.{ℕ, List, [], ◌∷◌, ◌==◌, Bool, Option, codes, find}
use Rattle.std.specs.Str.{bytes_eq}
use Rattle.view_settings.specs.declared.name.Name.{Name}
use Rattle.view_settings.specs.declared.name.Name.TheVariants.{X0, X1, Y0, Y1, Z0, Z1, Z, W, H, D, N, Nx, Ny, Nz, Seed, Solids}

-- the bytes of a name
abbrev pub name_text : Name → List ℕ
name_text X0 = codes "x0"
name_text X1 = codes "x1"
name_text Y0 = codes "y0"
name_text Y1 = codes "y1"
name_text Z0 = codes "z0"
name_text Z1 = codes "z1"
name_text Z = codes "z"
name_text W = codes "w"
name_text H = codes "h"
name_text D = codes "d"
name_text N = codes "n"
name_text Nx = codes "nx"
name_text Ny = codes "ny"
name_text Nz = codes "nz"
name_text Seed = codes "seed"
name_text Solids = codes "solids"

abbrev pub names : List Name
names =
    X0 ∷ X1 ∷ Y0 ∷ Y1 ∷ Z0 ∷ Z1 ∷ Z ∷ W ∷ H ∷ D ∷ N ∷ Nx ∷ Ny ∷ Nz ∷ Seed ∷ Solids ∷ []

-- the name that is written so
abbrev pub name_called : List ℕ → Option Name
name_called text = find (λ name. bytes_eq text (name_text name)) names

-- where a name stands among the names
abbrev pub number_of : Name → ℕ
number_of X0 = 0
number_of X1 = 1
number_of Y0 = 2
number_of Y1 = 3
number_of Z0 = 4
number_of Z1 = 5
number_of Z = 6
number_of W = 7
number_of H = 8
number_of D = 9
number_of N = 10
number_of Nx = 11
number_of Ny = 12
number_of Nz = 13
number_of Seed = 14
number_of Solids = 15

-- two names are one
abbrev pub is_same : Name → Name → Bool
is_same a b = number_of a == number_of b
