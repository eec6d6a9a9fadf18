-- The model of a seed: the two axes, then the clauses of each disc, and how it joins those before it.
use Rattle.std.specs.Prelude.{ℕ, ◌+◌, ◌-◌, ◌*◌, ◌==◌, ℤ, pos, List, [], ◌∷◌, ◌++◌, codes, decimal, if◌then◌else◌}
use Rattle.std.specs.List.{flat_map, range_with_len}
use Rattle.fixed_ops.specs.declared.operation.Op.{Op}
use Rattle.fixed_ops.specs.declared.operation.Op.TheVariants.{X, Y, Const, Neg, Square, Add, Sub, Min, Max}
use Rattle.solid_model.specs.Named.{Named}
use Rattle.model_forge.specs.declared.disc.Role.{Role}
use Rattle.model_forge.specs.declared.disc.Role.TheVariants.{Solid, Hole}
use Rattle.model_forge.specs.Discs.{centre_of, radius_of, role_of}
use Rattle.model_forge.specs.Stream.{drawn}

-- a clause by names: an operation on clauses of these names, and a constant
abbrev pub says : List ℕ → Op → List (List ℕ) → Named
says name op args = record { name = name; form = record { op = op; args = args; value = pos 0 } }

abbrev pub constant : List ℕ → ℤ → Named
constant name value = record { name = name; form = record { op = Const; args = []; value = value } }

-- the clauses with which each model begins
abbrev pub axes : List Named
axes = says (codes "x") X [] ∷ says (codes "y") Y [] ∷ []

-- a name: a letter, and the number of a disc in decimal without leading zeros
abbrev pub of_disc : List ℕ → ℕ → List ℕ
of_disc letter i = letter ++ decimal i

-- the clauses of the disc of a number alone: the square of the distance from its centre, less that
-- of its radius
abbrev pub circle : ℕ → ℤ → ℤ → ℤ → List Named
circle i x y radius =
    constant (of_disc (codes "a") i) x
    ∷ says (of_disc (codes "b") i) Sub (codes "x" ∷ of_disc (codes "a") i ∷ [])
    ∷ says (of_disc (codes "c") i) Square (of_disc (codes "b") i ∷ [])
    ∷ constant (of_disc (codes "d") i) y
    ∷ says (of_disc (codes "e") i) Sub (codes "y" ∷ of_disc (codes "d") i ∷ [])
    ∷ says (of_disc (codes "f") i) Square (of_disc (codes "e") i ∷ [])
    ∷ says (of_disc (codes "g") i) Add (of_disc (codes "c") i ∷ of_disc (codes "f") i ∷ [])
    ∷ constant (of_disc (codes "h") i) radius
    ∷ says (of_disc (codes "k") i) Square (of_disc (codes "h") i ∷ [])
    ∷ says (of_disc (codes "m") i) Sub (of_disc (codes "g") i ∷ of_disc (codes "k") i ∷ [])
    ∷ []

-- the name of the solid of the discs before one: the first disc, or what the disc before made
abbrev pub solid_before : ℕ → List ℕ
solid_before i = if i == 1 then of_disc (codes "m") 0 else of_disc (codes "u") (i - 1)

-- how a disc joins the solid of those before it: their union, or that solid without the disc
abbrev pub joining : ℕ → Role → List Named
joining i Solid = says (of_disc (codes "u") i) Min (solid_before i ∷ of_disc (codes "m") i ∷ []) ∷ []
joining i Hole =
    says (of_disc (codes "n") i) Neg (of_disc (codes "m") i ∷ [])
    ∷ says (of_disc (codes "u") i) Max (solid_before i ∷ of_disc (codes "n") i ∷ [])
    ∷ []

-- the clauses of the disc of a number, which takes four draws in turn; nothing is before the first disc
abbrev pub disc_clauses : ℕ → ℕ → List Named
disc_clauses seed i =
    circle i (centre_of (drawn seed (4 * i))) (centre_of (drawn seed (4 * i + 1)))
    (radius_of (drawn seed (4 * i + 2)))
    ++ (if i == 0 then [] else joining i (role_of (drawn seed (4 * i + 3))))

-- the whole model
abbrev pub forged : ℕ → ℕ → List Named
forged seed solids = axes ++ flat_map (disc_clauses seed) (range_with_len 0 solids)
