-- The clauses of a solid beside their names.
use Rattle.std.specs.Prelude.{ℕ, ◌+◌, ◌-◌, ℤ, pos, List, [], ◌∷◌, ◌++◌}
use Rattle.fixed_ops.specs.declared.operation.Op.{Op}
use Rattle.fixed_ops.specs.declared.operation.Op.TheVariants.{Const, Neg, Square, Abs, Add, Sub, Div, Min, Max}
use Rattle.solid_lang.specs.declared.axes.Axes.{Axes}
use Rattle.solid_lang.specs.Solids.{SolidTree, Ball, Block, Cylinder, Move, Scale, Union, Intersect, Difference}
use Rattle.solid_lang.specs.declared.step.Step.{Step}
use Rattle.solid_lang.specs.Counts.{form_clauses}

-- a constant, and an operation on one clause or on two, by their places
abbrev pub constant : ℤ → Step
constant value = record { op = Const; a = 0; b = 0; value = value }

abbrev pub on_one : Op → ℕ → Step
on_one op a = record { op = op; a = a; b = 0; value = pos 0 }

abbrev pub on_two : Op → ℕ → ℕ → Step
on_two op a b = record { op = op; a = a; b = b; value = pos 0 }

-- The steps of a form that stand from a place on, over the coordinates at these places: the operations
-- of its formula in the order in which they are finished when it is read from left to right, and each
-- constant directly before its first use. Of a ball the formula is
-- sub(add(add(square x, square y), square z), square r)
abbrev pub ball_steps : ℕ → Axes → ℤ → List Step
ball_steps n at r =
    on_one Square at.x
    ∷ on_one Square at.y
    ∷ on_two Add n (n + 1)
    ∷ on_one Square at.z
    ∷ on_two Add (n + 2) (n + 3)
    ∷ constant r
    ∷ on_one Square (n + 5)
    ∷ on_two Sub (n + 4) (n + 6) ∷ []

-- max(max(sub(abs x, a), sub(abs y, b)), sub(abs z, c))
abbrev pub box_steps : ℕ → Axes → ℤ → ℤ → ℤ → List Step
box_steps n at a b c =
    on_one Abs at.x
    ∷ constant a
    ∷ on_two Sub n (n + 1)
    ∷ on_one Abs at.y
    ∷ constant b
    ∷ on_two Sub (n + 3) (n + 4)
    ∷ on_two Max (n + 2) (n + 5)
    ∷ on_one Abs at.z
    ∷ constant c
    ∷ on_two Sub (n + 7) (n + 8)
    ∷ on_two Max (n + 6) (n + 9) ∷ []

-- max(sub(add(square x, square y), square r), sub(abs z, h))
abbrev pub cylinder_steps : ℕ → Axes → ℤ → ℤ → List Step
cylinder_steps n at r h =
    on_one Square at.x
    ∷ on_one Square at.y
    ∷ on_two Add n (n + 1)
    ∷ constant r
    ∷ on_one Square (n + 3)
    ∷ on_two Sub (n + 2) (n + 4)
    ∷ on_one Abs at.z
    ∷ constant h
    ∷ on_two Sub (n + 6) (n + 7)
    ∷ on_two Max (n + 5) (n + 8) ∷ []

-- how a point is taken back, and where its coordinates then stand
abbrev pub move_steps : ℕ → Axes → ℤ → ℤ → ℤ → List Step
move_steps n at x y z =
    constant x
    ∷ on_two Sub at.x n
    ∷ constant y
    ∷ on_two Sub at.y (n + 2)
    ∷ constant z
    ∷ on_two Sub at.z (n + 4) ∷ []

abbrev pub moved_axes : ℕ → Axes
moved_axes n = record { x = n + 1; y = n + 3; z = n + 5 }

abbrev pub scale_steps : ℕ → Axes → ℤ → List Step
scale_steps n at k =
    constant k
    ∷ on_two Div at.x n
    ∷ on_two Div at.y n
    ∷ on_two Div at.z n ∷ []

abbrev pub scaled_axes : ℕ → Axes
scaled_axes n = record { x = n + 1; y = n + 2; z = n + 3 }

-- how two values are joined, from their places, where n is the next one
abbrev pub union_steps : ℕ → ℕ → List Step
union_steps first second = on_two Min first second ∷ []

abbrev pub intersect_steps : ℕ → ℕ → List Step
intersect_steps first second = on_two Max first second ∷ []

abbrev pub difference_steps : ℕ → ℕ → ℕ → List Step
difference_steps n first second = on_one Neg second ∷ on_two Max first n ∷ []

-- the place behind a solid whose steps stand from a place on, and that of its value
abbrev pub after : ℕ → SolidTree → ℕ
after n s = n + form_clauses s

abbrev pub last_of : ℕ → SolidTree → ℕ
last_of n s = after n s - 1

-- the steps of a solid from a place on, over the coordinates at these places
abbrev pub solid_steps : SolidTree → ℕ → Axes → List Step
solid_steps (Ball r) n at = ball_steps n at r
solid_steps (Block a b c) n at = box_steps n at a b c
solid_steps (Cylinder r h) n at = cylinder_steps n at r h
solid_steps (Move x y z s) n at = move_steps n at x y z ++ solid_steps s (n + 6) (moved_axes n)
solid_steps (Scale k s) n at = scale_steps n at k ++ solid_steps s (n + 4) (scaled_axes n)
solid_steps (Union a b) n at =
    solid_steps a n at ++ (solid_steps b (after n a) at
    ++ union_steps (last_of n a) (last_of (after n a) b))
solid_steps (Intersect a b) n at =
    solid_steps a n at ++ (solid_steps b (after n a) at
    ++ intersect_steps (last_of n a) (last_of (after n a) b))
solid_steps (Difference a b) n at =
    solid_steps a n at ++ (solid_steps b (after n a) at
    ++ difference_steps (after (after n a) b) (last_of n a) (last_of (after n a) b))
