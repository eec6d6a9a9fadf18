-- How many clauses a solid is written with, and how deep its forms stand in each other.
use Rattle.std.specs.Prelude.{ℕ, ◌+◌, max}
use Rattle.solid_lang.specs.Solids.{SolidTree, Ball, Block, Cylinder, Move, Scale, Union, Intersect, Difference}

-- The clauses of a solid beside those of the three coordinates: one for each operation and for each
-- constant of its formula.
abbrev pub form_clauses : SolidTree → ℕ
form_clauses (Ball r) = 8
form_clauses (Block a b c) = 11
form_clauses (Cylinder r h) = 10
form_clauses (Move x y z s) = 6 + form_clauses s
form_clauses (Scale k s) = 4 + form_clauses s
form_clauses (Union a b) = form_clauses a + form_clauses b + 1
form_clauses (Intersect a b) = form_clauses a + form_clauses b + 1
form_clauses (Difference a b) = form_clauses a + form_clauses b + 2

-- all clauses of a solid
abbrev pub clause_count : SolidTree → ℕ
clause_count solid = 3 + form_clauses solid

-- how many forms stand within each other, the innermost counted too
abbrev pub depth : SolidTree → ℕ
depth (Ball r) = 1
depth (Block a b c) = 1
depth (Cylinder r h) = 1
depth (Move x y z s) = depth s + 1
depth (Scale k s) = depth s + 1
depth (Union a b) = max (depth a) (depth b) + 1
depth (Intersect a b) = max (depth a) (depth b) + 1
depth (Difference a b) = max (depth a) (depth b) + 1
