-- How many clauses a token adds to a solid.
use Rattle.std.specs.Prelude.{ℕ, List, ◌∷◌, Option, Some, None}
use Rattle.solid_lang.specs.declared.form.Form.{Form}
use Rattle.solid_lang.specs.declared.form.Form.TheVariants.{Ball, Block, Cylinder, Move, Scale, Union, Intersect, Difference}
use Rattle.solid_lang.specs.declared.want.Want.{Want}
use Rattle.solid_lang.specs.declared.want.Want.TheVariants.{Whole}
use Rattle.solid_lang.specs.Forms.{form_named}

-- the clauses of a form beside those of its solids
abbrev pub own_clauses : Form → ℕ
own_clauses Ball = 8
own_clauses Block = 11
own_clauses Cylinder = 10
own_clauses Move = 6
own_clauses Scale = 4
own_clauses Union = 1
own_clauses Intersect = 1
own_clauses Difference = 2

abbrev pub clauses_of : Option Form → ℕ
clauses_of None = 0
clauses_of (Some form) = own_clauses form

-- the clauses that a token adds where these are wanted: those of its form, if it begins a solid
abbrev pub added : List Want → List ℕ → ℕ
added (Whole within ∷ wants) token = clauses_of (form_named token)
added wants token = 0
