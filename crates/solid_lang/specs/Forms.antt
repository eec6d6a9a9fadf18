-- How forms are written.
use Rattle.std.specs.Prelude.{ℕ, List, [], ◌∷◌, Option, codes, find}
use Rattle.std.specs.Str.{bytes_eq}
use Rattle.solid_lang.specs.declared.form.Form.{Form}
use Rattle.solid_lang.specs.declared.form.Form.TheVariants.{Ball, Block, Cylinder, Move, Scale, Union, Intersect, Difference}

-- the word of a form
abbrev pub form_text : Form → List ℕ
form_text Ball = codes "ball"
form_text Block = codes "box"
form_text Cylinder = codes "cylinder"
form_text Move = codes "move"
form_text Scale = codes "scale"
form_text Union = codes "union"
form_text Intersect = codes "intersect"
form_text Difference = codes "difference"

-- all forms
abbrev pub forms : List Form
forms = Ball ∷ Block ∷ Cylinder ∷ Move ∷ Scale ∷ Union ∷ Intersect ∷ Difference ∷ []

-- the form that a word names
abbrev pub form_named : List ℕ → Option Form
form_named word = find (λ form. bytes_eq word (form_text form)) forms
