-- How the words are written with which commands begin.
use Rattle.std.specs.Prelude.{ℕ, List, [], ◌∷◌, Option, codes, find}
use Rattle.std.specs.Str.{bytes_eq}
use Rattle.edit_script.specs.declared.keyword.Keyword.{Keyword}
use Rattle.edit_script.specs.declared.keyword.Keyword.TheVariants.{Set, Add, Put, Cut, Undo, Render, Height, Mesh, Text, Cost}

-- the bytes of a keyword
abbrev pub keyword_text : Keyword → List ℕ
keyword_text Set = codes "set"
keyword_text Add = codes "add"
keyword_text Put = codes "put"
keyword_text Cut = codes "cut"
keyword_text Undo = codes "undo"
keyword_text Render = codes "render"
keyword_text Height = codes "height"
keyword_text Mesh = codes "mesh"
keyword_text Text = codes "text"
keyword_text Cost = codes "cost"

abbrev pub keywords : List Keyword
keywords = Set ∷ Add ∷ Put ∷ Cut ∷ Undo ∷ Render ∷ Height ∷ Mesh ∷ Text ∷ Cost ∷ []

-- the keyword that is written so
abbrev pub keyword_named : List ℕ → Option Keyword
keyword_named word = find (λ keyword. bytes_eq word (keyword_text keyword)) keywords
