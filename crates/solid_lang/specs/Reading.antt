-- What a text says as a solid, as a relation between its tokens and a tree, with no reader in it.
use Rattle.std.specs.Prelude.{◌≡◌, ℕ, ◌≤◌, ℤ, List, [], ◌∷◌, ◌++◌, map, Some}
use Rattle.fixed_ops.specs.Numerals.{numeral}
use Rattle.solid_lang.specs.declared.form.Form.{Form}
use Rattle.solid_lang.specs.declared.form.Form.TheVariants as form
use Rattle.solid_lang.specs.Counts.{depth}
use Rattle.solid_lang.specs.Forms.{form_text}
use Rattle.solid_lang.specs.NumberedTokens.{numbered_tokens}
use Rattle.solid_lang.specs.Sizes.{HasPositiveSizes}
use Rattle.solid_lang.specs.Solids.{SolidTree, Ball, Block, Cylinder, Move, Scale, Union, Intersect, Difference}

-- tokens are the word of a form, then numerals of these numbers, then the rest
pub record Begins (form : Form) (numbers : List ℤ) (tokens rest : List (ℕ × List ℕ)) : Type 0 where
  pub line : ℕ
  pub numerals : List (ℕ × List ℕ)
  pub parts : tokens ≡ (line, form_text form) ∷ (numerals ++ rest)
  pub spelled : map (λ token. numeral token.1) numerals ≡ map (λ number. Some number) numbers

-- tokens are the word of a form, then a first solid and a second
pub record Joins (form : Form) (First Second : List (ℕ × List ℕ) → Type 0)
    (tokens : List (ℕ × List ℕ)) : Type 0 where
  pub line : ℕ
  pub first : List (ℕ × List ℕ)
  pub second : List (ℕ × List ℕ)
  pub parts : tokens ≡ (line, form_text form) ∷ (first ++ second)
  pub first_is : First first
  pub second_is : Second second

-- tokens are the word of a form, then numerals of these numbers, then a solid
pub record Changes (form : Form) (numbers : List ℤ) (Inner : List (ℕ × List ℕ) → Type 0)
    (tokens : List (ℕ × List ℕ)) : Type 0 where
  pub rest : List (ℕ × List ℕ)
  pub begins : Begins form numbers tokens rest
  pub inner : Inner rest

-- tokens say this solid: the word of its form, its numbers, and its solids, one after the other
abbrev pub Says : SolidTree → List (ℕ × List ℕ) → Type 0
Says (Ball r) tokens = Begins form.Ball (r ∷ []) tokens []
Says (Block a b c) tokens = Begins form.Block (a ∷ b ∷ c ∷ []) tokens []
Says (Cylinder r h) tokens = Begins form.Cylinder (r ∷ h ∷ []) tokens []
Says (Move x y z s) tokens = Changes form.Move (x ∷ y ∷ z ∷ []) (Says s) tokens
Says (Scale k s) tokens = Changes form.Scale (k ∷ []) (Says s) tokens
Says (Union a b) tokens = Joins form.Union (Says a) (Says b) tokens
Says (Intersect a b) tokens = Joins form.Intersect (Says a) (Says b) tokens
Says (Difference a b) tokens = Joins form.Difference (Says a) (Says b) tokens

-- tokens are read as a solid: they say it, its sizes are above 0, and no form of it stands within
-- 256 others
pub record TokensRead (tokens : List (ℕ × List ℕ)) (solid : SolidTree) : Type 0 where
  pub said : Says solid tokens
  pub sizes : HasPositiveSizes solid
  pub shallow : depth solid ≤ 256

-- a text is read as a solid
abbrev pub SolidReads : List ℕ → SolidTree → Type 0
SolidReads text solid = TokensRead (numbered_tokens text) solid
