-- How a solid is read off the front of tokens.
use Rattle.std.specs.Prelude.{ℕ, zero, suc, ℤ, List, [], ◌∷◌, Option, Some, None, option_map, option_and_then}
use Rattle.fixed_ops.specs.Numerals.{numeral}
use Rattle.solid_lang.specs.declared.form.Form.{Form}
use Rattle.solid_lang.specs.declared.form.Form.TheVariants as form
use Rattle.solid_lang.specs.Forms.{form_named}
use Rattle.solid_lang.specs.Solids.{SolidTree, Ball, Block, Cylinder, Move, Scale, Union, Intersect, Difference}

-- what is read off the front of tokens, and the tokens that are left
abbrev pub Reader : Type 0 → Type 0
Reader A = List (ℕ × List ℕ) → Option (A × List (ℕ × List ℕ))

infixl 10 ◌>>=◌
abbrev pub ◌>>=◌ : {A B : Type 0} → Option A → (A → Option B) → Option B
o >>= f = option_and_then f o

-- a form, by its word
abbrev pub form_read : Reader Form
form_read [] = None
form_read (token ∷ tokens) = option_map (λ form. (form, tokens)) (form_named token.1)

-- a number, by its numeral
abbrev pub number_read : Reader ℤ
number_read [] = None
number_read (token ∷ tokens) = option_map (λ number. (number, tokens)) (numeral token.1)

-- three numbers
abbrev pub triple_read : Reader (ℤ × ℤ × ℤ)
triple_read tokens = do
  a ← number_read tokens
  b ← number_read a.1
  c ← number_read b.1
  Some ((a.0, b.0, c.0), c.1)

-- two solids
abbrev pub pair_read : Reader SolidTree → Reader (SolidTree × SolidTree)
pair_read inner tokens = do
  a ← inner tokens
  b ← inner a.1
  Some ((a.0, b.0), b.1)

-- what follows the word of a form
abbrev pub parts_read : Reader SolidTree → Form → Reader SolidTree
parts_read inner form.Ball tokens = do
  r ← number_read tokens
  Some (Ball r.0, r.1)
parts_read inner form.Block tokens = do
  sides ← triple_read tokens
  Some (Block sides.0.0 sides.0.1 sides.0.2, sides.1)
parts_read inner form.Cylinder tokens = do
  r ← number_read tokens
  h ← number_read r.1
  Some (Cylinder r.0 h.0, h.1)
parts_read inner form.Move tokens = do
  by ← triple_read tokens
  s ← inner by.1
  Some (Move by.0.0 by.0.1 by.0.2 s.0, s.1)
parts_read inner form.Scale tokens = do
  k ← number_read tokens
  s ← inner k.1
  Some (Scale k.0 s.0, s.1)
parts_read inner form.Union tokens = do
  both ← pair_read inner tokens
  Some (Union both.0.0 both.0.1, both.1)
parts_read inner form.Intersect tokens = do
  both ← pair_read inner tokens
  Some (Intersect both.0.0 both.0.1, both.1)
parts_read inner form.Difference tokens = do
  both ← pair_read inner tokens
  Some (Difference both.0.0 both.0.1, both.1)

-- a solid that is so many forms deep at most
unfoldable pub solid_read : ℕ → Reader SolidTree
solid_read zero tokens = None
solid_read (suc room) tokens = do
  begun ← form_read tokens
  parts_read (solid_read room) begun.0 begun.1
