-- What is written as a verb or a name names it, and nothing else does.
use Rattle.std.proofs.Common.{◌≡◌, ◌≢◌, ℕ, true, List, [], ◌∷◌, Option, Some, None, refl, sym, ap, ◌∙◌, ◌<◌, get_or, arith}
use Rattle.std.specs.Prelude.{IfSome, IfNone, find}
use Rattle.std.specs.Str.{bytes_eq}
use Rattle.std.proofs.lemmas.Bool.Decides.{Decides-eqb}
use Rattle.view_settings.specs.declared.name.Name.{Name}
use Rattle.view_settings.specs.declared.name.Name.TheVariants as names
use Rattle.view_settings.specs.declared.verb.Verb.{Verb}
use Rattle.view_settings.specs.declared.verb.Verb.TheVariants as verbs
use Rattle.view_settings.specs.Names.{name_called, name_text, number_of, is_same, names as all_names}
use Rattle.view_settings.specs.Verbs.{verb_named, verb_text as verb_written, verbs as all_verbs}
use Rattle.fixed_ops.proofs.Lists.{told_apart}

verb_named-written : (verb : Verb) → verb_named (verb_written verb) ≡ Some verb
verb_named-written verbs.Render = refl
verb_named-written other = refl

name_called-written : (name : Name) → name_called (name_text name) ≡ Some name
name_called-written names.X0 = refl
name_called-written names.X1 = refl
name_called-written names.Y0 = refl
name_called-written names.Y1 = refl
name_called-written names.Z0 = refl
name_called-written names.Z1 = refl
name_called-written names.Z = refl
name_called-written names.W = refl
name_called-written names.H = refl
name_called-written names.D = refl
name_called-written names.N = refl
name_called-written names.Nx = refl
name_called-written names.Ny = refl
name_called-written names.Nz = refl
name_called-written names.Seed = refl
name_called-written names.Solids = refl

-- no verb is found where none is written so
verb_missing : (word : List ℕ) (among : List Verb) → ((verb : Verb) → word ≢ verb_written verb) → find (λ verb. bytes_eq word (verb_written verb)) among ≡ None
verb_missing word [] none = refl
verb_missing word (verb ∷ among) none = rw (told_apart word (verb_written verb) (none verb)) (verb_missing word among none)

-- what the search for a verb gives
pub verb_found : (word : List ℕ) (found : Option Verb) → IfSome found (λ verb. word ≡ verb_written verb) → IfNone found ((verb : Verb) → word ≢ verb_written verb) → found ≡ verb_named word
verb_found word (Some verb) is none = rw is (sym (verb_named-written verb))
verb_found word None is none = sym (verb_missing word all_verbs none)

-- what the search for a name gives
pub name_found : (text : List ℕ) (found : Option Name) → IfSome found (λ name. text ≡ name_text name) → IfNone found ((name : Name) → text ≢ name_text name) → found ≡ name_called text
name_found text (Some name) is none = rw is (sym (name_called-written name))
name_found text None is none =
    rw (told_apart _ _ (none names.X0), told_apart _ _ (none names.X1), told_apart _ _ (none names.Y0), told_apart _ _ (none names.Y1), told_apart _ _ (none names.Z0), told_apart _ _ (none names.Z1), told_apart _ _ (none names.Z)) (rw (told_apart _ _ (none names.W), told_apart _ _ (none names.H), told_apart _ _ (none names.D), told_apart _ _ (none names.N), told_apart _ _ (none names.Nx), told_apart _ _ (none names.Ny), told_apart _ _ (none names.Nz), told_apart _ _ (none names.Seed), told_apart _ _ (none names.Solids)) refl)

-- the name of a number
abbrev name_at : ℕ → Name
name_at n = get_or all_names n names.X0

name_at-number_of : (name : Name) → name_at (number_of name) ≡ name
name_at-number_of names.X0 = refl
name_at-number_of names.X1 = refl
name_at-number_of names.Y0 = refl
name_at-number_of names.Y1 = refl
name_at-number_of names.Z0 = refl
name_at-number_of names.Z1 = refl
name_at-number_of names.Z = refl
name_at-number_of names.W = refl
name_at-number_of names.H = refl
name_at-number_of names.D = refl
name_at-number_of names.N = refl
name_at-number_of names.Nx = refl
name_at-number_of names.Ny = refl
name_at-number_of names.Nz = refl
name_at-number_of names.Seed = refl
name_at-number_of names.Solids = refl

-- names of one number are one
pub same_names : (a b : Name) → is_same a b ≡ true → a ≡ b
same_names a b same = sym (name_at-number_of a) ∙ ap name_at ((Decides-eqb (number_of a) (number_of b)).0 same) ∙ name_at-number_of b

pub number_of-below : (name : Name) → number_of name < 16
number_of-below names.X0 = omega arith
number_of-below names.X1 = omega arith
number_of-below names.Y0 = omega arith
number_of-below names.Y1 = omega arith
number_of-below names.Z0 = omega arith
number_of-below names.Z1 = omega arith
number_of-below names.Z = omega arith
number_of-below names.W = omega arith
number_of-below names.H = omega arith
number_of-below names.D = omega arith
number_of-below names.N = omega arith
number_of-below names.Nx = omega arith
number_of-below names.Ny = omega arith
number_of-below names.Nz = omega arith
number_of-below names.Seed = omega arith
number_of-below names.Solids = omega arith
