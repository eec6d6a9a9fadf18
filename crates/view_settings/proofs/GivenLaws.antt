-- Each value that was given is one of its setting's kind, and so is each default.
use Rattle.std.proofs.Common.{◌≡◌, ℕ, ◌<◌, ◌≤◌, Bool, true, false, cond, List, [], ◌∷◌, ◌++◌, length, map, Option, Some, None, refl, sym, ap, ◌∙◌, subst, arith, nat_eq, ℤ}
use Rattle.std.specs.Prelude.{IfSome, find, ◌||◌}
use Rattle.std.specs.List.{AllByRecursion, list_any}
use Rattle.std.specs.Option.{option_map}
use Rattle.std.specs.Cmp.{nat_eq_equiv}
use Rattle.std.proofs.lemmas.List.{length-map}
use Rattle.std.proofs.lemmas.Map.Keys.{IsDistinct-push}
use Rattle.std.proofs.lemmas.Map.Steps.{length-le_from_distinct_below}
use Rattle.std.proofs.lemmas.Bool.Decides.{Decides-eqb}
use Rattle.view_settings.specs.declared.kind.Kind.{Kind}
use Rattle.view_settings.specs.declared.kind.Kind.TheVariants as kinds
use Rattle.view_settings.specs.declared.name.Name.{Name}
use Rattle.view_settings.specs.declared.name.Name.TheVariants as names
use Rattle.view_settings.specs.declared.setting.Setting.{Setting}
use Rattle.view_settings.specs.declared.setting.Value.{Value}
use Rattle.view_settings.specs.declared.setting.Value.TheVariants as values
use Rattle.view_settings.specs.declared.verb.Verb.{Verb}
use Rattle.view_settings.specs.declared.verb.Verb.TheVariants as verbs
use Rattle.fixed_ops.specs.Raw.{IsRaw}
use Rattle.view_settings.specs.Kinds.{HasHeightSides, HasOneCount, count_to, greatest_of}
use Rattle.view_settings.specs.Names.{is_same, number_of}
use Rattle.view_settings.specs.Setting.{IsSetting, IsValue, is_given}
use Rattle.view_settings.specs.Settings.{Given, AreSettings}
use Rattle.view_settings.specs.Verbs.{kind_of}
use Rattle.view_settings.specs.Views.{cells_of, value_given, count_or, window_of}
use Rattle.view_places.specs.Window.{FitsHeight, IsCount}
use Rattle.view_settings.proofs.NameLaws.{same_names, number_of-below}

-- a value that a setting of this name may have
pub record IsValueOf (verb : Verb) (name : Name) (value : Value) : Type 0 where
  pub kind : Kind
  pub taken : kind_of verb name ≡ Some kind
  pub value_is : IsValue kind value

-- a given value is one that its setting may have
pub value_given_is : (verb : Verb) (name : Name) (settings : List Setting) → AllByRecursion (IsSetting verb) settings → IfSome (value_given name settings) (IsValueOf verb name)
value_given_is verb name [] each = tt
value_given_is verb name (setting ∷ settings) each = by (is_same name setting.name) refl (value_given_is verb name settings each.1)
  where
    by : (b : Bool) → is_same name setting.name ≡ b → IfSome (value_given name settings) (IsValueOf verb name)
        → IfSome (option_map (λ s. s.value) (cond b (Some setting) (find (λ s. is_same name s.name) settings))) (IsValueOf verb name)
    by true same later = record { kind = each.0.kind; taken = ap (kind_of verb) (same_names name setting.name same) ∙ each.0.taken; value_is = each.0.value }
    by false other later = later

-- what is true of a value that was given
given_value : (verb : Verb) (name : Name) (settings : List Setting) (value : Value) → AllByRecursion (IsSetting verb) settings → value_given name settings ≡ Some value → IsValueOf verb name value
given_value verb name settings value each is = subst (λ o. IfSome o (IsValueOf verb name)) is (value_given_is verb name settings each)

raw_value : (kind : Kind) (v : ℤ) → IsValue kind (values.Raw v) → IsRaw v
raw_value kinds.Numeral v is = is
raw_value (kinds.Count least greatest) v is = absurd is

-- a raw number that was given is one
pub given_raw : (verb : Verb) (name : Name) (settings : List Setting) (v : ℤ) → AllByRecursion (IsSetting verb) settings → value_given name settings ≡ Some (values.Raw v) → IsRaw v
given_raw verb name settings v each is = let value = given_value verb name settings (values.Raw v) each is in raw_value value.kind v value.value_is

-- the counts that a kind of counts has, if it is one
abbrev pub IsCountOf : Option Kind → ℕ → Type 0
IsCountOf None n = ⊥
IsCountOf (Some kinds.Numeral) n = ⊥
IsCountOf (Some (kinds.Count least greatest)) n = (least ≤ n) × (n ≤ greatest)

count_value : (kind : Kind) (n : ℕ) → IsValue kind (values.Count n) → IsCountOf (Some kind) n
count_value kinds.Numeral n is = absurd is
count_value (kinds.Count least greatest) n is = is

-- a count that was given is within its range
pub given_count : (verb : Verb) (name : Name) (settings : List Setting) (n : ℕ) → AllByRecursion (IsSetting verb) settings → value_given name settings ≡ Some (values.Count n) → IsCountOf (kind_of verb name) n
given_count verb name settings n each is =
    let value = given_value verb name settings (values.Count n) each is in
    rw value.taken (count_value value.kind n value.value_is)

pub each-push : (verb : Verb) (settings : List Setting) (setting : Setting) → AllByRecursion (IsSetting verb) settings → IsSetting verb setting → AllByRecursion (IsSetting verb) (settings ++ setting ∷ [])
each-push verb [] setting each is = (is, tt)
each-push verb (first ∷ settings) setting each is = (each.0, each-push verb settings setting each.1 is)

list_any-map : {A B : Type 0} (p : B → Bool) (f : A → B) (xs : List A) → list_any p (map f xs) ≡ list_any (λ x. p (f x)) xs
list_any-map p f [] = refl
list_any-map p f (x ∷ xs) = ap (λ b. p (f x) || b) (list_any-map p f xs)

map-push : {A B : Type 0} (f : A → B) (xs : List A) (x : A) → map f (xs ++ x ∷ []) ≡ map f xs ++ f x ∷ []
map-push f [] x = refl
map-push f (y ∷ xs) x = ap (λ ys. f y ∷ ys) (map-push f xs x)

-- settings stay settings with one more whose name was not given
pub AreSettings-push : (verb : Verb) (settings : List Setting) (setting : Setting) → AreSettings (record { verb = verb; settings = settings }) → IsSetting verb setting → is_given setting.name settings ≡ false
    → AreSettings (record { verb = verb; settings = settings ++ setting ∷ [] })
AreSettings-push verb settings setting are is new = record {
  each = each-push verb settings setting are.each is;
  distinct = rw (map-push (λ s. number_of s.name) settings setting) (IsDistinct-push nat_eq_equiv (map (λ s. number_of s.name) settings) (number_of setting.name) are.distinct (list_any-map (nat_eq (number_of setting.name)) (λ s. number_of s.name) settings ∙ new));
}

numbers_below : (settings : List Setting) (n : ℕ) → list_any (nat_eq n) (map (λ s. number_of s.name) settings) ≡ true → n < 16
numbers_below [] n e = absurd cc
numbers_below (setting ∷ settings) n e = by (nat_eq n (number_of setting.name)) refl e (numbers_below settings n)
  where
    by : (b : Bool) → nat_eq n (number_of setting.name) ≡ b → (b || list_any (nat_eq n) (map (λ s. number_of s.name) settings)) ≡ true
        → (list_any (nat_eq n) (map (λ s. number_of s.name) settings) ≡ true → n < 16) → n < 16
    by true same e later = omega (arith, (Decides-eqb n (number_of setting.name)).0 same, number_of-below setting.name)
    by false other e later = later e

-- there are at most as many settings as names
pub settings_few : (given : Given) → AreSettings given → length given.settings ≤ 16
settings_few given are =
    omega (arith, length-le_from_distinct_below (map (λ s. number_of s.name) given.settings) 16 are.distinct (numbers_below given.settings), length-map given.settings (λ (s : Setting). number_of s.name))

-- The ranges of counts, whatever the verb: of each verb, whose table computes.
columns_range : (verb : Verb) (n : ℕ) → IsCountOf (kind_of verb names.W) n → IsCount 4096 n
columns_range verbs.Render n is = record { some = grind arith; few = grind arith }
columns_range other n is = record { some = grind arith; few = grind arith }

rows_range : (verb : Verb) (n : ℕ) → IsCountOf (kind_of verb names.H) n → IsCount 4096 n
rows_range verbs.Render n is = record { some = grind arith; few = grind arith }
rows_range other n is = record { some = grind arith; few = grind arith }

layers_range : (verb : Verb) (n : ℕ) → IsCountOf (kind_of verb names.D) n → IsCount 1024 n
layers_range verbs.Render n is = absurd is
layers_range other n is = record { some = grind arith; few = grind arith }

cells_range : (verb : Verb) (n : ℕ) → IsCountOf (kind_of verb names.N) n → IsCount 256 n
cells_range verbs.Render n is = absurd is
cells_range other n is = record { some = grind arith; few = grind arith }

cells_along_x : (verb : Verb) (n : ℕ) → IsCountOf (kind_of verb names.Nx) n → IsCount 512 n
cells_along_x verbs.Render n is = absurd is
cells_along_x other n is = record { some = grind arith; few = grind arith }

cells_along_y : (verb : Verb) (n : ℕ) → IsCountOf (kind_of verb names.Ny) n → IsCount 512 n
cells_along_y verbs.Render n is = absurd is
cells_along_y other n is = record { some = grind arith; few = grind arith }

cells_along_z : (verb : Verb) (n : ℕ) → IsCountOf (kind_of verb names.Nz) n → IsCount 512 n
cells_along_z verbs.Render n is = absurd is
cells_along_z other n is = record { some = grind arith; few = grind arith }

solids_range : (verb : Verb) (n : ℕ) → IsCountOf (kind_of verb names.Solids) n → IsCount 5000 n
solids_range verbs.Render n is = absurd is
solids_range other n is = record { some = grind arith; few = grind arith }

-- a count that was given is at least 1 and at most the greatest of its name, where that is not 0
pub count_range : (verb : Verb) (name : Name) (n : ℕ) → 0 < greatest_of name → IsCountOf (kind_of verb name) n → IsCount (greatest_of name) n
count_range verb names.X0 n some is = absurd (omega (arith, some))
count_range verb names.X1 n some is = absurd (omega (arith, some))
count_range verb names.Y0 n some is = absurd (omega (arith, some))
count_range verb names.Y1 n some is = absurd (omega (arith, some))
count_range verb names.Z0 n some is = absurd (omega (arith, some))
count_range verb names.Z1 n some is = absurd (omega (arith, some))
count_range verb names.Z n some is = absurd (omega (arith, some))
count_range verb names.Seed n some is = absurd (omega (arith, some))
count_range verb names.W n some is = columns_range verb n is
count_range verb names.H n some is = rows_range verb n is
count_range verb names.D n some is = layers_range verb n is
count_range verb names.N n some is = cells_range verb n is
count_range verb names.Nx n some is = cells_along_x verb n is
count_range verb names.Ny n some is = cells_along_y verb n is
count_range verb names.Nz n some is = cells_along_z verb n is
count_range verb names.Solids n some is = solids_range verb n is

-- a height map has at most 1024 columns and rows
height_side : (given : Option Value) → ((n : ℕ) → given ≡ Some (values.Count n) → n ≤ 1024) → count_or given 512 ≤ 1024
height_side None few = omega arith
height_side (Some (values.Raw v)) few = omega arith
height_side (Some (values.Count n)) few = few n refl

side_given : (verb : Verb) (name : Name) (settings : List Setting) → kind_of verb name ≡ count_to 1024 → AllByRecursion (IsSetting verb) settings → count_or (value_given name settings) 512 ≤ 1024
side_given verb name settings kind each =
    height_side (value_given name settings) (λ n given. (subst (λ k. IsCountOf k n) kind (given_count verb name settings n each given)).1)

-- the window of settings whose columns and rows are those of a height map
pub height_fits : (verb : Verb) (settings : List Setting) → AllByRecursion (IsSetting verb) settings → HasHeightSides (kind_of verb) → FitsHeight (window_of settings)
height_fits verb settings each sides = record {
  w = side_given verb names.W settings sides.0 each;
  h = side_given verb names.H settings sides.1 each;
}

-- a name that the verb does not have gave no count
count_untold : (verb : Verb) (name : Name) (settings : List Setting) (default : ℕ) → kind_of verb name ≡ None → AllByRecursion (IsSetting verb) settings
    → count_or (value_given name settings) default ≡ default
count_untold verb name settings default none each = by (value_given name settings) (value_given_is verb name settings each)
  where
    by : (given : Option Value) → IfSome given (IsValueOf verb name) → count_or given default ≡ default
    by None is = refl
    by (Some value) is = let taken = is.taken in absurd (cc)

-- the cells of all axes are at most 256, where a count of them is
few_cells : (given : Option Value) → ((n : ℕ) → given ≡ Some (values.Count n) → n ≤ 256) → count_or given 64 ≤ 256
few_cells None few = omega arith
few_cells (Some (values.Raw v)) few = omega arith
few_cells (Some (values.Count n)) few = few n refl

-- the window of settings of which one count says how many cells there are along x and along y
pub square_fits : (verb : Verb) (settings : List Setting) → AllByRecursion (IsSetting verb) settings → HasOneCount (kind_of verb)
    → ((window_of settings).nx ≡ (window_of settings).ny) × ((window_of settings).nx ≤ 256)
square_fits verb settings each one =
    let x = count_untold verb names.Nx settings (cells_of settings) one.1 each in
    let y = count_untold verb names.Ny settings (cells_of settings) one.2 each in
    let few = few_cells (value_given names.N settings) (λ n given. (subst (λ k. IsCountOf k n) one.0 (given_count verb names.N settings n each given)).1) in
    (x ∙ sym y, subst (λ n. n ≤ 256) (sym x) few)

pub greatest_small : (name : Name) → greatest_of name ≤ 5000
greatest_small names.X0 = omega arith
greatest_small names.X1 = omega arith
greatest_small names.Y0 = omega arith
greatest_small names.Y1 = omega arith
greatest_small names.Z0 = omega arith
greatest_small names.Z1 = omega arith
greatest_small names.Z = omega arith
greatest_small names.W = omega arith
greatest_small names.H = omega arith
greatest_small names.D = omega arith
greatest_small names.N = omega arith
greatest_small names.Nx = omega arith
greatest_small names.Ny = omega arith
greatest_small names.Nz = omega arith
greatest_small names.Seed = omega arith
greatest_small names.Solids = omega arith
