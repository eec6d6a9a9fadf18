-- The job that words ask for keeps what each job keeps.
use Rattle.std.proofs.Common.{◌≡◌, ℕ, ◌≤◌, ℤ, pos, Bool, true, false, ◌&&◌, cond, nat_le, List, [], ◌∷◌, ◌++◌, Option, Some, None, Result, Ok, Err, refl, sym, ap, subst, ◌∙◌, arith, rules}
use Rattle.std.specs.Prelude.{T, IfOk, int_lt, ◌||◌}
use Rattle.std.specs.List.{AllByRecursion}
use Rattle.std.proofs.lemmas.Bool.Decides.{nat_tests}
use Rattle.std.proofs.lemmas.Int.{ints}
use Rattle.fixed_ops.specs.Numerals.{digits_read, numeral}
use Rattle.fixed_ops.specs.Raw.{IsRaw}
use Rattle.view_settings.specs.declared.job.Job.{Job}
use Rattle.view_settings.specs.declared.kind.Kind.{Kind}
use Rattle.view_settings.specs.declared.kind.Kind.TheVariants as kinds
use Rattle.view_settings.specs.declared.name.Name.{Name}
use Rattle.view_settings.specs.declared.name.Name.TheVariants as names
use Rattle.view_settings.specs.declared.setting.Setting.{Setting}
use Rattle.view_settings.specs.declared.setting.Value.{Value}
use Rattle.view_settings.specs.declared.setting.Value.TheVariants as values
use Rattle.view_settings.specs.declared.verb.Verb.{Verb}
use Rattle.view_settings.specs.declared.verb.Verb.TheVariants as verbs
use Rattle.view_settings.specs.declared.word_fault.WordFault.{WordFault}
use Rattle.view_settings.specs.declared.word_fault.WordReason.{WordReason}
use Rattle.view_settings.specs.declared.word_fault.WordReason.TheVariants.{EmptySpan}
use Rattle.view_settings.specs.Grammar.{JobsHold}
use Rattle.view_settings.specs.Kinds.{greatest_of}
use Rattle.view_settings.specs.Names.{name_called}
use Rattle.view_settings.specs.Setting.{IsSetting, IsValue, is_given, known, parts_of, setting_of, value_read}
use Rattle.view_settings.specs.Settings.{Given, begun, finished, settled}
use Rattle.view_settings.specs.Verbs.{IsJob, contour_job, job_with, kind_of, mesh_job}
use Rattle.view_settings.specs.Views.{cells_of, count_or, is_empty, minus_one, one, raw_or, value_given, window_of}
use Rattle.view_places.specs.Window.{AreEnds, FitsContour, FitsMesh, IsCount, IsWindow, Window, cells_are_few, cells_have_room, has_room, plane_cells_have_room}
use Rattle.view_settings.specs.Words.{after_words}
use Rattle.view_settings.proofs.GivenLaws.{count_range, each-push, given_count, given_raw, height_fits, square_fits}
use Rattle.std.proofs.lemmas.Bool.{and_parts}
use Rattle.fixed_ops.proofs.NumeralLaws.{numeral_is_raw}
use Rattle.view_places.proofs.WindowLaws.{room_yes}

-- Numerals mean raw numbers.

-- Each setting that a word gives is one of the verb.

value-is : (kind : Kind) (text : List ℕ) (value : Value) → value_read kind text ≡ Ok value
    → IsValue kind value
value-is kinds.Numeral text value e = by (numeral text) refl
  where
    by : (o : Option ℤ) → numeral text ≡ o → IsValue kinds.Numeral value
    by None n = let got = rw n at e in absurd cc
    by (Some v) n =
        let got : values.Raw v ≡ value = cc in
        subst (IsValue kinds.Numeral) got (numeral_is_raw text v n)
value-is (kinds.Count least greatest) text value e = by (digits_read 20 text) refl
  where
    by : (o : Option ℕ) → digits_read 20 text ≡ o → IsValue (kinds.Count least greatest) value
    by None n = let got = rw n at e in absurd cc
    by (Some count) n = within (nat_le least count && nat_le count greatest) refl
      where
        within : (t : Bool) → nat_le least count && nat_le count greatest ≡ t
            → IsValue (kinds.Count least greatest) value
        within false r = let got = rw (n, r) at e in absurd cc
        within true r =
            let ends = and_parts (nat_le least count) (nat_le count greatest) r in
            let got : values.Count count ≡ value = cc in
            subst (IsValue (kinds.Count least greatest)) got
            (grind (arith, nat_tests, ends.0), grind (arith, nat_tests, ends.1))

-- what stands in a pair that there is
abbrev named_or : Name × Kind → Option (Name × Kind) → Name × Kind
named_or other None = other
named_or other (Some named) = named

known-is : (verb : Verb) (text : List ℕ) (name : Name) (kind : Kind)
    → known verb text ≡ Some (name, kind) → kind_of verb name ≡ Some kind
known-is verb text name kind e = by (name_called text) refl
  where
    by : (o : Option Name) → name_called text ≡ o → kind_of verb name ≡ Some kind
    by None n = let got = rw n at e in absurd cc
    by (Some called) n = of (kind_of verb called) refl
      where
        of : (o : Option Kind) → kind_of verb called ≡ o → kind_of verb name ≡ Some kind
        of None k = let got = rw (n, k) at e in absurd cc
        of (Some its) k =
            let got = ap (named_or (called, its)) (rw (n, k) at e) in
            ap (kind_of verb) (sym (ap (λ named. named.0) got)) ∙ k
            ∙ ap Some (ap (λ named. named.1) got)

setting-is : (verb : Verb) (taken : List Setting) (word : List ℕ) (setting : Setting)
    → setting_of verb taken word ≡ Ok setting → IsSetting verb setting
unfolding setting_of
setting-is verb taken word setting e = by (parts_of word) refl
  where
    by : (o : Option (List ℕ × List ℕ)) → parts_of word ≡ o → IsSetting verb setting
    by None p = let got = rw p at e in absurd cc
    by (Some (name, text)) p = under (known verb name) refl
      where
        under : (o : Option (Name × Kind)) → known verb name ≡ o → IsSetting verb setting
        under None k = let got = rw (p, k) at e in absurd cc
        under (Some (called, kind)) k = given (is_given called taken) refl
          where
            given : (t : Bool) → is_given called taken ≡ t → IsSetting verb setting
            given true g = let got = rw (p, k, g) at e in absurd cc
            given false g = valued (value_read kind text) refl
              where
                valued : (r : Result Value WordReason) → value_read kind text ≡ r
                    → IsSetting verb setting
                valued (Err reason) v = let got = rw (p, k, g, v) at e in absurd cc
                valued (Ok value) v =
                    let got = rw (p, k, g, v) at e in
                    let same : record { name = called; value = value } ≡ setting = cc in
                    subst (IsSetting verb) same (record {
                      kind = kind;
                      taken = known-is verb name called kind k;
                      value = value-is kind text value v;
                    })

-- and so are all settings of words, which keep their verb
abbrev AreOf : Verb → Given → Type 0
AreOf verb given = (given.verb ≡ verb) × AllByRecursion (IsSetting verb) given.settings

words-are : (verb : Verb) (words : List (List ℕ)) (given all : Given) → AreOf verb given
    → after_words given words ≡ Ok all → AreOf verb all
words-are verb [] given all are e = let same : given ≡ all = cc in subst (AreOf verb) same are
words-are verb (word ∷ words) given all are e =
    by (setting_of given.verb given.settings word) refl
    (λ next is. words-are verb words next all is)
  where
    by : (r : Result Setting WordReason) → setting_of given.verb given.settings word ≡ r
        → ((next : Given) → AreOf verb next → after_words next words ≡ Ok all → AreOf verb all)
        → AreOf verb all
    by (Err reason) is later = let got = rw is at e in absurd cc
    by (Ok setting) is later =
        later (record given { settings = given.settings ++ setting ∷ [] }) (
          are.0,
          each-push verb given.settings setting are.1 (subst (λ v. IsSetting v setting) are.0
              (setting-is given.verb given.settings word setting is)),
        ) (rw is at e)

-- The window of settings.

raw-or : (given : Option Value) (default : ℤ)
    → ((v : ℤ) → given ≡ Some (values.Raw v) → IsRaw v) → IsRaw default
    → IsRaw (raw_or given default)
raw-or None default raw other = other
raw-or (Some (values.Raw v)) default raw other = raw v refl
raw-or (Some (values.Count n)) default raw other = other

count-or : (given : Option Value) (default greatest : ℕ)
    → ((n : ℕ) → given ≡ Some (values.Count n) → IsCount greatest n) → IsCount greatest default
    → IsCount greatest (count_or given default)
count-or None default greatest within other = other
count-or (Some (values.Raw v)) default greatest within other = other
count-or (Some (values.Count n)) default greatest within other = within n refl

module _ (verb : Verb) (settings : List Setting) (each : AllByRecursion (IsSetting verb) settings) where
  raw-given : (name : Name) (default : ℤ) → IsRaw default
      → IsRaw (raw_or (value_given name settings) default)
  raw-given name default other =
      raw-or (value_given name settings) default
      (λ v given. given_raw verb name settings v each given) other

  count-given : (name : Name) (default : ℕ) → IsCount (greatest_of name) default
      → IsCount (greatest_of name) (count_or (value_given name settings) default)
  count-given name default other =
      count-or (value_given name settings) default (greatest_of name)
      (λ n given. count_range verb name n (omega (arith, other.some, other.few))
      (given_count verb name settings n each given)) other

  ends-given : (low high : Name) (a b : ℤ) → IsRaw a → IsRaw b
      → int_lt (raw_or (value_given high settings) b) (raw_or (value_given low settings) a) ≡ false
      → AreEnds (raw_or (value_given low settings) a) (raw_or (value_given high settings) b)
  ends-given low high a b first second order = record {
    low_raw = raw-given low a first;
    high_raw = raw-given high b second;
    ordered = omega (arith, ints, order);
  }

neither : (a b c : Bool) → a || (b || c) ≡ false → (a ≡ false) × (b ≡ false) × (c ≡ false)
neither false false false e = (refl, refl, refl)
neither false false true e = absurd cc
neither false true c e = absurd cc
neither true b c e = absurd cc

ones-are_raw : IsRaw minus_one × IsRaw one
ones-are_raw = ((omega (arith, ints), omega (arith, ints)), (omega (arith, ints), omega (arith, ints)))

-- the cells of an axis for which none were given are few enough for each
cells-given : (verb : Verb) (settings : List Setting) → AllByRecursion (IsSetting verb) settings
    → IsCount 512 (cells_of settings)
cells-given verb settings each =
    let cells = count-given verb settings each names.N 64
    (record { some = omega arith; few = omega arith }) in
    record { some = omega (arith, cells.some); few = omega (arith, cells.few) }

window-is : (verb : Verb) (settings : List Setting) → AllByRecursion (IsSetting verb) settings
    → is_empty (window_of settings) ≡ false → IsWindow (window_of settings)
window-is verb settings each order =
    let v = window_of settings in
    let axes = neither (int_lt v.x1 v.x0) (int_lt v.y1 v.y0) (int_lt v.z1 v.z0) order in
    let low = ones-are_raw.0 in
    let high = ones-are_raw.1 in
    let cells = cells-given verb settings each in
    record {
      x = ends-given verb settings each names.X0 names.X1 minus_one one low high axes.0;
      y = ends-given verb settings each names.Y0 names.Y1 minus_one one low high axes.1;
      z_ends = ends-given verb settings each names.Z0 names.Z1 minus_one one low high axes.2;
      z = raw-given verb settings each names.Z (pos 0) (omega (arith, ints), omega (arith, ints));
      w = count-given verb settings each names.W 512
          (record { some = omega arith; few = omega arith });
      h = count-given verb settings each names.H 512
          (record { some = omega arith; few = omega arith });
      d = count-given verb settings each names.D 255
          (record { some = omega arith; few = omega arith });
      nx = count-given verb settings each names.Nx (cells_of settings) cells;
      ny = count-given verb settings each names.Ny (cells_of settings) cells;
      nz = count-given verb settings each names.Nz (cells_of settings) cells;
    }

-- where a window was made, the job is that of its verb
pub settled-made : (verb : Verb) (settings : List Setting) (v : Window)
    → Some v ≡ cond (is_empty (window_of settings)) None (Some (window_of settings))
    → job_with verb settings ≡ settled verb settings
settled-made verb settings v made = by (is_empty (window_of settings)) made
  where
    by : (t : Bool) → Some v ≡ cond t None (Some (window_of settings))
        → job_with verb settings ≡ cond t (Err EmptySpan) (job_with verb settings)
    by true e = absurd cc
    by false e = refl

-- The test of whether a mesh may be made.

from-true : (b : Bool) → b ≡ true → T b
from-true true e = tt
from-true false e = absurd cc

fits-is : (v : Window) → cells_have_room v ≡ true → cells_are_few v ≡ true → FitsMesh v
fits-is v room few =
    let x = and_parts (has_room v.x0 v.x1 v.nx)
    (has_room v.y0 v.y1 v.ny && has_room v.z0 v.z1 v.nz) room in
    let others = and_parts (has_room v.y0 v.y1 v.ny) (has_room v.z0 v.z1 v.nz) x.1 in
    record {
      x = room_yes v.x0 v.x1 v.nx x.0;
      y = room_yes v.y0 v.y1 v.ny others.0;
      z = room_yes v.z0 v.z1 v.nz others.1;
      all = grind (arith, nat_tests, few);
    }

-- The job of settings.

pub mesh-is : (v : Window) → IsWindow v → IfOk (mesh_job v) IsJob
mesh-is v window = by (cells_have_room v) (cells_are_few v) refl refl
  where
    by : (room few : Bool) → cells_have_room v ≡ room → cells_are_few v ≡ few → IfOk (mesh_job v) IsJob
    by false few r f = rw r tt
    by true false r f = rw (r, f) tt
    by true true r f = rw (r, f) (window, fits-is v r f)

plane-is : (v : Window) → v.nx ≡ v.ny → v.nx ≤ 256 → plane_cells_have_room v ≡ true → FitsContour v
plane-is v square few room =
    let both = and_parts (has_room v.x0 v.x1 v.nx) (has_room v.y0 v.y1 v.ny) room in
    record {
      square = square;
      few = few;
      x = room_yes v.x0 v.x1 v.nx both.0;
      y = room_yes v.y0 v.y1 v.ny both.1;
    }

pub contour-is : (v : Window) → IsWindow v → v.nx ≡ v.ny → v.nx ≤ 256 → IfOk (contour_job v) IsJob
contour-is v window square few = by (plane_cells_have_room v) refl
  where
    by : (room : Bool) → plane_cells_have_room v ≡ room → IfOk (contour_job v) IsJob
    by false r = rw r tt
    by true r = rw r (window, plane-is v square few r)

-- a mesh and a contour ask for their cells, and a model that is made for its discs
made-is : (verb : Verb) (settings : List Setting) → AllByRecursion (IsSetting verb) settings
    → IsWindow (window_of settings) → IfOk (job_with verb settings) IsJob
made-is verbs.Mesh settings each window = mesh-is (window_of settings) window
made-is verbs.Forge settings each window = (
  window,
  count-given verbs.Forge settings each names.Solids 16
      (record { some = omega arith; few = omega arith }),
)
made-is verbs.Contour settings each window =
    let square = square_fits verbs.Contour settings each (refl, refl, refl) in
    contour-is (window_of settings) window square.0 square.1
made-is other settings each window =
    search (rules, window, height_fits other settings each)

ok-is : (made : Result Job WordReason) (job : Job) → IfOk made IsJob → made ≡ Ok job → IsJob job
ok-is (Ok other) job is e = let same : other ≡ job = cc in subst IsJob same is
ok-is (Err reason) job is e = absurd cc

settled-is : (verb : Verb) (settings : List Setting) (job : Job)
    → AllByRecursion (IsSetting verb) settings → settled verb settings ≡ Ok job → IsJob job
settled-is verb settings job each e = by (is_empty (window_of settings)) refl
  where
    by : (t : Bool) → is_empty (window_of settings) ≡ t → IsJob job
    by true o = let got = rw o at e in absurd cc
    by false o =
        ok-is (job_with verb settings) job
        (made-is verb settings each (window-is verb settings each o)) (rw o at e)

pub jobs-hold : JobsHold
jobs-hold verb words job e = by (after_words (begun verb) words) refl
  where
    by : (r : Result Given WordFault) → after_words (begun verb) words ≡ r → IsJob job
    by (Err fault) w = let got = rw w at e in absurd cc
    by (Ok given) w =
        let are = words-are verb words (begun verb) given (refl, tt) w in
        let each = subst (λ v. AllByRecursion (IsSetting v) given.settings) (sym are.0) are.1 in
        made (finished given) refl (settled-is given.verb given.settings job each)
      where
        made : (r : Result Job WordReason) → finished given ≡ r → (finished given ≡ Ok job → IsJob job)
            → IsJob job
        made (Err reason) f is = let got = rw (w, f) at e in absurd cc
        made (Ok other) f is =
            let got = rw (w, f) at e in
            let same : other ≡ job = cc in
            is (f ∙ ap Ok same)
