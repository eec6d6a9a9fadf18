-- The test of whether two lists have the same steps tells whether they are equal.
use Rattle.std.proofs.Common.{◌≡◌, ℕ, ℤ, List, [], ◌∷◌, Option, Some, None, Decides, refl, sym, ap, ◌∙◌}
use Rattle.std.specs.List.{find}
use Rattle.std.specs.Str.{bytes_eq}
use Rattle.std.specs.Cmp.Lexicographic.{bytes_decides}
use Rattle.std.proofs.lemmas.Slice.Eq.{slice_eq-Decides}
use Rattle.std.proofs.lemmas.Bool.Decides.{Decides-int_eq, Decides-eqb}
use Rattle.fixed_ops.specs.OpNames.{name_of}
use Rattle.fixed_ops.specs.declared.operation.Op.{Op}
use Rattle.fixed_ops.specs.declared.operation.Op.TheVariants.{X, Y, Z, Const, Neg, Square, Sqrt, Abs, Floor, Add, Sub, Mul, Div, Min, Max}
use Rattle.live_clauses.specs.Equality.{same_list, same_step}
use Rattle.live_clauses.specs.Laws.{ListsAreToldApart}
use Rattle.live_clauses.specs.declared.step.Step.{Step}
use Rattle.std.proofs.lemmas.Bool.{and_from, and_parts}

-- the operation of a name
abbrev named : List ℕ → Option Op
named word =
    find (λ op. bytes_eq word (name_of op))
    (X ∷ Y ∷ Z ∷ Const ∷ Neg ∷ Square ∷ Sqrt ∷ Abs ∷ Floor ∷ Add ∷ Sub ∷ Mul ∷ Div ∷ Min ∷ Max ∷ [])

named-own : (op : Op) → named (name_of op) ≡ Some op
named-own X = refl
named-own op = refl

abbrev inside : Op → Option Op → Op
inside other None = other
inside other (Some op) = op

-- operations of one name are one
one_name : (a b : Op) → name_of a ≡ name_of b → a ≡ b
one_name a b same =
    ap (inside a) (sym (named-own a) ∙ ap named same ∙ named-own b)

same_fields : (s t : Step) → s.op ≡ t.op → s.a ≡ t.a → s.b ≡ t.b → s.value ≡ t.value → s ≡ t
same_fields s t op first second value =
    let made : Op → ℕ → ℕ → ℤ → Step = λ o x y v. record { op = o; a = x; b = y; value = v } in
    ap (λ o. made o s.a s.b s.value) op ∙ ap (λ x. made t.op x s.b s.value) first
    ∙ ap (λ y. made t.op t.a y s.value) second ∙ ap (made t.op t.a t.b) value

steps_decide : (s t : Step) → Decides (same_step s t) (s ≡ t)
steps_decide s t = (
  λ all.
      let ops = and_parts _ _ all in
      let firsts = and_parts _ _ ops.1 in
      let seconds = and_parts _ _ firsts.1 in
      same_fields s t (one_name s.op t.op ((bytes_decides (name_of s.op) (name_of t.op)).0 ops.0))
      ((Decides-eqb s.a t.a).0 firsts.0) ((Decides-eqb s.b t.b).0 seconds.0)
      ((Decides-int_eq s.value t.value).0 seconds.1),
  λ alike. and_from _ _
      ((bytes_decides (name_of s.op) (name_of t.op)).1 (ap (λ x. name_of x.op) alike))
      (and_from _ _ ((Decides-eqb s.a t.a).1 (ap (λ x. x.a) alike))
      (and_from _ _ ((Decides-eqb s.b t.b).1 (ap (λ x. x.b) alike))
      ((Decides-int_eq s.value t.value).1 (ap (λ x. x.value) alike)))),
)

pub lists_are_told_apart_is : ListsAreToldApart
lists_are_told_apart_is a b = slice_eq-Decides steps_decide a b (same_list a b) refl
