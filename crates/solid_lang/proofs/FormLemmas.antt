-- What is written as a form names it, and nothing else does.
use Rattle.std.proofs.Common.{◌≡◌, ◌≢◌, ℕ, Bool, true, false, List, [], ◌∷◌, cond, Option, Some, None, refl, sym, ◌∙◌}
use Rattle.std.specs.Prelude.{IfSome, IfNone, find}
use Rattle.std.specs.Str.{bytes_eq}
use Rattle.std.proofs.lemmas.Slice.Eq.{bytes_eq-Decides}
use Rattle.solid_lang.specs.declared.form.Form.{Form}
use Rattle.solid_lang.specs.declared.form.Form.TheVariants.{Ball, Block, Cylinder, Move, Scale, Union, Intersect, Difference}
use Rattle.solid_lang.specs.Forms.{form_named, form_text, forms}
use Rattle.fixed_ops.proofs.Lists.{told_apart}

pub form_named-written : (form : Form) → form_named (form_text form) ≡ Some form
form_named-written Ball = refl
form_named-written Block = refl
form_named-written Cylinder = refl
form_named-written Move = refl
form_named-written Scale = refl
form_named-written Union = refl
form_named-written Intersect = refl
form_named-written Difference = refl

-- what the search for a form gives
pub form_found : (word : List ℕ) (found : Option Form) → IfSome found (λ form. word ≡ form_text form)
    → IfNone found ((form : Form) → word ≢ form_text form) → found ≡ form_named word
form_found word (Some form) is none = rw is (sym (form_named-written form))
form_found word None is none =
    rw (told_apart _ _ (none Ball), told_apart _ _ (none Block), told_apart _ _ (none Cylinder), told_apart _ _ (none Move), told_apart _ _ (none Scale), told_apart _ _ (none Union), told_apart _ _ (none Intersect), told_apart _ _ (none Difference)) refl

-- what is found passes the test
find-holds : (test : Form → Bool) (among : List Form) (form : Form) → find test among ≡ Some form → test form ≡ true
find-holds test [] form e = (cc)
find-holds test (x ∷ xs) form e = by (test x) refl (λ later. find-holds test xs form later)
  where
    by : (b : Bool) → test x ≡ b → (find test xs ≡ Some form → test form ≡ true) → test form ≡ true
    by true is later =
        let here : cond (test x) (Some x) (find test xs) ≡ Some x = rw is refl in
        let same : x ≡ form = (cc) in
        rw (sym same) is
    by false is later =
        let there : cond (test x) (Some x) (find test xs) ≡ find test xs = rw is refl in
        later (sym there ∙ e)

-- a word that names a form is the word of the form
pub form_named-is : (word : List ℕ) (form : Form) → form_named word ≡ Some form → word ≡ form_text form
form_named-is word form e =
    (bytes_eq-Decides word (form_text form)).0 (find-holds (λ other. bytes_eq word (form_text other)) forms form e)
