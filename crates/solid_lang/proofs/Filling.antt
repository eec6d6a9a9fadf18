-- Where all tokens are taken and nothing is wanted after them, they say what was wanted.
use Rattle.std.proofs.Common.{◌≡◌, ℕ, ◌+◌, ◌<◌, ◌≤◌, ℤ, Bool, true, false, nat_le, List, [], ◌∷◌, ◌++◌, map, append_assoc, append-nil, Option, Some, None, Result, Ok, Err, refl, ap, sym, subst, ◌∙◌, arith}
use Rattle.std.specs.Int.{is_positive}
use Rattle.std.proofs.lemmas.Bool.Decides.{nat_tests}
use Rattle.fixed_ops.specs.Numerals.{numeral}
use Rattle.solid_lang.specs.declared.form.Form.{Form}
use Rattle.solid_lang.specs.declared.form.Form.TheVariants as form
use Rattle.solid_lang.specs.declared.solid_reason.SolidReason.{SolidReason}
use Rattle.solid_lang.specs.declared.solid_reason.SolidReason.TheVariants.{TooDeep, NotPositive}
use Rattle.solid_lang.specs.declared.want.Want.{Want}
use Rattle.solid_lang.specs.declared.want.Want.TheVariants.{Numeral, Size, Whole}
use Rattle.solid_lang.specs.Counts.{depth}
use Rattle.solid_lang.specs.Forms.{form_named, form_text}
use Rattle.solid_lang.specs.Reading.{Begins, Changes, Joins, Says}
use Rattle.solid_lang.specs.Sizes.{HasPositiveSizes, IsPositive}
use Rattle.solid_lang.specs.Solids.{SolidTree, Ball, Block, Cylinder, Move, Scale, Union, Intersect, Difference}
use Rattle.solid_lang.specs.Wants.{and_then, form_wants, in_front, numeral_wants, size_wants, token_wants, wants_after, wants_of}
use Rattle.solid_lang.proofs.FormLemmas.{form_named-is}
use Rattle.solid_lang.proofs.Passing.{Accepts, AreSpelled, Tokens, true-positive}

-- tokens are a numeral
pub record IsNumeral (ts : Tokens) : Type 0 where
  pub token : ℕ × List ℕ
  pub number : ℤ
  pub is : ts ≡ token ∷ []
  pub spelled : numeral token.1 ≡ Some number

-- tokens are the numeral of a number above 0
pub record IsSize (ts : Tokens) : Type 0 where
  pub token : ℕ × List ℕ
  pub number : ℤ
  pub is : ts ≡ token ∷ []
  pub spelled : numeral token.1 ≡ Some number
  pub positive : IsPositive number

-- tokens say a solid that may stand within so many forms
pub record IsWhole (within : ℕ) (ts : Tokens) : Type 0 where
  pub solid : SolidTree
  pub said : Says solid ts
  pub sizes : HasPositiveSizes solid
  pub shallow : depth solid + within ≤ 256

abbrev pub Meets : Want → Tokens → Type 0
Meets Numeral ts = IsNumeral ts
Meets Size ts = IsSize ts
Meets (Whole within) ts = IsWhole within ts

-- tokens are some of the one kind, and then some of the other
pub record Follow (First Second : Tokens → Type 0) (ts : Tokens) : Type 0 where
  pub first : Tokens
  pub second : Tokens
  pub parts : ts ≡ first ++ second
  pub first_is : First first
  pub second_is : Second second

-- tokens are what is wanted, one after the other
abbrev pub Fills : List Want → Tokens → Type 0
Fills [] ts = ts ≡ []
Fills (want ∷ wants) ts = Follow (Meets want) (Fills wants) ts

-- wants of numbers
abbrev AreNumbers : List Want → Type 0
AreNumbers [] = Unit {0}
AreNumbers (Whole within ∷ kinds) = ⊥
AreNumbers (kind ∷ kinds) = AreNumbers kinds

-- numerals, and then what else is wanted
record HasNumbers (kinds wants : List Want) (ts : Tokens) : Type 0 where
  numbers : List ℤ
  numerals : Tokens
  rest : Tokens
  parts : ts ≡ numerals ++ rest
  spelled : AreSpelled numerals numbers
  ok : Accepts kinds numbers
  fills : Fills wants rest

numbers-of : (kinds wants : List Want) (ts : Tokens) → AreNumbers kinds → Fills (kinds ++ wants) ts → HasNumbers kinds wants ts
numbers-of [] wants ts are h = record { numbers = []; numerals = []; rest = ts; parts = refl; spelled = refl; ok = tt; fills = h }
numbers-of (Whole within ∷ kinds) wants ts are h = absurd are
numbers-of (Numeral ∷ kinds) wants ts are h =
    let f = h.first_is in
    let q = numbers-of kinds wants h.second are h.second_is in
    record {
      numbers = f.number ∷ q.numbers;
      numerals = f.token ∷ q.numerals;
      rest = q.rest;
      parts = h.parts ∙ (ap (λ (xs : Tokens). xs ++ h.second) f.is ∙ ap (λ (xs : Tokens). f.token ∷ xs) q.parts);
      spelled = ap (λ (o : Option ℤ). o ∷ map (λ token. numeral token.1) q.numerals) f.spelled ∙ ap (λ (os : List (Option ℤ)). Some f.number ∷ os) q.spelled;
      ok = q.ok;
      fills = q.fills;
    }
numbers-of (Size ∷ kinds) wants ts are h =
    let f = h.first_is in
    let q = numbers-of kinds wants h.second are h.second_is in
    record {
      numbers = f.number ∷ q.numbers;
      numerals = f.token ∷ q.numerals;
      rest = q.rest;
      parts = h.parts ∙ (ap (λ (xs : Tokens). xs ++ h.second) f.is ∙ ap (λ (xs : Tokens). f.token ∷ xs) q.parts);
      spelled = ap (λ (o : Option ℤ). o ∷ map (λ token. numeral token.1) q.numerals) f.spelled ∙ ap (λ (os : List (Option ℤ)). Some f.number ∷ os) q.spelled;
      ok = (f.positive, q.ok);
      fills = q.fills;
    }

-- the word of a form, as a token
word-is : (form : Form) (t : ℕ × List ℕ) (ts : Tokens) → t.1 ≡ form_text form → t ∷ ts ≡ (t.0, form_text form) ∷ ts
word-is form t ts e = ap (λ (word : List ℕ). (t.0, word) ∷ ts) e

-- a form without solids
leaf-fills : (form : Form) (within : ℕ) (t : ℕ × List ℕ) (ts : Tokens) (wants : List Want) → t.1 ≡ form_text form → AreNumbers (wants_of within form)
    → ((numbers : List ℤ) (mine : Tokens) → Accepts (wants_of within form) numbers → Begins form numbers mine [] → IsWhole within mine)
    → Fills (wants_of within form ++ wants) ts → Fills (Whole within ∷ wants) (t ∷ ts)
leaf-fills form within t ts wants word are make h =
    let q = numbers-of (wants_of within form) wants ts are h in
    record {
      first = t ∷ q.numerals;
      second = q.rest;
      parts = ap (λ (xs : Tokens). t ∷ xs) q.parts;
      first_is = make q.numbers (t ∷ q.numerals) q.ok (record {
        line = t.0;
        numerals = q.numerals;
        parts = word-is form t q.numerals word ∙ ap (λ (xs : Tokens). (t.0, form_text form) ∷ xs) (sym (append-nil q.numerals));
        spelled = q.spelled;
      });
      second_is = q.fills;
    }

-- a form of numbers and one solid
changes-fills : (form : Form) (kinds : List Want) (within : ℕ) (t : ℕ × List ℕ) (ts : Tokens) (wants : List Want) → t.1 ≡ form_text form → AreNumbers kinds
    → ((numbers : List ℤ) (mine inner : Tokens) → Accepts kinds numbers → Begins form numbers mine inner → IsWhole (within + 1) inner → IsWhole within mine)
    → Fills (kinds ++ Whole (within + 1) ∷ wants) ts → Fills (Whole within ∷ wants) (t ∷ ts)
changes-fills form kinds within t ts wants word are make h =
    let q = numbers-of kinds (Whole (within + 1) ∷ wants) ts are h in
    let s = q.fills in
    record {
      first = t ∷ (q.numerals ++ s.first);
      second = s.second;
      parts = ap (λ (xs : Tokens). t ∷ xs) (q.parts ∙ (ap (λ (xs : Tokens). q.numerals ++ xs) s.parts ∙ sym (append_assoc q.numerals s.first s.second)));
      first_is = make q.numbers (t ∷ (q.numerals ++ s.first)) s.first q.ok (record {
        line = t.0;
        numerals = q.numerals;
        parts = word-is form t (q.numerals ++ s.first) word;
        spelled = q.spelled;
      }) s.first_is;
      second_is = s.second_is;
    }

-- a form of two solids
joins-fills : (form : Form) (within : ℕ) (t : ℕ × List ℕ) (ts : Tokens) (wants : List Want) → t.1 ≡ form_text form
    → ((a b : SolidTree) (mine : Tokens) → Joins form (Says a) (Says b) mine → HasPositiveSizes a → HasPositiveSizes b
    → depth a + (within + 1) ≤ 256 → depth b + (within + 1) ≤ 256 → IsWhole within mine)
    → Fills (Whole (within + 1) ∷ Whole (within + 1) ∷ wants) ts → Fills (Whole within ∷ wants) (t ∷ ts)
joins-fills form within t ts wants word make h =
    let a = h.first_is in
    let s = h.second_is in
    let b = s.first_is in
    record {
      first = t ∷ (h.first ++ s.first);
      second = s.second;
      parts = ap (λ (xs : Tokens). t ∷ xs) (h.parts ∙ (ap (λ (xs : Tokens). h.first ++ xs) s.parts ∙ sym (append_assoc h.first s.first s.second)));
      first_is = make a.solid b.solid (t ∷ (h.first ++ s.first)) (record {
        line = t.0;
        first = h.first;
        second = s.first;
        parts = word-is form t (h.first ++ s.first) word;
        first_is = a.said;
        second_is = b.said;
      }) a.sizes b.sizes a.shallow b.shallow;
      second_is = s.second_is;
    }

make-ball : (within : ℕ) → within < 256 → (numbers : List ℤ) (mine : Tokens) → Accepts (Size ∷ []) numbers → Begins form.Ball numbers mine [] → IsWhole within mine
make-ball within shallow [] mine ok b = absurd ok
make-ball within shallow (r ∷ []) mine ok b = record { solid = Ball r; said = b; sizes = ok.0; shallow = omega arith }
make-ball within shallow (r ∷ x ∷ xs) mine ok b = absurd ok.1

make-block : (within : ℕ) → within < 256 → (numbers : List ℤ) (mine : Tokens) → Accepts (Size ∷ Size ∷ Size ∷ []) numbers → Begins form.Block numbers mine [] → IsWhole within mine
make-block within shallow [] mine ok p = absurd ok
make-block within shallow (a ∷ []) mine ok p = absurd ok.1
make-block within shallow (a ∷ b ∷ []) mine ok p = absurd ok.1.1
make-block within shallow (a ∷ b ∷ c ∷ []) mine ok p =
    record { solid = Block a b c; said = p; sizes = (ok.0, ok.1.0, ok.1.1.0); shallow = omega arith }
make-block within shallow (a ∷ b ∷ c ∷ x ∷ xs) mine ok p = absurd ok.1.1.1

make-cylinder : (within : ℕ) → within < 256 → (numbers : List ℤ) (mine : Tokens) → Accepts (Size ∷ Size ∷ []) numbers → Begins form.Cylinder numbers mine [] → IsWhole within mine
make-cylinder within shallow [] mine ok p = absurd ok
make-cylinder within shallow (r ∷ []) mine ok p = absurd ok.1
make-cylinder within shallow (r ∷ h ∷ []) mine ok p =
    record { solid = Cylinder r h; said = p; sizes = (ok.0, ok.1.0); shallow = omega arith }
make-cylinder within shallow (r ∷ h ∷ x ∷ xs) mine ok p = absurd ok.1.1

make-move : (within : ℕ) (numbers : List ℤ) (mine inner : Tokens) → Accepts (Numeral ∷ Numeral ∷ Numeral ∷ []) numbers → Begins form.Move numbers mine inner
    → IsWhole (within + 1) inner → IsWhole within mine
make-move within [] mine inner ok p s = absurd ok
make-move within (x ∷ []) mine inner ok p s = absurd ok
make-move within (x ∷ y ∷ []) mine inner ok p s = absurd ok
make-move within (x ∷ y ∷ z ∷ []) mine inner ok p s = record {
  solid = Move x y z s.solid;
  said = record { rest = inner; begins = p; inner = s.said };
  sizes = s.sizes;
  shallow = omega (arith, s.shallow);
}
make-move within (x ∷ y ∷ z ∷ w ∷ ws) mine inner ok p s = absurd ok

make-scale : (within : ℕ) (numbers : List ℤ) (mine inner : Tokens) → Accepts (Size ∷ []) numbers → Begins form.Scale numbers mine inner
    → IsWhole (within + 1) inner → IsWhole within mine
make-scale within [] mine inner ok p s = absurd ok
make-scale within (k ∷ []) mine inner ok p s = record {
  solid = Scale k s.solid;
  said = record { rest = inner; begins = p; inner = s.said };
  sizes = (ok.0, s.sizes);
  shallow = omega (arith, s.shallow);
}
make-scale within (k ∷ w ∷ ws) mine inner ok p s = absurd ok.1

-- the parts of a form fill what was wanted before its word
form-fills : (form : Form) (within : ℕ) (t : ℕ × List ℕ) (ts : Tokens) (wants : List Want) → within < 256 → t.1 ≡ form_text form
    → Fills (wants_of within form ++ wants) ts → Fills (Whole within ∷ wants) (t ∷ ts)
form-fills form.Ball within t ts wants shallow word h = leaf-fills form.Ball within t ts wants word tt (make-ball within shallow) h
form-fills form.Block within t ts wants shallow word h = leaf-fills form.Block within t ts wants word tt (make-block within shallow) h
form-fills form.Cylinder within t ts wants shallow word h = leaf-fills form.Cylinder within t ts wants word tt (make-cylinder within shallow) h
form-fills form.Move within t ts wants shallow word h =
    changes-fills form.Move (Numeral ∷ Numeral ∷ Numeral ∷ []) within t ts wants word tt (make-move within) h
form-fills form.Scale within t ts wants shallow word h = changes-fills form.Scale (Size ∷ []) within t ts wants word tt (make-scale within) h
form-fills form.Union within t ts wants shallow word h =
    joins-fills form.Union within t ts wants word
    (λ a b mine j pa pb da db. record { solid = Union a b; said = j; sizes = (pa, pb); shallow = omega (arith, da, db) }) h
form-fills form.Intersect within t ts wants shallow word h =
    joins-fills form.Intersect within t ts wants word
    (λ a b mine j pa pb da db. record { solid = Intersect a b; said = j; sizes = (pa, pb); shallow = omega (arith, da, db) }) h
form-fills form.Difference within t ts wants shallow word h =
    joins-fills form.Difference within t ts wants word
    (λ a b mine j pa pb da db. record { solid = Difference a b; said = j; sizes = (pa, pb); shallow = omega (arith, da, db) }) h

-- a token that is taken fills what was wanted, with what fills its own wants
meets-whole : (within : ℕ) (t : ℕ × List ℕ) (own wants : List Want) (ts : Tokens) (named : Option Form) → form_named t.1 ≡ named
    → form_wants within named ≡ Ok own → Fills (own ++ wants) ts → Fills (Whole within ∷ wants) (t ∷ ts)
meets-whole within t own wants ts None is e h = absurd (cc)
meets-whole within t own wants ts (Some form) is e h = by (nat_le 256 within) refl
  where
    by : (b : Bool) → nat_le 256 within ≡ b → Fills (Whole within ∷ wants) (t ∷ ts)
    by true deep =
        let bad : form_wants within (Some form) ≡ Err TooDeep = rw deep refl in
        absurd (cc)
    by false low =
        let good : form_wants within (Some form) ≡ Ok (wants_of within form) = rw low refl in
        let same : own ≡ wants_of within form = (cc) in
        let shallow : within < 256 = grind (arith, nat_tests) in
        form-fills form within t ts wants shallow (form_named-is t.1 form is) (subst (λ (ws : List Want). Fills (ws ++ wants) ts) same h)

meets-numeral : (t : ℕ × List ℕ) (own wants : List Want) (ts : Tokens) (value : Option ℤ) → numeral t.1 ≡ value
    → numeral_wants value ≡ Ok own → Fills (own ++ wants) ts → Fills (Numeral ∷ wants) (t ∷ ts)
meets-numeral t own wants ts None is e h = absurd (cc)
meets-numeral t own wants ts (Some n) is e h =
    let same : own ≡ [] = (cc) in
    record {
      first = t ∷ [];
      second = ts;
      parts = refl;
      first_is = record { token = t; number = n; is = refl; spelled = is };
      second_is = subst (λ (ws : List Want). Fills (ws ++ wants) ts) same h;
    }

meets-size : (t : ℕ × List ℕ) (own wants : List Want) (ts : Tokens) (value : Option ℤ) → numeral t.1 ≡ value
    → size_wants value ≡ Ok own → Fills (own ++ wants) ts → Fills (Size ∷ wants) (t ∷ ts)
meets-size t own wants ts None is e h = absurd (cc)
meets-size t own wants ts (Some n) is e h = by (is_positive n) refl
  where
    by : (b : Bool) → is_positive n ≡ b → Fills (Size ∷ wants) (t ∷ ts)
    by true above =
        let good : size_wants (Some n) ≡ Ok [] = rw above refl in
        let same : own ≡ [] = (cc) in
        record {
          first = t ∷ [];
          second = ts;
          parts = refl;
          first_is = record { token = t; number = n; is = refl; spelled = is; positive = true-positive n above };
          second_is = subst (λ (ws : List Want). Fills (ws ++ wants) ts) same h;
        }
    by false low =
        let bad : size_wants (Some n) ≡ Err NotPositive = rw low refl in
        absurd (cc)

meets : (want : Want) (t : ℕ × List ℕ) (own wants : List Want) (ts : Tokens) → token_wants want t.1 ≡ Ok own
    → Fills (own ++ wants) ts → Fills (want ∷ wants) (t ∷ ts)
meets Numeral t own wants ts e h = meets-numeral t own wants ts (numeral t.1) refl e h
meets Size t own wants ts e h = meets-size t own wants ts (numeral t.1) refl e h
meets (Whole within) t own wants ts e h = meets-whole within t own wants ts (form_named t.1) refl e h

-- where all tokens are taken and nothing is wanted after them, they are what was wanted
pub all-filled : (ts : Tokens) (wants : List Want) → wants_after wants ts ≡ Ok [] → Fills wants ts
all-filled [] [] e = refl
all-filled [] (want ∷ wants) e = absurd (cc)
all-filled (t ∷ ts) [] e = absurd (cc)
all-filled (t ∷ ts) (want ∷ wants) e = by (token_wants want t.1) refl e (λ left h. all-filled ts left h)
  where
    by : (r : Result (List Want) SolidReason) → token_wants want t.1 ≡ r → and_then (in_front wants r) (λ left. wants_after left ts) ≡ Ok []
        → ((left : List Want) → wants_after left ts ≡ Ok [] → Fills left ts) → Fills (want ∷ wants) (t ∷ ts)
    by (Err reason) is h later = absurd (cc)
    by (Ok own) is h later = meets want t own wants ts is (later (own ++ wants) h)
