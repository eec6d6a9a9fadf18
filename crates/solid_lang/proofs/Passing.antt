-- Tokens that say a solid are taken where one is wanted, and add its clauses.
use Rattle.std.proofs.Common.{◌≡◌, ℕ, ◌+◌, ◌<◌, ◌≤◌, ℤ, Bool, true, false, nat_le, List, [], ◌∷◌, ◌++◌, map, append_assoc, append-nil, Option, Some, None, Result, Ok, Err, refl, ap, sym, ◌∙◌, arith}
use Rattle.std.specs.Int.{is_positive}
use Rattle.std.proofs.lemmas.Bool.Decides.{nat_tests}
use Rattle.std.proofs.lemmas.Int.{ints}
use Rattle.fixed_ops.specs.Numerals.{numeral}
use Rattle.solid_lang.specs.declared.form.Form.{Form}
use Rattle.solid_lang.specs.declared.form.Form.TheVariants as form
use Rattle.solid_lang.specs.declared.solid_fault.SolidFault.{SolidFault}
use Rattle.solid_lang.specs.declared.want.Want.{Want}
use Rattle.solid_lang.specs.declared.want.Want.TheVariants.{Numeral, Size, Whole}
use Rattle.solid_lang.specs.Added.{clauses_of, own_clauses}
use Rattle.solid_lang.specs.Counts.{depth, form_clauses}
use Rattle.solid_lang.specs.Forms.{form_named, form_text}
use Rattle.solid_lang.specs.Judged.{capped, judged, unless_bad}
use Rattle.solid_lang.specs.Reading.{Begins, Changes, Joins, Says}
use Rattle.solid_lang.specs.Sizes.{HasPositiveSizes, IsPositive}
use Rattle.solid_lang.specs.Solids.{SolidTree, Ball, Block, Cylinder, Move, Scale, Union, Intersect, Difference}
use Rattle.solid_lang.specs.Wants.{form_wants, in_front, numeral_wants, size_wants, wants_of}
use Rattle.solid_lang.proofs.FormLemmas.{form_named-written}

abbrev pub Tokens : Type 0
Tokens = List (ℕ × List ℕ)

-- what is told of tokens is what is told of the rest of them, with so many clauses
pub record Passes (before : Result ℕ SolidFault) (clauses : ℕ) (wants : List Want) (rest : Tokens) : Type 0 where
  pub last : Option ℕ
  pub same : before ≡ judged clauses last wants rest

-- the word of a form is taken
word-taken : (form : Form) (within c line : ℕ) (last : Option ℕ) (wants : List Want) (rest : Tokens) → within < 256
    → Passes (judged c last (Whole within ∷ wants) ((line, form_text form) ∷ rest)) (capped (c + own_clauses form)) (wants_of within form ++ wants) rest
word-taken form within c line last wants rest shallow =
    let low : nat_le 256 within ≡ false = grind (arith, nat_tests) in
    let F : Option Form → Result ℕ SolidFault = λ named.
    unless_bad line (in_front wants (form_wants within named)) (λ left. judged (capped (c + clauses_of named)) (Some line) left rest) in
    let first : judged c last (Whole within ∷ wants) ((line, form_text form) ∷ rest) ≡ F (Some form) = ap F (form_named-written form) in
    let second : F (Some form) ≡ judged (capped (c + own_clauses form)) (Some line) (wants_of within form ++ wants) rest = rw low refl in
    record { last = Some line; same = first ∙ second }

-- these numbers may be given where these are wanted
abbrev pub Accepts : List Want → List ℤ → Type 0
Accepts [] [] = Unit {0}
Accepts (Numeral ∷ kinds) (number ∷ numbers) = Accepts kinds numbers
Accepts (Size ∷ kinds) (number ∷ numbers) = IsPositive number × Accepts kinds numbers
Accepts kinds numbers = ⊥

pub positive-true : (n : ℤ) → IsPositive n → is_positive n ≡ true
positive-true n h = grind (arith, ints)

pub true-positive : (n : ℤ) → is_positive n ≡ true → IsPositive n
true-positive n h = grind (arith, ints)

-- the numerals of numbers
abbrev pub AreSpelled : Tokens → List ℤ → Type 0
AreSpelled numerals numbers = map (λ token. numeral token.1) numerals ≡ map (λ number. Some number) numbers

-- numerals are taken
numbers-taken : (kinds : List Want) (numbers : List ℤ) (numerals rest : Tokens) (c : ℕ) (last : Option ℕ) (wants : List Want) → c ≤ 65536
    → Accepts kinds numbers → AreSpelled numerals numbers → Passes (judged c last (kinds ++ wants) (numerals ++ rest)) c wants rest
numbers-taken [] [] [] rest c last wants few ok e = record { last = last; same = refl }
numbers-taken [] [] (t ∷ ts) rest c last wants few ok e = absurd (cc)
numbers-taken [] (n ∷ ns) numerals rest c last wants few ok e = absurd ok
numbers-taken (Numeral ∷ ks) [] numerals rest c last wants few ok e = absurd ok
numbers-taken (Size ∷ ks) [] numerals rest c last wants few ok e = absurd ok
numbers-taken (Whole w ∷ ks) [] numerals rest c last wants few ok e = absurd ok
numbers-taken (Whole w ∷ ks) (n ∷ ns) numerals rest c last wants few ok e = absurd ok
numbers-taken (Numeral ∷ ks) (n ∷ ns) [] rest c last wants few ok e = absurd (cc)
numbers-taken (Size ∷ ks) (n ∷ ns) [] rest c last wants few ok e = absurd (cc)
numbers-taken (Numeral ∷ ks) (n ∷ ns) (t ∷ ts) rest c last wants few ok e =
    let spelled : numeral t.1 ≡ Some n = (cc) in
    let others : AreSpelled ts ns = (cc) in
    let same : capped (c + 0) ≡ c = omega arith in
    let F : Option ℤ → Result ℕ SolidFault = λ o.
    unless_bad t.0 (in_front (ks ++ wants) (numeral_wants o)) (λ left. judged (capped (c + 0)) (Some t.0) left (ts ++ rest)) in
    let first : judged c last (Numeral ∷ (ks ++ wants)) (t ∷ (ts ++ rest)) ≡ F (Some n) = ap F spelled in
    let second : F (Some n) ≡ judged c (Some t.0) (ks ++ wants) (ts ++ rest) = ap (λ (k : ℕ). judged k (Some t.0) (ks ++ wants) (ts ++ rest)) same in
    let q = numbers-taken ks ns ts rest c (Some t.0) wants few ok others in
    record { last = q.last; same = first ∙ (second ∙ q.same) }
numbers-taken (Size ∷ ks) (n ∷ ns) (t ∷ ts) rest c last wants few ok e =
    let spelled : numeral t.1 ≡ Some n = (cc) in
    let others : AreSpelled ts ns = (cc) in
    let same : capped (c + 0) ≡ c = omega arith in
    let positive = positive-true n ok.0 in
    let F : Option ℤ → Result ℕ SolidFault = λ o.
    unless_bad t.0 (in_front (ks ++ wants) (size_wants o)) (λ left. judged (capped (c + 0)) (Some t.0) left (ts ++ rest)) in
    let first : judged c last (Size ∷ (ks ++ wants)) (t ∷ (ts ++ rest)) ≡ F (Some n) = ap F spelled in
    let middle : F (Some n) ≡ judged (capped (c + 0)) (Some t.0) (ks ++ wants) (ts ++ rest) = rw positive refl in
    let second : judged (capped (c + 0)) (Some t.0) (ks ++ wants) (ts ++ rest) ≡ judged c (Some t.0) (ks ++ wants) (ts ++ rest) = ap (λ (k : ℕ). judged k (Some t.0) (ks ++ wants) (ts ++ rest)) same in
    let q = numbers-taken ks ns ts rest c (Some t.0) wants few ok.1 others in
    record { last = q.last; same = first ∙ (middle ∙ (second ∙ q.same)) }

-- the word of a form and its numerals are taken
begins-taken : (form : Form) (numbers : List ℤ) (kinds more : List Want) (ts after rest : Tokens) (within c : ℕ) (last : Option ℕ) (wants : List Want) → within < 256
    → wants_of within form ≡ kinds ++ more → Accepts kinds numbers → Begins form numbers ts after
    → Passes (judged c last (Whole within ∷ wants) (ts ++ rest)) (capped (c + own_clauses form)) (more ++ wants) (after ++ rest)
begins-taken form numbers kinds more ts after rest within c last wants shallow form_is ok b =
    let d : ℕ = capped (c + own_clauses form) in
    let few : capped (c + own_clauses form) ≤ 65536 = omega arith in
    let left : Tokens = (b.numerals ++ after) ++ rest in
    let p = word-taken form within c b.line last wants left shallow in
    let start : judged c last (Whole within ∷ wants) (ts ++ rest) ≡ judged c last (Whole within ∷ wants) ((b.line, form_text form) ∷ left)
    = ap (λ (xs : Tokens). judged c last (Whole within ∷ wants) (xs ++ rest)) b.parts in
    let q = numbers-taken kinds numbers b.numerals (after ++ rest) d p.last (more ++ wants) few ok b.spelled in
    let first : judged d p.last (wants_of within form ++ wants) left ≡ judged d p.last ((kinds ++ more) ++ wants) left
    = ap (λ (ws : List Want). judged d p.last (ws ++ wants) left) form_is in
    let second : judged d p.last ((kinds ++ more) ++ wants) left ≡ judged d p.last (kinds ++ (more ++ wants)) left
    = ap (λ (ws : List Want). judged d p.last ws left) (append_assoc kinds more wants) in
    let third : judged d p.last (kinds ++ (more ++ wants)) left ≡ judged d p.last (kinds ++ (more ++ wants)) (b.numerals ++ (after ++ rest))
    = ap (λ (xs : Tokens). judged d p.last (kinds ++ (more ++ wants)) xs) (append_assoc b.numerals after rest) in
    record { last = q.last; same = start ∙ (p.same ∙ (first ∙ (second ∙ (third ∙ q.same)))) }

-- a solid that tokens say is taken, wherever the tokens go on
abbrev Taken : (Tokens → Type 0) → ℕ → ℕ → Type 0
Taken Inner clauses within = (ts rest : Tokens) (c : ℕ) (last : Option ℕ) (wants : List Want) → Inner ts
    → Passes (judged c last (Whole within ∷ wants) (ts ++ rest)) (capped (c + clauses)) wants rest

changes-taken : (form : Form) (numbers : List ℤ) (kinds : List Want) (Inner : Tokens → Type 0) (inner within : ℕ) → within < 256
    → wants_of within form ≡ kinds ++ Whole (within + 1) ∷ [] → Accepts kinds numbers → Taken Inner inner (within + 1)
    → Taken (Changes form numbers Inner) (own_clauses form + inner) within
changes-taken form numbers kinds Inner inner within shallow form_is ok taken ts rest c last wants h =
    let p = begins-taken form numbers kinds (Whole (within + 1) ∷ []) ts h.rest rest within c last wants shallow form_is ok h.begins in
    let q = taken h.rest rest (capped (c + own_clauses form)) p.last wants h.inner in
    let sum : capped (capped (c + own_clauses form) + inner) ≡ capped (c + (own_clauses form + inner)) = omega arith in
    record { last = q.last; same = p.same ∙ (q.same ∙ ap (λ (k : ℕ). judged k q.last wants rest) sum) }

joins-taken : (form : Form) (First Second : Tokens → Type 0) (a b within : ℕ) → within < 256
    → wants_of within form ≡ Whole (within + 1) ∷ Whole (within + 1) ∷ [] → Taken First a (within + 1) → Taken Second b (within + 1)
    → Taken (Joins form First Second) (a + b + own_clauses form) within
joins-taken form First Second a b within shallow form_is first_taken second_taken ts rest c last wants h =
    let own : ℕ = own_clauses form in
    let left : Tokens = (h.first ++ h.second) ++ rest in
    let start : judged c last (Whole within ∷ wants) (ts ++ rest) ≡ judged c last (Whole within ∷ wants) ((h.line, form_text form) ∷ left)
    = ap (λ (xs : Tokens). judged c last (Whole within ∷ wants) (xs ++ rest)) h.parts in
    let p = word-taken form within c h.line last wants left shallow in
    let first : judged (capped (c + own)) p.last (wants_of within form ++ wants) left ≡ judged (capped (c + own)) p.last (Whole (within + 1) ∷ Whole (within + 1) ∷ wants) left
    = ap (λ (ws : List Want). judged (capped (c + own)) p.last (ws ++ wants) left) form_is in
    let second : judged (capped (c + own)) p.last (Whole (within + 1) ∷ Whole (within + 1) ∷ wants) left ≡ judged (capped (c + own)) p.last (Whole (within + 1) ∷ Whole (within + 1) ∷ wants) (h.first ++ (h.second ++ rest))
    = ap (λ (xs : Tokens). judged (capped (c + own)) p.last (Whole (within + 1) ∷ Whole (within + 1) ∷ wants) xs) (append_assoc h.first h.second rest) in
    let q = first_taken h.first (h.second ++ rest) (capped (c + own)) p.last (Whole (within + 1) ∷ wants) h.first_is in
    let r = second_taken h.second rest (capped (capped (c + own) + a)) q.last wants h.second_is in
    let sum : capped (capped (capped (c + own_clauses form) + a) + b) ≡ capped (c + (a + b + own_clauses form)) = omega arith in
    record { last = r.last; same = start ∙ (p.same ∙ (first ∙ (second ∙ (q.same ∙ (r.same ∙ ap (λ (k : ℕ). judged k r.last wants rest) sum))))) }

-- a form without solids is taken
leaf-taken : (form : Form) (numbers : List ℤ) (within : ℕ) → within < 256 → Accepts (wants_of within form) numbers
    → Taken (λ ts. Begins form numbers ts []) (own_clauses form) within
leaf-taken form numbers within shallow ok ts rest c last wants h =
    begins-taken form numbers (wants_of within form) [] ts [] rest within c last wants shallow (sym (append-nil (wants_of within form))) ok h

-- a solid that stands within so many forms is taken
pub said-taken : (s : SolidTree) (within : ℕ) → HasPositiveSizes s → depth s + within ≤ 256 → Taken (Says s) (form_clauses s) within
said-taken (Ball r) within sizes shallow = leaf-taken form.Ball (r ∷ []) within (omega arith) (sizes, tt)
said-taken (Block a b c) within sizes shallow = leaf-taken form.Block (a ∷ b ∷ c ∷ []) within (omega arith) (sizes.0, (sizes.1, (sizes.2, tt)))
said-taken (Cylinder r h) within sizes shallow = leaf-taken form.Cylinder (r ∷ h ∷ []) within (omega arith) (sizes.0, (sizes.1, tt))
said-taken (Move x y z s) within sizes shallow =
    changes-taken form.Move (x ∷ y ∷ z ∷ []) (Numeral ∷ Numeral ∷ Numeral ∷ []) (Says s) (form_clauses s) within (omega arith) refl tt
    (said-taken s (within + 1) sizes (omega arith))
said-taken (Scale k s) within sizes shallow =
    changes-taken form.Scale (k ∷ []) (Size ∷ []) (Says s) (form_clauses s) within (omega arith) refl (sizes.0, tt)
    (said-taken s (within + 1) sizes.1 (omega arith))
said-taken (Union a b) within sizes shallow =
    joins-taken form.Union (Says a) (Says b) (form_clauses a) (form_clauses b) within (omega arith) refl
    (said-taken a (within + 1) sizes.0 (omega arith)) (said-taken b (within + 1) sizes.1 (omega arith))
said-taken (Intersect a b) within sizes shallow =
    joins-taken form.Intersect (Says a) (Says b) (form_clauses a) (form_clauses b) within (omega arith) refl
    (said-taken a (within + 1) sizes.0 (omega arith)) (said-taken b (within + 1) sizes.1 (omega arith))
said-taken (Difference a b) within sizes shallow =
    joins-taken form.Difference (Says a) (Says b) (form_clauses a) (form_clauses b) within (omega arith) refl
    (said-taken a (within + 1) sizes.0 (omega arith)) (said-taken b (within + 1) sizes.1 (omega arith))
