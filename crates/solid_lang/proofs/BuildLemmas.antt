-- A solid that tokens say is read off their front.
use Rattle.std.proofs.Common.{◌≡◌, ℕ, zero, suc, ◌+◌, ◌≤◌, ℤ, List, [], ◌∷◌, ◌++◌, map, append_assoc, append-nil, Option, Some, None, refl, ap, sym, ◌∙◌, arith}
use Rattle.std.specs.Prelude.{option_map}
use Rattle.std.specs.Option.{option_map_or}
use Rattle.fixed_ops.specs.Numerals.{numeral}
use Rattle.solid_lang.specs.declared.form.Form.{Form}
use Rattle.solid_lang.specs.declared.form.Form.TheVariants as form
use Rattle.solid_lang.specs.Building.{◌>>=◌, form_read, number_read, pair_read, parts_read, solid_read, triple_read}
use Rattle.solid_lang.specs.Counts.{depth}
use Rattle.solid_lang.specs.Forms.{form_named, form_text}
use Rattle.solid_lang.specs.Reading.{Begins, Changes, Joins, Says, TokensRead}
use Rattle.solid_lang.specs.Solids.{SolidTree, Ball, Block, Cylinder, Move, Scale, Union, Intersect, Difference}
use Rattle.solid_lang.proofs.FormLemmas.{form_named-written}
use Rattle.solid_lang.proofs.Passing.{AreSpelled, Tokens}

pub read-suc : (room : ℕ) (ts : Tokens) → solid_read (suc room) ts ≡ (form_read ts >>= (λ begun. parts_read (solid_read room) begun.0 begun.1))
unfolding solid_read
read-suc room ts = refl

pub read-zero : (ts : Tokens) → solid_read zero ts ≡ None
unfolding solid_read
read-zero ts = refl

-- a step of a reader that gives a value
pub step : {A B : Type 0} (o : Option A) (x : A) (f : A → Option B) (out : Option B) → o ≡ Some x → f x ≡ out → (o >>= f) ≡ out
step o x f out e h = ap (λ given. given >>= f) e ∙ h

-- after its word, a form is read by its parts
word-read : (form : Form) (line room : ℕ) (ts : Tokens) (out : Option (SolidTree × Tokens)) → parts_read (solid_read room) form ts ≡ out
    → solid_read (suc room) ((line, form_text form) ∷ ts) ≡ out
word-read form line room ts out h =
    let with_rest : Form → Form × Tokens = λ f. (f, ts) in
    let next : Form × Tokens → Option (SolidTree × Tokens) = λ begun. parts_read (solid_read room) begun.0 begun.1 in
    read-suc room ((line, form_text form) ∷ ts)
    ∙ (ap (λ (named : Option Form). option_map with_rest named >>= next) (form_named-written form) ∙ h)

-- a number, and the numerals that are left
record OneNumber (numerals rest : Tokens) (n : ℤ) (ns : List ℤ) : Type 0 where
  others : Tokens
  read : number_read (numerals ++ rest) ≡ Some (n, others ++ rest)
  spelled : AreSpelled others ns

one-number : (numerals rest : Tokens) (n : ℤ) (ns : List ℤ) → AreSpelled numerals (n ∷ ns) → OneNumber numerals rest n ns
one-number [] rest n ns e = absurd (cc)
one-number (t ∷ ts) rest n ns e =
    let spelled : numeral t.1 ≡ Some n = (cc) in
    record {
      others = ts;
      read = ap (λ (value : Option ℤ). option_map (λ (number : ℤ). (number, ts ++ rest)) value) spelled;
      spelled = (cc);
    }

no-numbers : (numerals rest : Tokens) → AreSpelled numerals [] → numerals ++ rest ≡ rest
no-numbers [] rest e = refl
no-numbers (t ∷ ts) rest e = absurd (cc)

number-read : (numerals rest : Tokens) (n : ℤ) → AreSpelled numerals (n ∷ []) → number_read (numerals ++ rest) ≡ Some (n, rest)
number-read numerals rest n e =
    let p = one-number numerals rest n [] e in
    p.read ∙ ap (λ (xs : Tokens). Some (n, xs)) (no-numbers p.others rest p.spelled)

triple-read : (numerals rest : Tokens) (a b c : ℤ) → AreSpelled numerals (a ∷ b ∷ c ∷ []) → triple_read (numerals ++ rest) ≡ Some ((a, b, c), rest)
triple-read numerals rest a b c e =
    let p = one-number numerals rest a (b ∷ c ∷ []) e in
    let q = one-number p.others rest b (c ∷ []) p.spelled in
    let r = number-read q.others rest c q.spelled in
    step (number_read (numerals ++ rest)) (a, p.others ++ rest) _ _ p.read
    (step (number_read (p.others ++ rest)) (b, q.others ++ rest) _ _ q.read
    (step (number_read (q.others ++ rest)) (c, rest) _ _ r refl))

-- a form without solids
leaf-read : (form : Form) (numbers : List ℤ) (solid : SolidTree) (ts rest : Tokens) (room : ℕ)
    → ((numerals : Tokens) → AreSpelled numerals numbers → parts_read (solid_read room) form (numerals ++ rest) ≡ Some (solid, rest))
    → Begins form numbers ts [] → solid_read (suc room) (ts ++ rest) ≡ Some (solid, rest)
leaf-read form numbers solid ts rest room parts b =
    ap (λ (xs : Tokens). solid_read (suc room) (xs ++ rest)) b.parts
    ∙ word-read form b.line room ((b.numerals ++ []) ++ rest) (Some (solid, rest))
    (ap (λ (xs : Tokens). parts_read (solid_read room) form (xs ++ rest)) (append-nil b.numerals) ∙ parts b.numerals b.spelled)

-- a form of numbers and one solid
changes-read : (form : Form) (numbers : List ℤ) (Inner : Tokens → Type 0) (s solid : SolidTree) (ts rest : Tokens) (room : ℕ)
    → ((xs : Tokens) → Inner xs → solid_read room (xs ++ rest) ≡ Some (s, rest))
    → ((numerals more : Tokens) → AreSpelled numerals numbers → solid_read room more ≡ Some (s, rest)
    → parts_read (solid_read room) form (numerals ++ more) ≡ Some (solid, rest))
    → Changes form numbers Inner ts → solid_read (suc room) (ts ++ rest) ≡ Some (solid, rest)
changes-read form numbers Inner s solid ts rest room inner parts h =
    let b = h.begins in
    ap (λ (xs : Tokens). solid_read (suc room) (xs ++ rest)) b.parts
    ∙ word-read form b.line room ((b.numerals ++ h.rest) ++ rest) (Some (solid, rest))
    (ap (λ (xs : Tokens). parts_read (solid_read room) form xs) (append_assoc b.numerals h.rest rest)
    ∙ parts b.numerals (h.rest ++ rest) b.spelled (inner h.rest h.inner))

-- two solids
pair-read : (a b : SolidTree) (first second rest : Tokens) (room : ℕ) → solid_read room (first ++ (second ++ rest)) ≡ Some (a, second ++ rest)
    → solid_read room (second ++ rest) ≡ Some (b, rest) → pair_read (solid_read room) ((first ++ second) ++ rest) ≡ Some ((a, b), rest)
pair-read a b first second rest room p q =
    ap (λ (xs : Tokens). pair_read (solid_read room) xs) (append_assoc first second rest)
    ∙ step (solid_read room (first ++ (second ++ rest))) (a, second ++ rest) _ _ p
    (step (solid_read room (second ++ rest)) (b, rest) _ _ q refl)

joins-read : (form : Form) (First Second : Tokens → Type 0) (a b solid : SolidTree) (ts rest : Tokens) (room : ℕ)
    → ((xs more : Tokens) → First xs → solid_read room (xs ++ more) ≡ Some (a, more))
    → ((xs more : Tokens) → Second xs → solid_read room (xs ++ more) ≡ Some (b, more))
    → ((xs : Tokens) → pair_read (solid_read room) xs ≡ Some ((a, b), rest) → parts_read (solid_read room) form xs ≡ Some (solid, rest))
    → Joins form First Second ts → solid_read (suc room) (ts ++ rest) ≡ Some (solid, rest)
joins-read form First Second a b solid ts rest room first second parts h =
    ap (λ (xs : Tokens). solid_read (suc room) (xs ++ rest)) h.parts
    ∙ word-read form h.line room ((h.first ++ h.second) ++ rest) (Some (solid, rest))
    (parts ((h.first ++ h.second) ++ rest)
    (pair-read a b h.first h.second rest room (first h.first (h.second ++ rest) h.first_is) (second h.second rest h.second_is)))

-- a solid that tokens say is read off their front, with room for its depth
pub said-read : (s : SolidTree) (ts rest : Tokens) (room : ℕ) → Says s ts → depth s ≤ room → solid_read room (ts ++ rest) ≡ Some (s, rest)
said-read (Ball r) ts rest zero said deep = absurd (omega arith)
said-read (Ball r) ts rest (suc room) said deep = leaf-read form.Ball (r ∷ []) (Ball r) ts rest room
    (λ xs e. step (number_read (xs ++ rest)) (r, rest) _ _ (number-read xs rest r e) refl) said
said-read (Block a b c) ts rest zero said deep = absurd (omega arith)
said-read (Block a b c) ts rest (suc room) said deep = leaf-read form.Block (a ∷ b ∷ c ∷ []) (Block a b c) ts rest room
    (λ xs e. step (triple_read (xs ++ rest)) ((a, b, c), rest) _ _ (triple-read xs rest a b c e) refl) said
said-read (Cylinder r h) ts rest zero said deep = absurd (omega arith)
said-read (Cylinder r h) ts rest (suc room) said deep = leaf-read form.Cylinder (r ∷ h ∷ []) (Cylinder r h) ts rest room
    (λ xs e.
    let p = one-number xs rest r (h ∷ []) e in
    step (number_read (xs ++ rest)) (r, p.others ++ rest) _ _ p.read
    (step (number_read (p.others ++ rest)) (h, rest) _ _ (number-read p.others rest h p.spelled) refl)) said
said-read (Move x y z s) ts rest zero said deep = absurd (omega arith)
said-read (Move x y z s) ts rest (suc room) said deep = changes-read form.Move (x ∷ y ∷ z ∷ []) (Says s) s (Move x y z s) ts rest room
    (λ xs h. said-read s xs rest room h (omega arith))
    (λ xs more e p. step (triple_read (xs ++ more)) ((x, y, z), more) _ _ (triple-read xs more x y z e) (step (solid_read room more) (s, rest) _ _ p refl)) said
said-read (Scale k s) ts rest zero said deep = absurd (omega arith)
said-read (Scale k s) ts rest (suc room) said deep = changes-read form.Scale (k ∷ []) (Says s) s (Scale k s) ts rest room
    (λ xs h. said-read s xs rest room h (omega arith))
    (λ xs more e p. step (number_read (xs ++ more)) (k, more) _ _ (number-read xs more k e) (step (solid_read room more) (s, rest) _ _ p refl)) said
said-read (Union a b) ts rest zero said deep = absurd (omega arith)
said-read (Union a b) ts rest (suc room) said deep = joins-read form.Union (Says a) (Says b) a b (Union a b) ts rest room
    (λ xs more h. said-read a xs more room h (omega arith)) (λ xs more h. said-read b xs more room h (omega arith))
    (λ xs p. step (pair_read (solid_read room) xs) ((a, b), rest) _ _ p refl) said
said-read (Intersect a b) ts rest zero said deep = absurd (omega arith)
said-read (Intersect a b) ts rest (suc room) said deep = joins-read form.Intersect (Says a) (Says b) a b (Intersect a b) ts rest room
    (λ xs more h. said-read a xs more room h (omega arith)) (λ xs more h. said-read b xs more room h (omega arith))
    (λ xs p. step (pair_read (solid_read room) xs) ((a, b), rest) _ _ p refl) said
said-read (Difference a b) ts rest zero said deep = absurd (omega arith)
said-read (Difference a b) ts rest (suc room) said deep = joins-read form.Difference (Says a) (Says b) a b (Difference a b) ts rest room
    (λ xs more h. said-read a xs more room h (omega arith)) (λ xs more h. said-read b xs more room h (omega arith))
    (λ xs p. step (pair_read (solid_read room) xs) ((a, b), rest) _ _ p refl) said

-- all tokens that are read as a solid are read off
pub whole-built : (ts : Tokens) (s : SolidTree) → TokensRead ts s → solid_read 256 ts ≡ Some (s, [])
whole-built ts s r = ap (λ (xs : Tokens). solid_read 256 xs) (sym (append-nil ts)) ∙ said-read s ts [] 256 r.said r.shallow

-- and as no other
pub one-read : (ts : Tokens) (a b : SolidTree) → TokensRead ts a → TokensRead ts b → a ≡ b
one-read ts a b x y =
    let same : Some (a, []) ≡ Some (b, []) = sym (whole-built ts a x) ∙ whole-built ts b y in
    ap (λ (read : Option (SolidTree × Tokens)). option_map_or (λ (pair : SolidTree × Tokens). pair.0) read a) same
