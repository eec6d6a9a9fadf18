-- What is told of tokens: that they say a solid, with so many clauses, or why they are none.
use Rattle.std.proofs.Common.{◌≡◌, ◌≢◌, ℕ, ◌+◌, ℤ, Bool, true, false, ◌⊎◌, inl, inr, nat_le, if◌then◌else◌, List, [], ◌∷◌, ◌++◌, append_assoc, append-nil, Option, Some, None, Result, Ok, Err, refl, ap, sym, subst, ◌∙◌, arith}
use Rattle.std.specs.Int.{is_positive}
use Rattle.fixed_ops.specs.Numerals.{numeral}
use Rattle.solid_lang.specs.declared.solid_fault.SolidFault.{SolidFault}
use Rattle.solid_lang.specs.declared.solid_reason.SolidReason.{SolidReason}
use Rattle.solid_lang.specs.declared.solid_reason.SolidReason.TheVariants.{TooDeep, NotPositive, Unended, Empty, NoMemory}
use Rattle.solid_lang.specs.declared.form.Form.{Form}
use Rattle.solid_lang.specs.declared.want.Want.{Want}
use Rattle.solid_lang.specs.declared.want.Want.TheVariants.{Numeral, Size, Whole}
use Rattle.solid_lang.specs.Added.{added}
use Rattle.solid_lang.specs.Counts.{clause_count}
use Rattle.solid_lang.specs.Forms.{form_named}
use Rattle.solid_lang.specs.Judged.{capped, fault_at, judged, told, unless_bad}
use Rattle.solid_lang.specs.Reading.{Says, TokensRead}
use Rattle.solid_lang.specs.Refusing.{EndsWithin, HasBad, TokensRefuse}
use Rattle.solid_lang.specs.Solids.{SolidTree}
use Rattle.solid_lang.specs.Wants.{and_then, form_wants, in_front, numeral_wants, size_wants, take_token, wants_after, wants_of, whole_solid}
use Rattle.solid_lang.proofs.Filling.{all-filled}
use Rattle.solid_lang.proofs.Passing.{Tokens, said-taken}

-- what is wanted after some tokens and others
wants_after-append : (xs ys : Tokens) (wants : List Want) → wants_after wants (xs ++ ys) ≡ and_then (wants_after wants xs) (λ left. wants_after left ys)
wants_after-append [] ys wants = refl
wants_after-append (x ∷ xs) ys wants = by (take_token wants x.1) (λ left. wants_after-append xs ys left)
  where
    by : (r : Result (List Want) SolidReason)
        → ((left : List Want) → wants_after left (xs ++ ys) ≡ and_then (wants_after left xs) (λ l. wants_after l ys))
        → and_then r (λ left. wants_after left (xs ++ ys)) ≡ and_then (and_then r (λ left. wants_after left xs)) (λ l. wants_after l ys)
    by (Err reason) later = refl
    by (Ok left) later = later left

-- a number is told only where all tokens are taken and nothing is wanted after them
judged-all : (ts : Tokens) (c : ℕ) (last : Option ℕ) (wants : List Want) (n : ℕ) → judged c last wants ts ≡ Ok n → wants_after wants ts ≡ Ok []
judged-all [] c last [] n e = refl
judged-all [] c None (w ∷ ws) n e = absurd (cc)
judged-all [] c (Some line) (w ∷ ws) n e = absurd (cc)
judged-all (t ∷ ts) c last wants n e = by (take_token wants t.1) e (λ k left h. judged-all ts k (Some t.0) left n h)
  where
    by : (r : Result (List Want) SolidReason) → unless_bad t.0 r (λ left. judged (capped (c + added wants t.1)) (Some t.0) left ts) ≡ Ok n
        → ((k : ℕ) (left : List Want) → judged k (Some t.0) left ts ≡ Ok n → wants_after left ts ≡ Ok [])
        → and_then r (λ left. wants_after left ts) ≡ Ok []
    by (Err reason) h later = absurd (cc)
    by (Ok left) h later = later (capped (c + added wants t.1)) left h

-- where nothing is wanted after all tokens, they are read
pub whole-read : (ts : Tokens) → wants_after whole_solid ts ≡ Ok [] → (s : SolidTree) × TokensRead ts s
whole-read ts e =
    let f = all-filled ts whole_solid e in
    let w = f.first_is in
    let same : f.first ≡ ts = sym (f.parts ∙ (ap (λ (xs : Tokens). f.first ++ xs) f.second_is ∙ append-nil f.first)) in (
      w.solid,
      record {
        said = subst (λ (xs : Tokens). Says w.solid xs) same w.said;
        sizes = w.sizes;
        shallow = omega (arith, w.shallow);
      },
    )

-- tokens that are read are told as their clauses
pub read-judged : (ts : Tokens) (s : SolidTree) → TokensRead ts s → judged 3 None whole_solid ts ≡ Ok (capped (clause_count s))
read-judged ts s r =
    let p = said-taken s 0 r.sizes (omega (arith, r.shallow)) ts [] 3 None [] r.said in
    ap (λ (xs : Tokens). judged 3 None whole_solid xs) (sym (append-nil ts)) ∙ p.same

pub read-whole : (ts : Tokens) (s : SolidTree) → TokensRead ts s → wants_after whole_solid ts ≡ Ok []
read-whole ts s r = judged-all ts 3 None whole_solid (capped (clause_count s)) (read-judged ts s r)

-- tokens are read as a solid of so many clauses
pub record IsCounted (ts : Tokens) (n : ℕ) : Type 0 where
  pub solid : SolidTree
  pub read : TokensRead ts solid
  pub count : n ≡ capped (clause_count solid)

pub judged-counts : (ts : Tokens) (n : ℕ) → judged 3 None whole_solid ts ≡ Ok n → IsCounted ts n
judged-counts ts n e =
    let w = whole-read ts (judged-all ts 3 None whole_solid n e) in
    let same = read-judged ts w.0 w.1 in
    record { solid = w.0; read = w.1; count = (cc) }

-- the last of some tokens is on this line
record HasLast (before : Tokens) (line : ℕ) : Type 0 where
  front : Tokens
  token : List ℕ
  is : before ≡ front ++ (line, token) ∷ []

abbrev IsLast : Tokens → Option ℕ → Type 0
IsLast before None = before ≡ []
IsLast before (Some line) = HasLast before line

-- one token more is taken
after-one : (before : Tokens) (t : ℕ × List ℕ) (wants left : List Want) → wants_after whole_solid before ≡ Ok wants → take_token wants t.1 ≡ Ok left
    → wants_after whole_solid (before ++ t ∷ []) ≡ Ok left
after-one before t wants left good taken =
    wants_after-append before (t ∷ []) whole_solid
    ∙ (ap (λ (r : Result (List Want) SolidReason). and_then r (λ l. wants_after l (t ∷ []))) good
    ∙ ap (λ (r : Result (List Want) SolidReason). and_then r (λ l. wants_after l [])) taken)

judged-refuses : (ts before : Tokens) (wants : List Want) (c : ℕ) (last : Option ℕ) (f : SolidFault) → wants_after whole_solid before ≡ Ok wants
    → IsLast before last → judged c last wants ts ≡ Err f → TokensRefuse (before ++ ts) f.line f.reason
judged-refuses [] before [] c last f good is e = absurd (cc)
judged-refuses [] before (w ∷ ws) c None f good is e =
    let same : f ≡ fault_at 0 Empty = (cc) in
    inl (record {
      none = ap (λ (xs : Tokens). xs ++ []) is;
      zero = ap (λ (g : SolidFault). g.line) same;
      empty = ap (λ (g : SolidFault). g.reason) same;
    })
judged-refuses [] before (w ∷ ws) c (Some line) f good is e =
    let same : f ≡ fault_at line Unended = (cc) in
    let ends : EndsWithin (before ++ []) line Unended = record {
      before = is.front;
      token = is.token;
      parts = append-nil before ∙ is.is;
      want = w;
      wants = ws;
      good = ap (λ (xs : Tokens). wants_after whole_solid xs) (append-nil before) ∙ good;
      unended = refl;
    } in
    subst (λ (g : SolidFault). TokensRefuse (before ++ []) g.line g.reason) (sym same) (inr (inr ends))
judged-refuses (t ∷ ts) before wants c last f good is e =
    by (take_token wants t.1) refl e
    (λ k left h j. judged-refuses ts (before ++ t ∷ []) left k (Some t.0) f h (record { front = before; token = t.1; is = refl }) j)
  where
    by : (r : Result (List Want) SolidReason) → take_token wants t.1 ≡ r
        → unless_bad t.0 r (λ left. judged (capped (c + added wants t.1)) (Some t.0) left ts) ≡ Err f
        → ((k : ℕ) (left : List Want) → wants_after whole_solid (before ++ t ∷ []) ≡ Ok left → judged k (Some t.0) left ts ≡ Err f
        → TokensRefuse ((before ++ t ∷ []) ++ ts) f.line f.reason)
        → TokensRefuse (before ++ t ∷ ts) f.line f.reason
    by (Err reason) taken h later =
        let same : f ≡ fault_at t.0 reason = (cc) in
        let bad : HasBad (before ++ t ∷ ts) t.0 reason = record {
          before = before;
          token = t.1;
          after = ts;
          parts = refl;
          wants = wants;
          good = good;
          bad = taken;
        } in
        subst (λ (g : SolidFault). TokensRefuse (before ++ t ∷ ts) g.line g.reason) (sym same) (inr (inl bad))
    by (Ok left) taken h later =
        subst (λ (xs : Tokens). TokensRefuse xs f.line f.reason) (append_assoc before (t ∷ []) ts)
        (later (capped (c + added wants t.1)) left (after-one before t wants left good taken) h)

-- a fault that is told is one for which the tokens are none
pub told-refuses : (ts : Tokens) (f : SolidFault) → judged 3 None whole_solid ts ≡ Err f → TokensRefuse ts f.line f.reason
told-refuses ts f e = judged-refuses ts [] whole_solid 3 None f refl refl e

-- what is told of tokens is what is told of those that are left
record Comes (before : Result ℕ SolidFault) (left : List Want) (rest : Tokens) : Type 0 where
  clauses : ℕ
  last : Option ℕ
  same : before ≡ judged clauses last left rest

judged-goes : (before rest : Tokens) (wants left : List Want) (c : ℕ) (last : Option ℕ) → wants_after wants before ≡ Ok left
    → Comes (judged c last wants (before ++ rest)) left rest
judged-goes [] rest wants left c last e =
    let same : wants ≡ left = (cc) in
    record { clauses = c; last = last; same = ap (λ (ws : List Want). judged c last ws rest) same }
judged-goes (t ∷ ts) rest wants left c last e = by (take_token wants t.1) e (λ k middle h. judged-goes ts rest middle left k (Some t.0) h)
  where
    by : (r : Result (List Want) SolidReason) → and_then r (λ l. wants_after l ts) ≡ Ok left
        → ((k : ℕ) (middle : List Want) → wants_after middle ts ≡ Ok left → Comes (judged k (Some t.0) middle (ts ++ rest)) left rest)
        → Comes (unless_bad t.0 r (λ l. judged (capped (c + added wants t.1)) (Some t.0) l (ts ++ rest))) left rest
    by (Err reason) h later = absurd (cc)
    by (Ok middle) h later = later (capped (c + added wants t.1)) middle h

-- after one token more, something is wanted
last-told : (left : List Want) (token : List ℕ) (line c : ℕ) (last : Option ℕ) (want : Want) (wants : List Want)
    → wants_after left ((line, token) ∷ []) ≡ Ok (want ∷ wants) → judged c last left ((line, token) ∷ []) ≡ Err (fault_at line Unended)
last-told left token line c last want wants e = by (take_token left token) e
  where
    by : (r : Result (List Want) SolidReason) → and_then r (λ l. wants_after l []) ≡ Ok (want ∷ wants)
        → unless_bad line r (λ l. judged (capped (c + added left token)) (Some line) l []) ≡ Err (fault_at line Unended)
    by (Err reason) h = absurd (cc)
    by (Ok l) h =
        let same : l ≡ want ∷ wants = (cc) in
        ap (λ (ws : List Want). told (capped (c + added left token)) (Some line) ws) same

ends-judged : (ts : Tokens) (line : ℕ) (reason : SolidReason) → EndsWithin ts line reason → judged 3 None whole_solid ts ≡ Err (fault_at line Unended)
ends-judged ts line reason h =
    by (wants_after whole_solid h.before) refl
    (sym (wants_after-append h.before ((line, h.token) ∷ []) whole_solid) ∙ (ap (λ (xs : Tokens). wants_after whole_solid xs) (sym h.parts) ∙ h.good))
  where
    by : (r : Result (List Want) SolidReason) → wants_after whole_solid h.before ≡ r
        → and_then r (λ l. wants_after l ((line, h.token) ∷ [])) ≡ Ok (h.want ∷ h.wants) → judged 3 None whole_solid ts ≡ Err (fault_at line Unended)
    by (Err bad) is e = absurd (cc)
    by (Ok left) is e =
        let q = judged-goes h.before ((line, h.token) ∷ []) whole_solid left 3 None is in
        ap (λ (xs : Tokens). judged 3 None whole_solid xs) h.parts ∙ (q.same ∙ last-told left h.token line q.clauses q.last h.want h.wants e)

-- tokens that are none are told as that fault
pub refuses-told : (ts : Tokens) (line : ℕ) (reason : SolidReason) → TokensRefuse ts line reason → judged 3 None whole_solid ts ≡ Err (fault_at line reason)
refuses-told ts line reason (inl h) =
    ap (λ (xs : Tokens). judged 3 None whole_solid xs) h.none
    ∙ (ap (λ (l : ℕ). Err (fault_at l Empty)) (sym h.zero) ∙ ap (λ (r : SolidReason). Err (fault_at line r)) (sym h.empty))
refuses-told ts line reason (inr (inl h)) =
    let q = judged-goes h.before ((line, h.token) ∷ h.after) whole_solid h.wants 3 None h.good in
    let step : judged q.clauses q.last h.wants ((line, h.token) ∷ h.after) ≡ Err (fault_at line reason)
    = ap (λ (r : Result (List Want) SolidReason). unless_bad line r (λ left. judged (capped (q.clauses + added h.wants h.token)) (Some line) left h.after)) h.bad in
    ap (λ (xs : Tokens). judged 3 None whole_solid xs) h.parts ∙ (q.same ∙ step)
refuses-told ts line reason (inr (inr h)) =
    ends-judged ts line reason h ∙ ap (λ (r : SolidReason). Err (fault_at line r)) (sym h.unended)

-- no tokens are both
pub never_both : (ts : Tokens) (s : SolidTree) (line : ℕ) (reason : SolidReason) → TokensRead ts s → TokensRefuse ts line reason → ⊥
never_both ts s line reason reads refuses =
    let a = read-judged ts s reads in
    let b = refuses-told ts line reason refuses in
    (cc)

pub tokens_refuse_once : (ts : Tokens) (a b : SolidFault) → TokensRefuse ts a.line a.reason → TokensRefuse ts b.line b.reason → a ≡ b
tokens_refuse_once ts a b x y =
    let p = refuses-told ts a.line a.reason x in
    let q = refuses-told ts b.line b.reason y in
    (cc)

pub each_answered : (ts : Tokens) → ((s : SolidTree) × TokensRead ts s) ⊎ ((f : SolidFault) × TokensRefuse ts f.line f.reason)
each_answered ts = by (judged 3 None whole_solid ts) refl
  where
    by : (r : Result ℕ SolidFault) → judged 3 None whole_solid ts ≡ r
        → ((s : SolidTree) × TokensRead ts s) ⊎ ((f : SolidFault) × TokensRefuse ts f.line f.reason)
    by (Ok n) e = let h = judged-counts ts n e in inl (h.solid, h.read)
    by (Err f) e = inr (f, told-refuses ts f e)

-- want of memory is no matter of the tokens
take-no-memory : (wants : List Want) (token : List ℕ) → take_token wants token ≢ Err NoMemory
take-no-memory [] token e = (cc)
take-no-memory (Numeral ∷ ws) token e = by (numeral token) e
  where
    by : (value : Option ℤ) → in_front ws (numeral_wants value) ≢ Err NoMemory
    by None h = (cc)
    by (Some n) h = (cc)
take-no-memory (Size ∷ ws) token e = by (numeral token) e
  where
    with_test : (b : Bool) → in_front ws (if b then Ok [] else Err NotPositive) ≢ Err NoMemory
    with_test true h = (cc)
    with_test false h = (cc)

    by : (value : Option ℤ) → in_front ws (size_wants value) ≢ Err NoMemory
    by None h = (cc)
    by (Some n) h = with_test (is_positive n) h
take-no-memory (Whole within ∷ ws) token e = by (form_named token) e
  where
    with_test : (own : List Want) (b : Bool) → in_front ws (if b then Err TooDeep else Ok own) ≢ Err NoMemory
    with_test own true h = (cc)
    with_test own false h = (cc)

    by : (named : Option Form) → in_front ws (form_wants within named) ≢ Err NoMemory
    by None h = (cc)
    by (Some form) h = with_test (wants_of within form) (nat_le 256 within) h

pub no-memory : (ts : Tokens) (line : ℕ) → TokensRefuse ts line NoMemory → ⊥
no-memory ts line (inl h) = let e = h.empty in (cc)
no-memory ts line (inr (inl h)) = take-no-memory h.wants h.token h.bad
no-memory ts line (inr (inr h)) = let e = h.unended in (cc)
