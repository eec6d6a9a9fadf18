-- The tokens of a line are the one list of tokens that it is.
use Rattle.std.proofs.Common.{◌≡◌, ◌↔◌, ℕ, ◌<◌, Bool, true, false, cond, List, [], ◌∷◌, ◌++◌, length, append-nil, refl, sym, ap, subst, ◌∙◌, arith}
use Rattle.std.specs.Prelude.{IsTrue, IsFalse}
use Rattle.std.proofs.lemmas.List.Elements.{All-nil, All-cons, All-head, All-tail}
use Rattle.solid_model.specs.Names.{is_blank}
use Rattle.clause_reader.specs.Lines.{onto_first, tokens_of}
use Rattle.clause_reader.specs.LineLaws.{AreBlanks, HasNoBlank, EndsToken, Spaced}

abbrev Blank : ℕ → Type 0
Blank byte = IsTrue (is_blank byte)

abbrev Solid : ℕ → Type 0
Solid byte = IsFalse (is_blank byte)

-- a blank in front changes no token
Spaced-blank : (byte : ℕ) (line : List ℕ) (tokens : List (List ℕ)) → is_blank byte ≡ true → Spaced line tokens → Spaced (byte ∷ line) tokens
Spaced-blank byte line [] blank all = All-cons Blank byte line blank all
Spaced-blank byte line (token ∷ others) blank (rest, first, later) = (
  rest,
  record {
    gap = byte ∷ first.gap;
    parts = ap (λ bytes. byte ∷ bytes) first.parts;
    blanks = All-cons Blank byte first.gap blank first.blanks;
    some = first.some;
    no_blank = first.no_blank;
    longest = first.longest;
  },
  later,
)

-- a byte that is no blank is a token where what stands after it ends one
Spaced-alone : (byte : ℕ) (line : List ℕ) (tokens : List (List ℕ)) → is_blank byte ≡ false → EndsToken line → Spaced line tokens
    → Spaced (byte ∷ line) ((byte ∷ []) ∷ tokens)
Spaced-alone byte line tokens solid ends spaced = (
  line,
  record {
    gap = [];
    parts = refl;
    blanks = All-nil Blank;
    some = omega arith;
    no_blank = All-cons Solid byte [] solid (All-nil Solid);
    longest = ends;
  },
  spaced,
)

-- a byte that is no blank belongs to the token that begins right after it
Spaced-onto : (byte next : ℕ) (line : List ℕ) (tokens : List (List ℕ)) → is_blank byte ≡ false → is_blank next ≡ false
    → Spaced (next ∷ line) tokens → Spaced (byte ∷ next ∷ line) (onto_first byte tokens)
Spaced-onto byte next line [] solid next_solid all = let blank : is_blank next ≡ true = All-head Blank next line all in (cc)
Spaced-onto byte next line (token ∷ others) solid next_solid (rest, first, later) = by first.gap first.parts first.blanks
  where
    by : (gap : List ℕ) → next ∷ line ≡ gap ++ (token ++ rest) → AreBlanks gap → Spaced (byte ∷ next ∷ line) ((byte ∷ token) ∷ others)
    by [] parts blanks = (
      rest,
      record {
        gap = [];
        parts = ap (λ bytes. byte ∷ bytes) parts;
        blanks = blanks;
        some = omega arith;
        no_blank = All-cons Solid byte token solid first.no_blank;
        longest = first.longest;
      },
      later,
    )
    by (head ∷ gap) parts blanks =
        let same : next ≡ head = cc in
        let blank : is_blank head ≡ true = All-head Blank head gap blanks in
        (cc)

Spaced-tokens_of : (line : List ℕ) → Spaced line (tokens_of line)
Spaced-tokens_of [] = All-nil Blank
Spaced-tokens_of (byte ∷ []) = by (is_blank byte) refl
  where
    by : (t : Bool) → is_blank byte ≡ t → Spaced (byte ∷ []) (cond t [] ((byte ∷ []) ∷ []))
    by true blank = All-cons Blank byte [] blank (All-nil Blank)
    by false solid = Spaced-alone byte [] [] solid tt (All-nil Blank)
Spaced-tokens_of (byte ∷ next ∷ others) = by (is_blank byte) (is_blank next) refl refl (Spaced-tokens_of (next ∷ others))
  where
    by : (t u : Bool) → is_blank byte ≡ t → is_blank next ≡ u → Spaced (next ∷ others) (tokens_of (next ∷ others))
        → Spaced (byte ∷ next ∷ others) (cond t (tokens_of (next ∷ others)) (cond u ((byte ∷ []) ∷ tokens_of (next ∷ others)) (onto_first byte (tokens_of (next ∷ others)))))
    by true u blank is later = Spaced-blank byte (next ∷ others) (tokens_of (next ∷ others)) blank later
    by false true solid blank later = Spaced-alone byte (next ∷ others) (tokens_of (next ∷ others)) solid blank later
    by false false solid next_solid later = Spaced-onto byte next others (tokens_of (next ∷ others)) solid next_solid later

-- blanks in front say nothing
pub tokens_of-blanks : (gap line : List ℕ) → AreBlanks gap → tokens_of (gap ++ line) ≡ tokens_of line
tokens_of-blanks [] line all = refl
tokens_of-blanks (byte ∷ gap) line all =
    one (gap ++ line) (All-head Blank byte gap all) ∙ tokens_of-blanks gap line (All-tail Blank byte gap all)
  where
    one : (bytes : List ℕ) → is_blank byte ≡ true → tokens_of (byte ∷ bytes) ≡ tokens_of bytes
    one [] blank = rw blank refl
    one (next ∷ others) blank = rw blank refl

-- a run of bytes that are no blanks is the first token where what stands after it ends one
tokens_of-first : (byte : ℕ) (token rest : List ℕ) → is_blank byte ≡ false → HasNoBlank token → EndsToken rest
    → tokens_of (byte ∷ token ++ rest) ≡ (byte ∷ token) ∷ tokens_of rest
tokens_of-first byte [] [] solid all ends = rw solid refl
tokens_of-first byte [] (blank ∷ rest) solid all ends = rw (solid, ends) refl
tokens_of-first byte (next ∷ token) rest solid all ends =
    let next_solid : is_blank next ≡ false = All-head Solid next token all in
    rw (solid, next_solid) (ap (onto_first byte) (tokens_of-first next token rest next_solid (All-tail Solid next token all) ends))

pub tokens_of-token : (token rest : List ℕ) → 0 < length token → HasNoBlank token → EndsToken rest → tokens_of (token ++ rest) ≡ token ∷ tokens_of rest
tokens_of-token [] rest some all ends = absurd (omega arith)
tokens_of-token (byte ∷ token) rest some all ends = tokens_of-first byte token rest (All-head Solid byte token all) (All-tail Solid byte token all) ends

-- the tokens that stand in a line are those that `tokens_of` gives
tokens_of-Spaced : (tokens : List (List ℕ)) (line : List ℕ) → Spaced line tokens → tokens_of line ≡ tokens
tokens_of-Spaced [] line all = ap tokens_of (sym (append-nil line)) ∙ tokens_of-blanks line [] all
tokens_of-Spaced (token ∷ others) line (rest, first, later) =
    ap tokens_of first.parts ∙ tokens_of-blanks first.gap (token ++ rest) first.blanks ∙ tokens_of-token token rest first.some first.no_blank first.longest ∙ ap (λ ts. token ∷ ts) (tokens_of-Spaced others rest later)

pub tokens_exactly : (line : List ℕ) (tokens : List (List ℕ)) → (tokens ≡ tokens_of line) ↔ Spaced line tokens
tokens_exactly line tokens =
    (λ e. subst (λ ts. Spaced line ts) (sym e) (Spaced-tokens_of line), λ spaced. sym (tokens_of-Spaced tokens line spaced))
