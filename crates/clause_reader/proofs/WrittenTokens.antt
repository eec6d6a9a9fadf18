-- What is written is made of lines of tokens, which are the lines and the tokens that are read.
use Rattle.std.proofs.Common.{◌≡◌, ◌≢◌, ℕ, ◌-◌, ◌*◌, ◌/◌, ◌%◌, ◌^◌, ◌<◌, suc, zero, ℤ, pos, negsuc, Bool, true, false, not, ◌||◌, List, [], ◌∷◌, ◌++◌, length, map, replicate, decimal, refl, sym, ap, ◌∙◌, arith, eqb}
use Rattle.std.specs.Prelude.{All, IsTrue, IsFalse}
use Rattle.std.specs.Char.{digit_value}
use Rattle.std.specs.List.{flat_map, list_all}
use Rattle.std.specs.Str.Parse.{AllDigits}
use Rattle.std.proofs.lemmas.Bool.{and_parts, eqb-false}
use Rattle.std.proofs.lemmas.Bool.Decides.{nat_tests}
use Rattle.std.proofs.lemmas.Int.{ints}
use Rattle.std.proofs.lemmas.List.{length-append}
use Rattle.std.proofs.lemmas.List.Elements.{All-nil, All-cons, All-head, All-tail, All-append}
use Rattle.std.proofs.lemmas.List.Folds.{list_all-append}
use Rattle.std.proofs.lemmas.Str.Parse.{digit_from_value}
use Rattle.fixed_ops.specs.declared.operation.Op.{Op}
use Rattle.fixed_ops.specs.declared.operation.Op.TheVariants.{X}
use Rattle.fixed_ops.specs.NumberTexts.{number_text, size_text, zero_padded}
use Rattle.fixed_ops.specs.OpNames.{name_of}
use Rattle.fixed_ops.specs.Raw.{IsRaw}
use Rattle.solid_model.specs.Names.{is_blank, is_token_byte, IsName}
use Rattle.clause_reader.specs.Lines.{lines_of, tokens_of}
use Rattle.clause_reader.specs.LineLaws.{ended, EndsToken, HasNoBlank, HasNoFeed, Spaced}
use Rattle.clause_reader.specs.ModelText.{spaced}
use Rattle.clause_reader.proofs.LineLemmas.{lines_of-ended}
use Rattle.clause_reader.proofs.TokenLemmas.{tokens_exactly}
use Rattle.solid_model.proofs.TokenBytes.{token_digits}

-- bytes that may stand in a token, at least one
abbrev pub IsToken : List ℕ → Type 0
IsToken token = (0 < length token) × (list_all is_token_byte token ≡ true)

-- neither of two tests passes where their disjunction fails
pub neither_passes : (p q : Bool) → not (p || q) ≡ true → (p ≡ false) × (q ≡ false)
neither_passes true q e = (cc)
neither_passes false true e = (cc)
neither_passes false false e = (refl, refl)

-- a token holds no blank and no line feed
pub token_bytes : (bytes : List ℕ) → list_all is_token_byte bytes ≡ true → HasNoBlank bytes × HasNoFeed bytes
token_bytes [] e = (All-nil (λ b. IsFalse (is_blank b)), All-nil (λ b. b ≢ 10))
token_bytes (byte ∷ bytes) e =
    let both = and_parts (is_token_byte byte) (list_all is_token_byte bytes) e in
    let neither = neither_passes (is_blank byte) (eqb byte 10) both.0 in
    let later = token_bytes bytes both.1 in
    (All-cons (λ b. IsFalse (is_blank b)) byte bytes neither.0 later.0, All-cons (λ b. b ≢ 10) byte bytes (eqb-false byte 10 neither.1) later.1)

-- what follows a token ends it
pub spaced_ends : (tokens : List (List ℕ)) → EndsToken (spaced tokens)
spaced_ends [] = tt
spaced_ends (token ∷ tokens) = refl

Spaced-spaced : (tokens : List (List ℕ)) → All IsToken tokens → Spaced (spaced tokens) tokens
Spaced-spaced [] all = All-nil (λ b. IsTrue (is_blank b))
Spaced-spaced (token ∷ tokens) all =
    let is = All-head IsToken token tokens all in (
      spaced tokens,
      record {
        gap = 32 ∷ [];
        parts = refl;
        blanks = All-cons (λ b. IsTrue (is_blank b)) 32 [] refl (All-nil (λ b. IsTrue (is_blank b)));
        some = is.0;
        no_blank = (token_bytes token is.1).0;
        longest = spaced_ends tokens;
      },
      Spaced-spaced tokens (All-tail IsToken token tokens all),
    )

-- a token, and others after a space each, are the tokens of their line
pub tokens_of-spaced : (token : List ℕ) (tokens : List (List ℕ)) → IsToken token → All IsToken tokens → tokens_of (token ++ spaced tokens) ≡ token ∷ tokens
tokens_of-spaced token tokens is all =
    sym ((tokens_exactly (token ++ spaced tokens) (token ∷ tokens)).1 (
      spaced tokens,
      record {
        gap = [];
        parts = refl;
        blanks = All-nil (λ b. IsTrue (is_blank b));
        some = is.0;
        no_blank = (token_bytes token is.1).0;
        longest = spaced_ends tokens;
      },
      Spaced-spaced tokens all,
    ))

-- such a line holds no line feed
no_feed-spaced : (tokens : List (List ℕ)) → All IsToken tokens → HasNoFeed (spaced tokens)
no_feed-spaced [] all = All-nil (λ b. b ≢ 10)
no_feed-spaced (token ∷ tokens) all =
    let is = All-head IsToken token tokens all in
    All-append (λ b. b ≢ 10) (32 ∷ token) (spaced tokens)
    (All-cons (λ b. b ≢ 10) 32 token (omega arith) (token_bytes token is.1).1) (no_feed-spaced tokens (All-tail IsToken token tokens all))

-- a line of tokens holds no line feed
pub no_feed : (token : List ℕ) (tokens : List (List ℕ)) → IsToken token → All IsToken tokens → HasNoFeed (token ++ spaced tokens)
no_feed token tokens is all = All-append (λ b. b ≢ 10) token (spaced tokens) (token_bytes token is.1).1 (no_feed-spaced tokens all)

-- lines that a line feed ends each are read as they are
ended-map : {C : Type 0} (line : C → List ℕ) (clauses : List C) → flat_map (λ c. line c ++ 10 ∷ []) clauses ≡ ended (map line clauses)
ended-map line [] = refl
ended-map line (c ∷ clauses) = ap (λ rest. (line c ++ 10 ∷ []) ++ rest) (ended-map line clauses)

pub lines_of-written : {C : Type 0} (line : C → List ℕ) (clauses : List C) → All HasNoFeed (map line clauses) → lines_of (flat_map (λ c. line c ++ 10 ∷ []) clauses) ≡ map line clauses
lines_of-written line clauses all = ap lines_of (ended-map line clauses) ∙ lines_of-ended (map line clauses) all

-- a name is a token
pub name_is_token : (name : List ℕ) → IsName name → IsToken name
name_is_token [] is = (cc)
name_is_token (byte ∷ bytes) is = (omega arith, (and_parts (not (eqb byte 35)) (list_all is_token_byte (byte ∷ bytes)) is).1)

-- so is the name of an operation
pub op_is_token : (op : Op) → IsToken (name_of op)
op_is_token X = (omega arith, refl)
op_is_token op = (omega arith, refl)

-- a digit may stand in a token
digit_in_token : (c : ℕ) → digit_value c < 10 → is_token_byte c ≡ true
digit_in_token c h =
    let r = digit_from_value c h in
    let space : eqb c 32 ≡ false = grind (arith, nat_tests) in
    let tab : eqb c 9 ≡ false = grind (arith, nat_tests) in
    let return : eqb c 13 ≡ false = grind (arith, nat_tests) in
    let feed : eqb c 10 ≡ false = grind (arith, nat_tests) in
    rw (space, tab, return, feed) refl

digits_in_token : (ds : List ℕ) → AllDigits 10 ds → list_all is_token_byte ds ≡ true
digits_in_token [] all = refl
digits_in_token (d ∷ ds) all = rw (digit_in_token d all.0) (digits_in_token ds all.1)

-- zeros may stand in a token
pub zeros_in_token : (k : ℕ) → list_all is_token_byte (replicate k 48) ≡ true
zeros_in_token zero = refl
zeros_in_token (suc k) = zeros_in_token k

size_in_token : (n : ℕ) → n < 2 ^ 62 → list_all is_token_byte (size_text n) ≡ true
unfolding size_text
size_in_token n small =
    let whole = token_digits (n / 2 ^ 32) (omega arith) in
    let cut = n % 2 ^ 32 * 10 ^ 10 / 2 ^ 32 in
    let decimals = token_digits cut (omega arith) in
    let padding = replicate (10 - length (decimal cut)) 48 in
    let zeros = zeros_in_token (10 - length (decimal cut)) in
    let padded : list_all is_token_byte (zero_padded 10 cut) ≡ true = list_all-append is_token_byte padding (decimal cut) ∙ rw (zeros, decimals) refl in
    list_all-append is_token_byte (decimal (n / 2 ^ 32)) (46 ∷ zero_padded 10 cut) ∙ rw (whole, padded) refl

-- a number text has a byte
size_some : (n : ℕ) → 0 < length (size_text n)
unfolding size_text
size_some n = omega (arith, length-append (decimal (n / 2 ^ 32)) (46 ∷ zero_padded 10 (n % 2 ^ 32 * 10 ^ 10 / 2 ^ 32)))

-- the text of a raw number is a token
pub number_is_token : (v : ℤ) → IsRaw v → IsToken (number_text v)
number_is_token (pos n) raw = (size_some n, size_in_token n (omega (arith, ints, raw)))
number_is_token (negsuc n) raw = (omega arith, size_in_token (suc n) (omega (arith, ints, raw)))
