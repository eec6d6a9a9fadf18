-- The words of a line, one after the other.
use Rattle.std.proofs.Common.{◌≡◌, ℕ, List, [], ◌∷◌, ◌++◌, Bool, true, false, ◌&&◌, refl, sym, ◌∙◌, append-nil}
use Rattle.std.specs.Prelude.{if◌then◌else◌}
use Rattle.std.specs.List.{list_all}
use Rattle.std.specs.Str.{IsUtf8, is_utf8}
use Rattle.std.proofs.Math.Seq.{append_snoc}
use Rattle.std.proofs.lemmas.List.Folds.{list_all-append}
use Rattle.std.proofs.lemmas.Str.{IsUtf8-from_is_utf8, is_utf8-from_IsUtf8}
use Rattle.clause_reader.specs.Scan.{line_tokens}
use Rattle.modeller_c.specs.Words.{words_in}
use Rattle.std.proofs.lemmas.Bool.{false_from_ne_true}

-- these words, which are texts, and then these tokens are those of the line
pub record Takes (line : List ℕ) (words tokens : List (List ℕ)) : Type 0 where
  pub parts : line_tokens line ≡ words ++ tokens
  pub texts : list_all is_utf8 words ≡ true

-- a token that is a text is the next word
pub takes-more : (line : List ℕ) (words : List (List ℕ)) (token : List ℕ) (tokens rest : List (List ℕ)) → Takes line words tokens
    → tokens ≡ token ∷ rest → IsUtf8 token → Takes line (words ++ token ∷ []) rest
takes-more line words token tokens rest takes is text =
    record {
      parts = takes.parts ∙ rw is (sym (append_snoc words token rest));
      texts = list_all-append is_utf8 words (token ∷ []) ∙ rw takes.texts (rw (is_utf8-from_IsUtf8 token text) refl);
    }

-- where no token is left, these are the words of the line
pub takes-all : (line : List ℕ) (words tokens : List (List ℕ)) → Takes line words tokens → tokens ≡ [] → words ≡ words_in line
takes-all line words tokens takes none = by (line_tokens line) (takes.parts ∙ rw none (append-nil words))
  where
    by : (all : List (List ℕ)) → all ≡ words → words ≡ (if list_all is_utf8 all then all else [])
    by all is = rw is (rw takes.texts refl)

and-false : (b : Bool) → (b && false) ≡ false
and-false true = refl
and-false false = refl

-- where a token is no text, the line has no words
pub takes-none : (line : List ℕ) (words : List (List ℕ)) (token : List ℕ) (tokens rest : List (List ℕ)) → Takes line words tokens
    → tokens ≡ token ∷ rest → ¬ (IsUtf8 token) → [] ≡ words_in line
takes-none line words token tokens rest takes is never = by (line_tokens line) (takes.parts ∙ rw is refl)
  where
    other : is_utf8 token ≡ false
    other = false_from_ne_true (is_utf8 token) (λ yes. never (IsUtf8-from_is_utf8 token yes))

    some : list_all is_utf8 (words ++ token ∷ rest) ≡ false
    some = list_all-append is_utf8 words (token ∷ rest) ∙ rw other (and-false (list_all is_utf8 words))

    by : (all : List (List ℕ)) → all ≡ words ++ token ∷ rest → [] ≡ (if list_all is_utf8 all then all else [])
    by all parts = rw parts (rw some refl)
