-- A clause line is refused for the lowest reason that holds in it.
use Rattle.std.proofs.Common.{◌≡◌, ℕ, suc, Bool, true, false, not, eqb, nat_le, List, [], ◌∷◌, length, Option, Some, None, is_some, refl, arith}
use Rattle.std.specs.List.{find, list_any}
use Rattle.std.proofs.lemmas.Bool.Decides.{nat_tests}
use Rattle.fixed_ops.specs.declared.operation.Op.{Op}
use Rattle.solid_model.specs.declared.clause.Clause.{Clause}
use Rattle.solid_model.specs.Clauses.{place_of}
use Rattle.clause_reader.specs.Forms.{operation_of, takes, operands, numerals, is_no_numeral}
use Rattle.clause_reader.specs.Reading.{clauses_with, has_unknown}
use Rattle.clause_reader.specs.Reasons.{LineReasonsAreLowest, holds, reason_in, reasons}

-- more than one token
more : (n : ℕ) → nat_le (suc (suc n)) 1 ≡ false
more n = grind (arith, nat_tests)

-- what is said of a name, a word and arguments
abbrev AreLowest : List Clause → List (List ℕ) → Type 0
AreLowest clauses tokens =
    reason_in (clauses_with clauses tokens) ≡ find (λ reason. holds clauses tokens reason) reasons

-- where the word names an operation
under : (clauses : List Clause) (name word : List ℕ) (args : List (List ℕ)) (op : Op)
    → operation_of word ≡ Some op → AreLowest clauses (name ∷ word ∷ args)
under clauses name word args op e =
    by (not (eqb (length args) (takes op))) (list_any is_no_numeral (numerals op args))
    (has_unknown clauses (operands op args)) (is_some (place_of clauses name))
    (nat_le 65535 (length clauses)) refl refl refl refl refl
  where
    by : (arity number unknown double many : Bool)
        → not (eqb (length args) (takes op)) ≡ arity
        → list_any is_no_numeral (numerals op args) ≡ number
        → has_unknown clauses (operands op args) ≡ unknown
        → is_some (place_of clauses name) ≡ double
        → nat_le 65535 (length clauses) ≡ many
        → AreLowest clauses (name ∷ word ∷ args)
    by true number unknown double many a n u d m = rw (more (length args), e, a) refl
    by false true unknown double many a n u d m = rw (more (length args), e, a, n) refl
    by false false true double many a n u d m = rw (more (length args), e, a, n, u) refl
    by false false false true many a n u d m = rw (more (length args), e, a, n, u, d) refl
    by false false false false true a n u d m = rw (more (length args), e, a, n, u, d, m) refl
    by false false false false false a n u d m = rw (more (length args), e, a, n, u, d, m) refl

pub line-reasons-lowest : LineReasonsAreLowest
line-reasons-lowest clauses [] = refl
line-reasons-lowest clauses (name ∷ []) = refl
line-reasons-lowest clauses (name ∷ word ∷ args) = by (operation_of word) refl
  where
    by : (o : Option Op) → operation_of word ≡ o → AreLowest clauses (name ∷ word ∷ args)
    by None e = rw (more (length args), e) refl
    by (Some op) e = under clauses name word args op e
