-- The operation that a word names.
use Rattle.std.proofs.Common.{◌≡◌, ◌≢◌, ℕ, Bool, true, false, cond, List, [], ◌∷◌, Some, None, refl}
use Rattle.std.specs.List.{find}
use Rattle.std.specs.Str.{bytes_eq}
use Rattle.std.specs.Cmp.Lexicographic.{bytes_decides}
use Rattle.fixed_ops.specs.declared.operation.Op.{Op}
use Rattle.fixed_ops.specs.declared.operation.Op.TheVariants.{X}
use Rattle.fixed_ops.specs.OpNames.{name_of}
use Rattle.clause_reader.specs.Forms.{operations, operation_of}

-- the name of an operation names it
pub operation_of-name : (op : Op) → operation_of (name_of op) ≡ Some op
operation_of-name X = refl
operation_of-name op = refl

-- and a word that is no name names none
pub operation_of-none : (word : List ℕ) → ((op : Op) → word ≢ name_of op) → operation_of word ≡ None
operation_of-none word none = all operations
  where
    all : (ops : List Op) → find (λ op. bytes_eq word (name_of op)) ops ≡ None
    all [] = refl
    all (op ∷ ops) = by (bytes_eq word (name_of op)) refl (all ops)
      where
        by : (b : Bool) → bytes_eq word (name_of op) ≡ b → find (λ op. bytes_eq word (name_of op)) ops ≡ None
            → cond b (Some op) (find (λ op. bytes_eq word (name_of op)) ops) ≡ None
        by true same later = absurd (none op ((bytes_decides word (name_of op)).0 same))
        by false other later = later
