-- What a form says: an operation, the names of its operands, and the number of a constant.
use Rattle.std.specs.Prelude.{◌≡◌, ◌≢◌, ℕ, ℤ, pos, List, length}
use Rattle.fixed_ops.specs.declared.operation.Op.{Op}
use Rattle.fixed_ops.specs.declared.operation.Op.TheVariants.{Const}
use Rattle.fixed_ops.specs.Arity.{arity_of}
use Rattle.fixed_ops.specs.Raw.{IsRaw}

pub record Parts : Type 0 where
  pub op : Op
  pub args : List (List ℕ)
  pub value : ℤ

-- as many names as the operation has operands, and a raw number, which is 0 but at a constant
pub record IsForm (form : Parts) : Type 0 where
  pub arity : length form.args ≡ arity_of form.op
  pub no_value : form.op ≢ Const → form.value ≡ pos 0
  pub raw : IsRaw form.value
