-- What operations are applied to.
use Rattle.fixed_ops.specs.declared.operation.Op.{Op}
use Rattle.fixed_ops.specs.declared.operation.Op.TheVariants.{X, Y, Z, Const}
use Rattle.choice_trace.specs.declared.inputs.Inputs.{Inputs}

-- the operand of an operation: the element of its coordinate or of its constant, or that of an
-- earlier step
abbrev pub operand_of : {D : Type 0} → Op → Inputs D → D → D → D
operand_of X inputs constant earlier = inputs.x
operand_of Y inputs constant earlier = inputs.y
operand_of Z inputs constant earlier = inputs.z
operand_of Const inputs constant earlier = constant
operand_of op inputs constant earlier = earlier
