-- What a small model is as text.
use Rattle.std.proofs.Common.{◌≡◌, pos, List, [], ◌∷◌, refl}
use Rattle.std.specs.Prelude.{codes}
use Rattle.fixed_ops.specs.declared.operation.Op.TheVariants.{X, Y, Sub, Neg}
use Rattle.solid_model.specs.declared.clause.Clause.{Clause}
use Rattle.clause_reader.specs.ModelText.{model_text}

-- no operand, two of them in their order, and one
abbrev difference : List Clause
difference =
    record { name = codes "x"; op = X; a = 0; b = 0; value = pos 0 }
    ∷ record { name = codes "_1f"; op = Y; a = 0; b = 0; value = pos 0 }
    ∷ record { name = codes "f"; op = Sub; a = 1; b = 0; value = pos 0 }
    ∷ record { name = codes "out"; op = Neg; a = 2; b = 0; value = pos 0 }
    ∷ []

difference_text : model_text difference ≡ codes "x var-x\n_1f var-y\nf sub _1f x\nout neg f\n"
difference_text = refl
