-- The names of operands that are lent, as what they say.
use Rattle.std.specs.Prelude.{ℕ, List, [], ◌∷◌}
use Rattle.solid_model.specs.declared.form_ref.ArgsRef.{ArgsRef}
use Rattle.solid_model.specs.declared.form_ref.ArgsRef.TheVariants.{Zero, One, Two}

-- the names of operands
abbrev pub args_seen : ArgsRef → List (List ℕ)
args_seen Zero = []
args_seen (One x) = x.now ∷ []
args_seen (Two x y) = x.now ∷ y.now ∷ []
