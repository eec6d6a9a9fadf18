use Rattle.oct_descent.proofs.Listed.{layers-mixed}
use Rattle.oct_descent.proofs.laws.layers_have_the_cells.Goals as goal

pub returns : goal.returns
returns c = layers-mixed
