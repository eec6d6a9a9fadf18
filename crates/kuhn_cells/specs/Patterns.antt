-- Which corners of a tetrahedron are inside, as a list.
use Rattle.std.specs.Prelude.{Bool, List, [], ◌∷◌}
use Rattle.kuhn_cells.specs.declared.pattern.Pattern.{Pattern}

abbrev pub listed : Pattern → List Bool
listed p = p.v0 ∷ p.v1 ∷ p.v2 ∷ p.v3 ∷ []
