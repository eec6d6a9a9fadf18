use Rattle.quad_descent.specs.Painting.{Paints, among}
use Rattle.quad_descent.proofs.filling.fill_eight.Given as goal

abbrev pub invariant-loop-p : goal.invariant-loop-p
invariant-loop-p l = Paints (among l.fn.from l.p) (λ _. l.byte) l.fn.pixels l.pixels
