use Rattle.quad_descent.specs.Painting.{Paints, byte_at, covers}
use Rattle.quad_descent.proofs.picture.Picture.fill_box.Given as goal

abbrev pub invariant-loop-j : goal.invariant-loop-j
invariant-loop-j l = Paints (covers l.fn.self.view.w l.fn.band.row (record l.fn.b { y1 = l.j })) (byte_at l.fn.self.view l.fn.self.list l.fn.band.row) l.fn.pixels l.pixels
