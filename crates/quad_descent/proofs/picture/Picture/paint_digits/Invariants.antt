use Rattle.std.proofs.Common.{◌≡◌, ◌+◌, ◌-◌, ◌*◌, map}
use Rattle.std.specs.List.{range_with_len}
use Rattle.fixed_ops.specs.Raw.{is_inside}
use Rattle.live_clauses.specs.Steps.{tape_value}
use Rattle.view_places.specs.Places.{point_of}
use Rattle.view_places.specs.declared.lattice.Lattice.TheVariants.{Raster}
use Rattle.quad_descent.specs.Nodes.{bits_of}
use Rattle.quad_descent.specs.Painting.{Paints, among, byte_at}
use Rattle.quad_descent.proofs.picture.Picture.paint_digits.Given as goal

abbrev pub invariant-loop-n : goal.invariant-loop-n
invariant-loop-n l = record {
  rest : l.rest ≡ bits_of (map (λ i. is_inside (tape_value (point_of l.fn.self.view Raster i l.fn.j l.fn.b.z0) l.fn.self.list)) (range_with_len l.fn.b.x0 (l.fn.b.x1 - l.fn.b.x0 - l.n)));
  paints : Paints (among ((l.fn.j - l.fn.band.row) * l.fn.self.view.w + (l.fn.b.x1 - l.n)) ((l.fn.j - l.fn.band.row) * l.fn.self.view.w + l.fn.b.x1)) (byte_at l.fn.self.view l.fn.self.list l.fn.band.row) l.fn.pixels l.pixels;
}
