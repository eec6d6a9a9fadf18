-- The cells of the grid make its mesh.
use Rattle.std.proofs.Common.{ap, arith, ◌∙◌}
use Rattle.tetra_mesh.specs.Sides.{AreSidesOf}
use Rattle.grid_text.specs.Texts.{cells_of}
use Rattle.grid_text.proofs.CellLaws.{own_cells, own_sides, text_is}
use Rattle.grid_text.proofs.grid_pieces.GridPieces.over.Goals as goal

pub over-requires : goal.over-requires
over-requires c =
    let d = c.args.grid.now in
    (cells_of d.view d.list, own_sides d.view d.list c.n.result c.in_ok-sided.sided.items c.n.ensures.size c.n.ensures.bounded c.in_ok-sided.ensures)

pub invariant_of-result : goal.invariant_of-result
invariant_of-result c =
    let d = c.args.grid.now in
    let sides = own_sides d.view d.list c.n.result c.in_ok-sided.sided.items c.n.ensures.size c.n.ensures.bounded c.in_ok-sided.ensures in
    record {
      over = c.put_header.ensures.view ∙ c.in_ok-restart.ensures.view ∙ c.view.ensures;
      cells = rw c.in_ok-walk.ensures (own_cells d.view d.list c.in_ok-sided.sided.items c.in_ok-sided.ensures);
      sides = rw c.in_ok-walk.ensures sides;
      within = omega arith;
    }

pub returns : goal.returns
returns c =
    let d = c.args.grid.now in
    let sides = own_sides d.view d.list c.n.result c.in_ok-sided.sided.items c.n.ensures.size c.n.ensures.bounded c.in_ok-sided.ensures in
    let now : AreSidesOf c.in_ok-walk.walk.n (cells_of d.view d.list) c.in_ok-walk.walk.sided = rw c.in_ok-walk.ensures sides in
    text_is d.view d.list c.vertex_count.result c.face_count.result c.in_ok-walk.walk.made c.put_header.new.self.bytes c.restart.new.self.bytes
    (c.vertex_count.ensures.exact (cells_of d.view d.list) now) (c.face_count.ensures.exact (cells_of d.view d.list) now) (ap (λ (w : _). w.made) c.in_ok-walk.ensures) c.in_ok-restart.ensures.none c.put_header.ensures.header
