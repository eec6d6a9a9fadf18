use Rattle.std.proofs.Common.{◌≡◌, [], ap, arith, ◌∙◌}
use Rattle.std.specs.List.{flat_map, range_with_len}
use Rattle.kuhn_cells.specs.declared.grid_size.GridSize.{GridSize}
use Rattle.oct_descent.specs.Rows.{cells_in_layer}
use Rattle.view_places.specs.Window.{size_of}
use Rattle.oct_descent.proofs.Blocks.{grids_are_bordered_is}
use Rattle.oct_descent.proofs.Listed.{grid-x, grid-y, grid-z, layers-mixed, next-front}
use Rattle.oct_descent.proofs.listing.cell_list.Goals as goal

pub loop-z-preserved : goal.loop-z-preserved
loop-z-preserved c =
    let d = c.args.grid.now in
    next-front (cells_in_layer d.view d.list) [] c.loop-z.cells.items c.push_layer.new.cells.items c.loop-z.z c.loop-z.invariant c.in_ok-push_layer.ensures

pub returns : goal.returns
returns c =
    let d = c.args.grid.now in
    let size = c.n-n.ensures.size in
    let all : c.loop-z.z ≡ (size_of d.view).z = omega (arith, ap (λ (s : GridSize). s.z) size, c.loop-z-test.false, c.loop-z.auto.z-end) in
    record {
      x = grid-x d.view d.list;
      y = grid-y d.view d.list;
      z = grid-z d.view d.list;
      border = grids_are_bordered_is d.view d.list;
      count = size;
      cells = c.loop-z.invariant ∙ ap (λ k. flat_map (cells_in_layer d.view d.list) (range_with_len 0 k)) all ∙ layers-mixed d.view d.list;
    }
