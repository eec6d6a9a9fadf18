-- One row after another.
use Rattle.std.proofs.Common.{◌++◌, ap, ◌∙◌}
use Rattle.std.specs.Prelude.{map}
use Rattle.oct_descent.specs.Rows.{cells_in_row}
use Rattle.tetra_mesh.specs.Sides.{sided_of}
use Rattle.grid_text.proofs.CellLaws.{sides_more}
use Rattle.grid_text.proofs.sided_cells.push_layer.Goals as goal

pub loop-y-preserved : goal.loop-y-preserved
loop-y-preserved c =
    let d = c.args.grid.now in
    let own = ap (map sided_of) (c.deref.ensures.value ∙ c.in_ok-push_row.ensures ∙ ap (λ l. l ++ cells_in_row d.view d.list c.loop-y.y c.args.z) c.clear.ensures.items) in
    sides_more (λ y. cells_in_row d.view d.list y c.args.z) c.loop-y.y c.args.sided.now.items c.loop-y.sided.items c.push_sides.new.sided.items _ c.loop-y.invariant own c.in_ok-push_sides.ensures
