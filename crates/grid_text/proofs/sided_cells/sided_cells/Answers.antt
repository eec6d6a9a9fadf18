-- One layer after another, and the layers have all mixed cells.
use Rattle.std.proofs.Common.{◌≡◌, [], ap, arith, refl, ◌∙◌}
use Rattle.std.specs.Prelude.{map}
use Rattle.std.specs.List.{flat_map, range_with_len}
use Rattle.oct_descent.specs.Rows.{cells_in_layer}
use Rattle.oct_descent.proofs.Listed.{layers-mixed}
use Rattle.tetra_mesh.specs.Sides.{sided_of}
use Rattle.grid_text.proofs.CellLaws.{sides_more}
use Rattle.grid_text.proofs.sided_cells.sided_cells.Goals as goal

pub loop-z-preserved : goal.loop-z-preserved
loop-z-preserved c =
    let d = c.args.grid.now in
    sides_more (cells_in_layer d.view d.list) c.loop-z.z [] c.loop-z.sided.items c.push_layer.new.sided.items _ c.loop-z.invariant refl c.in_ok-push_layer.ensures

pub returns : goal.returns
returns c =
    let d = c.args.grid.now in
    let end = ap (λ n. n.z) c.n-z-end.ensures.size in
    let last : c.loop-z.z ≡ d.view.nz = omega (arith, c.loop-z-test.false, c.loop-z.auto.z-end, end) in
    c.loop-z.invariant ∙ ap (λ k. map sided_of (flat_map (cells_in_layer d.view d.list) (range_with_len 0 k))) last
    ∙ ap (map sided_of) (layers-mixed d.view d.list)
