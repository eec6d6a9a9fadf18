-- One cell after another.
use Rattle.std.proofs.Common.{◌≡◌, ◌≤◌, ap, arith, length, refl, ◌∙◌}
use Rattle.std.specs.Prelude.{flat_map}
use Rattle.std.proofs.lemmas.List.{length-map, take_all}
use Rattle.std.proofs.lemmas.List.Elements.{All-get_or}
use Rattle.kuhn_cells.specs.Cells.{triangles_of_cell}
use Rattle.tetra_mesh.specs.Shapes.{IsMade}
use Rattle.tetra_mesh.specs.Sides.{sided_of}
use Rattle.tetra_mesh.specs.declared.sided_cell.SidedCell.{SidedCell}
use Rattle.tetra_mesh.proofs.EdgeLaws.{as_many}
use Rattle.tetra_mesh.proofs.SideLaws.{behind, count_more, no_sides}
use Rattle.tetra_mesh.proofs.TriangleLaws.{shape_long}
use Rattle.tetra_mesh.proofs.counts.count_faces.Goals as goal

pub loop-cell-init : goal.loop-cell-init
loop-cell-init c = record { exact = λ cells same. refl; few = omega arith }

pub shape-requires-clause-this : goal.shape-requires-clause-this
shape-requires-clause-this c =
    All-get_or (λ (s : SidedCell). IsMade c.args.shapes.now s.signs) c.args.sided.now c.loop-cell.cell-index no_sides c.loop-cell-test.true c.requires.shapes.each

pub loop-cell-preserved : goal.loop-cell-preserved
loop-cell-preserved c =
    let counted : c.len-count.result ≡ length c.shape.result.now.triangles.items = grind (arith, c.len-count.ensures) in
    record {
      exact = λ cells same.
          let b = behind cells c.args.sided.now c.loop-cell.cell-index same c.loop-cell-test.true in
          count_more triangles_of_cell cells c.loop-cell.cell-index c.loop-cell.count _ b.cell b.within b.here (counted ∙ as_many _ c.shape.result.now c.shape.ensures.triangles ∙ shape_long _ b.cell b.sided) (c.loop-cell.invariant.exact cells same);
      few = omega (arith, c.loop-cell.invariant.few, counted, as_many _ c.shape.result.now c.shape.ensures.triangles, c.shape.ensures.few);
    }

pub returns-clause-exact : goal.returns-clause-exact
returns-clause-exact c cells same =
    let long = ap length same ∙ length-map cells sided_of in
    let end = c.loop-cell-test.false in
    let whole : length cells ≤ c.loop-cell.cell-index = omega (arith, long, end) in
    c.loop-cell.invariant.exact cells same ∙ ap (λ l. length (flat_map triangles_of_cell l)) (take_all c.loop-cell.cell-index cells whole)
