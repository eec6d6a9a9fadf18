-- One cell after another.
use Rattle.std.proofs.Common.{◌≤◌, ap, arith, length, refl, ◌∙◌}
use Rattle.std.specs.Prelude.{flat_map}
use Rattle.std.proofs.lemmas.List.{length-map, take_all}
use Rattle.tetra_mesh.specs.Numbering.{vertices_on}
use Rattle.tetra_mesh.specs.Sides.{sided_of}
use Rattle.tetra_mesh.proofs.SideLaws.{behind, count_more}
use Rattle.tetra_mesh.proofs.counts.count_vertices.Goals as goal

pub loop-cell-init : goal.loop-cell-init
loop-cell-init c = record { exact = λ cells same. refl; few = omega arith }

pub loop-cell-preserved : goal.loop-cell-preserved
loop-cell-preserved c = record {
  exact = λ cells same.
      let b = behind cells c.args.sided.now c.loop-cell.cell-index same c.loop-cell-test.true in
      count_more vertices_on cells c.loop-cell.cell-index c.loop-cell.count _ b.cell b.within b.here (c.vertices-count.ensures.exact b.cell b.sided) (c.loop-cell.invariant.exact cells same);
  few = omega (arith, c.loop-cell.invariant.few, c.vertices-count.ensures.few);
}

pub returns-clause-exact : goal.returns-clause-exact
returns-clause-exact c cells same =
    let long = ap length same ∙ length-map cells sided_of in
    let end = c.loop-cell-test.false in
    let whole : length cells ≤ c.loop-cell.cell-index = omega (arith, long, end) in
    c.loop-cell.invariant.exact cells same ∙ ap (λ l. length (flat_map vertices_on l)) (take_all c.loop-cell.cell-index cells whole)
