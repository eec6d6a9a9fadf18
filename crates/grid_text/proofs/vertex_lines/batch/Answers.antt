-- One cell after another.
use Rattle.std.proofs.Common.{arith, ap, length, length-append}
use Rattle.std.specs.Prelude.{flat_map, take}
use Rattle.tetra_mesh.specs.declared.sided_cell.SidedCell.{SidedCell}
use Rattle.tetra_mesh.specs.Numbering.{vertices_on}
use Rattle.grid_text.proofs.CellLaws.{behind, flat_last}
use Rattle.grid_text.proofs.vertex_lines.batch.Goals as goal

abbrev none : SidedCell
none = record { x = 0; y = 0; z = 0; signs = 0 }

pub loop-count-preserved : goal.loop-count-preserved
loop-count-preserved c = record {
  within = omega arith;
  few = omega (arith, c.vertices-vertices.ensures.few);
  exact = λ cells same.
      let i = c.loop-count.count in
      let is = behind cells c.args.sided.now i none same c.loop-count-test.true in
      let own = c.vertices-vertices.ensures.exact is.cell is.sided in
      let whole = ap length (flat_last vertices_on cells i is.cell is.within is.here) in
      omega (arith, own, whole, c.loop-count.invariant.exact cells same, length-append (flat_map vertices_on (take i cells)) (vertices_on is.cell));
}
