use Rattle.std.specs.Prelude.{All, take}
use Rattle.tetra_mesh.specs.Shapes.{AreMade, IsMade}
use Rattle.tetra_mesh.specs.declared.sided_cell.SidedCell.{SidedCell}
use Rattle.tetra_mesh.proofs.shapes.Shapes.with.Given as goal

abbrev pub invariant-loop-cell : goal.invariant-loop-cell
invariant-loop-cell l = record {
  made : AreMade l.shapes;
  each : All (λ (c : SidedCell). IsMade l.shapes c.signs) (take l.cell-index l.sided);
}
