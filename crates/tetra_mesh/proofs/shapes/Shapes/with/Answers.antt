-- One cell after another, whose shape is made.
use Rattle.std.proofs.Common.{arith, sym}
use Rattle.std.specs.Prelude.{take}
use Rattle.std.proofs.lemmas.List.{take_all}
use Rattle.std.proofs.lemmas.List.Elements.{All-more, All-same, All-weaker}
use Rattle.tetra_mesh.specs.Shapes.{IsMade}
use Rattle.tetra_mesh.specs.declared.sided_cell.SidedCell.{SidedCell}
use Rattle.tetra_mesh.proofs.SideLaws.{no_sides}
use Rattle.tetra_mesh.proofs.shapes.Shapes.with.Goals as goal

pub loop-cell-init : goal.loop-cell-init
loop-cell-init c = record {
  made = c.requires;
  each = λ k d less. absurd (omega (arith, less));
}

pub loop-cell-preserved : goal.loop-cell-preserved
loop-cell-preserved c =
    let made = c.in_ok-make.ensures in
    let before = c.loop-cell.shapes in
    let after = c.make.new.self in
    let sided = c.args.sided.now in
    let at = c.loop-cell.cell-index in
    record {
      made = made.made;
      each = All-more (λ (c : SidedCell). IsMade after c.signs) sided at no_sides c.loop-cell-test.true
          (All-weaker (λ (c : SidedCell). IsMade before c.signs) (λ (c : SidedCell). IsMade after c.signs) (λ cell is. made.others cell.signs is) (take at sided) c.loop-cell.invariant.each)
          made.this;
    }

pub returns : goal.returns
returns c =
    let inv = c.loop-cell.invariant in
    record {
      made = inv.made;
      each = All-same (λ (cell : SidedCell). IsMade c.loop-cell.shapes cell.signs) _ _ (sym (take_all c.loop-cell.cell-index c.args.sided.now (omega (arith, c.loop-cell-test.false)))) inv.each;
    }
