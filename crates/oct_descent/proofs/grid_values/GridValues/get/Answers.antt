use Rattle.std.proofs.Common.{sym, ◌∙◌}
use Rattle.kuhn_cells.specs.Triangles.{point}
use Rattle.oct_descent.proofs.Bricks.{reads, unkept-unknown}
use Rattle.oct_descent.proofs.grid_values.GridValues.get.Goals as goal

pub returns-in_err-stand : goal.returns-in_err-stand
returns-in_err-stand c =
    c.from_residual.ensures ∙ sym (unkept-unknown c.args.self.now (point c.args.x c.args.y c.args.z) (sym c.stand.ensures.stand ∙ c.in_err-stand.was))

pub returns : goal.returns
returns c =
    c.read.ensures ∙ reads c.args.self.now (point c.args.x c.args.y c.args.z) c.in_ok-stand.field-0 c.requires.x c.requires.y c.requires.z (sym c.stand.ensures.stand ∙ c.in_ok-stand.was)
