use Rattle.std.proofs.Common.{◌∙◌, ap}
use Rattle.box_chains.specs.Tested.{has_some}
use Rattle.normal_shade.specs.Marks.{is_marked}
use Rattle.normal_shade.proofs.shading.ShaderVisitor.wants.Goals as goal

pub returns : goal.returns
returns c = c.has_top.ensures ∙ ap (λ w. has_some (is_marked w c.args.self.now.tops.now) c.args.b) c.w.ensures
