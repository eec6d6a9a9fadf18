use Rattle.std.proofs.Common.{◌∙◌, ap}
use Rattle.height_map.specs.Columns.{has_open}
use Rattle.height_map.proofs.Opens.{open-is}
use Rattle.height_map.proofs.drawing.MapperVisitor.wants.Goals as goal

pub returns : goal.returns
returns c =
    open-is c.is_covered.result c.w.result c.args.b c.deref.result.now c.is_covered.ensures.covered c.is_covered.ensures.open
    ∙ ap (λ tops. has_open c.w.result tops c.args.b) c.deref.ensures.value ∙ ap (λ w. has_open w c.args.self.now.tops.items c.args.b) c.w.ensures
