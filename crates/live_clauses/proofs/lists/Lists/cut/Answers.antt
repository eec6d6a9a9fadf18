-- The parts before a place are the lists before it.
use Rattle.std.proofs.Common.{ap, sym, take, ◌∙◌}
use Rattle.std.specs.Rc.{rc_slice_items}
use Rattle.std.proofs.lemmas.List.{take-map}
use Rattle.live_clauses.specs.Blocks.{part_of, parts_of}
use Rattle.live_clauses.proofs.lists.Lists.cut.Goals as goal

pub returns : goal.returns
returns c =
    ap (parts_of (rc_slice_items c.self.inside.constants) c.self.inside.steps.items) c.truncate.ensures.items ∙ sym (take-map (part_of (rc_slice_items c.self.inside.constants) c.self.inside.steps.items) c.args.count c.self.inside.parts.items) ∙ ap (take c.args.count) c.self.view_is
