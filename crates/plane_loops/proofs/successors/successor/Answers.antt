-- The next edge, and its number.
use Rattle.std.proofs.Common.{ap, subst, sym, ◌∙◌}
use Rattle.plane_loops.specs.Following.{edge_of, number_by}
use Rattle.plane_loops.specs.Steps.{IsInGrid}
use Rattle.plane_loops.proofs.ReadLaws.{next_read}
use Rattle.plane_loops.proofs.successors.successor.Goals as goal

pub number-requires-clause-edge : goal.number-requires-clause-edge
number-requires-clause-edge c =
    subst (IsInGrid c.args.n) (next_read c.args.n c.args.signs.now (edge_of c.args.v.now) _ _ _ _ _ _ _ _ _ _ c.place_of.ensures.place c.has_sign-low.ensures c.of-left.ensures.triangle c.place_of-2.ensures.place c.has_sign-third.ensures c.other-other.ensures.corner c.min-from.ensures c.max-to.ensures c.from.ensures c.from-2.ensures) c.requires.vertex.next

pub returns : goal.returns
returns c =
    c.number.ensures ∙ ap (number_by c.args.n c.args.signs.now) (sym (next_read c.args.n c.args.signs.now (edge_of c.args.v.now) _ _ _ _ _ _ _ _ _ _ c.place_of.ensures.place c.has_sign-low.ensures c.of-left.ensures.triangle c.place_of-2.ensures.place c.has_sign-third.ensures c.other-other.ensures.corner c.min-from.ensures c.max-to.ensures c.from.ensures c.from-2.ensures))
