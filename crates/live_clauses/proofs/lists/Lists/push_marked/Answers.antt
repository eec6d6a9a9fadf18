-- A list that is shortened is a part of the block.
use Rattle.std.proofs.Common.{◌≡◌, ◌<◌, [], length, ap, sym, subst, ◌∙◌, arith}
use Rattle.std.specs.Rc.{rc_slice_items}
use Rattle.std.proofs.lemmas.List.{get_or-map, length-map}
use Rattle.live_clauses.specs.Blocks.{list_at, part_of}
use Rattle.live_clauses.specs.Choices.{AreChoices}
use Rattle.live_clauses.proofs.Parts.{ends_before}
use Rattle.live_clauses.proofs.lists.Lists.push_marked.Goals as goal

pub append_marked-requires-clause-before : goal.append_marked-requires-clause-before
append_marked-requires-clause-before g c =
    let within : c.args.at < length c.self.inside.parts.items = omega (arith, c.requires.at, ap length c.self.view_is, length-map c.self.inside.parts.items (part_of (rc_slice_items c.self.inside.constants) c.self.inside.steps.items)) in
    omega (arith, ends_before (rc_slice_items c.self.inside.constants) c.self.inside.steps.items (length c.self.inside.numbers.items) c.self.inside.parts.items c.self.invariant.0 c.args.at c.index-part.result.now within, ap (λ p. p.end) c.index-part.ensures)

pub append_marked-requires-clause-choices : goal.append_marked-requires-clause-choices
append_marked-requires-clause-choices g c =
    let within : c.args.at < length c.self.inside.parts.items = omega (arith, c.requires.at, ap length c.self.view_is, length-map c.self.inside.parts.items (part_of (rc_slice_items c.self.inside.constants) c.self.inside.steps.items)) in
    let list : list_at c.args.self.now c.args.at ≡ part_of (rc_slice_items c.self.inside.constants) c.self.inside.steps.items c.index-part.result.now =
    ap (λ ls. list_at ls c.args.at) (sym c.self.view_is) ∙ get_or-map (part_of (rc_slice_items c.self.inside.constants) c.self.inside.steps.items) c.self.inside.parts.items c.args.at c.index-part.result.now [] within
    ∙ ap (part_of (rc_slice_items c.self.inside.constants) c.self.inside.steps.items) (sym c.index-part.ensures) in
    subst (λ t. AreChoices (part_of t c.self.inside.steps.items c.index-part.result.now) (g.C.Choices.list c.args.choices)) (sym c.as_slice.ensures.value)
    (subst (λ s. AreChoices s (g.C.Choices.list c.args.choices)) list c.requires.choices)
