-- The first lane alone is marked.
use Rattle.std.proofs.Common.{map, ap, subst, refl, ◌∙◌, arith}
use Rattle.live_clauses.specs.Marks.{AreMarks}
use Rattle.live_clauses.specs.Packed.{unpacked}
use Rattle.live_clauses.proofs.block.mark_part.Goals as goal

pub returns : goal.returns
returns g c = subst (λ s. AreMarks 0 s (g.C.Choices.list c.args.choices) c.mark_rows.new.marks) (c.from_packed-list.ensures ∙ ap (map (unpacked c.args.constants.now)) c.in_part.ensures) (c.mark_rows.ensures 0 (omega arith) refl)
