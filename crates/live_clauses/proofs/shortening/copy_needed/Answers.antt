-- The first lane alone is marked and copied.
use Rattle.std.proofs.Common.{subst, refl, arith}
use Rattle.live_clauses.specs.Marks.{AreMarks}
use Rattle.live_clauses.proofs.shortening.copy_needed.Goals as goal

pub copy_live-requires-clause-marks : goal.copy_live-requires-clause-marks
copy_live-requires-clause-marks g c = subst (λ s. AreMarks 0 s (g.C.Choices.list c.args.choices) c.mark_rows.new.marks) c.from_packed-list.ensures (c.mark_rows.ensures 0 (omega arith) refl)
