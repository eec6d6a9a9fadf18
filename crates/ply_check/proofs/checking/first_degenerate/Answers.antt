-- A face whose vertices do not differ, and none.
use Rattle.std.proofs.Common.{arith}
use Rattle.ply_check.proofs.Places.{all_triangles, first_fault}
use Rattle.ply_check.proofs.checking.first_degenerate.Goals.{then-a-b-via-then-a-b, then-a-b-via-else-a-b+then-b-c, then-a-b-via-else-a-b+else-b-c+then-c-a}
use Rattle.ply_check.proofs.checking.first_degenerate.Goals as goal

pub returns-then-a-b : goal.returns-then-a-b
returns-then-a-b c =
    first_fault c.args.faces.now c.loop-number.number (omega arith) c.loop-number.invariant (λ t.
    elim c.then-a-b.branch [
      | then-a-b-via-then-a-b w ↦ t.ab w.if-a-b.true
      | then-a-b-via-else-a-b+then-b-c w ↦ t.bc w.if-b-c.true
      | then-a-b-via-else-a-b+else-b-c+then-c-a w ↦ t.ca w.if-c-a.true
    ])

pub returns : goal.returns
returns c = all_triangles c.args.faces.now c.loop-number.number (omega arith) c.loop-number.invariant
