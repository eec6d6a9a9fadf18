-- Each line leads on, or out of the header.
use Rattle.std.proofs.Common.{◌≡◌, Some, length, ap, arith}
use Rattle.clause_reader.specs.NumberedLines.{line_seen}
use Rattle.ply_check.specs.declared.stage.Stage.TheVariants.{Opened}
use Rattle.ply_check.specs.declared.stage.Step.TheVariants.{On, Out}
use Rattle.ply_check.specs.Answers.{header_answer, step_after, vertices_answer}
use Rattle.ply_check.specs.HeaderLines.{header_line}
use Rattle.ply_check.proofs.Passing.{passes_more, header_next, header_out, widens_by_one}
use Rattle.ply_check.proofs.header.read_header.Goals as goal

pub returns-in-Some-Out-clause-passed : goal.returns-in-Some-Out-clause-passed
returns-in-Some-Out-clause-passed c =
    let line = line_seen c.in-Some.line in
    let h = c.in-Some-Out.header in
    let out : step_after c.loop-line.stage (header_line line.1) ≡ Some (Out h) = cc (c.in-Some-Out.ensures.step, c.in-Some-Out.field-0-is, c.read_header_line.ensures) in
    passes_more (header_answer Opened) (header_answer c.loop-line.stage) (vertices_answer h h.vertices) c.args.lines.now c.loop-line.lines c.next.new.self line
    c.loop-line.invariant.passed c.in-Some.ensures.next (header_out c.loop-line.stage line h out)

pub loop-line-preserved : goal.loop-line-preserved
loop-line-preserved c =
    let line = line_seen c.in-Some.line in
    let next = c.in-Some-On.next in
    let on : step_after c.loop-line.stage (header_line line.1) ≡ Some (On next) = cc (c.in-Some-On.ensures.step, c.in-Some-On.field-0-is, c.read_header_line.ensures) in
    record {
      passed = passes_more (header_answer Opened) (header_answer c.loop-line.stage) (header_answer next) c.args.lines.now c.loop-line.lines c.next.new.self line
          c.loop-line.invariant.passed c.in-Some.ensures.next (header_next c.loop-line.stage line next on);
      room = omega (arith, widens_by_one c.loop-line.stage (header_line line.1) next on, ap length c.in-Some.ensures.next, c.loop-line.invariant.room);
    }
