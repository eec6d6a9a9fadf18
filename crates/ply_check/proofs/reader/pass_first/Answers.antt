-- The first line is passed.
use Rattle.std.proofs.Common.{sym, ◌∙◌}
use Rattle.clause_reader.specs.NumberedLines.{line_seen}
use Rattle.ply_check.specs.declared.stage.Stage.TheVariants.{Opened}
use Rattle.ply_check.specs.Answers.{header_answer, ply_answer}
use Rattle.ply_check.proofs.Passing.{passes_more, passes_none, first_passed}
use Rattle.ply_check.proofs.reader.pass_first.Goals as goal

pub returns-then-is_ply-clause-passed : goal.returns-then-is_ply-clause-passed
returns-then-is_ply-clause-passed c =
    let line = line_seen c.in-Some.line in
    passes_more ply_answer ply_answer (header_answer Opened) c.args.lines.now c.args.lines.now c.next.new.self line
    (passes_none ply_answer c.args.lines.now) c.in-Some.ensures.next (first_passed line (sym c.is_ply.ensures ∙ c.if-is_ply.true))
