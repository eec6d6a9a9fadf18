-- A file is read as one mesh alone, or is refused on one line for one reason.
use Rattle.std.proofs.Common.{ap, sym, ◌∙◌, inl, inr}
use Rattle.ply_check.specs.ReadingLaws.{EachFileIsAnswered, NoneIsReadAndRefused, OneReading, OneRefusal}
use Rattle.ply_check.specs.PlyFiles.{ply_lines}
use Rattle.ply_check.proofs.Answered.{reads_answered, refuses_answered}
use Rattle.ply_check.proofs.PlyCases.{ply_cases, count_in, faces_in, line_in, reason_in}
use Rattle.ply_check.proofs.PlyCases.PlyCase.{read, refused}

pub each_answered : EachFileIsAnswered
each_answered bytes = elim (ply_cases (ply_lines bytes)) [
  | read count faces is answer ↦ inl (count, faces, is)
  | refused line reason is answer ↦ inr (line, reason, is)
]

pub never_both : NoneIsReadAndRefused
never_both bytes count faces line reason is not =
    let both = sym (reads_answered (ply_lines bytes) count faces is) ∙ refuses_answered (ply_lines bytes) line reason not in
    (cc)

pub one_reading : OneReading
one_reading bytes count faces other others is also =
    let both = sym (reads_answered (ply_lines bytes) count faces is) ∙ reads_answered (ply_lines bytes) other others also in
    (ap count_in both, ap faces_in both)

pub one_refusal : OneRefusal
one_refusal bytes line reason other another is also =
    let both = sym (refuses_answered (ply_lines bytes) line reason is) ∙ refuses_answered (ply_lines bytes) other another also in
    (ap line_in both, ap reason_in both)
