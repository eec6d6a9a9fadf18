-- A word that names no operation.
use Rattle.std.proofs.Common.{◌≡◌, None, refl}
use Rattle.clause_reader.specs.Forms.{operation_of}
use Rattle.clause_reader.proofs.OpLemmas.{operation_of-none}
use Rattle.clause_reader.proofs.written_form.form_of.Goals as goal

pub returns-in_default-read_op-clause-form : goal.returns-in_default-read_op-clause-form
returns-in_default-read_op-clause-form c =
    let none : operation_of c.in-Some.word.now ≡ None = operation_of-none c.in-Some.word.now c.in_default-read_op.ensures.missing in
    rw (c.in-Some.ensures.next, none) refl
