-- Memory is refused for the operands of a form that is read.
use Rattle.std.proofs.Common.{◌≡◌, Ok}
use Rattle.clause_reader.specs.Forms.{parts_written}
use Rattle.clause_reader.specs.Scan.{line_tokens}
use Rattle.clause_reader.specs.Written.{parts_in}
use Rattle.clause_reader.proofs.WrittenLemmas.{has-operands}
use Rattle.clause_reader.proofs.form.find_form.Goals as goal

pub returns-in_err-make_form-in-Ok-clause-names : goal.returns-in_err-make_form-in-Ok-clause-names
returns-in_err-make_form-in-Ok-clause-names c = λ memory.
    let is : parts_written (line_tokens c.args.rest.now) ≡ Ok (parts_in c.in-Ok.form) = rw c.new.ensures at c.in-Ok.ensures.form in
    has-operands (line_tokens c.args.rest.now) (parts_in c.in-Ok.form) is c.in_err-make_form-in-Ok.ensures.named c.in_err-make_form-in-Ok.ensures.some
