-- The form is what its tokens say.
use Rattle.std.proofs.Common.{◌≡◌, Err, ap, sym, ◌∙◌}
use Rattle.clause_reader.specs.declared.form_fault.FormFault.TheVariants.{NoMemory}
use Rattle.clause_reader.specs.Scan.{line_tokens}
use Rattle.clause_reader.specs.Written.{as_fault}
use Rattle.clause_reader.proofs.WrittenLemmas.{found-memory, gives-fault, gives-found, names-read, told-memory}
use Rattle.clause_reader.proofs.form.read_form.Goals as goal

pub returns-in-Ok-clause-form : goal.returns-in-Ok-clause-form
returns-in-Ok-clause-form c =
    rw c.ok_or.ensures.value (gives-found (line_tokens c.args.rest.now) c.in-Ok.form c.in-Ok.ensures.form)

pub returns-in-Ok-clause-names : goal.returns-in-Ok-clause-names
returns-in-Ok-clause-names c = λ memory. absurd (found-memory c.in-Ok.form (sym c.ok_or.ensures.value ∙ memory))

pub returns-in-Err-clause-form : goal.returns-in-Err-clause-form
returns-in-Err-clause-form c =
    rw c.from.ensures
    (gives-fault (line_tokens c.args.rest.now) c.in-Err.error c.in-Err.ensures.form (λ same. c.in-Err.ensures.names (ap Err same)))

pub returns-in-Err-clause-names : goal.returns-in-Err-clause-names
returns-in-Err-clause-names c = λ memory.
    let told : as_fault c.in-Err.error ≡ NoMemory = cc in
    names-read (line_tokens c.args.rest.now) (c.in-Err.ensures.names (ap Err (told-memory c.in-Err.error told)))
