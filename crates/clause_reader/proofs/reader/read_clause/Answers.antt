-- The clause line is what its form says.
use Rattle.std.proofs.Common.{ap, ◌∙◌}
use Rattle.clause_reader.specs.Written.{extended}
use Rattle.clause_reader.proofs.WrittenLemmas.{clauses_with-written}
use Rattle.clause_reader.proofs.reader.read_clause.Goals as goal

pub returns-in-Ok : goal.returns-in-Ok
returns-in-Ok c =
    rw (clauses_with-written c.args.builder.now c.args.name.now c.args.tokens ∙ ap (extended c.args.builder.now c.args.name.now) c.in-Ok.ensures.form)
    c.push_form.ensures
