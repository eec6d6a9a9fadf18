-- The name is new, there is room, and the operands of the form stand among the clauses.
use Rattle.std.proofs.Common.{◌≡◌, ◌<◌, None, Some, Ok, length, ap, sym, subst, arith}
use Rattle.std.proofs.lemmas.Bool.Decides.{nat_tests}
use Rattle.std.proofs.lemmas.Grind.{common_steps}
use Rattle.solid_model.specs.Adding.{clause_after}
use Rattle.solid_model.specs.Clauses.{place_of}
use Rattle.solid_model.specs.Seen.{clause_seen}
use Rattle.solid_model.specs.Tables.{clauses_in}
use Rattle.solid_model.proofs.ModelLemmas.{Matches-clause_after}
use Rattle.solid_model.proofs.PushLemmas.{insert-behind, no_push_fault, operands-after}
use Rattle.solid_model.proofs.table.Table.adding.Goals as goal

pub returns-clause-change : goal.returns-clause-change
returns-clause-change c =
    let clauses = clauses_in c.args.self.now in
    let clause = clause_seen c.in-Some.clause in
    let made : clause_after clauses c.args.name.now c.args.form.now ≡ Some clause = grind (arith, common_steps) in
    let room : length clauses < 65535 = grind (arith, common_steps, nat_tests) in
    let new : place_of clauses clause.name ≡ None = grind (arith, common_steps) in
    let said = Matches-clause_after clauses c.args.name.now c.args.form.now clause made in
    rw (made, no_push_fault clauses c.args.name.now (subst (λ n. place_of clauses n ≡ None) said.name_is new) room)
    (ap Ok (sym (insert-behind clauses clause c.len-count.result c.requires.in_order (sym c.len-count.ensures.len))))

pub returns-clause-allowed : goal.returns-clause-allowed
returns-clause-allowed c =
    let clauses = clauses_in c.args.self.now in
    let clause = clause_seen c.in-Some.clause in
    let made : clause_after clauses c.args.name.now c.args.form.now ≡ Some clause = grind (arith, common_steps) in
    let room : length clauses < 65535 = grind (arith, common_steps, nat_tests) in
    let new : place_of clauses clause.name ≡ None = grind (arith, common_steps) in (
      omega (arith, c.len-count.ensures.len),
      room,
      new,
      rw c.len-count.ensures.len (operands-after clauses c.args.name.now c.args.form.now clause c.clause_after.ensures.form made),
    )
