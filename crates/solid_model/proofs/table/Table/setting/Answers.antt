-- The operands of the form stand before the place.
use Rattle.std.proofs.Common.{◌≡◌, Some, true, sym, subst, arith}
use Rattle.std.proofs.lemmas.Grind.{common_steps}
use Rattle.solid_model.specs.Adding.{clause_after}
use Rattle.solid_model.specs.Clauses.{place_of}
use Rattle.solid_model.specs.Seen.{clause_seen}
use Rattle.solid_model.specs.Surgery.{reads_before}
use Rattle.solid_model.specs.Tables.{clauses_in}
use Rattle.solid_model.proofs.ModelLemmas.{Matches-clause_after}
use Rattle.solid_model.proofs.PushLemmas.{operands-before}
use Rattle.solid_model.proofs.table.Table.setting.Goals as goal

pub returns-clause-allowed : goal.returns-clause-allowed
returns-clause-allowed c =
    let clauses = clauses_in c.args.self.now in
    let clause = clause_seen c.in-Some.clause in
    let made : clause_after clauses c.args.name.now c.args.form.now ≡ Some clause = grind (arith, common_steps) in
    let there : place_of clauses c.args.name.now ≡ Some c.in_ok-at.at = grind (arith, common_steps) in
    let said = Matches-clause_after clauses c.args.name.now c.args.form.now clause made in
    let before : reads_before c.in_ok-at.at clause ≡ true = grind (arith, common_steps) in
    (subst (λ n. place_of clauses n ≡ Some c.in_ok-at.at) (sym said.name_is) there, operands-before clauses c.args.name.now c.args.form.now clause c.in_ok-at.at c.clause_after-formed.ensures.form made before)
