-- The clauses of the model, by their names, give its clauses by places.
use Rattle.std.proofs.Common.{ap, subst, sym, ◌∙◌}
use Rattle.solid_model.specs.Clauses.{AreClauses}
use Rattle.solid_model.specs.Named.{placed}
use Rattle.solid_model.proofs.NamedLemmas.{placed_named}
use Rattle.model_forge.proofs.forge.forge_model.Goals as goal

pub returns-clause-by_places : goal.returns-clause-by_places
returns-clause-by_places c =
    let are = subst AreClauses c.builder-2.view_is c.builder-2.invariant in
    rw c.in-Some.ensures.0 (sym (placed_named _ are) ∙ ap placed c.in_ok-push_discs.ensures)
