-- Each clause is one more of the steps.
use Rattle.std.proofs.Common.{◌≡◌, ◌+◌, ◌++◌, [], ◌∷◌, take, refl, ap, ◌∙◌, sym, arith}
use Rattle.std.proofs.lemmas.List.{map_push, take_more}
use Rattle.std.proofs.lemmas.Option.{get_or_from_slice_get}
use Rattle.solid_model.specs.Seen.{clause_seen}
use Rattle.live_clauses.specs.declared.step.Step.{Step}
use Rattle.live_clauses.specs.Steps.{step_of, steps_of}
use Rattle.live_clauses.proofs.roots.are_steps.Goals as goal

pub loop-at-preserved : goal.loop-at-preserved
loop-at-preserved c =
    let clauses = c.args.model.now in
    let steps = c.from_packed-steps.result in
    let clause = clause_seen c.clause.result in
    let step : Step = c.step.result in
    let at = c.loop-at.at in
    let is : step_of clause ≡ step = c.if-not-is_step.ensures refl in
    let more : take (at + 1) clauses ≡ take at clauses ++ clause ∷ [] =
    take_more clauses at clause (omega arith) ∙ ap (λ x. take at clauses ++ x ∷ []) (get_or_from_slice_get clauses at clause clause c.clause.ensures.clause) in
    let next : take (at + 1) steps ≡ take at steps ++ step ∷ [] =
    take_more steps at step (omega (arith, c.len.ensures.len, c.len-2.ensures.len)) ∙ ap (λ x. take at steps ++ x ∷ []) (get_or_from_slice_get steps at step step c.step.ensures.step) in
    next ∙ ap (λ l. l ++ step ∷ []) c.loop-at.invariant ∙ ap (λ s. steps_of (take at clauses) ++ s ∷ []) (sym is)
    ∙ sym (ap steps_of more ∙ map_push step_of (take at clauses) clause)
