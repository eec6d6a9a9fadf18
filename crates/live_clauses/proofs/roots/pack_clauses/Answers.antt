-- Each clause is one more step.
use Rattle.std.proofs.Common.{◌≡◌, ◌+◌, ◌++◌, [], ◌∷◌, length, map, take, ap, ◌∙◌, subst, sym, arith}
use Rattle.std.proofs.lemmas.List.{length-append, length-map, map_push, take_more}
use Rattle.std.proofs.lemmas.Option.{get_or_from_slice_get}
use Rattle.solid_model.specs.Seen.{clause_seen}
use Rattle.live_clauses.specs.declared.step.Step.{Step}
use Rattle.live_clauses.specs.Packed.{unpacked}
use Rattle.live_clauses.specs.Steps.{AreSteps, step_of, steps_of}
use Rattle.live_clauses.proofs.RootLaws.{front-stands}
use Rattle.live_clauses.proofs.roots.pack_clauses.Goals as goal

pub push_step-requires-clause-steps : goal.push_step-requires-clause-steps
push_step-requires-clause-steps c = subst AreSteps (sym c.loop-at.invariant.kept) (front-stands c.args.model.now c.loop-at.at c.len-at-end.ensures.model.clauses_are.each)

pub loop-at-preserved : goal.loop-at-preserved
loop-at-preserved c =
    let clauses = c.args.model.now in
    let clause = clause_seen c.clause-clause.result in
    let step : Step = step_of clause in
    let more : take (c.loop-at.at + 1) clauses ≡ take c.loop-at.at clauses ++ clause ∷ [] =
    take_more clauses c.loop-at.at clause (omega arith) ∙ ap (λ x. take c.loop-at.at clauses ++ x ∷ []) (get_or_from_slice_get clauses c.loop-at.at clause clause c.clause-clause.ensures.clause) in
    let pushed : map (unpacked c.push_step.new.constants.items) c.push_step.new.steps.items ≡ map (unpacked c.loop-at.constants.items) c.loop-at.steps.items ++ step ∷ [] = c.in_ok-push_step.ensures.steps in
    record {
      kept = pushed ∙ ap (λ l. l ++ step ∷ []) c.loop-at.invariant.kept ∙ sym (ap steps_of more ∙ map_push step_of (take c.loop-at.at clauses) clause);
      table = c.in_ok-push_step.ensures.table;
      many = omega (
        arith,
        c.loop-at.invariant.many,
        ap length pushed,
        length-append (map (unpacked c.loop-at.constants.items) c.loop-at.steps.items) (step ∷ []),
        length-map c.push_step.new.steps.items (unpacked c.push_step.new.constants.items),
        length-map c.loop-at.steps.items (unpacked c.loop-at.constants.items),
      );
    }
