-- The list that was made last is the root list of a model whose clauses are its steps.
use Rattle.std.proofs.Common.{◌≡◌, length, map, replicate, refl, ap, sym, ◌∙◌}
use Rattle.std.proofs.lemmas.List.{length-map}
use Rattle.std.proofs.lemmas.Result.{IfOk-weaker}
use Rattle.fixed_ops.specs.Points.{Point}
use Rattle.interval_ops.specs.declared.choice.Choice.TheVariants.{Both}
use Rattle.solid_model.specs.Values.{solid_value}
use Rattle.live_clauses.specs.Live.{live_of, root_of}
use Rattle.live_clauses.specs.Packed.{unpacked}
use Rattle.live_clauses.specs.Steps.{step_of, steps_of, tape_value}
use Rattle.live_clauses.proofs.RootLaws.{root_of-value}
use Rattle.live_clauses.proofs.roots.RootRoom.root.Goals as goal
use Rattle.live_clauses.proofs.roots.RootRoom.root.Goals.{After-share}

is_root : (c : After-share) → c.in-Some.last ≡ root_of c.args.model.now
is_root c =
    let clauses = c.args.model.now in
    let steps : map (unpacked c.self.inside.constants.items) c.self.inside.steps.items ≡ steps_of clauses =
    ap (λ t. map (unpacked t) c.self.inside.steps.items) (sym c.as_slice-constants.ensures.value)
    ∙ ap (map (unpacked c.as_slice-constants.result.now)) (sym c.as_slice-steps.ensures.value) ∙ c.if-are_steps.ensures.same refl in
    (c.self.invariant c.in-Some.last c.in-Some.is).live ∙ ap (λ s. live_of s (replicate (length s) Both)) steps
    ∙ ap (λ n. live_of (steps_of clauses) (replicate n Both)) (length-map clauses step_of)

pub returns-in-Some-clause-live : goal.returns-in-Some-clause-live
returns-in-Some-clause-live c = IfOk-weaker c.share.result _ _ (λ tape same. same ∙ is_root c) c.share.ensures

pub returns-in-Some-clause-value : goal.returns-in-Some-clause-value
returns-in-Some-clause-value c =
    IfOk-weaker c.share.result (λ tape. tape ≡ c.in-Some.last) (λ tape. (p : Point) → tape_value p tape ≡ solid_value p c.args.model.now)
    (λ tape same p. ap (tape_value p) (same ∙ is_root c) ∙ root_of-value p c.args.model.now c.if-are_steps.ensures.model) c.share.ensures
