-- One more step is kept, and the others stay where the table gets longer.
use Rattle.std.proofs.Common.{◌≡◌, length, ap, cond, ◌∙◌, rules}
use Rattle.live_clauses.specs.Packed.{is_constant}
use Rattle.live_clauses.proofs.Stored.{kept-pushed}
use Rattle.live_clauses.proofs.roots.push_step.Goals as goal

pub returns-clause-steps : goal.returns-clause-steps
returns-clause-steps c =
    let place : c.len-place.result ≡ length c.args.constants.now.items = search rules in
    kept-pushed c.args.constants.now.items c.args.steps.now.items c.args.step c.requires.steps c.requires.step c.pack.result c.push_number.new.constants.items c.push.new.self.items c.pack.ensures.op
    (c.pack.ensures.a ∙ ap (λ n. cond (is_constant c.args.step.op) n c.args.step.a) place) c.pack.ensures.b c.in_ok-push_number.ensures c.in_ok-push.ensures.items
