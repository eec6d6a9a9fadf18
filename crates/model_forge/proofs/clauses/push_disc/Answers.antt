-- A disc and how it joins the solid before it.
use Rattle.std.proofs.Common.{ap, ◌-◌}
use Rattle.model_forge.proofs.PlacedLemmas.{disc_parts}
use Rattle.model_forge.proofs.clauses.push_disc.Goals as goal

pub returns-in_ok-push_joined-clause-clauses : goal.returns-in_ok-push_joined-clause-clauses
returns-in_ok-push_joined-clause-clauses c =
    disc_parts c.args.builder.now c.push_circle.new.builder c.push_joined.new.builder c.args.number _ c.in_ok-circle.circle c.args.disc.now.x c.args.disc.now.y c.args.disc.now.radius c.args.disc.now.role c.if-number-gt0.true
    c.in_ok-circle.ensures.clauses c.in_ok-push_joined.ensures.clauses (ap (λ n. n - 1) c.len-solid.ensures.len) c.in_ok-circle.ensures.place
