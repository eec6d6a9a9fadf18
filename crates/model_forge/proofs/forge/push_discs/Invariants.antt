-- The clauses so far are those of the axes and of the discs so far, and each of these took four draws.
use Rattle.std.proofs.Common.{◌≡◌, ◌*◌}
use Rattle.solid_model.specs.Named.{named_of}
use Rattle.model_forge.specs.Forged.{forged}
use Rattle.model_forge.specs.Fresh.{TakesFrom}
use Rattle.model_forge.specs.Stream.{state_after}
use Rattle.model_forge.proofs.Joining.{EndsWithSolid, HasAxes}
use Rattle.model_forge.proofs.forge.push_discs.Given as goal

abbrev pub invariant-loop-number : goal.invariant-loop-number
invariant-loop-number l = record {
  axes : HasAxes l.builder;
  named : named_of l.builder ≡ forged l.seed l.number;
  solid : EndsWithSolid l.builder l.number;
  next : TakesFrom l.builder 97 l.number;
  state : l.stream.state ≡ state_after l.seed (4 * l.number);
}
