use Rattle.std.proofs.Common.{◌≡◌, ◌+◌, ◌++◌, length, take}
use Rattle.solid_lang.specs.Compiled.{clauses_at}
use Rattle.solid_lang.specs.NamedByPlaces.{AreNamedByPlaces}
use Rattle.solid_lang.proofs.clause_push.push_steps.Given as goal

abbrev pub invariant-loop-step : goal.invariant-loop-step
invariant-loop-step l = record {
  long : length l.builder ≡ l.place + l.step-index;
  named : AreNamedByPlaces l.builder;
  clauses : l.builder ≡ l.initial.builder ++ clauses_at l.place (take l.step-index l.steps);
}
