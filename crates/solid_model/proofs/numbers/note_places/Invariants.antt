use Rattle.std.proofs.Common.{◌≡◌, ◌+◌, length}
use Rattle.solid_model.specs.Moves.{AreNotedBut}
use Rattle.solid_model.proofs.numbers.note_places.Given as goal

abbrev pub invariant-loop-place : goal.invariant-loop-place
invariant-loop-place l = record {
  long : length l.places ≡ length l.fn.numbers;
  noted : AreNotedBut l.place (l.last + 1) l.fn.numbers l.places;
}
