use Rattle.solid_model.specs.Tables.{AreUnread}
use Rattle.solid_model.proofs.users.first_reader.Given as goal

abbrev pub invariant-loop-place : goal.invariant-loop-place
invariant-loop-place l = record {
  unread : AreUnread l.fn.numbers.items l.fn.rows.items l.number l.fn.first l.place;
}
