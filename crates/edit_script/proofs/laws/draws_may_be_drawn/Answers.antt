-- The law follows from that of commands.
use Rattle.edit_script.proofs.CommandLaws.{draws-may-be-drawn}
use Rattle.edit_script.proofs.laws.draws_may_be_drawn.Goals as goal

pub returns : goal.returns
returns c = draws-may-be-drawn
