use Rattle.choice_trace.proofs.Traces.{choices_are_of_steps, choices_are_right, each_held, last_held, operands_win}
use Rattle.choice_trace.proofs.laws.traces_are_right.Goals as goal

pub returns-clause-held : goal.returns-clause-held
returns-clause-held c = last_held

pub returns-clause-each : goal.returns-clause-each
returns-clause-each c = each_held

pub returns-clause-choices : goal.returns-clause-choices
returns-clause-choices c = choices_are_of_steps

pub returns-clause-right : goal.returns-clause-right
returns-clause-right c = choices_are_right

pub returns-clause-wins : goal.returns-clause-wins
returns-clause-wins c = operands_win
