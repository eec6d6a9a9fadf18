-- The first token is no keyword.
use Rattle.std.proofs.Common.{None}
use Rattle.edit_script.proofs.CommandLemmas.{unknown}
use Rattle.edit_script.proofs.KeywordLemmas.{keyword_found}
use Rattle.edit_script.proofs.line.read_line.Goals as goal

pub returns-in-None-clause-value : goal.returns-in-None-clause-value
returns-in-None-clause-value c =
    unknown c.args.line.number c.args.line.first.now c.args.line.others (keyword_found c.args.line.first.now None tt c.in-None.ensures.missing)
