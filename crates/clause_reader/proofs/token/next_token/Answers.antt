-- The places of the token that is split off.
use Rattle.std.proofs.Common.{sym, ◌∙◌}
use Rattle.std.proofs.lemmas.List.{take_rest}
use Rattle.clause_reader.proofs.Scans.{token-places}
use Rattle.clause_reader.proofs.token.next_token.Goals as goal

pub returns-clause-token : goal.returns-clause-token
returns-clause-token c =
    let split = c.in_ok-token.ensures in
    (token-places c.args.line.now c.args.from split.gap.0 c.in_ok-token.token.now c.in_ok-token.rest.now c.requires (sym (take_rest c.args.line.now c.args.from) ∙ split.gap.1) split.gap.2 split.run.token split.run.longest split.some).1

pub returns-clause-tokens : goal.returns-clause-tokens
returns-clause-tokens c =
    let split = c.in_ok-token.ensures in
    let places = token-places c.args.line.now c.args.from split.gap.0 c.in_ok-token.token.now c.in_ok-token.rest.now c.requires (sym (take_rest c.args.line.now c.args.from) ∙ split.gap.1) split.gap.2 split.run.token split.run.longest split.some in
    rw (places.2, places.3) (rw take_rest at split.tokens)
