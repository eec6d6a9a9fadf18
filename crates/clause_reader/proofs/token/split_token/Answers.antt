-- What is split off is the first token of the line.
use Rattle.std.proofs.Common.{◌<◌, ◌++◌, length, ap, sym, ◌∙◌, arith}
use Rattle.std.proofs.lemmas.Bool.{eqb-true, eqb-false}
use Rattle.clause_reader.proofs.Scans.{empty-run, no_token, no_tokens, first-token, after-token}
use Rattle.clause_reader.proofs.token.split_token.Goals as goal

pub returns-then-is_empty-clause-gap : goal.returns-then-is_empty-clause-gap
returns-then-is_empty-clause-gap c =
    let none = eqb-true (length c.split_run.result.0.now) 0 (sym c.is_empty.ensures ∙ c.if-is_empty.true) in
    no_token c.args.text.now c.skip_blanks-start.result.now c.skip_blanks-start.ensures (empty-run _ _ _ c.split_run.ensures none)

pub returns-then-is_empty-clause-tokens : goal.returns-then-is_empty-clause-tokens
returns-then-is_empty-clause-tokens c =
    let none = eqb-true (length c.split_run.result.0.now) 0 (sym c.is_empty.ensures ∙ c.if-is_empty.true) in
    no_tokens c.args.text.now c.skip_blanks-start.result.now c.skip_blanks-start.ensures (empty-run _ _ _ c.split_run.ensures none)

pub returns-else-is_empty-clause-tokens : goal.returns-else-is_empty-clause-tokens
returns-else-is_empty-clause-tokens c =
    let skip = c.skip_blanks-start.ensures in
    let run = c.split_run.ensures in
    let some : 0 < length c.split_run.result.0.now = omega (arith, eqb-false (length c.split_run.result.0.now) 0 (sym c.is_empty.ensures ∙ c.if-is_empty.false)) in
    first-token c.args.text.now skip.gap c.split_run.result.0.now c.split_run.result.1.now (skip.parts ∙ ap (λ end. skip.gap ++ end) run.parts) skip.blanks run.token run.longest some

pub returns-else-is_empty-clause-line : goal.returns-else-is_empty-clause-line
returns-else-is_empty-clause-line c =
    let skip = c.skip_blanks-start.ensures in
    let run = c.split_run.ensures in
    after-token c.args.text.now skip.gap c.split_run.result.0.now c.split_run.result.1.now (skip.parts ∙ ap (λ end. skip.gap ++ end) run.parts) skip.blanks run.token
