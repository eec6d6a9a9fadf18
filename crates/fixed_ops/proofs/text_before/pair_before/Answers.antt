-- The two digits that the table has.
use Rattle.std.proofs.Common.{◌≡◌, ◌+◌, ◌-◌, ◌%◌, set, arith, length-set}
use Rattle.std.proofs.lemmas.List.{set_comm, drop-set}
use Rattle.fixed_ops.proofs.PairLaws.{pairs_are_digits}
use Rattle.fixed_ops.proofs.text_before.pair_before.Goals as goal

pub returns-clause-written : goal.returns-clause-written
returns-clause-written c =
    let p = pairs_are_digits c.args.pair c.requires.pair in
    let at = c.args.end - 2 in
    let line = c.args.line.now in
    let e : at + 1 + 1 ≡ c.args.end = omega arith in
    rw (p.0, p.1, set_comm line at (at + 1) _ _ (λ x. omega arith), drop-set (set line (at + 1) (48 + c.args.pair % 10)) at _ (omega (arith, length-set line (at + 1) (48 + c.args.pair % 10))), drop-set line (at + 1) _ (omega arith), e)
