-- The operands that a clause has stand before it.
use Rattle.std.proofs.Common.{◌<◌, arith}
use Rattle.fixed_ops.specs.Arity.{arity_of}
use Rattle.solid_model.specs.Seen.{clause_seen}
use Rattle.solid_model.proofs.table.Table.form.Goals as goal

pub name-requires-clause-within : goal.name-requires-clause-within
name-requires-clause-within c =
    let stands = c.requires.in_order c.args.at (clause_seen c.clause-clause.result) c.clause-clause.ensures in
    let has : 0 < arity_of c.clause-clause.result.op = omega (arith, c.arity-operands.ensures, c.if-operands-ge1.true) in
    omega (arith, stands.fits.first has, c.requires.within)

pub name-requires-then-operands-ge2-clause-within : goal.name-requires-then-operands-ge2-clause-within
name-requires-then-operands-ge2-clause-within c =
    let stands = c.requires.in_order c.args.at (clause_seen c.clause-clause.result) c.clause-clause.ensures in
    let has : 1 < arity_of c.clause-clause.result.op = omega (arith, c.arity-operands.ensures, c.if-operands-ge2.true) in
    omega (arith, stands.fits.second has, c.requires.within)

pub new-requires-clause-no_value : goal.new-requires-clause-no_value
new-requires-clause-no_value c =
    let stands = c.requires.in_order c.args.at (clause_seen c.clause-clause.result) c.clause-clause.ensures in
    stands.fits.no_value
