-- Two cells along each axis are few.
use Rattle.std.proofs.Common.{◌*◌, ◌≤◌, arith}
use Rattle.std.proofs.Math.Nat.{mul-le-mul}
use Rattle.std.proofs.lemmas.Int.{ints}
use Rattle.mesh_tests.proofs.meshes.view_of.Goals as goal

pub returns-clause-fits : goal.returns-clause-fits
returns-clause-fits c =
    let few = c.requires.few in
    let square : c.args.n * c.args.n ≤ 2 * 2 = mul-le-mul few few in
    let all : c.args.n * (c.args.n * c.args.n) ≤ 2 * (2 * 2) = mul-le-mul few square in
    record {
      x = omega (arith, ints, few);
      y = omega (arith, ints, few);
      z = omega (arith, ints, few);
      all = omega (arith, all);
    }
