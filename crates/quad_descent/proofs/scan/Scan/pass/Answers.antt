use Rattle.std.proofs.Common.{◌-◌, ◌<◌, ap, arith}
use Rattle.std.proofs.lemmas.Nat.{mod_below}
use Rattle.quad_descent.proofs.Scans.{next-column, next-row}
use Rattle.quad_descent.proofs.scan.Scan.pass.Goals as goal

pub returns-then-self-b-clause-next : goal.returns-then-self-b-clause-next
returns-then-self-b-clause-next c =
    let b = c.args.b in
    let n = c.args.self.now.told in
    let x0 = ap (λ b. b.x0) c.b.view_is in
    let x1 = ap (λ b. b.x1) c.b.view_is in
    let next = next-row n (b.x1 - b.x0) (omega (arith, x0, x1, c.if-self-b.true, c.requires.next.column, c.b.invariant.x)) in
    record { column = omega (arith, x0, next.0); row = omega (arith, next.1, c.requires.next.row) }

pub returns-else-self-b-clause-next : goal.returns-else-self-b-clause-next
returns-else-self-b-clause-next c =
    let b = c.args.b in
    let n = c.args.self.now.told in
    let x0 = ap (λ b. b.x0) c.b.view_is in
    let x1 = ap (λ b. b.x1) c.b.view_is in
    let some : b.x0 < b.x1 = omega (arith, x0, x1, c.b.invariant.x) in
    let within = mod_below n (b.x1 - b.x0) (omega (arith, some)) in
    let next = next-column n (b.x1 - b.x0) (omega (arith, x0, x1, within, c.if-self-b.false, c.requires.next.column, some)) in
    record { column = omega (arith, next.0, c.requires.next.column); row = omega (arith, next.1, c.requires.next.row) }
