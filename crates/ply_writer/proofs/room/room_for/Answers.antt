-- No product is beyond what a word holds.
use Rattle.std.proofs.Common.{ℕ, ◌+◌, ◌*◌, ◌<◌, ◌≤◌, arith, mul-le-mul}
use Rattle.ply_writer.proofs.room.room_for.Goals as goal

bounded : (count line most : ℕ) → count < 2147483648 → line ≤ most → count * line ≤ 2147483648 * most
bounded count line most few short =
    let least : count ≤ 2147483648 = omega (arith, few) in
    mul-le-mul least short

pub overflow_add-result-4 : goal.overflow_add-result-4
overflow_add-result-4 c =
    let vertices = bounded c.args.vertices (c.longer.result + c.longer-2.result + c.longer-3.result + 3) 69 (omega (arith, c.requires.vertices)) (omega (arith, c.longer.ensures, c.longer-2.ensures, c.longer-3.ensures)) in
    let faces = bounded c.args.faces (3 * c.count_len.result + 5) 65 (omega (arith, c.requires.faces)) (omega (arith, c.count_len.ensures)) in
    omega (arith, vertices, faces)
