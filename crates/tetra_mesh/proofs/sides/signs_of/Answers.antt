-- Each summand tells of one corner.
use Rattle.std.proofs.Common.{◌≡◌, length, arith}
use Rattle.tetra_mesh.specs.Numbering.{signs_of}
use Rattle.tetra_mesh.proofs.Bits.{corner_bit}
use Rattle.tetra_mesh.proofs.sides.signs_of.Goals as goal

pub returns : goal.returns
unfolding signs_of
returns c =
    let cell = c.args.cell.now in
    let eight : length cell.values ≡ 8 = omega arith in
    let b0 = corner_bit cell 0 _ _ c.index-values-0.result eight (omega arith) c.is_inside.ensures.value c.from.ensures in
    let b1 = corner_bit cell 1 _ _ c.index-values-1.result eight (omega arith) c.is_inside-2.ensures.value c.from-2.ensures in
    let b2 = corner_bit cell 2 _ _ c.index-values-2.result eight (omega arith) c.is_inside-3.ensures.value c.from-3.ensures in
    let b3 = corner_bit cell 3 _ _ c.index-values-3.result eight (omega arith) c.is_inside-4.ensures.value c.from-4.ensures in
    let b4 = corner_bit cell 4 _ _ c.index-values-4.result eight (omega arith) c.is_inside-5.ensures.value c.from-5.ensures in
    let b5 = corner_bit cell 5 _ _ c.index-values-5.result eight (omega arith) c.is_inside-6.ensures.value c.from-6.ensures in
    let b6 = corner_bit cell 6 _ _ c.index-values-6.result eight (omega arith) c.is_inside-7.ensures.value c.from-7.ensures in
    let b7 = corner_bit cell 7 _ _ c.index-values-7.result eight (omega arith) c.is_inside-8.ensures.value c.from-8.ensures in
    omega (arith, b0, b1, b2, b3, b4, b5, b6, b7)
