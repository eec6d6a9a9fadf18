-- One more direction.
use Rattle.std.proofs.Common.{◌≡◌, ◌≤◌, ◌<◌, [], length, ap, arith, ◌∙◌}
use Rattle.std.specs.Prelude.{map}
use Rattle.arrayvec.specs.ArrayVec.{array_vec_len}
use Rattle.tetra_mesh.specs.Numbering.{vertex_on}
use Rattle.tetra_mesh.proofs.VertexLaws.{all_seven, compared, passed, pushed, side_read, vertex_read}
use Rattle.tetra_mesh.proofs.vertices.cell_vertices.Goals.{then-is_inside, else-is_inside}
use Rattle.tetra_mesh.proofs.Bits.{directions_below}
use Rattle.tetra_mesh.proofs.vertices.cell_vertices.Goals as goal

pub loop-dir-init : goal.loop-dir-init
loop-dir-init c = record { few = grind (arith, c.new-vertices.ensures); items = c.new-vertices.ensures }

pub way_up-requires : goal.way_up-requires
way_up-requires c = compared _ _ _ _ _ c.is_inside.ensures.value c.is_inside-in-loop-dir.ensures.value c.if-is_inside.true

pub loop-dir-preserved : goal.loop-dir-preserved
loop-dir-preserved c =
    let cell = c.args.cell.now in
    let dir = c.loop-dir.dir in
    let eight : length cell.values ≡ 8 = omega arith in
    let some : 1 ≤ dir = omega arith in
    let few : dir < 8 = omega arith in
    elim c.if-is_inside.branch [
      | then-is_inside w ↦
          let apart = side_read cell c.from.result dir c.index-cell-0.result c.index-cell-from.result _ eight c.from.ensures few (compared _ _ _ _ _ c.is_inside.ensures.value c.is_inside-in-loop-dir.ensures.value w.if-is_inside.true) in
          let is = vertex_read cell c.from.result dir w.way_up.result c.index-cell-0.result c.index-cell-from.result eight c.from.ensures few w.way_up.ensures.value in
          let long = ap (λ v. array_vec_len v) w.vertices-is in
          record {
            few = omega (arith, long, w.push.ensures.len, c.loop-dir.invariant.few);
            items = pushed cell dir [] c.loop-dir.vertices.items c.if-is_inside.vertices.items _ some apart (ap (λ v. v.items) w.vertices-is ∙ w.push.ensures.items) c.loop-dir.invariant.items is;
          }
      | else-is_inside w ↦
          let alike = side_read cell c.from.result dir c.index-cell-0.result c.index-cell-from.result _ eight c.from.ensures few (compared _ _ _ _ _ c.is_inside.ensures.value c.is_inside-in-loop-dir.ensures.value w.if-is_inside.false) in
          let long = ap (λ v. array_vec_len v) w.vertices-is in
          record {
            few = omega (arith, long, c.loop-dir.invariant.few);
            items = ap (λ v. v.items) w.vertices-is ∙ passed cell dir [] c.loop-dir.vertices.items some alike c.loop-dir.invariant.items;
          }
    ]

pub returns : goal.returns
returns c =
    let cell = c.args.cell.now in
    let end : c.loop-dir.dir ≡ 8 = omega arith in
    c.loop-dir.invariant.items ∙ (ap (λ l. map (vertex_on cell) l) (ap (directions_below cell) end ∙ all_seven cell))
