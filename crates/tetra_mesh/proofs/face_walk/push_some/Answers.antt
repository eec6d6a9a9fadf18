-- One cell after another.
use Rattle.std.proofs.Common.{◌++◌, arith, ap, length, refl, sym, ◌∙◌}
use Rattle.std.specs.Prelude.{drop, get_or, map}
use Rattle.std.proofs.lemmas.List.Elements.{All-get_or, All-same}
use Rattle.kuhn_cells.specs.Cells.{triangles_of_cell}
use Rattle.kuhn_cells.specs.Laws.{OfEdges}
use Rattle.tetra_mesh.specs.declared.sided_cell.SidedCell.{SidedCell}
use Rattle.tetra_mesh.specs.Numbering.{IsKept, all_faces, face_in}
use Rattle.tetra_mesh.specs.Shapes.{IsMade, sided_triangles}
use Rattle.tetra_mesh.proofs.FaceLaws.{all_kept, below_at, faces_here, faces_next, numbered_as, reached_more, slots_of}
use Rattle.tetra_mesh.proofs.SideLaws.{behind, lower_z, no_sides, sides_as, upper_z}
use Rattle.tetra_mesh.proofs.ReachLaws.{in_at}
use Rattle.tetra_mesh.proofs.TriangleLaws.{shape_moved}
use Rattle.tetra_mesh.proofs.face_walk.push_some.Goals as goal

pub loop-at-init : goal.loop-at-init
loop-at-init c = record {
  width = refl;
  least = omega arith;
  within = c.requires.within;
  fresh = λ e. ap length c.requires.none;
  numbered = c.requires.numbered;
  reached = c.requires.reached;
  faces = λ cells are. ap (λ l. l ++ all_faces cells (drop c.args.made cells)) (sym c.requires.none);
}

pub reach-requires-clause-cells : goal.reach-requires-clause-cells
reach-requires-clause-cells c =
    let cells = c.requires.cells in
    (cells.0, sides_as cells.0 c.args.sided.now c.args.numbering.now.n c.loop-at.numbering.n (sym c.loop-at.invariant.width) cells.1)

pub reach-requires-clause-numbered : goal.reach-requires-clause-numbered
reach-requires-clause-numbered c cells are =
    let was = sides_as cells c.args.sided.now c.loop-at.numbering.n c.args.numbering.now.n c.loop-at.invariant.width are in
    numbered_as cells c.args.numbering.now.n c.loop-at.numbering.n c.loop-at.numbering (sym c.loop-at.invariant.width) (c.loop-at.invariant.numbered cells was)

pub reach-requires-clause-below : goal.reach-requires-clause-below
reach-requires-clause-below c cells are =
    let was = sides_as cells c.args.sided.now c.loop-at.numbering.n c.args.numbering.now.n c.loop-at.invariant.width are in
    let b = behind cells c.args.sided.now c.loop-at.at are.sides c.loop-at-test.true in
    let below = below_at cells c.loop-at.numbering.ahead c.loop-at.at b.cell (c.loop-at.invariant.reached cells was) b.within b.here in
    let z = ap (λ (s : SidedCell). s.z) b.sided in
    λ k d less. let low = below k d less in omega (arith, low, z)

pub reach-requires-clause-layer : goal.reach-requires-clause-layer
reach-requires-clause-layer c =
    let cells = c.requires.cells.0 in
    let are = c.requires.cells.1 in
    let b = behind cells c.args.sided.now c.loop-at.at are.sides c.loop-at-test.true in
    let z = ap (λ (s : SidedCell). s.z) b.sided in
    let within = in_at cells c.args.numbering.now.n c.args.numbering.now.n c.loop-at.at b.cell are.mixed refl b.within b.here in
    let high = within.z in
    let bounded = are.mixed.bounded.z in
    omega (arith, z, high, bounded)

pub push_faces-requires-clause-slots : goal.push_faces-requires-clause-slots
push_faces-requires-clause-slots c =
    let cells = c.requires.cells.0 in
    let are = c.requires.cells.1 in
    let n = c.args.numbering.now.n in
    let s = c.reach.new.self in
    let now = sides_as cells c.args.sided.now n c.loop-at.numbering.n (sym c.loop-at.invariant.width) are in
    let is = numbered_as cells c.loop-at.numbering.n n s c.loop-at.invariant.width (c.reach.ensures.numbered cells now) in
    slots_of cells n s.n s c.deref.result.now are.mixed is is.width c.deref.ensures.value

pub push_faces-requires-clause-made : goal.push_faces-requires-clause-made
push_faces-requires-clause-made c =
    All-get_or (λ (s : SidedCell). IsMade c.args.shapes.now s.signs) c.args.sided.now c.loop-at.at no_sides c.loop-at-test.true c.requires.shapes.each

pub push_faces-requires-clause-kept : goal.push_faces-requires-clause-kept
push_faces-requires-clause-kept c =
    let cells = c.requires.cells.0 in
    let are = c.requires.cells.1 in
    let n = c.args.numbering.now.n in
    let s = c.reach.new.self in
    let b = behind cells c.args.sided.now c.loop-at.at are.sides c.loop-at-test.true in
    let same = ap sided_triangles b.sided ∙ shape_moved b.cell in
    All-same (OfEdges (IsKept s.n)) (sided_triangles (get_or c.args.sided.now c.loop-at.at no_sides)) (triangles_of_cell b.cell) same
    (all_kept cells n s.n c.loop-at.at b.cell are.mixed (c.reach.ensures.width ∙ c.loop-at.invariant.width) b.within b.here)

pub loop-at-preserved : goal.loop-at-preserved
loop-at-preserved c =
    let sided = c.args.sided.now in
    let n = c.args.numbering.now.n in
    let s = c.reach.new.self in
    let i = c.loop-at.at in
    let reach = c.reach.ensures in
    let inv = c.loop-at.invariant in
    let width = reach.width ∙ inv.width in
    let item = get_or sided i no_sides in
    record {
      width = width;
      least = omega (arith, inv.least);
      within = omega arith;
      fresh = λ e. absurd (omega (arith, inv.least, e));
      numbered = λ cells are.
          let now = sides_as cells sided n c.loop-at.numbering.n (sym inv.width) are in
          numbered_as cells c.loop-at.numbering.n n s inv.width (reach.numbered cells now);
      reached = λ cells are.
          let now = sides_as cells sided n c.loop-at.numbering.n (sym inv.width) are in
          let b = behind cells sided i are.sides c.loop-at-test.true in
          let z = ap (λ (x : SidedCell). x.z) b.sided in
          reached_more cells n s.ahead i b.cell are.mixed b.within b.here (lower_z cells s.ahead item.z b.cell.z z (reach.below cells now)) (upper_z cells s.ahead item.z b.cell.z z (reach.reached cells now));
      faces = λ cells are.
          let now = sides_as cells sided n c.loop-at.numbering.n (sym inv.width) are in
          let is = numbered_as cells c.loop-at.numbering.n n s inv.width (reach.numbered cells now) in
          let b = behind cells sided i are.sides c.loop-at-test.true in
          let z = ap (λ (x : SidedCell). x.z) b.sided in
          let own = ap (λ l. map (face_in s.n c.deref.result.now) l) (ap sided_triangles b.sided ∙ shape_moved b.cell)
          ∙ ap (λ m. map (face_in m c.deref.result.now) (triangles_of_cell b.cell)) width
          ∙ ap (λ l. map (face_in n l) (triangles_of_cell b.cell)) c.deref.ensures.value
          ∙ faces_here cells n s i b.cell are.mixed is (lower_z cells s.ahead item.z b.cell.z z (reach.below cells now)) (upper_z cells s.ahead item.z b.cell.z z (reach.reached cells now)) b.within b.here in
          faces_next cells i b.cell (all_faces cells (drop c.args.made cells)) c.loop-at.faces.items c.push_faces.new.faces.items (map (face_in s.n c.deref.result.now) (sided_triangles item)) b.within b.here c.push_faces.ensures (inv.faces cells are) own;
    }
