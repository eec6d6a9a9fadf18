-- What the faults tell.
use Rattle.std.proofs.Common.{arith}
use Rattle.std.proofs.lemmas.List.{length-map}
use Rattle.ply_check.specs.Corners.{triple_of, triples}
use Rattle.ply_check.proofs.FaultLaws.{finds_edge, finds_none, finds_vertex}
use Rattle.ply_check.proofs.Places.{edges_long}
use Rattle.ply_check.proofs.checking.verdict.Goals as goal

pub returns-then-faults-faces : goal.returns-then-faults-faces
returns-then-faults-faces c =
    let fs = triples c.args.faces.now in
    let triangles = c.in_default.ensures in
    finds_edge fs c.top_of.result c.args.count c.in_ok-faults.faults c.edge_at-from.result.0 c.edge_at-from.result.1
    (record { triangles = triangles; below = c.top_of.ensures.below; found = c.in_ok-faults.ensures })
    (omega (arith, edges_long fs, length-map c.args.faces.now triple_of)) c.edge_at-from.ensures

pub returns-then-faults-count : goal.returns-then-faults-count
returns-then-faults-count c =
    let fs = triples c.args.faces.now in
    finds_vertex fs c.top_of.result c.args.count c.in_ok-faults.faults
    (record { triangles = c.in_default.ensures; below = c.top_of.ensures.below; found = c.in_ok-faults.ensures })
    (omega (arith, edges_long fs, length-map c.args.faces.now triple_of)) (omega arith)

pub returns-else-faults-count : goal.returns-else-faults-count
returns-else-faults-count c =
    let fs = triples c.args.faces.now in
    finds_none fs c.top_of.result c.args.count c.in_ok-faults.faults
    (record { triangles = c.in_default.ensures; below = c.top_of.ensures.below; found = c.in_ok-faults.ensures })
    (omega (arith, edges_long fs, length-map c.args.faces.now triple_of)) (omega arith)
