-- Three edges and a triangle.
use Rattle.tetra_mesh.proofs.EdgeLaws.{adds_triangle}
use Rattle.tetra_mesh.proofs.shape.push_triangle.Goals as goal

pub returns-clause-adds : goal.returns-clause-adds
returns-clause-adds c =
    adds_triangle c.args.triple.now c.args.edges.now.items c.place_of-a.new.edges.items c.place_of-b.new.edges.items c.place_of-c.new.edges.items c.place_of-a.result c.place_of-b.result c.place_of-c.result c.args.triangles.now.items c.push.new.self.items
    c.place_of-a.ensures c.place_of-b.ensures c.place_of-c.ensures c.push.ensures.items
