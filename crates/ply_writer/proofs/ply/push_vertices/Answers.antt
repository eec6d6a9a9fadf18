-- The lines of a batch are put behind those before it.
use Rattle.std.proofs.Common.{◌≡◌, ◌++◌, ◌∙◌, ap, rules, take}
use Rattle.std.specs.List.{flat_map}
use Rattle.std.proofs.lemmas.List.{append-nil}
use Rattle.ply_writer.specs.Ply.{vertex_line}
use Rattle.ply_writer.proofs.PieceLaws.{lines_batch}
use Rattle.ply_writer.proofs.ply.push_vertices.Goals as goal

pub loop-rest-preserved : goal.loop-rest-preserved
loop-rest-preserved c =
    let line = vertex_line c.args.block.now.view in
    let batch = c.split_at.result.0.now in
    let rest = c.loop-rest.rest.now in
    let text = c.loop-rest.text.items in
    let view = c.clear.ensures.view ∙ c.loop-rest.invariant.view in
    let bytes : c.piece.result.now ≡ flat_map line batch =
    c.piece.ensures.piece ∙ c.put_vertices.ensures.lines ∙ ap (λ v. flat_map (vertex_line v) batch ++ c.clear.new.self.bytes) view
    ∙ ap (λ none. flat_map line batch ++ none) c.clear.ensures.none ∙ append-nil (flat_map line batch)
    in
    record {
      view = c.put_vertices.ensures.view ∙ view;
      placed = search rules;
      lines = ap (λ l. l ++ flat_map line c.split_at.result.1.now) (c.in_ok-extend_from_slice.ensures.items ∙ ap (λ b. text ++ b) bytes)
          ∙ ap (λ b. (text ++ flat_map line b) ++ flat_map line c.split_at.result.1.now) c.split_at.ensures.front
          ∙ ap (λ a. (text ++ flat_map line (take c.min.result rest)) ++ flat_map line a) c.split_at.ensures.back
          ∙ lines_batch line text c.min.result rest ∙ c.loop-rest.invariant.lines;
    }
