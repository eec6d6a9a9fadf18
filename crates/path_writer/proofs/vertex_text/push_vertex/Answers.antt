-- The mark, and then the line.
use Rattle.std.proofs.Common.{◌≡◌, ◌++◌, ◌-◌, ◌∙◌, ◌∷◌, [], ap, take, drop, refl, rules, arith}
use Rattle.std.specs.Prelude.{codes}
use Rattle.std.specs.Int.{w64}
use Rattle.std.proofs.lemmas.Int.{ints, to_z-of_z}
use Rattle.fixed_ops.specs.NumberTexts.{number_text}
use Rattle.tetra_mesh.specs.Places.{vertex_place}
use Rattle.view_places.specs.declared.lattice.Axis.TheVariants.{X, Y}
use Rattle.path_writer.specs.Paths.{place_text}
use Rattle.path_writer.proofs.PathLaws.{from_start, place_pieces, put_behind}
use Rattle.path_writer.proofs.vertex_text.push_vertex.Goals as goal

pub returns : goal.returns
returns c =
    let text = c.args.text.now.items in
    let mark = c.args.mark.now in
    let start = c.number_before-start-2.result in
    let line = c.number_before-start-2.new.line in
    let x = number_text c.raw-2.result in
    let y = number_text c.raw.result in
    let known_x = to_z-of_z w64 c.raw-2.result (omega (arith, ints, c.raw-2.ensures.raw.0, c.raw-2.ensures.raw.1)) in
    let known_y = to_z-of_z w64 c.raw.result (omega (arith, ints, c.raw.ensures.raw.0, c.raw.ensures.raw.1)) in
    let drawn : drop start line ≡ x ++ 32 ∷ (y ++ []) =
    rw (c.number_before-start-2.ensures.written, c.byte_before-start.ensures.written, c.number_before-start.ensures.written, known_x, known_y) refl in
    let written : take (45 - start) (drop start line) ≡ x ++ 32 ∷ (y ++ []) = from_start 45 start line _ (search rules) drawn in
    let marked : c.extend_from_slice.new.self.items ≡ text ++ mark = c.in_ok-extend_from_slice.ensures.items in
    let places : x ++ codes " " ++ y ≡ place_text c.args.places.now c.args.v.now =
    ap (λ at. number_text at ++ codes " " ++ y) c.raw-2.ensures.place ∙ ap (λ at. number_text (vertex_place c.args.places.now c.on_the_grid-v.result X) ++ codes " " ++ number_text at) c.raw.ensures.place
    ∙ ap (λ v. number_text (vertex_place c.args.places.now v X) ++ codes " " ++ number_text (vertex_place c.args.places.now v Y)) c.on_the_grid-v.ensures.vertex in
    put_behind c.extend_from_slice-2.result c.extend_from_slice-2.new.self.items c.extend_from_slice.new.self.items (take (45 - start) (drop start line)) (text ++ (mark ++ place_text c.args.places.now c.args.v.now))
    c.extend_from_slice-2.ensures.items
    (ap (λ l. l ++ take (45 - start) (drop start line)) marked ∙ ap (λ l. (text ++ mark) ++ l) written ∙ place_pieces text mark x y
    ∙ ap (λ place. text ++ (mark ++ place)) places)
