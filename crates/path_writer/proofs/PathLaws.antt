-- How the parts of paths come together.
use Rattle.std.proofs.Common.{◌≡◌, ℕ, suc, ◌+◌, ◌-◌, ◌<◌, ◌≤◌, List, [], ◌∷◌, ◌++◌, length, map, take, drop, ap, sym, subst, ◌∙◌, append_assoc, add-one, drop-cons, take_all, arith}
use Rattle.std.specs.Prelude.{codes, get_or, if◌then◌else◌, is_ok, OnOk, Result, Ok, Err}
use Rattle.std.specs.List.{flat_map}
use Rattle.std.proofs.lemmas.List.{append-nil, drop_all, flat_map_more, length-drop, map-append, take_more}
use Rattle.plane_loops.specs.Contours.{Contour, IsContour}
use Rattle.plane_loops.specs.Planes.{IsBordered, PlaneGrid}
use Rattle.plane_loops.proofs.Closing.{contours_are_closed}
use Rattle.plane_loops.specs.declared.plane_vertex.PlaneVertex.{PlaneVertex}
use Rattle.view_places.specs.Window.{Window}
use Rattle.path_writer.specs.Closed.{AreClosedPaths}
use Rattle.path_writer.specs.Paths.{path_line, path_of, pieces_from, vertex_at}
use Rattle.path_writer.specs.Written.{ArePiecesTo}

-- the place of a vertex, behind its mark
pub place_pieces : (text mark x y : List ℕ) → (text ++ mark) ++ (x ++ 32 ∷ (y ++ [])) ≡ text ++ (mark ++ (x ++ codes " " ++ y))
place_pieces text mark x y = simp (append_assoc, append-nil)

-- the lists of the first elements, seen by something, and that of the next
pub lines_next : {V : Type 0} (f : V → List ℕ) (g : ℕ → V) (xs : List ℕ) (i : ℕ) (d : ℕ) (before text new : List ℕ) → i < length xs
    → text ≡ before ++ flat_map f (map g (take i xs)) → new ≡ text ++ f (g (get_or xs i d)) → new ≡ before ++ flat_map f (map g (take (i + 1) xs))
lines_next f g xs i d before text new within so_far next =
    let parts : map g (take (i + 1) xs) ≡ map g (take i xs) ++ g (get_or xs i d) ∷ [] =
    ap (map g) (take_more xs i d within) ∙ map-append g (take i xs) (get_or xs i d ∷ []) in
    next ∙ ap (λ l. l ++ f (g (get_or xs i d))) so_far ∙ flat_map_more f before (map g (take i xs)) (g (get_or xs i d))
    ∙ sym (ap (λ l. before ++ flat_map f l) parts)

-- pieces end no later than the last of them
pub pieces_within : (start last : ℕ) (ends : List ℕ) → ArePiecesTo start last ends → start ≤ last
pieces_within start last [] are = omega (arith, are)
pieces_within start last (end ∷ ends) are = omega (arith, are.0, pieces_within end last ends are.1)

-- the next piece starts before it ends, ends no later than the last, and others follow it
pub next_piece : (start last : ℕ) (ends : List ℕ) (i : ℕ) → i < length ends → ArePiecesTo start last (drop i ends)
    → (start < get_or ends i 0) × (get_or ends i 0 ≤ last) × ArePiecesTo (get_or ends i 0) last (drop (i + 1) ends)
next_piece start last ends i within are =
    let split : ArePiecesTo start last (get_or ends i 0 ∷ drop (suc i) ends) = subst (ArePiecesTo start last) (drop-cons ends i 0 within) are in
    (split.0, pieces_within (get_or ends i 0) last (drop (suc i) ends) split.1, rw add-one split.1)

-- the lines so far with that of the next piece, and those of the pieces that are then left, are all
lines_done : (f : List ℕ → List ℕ) (order ends : List ℕ) (start i end : ℕ) (text new whole : List ℕ) → i < length ends → get_or ends i 0 ≡ end
    → new ≡ text ++ f (take (end - start) (drop start order)) → text ++ flat_map f (pieces_from start order (drop i ends)) ≡ whole
    → new ++ flat_map f (pieces_from end order (drop (i + 1) ends)) ≡ whole
lines_done f order ends start i end text new whole within here next so_far =
    let rest = flat_map f (pieces_from end order (drop (suc i) ends)) in
    let split : drop i ends ≡ end ∷ drop (suc i) ends = drop-cons ends i 0 within ∙ ap (λ k. k ∷ drop (suc i) ends) here in
    rw add-one (ap (λ l. l ++ rest) next ∙ append_assoc text (f (take (end - start) (drop start order))) rest
    ∙ ap (λ l. text ++ flat_map f (pieces_from start order l)) (sym split) ∙ so_far)

-- the same of the loops of a contour, where the line was put behind the text from copies of its parts
pub next_line : (w known : Window) (c : Contour) (vertices : List PlaneVertex) (order ends : List ℕ) (start i : ℕ) (text new : List ℕ)
    → known ≡ w → vertices ≡ c.vertices → order ≡ c.order → ends ≡ c.ends → i < length ends
    → new ≡ text ++ path_line known (map (vertex_at vertices) (take (get_or ends i 0 - start) (drop start order)))
    → text ++ flat_map (λ loop. path_line w (map (vertex_at c.vertices) loop)) (pieces_from start c.order (drop i c.ends)) ≡ path_of w c
    → new ++ flat_map (λ loop. path_line w (map (vertex_at c.vertices) loop)) (pieces_from (get_or ends i 0) c.order (drop (i + 1) c.ends)) ≡ path_of w c
next_line w known c vertices order ends start i text new places same listed ended within next so_far =
    let end = get_or ends i 0 in
    lines_done (λ loop. path_line w (map (vertex_at c.vertices) loop)) c.order c.ends start i end text new (path_of w c)
    (subst (λ l. i < length l) ended within) (ap (λ l. get_or l i 0) (sym ended))
    (next ∙ ap (λ k. text ++ path_line k (map (vertex_at vertices) (take (end - start) (drop start order)))) places
    ∙ ap (λ l. text ++ path_line w (map (vertex_at l) (take (end - start) (drop start order)))) same
    ∙ ap (λ l. text ++ path_line w (map (vertex_at c.vertices) (take (end - start) (drop start l)))) listed) so_far

-- what stands after a list was put behind another one
pub put_behind : {T E : Type 0} (r : Result T E) (new old xs whole : List ℕ) → new ≡ (if is_ok r then old ++ xs else old) → old ++ xs ≡ whole → OnOk r (new ≡ whole)
put_behind (Ok done) new old xs whole «is» same = «is» ∙ same
put_behind (Err error) new old xs whole «is» same = tt

-- a line of some length, from its start on
pub from_start : (length_of start : ℕ) (line parts : List ℕ) → length line ≡ length_of → drop start line ≡ parts → take (length_of - start) (drop start line) ≡ parts
from_start n start line parts long «is» = take_all (n - start) (drop start line) (omega (arith, length-drop start line, long)) ∙ «is»

-- once no piece is left, the lines so far are all
pub lines_all : (text all : List ℕ) (f : List ℕ → List ℕ) (start : ℕ) (order ends : List ℕ) (i : ℕ) → length ends ≤ i
    → text ++ flat_map f (pieces_from start order (drop i ends)) ≡ all → text ≡ all
lines_all text all f start order ends i none lines =
    sym (append-nil text) ∙ sym (ap (λ l. text ++ flat_map f (pieces_from start order l)) (drop_all i ends none)) ∙ lines

-- the paths of a contour of a bordered grid are closed
pub paths_are_closed : (view : Window) (c : Contour) (bytes : List ℕ) → bytes ≡ path_of view c → (g : PlaneGrid) → IsBordered g → IsContour g c
    → AreClosedPaths view g bytes
paths_are_closed view c bytes written g border contour =
    record { contour = c; «is» = contour; written = written; closed = contours_are_closed g c border contour }
