-- The loops of a contour are the pieces of its order, and they are closed. Proofs of crates above may cite this.
use Rattle.std.proofs.Common.{◌≡◌, ℕ, ◌+◌, ◌-◌, List, [], ◌∷◌, ◌++◌, length, take, drop, refl, ap, sym, subst, ◌∙◌, append_assoc, length-append, arith}
use Rattle.std.specs.List.{concat}
use Rattle.std.proofs.Math.Seq.{drop-append_seam, take-append_seam}
use Rattle.plane_loops.specs.Closed.{ContoursAreClosed}
use Rattle.plane_loops.specs.Contours.{AreJoined, AreLoops, Contour, IsContour, contour_with, ends_from, loops_of, pieces_from}
use Rattle.plane_loops.specs.Planes.{PlaneGrid, mixed_edges}
use Rattle.plane_loops.proofs.ArrivalLaws.{one_segment_each_way}
use Rattle.plane_loops.proofs.DistinctLaws.{segments_are_distinct}
use Rattle.plane_loops.proofs.LongLaws.{loops_are_long}

pieces_whole : (before : List ℕ) (loops : List (List ℕ)) → pieces_from (length before) (before ++ concat loops) (ends_from (length before) loops) ≡ loops
pieces_whole before [] = refl
pieces_whole before (loop ∷ loops) =
    let n = length before in
    let count : (n + length loop) - n ≡ length loop = omega arith in
    let first : take ((n + length loop) - n) (drop n (before ++ (loop ++ concat loops))) ≡ loop =
    ap (λ k. take k (drop n (before ++ (loop ++ concat loops)))) count
    ∙ ap (take (length loop)) (drop-append_seam before (loop ++ concat loops)) ∙ take-append_seam loop (concat loops) in
    let others : pieces_from (n + length loop) (before ++ (loop ++ concat loops)) (ends_from (n + length loop) loops) ≡ loops =
    subst (λ k. pieces_from k (before ++ (loop ++ concat loops)) (ends_from k loops) ≡ loops) (length-append before loop)
    (subst (λ (xs : List ℕ). pieces_from (length (before ++ loop)) xs (ends_from (length (before ++ loop)) loops) ≡ loops) (append_assoc before loop (concat loops))
    (pieces_whole (before ++ loop) loops)) in
    ap (λ l. l ∷ pieces_from (n + length loop) (before ++ (loop ++ concat loops)) (ends_from (n + length loop) loops)) first ∙ ap (λ ls. loop ∷ ls) others

-- the loops of the contour that has some
pub loops_with : (g : PlaneGrid) (loops : List (List ℕ)) → loops_of (contour_with g loops) ≡ loops
loops_with g loops = pieces_whole [] loops

-- the loops of a contour of a grid follow its segments
pub loops_follow : (g : PlaneGrid) (c : Contour) → IsContour g c → AreLoops (length (mixed_edges g)) (AreJoined g) (loops_of c)
loops_follow g c contour =
    let loops : loops_of c ≡ contour.loops = ap loops_of contour.is ∙ loops_with g contour.loops in
    subst (AreLoops (length (mixed_edges g)) (AreJoined g)) (sym loops) contour.follow

pub contours_are_closed : ContoursAreClosed
contours_are_closed g c border contour =
    let follow = loops_follow g c contour in
    record {
      follow = follow;
      long = loops_are_long g border (loops_of c) follow;
      distinct = segments_are_distinct g;
      each_way = one_segment_each_way g border;
    }
