-- The laws of ways, from those of the layers below.
use Rattle.std.proofs.Common.{◌≡◌, ◌+◌, Bool, true, false, cond, [], ◌∷◌, length, refl, arith}
use Rattle.std.specs.List.{sum_by}
use Rattle.view_places.specs.Boxes.{halves_of}
use Rattle.box_chains.specs.Chains.{handed_on, is_long, next_visit, visit}
use Rattle.box_chains.specs.Laws.{Lawful}
use Rattle.oct_descent.specs.Bound.{long_spans_in, cell_spans_in}
use Rattle.oct_descent.specs.Laws.{LongMeshSpansAddUp, MeshSpansAddUp, WaysGoOn}
use Rattle.oct_descent.specs.Ways.{is_cut, way}
use Rattle.oct_descent.proofs.WayLaws.{cut-is_long, long-end, long-split, spans-end, spans-split, way-ends, way-goes_on}

pub ways_go_on_is : Lawful → WaysGoOn
ways_go_on_is laws d v s some is lies = by (is_cut d v) refl
  where
    by : (t : Bool) → is_cut d v ≡ t → way d v s ≡ v ∷ cond t (way d (next_visit d.boxes v s) s) []
    by false e = way-ends d v s is e
    by true e = way-goes_on laws d v s some is lies e

pub spans_add_up_is : Lawful → MeshSpansAddUp
spans_add_up_is laws d v some is = by (is_cut d v) refl
  where
    by : (t : Bool) → is_cut d v ≡ t
        → cell_spans_in d v
        ≡ length v.list + cond t (sum_by (λ half. cell_spans_in d (visit half (handed_on d.boxes v))) (halves_of d.boxes.leaf v.box)) 0
    by false e = omega (arith, spans-end laws d v is e)
    by true e = spans-split laws d v some is e

pub long_spans_add_up_is : Lawful → LongMeshSpansAddUp
long_spans_add_up_is laws d v some is = by (is_cut d v) refl
  where
    by : (t : Bool) → is_cut d v ≡ t
        → long_spans_in d v
        ≡ cond (is_long d.boxes.leaf v.box) (length v.list) 0
        + cond t (sum_by (λ half. long_spans_in d (visit half (handed_on d.boxes v))) (halves_of d.boxes.leaf v.box)) 0
    by false e = omega (arith, long-end laws d v is e)
    by true e = rw (cut-is_long d v e) (long-split laws d v some is e)
