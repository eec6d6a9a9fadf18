-- Each box on the ways to the cells is counted once.
use Rattle.std.proofs.Common.{◌≡◌, ℕ, zero, suc, ◌<◌, cond, [], ◌∷◌, length, refl, sym, ap, subst, ◌∙◌}
use Rattle.std.specs.List.{Contains, sum_by}
use Rattle.box_chains.specs.Chains.{Visit, next_visit, sides}
use Rattle.box_chains.specs.Counts.{first_lengths}
use Rattle.box_chains.specs.Laws.{Lawful}
use Rattle.box_chains.specs.Sums.{Sample}
use Rattle.box_chains.proofs.Paths.{IsOnPath, Splits, at_first, path, path-reached, path-sum, reached, reached-different, reached-on_path}
use Rattle.oct_descent.specs.Bound.{cell_spans_in}
use Rattle.oct_descent.specs.Laws.{IsOnWay, ReachedBoxesAreCountedOnce}
use Rattle.oct_descent.specs.Ways.{CellDescent, is_cut, way, way_within}
use Rattle.oct_descent.proofs.WayLaws.{cut-is_long}

-- the way to a cell is one on which open boxes of more than one cell are split
pub way-is : (n : ℕ) (d : CellDescent) (v : Visit) (s : Sample) → way_within n d v s ≡ path (is_cut d) n d.boxes v s
unfolding way_within path
way-is zero d v s = refl
way-is (suc n) d v s = ap (λ l. v ∷ cond (is_cut d v) l []) (way-is n d (next_visit d.boxes v s) s)

pub splits : Lawful → (d : CellDescent) → 0 < d.boxes.leaf → Splits d.boxes (is_cut d)
splits laws d some = record { law = laws.layers.halves; some = some; long = cut-is_long d }

pub on-way : (d : CellDescent) (v w : Visit) → IsOnPath (is_cut d) (sides v.box) d.boxes v w → IsOnWay d v w
on-way d v w there = record {
  cell = there.sample;
  lies = there.lies;
  on = subst (λ l. Contains l w) (sym (way-is (sides v.box) d v there.sample)) there.on;
}

pub on-path : (d : CellDescent) (v w : Visit) → IsOnWay d v w → IsOnPath (is_cut d) (sides v.box) d.boxes v w
on-path d v w there = record {
  sample = there.cell;
  lies = there.lies;
  on = subst (λ l. Contains l w) (way-is (sides v.box) d v there.cell) there.on;
}

-- So each box on the ways to the cells is counted once.
pub reached_boxes_counted : Lawful → ReachedBoxesAreCountedOnce
unfolding cell_spans_in
reached_boxes_counted laws d v some is =
    let k = splits laws d some in
    let n = sides v.box in
    record {
      boxes = reached (is_cut d) n d.boxes v;
      different = reached-different n d.boxes (is_cut d) v k is;
      each = λ w inside. on-way d v w (reached-on_path n d.boxes (is_cut d) v w k is inside);
      all =
          λ w there. let there_path = on-path d v w there in
          path-reached n d.boxes (is_cut d) v w there_path.sample k is there_path.lies there_path.on;
      sum =
          laws.sums.same v.box (λ s. first_lengths s (way d v s))
          (λ s. sum_by (at_first (λ w. length w.list) s) (path (is_cut d) n d.boxes v s))
          (λ s lies. ap (first_lengths s) (way-is n d v s))
          ∙ path-sum n d.boxes (is_cut d) (λ w. length w.list) v k is;
    }
