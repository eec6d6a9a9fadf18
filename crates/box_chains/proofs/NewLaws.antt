-- Old boxes are a set, and the new ones are counted once.
use Rattle.std.proofs.Common.{◌≡◌, ℕ, cond, length, refl, sym, ap, subst, ◌∙◌, arith}
use Rattle.std.specs.Prelude.{None, Option, Some, unwrap_or}
use Rattle.std.specs.List.{last_or, sum_by}
use Rattle.live_clauses.specs.Laws.{ListsAreToldApart}
use Rattle.view_places.specs.Laws.{HalvesPart}
use Rattle.box_chains.specs.Chains.{Descent, Visit, chain, chain_end, is_split, sides}
use Rattle.box_chains.specs.Counts.{cost, end_cost}
use Rattle.box_chains.specs.NewBoxes.{HasTheBox, NewBoxesAreCountedOnce, OldBoxesAreASet, WasOnWay}
use Rattle.box_chains.specs.Redrawn.{is_old, new_lengths, points_after, spans_after, ways_before}
use Rattle.box_chains.specs.Sums.{Sample}
use Rattle.box_chains.proofs.BoxLaws.{chain-is, on-path, on-way, splits}
use Rattle.box_chains.proofs.NewPaths.{WasOnPath, new-all, new-different, new-each, new-ends, new-sum, new_reached, old-was, path_before, was-old}
use Rattle.box_chains.proofs.Paths.{IsOnPath, at_first, path, path_end}
use Rattle.box_chains.proofs.SumLaws.{sum_in-same}

-- the ways of the frame before, from a box of the same samples
ways-are : (d : Descent) (before : Option Visit) (v : Visit) (s : Sample) → HasTheBox before v
    → ways_before d before s ≡ path_before (is_split d) (sides v.box) d before s
ways-are d None v s has = refl
ways-are d (Some u) v s has =
    chain-is (sides u.box) d u s ∙ ap (λ b. path (is_split d) (sides b) d u s) (has u refl)

was-way : (d : Descent) (before : Option Visit) (v w : Visit) → HasTheBox before v
    → WasOnPath (is_split d) (sides v.box) d before w → WasOnWay d before w
was-way d None v w has was = was
was-way d (Some u) v w has was =
    on-way d u w (subst (λ b. IsOnPath (is_split d) (sides b) d u w) (sym (has u refl)) was)

was-path : (d : Descent) (before : Option Visit) (v w : Visit) → HasTheBox before v
    → WasOnWay d before w → WasOnPath (is_split d) (sides v.box) d before w
was-path d None v w has was = was
was-path d (Some u) v w has was =
    subst (λ b. IsOnPath (is_split d) (sides b) d u w) (has u refl) (on-path d u w was)

pub old_boxes_are_a_set_is : ListsAreToldApart → HalvesPart → OldBoxesAreASet
old_boxes_are_a_set_is apart law d before v w s some is has lies held = (
  λ old. was-way d before v w has
      (old-was apart (sides v.box) d (is_split d) before v w s has lies (sym (ap (λ l. is_old l w) (ways-are d before v s has)) ∙ old)),
  λ was. ap (λ l. is_old l w) (ways-are d before v s has)
      ∙ was-old apart (sides v.box) d (is_split d) before v w s (splits law d some) is has held (was-path d before v w has was),
)

pub new_boxes_are_counted_once_is : ListsAreToldApart → HalvesPart → NewBoxesAreCountedOnce
unfolding spans_after points_after
new_boxes_are_counted_once_is apart law d before v some is has =
    let k = splits law d some in
    let n = sides v.box in
    let split = is_split d in
    record {
      boxes = new_reached split n d before v;
      different = new-different n d split before v k is;
      each = λ w inside. let parts = new-each apart n d split before v w k is has inside in
          record { on = on-way d v w parts.0; new = λ was. parts.1 (was-path d before v w has was) };
      all = λ w young. new-all apart n d split before v w k is has (on-path d v w young.on)
          (λ was. young.new (was-way d before v w has was));
      spans =
          sum_in-same v.box (λ s. new_lengths (ways_before d before s) s (chain d v s))
          (λ s. sum_by (λ w. cond (is_old (path_before split n d before s) w) 0 (at_first (λ u. length u.list) s w)) (path split n d v s))
          (λ s lies.
          ap (λ l. new_lengths l s (chain d v s)) (ways-are d before v s has)
          ∙ ap (new_lengths (path_before split n d before s) s) (chain-is n d v s))
          ∙ new-sum apart n d split before (λ w. length w.list) v k is has;
      points =
          sum_in-same v.box (λ s. cond (is_old (ways_before d before s) (chain_end d v s)) 0 (cost d v s))
          (λ s. cond (is_old (path_before split n d before s) (path_end split n d v s)) 0 (end_cost d (path_end split n d v s)))
          (λ s lies.
          ap (λ l. cond {A = ℕ} (is_old l (chain_end d v s)) 0 (cost d v s)) (ways-are d before v s has)
          ∙ ap (λ e. cond {A = ℕ} (is_old (path_before split n d before s) e) 0 (end_cost d e))
          (ap (λ l. unwrap_or (last_or None l) v) (chain-is n d v s)))
          ∙ new-ends apart n d split before (end_cost d) v k is has (omega arith);
    }
