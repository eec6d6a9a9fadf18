-- Old boxes of cells are a set, and the new ones are counted once.
use Rattle.std.proofs.Common.{◌≡◌, ℕ, Bool, true, false, not, cond, List, length, refl, sym, ap, subst, ◌∙◌, arith}
use Rattle.std.specs.Prelude.{None, Option, Some, ◌&&◌}
use Rattle.std.specs.List.{Contains, sum_by}
use Rattle.std.proofs.lemmas.Bool.{and_from, and_parts, false≢true}
use Rattle.std.proofs.lemmas.List.Elements.{All-contains_itself, All-weaker}
use Rattle.live_clauses.specs.declared.step.Step.{Step}
use Rattle.view_places.specs.Window.{Window}
use Rattle.box_chains.specs.Chains.{Visit, is_long, sides}
use Rattle.box_chains.specs.Counts.{is_first}
use Rattle.box_chains.specs.Laws.{Lawful}
use Rattle.box_chains.specs.NewBoxes.{HasTheBox}
use Rattle.box_chains.specs.Redrawn.{is_old, new_lengths}
use Rattle.box_chains.specs.Sums.{LiesIn, Sample}
use Rattle.box_chains.proofs.NewPaths.{WasOnPath, new-all, new-different, new-each, new-sum, new_reached, old-was, path_before, was-old}
use Rattle.box_chains.proofs.Paths.{IsOnPath, Splits, at_first, path, path-around}
use Rattle.oct_descent.specs.After.{cell_spans_after, long_spans_after, mesh_before, new_long_lengths, ways_before}
use Rattle.oct_descent.specs.NewBoxes.{MeshBoxesAreCountedOnce, NewBoxesAreCountedOnce, OldBoxesAreASet, WasOnWay}
use Rattle.oct_descent.specs.Ways.{CellDescent, grid_root, gridded, is_cut, is_working, way, way_end}
use Rattle.oct_descent.proofs.AfterBounds.{whole-box}
use Rattle.oct_descent.proofs.AfterOld.{end-stands}
use Rattle.oct_descent.proofs.Reached.{on-path, on-way, splits, way-is}
use Rattle.oct_descent.proofs.WayLaws.{sum_by-equal}

-- the ways of the mesh before, from a box of the same cells
ways-are : (d : CellDescent) (before : Option Visit) (v : Visit) (s : Sample) → HasTheBox before v
    → ways_before d before s ≡ path_before (is_cut d) (sides v.box) d.boxes before s
ways-are d None v s has = refl
ways-are d (Some u) v s has =
    way-is (sides u.box) d u s ∙ ap (λ b. path (is_cut d) (sides b) d.boxes u s) (has u refl)

was-way : (d : CellDescent) (before : Option Visit) (v w : Visit) → HasTheBox before v
    → WasOnPath (is_cut d) (sides v.box) d.boxes before w → WasOnWay d before w
was-way d None v w has was = was
was-way d (Some u) v w has was =
    on-way d u w (subst (λ b. IsOnPath (is_cut d) (sides b) d.boxes u w) (sym (has u refl)) was)

was-path : (d : CellDescent) (before : Option Visit) (v w : Visit) → HasTheBox before v
    → WasOnWay d before w → WasOnPath (is_cut d) (sides v.box) d.boxes before w
was-path d None v w has was = was
was-path d (Some u) v w has was =
    subst (λ b. IsOnPath (is_cut d) (sides b) d.boxes u w) (has u refl) (on-path d u w was)

pub old_boxes_are_a_set_is : Lawful → OldBoxesAreASet
old_boxes_are_a_set_is laws d before v w s some is has lies held = (
  λ old. was-way d before v w has
      (old-was laws.layers.equal (sides v.box) d.boxes (is_cut d) before v w s has lies
      (sym (ap (λ l. is_old l w) (ways-are d before v s has)) ∙ old)),
  λ was. ap (λ l. is_old l w) (ways-are d before v s has)
      ∙ was-old laws.layers.equal (sides v.box) d.boxes (is_cut d) before v w s (splits laws d some) is has held (was-path d before v w has was),
)

not-false : (t : Bool) → not t ≡ true → t ≡ false
not-false true h = absurd (false≢true h)
not-false false h = refl

not-of : (t : Bool) → (t ≡ true → ⊥) → not t ≡ true
not-of true never = absurd (never refl)
not-of false never = refl

pub new_boxes_are_counted_once_is : Lawful → NewBoxesAreCountedOnce
unfolding cell_spans_after long_spans_after
new_boxes_are_counted_once_is laws d before v some is has = record {
  boxes = boxes;
  different = new-different n d.boxes (is_cut d) before v k is;
  each = λ w inside. let parts = new-each laws.layers.equal n d.boxes (is_cut d) before v w k is has inside in
      record { on = on-way d v w parts.0; new = λ was. parts.1 (was-path d before v w has was) };
  all = λ w young. listed w (on-path d v w young.on) (λ was. young.new (was-way d before v w has was));
  spans =
      laws.sums.same v.box (λ s. new_lengths (ways_before d before s) s (way d v s))
      (λ s. sum_by (λ w. cond (is_old (path_before (is_cut d) n d.boxes before s) w) 0 (at_first (λ u. length u.list) s w)) (path (is_cut d) n d.boxes v s))
      (λ s lies.
      ap (λ l. new_lengths l s (way d v s)) (ways-are d before v s has)
      ∙ ap (new_lengths (path_before (is_cut d) n d.boxes before s) s) (way-is n d v s))
      ∙ new-sum laws.layers.equal n d.boxes (is_cut d) before (λ w. length w.list) v k is has;
  long =
      laws.sums.same v.box (λ s. new_long_lengths d (ways_before d before s) s (way d v s))
      (λ s. sum_by (λ w. cond (is_old (path_before (is_cut d) n d.boxes before s) w) 0 (at_first long_length s w)) (path (is_cut d) n d.boxes v s))
      (λ s lies.
      ap (λ l. new_long_lengths d l s (way d v s)) (ways-are d before v s has)
      ∙ ap (new_long_lengths d (path_before (is_cut d) n d.boxes before s) s) (way-is n d v s)
      ∙ turned (path_before (is_cut d) n d.boxes before s) s (path (is_cut d) n d.boxes v s))
      ∙ new-sum laws.layers.equal n d.boxes (is_cut d) before long_length v k is has;
  cells = λ s lies. (
    λ new. let parts = and_parts (is_working d v s) (not (is_old (ways_before d before s) (way_end d v s))) new in (
      parts.0,
      listed (way_end d v s) (end-on s lies) (λ was. false≢true
          (sym (not-false (is_old (ways_before d before s) (way_end d v s)) parts.1) ∙ is-old s lies was)),
    ),
    λ both. and_from (is_working d v s) (not (is_old (ways_before d before s) (way_end d v s))) both.0
        (not-of (is_old (ways_before d before s) (way_end d v s)) (λ old.
        (new-each laws.layers.equal n d.boxes (is_cut d) before v (way_end d v s) k is has both.1).1
        (old-was laws.layers.equal n d.boxes (is_cut d) before v (way_end d v s) s has lies
        (sym (ap (λ l. is_old l (way_end d v s)) (ways-are d before v s has)) ∙ old)))),
  );
}
  where
    n : ℕ
    n = sides v.box

    k : Splits d.boxes (is_cut d)
    k = splits laws d some

    boxes : List Visit
    boxes = new_reached (is_cut d) n d.boxes before v

    long_length : Visit → ℕ
    long_length w = cond (is_long d.boxes.leaf w.box) (length w.list) 0

    listed : (w : Visit) → IsOnPath (is_cut d) n d.boxes v w → (WasOnPath (is_cut d) n d.boxes before w → ⊥) → Contains boxes w
    listed w way young = new-all laws.layers.equal n d.boxes (is_cut d) before v w k is has way young

    end-way : (s : Sample) → Contains (path (is_cut d) n d.boxes v s) (way_end d v s)
    end-way s = subst (λ l. Contains l (way_end d v s)) (way-is n d v s) (end-stands d v s is)

    end-on : (s : Sample) → LiesIn v.box s → IsOnPath (is_cut d) n d.boxes v (way_end d v s)
    end-on s lies = record { sample = s; lies = lies; on = end-way s }

    is-old : (s : Sample) → LiesIn v.box s → WasOnPath (is_cut d) n d.boxes before (way_end d v s)
        → is_old (ways_before d before s) (way_end d v s) ≡ true
    is-old s lies was =
        ap (λ l. is_old l (way_end d v s)) (ways-are d before v s has)
        ∙ was-old laws.layers.equal n d.boxes (is_cut d) before v (way_end d v s) s k is has
        (path-around n d.boxes (is_cut d) v (way_end d v s) s k is lies (end-way s)).lies was

    one : (o long first : Bool) (m : ℕ) → cond {A = ℕ} o 0 (cond (long && first) m 0) ≡ cond o 0 (cond first (cond long m 0) 0)
    one true long first m = refl
    one false true true m = refl
    one false true false m = refl
    one false false true m = refl
    one false false false m = refl

    turned : (old : List Visit) (s : Sample) (ws : List Visit)
        → new_long_lengths d old s ws ≡ sum_by (λ w. cond (is_old old w) 0 (at_first long_length s w)) ws
    turned old s ws =
        sum_by-equal (λ w. cond (is_old old w) 0 (cond (is_long d.boxes.leaf w.box && is_first w.box s) (length w.list) 0))
        (λ w. cond (is_old old w) 0 (at_first long_length s w)) ws
        (All-weaker (Contains ws)
        (λ w. cond {A = ℕ} (is_old old w) 0 (cond (is_long d.boxes.leaf w.box && is_first w.box s) (length w.list) 0)
        ≡ cond (is_old old w) 0 (at_first long_length s w))
        (λ w among. one (is_old old w) (is_long d.boxes.leaf w.box) (is_first w.box s) (length w.list))
        ws (All-contains_itself ws))

-- the mesh before has the same cells
same-box : (view : Window) (before : Option (List Step)) (list : List Step) → HasTheBox (mesh_before view before) (grid_root view list)
same-box view None list old is = let none : None ≡ Some old = is in (cc)
same-box view (Some other) list old is =
    let same : Some (grid_root view other) ≡ Some old = is in
    let root : grid_root view other ≡ old = (cc) in
    sym (ap (λ (v : Visit). v.box) root)

pub mesh_boxes_are_counted_once_is : Lawful → MeshBoxesAreCountedOnce
mesh_boxes_are_counted_once_is laws view before list window =
    new_boxes_are_counted_once_is laws (gridded view) (mesh_before view before) (grid_root view list) (omega arith) (whole-box view list window) (same-box view before list)
