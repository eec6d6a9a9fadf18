-- What drawing a box leaves.
use Rattle.std.proofs.Common.{◌≡◌, ℕ, ◌+◌, ◌*◌, ◌/◌, ◌%◌, ◌<◌, ◌≤◌, Bool, true, false, List, length, get_or, refl, sym, ap, subst, ◌∙◌, arith}
use Rattle.std.specs.Prelude.{Option, Some, None, nat_le}
use Rattle.std.proofs.Math.Nat.{mul-le-mul_right}
use Rattle.std.proofs.lemmas.Bool.{le-leb, lt-ltb}
use Rattle.std.proofs.lemmas.Nat.{div-mul-add, mod-mul-add}
use Rattle.std.specs.List.{All}
use Rattle.std.proofs.lemmas.List.Elements.{All-drop, All-take, All-weaker}
use Rattle.box_chains.specs.Chains.{Visit, decision, handed_on, is_long, visit}
use Rattle.box_chains.specs.Parts.{IsPart}
use Rattle.box_chains.specs.Sums.{LiesIn, Sample, sum_in}
use Rattle.box_chains.specs.Visits.{IsVisit}
use Rattle.box_chains.specs.Laws.{Lawful}
use Rattle.fixed_ops.specs.Counts.{Counts, RisesBy, points_of}
use Rattle.fixed_ops.specs.Raw.{is_inside}
use Rattle.live_clauses.specs.declared.step.Step.{Step}
use Rattle.view_places.specs.Boxes.{Indices, IsBox, halves_of}
use Rattle.view_places.specs.Spans.{IsInRoot}
use Rattle.view_places.specs.Window.{IsWindow, Window}
use Rattle.view_places.specs.declared.lattice.Lattice.TheVariants.{Height}
use Rattle.box_chains.specs.Tallied.{CountsAtMost}
use Rattle.height_map.specs.Bound.{layered}
use Rattle.box_chains.specs.Counts.{open_spans}
use Rattle.box_chains.specs.Tested.{open_points_where}
use Rattle.height_map.specs.Columns.{Changes, IsAmong, covers, is_open, leaf_cost, leaf_top, lifted}
use Rattle.height_map.specs.Tops.{inside, top_among}
use Rattle.height_map.proofs.ChangeLaws.{Changes-numbers, cell-of, covers-place, place-within}
use Rattle.height_map.proofs.Beside.{far-dropped, far-taken, farther-below, halves-top, nearer-ends}
use Rattle.height_map.specs.Beside.{beside_top, farther, nearer}
use Rattle.box_chains.specs.Opened.{sampling}
use Rattle.height_map.specs.Opened.{outcome_top}
use Rattle.box_chains.specs.Outcomes.{outcome_by, outcome_of}
use Rattle.box_chains.specs.declared.outcome.Outcome.{Outcome}
use Rattle.box_chains.specs.declared.outcome.Outcome.TheVariants.{Outside as AllOutside}
use Rattle.height_map.proofs.TopLaws.{best, best-all, best-empty, best-none, best-same, lifted-nothing, open-same}

-- a sample of a column of a box
sample-lies : (b : Indices) (i j k : ℕ) → (b.x0 ≤ i) × (i < b.x1) → (b.y0 ≤ j) × (j < b.y1) → b.z0 ≤ k → k < b.z1 → LiesIn b (record { i = i; j = j; k = k })
sample-lies b i j k x y low high = record { x = x; y = y; z = (low, high) }

-- the list that is handed on gives each column the same top
pub handed-top : (laws : Lawful) (view : Window) (b : Indices) (list : List Step) (i j : ℕ) → IsVisit (layered view) (visit b list) → (b.x0 ≤ i) × (i < b.x1) → (b.y0 ≤ j) × (j < b.y1)
    → top_among view (handed_on (layered view) (visit b list)) b.z0 b.z1 i j ≡ top_among view list b.z0 b.z1 i j
handed-top laws view b list i j is x y =
    best-same (inside view (handed_on (layered view) (visit b list)) i j) (inside view list i j) b.z0 b.z1
    (λ k l h. ap is_inside (laws.visits.values (layered view) (visit b list) (record { i = i; j = j; k = k }) is (sample-lies b i j k x y l h)))

-- a box that is inside gives each column a top right above it
pub inside-top : (laws : Lawful) (view : Window) (b : Indices) (list : List Step) (i j : ℕ) → IsVisit (layered view) (visit b list) → decision (layered view) (visit b list) ≡ Some true
    → (b.x0 ≤ i) × (i < b.x1) → (b.y0 ≤ j) × (j < b.y1) → top_among view list b.z0 b.z1 i j ≡ b.z1
inside-top laws view b list i j is e x y =
    best-all (inside view list i j) b.z0 b.z1 is.box.z
    (λ k l h. laws.visits.decided (layered view) (visit b list) (record { i = i; j = j; k = k }) true is (sample-lies b i j k x y l h) e)

-- and a box that is outside gives none
pub outside-top : (laws : Lawful) (view : Window) (b : Indices) (list : List Step) (i j : ℕ) → IsVisit (layered view) (visit b list) → decision (layered view) (visit b list) ≡ Some false
    → (b.x0 ≤ i) × (i < b.x1) → (b.y0 ≤ j) × (j < b.y1) → top_among view list b.z0 b.z1 i j ≡ 0
outside-top laws view b list i j is e x y =
    best-none (inside view list i j) b.z0 b.z1
    (λ k l h. laws.visits.decided (layered view) (visit b list) (record { i = i; j = j; k = k }) false is (sample-lies b i j k x y l h) e)

-- what a box that is inside changes
pub inside-drawn : (laws : Lawful) (view : Window) (list : List Step) (b : Indices) (w : ℕ) (before after : List ℕ) → w ≡ view.w → IsVisit (layered view) (visit b list)
    → decision (layered view) (visit b list) ≡ Some true → Changes (covers w b) (λ p. lifted b.z1) before after → Changes (covers w b) (leaf_top view list b) before after
inside-drawn laws view list b w before after width is e changed =
    Changes-numbers (covers w b) (λ p. lifted b.z1) (leaf_top view list b) before after
    (λ p h c.
    let cell = cell-of view.w p b (ap (λ n. covers n b p) (sym width) ∙ c) in
    ap (λ n. lifted n (get_or before p 0)) (sym (inside-top laws view b list (p % view.w) (p / view.w) is e cell.column cell.row)))
    changed

-- what an undecided box changes
pub undecided-drawn : (laws : Lawful) (view : Window) (list live : List Step) (b : Indices) (w : ℕ) (before after : List ℕ) → w ≡ view.w → IsVisit (layered view) (visit b list)
    → live ≡ handed_on (layered view) (visit b list) → Changes (covers w b) (leaf_top view live b) before after → Changes (covers w b) (leaf_top view list b) before after
undecided-drawn laws view list live b w before after width is same changed =
    Changes-numbers (covers w b) (leaf_top view live b) (leaf_top view list b) before after
    (λ p h c.
    let cell = cell-of view.w p b (ap (λ n. covers n b p) (sym width) ∙ c) in
    ap (λ n. lifted n (get_or before p 0))
    (ap (λ l. top_among view l b.z0 b.z1 (p % view.w) (p / view.w)) same ∙ handed-top laws view b list (p % view.w) (p / view.w) is cell.column cell.row))
    changed

-- what a box changes by its outcome
pub outcome-drawn : (laws : Lawful) (view : Window) (list : List Step) (b : Indices) (o : Outcome (List Step)) (w : ℕ) (before after : List ℕ) → w ≡ view.w → IsVisit (layered view) (visit b list)
    → o ≡ outcome_of (sampling (layered view)) list b → Changes (covers w b) (outcome_top view b o) before after → Changes (covers w b) (leaf_top view list b) before after
outcome-drawn laws view list b o w before after width is told changed =
    by (decision (layered view) (visit b list)) refl (subst (λ x. Changes (covers w b) (outcome_top view b x) before after) told changed)
  where
    v : Visit
    v = visit b list

    by : (t : Option Bool) → decision (layered view) v ≡ t → Changes (covers w b) (outcome_top view b (outcome_by t (handed_on (layered view) v))) before after
        → Changes (covers w b) (leaf_top view list b) before after
    by (Some true) e changed = inside-drawn laws view list b w before after width is e changed
    by (Some false) e changed =
        Changes-numbers (covers w b) (outcome_top view b AllOutside) (leaf_top view list b) before after
        (λ p h c.
        let cell = cell-of view.w p b (ap (λ n. covers n b p) (sym width) ∙ c) in
        sym (ap (λ n. lifted n (get_or before p 0)) (outside-top laws view b list (p % view.w) (p / view.w) is e cell.column cell.row) ∙ lifted-nothing (get_or before p 0)))
        changed
    by None e changed = undecided-drawn laws view list (handed_on (layered view) v) b w before after width is refl changed

-- the work of a leaf is its evaluations
pub leaf-counted : (laws : Lawful) (view : Window) (list : List Step) (b : Indices) (tops : List ℕ) (before after : Counts) → is_long 8 b ≡ false
    → RisesBy before after (points_of (sum_in b (leaf_cost view list b tops)))
    → CountsAtMost (open_points_where (is_open view list b tops) (layered view) b list) (open_spans (layered view) b list) before after
leaf-counted laws view list b tops before after short h = rw short (laws.bounds.points before after (sum_in b (leaf_cost view list b tops)) h)

-- a column of a part is one of the box
pub part-covers : (w p : ℕ) (b part : Indices) → IsPart 8 b part → covers w part p ≡ true → covers w b p ≡ true
part-covers w p b part is e =
    let cell = cell-of w p part e in
    let x0 : nat_le b.x0 (p % w) ≡ true = le-leb b.x0 (p % w) (omega (arith, cell.column, is.x.above)) in
    let x1 = lt-ltb (p % w) b.x1 (omega (arith, cell.column, is.x.below)) in
    let y0 : nat_le b.y0 (p / w) ≡ true = le-leb b.y0 (p / w) (omega (arith, cell.row, is.y.above)) in
    let y1 = lt-ltb (p / w) b.y1 (omega (arith, cell.row, is.y.below)) in
    rw (x0, x1, y0, y1) refl

-- the columns of a half are drawn down to it, and no further
pub record IsDrawnTo (view : Window) (list : List Step) (b : Indices) (old mid : List ℕ) (half : Indices) : Type 0 where
  pub part : IsPart 8 b half
  pub drawn : (p : ℕ) → p < length old → covers view.w half p ≡ true
      → get_or mid p 0 ≡ lifted (top_among view list half.z1 b.z1 (p % view.w) (p / view.w)) (get_or old p 0)

-- a sample is then open in the half exactly where it was open in the box
pub half-open : (view : Window) (list : List Step) (b half : Indices) (old mid : List ℕ) → IsAmong view.w (length old) b → IsDrawnTo view list b old mid half
    → (s : Sample) → LiesIn half s → is_open view list half mid s ≡ is_open view list b old s
half-open view list b half old mid among is s lies =
    let part = is.part in
    let p = s.j * view.w + s.i in
    let column : s.i < b.x1 = omega (arith, lies.x, part.x.below) in
    let row : s.j < b.y1 = omega (arith, lies.y, part.y.below) in
    let narrow : s.i < view.w = omega (arith, column, among.columns) in
    let here = covers-place view.w s.i s.j half narrow lies.x.0 lies.x.1 lies.y.0 lies.y.1 in
    let there = place-within view.w (length old) s.i s.j b among column row in
    let drawn : get_or mid p 0 ≡ lifted (best (inside view list s.i s.j) half.z1 b.z1) (get_or old p 0) =
    is.drawn p there here
    ∙ ap (λ n. lifted (top_among view list half.z1 b.z1 n (p / view.w)) (get_or old p 0)) (mod-mul-add s.j view.w s.i narrow)
    ∙ ap (λ n. lifted (top_among view list half.z1 b.z1 s.i n) (get_or old p 0)) (div-mul-add s.j view.w s.i narrow) in
    open-same (inside view list s.i s.j) b.z0 half.z0 half.z1 b.z1 s.k (get_or old p 0) (get_or mid p 0)
    part.z.above (omega (arith, part.z.some)) part.z.below lies.z.0 lies.z.1 drawn

-- the nearer halves are parts of the box, and so are the farther ones
pub nearer-parts : (laws : Lawful) (b : Indices) → IsBox b → All (IsPart 8 b) (nearer 8 b)
nearer-parts laws b is =
    subst (All (IsPart 8 b)) (far-dropped 8 (length (farther 8 b)) b (halves_of 8 b) refl refl) (All-drop (IsPart 8 b) (length (farther 8 b)) (halves_of 8 b) (laws.parts.all 8 b (omega arith) is))

pub farther-parts : (laws : Lawful) (b : Indices) → IsBox b → All (IsPart 8 b) (farther 8 b)
farther-parts laws b is =
    subst (All (IsPart 8 b)) (far-taken 8 (length (farther 8 b)) b (halves_of 8 b) refl refl) (All-take (IsPart 8 b) (length (farther 8 b)) (halves_of 8 b) (laws.parts.all 8 b (omega arith) is))

-- before any half is drawn
pub nearer-drawn : (laws : Lawful) (view : Window) (list : List Step) (b : Indices) (old : List ℕ) → IsBox b → All (IsDrawnTo view list b old old) (nearer 8 b)
nearer-drawn laws view list b old is =
    All-weaker (λ h. IsPart 8 b h × (h.z1 ≡ b.z1)) (IsDrawnTo view list b old old)
    (λ h near. record {
      part = near.0;
      drawn = λ p within e.
          sym (ap (λ z. lifted (top_among view list z b.z1 (p % view.w) (p / view.w)) (get_or old p 0)) near.1
          ∙ ap (λ n. lifted n (get_or old p 0)) (best-empty (inside view list (p % view.w) (p / view.w)) b.z1) ∙ lifted-nothing (get_or old p 0));
    })
    (nearer 8 b) (λ k d h. (nearer-parts laws b is k d h, nearer-ends 8 b k d h))

-- and once the nearer ones are
pub farther-drawn : (laws : Lawful) (view : Window) (list : List Step) (b : Indices) (old mid : List ℕ) → IsBox b → Changes (λ p. true) (beside_top view list (nearer 8 b)) old mid
    → All (IsDrawnTo view list b old mid) (farther 8 b)
farther-drawn laws view list b old mid is changed k d h =
    let part = farther-parts laws b is k d h in
    record {
      part = part;
      drawn = λ p within e. changed.each p within ∙ farther-below view list 8 b (λ q. get_or old q 0) k d h p (part-covers view.w p b (get_or (farther 8 b) k d) part e);
    }

-- once all of them are drawn, the box is
pub halves-drawn : (view : Window) (list : List Step) (b : Indices) (old mid new : List ℕ) → IsBox b → Changes (λ p. true) (beside_top view list (nearer 8 b)) old mid
    → Changes (λ p. true) (beside_top view list (farther 8 b)) mid new → Changes (covers view.w b) (leaf_top view list b) old new
halves-drawn view list b old mid new is first second = record {
  same = second.same ∙ first.same;
  each = λ p h. second.each p (omega (arith, h, first.same)) ∙ ap (beside_top view list (farther 8 b) p) (first.each p h) ∙ halves-top view list 8 b p (get_or old p 0) is;
}

-- the columns of a box are there
pub columns-there : (view : Window) (b : Indices) (w len : ℕ) → IsWindow view → IsInRoot view Height b → w ≡ view.w → len ≡ view.h * view.w → IsAmong w len b
columns-there view b w len window within width all =
    let rows : b.y1 * view.w ≤ view.h * view.w = mul-le-mul_right view.w within.y in
    let same : b.y1 * w ≡ b.y1 * view.w = ap (λ n. b.y1 * n) width in
    record { columns = omega (arith, width, within.x); rows = omega (arith, rows, same, all); few = omega (arith, width, window.w.few) }
