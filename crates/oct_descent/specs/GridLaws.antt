-- What always holds of grids whose cells are looked into by boxes, whatever their kind.
use Rattle.std.specs.Prelude.{◌≡◌, ◌+◌, ◌*◌, ◌<◌, ◌≤◌, ℕ, ℤ, Bool, true, false, ◌||◌, List, drop, length, get_or, take, None, Some, ◌⊎◌, if◌then◌else◌}
use Rattle.std.specs.List.{All}
use Rattle.std.specs.List.Sorted.{IsPermutation}
use Rattle.box_chains.specs.Chains.{Visit, handed_on, is_long, sides, visit}
use Rattle.box_chains.specs.Desks.{HasMore, Tracing, list_of, samples}
use Rattle.box_chains.specs.Outcomes.{AreInRoot, HandsOn, all_seen, asked_outcomes}
use Rattle.box_chains.specs.Parts.{IsPart}
use Rattle.box_chains.specs.Placing.{Sampling}
use Rattle.box_chains.specs.Sums.{LiesIn, size, sum_in}
use Rattle.box_chains.specs.Tallied.{CountsAtMost}
use Rattle.box_chains.specs.Visits.{IsVisit}
use Rattle.box_chains.specs.declared.outcome.Outcome.{Outcome}
use Rattle.box_chains.specs.declared.outcome.Outcome.TheVariants.{Inside, Outside, Open}
use Rattle.fixed_ops.specs.Counts.{Counts}
use Rattle.fixed_ops.specs.Raw.{is_inside}
use Rattle.interval_ops.specs.HullCounts.{CountsHulls}
use Rattle.kuhn_cells.specs.Sizes.{SameSize}
use Rattle.kuhn_cells.specs.Triangles.{GridPoint, point}
use Rattle.kuhn_cells.specs.declared.grid_size.GridSize.{GridSize}
use Rattle.live_clauses.specs.Steps.{IsTape}
use Rattle.live_clauses.specs.declared.step.Step.{Step}
use Rattle.view_places.specs.Boxes.{Indices, IsBox, halves_of}
use Rattle.view_places.specs.Spans.{IsInRoot, root_box_of}
use Rattle.view_places.specs.Window.{IsWindow, Window, size_of}
use Rattle.view_places.specs.declared.lattice.Lattice.{Lattice}
use Rattle.oct_descent.specs.Asked.{IsAt, IsOpened, IsStep, longer}
use Rattle.oct_descent.specs.Bound.{CountsAtLeast, sample_of}
use Rattle.oct_descent.specs.Halves.{ChargesBelow, ChargesHalves, PaysHalves, halves_below, owned}
use Rattle.oct_descent.specs.Kinds.{BordersHold, GridKind, descent_of, least_points, low_cell, most_points, most_spans, root_of, value_in}
use Rattle.oct_descent.specs.Known.{AreRight, AreSettled, AreWorked, Charges, ChargesBox, ChargesCorners, Grows, Known, Pays, PaysBox, PaysCorners}
use Rattle.oct_descent.specs.Tables.{IsEnough, is_known, same_point}
use Rattle.oct_descent.specs.Ways.{CellDescent, Covers, is_open}
use Rattle.view_places.specs.declared.lattice.Lattice.TheVariants as lattices

-- grids of as many cells along each axis
pub record SizesHold : Type 0 where
  pub is : (m n : GridSize) → SameSize m n → m ≡ n
  pub from : (m n : GridSize) → m ≡ n → SameSize m n
  pub chain : (l m n : GridSize) → SameSize l m → SameSize m n → SameSize l n

-- How what is known grows: step by step, and what is known of a part of a box stays right.
pub record GrowthHolds : Type 0 where
  pub none : (g : GridPoint → ℤ) (b : Indices) (t : Known) → Grows g b t t
  pub chain : (g : GridPoint → ℤ) (b : Indices) (before mid after : Known) → Grows g b before mid
      → Grows g b mid after → Grows g b before after
  pub right : (g : GridPoint → ℤ) (part b : Indices) (before after : Known)
      → ((p : GridPoint) → Covers part p → Covers b p) → Grows g b before after → AreRight g b before
      → AreRight g part after

-- what is left over the points of a box, where a test tells which of them are known
abbrev pub unmet : (GridPoint → ℕ) → Indices → (GridPoint → Bool) → ℕ
unmet f b known = sum_in b (λ s. if known (point s.i s.j s.k) then 0 else f (point s.i s.j s.k))

-- How work adds up: nothing is taken where nothing is done, hulls alone take no point, more may always be
-- said, and a point that becomes known is no longer left.
pub record WorkAddsUp : Type 0 where
  pub free : (f : GridPoint → ℕ) (spans : ℕ) (t : Known) (now : Counts) → Charges f spans t t now now
  pub most : (f : GridPoint → ℕ) (n : ℕ) (t : Known) (told now : Counts) → CountsAtMost 0 n told now
      → Charges f n t t told now
  pub more : (f : GridPoint → ℕ) (s u : ℕ) (before after : Known) (told now : Counts) → s ≤ u
      → Charges f s before after told now → Charges f u before after told now
  pub unpaid : (f : GridPoint → ℕ) (t : Known) (now : Counts) → Pays f t t now now
  pub unpaid_most : (f : GridPoint → ℕ) (p s : ℕ) (t : Known) (told now : Counts)
      → CountsAtMost p s told now → Pays f t t told now
  pub one : (f : GridPoint → ℕ) (p : GridPoint) (b : Indices) (was now : GridPoint → Bool)
      → LiesIn b (sample_of p) → was p ≡ false → ((q : GridPoint) → now q ≡ (same_point p q || was q))
      → f p + unmet f b now ≡ unmet f b was
  pub same : (p q : GridPoint) → same_point p q ≡ true → p ≡ q
  pub itself : (p : GridPoint) → same_point p p ≡ true

-- What tracing boxes told: step by step of those halves that are longer than a cell, and whether a box
-- stays open, and with which list. A list keeps its number where lists are put behind.
pub record TellingHolds (k : GridKind) : Type 0 where
  pub step : (places : Sampling) (list : List Step) (halves : List Indices) (half : Indices) (i : ℕ)
      (lists : List (List Step)) (outcomes : List (Outcome ℕ)) (at next : ℕ) → i < length halves
      → half ≡ get_or halves i half → All (HandsOn (length list) lists) outcomes
      → drop at (all_seen lists outcomes)
      ≡ asked_outcomes places list (longer k (size_of places.view) (drop i halves))
      → next ≡ at + (if is_long 1 half then 1 else 0)
      → IsStep k places list halves half i lists outcomes at next
  pub opened : (places : Sampling) (list : List Step) (b : Indices) (lists : List (List Step))
      (outcomes : List (Outcome ℕ)) (at live : ℕ) (d : Outcome ℕ) → places.lattice ≡ lattices.Grid
      → IsAt k places list b lists outcomes at → get_or outcomes at d ≡ Open live
      → IsOpened k places.view b list lists live
  pub closed : (places : Sampling) (list : List Step) (b : Indices) (lists : List (List Step))
      (outcomes : List (Outcome ℕ)) (at : ℕ) (d : Outcome ℕ) → places.lattice ≡ lattices.Grid
      → IsAt k places list b lists outcomes at
      → (get_or outcomes at d ≡ Inside) ⊎ (get_or outcomes at d ≡ Outside)
      → is_open (descent_of k places.view) (visit b list) ≡ false
  pub in_root : (places : Sampling) (n : GridSize) (halves : List Indices)
      → All (IsInRoot places.view places.lattice) halves → AreInRoot places (longer k n halves)
  pub stays : (before after : Tracing) (at : ℕ) → HasMore before after → at < length before.lists
      → list_of after at ≡ list_of before at
  pub among : (before after : Tracing) (at : ℕ) → HasMore before after → at < length before.lists
      → at < length after.lists
  pub samples_stay : (before after : Tracing) → HasMore before after → samples after ≡ samples before

-- Boxes that are looked into. One that does not stay open is settled, and has no working cell. Its own
-- trace is among what it takes. A cell that stays open takes what its corners do, and it does stay open
-- where two of these lie on different sides.
pub record LooksHold (k : GridKind) : Type 0 where
  pub settled : (view : Window) (v : Visit) (t : Known) → IsVisit (descent_of k view).boxes v
      → is_open (descent_of k view) v ≡ false
      → AreSettled (descent_of k view) (value_in k view v.list) v.box t
  pub idle : (view : Window) (v : Visit) (t : Known) → IsVisit (descent_of k view).boxes v
      → is_open (descent_of k view) v ≡ false → AreWorked (descent_of k view) v t
  pub traced : (d : CellDescent) (v : Visit) (t : Known) (told now : Counts) → 0 < d.boxes.leaf
      → IsBox v.box → CountsHulls (length v.list) told now → ChargesBox d v t t told now
  pub looked : (d : CellDescent) (v : Visit) (t : Known) (told now : Counts) → 0 < d.boxes.leaf
      → IsBox v.box → CountsAtMost 0 (length v.list) told now → ChargesBox d v t t told now
  pub unpaid : (d : CellDescent) (v : Visit) (t : Known) (told now : Counts)
      → CountsAtMost 0 (length v.list) told now → PaysBox d v t t told now
  pub sides : (view : Window) (v : Visit) (t : Known) (p q : GridPoint) (a c : ℤ)
      → IsVisit (descent_of k view).boxes v → is_long 1 v.box ≡ false
      → AreRight (value_in k view v.list) v.box t → Covers (k.cell (low_cell v.box)) p
      → Covers (k.cell (low_cell v.box)) q → t.at p ≡ Some a → is_inside a ≡ true → t.at q ≡ Some c
      → is_inside c ≡ false → is_open (descent_of k view) v ≡ true
  pub cell_charged : (view : Window) (v : Visit) (corners : Indices) (before after : Known)
      (told since now : Counts) → IsVisit (descent_of k view).boxes v
      → is_open (descent_of k view) v ≡ true → is_long 1 v.box ≡ false
      → ((p : GridPoint) → Covers corners p → Covers (k.cell (low_cell v.box)) p)
      → CountsAtMost 0 (length v.list) told since
      → ChargesCorners corners (length v.list) before after since now
      → ChargesBox (descent_of k view) v before after told now
  pub cell_paid : (view : Window) (v : Visit) (corners : Indices) (before after : Known)
      (told since now : Counts) → IsVisit (descent_of k view).boxes v
      → is_open (descent_of k view) v ≡ true → is_long 1 v.box ≡ false
      → ((p : GridPoint) → Covers corners p → Covers (k.cell (low_cell v.box)) p)
      → CountsAtMost 0 (length v.list) told since
      → PaysCorners corners (length v.list) before after since now
      → PaysBox (descent_of k view) v before after told now
  pub below_charged : (view : Window) (v : Visit) (before after : Known) (told since now : Counts)
      → IsBox v.box → is_long 1 v.box ≡ true → CountsHulls (length v.list) told since
      → ChargesBelow (descent_of k view) v before after since now
      → ChargesBox (descent_of k view) v before after told now
  pub below_paid : (d : CellDescent) (v : Visit) (before after : Known) (told since now : Counts)
      → CountsHulls (length v.list) told since → PaysBox d v before after since now
      → PaysBox d v before after told now
  pub cell_below : (d : CellDescent) (v : Visit) (before after : Known) (told now : Counts)
      → is_long 1 v.box ≡ false → ChargesBox d v before after told now
      → ChargesBelow d v before after told now

-- What holds by the list that a box hands on holds by the one that it receives, and what a box that is
-- split takes is what its halves take, beside its own trace.
pub record HandingHolds (k : GridKind) : Type 0 where
  pub tape : (view : Window) (v : Visit) (live : List Step) → IsVisit (descent_of k view).boxes v
      → live ≡ handed_on (descent_of k view).boxes v → IsTape live
  pub grows : (view : Window) (v : Visit) (live : List Step) (before after : Known)
      → IsVisit (descent_of k view).boxes v → live ≡ handed_on (descent_of k view).boxes v
      → Grows (value_in k view live) v.box before after → Grows (value_in k view v.list) v.box before after
  pub right : (view : Window) (v : Visit) (live : List Step) (t : Known)
      → IsVisit (descent_of k view).boxes v → live ≡ handed_on (descent_of k view).boxes v
      → AreRight (value_in k view v.list) v.box t → AreRight (value_in k view live) v.box t
  pub settled : (view : Window) (v : Visit) (live : List Step) (t : Known)
      → IsVisit (descent_of k view).boxes v → live ≡ handed_on (descent_of k view).boxes v
      → AreSettled (descent_of k view) (value_in k view live) v.box t
      → AreSettled (descent_of k view) (value_in k view v.list) v.box t
  pub charged : (view : Window) (v : Visit) (live : List Step) (before after : Known)
      (told now : Counts) → IsVisit (descent_of k view).boxes v → is_open (descent_of k view) v ≡ true
      → is_long 1 v.box ≡ true → live ≡ handed_on (descent_of k view).boxes v
      → ChargesHalves (descent_of k view) live (halves_of 1 v.box) before after told now
      → ChargesBelow (descent_of k view) v before after told now
  pub paid : (view : Window) (v : Visit) (live : List Step) (before after : Known) (told now : Counts)
      → IsVisit (descent_of k view).boxes v → is_open (descent_of k view) v ≡ true
      → is_long 1 v.box ≡ true → live ≡ handed_on (descent_of k view).boxes v
      → PaysHalves (descent_of k view) live (halves_of 1 v.box) before after told now
      → PaysBox (descent_of k view) v before after told now
  pub worked : (view : Window) (v : Visit) (live : List Step) (t : Known)
      → IsVisit (descent_of k view).boxes v → is_open (descent_of k view) v ≡ true
      → is_long 1 v.box ≡ true → live ≡ handed_on (descent_of k view).boxes v
      → All (λ half. AreWorked (descent_of k view) (visit half live) t) (halves_of 1 v.box)
      → AreWorked (descent_of k view) v t

-- The halves of a box in any order, one after another, over a view that may be told as an equal one: what
-- holds once they are traced, and with one more half that is looked into.
pub record HalvesHold (k : GridKind) : Type 0 where
  pub part : (b half : Indices) (halves : List Indices) (i : ℕ) → IsBox b
      → IsPermutation (halves_of 1 b) halves → i < length halves → half ≡ get_or halves i half
      → IsPart 1 b half
  pub shorter : (b half : Indices) → is_long 1 b ≡ true → IsPart 1 b half → sides half < sides b
  pub visits : (view : Window) (list : List Step) (b half : Indices) → IsPart 1 b half
      → IsVisit (descent_of k view).boxes (visit b list)
      → IsVisit (descent_of k view).boxes (visit half list)
  pub covers : (b half : Indices) (p : GridPoint) → IsPart 1 b half → Covers half p → Covers b p
  pub in_root : (view : Window) (lattice : Lattice) (list : List Step) (b : Indices)
      (halves : List Indices) → lattice ≡ lattices.Grid
      → IsVisit (descent_of k view).boxes (visit b list) → IsPermutation (halves_of 1 b) halves
      → All (IsInRoot view lattice) halves
  pub begun_charged : (view : Window) (list : List Step) (b : Indices) (halves : List Indices)
      (n : GridSize) (t : Known) (told now : Counts) → IsBox b → IsPermutation (halves_of 1 b) halves
      → CountsAtMost 0 (length (longer k n halves) * length list) told now
      → ChargesHalves (descent_of k view) list (halves_of 1 b) t t told now
  pub begun_paid : (d : CellDescent) (list : List Step) (halves : List Indices) (n : ℕ) (t : Known)
      (told now : Counts) → CountsAtMost 0 n told now → PaysHalves d list halves t t told now
  pub first : (d : CellDescent) (list : List Step) (halves : List Indices) (n : GridSize) (t : Known)
      (told now : Counts) → CountsHulls (length (longer k n halves) * length list) told now
      → (f : GridPoint → ℕ) → All (λ h. IsEnough f d (visit h list)) halves
      → Charges f (owned list halves + halves_below d list (take 0 halves)) t t told now
  pub grows : (view other : Window) (list : List Step) (b half : Indices) (before after : Known)
      → other ≡ view → IsPart 1 b half → Grows (value_in k other list) half before after
      → Grows (value_in k view list) b before after
  pub next_settled : (view other : Window) (list : List Step) (b half : Indices)
      (halves : List Indices) (i : ℕ) (before after : Known) → other ≡ view → i < length halves
      → half ≡ get_or halves i half → Grows (value_in k view list) b before after
      → AreSettled (descent_of k other) (value_in k other list) half after
      → All (λ h. AreSettled (descent_of k view) (value_in k view list) h before) (take i halves)
      → All (λ h. AreSettled (descent_of k view) (value_in k view list) h after) (take (i + 1) halves)
  pub next_worked : (view other : Window) (list : List Step) (b half : Indices)
      (halves : List Indices) (i : ℕ) (before after : Known) → other ≡ view → i < length halves
      → half ≡ get_or halves i half → Grows (value_in k view list) b before after
      → AreWorked (descent_of k other) (visit half list) after
      → All (λ h. AreWorked (descent_of k view) (visit h list) before) (take i halves)
      → All (λ h. AreWorked (descent_of k view) (visit h list) after) (take (i + 1) halves)
  pub next_charged : (view other : Window) (list : List Step) (half : Indices) (halves : List Indices)
      (i own : ℕ) (before mid after : Known) (told since now : Counts) → other ≡ view
      → i < length halves → half ≡ get_or halves i half
      → ((f : GridPoint → ℕ) → All (λ h. IsEnough f (descent_of k view) (visit h list)) halves
      → Charges f (own + halves_below (descent_of k view) list (take i halves)) before mid told since)
      → ChargesBelow (descent_of k other) (visit half list) mid after since now
      → (f : GridPoint → ℕ) → All (λ h. IsEnough f (descent_of k view) (visit h list)) halves
      → Charges f (own + halves_below (descent_of k view) list (take (i + 1) halves)) before after told now
  pub next_paid : (view other : Window) (list : List Step) (half : Indices) (halves : List Indices)
      (i : ℕ) (before mid after : Known) (told since now : Counts) → other ≡ view → i < length halves
      → half ≡ get_or halves i half
      → PaysHalves (descent_of k view) list halves before mid told since
      → PaysBox (descent_of k other) (visit half list) mid after since now
      → PaysHalves (descent_of k view) list halves before after told now
  pub some_charged : (view : Window) (list : List Step) (b : Indices) (halves : List Indices) (i : ℕ)
      (before after : Known) (told now : Counts) → IsBox b → IsPermutation (halves_of 1 b) halves
      → ((f : GridPoint → ℕ) → All (λ h. IsEnough f (descent_of k view) (visit h list)) halves
      → Charges f (owned list halves + halves_below (descent_of k view) list (take i halves)) before
      after told now)
      → ChargesHalves (descent_of k view) list (halves_of 1 b) before after told now
  pub paid : (d : CellDescent) (list : List Step) (halves turned : List Indices)
      (before after : Known) (told now : Counts) → IsPermutation halves turned
      → PaysHalves d list turned before after told now → PaysHalves d list halves before after told now
  pub settled : (d : CellDescent) (g : GridPoint → ℤ) (b : Indices) (halves : List Indices) (t : Known)
      → IsPermutation (halves_of 1 b) halves → All (λ h. AreSettled d g h t) halves
      → AreSettled d g b t

-- The box of all cells: it can be visited, what looking into it takes and pays is that of the grid, and
-- what becomes known by it are the list's values.
pub record WholeHolds (k : GridKind) : Type 0 where
  pub visits : (view : Window) (list : List Step) → IsWindow view → IsTape list
      → IsVisit (descent_of k view).boxes (root_of k view list)
  pub counted : (view other : Window) (list : List Step) (b : Indices) (before after : Known)
      (told now : Counts) → other ≡ view → b ≡ root_box_of view lattices.Grid
      → before.points ≡ k.points (size_of view) → ((p : GridPoint) → before.at p ≡ None)
      → ChargesBox (descent_of k other) (visit b list) before after told now
      → CountsAtMost (most_points k view list) (most_spans k view list) told now
  pub paid : (view other : Window) (list : List Step) (b : Indices) (before after : Known)
      (told now : Counts) → other ≡ view → b ≡ root_box_of view lattices.Grid
      → before.points ≡ k.points (size_of view) → ((p : GridPoint) → before.at p ≡ None)
      → AreWorked (descent_of k other) (visit b list) after
      → PaysBox (descent_of k other) (visit b list) before after told now
      → CountsAtLeast (least_points k view list) told now
  pub right : (view other : Window) (list : List Step) (b : Indices) (before after : Known)
      → other ≡ view → ((p : GridPoint) → before.at p ≡ None)
      → Grows (value_in k other list) b before after → (p : GridPoint)
      → is_known (after.at p) ≡ true → after.at p ≡ Some (value_in k view list p)
  pub settled : (view other : Window) (list : List Step) (b : Indices) (t : Known) → other ≡ view
      → b ≡ root_box_of view lattices.Grid
      → AreSettled (descent_of k other) (value_in k other list) b t
      → AreSettled (descent_of k view) (value_in k view list) (root_box_of view lattices.Grid) t
  pub points_below : (view : Window) (list : List Step) → IsWindow view → IsTape list
      → most_points k view list ≤ size (k.points (size_of view)) * length list
  pub spans_below : (view : Window) (list : List Step) → IsWindow view → IsTape list
      → let b = root_box_of view lattices.Grid in
      most_spans k view list ≤ size b * (sides b * length list)

-- all that, of one kind
pub record LawsOf (k : GridKind) : Type 0 where
  pub sizes : SizesHold
  pub growth : GrowthHolds
  pub work : WorkAddsUp
  pub telling : TellingHolds k
  pub looks : LooksHold k
  pub handing : HandingHolds k
  pub halves : HalvesHold k
  pub whole : WholeHolds k

-- it holds of each kind whose borders do
abbrev pub GridsHold : Type 0
GridsHold = (k : GridKind) → BordersHold k → LawsOf k
