-- The halves of a box by rows, and then by columns.
use Rattle.std.proofs.Common.{◌≡◌, ℕ, ◌+◌, ◌-◌, ◌*◌, ◌/◌, ◌%◌, ◌<◌, ◌≤◌, Bool, true, false, cond, List, [], ◌∷◌, ◌++◌, append-nil, length, get_or, refl, sym, ap, subst, ◌∙◌, ◌⊎◌, inl, inr, arith}
use Rattle.std.specs.Prelude.{nat_le, nat_lt, ◌&&◌, ◌||◌, Option, Some, None}
use Rattle.std.specs.List.{flat_map}
use Rattle.std.proofs.lemmas.Bool.{cases_lt, le-leb, le-ltb, lt-leb, lt-ltb, ltb-true}
use Rattle.std.proofs.lemmas.Grind.{flat_map-append}
use Rattle.std.proofs.lemmas.List.Concat.{flat_map-cons}
use Rattle.box_chains.specs.Chains.{is_long, sides, visit}
use Rattle.box_chains.specs.Laws.{Lawful}
use Rattle.box_chains.specs.Sums.{LiesIn, Sample}
use Rattle.live_clauses.specs.declared.step.Step.{Step}
use Rattle.view_places.specs.Boxes.{Indices, IsBox, halves_of, halves_x, halves_y, middle}
use Rattle.view_places.specs.Spans.{IsInRoot}
use Rattle.view_places.specs.Window.{Window}
use Rattle.view_places.specs.declared.lattice.Lattice.TheVariants.{Raster}
use Rattle.quad_descent.specs.Drawn.{AreDrawnAt, IsDrawnAt, StandsAt, count_of}
use Rattle.quad_descent.specs.Nodes.{halves_nodes, nodes_of}
use Rattle.quad_descent.specs.Painting.{covers}
use Rattle.quad_descent.specs.Raster.{raster, raster_root}
use Rattle.quad_descent.specs.declared.node.Node.{Node}
use Rattle.quad_descent.proofs.Painted.{head-of}
use Rattle.quad_descent.proofs.Stands.{stands-first, stands-more, stands-read, stands-within}

-- the upper and the lower rows of a box, and its left and its right columns
abbrev pub upper_of : Indices → Indices
upper_of b = record b { y1 = middle b.y0 b.y1 }

abbrev pub lower_of : Indices → Indices
lower_of b = record b { y0 = middle b.y0 b.y1 }

abbrev pub left_of : Indices → Indices
left_of b = record b { x1 = middle b.x0 b.x1 }

abbrev pub right_of : Indices → Indices
right_of b = record b { x0 = middle b.x0 b.x1 }

-- a side that is halved is longer than a leaf's, and one that is not is no longer
pub middle-some : (low high m : ℕ) (o : Option ℕ) → o ≡ cond (nat_lt 8 (high - low)) (Some (middle low high)) None → o ≡ Some m
    → (nat_lt 8 (high - low) ≡ true) × (m ≡ middle low high)
middle-some low high m o is got = by (nat_lt 8 (high - low)) refl
  where
    by : (t : Bool) → nat_lt 8 (high - low) ≡ t → (nat_lt 8 (high - low) ≡ true) × (m ≡ middle low high)
    by true e =
        let same : Some m ≡ Some (middle low high) = sym got ∙ is ∙ ap (λ t. cond {A = Option ℕ} t (Some (middle low high)) None) e in
        (e, (cc))
    by false e =
        let none : Some m ≡ None = sym got ∙ is ∙ ap (λ t. cond {A = Option ℕ} t (Some (middle low high)) None) e in
        (cc)

pub middle-none : (low high : ℕ) (o : Option ℕ) → o ≡ cond (nat_lt 8 (high - low)) (Some (middle low high)) None → o ≡ None
    → nat_lt 8 (high - low) ≡ false
middle-none low high o is got = by (nat_lt 8 (high - low)) refl
  where
    by : (t : Bool) → nat_lt 8 (high - low) ≡ t → nat_lt 8 (high - low) ≡ false
    by true e =
        let none : None ≡ Some (middle low high) = sym got ∙ is ∙ ap (λ t. cond {A = Option ℕ} t (Some (middle low high)) None) e in
        (cc)
    by false e = e

-- joined lists of one part
flat_map-one : {X Y : Type 0} (f : X → List Y) (x : X) → flat_map f (x ∷ []) ≡ f x
flat_map-one f x = flat_map-cons f x [] ∙ append-nil (f x)

-- a box of a raster has one layer
pub thin : (view : Window) (b : Indices) → IsInRoot view Raster b → nat_lt 8 (b.z1 - b.z0) ≡ false
thin view b within = le-ltb 8 (b.z1 - b.z0) (omega (arith, within.z))

by-rows : (b : Indices) → nat_lt 8 (b.z1 - b.z0) ≡ false → halves_of 8 b ≡ flat_map (halves_x 8) (halves_y 8 b)
by-rows b e =
    ap (λ t. flat_map (halves_x 8) (flat_map (halves_y 8) (cond t (record b { z1 = middle b.z0 b.z1 } ∷ record b { z0 = middle b.z0 b.z1 } ∷ []) (b ∷ [])))) e
    ∙ ap (flat_map (halves_x 8)) (flat_map-one (halves_y 8) b)

-- the halves of a box are those of its upper rows and those of its lower ones
pub two-rows : (b : Indices) → nat_lt 8 (b.z1 - b.z0) ≡ false → nat_lt 8 (b.y1 - b.y0) ≡ true
    → halves_of 8 b ≡ halves_x 8 (upper_of b) ++ halves_x 8 (lower_of b)
two-rows b e long =
    by-rows b e
    ∙ ap (λ t. flat_map (halves_x 8) (cond t (upper_of b ∷ lower_of b ∷ []) (b ∷ []))) long
    ∙ flat_map-cons (halves_x 8) (upper_of b) (lower_of b ∷ [])
    ∙ ap (λ l. halves_x 8 (upper_of b) ++ l) (flat_map-one (halves_x 8) (lower_of b))

pub one-row : (b : Indices) → nat_lt 8 (b.z1 - b.z0) ≡ false → nat_lt 8 (b.y1 - b.y0) ≡ false → halves_of 8 b ≡ halves_x 8 b
one-row b e short =
    by-rows b e
    ∙ ap (λ t. flat_map (halves_x 8) (cond t (upper_of b ∷ lower_of b ∷ []) (b ∷ []))) short
    ∙ flat_map-one (halves_x 8) b

pub two-columns : (b : Indices) → nat_lt 8 (b.x1 - b.x0) ≡ true → halves_x 8 b ≡ left_of b ∷ right_of b ∷ []
two-columns b long = ap (λ t. cond t (left_of b ∷ right_of b ∷ []) (b ∷ [])) long

pub one-column : (b : Indices) → nat_lt 8 (b.x1 - b.x0) ≡ false → halves_x 8 b ≡ b ∷ []
one-column b short = ap (λ t. cond t (left_of b ∷ right_of b ∷ []) (b ∷ [])) short

-- a box of samples of another one
pub record IsIn (b part : Indices) : Type 0 where
  pub box : IsBox part
  pub x : (b.x0 ≤ part.x0) × (part.x1 ≤ b.x1)
  pub y : (b.y0 ≤ part.y0) × (part.y1 ≤ b.y1)
  pub z : (b.z0 ≤ part.z0) × (part.z1 ≤ b.z1)

pub itself-in : (b : Indices) → IsBox b → IsIn b b
itself-in b is = record { box = is; x = (omega arith, omega arith); y = (omega arith, omega arith); z = (omega arith, omega arith) }

pub upper-in : (b : Indices) → IsBox b → nat_lt 8 (b.y1 - b.y0) ≡ true → IsIn b (upper_of b)
upper-in b is e =
    let long : 8 < b.y1 - b.y0 = ltb-true 8 (b.y1 - b.y0) e in
    record {
      box = record { x = is.x; y = omega (arith, long); z = is.z };
      x = (omega arith, omega arith);
      y = (omega arith, omega arith);
      z = (omega arith, omega arith);
    }

pub lower-in : (b : Indices) → IsBox b → nat_lt 8 (b.y1 - b.y0) ≡ true → IsIn b (lower_of b)
lower-in b is e =
    let long : 8 < b.y1 - b.y0 = ltb-true 8 (b.y1 - b.y0) e in
    record {
      box = record { x = is.x; y = omega (arith, long); z = is.z };
      x = (omega arith, omega arith);
      y = (omega (arith, long), omega arith);
      z = (omega arith, omega arith);
    }

pub left-in : (b : Indices) → IsBox b → nat_lt 8 (b.x1 - b.x0) ≡ true → IsIn b (left_of b)
left-in b is e =
    let long : 8 < b.x1 - b.x0 = ltb-true 8 (b.x1 - b.x0) e in
    record {
      box = record { x = omega (arith, long); y = is.y; z = is.z };
      x = (omega arith, omega arith);
      y = (omega arith, omega arith);
      z = (omega arith, omega arith);
    }

pub right-in : (b : Indices) → IsBox b → nat_lt 8 (b.x1 - b.x0) ≡ true → IsIn b (right_of b)
right-in b is e =
    let long : 8 < b.x1 - b.x0 = ltb-true 8 (b.x1 - b.x0) e in
    record {
      box = record { x = omega (arith, long); y = is.y; z = is.z };
      x = (omega (arith, long), omega arith);
      y = (omega arith, omega arith);
      z = (omega arith, omega arith);
    }

in-lies : (b part : Indices) (s : Sample) → IsIn b part → LiesIn part s → LiesIn b s
in-lies b part s inside lies = record {
  x = (omega (arith, inside.x, lies.x), omega (arith, inside.x, lies.x));
  y = (omega (arith, inside.y, lies.y), omega (arith, inside.y, lies.y));
  z = (omega (arith, inside.z, lies.z), omega (arith, inside.z, lies.z));
}

in-root : (view : Window) (b part : Indices) → IsIn b part → IsInRoot view Raster b → IsInRoot view Raster part
in-root view b part inside within = record {
  x = omega (arith, inside.x, within.x);
  y = omega (arith, inside.y, within.y);
  z = omega (arith, inside.z, within.z);
}

-- some halves of a box that lie in a part of it are drawn as halves of the part
pub part-drawn : (view : Window) (list : List Step) (at : ℕ) (b part : Indices) (halves others all : List Indices) → all ≡ halves ++ others → IsIn b part
    → AreDrawnAt view list at b all → AreDrawnAt view list at part halves
part-drawn view list at b part halves others all joined inside drawn = record {
  live = drawn.live;
  visit_is = record {
    window = drawn.visit_is.window;
    box = inside.box;
    within = in-root view b part inside drawn.visit_is.within;
    tape = drawn.visit_is.tape;
  };
  values = λ s lies. drawn.values s (in-lies b part s inside lies);
  stands = stands-first (nodes_of (raster view) (raster_root view list)) (halves_nodes (raster view) drawn.live halves) (halves_nodes (raster view) drawn.live others) at
      (subst (λ l. StandsAt (nodes_of (raster view) (raster_root view list)) l at)
      (ap (halves_nodes (raster view) drawn.live) joined ∙ flat_map-append (λ h. nodes_of (raster view) (visit h drawn.live)) halves others) drawn.stands);
}

-- the first of some halves is drawn where they begin
pub first-drawn : (view : Window) (list : List Step) (at : ℕ) (b half : Indices) (others all : List Indices) → all ≡ half ∷ others → IsIn b half
    → AreDrawnAt view list at b all → IsDrawnAt view list at half
first-drawn view list at b half others all joined inside drawn = record {
  received = drawn.live;
  visit_is = record {
    window = drawn.visit_is.window;
    box = inside.box;
    within = in-root view b half inside drawn.visit_is.within;
    tape = drawn.visit_is.tape;
  };
  values = λ s lies. drawn.values s (in-lies b half s inside lies);
  stands = stands-first (nodes_of (raster view) (raster_root view list)) (nodes_of (raster view) (visit half drawn.live)) (halves_nodes (raster view) drawn.live others) at
      (subst (λ l. StandsAt (nodes_of (raster view) (raster_root view list)) l at)
      (ap (halves_nodes (raster view) drawn.live) joined ∙ flat_map-cons (λ h. nodes_of (raster view) (visit h drawn.live)) half others) drawn.stands);
}

-- the nodes of the first half, and those behind them
stands-parts : (view : Window) (list : List Step) (at : ℕ) (b half : Indices) (others all : List Indices) → all ≡ half ∷ others → (drawn : AreDrawnAt view list at b all)
    → StandsAt (nodes_of (raster view) (raster_root view list)) (nodes_of (raster view) (visit half drawn.live) ++ halves_nodes (raster view) drawn.live others) at
stands-parts view list at b half others all joined drawn =
    subst (λ l. StandsAt (nodes_of (raster view) (raster_root view list)) l at)
    (ap (halves_nodes (raster view) drawn.live) joined ∙ flat_map-cons (λ h. nodes_of (raster view) (visit h drawn.live)) half others) drawn.stands

-- the node that is read there counts them
counts-first : (laws : Lawful) (view : Window) (list : List Step) (nodes : List Node) (at : ℕ) (b half : Indices) (others all : List Indices) (r : Node)
    → all ≡ half ∷ others → IsBox half → nodes ≡ nodes_of (raster view) (raster_root view list) → r ≡ get_or nodes at r → (drawn : AreDrawnAt view list at b all)
    → count_of r ≡ length (nodes_of (raster view) (visit half drawn.live))
counts-first laws view list nodes at b half others all r joined is same read drawn =
    let head = head-of laws (raster view) (visit half drawn.live) (omega arith) is in
    let whole = nodes_of (raster view) (raster_root view list) in
    let here = stands-first whole (nodes_of (raster view) (visit half drawn.live)) (halves_nodes (raster view) drawn.live others) at
    (stands-parts view list at b half others all joined drawn) in
    ap count_of (stands-read whole (nodes_of (raster view) (visit half drawn.live)) head.below head.node r at here head.is (read ∙ ap (λ l. get_or l at r) same))
    ∙ head.count ∙ ap length (sym head.is)

-- and they all are there
pub first-there : (laws : Lawful) (view : Window) (list : List Step) (nodes : List Node) (at : ℕ) (b half : Indices) (others all : List Indices)
    → all ≡ half ∷ others → IsBox half → nodes ≡ nodes_of (raster view) (raster_root view list) → AreDrawnAt view list at b all
    → (at < length nodes) × ((r : Node) → r ≡ get_or nodes at r → at + count_of r ≤ length nodes)
first-there laws view list nodes at b half others all joined is same drawn =
    let head = head-of laws (raster view) (visit half drawn.live) (omega arith) is in
    let whole = nodes_of (raster view) (raster_root view list) in
    let within = stands-within whole (nodes_of (raster view) (visit half drawn.live)) at
    (stands-first whole (nodes_of (raster view) (visit half drawn.live)) (halves_nodes (raster view) drawn.live others) at
    (stands-parts view list at b half others all joined drawn)) in (
      omega (arith, within, ap length same, ap length head.is),
      λ r read. omega (arith, within, ap length same, counts-first laws view list nodes at b half others all r joined is same read drawn),
    )

-- the others are drawn behind it, where its first node counts
pub behind-first : (laws : Lawful) (view : Window) (list : List Step) (nodes : List Node) (at next : ℕ) (b half : Indices) (others all : List Indices) (r : Node)
    → all ≡ half ∷ others → IsBox half → nodes ≡ nodes_of (raster view) (raster_root view list) → r ≡ get_or nodes at r → next ≡ at + count_of r
    → AreDrawnAt view list at b all → AreDrawnAt view list next b others
behind-first laws view list nodes at next b half others all r joined is same read moved drawn = record {
  live = drawn.live;
  visit_is = drawn.visit_is;
  values = drawn.values;
  stands = subst (λ n. StandsAt (nodes_of (raster view) (raster_root view list)) (halves_nodes (raster view) drawn.live others) n)
      (sym (moved ∙ ap (λ n. at + n) (counts-first laws view list nodes at b half others all r joined is same read drawn)))
      (stands-more (nodes_of (raster view) (raster_root view list)) (nodes_of (raster view) (visit half drawn.live)) (halves_nodes (raster view) drawn.live others) at
      (stands-parts view list at b half others all joined drawn));
}

-- the first of the halves by columns
pub record FirstColumn (rows : Indices) : Type 0 where
  pub half : Indices
  pub others : List Indices
  pub is : halves_x 8 rows ≡ half ∷ others
  pub box : IsBox half

pub first-column : (rows : Indices) → IsBox rows → FirstColumn rows
first-column rows is = by (nat_lt 8 (rows.x1 - rows.x0)) refl
  where
    by : (t : Bool) → nat_lt 8 (rows.x1 - rows.x0) ≡ t → FirstColumn rows
    by true e = record { half = left_of rows; others = right_of rows ∷ []; is = two-columns rows e; box = (left-in rows is e).box }
    by false e = record { half = rows; others = []; is = one-column rows e; box = is }

-- boxes that are made of a side and the other sides of a box
pub upper-is : (b same : Indices) (m : ℕ) → same ≡ b → m ≡ middle same.y0 same.y1 → record same { y1 = m } ≡ upper_of b
upper-is b same m is mid = ap (λ n. record same { y1 = n }) mid ∙ ap upper_of is

pub lower-is : (b same : Indices) (m : ℕ) → same ≡ b → m ≡ middle same.y0 same.y1 → record same { y0 = m } ≡ lower_of b
lower-is b same m is mid = ap (λ n. record same { y0 = n }) mid ∙ ap lower_of is

pub left-is : (b same : Indices) (m : ℕ) → same ≡ b → m ≡ middle same.x0 same.x1 → record same { x1 = m } ≡ left_of b
left-is b same m is mid = ap (λ n. record same { x1 = n }) mid ∙ ap left_of is

pub right-is : (b same : Indices) (m : ℕ) → same ≡ b → m ≡ middle same.x0 same.x1 → record same { x0 = m } ≡ right_of b
right-is b same m is mid = ap (λ n. record same { x0 = n }) mid ∙ ap right_of is

-- What parts cover.

rows-joined : (a c z : Bool) (y0 m y1 j : ℕ) → y0 ≤ m → m ≤ y1
    → (a && (c && (nat_le y0 j && (nat_lt j y1 && z))))
    ≡ ((a && (c && (nat_le m j && (nat_lt j y1 && z)))) || (a && (c && (nat_le y0 j && (nat_lt j m && z)))))
rows-joined a c z y0 m y1 j low high = by (cases_lt j m)
  where
    above : (a c l z : Bool) → (a && (c && (l && (true && z)))) ≡ ((a && (c && (false && (true && z)))) || (a && (c && (l && (true && z)))))
    above true true l z = refl
    above true false l z = refl
    above false c l z = refl

    below : (a c u z : Bool) → (a && (c && (true && (u && z)))) ≡ ((a && (c && (true && (u && z)))) || (a && (c && (true && (false && z)))))
    below true true true true = refl
    below true true true false = refl
    below true true false z = refl
    below true false u z = refl
    below false c u z = refl

    by : (j < m) ⊎ (m ≤ j) → (a && (c && (nat_le y0 j && (nat_lt j y1 && z))))
        ≡ ((a && (c && (nat_le m j && (nat_lt j y1 && z)))) || (a && (c && (nat_le y0 j && (nat_lt j m && z)))))
    by (inl less) =
        rw (lt-leb m j less, lt-ltb j m less, lt-ltb j y1 (omega (arith, less, high))) (above a c (nat_le y0 j) z)
    by (inr more) =
        rw (le-leb m j more, le-ltb j m more, le-leb y0 j (omega (arith, more, low))) (below a c (nat_lt j y1) z)

columns-joined : (rest : Bool) (x0 m x1 i : ℕ) → x0 ≤ m → m ≤ x1
    → (nat_le x0 i && (nat_lt i x1 && rest)) ≡ ((nat_le m i && (nat_lt i x1 && rest)) || (nat_le x0 i && (nat_lt i m && rest)))
columns-joined rest x0 m x1 i low high = rows-joined true true rest x0 m x1 i low high

-- a box covers what its upper rows and its lower ones cover
pub covers-rows : (w row p : ℕ) (b : Indices) → IsBox b → nat_lt 8 (b.y1 - b.y0) ≡ true
    → covers w row b p ≡ (covers w row (lower_of b) p || covers w row (upper_of b) p)
covers-rows w row p b is e =
    let long : 8 < b.y1 - b.y0 = ltb-true 8 (b.y1 - b.y0) e in
    rows-joined (nat_le b.x0 (p % w)) (nat_lt (p % w) b.x1) (nat_le b.z0 0 && nat_lt 0 b.z1) b.y0 (middle b.y0 b.y1) b.y1 (row + p / w)
    (omega (arith, long)) (omega arith)

-- and what its left columns and its right ones cover
pub covers-columns : (w row p : ℕ) (b : Indices) → IsBox b → nat_lt 8 (b.x1 - b.x0) ≡ true
    → covers w row b p ≡ (covers w row (right_of b) p || covers w row (left_of b) p)
covers-columns w row p b is e =
    let long : 8 < b.x1 - b.x0 = ltb-true 8 (b.x1 - b.x0) e in
    columns-joined (nat_le b.y0 (row + p / w) && (nat_lt (row + p / w) b.y1 && (nat_le b.z0 0 && nat_lt 0 b.z1))) b.x0 (middle b.x0 b.x1) b.x1 (p % w)
    (omega (arith, long)) (omega arith)

-- How far the painting of halves has to go: no box is gone into twice.

abbrev pub column_turns : Indices → ℕ
column_turns b = cond (nat_lt 8 (b.x1 - b.x0)) (3 * sides b - 1) (3 * sides b + 2)

pub upper-shorter : (b : Indices) → IsBox b → nat_lt 8 (b.y1 - b.y0) ≡ true → column_turns (upper_of b) < 3 * sides b
upper-shorter b is e = by (nat_lt 8 (b.x1 - b.x0))
  where
    long : 8 < b.y1 - b.y0
    long = ltb-true 8 (b.y1 - b.y0) e

    by : (t : Bool) → cond t (3 * sides (upper_of b) - 1) (3 * sides (upper_of b) + 2) < 3 * sides b
    by true = omega (arith, long)
    by false = omega (arith, long)

pub lower-shorter : (b : Indices) → IsBox b → nat_lt 8 (b.y1 - b.y0) ≡ true → column_turns (lower_of b) < 3 * sides b
lower-shorter b is e = by (nat_lt 8 (b.x1 - b.x0))
  where
    long : 8 < b.y1 - b.y0
    long = ltb-true 8 (b.y1 - b.y0) e

    by : (t : Bool) → cond t (3 * sides (lower_of b) - 1) (3 * sides (lower_of b) + 2) < 3 * sides b
    by true = omega (arith, long)
    by false = omega (arith, long)

pub whole-shorter : (b : Indices) → IsBox b → is_long 8 b ≡ true → nat_lt 8 (b.z1 - b.z0) ≡ false → nat_lt 8 (b.y1 - b.y0) ≡ false
    → column_turns b < 3 * sides b
whole-shorter b is long z y =
    let wide : nat_lt 8 (b.x1 - b.x0) ≡ true = by (nat_lt 8 (b.x1 - b.x0)) (ap (λ t. nat_lt 8 (b.x1 - b.x0) || (t || nat_lt 8 (b.z1 - b.z0))) (sym y) ∙ long) in
    rw wide (omega (arith, is.x))
  where
    by : (t : Bool) → (t || (false || nat_lt 8 (b.z1 - b.z0))) ≡ true → t ≡ true
    by true h = refl
    by false h = sym z ∙ h

pub left-shorter : (b : Indices) → IsBox b → nat_lt 8 (b.x1 - b.x0) ≡ true → 3 * sides (left_of b) + 1 < column_turns b
left-shorter b is e = let long : 8 < b.x1 - b.x0 = ltb-true 8 (b.x1 - b.x0) e in rw e (omega (arith, long))

pub right-shorter : (b : Indices) → IsBox b → nat_lt 8 (b.x1 - b.x0) ≡ true → 3 * sides (right_of b) + 1 < column_turns b
right-shorter b is e = let long : 8 < b.x1 - b.x0 = ltb-true 8 (b.x1 - b.x0) e in rw e (omega (arith, long))

pub box-shorter : (b : Indices) → nat_lt 8 (b.x1 - b.x0) ≡ false → 3 * sides b + 1 < column_turns b
box-shorter b e = rw e (omega arith)
