-- What the nodes of a tree say of its samples.
use Rattle.std.proofs.Common.{◌≡◌, ℕ, zero, suc, ◌+◌, ◌-◌, ◌*◌, ◌/◌, ◌%◌, ◌<◌, ◌≤◌, Bool, true, false, cond, List, [], ◌∷◌, ◌++◌, add-zero, zero-add, append-nil, length, map, get_or, refl, sym, ap, subst, ◌∙◌, arith}
use Rattle.std.specs.Prelude.{nat_lt, ◌||◌, Option, Some, None}
use Rattle.std.specs.List.{flat_map, range_with_len}
use Rattle.std.proofs.Math.Nat.{mod-lt, mul-div_cancel_left}
use Rattle.std.proofs.lemmas.Grind.{flat_map-append}
use Rattle.std.proofs.lemmas.Bool.{ltb-false, ltb-true, or_parts}
use Rattle.std.proofs.lemmas.List.{map-append}
use Rattle.std.proofs.lemmas.List.Concat.{flat_map-cons}
use Rattle.std.proofs.lemmas.List.FromFn.{fill_by_all}
use Rattle.box_chains.specs.Chains.{Descent, Visit, decision, handed_on, is_long, visit}
use Rattle.box_chains.specs.Sums.{LiesIn, Sample}
use Rattle.box_chains.specs.Laws.{Lawful}
use Rattle.fixed_ops.specs.Raw.{is_inside}
use Rattle.live_clauses.specs.Steps.{tape_value}
use Rattle.raster_pgm.specs.Image.{Image}
use Rattle.live_clauses.specs.declared.step.Step.{Step}
use Rattle.view_places.specs.Boxes.{Indices, IsBox, halves_of}
use Rattle.view_places.specs.Places.{point_of}
use Rattle.view_places.specs.Spans.{root_box_of}
use Rattle.view_places.specs.Window.{Window}
use Rattle.view_places.specs.declared.lattice.Lattice.TheVariants.{Raster}
use Rattle.quad_descent.specs.Drawn.{AreDrawnAt, HasValues, IsDrawnAt, StandsAt, count_of}
use Rattle.quad_descent.proofs.NodeLaws.{nodes-are}
use Rattle.quad_descent.specs.Nodes.{bits_of, box_nodes, halves_nodes, insides, nodes_of, rows_of}
use Rattle.quad_descent.specs.Painting.{Paints, byte_at, covers}
use Rattle.quad_descent.specs.Pixels.{pixel_at, pixels_of, row_at, rows_from}
use Rattle.quad_descent.specs.Raster.{raster, raster_root}
use Rattle.quad_descent.specs.declared.node.Node.{Node}
use Rattle.quad_descent.specs.declared.node.Node.TheVariants.{Outside, Inside, Leaf, Split}
use Rattle.quad_descent.proofs.PaintLaws.{place-of, row-below}
use Rattle.quad_descent.proofs.Stands.{stands-below, stands-read, stands-within}

-- what the first node of a box says of it
pub record SaysLeaf (d : Descent) (v : Visit) (rows : List ℕ) : Type 0 where
  pub undecided : decision d v ≡ None
  pub short : is_long d.leaf v.box ≡ false
  pub is : rows ≡ rows_of d.view d.lattice (handed_on d v) v.box

pub record SaysSplit (d : Descent) (v : Visit) (below : List Node) : Type 0 where
  pub undecided : decision d v ≡ None
  pub long : is_long d.leaf v.box ≡ true
  pub is : below ≡ halves_nodes d (handed_on d v) (halves_of d.leaf v.box)

abbrev pub Says : Descent → Visit → Node → List Node → Type 0
Says d v Outside below = decision d v ≡ Some false
Says d v Inside below = decision d v ≡ Some true
Says d v (Leaf rows) below = SaysLeaf d v rows
Says d v (Split n) below = SaysSplit d v below

-- the first node of a box, which stands for all of them
pub record HasHead (d : Descent) (v : Visit) : Type 0 where
  pub node : Node
  pub below : List Node
  pub is : nodes_of d v ≡ node ∷ below
  pub count : count_of node ≡ length (node ∷ below)
  pub says : Says d v node below

pub head-of : (laws : Lawful) (d : Descent) (v : Visit) → 0 < d.leaf → IsBox v.box → HasHead d v
head-of laws d v some is = by (decision d v) refl (is_long d.leaf v.box) refl
  where
    nodes : (o : Option Bool) → decision d v ≡ o → nodes_of d v ≡ box_nodes d v (halves_nodes d (handed_on d v) (halves_of d.leaf v.box)) o
    nodes o e = nodes-are laws d v some is ∙ ap (box_nodes d v (halves_nodes d (handed_on d v) (halves_of d.leaf v.box))) e

    by : (o : Option Bool) → decision d v ≡ o → (t : Bool) → is_long d.leaf v.box ≡ t → HasHead d v
    by (Some true) e t long = record { node = Inside; below = []; is = nodes (Some true) e; count = refl; says = e }
    by (Some false) e t long = record { node = Outside; below = []; is = nodes (Some false) e; count = refl; says = e }
    by None e true long = record {
      node = Split (length (halves_nodes d (handed_on d v) (halves_of d.leaf v.box)));
      below = halves_nodes d (handed_on d v) (halves_of d.leaf v.box);
      is = nodes None e ∙ rw long refl;
      count = omega arith;
      says = record { undecided = e; long = long; is = refl };
    }
    by None e false long = record {
      node = Leaf (rows_of d.view d.lattice (handed_on d v) v.box);
      below = [];
      is = nodes None e ∙ rw long refl;
      count = refl;
      says = record { undecided = e; short = long; is = refl };
    }

-- the sample of a place of a band
abbrev sample_at : ℕ → ℕ → ℕ → Sample
sample_at w row p = record { i = p % w; j = row + p / w; k = 0 }

-- the byte at each place of a box that is decided
pub byte-decided : (laws : Lawful) (view : Window) (list : List Step) (row at p : ℕ) (b : Indices) (drawn : IsDrawnAt view list at b) (inside : Bool)
    → decision (raster view) (visit b drawn.received) ≡ Some inside → covers view.w row b p ≡ true → byte_at view list row p ≡ cond inside 255 0
byte-decided laws view list row at p b drawn inside e covered_here =
    let s = sample_at view.w row p in
    let lies = laws.parts.told b s covered_here in
    ap (λ t. cond t 255 0) (ap is_inside (sym (drawn.values s lies)) ∙ laws.visits.decided (raster view) (visit b drawn.received) s inside drawn.visit_is lies e)

-- lists that agree at each place
map-same : {X : Type 0} (f g : ℕ → X) (low n : ℕ) → ((i : ℕ) → low ≤ i → i < low + n → f i ≡ g i) → map f (range_with_len low n) ≡ map g (range_with_len low n)
map-same f g low zero same = refl
map-same f g low (suc n) same =
    ap (λ x. x ∷ map f (range_with_len (low + 1) n)) (same low (omega arith) (omega arith))
    ∙ ap (λ l. g low ∷ l) (map-same f g (low + 1) n (λ i l h. same i (omega (arith, l)) (omega (arith, h))))

-- the rows of a leaf are those by any list that has its values
pub rows-same : (view : Window) (b : Indices) (list other : List Step) → IsBox b → HasValues view b list other → rows_of view Raster list b ≡ rows_of view Raster other b
rows-same view b list other is values =
    map-same (λ r. cond (nat_lt r (b.y1 - b.y0)) (bits_of (insides view Raster list b (b.y0 + r))) 0) (λ r. cond (nat_lt r (b.y1 - b.y0)) (bits_of (insides view Raster other b (b.y0 + r))) 0) 0 8
    (λ r low high. by r (nat_lt r (b.y1 - b.y0)) refl)
  where
    row : (r : ℕ) → r < b.y1 - b.y0 → insides view Raster list b (b.y0 + r) ≡ insides view Raster other b (b.y0 + r)
    row r less =
        map-same (λ i. is_inside (tape_value (point_of view Raster i (b.y0 + r) b.z0) list)) (λ i. is_inside (tape_value (point_of view Raster i (b.y0 + r) b.z0) other)) b.x0 (b.x1 - b.x0)
        (λ i low high. ap is_inside (values (record { i = i; j = b.y0 + r; k = b.z0 })
        (record { x = (low, omega (arith, high, is.x)); y = (omega arith, omega (arith, less, is.y)); z = (omega arith, is.z) })))

    by : (r : ℕ) (t : Bool) → nat_lt r (b.y1 - b.y0) ≡ t → cond t (bits_of (insides view Raster list b (b.y0 + r))) 0 ≡ cond t (bits_of (insides view Raster other b (b.y0 + r))) 0
    by r true e = ap bits_of (row r (ltb-true r (b.y1 - b.y0) e))
    by r false e = refl

-- the list that a box hands on has the whole list's values
pub handed-values : (laws : Lawful) (view : Window) (list : List Step) (at : ℕ) (b : Indices) (drawn : IsDrawnAt view list at b)
    → HasValues view b (handed_on (raster view) (visit b drawn.received)) list
handed-values laws view list at b drawn s lies =
    laws.visits.values (raster view) (visit b drawn.received) s drawn.visit_is lies ∙ drawn.values s lies

-- the halves of a box that is split are drawn behind its node
pub halves-drawn : (laws : Lawful) (view : Window) (list : List Step) (at : ℕ) (b : Indices) (drawn : IsDrawnAt view list at b) (node : Node) (below : List Node)
    → nodes_of (raster view) (visit b drawn.received) ≡ node ∷ below → below ≡ halves_nodes (raster view) (handed_on (raster view) (visit b drawn.received)) (halves_of 8 b)
    → AreDrawnAt view list (at + 1) b (halves_of 8 b)
halves-drawn laws view list at b drawn node below is halves = record {
  live = handed_on (raster view) (visit b drawn.received);
  visit_is = record {
    window = drawn.visit_is.window;
    box = drawn.visit_is.box;
    within = drawn.visit_is.within;
    tape = (laws.visits.handed (raster view) (visit b drawn.received) drawn.visit_is).0;
  };
  values = handed-values laws view list at b drawn;
  stands = subst (λ l. StandsAt (nodes_of (raster view) (raster_root view list)) l (at + 1)) halves
      (stands-below (nodes_of (raster view) (raster_root view list)) (nodes_of (raster view) (visit b drawn.received)) below node at drawn.stands is);
}

-- the first node of a box that is drawn
pub head-drawn : (laws : Lawful) (view : Window) (list : List Step) (at : ℕ) (b : Indices) (drawn : IsDrawnAt view list at b) → HasHead (raster view) (visit b drawn.received)
head-drawn laws view list at b drawn = head-of laws (raster view) (visit b drawn.received) (omega arith) drawn.visit_is.box

-- the node that is read where a box is drawn is its first
pub box-read : (laws : Lawful) (view : Window) (list : List Step) (nodes : List Node) (at : ℕ) (b : Indices) (drawn : IsDrawnAt view list at b) (r : Node)
    → nodes ≡ nodes_of (raster view) (raster_root view list) → r ≡ get_or nodes at r → r ≡ (head-drawn laws view list at b drawn).node
box-read laws view list nodes at b drawn r all read =
    let head = head-drawn laws view list at b drawn in
    stands-read (nodes_of (raster view) (raster_root view list)) (nodes_of (raster view) (visit b drawn.received)) head.below head.node r at drawn.stands head.is (read ∙ ap (λ l. get_or l at r) all)

pub box-within : (laws : Lawful) (view : Window) (list : List Step) (nodes : List Node) (at : ℕ) (b : Indices) (drawn : IsDrawnAt view list at b) → nodes ≡ nodes_of (raster view) (raster_root view list)
    → (at < length nodes) × (at + length (nodes_of (raster view) (visit b drawn.received)) ≤ length nodes)
box-within laws view list nodes at b drawn all =
    let head = head-drawn laws view list at b drawn in
    let within = stands-within (nodes_of (raster view) (raster_root view list)) (nodes_of (raster view) (visit b drawn.received)) at drawn.stands in
    (omega (arith, within, ap length all, ap length head.is), omega (arith, within, ap length all))

-- what a node that is read says
pub box-says : (laws : Lawful) (view : Window) (list : List Step) (nodes : List Node) (at : ℕ) (b : Indices) (drawn : IsDrawnAt view list at b) (r : Node)
    → nodes ≡ nodes_of (raster view) (raster_root view list) → r ≡ get_or nodes at r
    → Says (raster view) (visit b drawn.received) r (head-drawn laws view list at b drawn).below
box-says laws view list nodes at b drawn r all read =
    let head = head-drawn laws view list at b drawn in
    subst (λ n. Says (raster view) (visit b drawn.received) n head.below) (sym (box-read laws view list nodes at b drawn r all read)) head.says

pub box-counts : (laws : Lawful) (view : Window) (list : List Step) (nodes : List Node) (at : ℕ) (b : Indices) (drawn : IsDrawnAt view list at b) (r : Node)
    → nodes ≡ nodes_of (raster view) (raster_root view list) → r ≡ get_or nodes at r → count_of r ≡ length (nodes_of (raster view) (visit b drawn.received))
box-counts laws view list nodes at b drawn r all read =
    let head = head-drawn laws view list at b drawn in
    ap count_of (box-read laws view list nodes at b drawn r all read) ∙ head.count ∙ ap length (sym head.is)

-- a side of a box that is not long
pub short-side : (b : Indices) → is_long 8 b ≡ false → b.y1 - b.y0 ≤ 8
short-side b e =
    let rest = or_parts (nat_lt 8 (b.x1 - b.x0)) (nat_lt 8 (b.y1 - b.y0) || nat_lt 8 (b.z1 - b.z0)) e in
    let y = or_parts (nat_lt 8 (b.y1 - b.y0)) (nat_lt 8 (b.z1 - b.z0)) rest.1 in
    ltb-false 8 (b.y1 - b.y0) y.0

-- numbers from one on, and more behind them
range-parts : (low m n : ℕ) → range_with_len low (m + n) ≡ range_with_len low m ++ range_with_len (low + m) n
range-parts low zero n = rw (zero-add n, add-zero low) refl
range-parts low (suc m) n =
    let count : suc m + n ≡ suc (m + n) = omega arith in
    let from : low + 1 + m ≡ low + suc m = omega arith in
    rw count (ap (λ l. low ∷ l) (range-parts (low + 1) m n ∙ ap (λ k. range_with_len (low + 1) m ++ range_with_len k n) from))

-- the places of one row
row-places : (view : Window) (list : List Step) (row r : ℕ) → map (byte_at view list row) (range_with_len (r * view.w) view.w) ≡ row_at view list (row + r)
row-places view list row r =
    ap (λ k. map (byte_at view list row) (range_with_len k view.w)) (sym (add-zero (r * view.w)))
    ∙ shift (byte_at view list row) (r * view.w) 0 view.w
    ∙ map-same (λ i. byte_at view list row (r * view.w + i)) (λ i. pixel_at view list i (row + r)) 0 view.w
    (λ i low high.
    let cell = place-of view.w r i (omega (arith, high)) in
    ap (λ m. pixel_at view list m (row + (r * view.w + i) / view.w)) cell.1 ∙ ap (λ m. pixel_at view list i (row + m)) cell.0)
  where
    shift : (f : ℕ → ℕ) (low from n : ℕ) → map f (range_with_len (low + from) n) ≡ map (λ i. f (low + i)) (range_with_len from n)
    shift f low from zero = refl
    shift f low from (suc n) = ap (λ l. f (low + from) ∷ l) (ap (λ k. map f (range_with_len k n)) (omega arith) ∙ shift f low (from + 1) n)

-- the bytes of some rows are those of their places
pub rows-places : (view : Window) (list : List Step) (row n : ℕ) → map (byte_at view list row) (range_with_len 0 (n * view.w)) ≡ rows_from view list row n
rows-places view list row zero = let none : 0 * view.w ≡ 0 = omega arith in ap (λ k. map (byte_at view list row) (range_with_len 0 k)) none
rows-places view list row (suc n) =
    let f = byte_at view list row in
    let count : suc n * view.w ≡ n * view.w + view.w = grind arith in
    let start : 0 + n * view.w ≡ n * view.w = omega arith in
    ap (λ k. map f (range_with_len 0 k)) count
    ∙ ap (map f) (range-parts 0 (n * view.w) view.w)
    ∙ map-append f (range_with_len 0 (n * view.w)) (range_with_len (0 + n * view.w) view.w)
    ∙ ap (λ k. map f (range_with_len 0 (n * view.w)) ++ map f (range_with_len k view.w)) start
    ∙ ap (λ l. l ++ map f (range_with_len (n * view.w) view.w)) (rows-places view list row n)
    ∙ ap (λ l. rows_from view list row n ++ l) (row-places view list row n ∙ sym (append-nil (row_at view list (row + n))) ∙ sym (flat_map-cons (row_at view list) (row + n) []))
    ∙ sym (flat_map-append (row_at view list) (range_with_len row n) (range_with_len (row + n) 1))
    ∙ ap (flat_map (row_at view list)) (sym (range-parts row n 1) ∙ ap (range_with_len row) more)
  where
    more : n + 1 ≡ suc n
    more = omega arith

-- a band whose places are all painted has the bytes of its rows
pub band-painted : (laws : Lawful) (view : Window) (list : List Step) (row rows : ℕ) (b : Indices) (xs ys : List ℕ) → b ≡ root_box_of view Raster → length xs ≡ rows * view.w → row + rows ≤ view.h → 0 < view.w
    → Paints (covers view.w row b) (byte_at view list row) xs ys → ys ≡ rows_from view list row rows
band-painted laws view list row rows b xs ys is count within some painted =
    fill_by_all (byte_at view list row) ys (rows * view.w) 0 (painted.same ∙ count)
    (λ p h. painted.each p (omega (arith, h, count)) ∙ ap (λ t. cond t (byte_at view list row p) (get_or xs p 0)) (ap (λ a. covers view.w row a p) is ∙ laws.parts.has (root_box_of view Raster) (sample_at view.w row p) (inside p h)))
    ∙ rows-places view list row rows
  where
    inside : (p : ℕ) → p < rows * view.w → LiesIn (root_box_of view Raster) (sample_at view.w row p)
    inside p h = record {
      x = (omega arith, mod-lt p some);
      y = (omega arith, omega (arith, within, row-below view.w rows p h));
      z = (omega arith, omega arith);
    }

-- all rows are the pixels of the image
pub all-rows : (view : Window) (list : List Step) (len : ℕ) (pixels : List ℕ) → 0 < view.w → len ≡ view.w * view.h
    → pixels ≡ rows_from view list 0 (len / view.w) → pixels ≡ pixels_of view list
all-rows view list len pixels some count painted =
    painted ∙ ap (λ n. rows_from view list 0 (n / view.w)) count ∙ ap (rows_from view list 0) (mul-div_cancel_left view.h some)

-- an image of these sides and pixels
abbrev pub image_of : ℕ → ℕ → List ℕ → Image
image_of w h pixels = record { w = w; h = h; pixels = pixels }

-- images of equal sides and pixels are equal
pub same-image : (a b w h : ℕ) (xs ys : List ℕ) → a ≡ w → b ≡ h → xs ≡ ys → image_of a b xs ≡ image_of w h ys
same-image a b w h xs ys wide high each = ap (λ n. image_of n b xs) wide ∙ ap (λ n. image_of w n xs) high ∙ ap (image_of w h) each
