-- The halves of a box that are looked into, one after another and in any order.
use Rattle.std.proofs.Common.{◌≡◌, ℕ, ◌+◌, ◌*◌, ◌<◌, ◌≤◌, ℤ, Bool, true, false, cond, List, [], ◌∷◌, ◌++◌, length, get_or, take, refl, sym, ap, subst, ◌∙◌, arith}
use Rattle.std.specs.List.{All}
use Rattle.std.proofs.Math.Nat.{add-mul}
use Rattle.box_chains.specs.declared.asked_box.AskedBox.{AskedBox}
use Rattle.std.proofs.lemmas.List.{take_more}
use Rattle.std.proofs.lemmas.List.Concat.{flat_map-cons}
use Rattle.std.proofs.lemmas.List.Elements.{All-append, All-cons, All-head, All-tail, All-contains, All-get_or, All-nil, All-weaker}
use Rattle.std.proofs.lemmas.List.Sums.{sum_by-cons, sum_by-take-le, sum_by_more}
use Rattle.box_chains.specs.Chains.{is_long, sides, visit}
use Rattle.box_chains.specs.Parts.{IsPart}
use Rattle.box_chains.specs.Visits.{IsVisit}
use Rattle.box_chains.specs.Laws.{Lawful}
use Rattle.box_chains.specs.Tallied.{CountsAtMost}
use Rattle.fixed_ops.specs.Counts.{Counts}
use Rattle.interval_ops.specs.HullCounts.{CountsHulls}
use Rattle.kuhn_cells.specs.Triangles.{GridPoint}
use Rattle.kuhn_cells.specs.declared.grid_size.GridSize.{GridSize}
use Rattle.live_clauses.specs.declared.step.Step.{Step}
use Rattle.view_places.specs.Boxes.{Indices, IsBox, halves_of}
use Rattle.view_places.specs.Spans.{IsInRoot}
use Rattle.box_chains.specs.Outcomes.{AreInRoot}
use Rattle.box_chains.specs.Placing.{Sampling}
use Rattle.view_places.specs.Window.{Window}
use Rattle.view_places.specs.declared.lattice.Lattice.{Lattice}
use Rattle.oct_descent.specs.Bound.{cell_spans_in}
use Rattle.oct_descent.specs.Desks.{halves_spans, own_spans, spans_below}
use Rattle.oct_descent.specs.Tables.{IsDue, IsEnough}
use Rattle.oct_descent.specs.Ways.{CellDescent, Covers, gridded}
use Rattle.oct_descent.proofs.TableLaws.{charges-hulls, charges-more, charges-most, charges-then, grows-wider, pays-most, pays-then, settled-stays, worked-stays}
use Rattle.std.proofs.lemmas.List.Sorted.{All-permutation, IsPermutation-sym, sum_by-IsPermutation}
use Rattle.oct_descent.specs.Known.{AreSettled, AreWorked, Charges, Grows, Known, PaysBox}
use Rattle.oct_descent.specs.Kinds.{GridKind, descent_of, value_in}
use Rattle.std.specs.List.Sorted.{IsPermutation}
use Rattle.oct_descent.specs.Halves.{ChargesBelow, ChargesHalves, PaysHalves, halves_below, owned}
use Rattle.oct_descent.specs.Asked.{asked_of, longer}
use Rattle.oct_descent.proofs.Looks.{own-among, own-long, own-short}
use Rattle.view_places.specs.declared.lattice.Lattice.TheVariants as lattices

-- a half of a box can be visited
pub half-visit : (laws : Lawful) (view : Window) (list : List Step) (b half : Indices) → IsPart 1 b half → IsVisit (gridded view).boxes (visit b list) → IsVisit (gridded view).boxes (visit half list)
half-visit laws view list b half part is = record {
  window = is.window;
  box = laws.parts.box 1 b half part;
  within = record { x = omega (arith, part.x.below, is.within.x); y = omega (arith, part.y.below, is.within.y); z = omega (arith, part.z.below, is.within.z) };
  tape = is.tape;
}

pub half-shorter : (laws : Lawful) (b half : Indices) → is_long 1 b ≡ true → IsPart 1 b half → sides half < sides b
half-shorter laws b half long part = laws.parts.shorter 1 b half long part

-- what is traced of halves is among what they take
pub owned-below : (laws : Lawful) (k : GridKind) (view : Window) (list : List Step) (halves : List Indices) → All IsBox halves
    → owned list halves + halves_below (descent_of k view) list halves ≤ halves_spans (descent_of k view) list halves
owned-below laws k view list [] each = omega arith
owned-below laws k view list (h ∷ hs) each = omega (
  arith,
  sum_by-cons (λ b. own_spans (visit b list)) h hs,
  sum_by-cons (λ b. spans_below (descent_of k view) (visit b list)) h hs,
  sum_by-cons (λ b. cell_spans_in (descent_of k view) (visit b list)) h hs,
  own-among laws (descent_of k view) (visit h list) (omega arith) (All-head IsBox h hs each),
  owned-below laws k view list hs (All-tail IsBox h hs each),
)

-- it is as many traces as there are longer halves
pub longer-owned : (k : GridKind) (n : GridSize) (list : List Step) (halves : List Indices) → length (longer k n halves) * length list ≡ owned list halves
longer-owned k n list [] = omega arith
longer-owned k n list (h ∷ hs) =
    ap (λ l. length l * length list) (flat_map-cons piece h hs) ∙ by (is_long 1 h) refl (longer-owned k n list hs) ∙ sym (sum_by-cons (λ b. own_spans (visit b list)) h hs)
  where
    piece : Indices → List AskedBox
    piece b = cond (is_long 1 b) (asked_of k n b ∷ []) []

    by : (long : Bool) → is_long 1 h ≡ long → length (longer k n hs) * length list ≡ owned list hs → length (cond {A = List AskedBox} (is_long 1 h) (asked_of k n h ∷ []) [] ++ longer k n hs) * length list ≡ own_spans (visit h list) + owned list hs
    by true e others = ap (λ t. length (cond {A = List AskedBox} t (asked_of k n h ∷ []) [] ++ longer k n hs) * length list) e ∙ omega (arith, own-long (visit h list) e, add-mul 1 (length (longer k n hs)) (length list), others)
    by false e others = ap (λ t. length (cond {A = List AskedBox} t (asked_of k n h ∷ []) [] ++ longer k n hs) * length list) e ∙ omega (arith, own-short (visit h list) e, others)

-- they are boxes of the grid
pub longer-in_root : (k : GridKind) (places : Sampling) (n : GridSize) (halves : List Indices) → All (IsInRoot places.view places.lattice) halves → AreInRoot places (longer k n halves)
longer-in_root k places n [] each = All-nil (λ (a : AskedBox). IsInRoot places.view places.lattice a.range)
longer-in_root k places n (h ∷ hs) each =
    subst (AreInRoot places) (sym (flat_map-cons piece h hs))
    (All-append P (piece h) (longer k n hs) (by (is_long 1 h)) (longer-in_root k places n hs (All-tail (IsInRoot places.view places.lattice) h hs each)))
  where
    P : AskedBox → Type 0
    P a = IsInRoot places.view places.lattice a.range

    piece : Indices → List AskedBox
    piece b = cond (is_long 1 b) (asked_of k n b ∷ []) []

    by : (long : Bool) → All P (cond {A = List AskedBox} long (asked_of k n h ∷ []) [])
    by true = All-cons P (asked_of k n h) [] (All-head (IsInRoot places.view places.lattice) h hs each) (All-nil P)
    by false = All-nil P

-- the halves of a box are boxes
pub halves-boxes : (laws : Lawful) (b : Indices) (halves : List Indices) → IsBox b → halves ≡ halves_of 1 b → All IsBox halves
halves-boxes laws b halves is all =
    subst (λ hs. All IsBox hs) (sym all) (All-weaker (IsPart 1 b) IsBox (λ h part. laws.parts.box 1 b h part) (halves_of 1 b) (laws.parts.all 1 b (omega arith) is))

pub begun-paid : (d : CellDescent) (list : List Step) (halves : List Indices) (n : ℕ) (t : Known) (told now : Counts) → CountsAtMost 0 n told now → PaysHalves d list halves t t told now
begun-paid d list halves n t told now begun f due = pays-most f 0 n t told now begun

-- what holds once halves are traced, and before any is looked into
pub first-charged : (laws : Lawful) (k : GridKind) (d : CellDescent) (list : List Step) (halves : List Indices) (n : GridSize) (t : Known) (told now : Counts) → CountsHulls (length (longer k n halves) * length list) told now
    → (f : GridPoint → ℕ) → All (λ h. IsEnough f d (visit h list)) halves → Charges f (owned list halves + halves_below d list (take 0 halves)) t t told now
first-charged laws k d list halves n t told now hulls f enough =
    charges-more laws f (length (longer k n halves) * length list) (owned list halves + halves_below d list (take 0 halves)) t t told now (omega (arith, longer-owned k n list halves))
    (charges-hulls laws f (length (longer k n halves) * length list) t told now hulls)

-- what a half covers the box covers
pub part-covers : (b half : Indices) (p : GridPoint) → IsPart 1 b half → Covers half p → Covers b p
part-covers b half p part covers = record {
  x = (omega (arith, part.x.above, covers.x), omega (arith, part.x.below, covers.x));
  y = (omega (arith, part.y.above, covers.y), omega (arith, part.y.below, covers.y));
  z = (omega (arith, part.z.above, covers.z), omega (arith, part.z.below, covers.z));
}

pub half-grows : (k : GridKind) (view other : Window) (list : List Step) (b half : Indices) (before after : Known) → other ≡ view → IsPart 1 b half → Grows (value_in k other list) half before after
    → Grows (value_in k view list) b before after
half-grows k view other list b half before after same part grows =
    grows-wider (value_in k other list) (value_in k view list) half b before after (λ p covers. part-covers b half p part covers) (λ p covers. ap (λ v. value_in k v list p) same) grows

-- one more half is settled
pub next-settled : (k : GridKind) (view other : Window) (list : List Step) (b half : Indices) (halves : List Indices) (i : ℕ) (before after : Known) → other ≡ view → i < length halves → half ≡ get_or halves i half
    → Grows (value_in k view list) b before after → AreSettled (descent_of k other) (value_in k other list) half after → All (λ h. AreSettled (descent_of k view) (value_in k view list) h before) (take i halves)
    → All (λ h. AreSettled (descent_of k view) (value_in k view list) h after) (take (i + 1) halves)
next-settled k view other list b half halves i before after same within read grows here earlier =
    subst (λ hs. All P hs) (sym (take_more halves i half within ∙ ap (λ h. take i halves ++ h ∷ []) (sym read)))
    (All-append P (take i halves) (half ∷ [])
    (All-weaker (λ h. AreSettled (descent_of k view) g h before) P (λ h settled. settled-stays (descent_of k view) g g b h before after grows settled) (take i halves) earlier)
    (All-cons P half [] (subst (λ v. AreSettled (descent_of k v) (value_in k v list) half after) same here) (All-nil P)))
  where
    g : GridPoint → ℤ
    g = value_in k view list

    P : Indices → Type 0
    P h = AreSettled (descent_of k view) g h after

-- and worked
pub next-worked : (k : GridKind) (view other : Window) (list : List Step) (b half : Indices) (halves : List Indices) (i : ℕ) (before after : Known) → other ≡ view → i < length halves → half ≡ get_or halves i half
    → Grows (value_in k view list) b before after → AreWorked (descent_of k other) (visit half list) after → All (λ h. AreWorked (descent_of k view) (visit h list) before) (take i halves)
    → All (λ h. AreWorked (descent_of k view) (visit h list) after) (take (i + 1) halves)
next-worked k view other list b half halves i before after same within read grows here earlier =
    subst (λ hs. All P hs) (sym (take_more halves i half within ∙ ap (λ h. take i halves ++ h ∷ []) (sym read)))
    (All-append P (take i halves) (half ∷ [])
    (All-weaker (λ h. AreWorked (descent_of k view) (visit h list) before) P (λ h worked. worked-stays (value_in k view list) (descent_of k view) (visit h list) b before after grows worked) (take i halves) earlier)
    (All-cons P half [] (subst (λ v. AreWorked (descent_of k v) (visit half list) after) same here) (All-nil P)))
  where
    P : Indices → Type 0
    P h = AreWorked (descent_of k view) (visit h list) after

-- and paid
pub next-paid : (laws : Lawful) (k : GridKind) (view other : Window) (list : List Step) (half : Indices) (halves : List Indices) (i : ℕ) (before mid after : Known) (told since now : Counts) → other ≡ view → i < length halves → half ≡ get_or halves i half
    → PaysHalves (descent_of k view) list halves before mid told since → PaysBox (descent_of k other) (visit half list) mid after since now → PaysHalves (descent_of k view) list halves before after told now
next-paid laws k view other list half halves i before mid after told since now same within read earlier here f due =
    pays-then laws f before mid after told since now (earlier f due)
    (subst (λ v. PaysBox (descent_of k v) (visit half list) mid after since now) same here f
    (subst (λ h. IsDue f (descent_of k view) (visit h list)) (sym read) (All-get_or (λ h. IsDue f (descent_of k view) (visit h list)) halves i half within due)))

-- and charged, behind what was traced of all halves before
pub next-charged : (laws : Lawful) (k : GridKind) (view other : Window) (list : List Step) (half : Indices) (halves : List Indices) (i own : ℕ) (before mid after : Known) (told since now : Counts) → other ≡ view → i < length halves → half ≡ get_or halves i half
    → ((f : GridPoint → ℕ) → All (λ h. IsEnough f (descent_of k view) (visit h list)) halves → Charges f (own + halves_below (descent_of k view) list (take i halves)) before mid told since)
    → ChargesBelow (descent_of k other) (visit half list) mid after since now
    → (f : GridPoint → ℕ) → All (λ h. IsEnough f (descent_of k view) (visit h list)) halves → Charges f (own + halves_below (descent_of k view) list (take (i + 1) halves)) before after told now
next-charged laws k view other list half halves i own before mid after told since now same within read earlier here f enough =
    charges-then laws f (own + halves_below d list (take i halves)) (spans_below d (visit half list)) (own + halves_below d list (take (i + 1) halves)) before mid after told since now
    (omega (arith, sum_by_more (λ h. spans_below d (visit h list)) halves i half within, ap (λ h. spans_below d (visit h list)) read))
    (earlier f enough)
    (subst (λ v. ChargesBelow (descent_of k v) (visit half list) mid after since now) same here f
    (subst (λ h. IsEnough f d (visit h list)) (sym read) (All-get_or (λ h. IsEnough f d (visit h list)) halves i half within enough)))
  where
    d : CellDescent
    d = descent_of k view

-- the work of some of the halves, behind what was traced of all, is among that of all
some-charged : (laws : Lawful) (k : GridKind) (view : Window) (list : List Step) (halves : List Indices) (i : ℕ) (before after : Known) (told now : Counts)
    → All IsBox halves
    → ((f : GridPoint → ℕ) → All (λ h. IsEnough f (descent_of k view) (visit h list)) halves → Charges f (owned list halves + halves_below (descent_of k view) list (take i halves)) before after told now)
    → ChargesHalves (descent_of k view) list halves before after told now
some-charged laws k view list halves i before after told now each h f enough =
    charges-more laws f (owned list halves + halves_below (descent_of k view) list (take i halves)) (halves_spans (descent_of k view) list halves) before after told now
    (omega (arith, sum_by-take-le (λ h. spans_below (descent_of k view) (visit h list)) halves i, owned-below laws k view list halves each)) (h f enough)

-- once all halves are settled, the box is
pub all-settled : (laws : Lawful) (d : CellDescent) (g : GridPoint → ℤ) (b : Indices) (t : Known) → All (λ h. AreSettled d g h t) (halves_of 1 b) → AreSettled d g b t
all-settled laws d g b t each s lies =
    let half = laws.parts.among 1 b s lies in
    All-contains (λ h. AreSettled d g h t) (halves_of 1 b) _ each half.0 s half.1

-- ---- halves in any order

-- they are parts of the box
turned-parts : (laws : Lawful) (b : Indices) (halves : List Indices) → IsBox b → IsPermutation (halves_of 1 b) halves → All (IsPart 1 b) halves
turned-parts laws b halves is turned = All-permutation (IsPart 1 b) (halves_of 1 b) halves turned (laws.parts.all 1 b (omega arith) is)

-- and so is one that is read
pub turned-part : (laws : Lawful) (b half : Indices) (halves : List Indices) (i : ℕ) → IsBox b → IsPermutation (halves_of 1 b) halves → i < length halves → half ≡ get_or halves i half → IsPart 1 b half
turned-part laws b half halves i is turned within read =
    subst (λ h. IsPart 1 b h) (sym read) (All-get_or (IsPart 1 b) halves i half within (turned-parts laws b halves is turned))

-- they are boxes
pub turned-boxes : (laws : Lawful) (b : Indices) (halves : List Indices) → IsBox b → IsPermutation (halves_of 1 b) halves → All IsBox halves
turned-boxes laws b halves is turned =
    All-weaker (IsPart 1 b) IsBox (λ h part. laws.parts.box 1 b h part) halves (turned-parts laws b halves is turned)

-- and boxes of the grid
pub turned-in_root : (laws : Lawful) (view : Window) (lattice : Lattice) (list : List Step) (b : Indices) (halves : List Indices) → lattice ≡ lattices.Grid → IsVisit (gridded view).boxes (visit b list)
    → IsPermutation (halves_of 1 b) halves → All (IsInRoot view lattice) halves
turned-in_root laws view lattice list b halves placed is turned =
    subst (λ l. All (IsInRoot view l) halves) (sym placed)
    (All-weaker (IsPart 1 b) (IsInRoot view lattices.Grid) (λ h part. (half-visit laws view list b h part is).within) halves (turned-parts laws b halves is.box turned))

-- what they are charged in an order they are in any
turned-charged : (d : CellDescent) (list : List Step) (halves turned : List Indices) (before after : Known) (told now : Counts) → IsPermutation halves turned
    → ChargesHalves d list turned before after told now → ChargesHalves d list halves before after told now
turned-charged d list halves turned before after told now is charged f enough =
    subst (λ n. Charges f n before after told now) (sum_by-IsPermutation (λ h. cell_spans_in d (visit h list)) halves turned is)
    (charged f (All-permutation (λ h. IsEnough f d (visit h list)) halves turned is enough))

-- and what is paid for them
pub turned-paid : (d : CellDescent) (list : List Step) (halves turned : List Indices) (before after : Known) (told now : Counts) → IsPermutation halves turned
    → PaysHalves d list turned before after told now → PaysHalves d list halves before after told now
turned-paid d list halves turned before after told now is paid f due =
    paid f (All-permutation (λ h. IsDue f d (visit h list)) halves turned is due)

-- the traces of halves, whole or begun, are among what the halves take
pub turned-begun : (laws : Lawful) (k : GridKind) (view : Window) (list : List Step) (b : Indices) (halves : List Indices) (n : GridSize) (t : Known) (told now : Counts) → IsBox b → IsPermutation (halves_of 1 b) halves
    → CountsAtMost 0 (length (longer k n halves) * length list) told now → ChargesHalves (descent_of k view) list (halves_of 1 b) t t told now
turned-begun laws k view list b halves n t told now is turned begun =
    turned-charged (descent_of k view) list (halves_of 1 b) halves t t told now turned
    (λ f enough. charges-more laws f (length (longer k n halves) * length list) (halves_spans (descent_of k view) list halves) t t told now
    (omega (arith, longer-owned k n list halves, owned-below laws k view list halves (turned-boxes laws b halves is turned)))
    (charges-most f (length (longer k n halves) * length list) t told now begun))

-- and so is the work of some of them, behind what was traced of all
pub turned-some : (laws : Lawful) (k : GridKind) (view : Window) (list : List Step) (b : Indices) (halves : List Indices) (i : ℕ) (before after : Known) (told now : Counts) → IsBox b → IsPermutation (halves_of 1 b) halves
    → ((f : GridPoint → ℕ) → All (λ h. IsEnough f (descent_of k view) (visit h list)) halves → Charges f (owned list halves + halves_below (descent_of k view) list (take i halves)) before after told now)
    → ChargesHalves (descent_of k view) list (halves_of 1 b) before after told now
turned-some laws k view list b halves i before after told now is turned charged =
    turned-charged (descent_of k view) list (halves_of 1 b) halves before after told now turned
    (some-charged laws k view list halves i before after told now (turned-boxes laws b halves is turned) charged)

-- once all are settled, the box is
pub turned-settled : (laws : Lawful) (d : CellDescent) (g : GridPoint → ℤ) (b : Indices) (halves : List Indices) (t : Known) → IsPermutation (halves_of 1 b) halves → All (λ h. AreSettled d g h t) halves → AreSettled d g b t
turned-settled laws d g b halves t turned each =
    all-settled laws d g b t (All-permutation (λ h. AreSettled d g h t) halves (halves_of 1 b) (IsPermutation-sym (halves_of 1 b) halves turned) each)
