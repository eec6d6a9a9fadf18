-- Triangles by their edges, one triangle after another.
use Rattle.std.proofs.Common.{◌≡◌, ℕ, ◌+◌, ◌*◌, ◌<◌, ◌≤◌, List, [], ◌∷◌, ◌++◌, refl, ap, sym, subst, ◌∙◌, arith, append-nil, append_assoc, length-append}
use Rattle.std.specs.Prelude.{All, Contains, get_or, length, map, take}
use Rattle.std.proofs.lemmas.List.{get_or_append_left, length-map, map-append, take_more}
use Rattle.std.proofs.lemmas.List.Concat.{flat_map-append}
use Rattle.std.proofs.lemmas.List.Elements.{All-append, All-cons, All-contains, All-head, All-nil, All-tail, All-weaker, Contains-append_left, Contains-append_right}
use Rattle.kuhn_cells.specs.Faces.{Face}
use Rattle.kuhn_cells.specs.Laws.{OfEdges}
use Rattle.kuhn_cells.specs.declared.edge_key.EdgeKey.{EdgeKey}
use Rattle.kuhn_cells.specs.declared.grid_size.GridSize.{GridSize}
use Rattle.kuhn_cells.specs.declared.triple.Triple.{Triple}
use Rattle.tetra_mesh.specs.declared.entry.Entry.{Entry}
use Rattle.tetra_mesh.specs.declared.shape.Corners.{Corners}
use Rattle.tetra_mesh.specs.declared.shape.Shape.{Shape}
use Rattle.tetra_mesh.specs.declared.sided_cell.SidedCell.{SidedCell}
use Rattle.tetra_mesh.specs.Edges.{AddsEdge, AddsTriangle, AreAmong, HasTriangles, all_edges_in, among, edges_in, face_by, no_edge}
use Rattle.tetra_mesh.specs.Numbering.{IsKept, face_in, number_in}
use Rattle.tetra_mesh.specs.Shapes.{moved, moved_triple}
use Rattle.fixed_ops.proofs.Lists.{map_same}

-- ---- three edges

one-of : (t : Triple) (k : ℕ) (x : EdgeKey) → k < 3 → get_or (edges_in t) k x ≡ x → Contains (edges_in t) x
one-of t k x few is = (k, few, is)

-- what stood in a list stands in one that is longer
stays : (old new added : List EdgeKey) (i : ℕ) (e : EdgeKey) → new ≡ old ++ added → i < length old → get_or old i no_edge ≡ e → get_or new i no_edge ≡ e
stays old new added i e grown within is = ap (λ l. get_or l i no_edge) grown ∙ get_or_append_left old added no_edge i within ∙ is

pub adds_triangle : (t : Triple) (e0 e1 e2 e3 : List EdgeKey) (a b c : ℕ) (before after : List Corners) → AddsEdge t.a e0 e1 a → AddsEdge t.b e1 e2 b → AddsEdge t.c e2 e3 c → after ≡ before ++ record { a = a; b = b; c = c } ∷ []
    → AddsTriangle t e0 e3 before after
adds_triangle t e0 e1 e2 e3 a b c before after first second third pushed =
    let in_first = first.within in
    let long2 = ap length second.grown in
    let long3 = ap length third.grown in
    let more2 = length-append e1 second.added in
    let more3 = length-append e2 third.added in
    let at_a = stays e2 e3 third.added a t.a third.grown (omega (arith, in_first, long2, more2)) (stays e1 e2 second.added a t.a second.grown in_first first.at) in
    let at_b = stays e2 e3 third.added b t.b third.grown second.within second.at in
    record {
      corners = record { a = a; b = b; c = c };
      pushed = pushed;
      same = λ k. record { a = at_a k; b = at_b k; c = third.at k };
      within = record { a = omega (arith, in_first, long2, long3, more2, more3); b = omega (arith, second.within, long3, more3); c = third.within };
      added = first.added ++ (second.added ++ third.added);
      grown =
          third.grown ∙ ap (λ l. l ++ third.added) (second.grown ∙ ap (λ l. l ++ second.added) first.grown)
          ∙ append_assoc (e0 ++ first.added) second.added third.added ∙ append_assoc e0 first.added (second.added ++ third.added);
      own =
          All-append (Contains (edges_in t)) first.added (second.added ++ third.added) (All-weaker (λ x. x ≡ t.a) (Contains (edges_in t)) (λ x e. one-of t 0 x (omega arith) (sym e)) first.added first.own)
          (All-append (Contains (edges_in t)) second.added third.added (All-weaker (λ x. x ≡ t.b) (Contains (edges_in t)) (λ x e. one-of t 1 x (omega arith) (sym e)) second.added second.own)
          (All-weaker (λ x. x ≡ t.c) (Contains (edges_in t)) (λ x e. one-of t 2 x (omega arith) (sym e)) third.added third.own));
      few = omega (arith, first.few, second.few, third.few);
    }

-- ---- one triangle after another

-- triangles of the first ones of some, by edges
pub record AreFirst (ts : List Triple) (i : ℕ) (edges : List EdgeKey) (corners : List Corners) : Type 0 where
  pub triangles : map (among edges) corners ≡ take i ts
  pub places : All (AreAmong (length edges)) corners
  pub own : All (Contains (all_edges_in (take i ts))) edges
  pub few : length edges ≤ 3 * i

pub none_first : (ts : List Triple) → AreFirst ts 0 [] []
none_first ts = record { triangles = refl; places = All-nil (AreAmong 0); own = All-nil (Contains (all_edges_in [])); few = omega arith }

pub one_more : (ts : List Triple) (i : ℕ) (t : Triple) (old new : List EdgeKey) (before after : List Corners) → i < length ts → t ≡ get_or ts i t → AreFirst ts i old before → AddsTriangle t old new before after → AreFirst ts (i + 1) new after
one_more ts i t old new before after within here is adds =
    let long = ap length adds.grown in
    let more = length-append old adds.added in
    let taken : take (i + 1) ts ≡ take i ts ++ t ∷ [] = take_more ts i t within ∙ ap (λ x. take i ts ++ x ∷ []) (sym here) in
    let all : all_edges_in (take (i + 1) ts) ≡ all_edges_in (take i ts) ++ edges_in t =
    ap all_edges_in taken ∙ flat_map-append edges_in (take i ts) (t ∷ []) ∙ ap (λ l. all_edges_in (take i ts) ++ l) (append-nil (edges_in t)) in
    let stayed : map (among new) before ≡ map (among old) before =
    map_same (among new) (among old) before
    (All-weaker (AreAmong (length old)) (λ p. among new p ≡ among old p)
    (λ p h.
    let a = stays old new adds.added p.a _ adds.grown h.a refl in
    let b = stays old new adds.added p.b _ adds.grown h.b refl in
    let c = stays old new adds.added p.c _ adds.grown h.c refl in
    λ k. record { a = a k; b = b k; c = c k })
    before is.places) in
    record {
      triangles =
          ap (map (among new)) adds.pushed ∙ map-append (among new) before (adds.corners ∷ [])
          ∙ ap (λ l. l ++ among new adds.corners ∷ []) (stayed ∙ is.triangles) ∙ ap (λ x. take i ts ++ x ∷ []) adds.same ∙ sym taken;
      places =
          subst (All (AreAmong (length new))) (sym adds.pushed)
          (All-append (AreAmong (length new)) before (adds.corners ∷ [])
          (All-weaker (AreAmong (length old)) (AreAmong (length new)) (λ p h. record { a = omega (arith, h.a, long, more); b = omega (arith, h.b, long, more); c = omega (arith, h.c, long, more) }) before is.places)
          (All-cons (AreAmong (length new)) adds.corners [] adds.within (All-nil (AreAmong (length new)))));
      own =
          subst (λ l. All (Contains l) new) (sym all)
          (subst (All (Contains (all_edges_in (take i ts) ++ edges_in t))) (sym adds.grown)
          (All-append (Contains (all_edges_in (take i ts) ++ edges_in t)) old adds.added
          (All-weaker (Contains (all_edges_in (take i ts))) (Contains (all_edges_in (take i ts) ++ edges_in t)) (Contains-append_left (all_edges_in (take i ts)) (edges_in t)) old is.own)
          (All-weaker (Contains (edges_in t)) (Contains (all_edges_in (take i ts) ++ edges_in t)) (Contains-append_right (all_edges_in (take i ts)) (edges_in t)) adds.added adds.own)));
      few = omega (arith, is.few, adds.few);
    }

-- ---- edges and faces

-- what holds of the edges of triangles
all_of_edges : (P : EdgeKey → Type 0) (ts : List Triple) → All (OfEdges P) ts → All P (all_edges_in ts)
all_of_edges P [] h = All-nil P
all_of_edges P (t ∷ ts) h =
    let own = All-head (OfEdges P) t ts h in
    All-cons P t.a (t.b ∷ t.c ∷ all_edges_in ts) own.a (All-cons P t.b (t.c ∷ all_edges_in ts) own.b (All-cons P t.c (all_edges_in ts) own.c (all_of_edges P ts (All-tail (OfEdges P) t ts h))))

pub edges_kept : (n : GridSize) (cell : SidedCell) (ts : List Triple) (edges : List EdgeKey) → All (Contains (all_edges_in ts)) edges → All (λ t. OfEdges (IsKept n) (moved_triple cell t)) ts → All (λ e. IsKept n (moved cell e)) edges
edges_kept n cell ts edges own kept =
    let P : EdgeKey → Type 0 = λ e. IsKept n (moved cell e) in
    let all = all_of_edges P ts (All-weaker (λ t. OfEdges (IsKept n) (moved_triple cell t)) (OfEdges P) (λ t h. record { a = h.a; b = h.b; c = h.c }) ts kept) in
    All-weaker (Contains (all_edges_in ts)) P (λ e is. All-contains P (all_edges_in ts) e all is) edges own

-- faces by the numbers of edges
pub faces_by : (n : GridSize) (slots : List Entry) (cell : SidedCell) (edges : List EdgeKey) (numbers : List ℕ) (triangles : List Corners)
    → ((i : ℕ) → i < length edges → get_or numbers i 0 ≡ number_in n slots (moved cell (get_or edges i no_edge))) → All (AreAmong (length edges)) triangles
    → map (face_by numbers) triangles ≡ map (λ t. face_in n slots (moved_triple cell t)) (map (among edges) triangles)
faces_by n slots cell edges numbers [] are places = refl
faces_by n slots cell edges numbers (p ∷ rest) are places =
    let here = All-head (AreAmong (length edges)) p rest places in
    let make : ℕ → ℕ → ℕ → Face = λ a b c. record { a = a; b = b; c = c } in
    let first : face_by numbers p ≡ face_in n slots (moved_triple cell (among edges p)) = λ k. make (are p.a here.a k) (are p.b here.b k) (are p.c here.c k) in
    let others = faces_by n slots cell edges numbers rest are (All-tail (AreAmong (length edges)) p rest places) in
    λ k. first k ∷ others k

-- as many places as there are numbers
pub among_more : (count most : ℕ) (triangles : List Corners) → count ≤ most → All (AreAmong count) triangles → All (AreAmong most) triangles
among_more count most triangles few places =
    All-weaker (AreAmong count) (AreAmong most) (λ p h. record { a = omega (arith, h.a, few); b = omega (arith, h.b, few); c = omega (arith, h.c, few) }) triangles places

pub as_many : (ts : List Triple) (s : Shape) → HasTriangles ts s → length s.triangles.items ≡ length ts
as_many ts s has = sym (length-map s.triangles.items (among s.edges.items)) ∙ ap length has.triangles
