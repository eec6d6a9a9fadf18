-- The mesh of each grid is closed.
use Rattle.std.proofs.Common.{◌≡◌, ℕ, ◌+◌, true, false, cond, List, [], ◌∷◌, refl, arith, ap, sym, subst, ◌∙◌, inl, inr}
use Rattle.std.specs.Prelude.{◌⊎◌, map, flat_map, get_or, All, AllPairs, Contains}
use Rattle.std.proofs.lemmas.Bool.{and_from, and_parts, eq-eqb, eqb-true, false_from_ne_true}
use Rattle.std.proofs.lemmas.List.Elements.{All-contains, All-cons, All-head, All-map, All-nil, All-tail, Contains-get_or}
use Rattle.std.proofs.lemmas.List.Kept.{AllPairs-cons}
use Rattle.std.proofs.lemmas.List.Folds.{flat_map-map}
use Rattle.std.proofs.lemmas.List.Sums.{sum_by-cons}
use Rattle.kuhn_cells.specs.declared.edge_key.EdgeKey.{EdgeKey}
use Rattle.kuhn_cells.specs.declared.triple.Triple.{Triple}
use Rattle.kuhn_cells.specs.Faces.{all_triangles, face_among, faces, number_among}
use Rattle.kuhn_cells.specs.Grids.{Grid, vertices}
use Rattle.kuhn_cells.specs.Laws.{IsVertex, OfEdges}
use Rattle.kuhn_cells.proofs.FaceLaws.{numbers_are_places, triangles_have_vertices}
use Rattle.mesh_laws.specs.Closed.{IsTriangle, directed_edges, directed_edges_of, goes, occurrences}
use Rattle.mesh_laws.specs.Laws.{EdgesArePaired}
use Rattle.mesh_laws.proofs.Lists.{Differ, all_of_flat, flat_of_maps}
use Rattle.mesh_laws.proofs.Partners.{all_made_back, pair_same}
use Rattle.mesh_laws.proofs.Single.{all_differ, all_part}
use Rattle.mesh_laws.proofs.Turns.{all_turns, turns_are_all, turns_of}
use Rattle.fixed_ops.proofs.Lists.{first_before, head_or_tail, in_map, not_in_none, rest_in_order}

-- ---- an edge of a list without repetition occurs once

pub goes_is : (e f : ℕ × ℕ) → goes e.0 e.1 f ≡ true → f ≡ e
goes_is e f h = let p = and_parts _ _ h in rw (eqb-true f.0 e.0 p.0, eqb-true f.1 e.1 p.1) refl

pub goes_itself : (e : ℕ × ℕ) → goes e.0 e.1 e ≡ true
goes_itself e = and_from _ _ (eq-eqb e.0 e.0 refl) (eq-eqb e.1 e.1 refl)

other_goes : (e f : ℕ × ℕ) → Differ f e → goes e.0 e.1 f ≡ false
other_goes e f differ = false_from_ne_true (goes e.0 e.1 f) (λ h. differ (goes_is e f h))

pub none_goes : (e : ℕ × ℕ) (fs : List (ℕ × ℕ)) → All (Differ e) fs → occurrences fs e.0 e.1 ≡ 0
none_goes e [] h = refl
none_goes e (f ∷ fs) h =
    let other = other_goes e f (λ same. All-head (Differ e) f fs h (sym same)) in
    sum_by-cons (λ x. cond (goes e.0 e.1 x) 1 0) f fs ∙ rw (other, none_goes e fs (All-tail (Differ e) f fs h)) refl

pub occurs_once : (e : ℕ × ℕ) (fs : List (ℕ × ℕ)) → AllPairs Differ fs → Contains fs e → occurrences fs e.0 e.1 ≡ 1
occurs_once e [] differ h = absurd (not_in_none e h)
occurs_once e (f ∷ fs) differ h =
    sum_by-cons (λ x. cond (goes e.0 e.1 x) 1 0) f fs ∙ by (head_or_tail f fs e h) (λ later. occurs_once e fs (rest_in_order Differ f fs differ) later)
  where
    by : (f ≡ e) ⊎ Contains fs e → (Contains fs e → occurrences fs e.0 e.1 ≡ 1) → cond (goes e.0 e.1 f) 1 0 + occurrences fs e.0 e.1 ≡ 1
    by (inl same) next =
        let first = subst (λ (x : ℕ × ℕ). All (Differ x) fs) same (first_before Differ f fs differ) in
        let here : goes e.0 e.1 f ≡ true = subst (λ (x : ℕ × ℕ). goes e.0 e.1 x ≡ true) (sym same) (goes_itself e) in
        rw (here, none_goes e fs first) refl
    by (inr later) next = rw (other_goes e f (All-contains (Differ f) fs e (first_before Differ f fs differ) later), next later) refl

-- a function that tells the elements of a list apart keeps them apart
pub differ_mapped : {A B : Type 0} (f : A → B) (P : A → Type 0) → ((x y : A) → P x → P y → f x ≡ f y → x ≡ y) → (xs : List A) → All P xs → AllPairs Differ xs → AllPairs Differ (map f xs)
differ_mapped f P tells [] h differ = λ i j d less within. absurd (omega (arith, within))
differ_mapped f P tells (x ∷ xs) h differ =
    AllPairs-cons Differ (f x) (map f xs) (All-map (Differ (f x)) f xs (λ k d within same. first_before Differ x xs differ k d within (tells x _ (All-head P x xs h) (All-tail P x xs h k d within) same))) (differ_mapped f P tells xs (All-tail P x xs h) (rest_in_order Differ x xs differ))

-- what holds of each turn holds of the three turns of each triangle
each_triangle : (P : EdgeKey × EdgeKey → Type 0) (ts : List Triple) → All P (flat_map turns_of ts) → All (λ t. P (t.a, t.b) × P (t.b, t.c) × P (t.c, t.a)) ts
each_triangle P [] h = All-nil (λ t. P (t.a, t.b) × P (t.b, t.c) × P (t.c, t.a))
each_triangle P (t ∷ ts) h =
    let rest = flat_map turns_of ts in
    let h1 = All-tail P (t.a, t.b) ((t.b, t.c) ∷ (t.c, t.a) ∷ rest) h in
    let h2 = All-tail P (t.b, t.c) ((t.c, t.a) ∷ rest) h1 in
    All-cons (λ t. P (t.a, t.b) × P (t.b, t.c) × P (t.c, t.a)) t ts (All-head P (t.a, t.b) ((t.b, t.c) ∷ (t.c, t.a) ∷ rest) h, All-head P (t.b, t.c) ((t.c, t.a) ∷ rest) h1, All-head P (t.c, t.a) rest h2) (each_triangle P ts (All-tail P (t.c, t.a) rest h2))

-- ---- the numbers of the vertices

abbrev pub number : Grid → EdgeKey → ℕ
number g e = number_among (vertices g) e

abbrev numbered : Grid → EdgeKey × EdgeKey → ℕ × ℕ
numbered g k = (number g k.0, number g k.1)

abbrev AreVertices : Grid → EdgeKey × EdgeKey → Type 0
AreVertices g k = IsVertex g k.0 × IsVertex g k.1

are_vertices : (g : Grid) → All (AreVertices g) (all_turns g)
are_vertices g =
    let three : (t : Triple) → OfEdges (IsVertex g) t → All (AreVertices g) (turns_of t) =
    λ t h. All-cons (AreVertices g) (t.a, t.b) ((t.b, t.c) ∷ (t.c, t.a) ∷ []) (h.a, h.b) (All-cons (AreVertices g) (t.b, t.c) ((t.c, t.a) ∷ []) (h.b, h.c) (All-cons (AreVertices g) (t.c, t.a) [] (h.c, h.a) (All-nil (AreVertices g)))) in
    subst (λ ks. All (AreVertices g) ks) (turns_are_all g) (all_of_flat (OfEdges (IsVertex g)) (AreVertices g) turns_of three (all_triangles g) (triangles_have_vertices g))

-- vertices with one number are one
pub one_vertex : (g : Grid) (e f : EdgeKey) → IsVertex g e → IsVertex g f → number g e ≡ number g f → e ≡ f
one_vertex g e f v w same =
    sym (numbers_are_places g e e v).1 ∙ ap (λ k. get_or (vertices g) k e) same ∙ (numbers_are_places g f e w).1

tells : (g : Grid) (x y : EdgeKey × EdgeKey) → AreVertices g x → AreVertices g y → numbered g x ≡ numbered g y → x ≡ y
tells g x y p q same =
    pair_same x.0 x.1 y.0 y.1 (one_vertex g x.0 y.0 p.0 q.0 (ap (λ (e : ℕ × ℕ). e.0) same)) (one_vertex g x.1 y.1 p.1 q.1 (ap (λ (e : ℕ × ℕ). e.1) same))

-- the directed edges of the faces are the turns of the triangles, by the numbers of the vertices
edges_are_turns : (g : Grid) → directed_edges (faces g) ≡ map (numbered g) (all_turns g)
unfolding faces
edges_are_turns g =
    flat_map-map directed_edges_of (face_among (vertices g)) (all_triangles g)
    ∙ flat_of_maps (numbered g) turns_of (all_triangles g)
    ∙ ap (map (numbered g)) (turns_are_all g)

-- ---- the law

three_differ : (g : Grid) → All IsTriangle (faces g)
unfolding faces
three_differ g =
    let Part = λ (k : EdgeKey × EdgeKey). number g k.0 ≡ number g k.1 → ⊥ in
    let vertex = are_vertices g in
    let parted : All Part (all_turns g) = λ k d within same. all_part g k d within (one_vertex g _ _ (vertex k d within).0 (vertex k d within).1 same) in
    let each = each_triangle Part (all_triangles g) (subst (λ ks. All Part ks) (sym (turns_are_all g)) parted) in
    All-map IsTriangle (face_among (vertices g)) (all_triangles g) (λ k d within. let h = each k d within in record { ab = h.0; bc = h.1; ca = h.2 })

abbrev Once : List (ℕ × ℕ) → Type 0
Once es = All (λ e. occurrences es e.0 e.1 ≡ 1) es

abbrev Back : List (ℕ × ℕ) → Type 0
Back es = All (λ e. occurrences es e.1 e.0 ≡ 1) es

-- no directed edge stands in two places
pub edges_differ : (g : Grid) → AllPairs Differ (directed_edges (faces g))
edges_differ g =
    subst (λ es. AllPairs Differ es) (sym (edges_are_turns g)) (differ_mapped (numbered g) (AreVertices g) (tells g) (all_turns g) (are_vertices g) (all_differ g))

pub edges_are_paired : EdgesArePaired
edges_are_paired g framed =
    let es = map (numbered g) (all_turns g) in
    let differ = differ_mapped (numbered g) (AreVertices g) (tells g) (all_turns g) (are_vertices g) (all_differ g) in
    let once : Once es = λ k d within. occurs_once (get_or es k d) es differ (Contains-get_or es k d within) in
    let back : Back es = All-map (λ e. occurrences es e.1 e.0 ≡ 1) (numbered g) (all_turns g) (λ k d within.
    let t = get_or (all_turns g) k d in
    occurs_once (numbered g (t.1, t.0)) es differ (in_map (numbered g) (all_turns g) (t.1, t.0) (all_made_back g framed k d within))) in
    record {
      triangles = three_differ g;
      once = subst Once (sym (edges_are_turns g)) once;
      back = subst Back (sym (edges_are_turns g)) back;
    }
