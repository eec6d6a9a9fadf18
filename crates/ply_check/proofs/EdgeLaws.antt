-- The edges at a vertex stand in its corners.
use Rattle.std.proofs.Common.{◌≡◌, ℕ, ◌+◌, ◌≤◌, Bool, true, false, List, [], ◌∷◌, ◌++◌, refl, sym, ap, arith, inl, inr, subst, cond, ◌∙◌}
use Rattle.std.specs.Prelude.{◌==◌, ◌&&◌, ◌⊎◌, All, AllPairs, Contains, count_by, map}
use Rattle.std.proofs.lemmas.Bool.{cases_eq, eq-eqb, eqb-true, ne_eqb}
use Rattle.std.proofs.lemmas.List.Elements.{All-contains, All-head, All-tail}
use Rattle.std.proofs.lemmas.List.Sums.{sum_by-append}
use Rattle.kuhn_cells.specs.Faces.{Face as Triple}
use Rattle.mesh_laws.specs.Closed.{IsTriangle, directed_edges, directed_edges_of, goes, occurrences}
use Rattle.mesh_laws.specs.Manifold.{arcs, arcs_at}
use Rattle.mesh_laws.proofs.ClosedLaws.{goes_is}
use Rattle.mesh_laws.proofs.Lists.{Differ}
use Rattle.ply_check.specs.Degrees.{arriving, leaving}
use Rattle.ply_check.specs.Verdicts.{ArePaired, IsPaired}
use Rattle.ply_check.proofs.FanLaws.{IsOneToOne, arc}
use Rattle.ply_check.proofs.Lists.{count-cons, counted, differ_by_counts, found, from_map, one_alone}
use Rattle.fixed_ops.proofs.Lists.{in_map}

-- ---- of one face

leaving_one : (u v : ℕ) (f : Triple) → IsTriangle f → leaving (arcs_at u f.a f.b f.c) v ≡ occurrences (directed_edges_of f) u v
leaving_one u v f t = by (cases_eq f.a u) (cases_eq f.b u) (cases_eq f.c u)
  where
    by : (f.a ≡ u) ⊎ (f.a ≡ u → ⊥) → (f.b ≡ u) ⊎ (f.b ≡ u → ⊥) → (f.c ≡ u) ⊎ (f.c ≡ u → ⊥)
        → leaving (arcs_at u f.a f.b f.c) v ≡ occurrences (directed_edges_of f) u v
    by (inl a) (inl b) c = absurd (t.ab (a ∙ sym b))
    by (inl a) (inr b) (inl c) = absurd (t.ca (c ∙ sym a))
    by (inr a) (inl b) (inl c) = absurd (t.bc (b ∙ sym c))
    by (inl a) (inr b) (inr c) = rw (eq-eqb f.a u a, ne_eqb f.b u b, ne_eqb f.c u c) (omega arith)
    by (inr a) (inl b) (inr c) = rw (ne_eqb f.a u a, eq-eqb f.b u b, ne_eqb f.c u c) (omega arith)
    by (inr a) (inr b) (inl c) = rw (ne_eqb f.a u a, ne_eqb f.b u b, eq-eqb f.c u c) (omega arith)
    by (inr a) (inr b) (inr c) = rw (ne_eqb f.a u a, ne_eqb f.b u b, ne_eqb f.c u c) (omega arith)

arriving_one : (u v : ℕ) (f : Triple) → IsTriangle f → arriving (arcs_at u f.a f.b f.c) v ≡ occurrences (directed_edges_of f) v u
arriving_one u v f t = by (cases_eq f.a u) (cases_eq f.b u) (cases_eq f.c u)
  where
    swap : (p q : Bool) → cond {A = ℕ} (p && q) 1 0 ≡ cond {A = ℕ} (q && p) 1 0
    swap true true = refl
    swap true false = refl
    swap false true = refl
    swap false false = refl

    edges : (a b c : Bool) → ((0 + cond {A = ℕ} ((f.a == v) && b) 1 0) + cond {A = ℕ} ((f.b == v) && c) 1 0) + cond {A = ℕ} ((f.c == v) && a) 1 0
        ≡ (cond {A = ℕ} (b && (f.a == v)) 1 0 + cond {A = ℕ} (c && (f.b == v)) 1 0) + cond {A = ℕ} (a && (f.c == v)) 1 0
    edges a b c = rw (swap (f.a == v) b, swap (f.b == v) c, swap (f.c == v) a) (omega arith)

    by : (f.a ≡ u) ⊎ (f.a ≡ u → ⊥) → (f.b ≡ u) ⊎ (f.b ≡ u → ⊥) → (f.c ≡ u) ⊎ (f.c ≡ u → ⊥)
        → arriving (arcs_at u f.a f.b f.c) v ≡ occurrences (directed_edges_of f) v u
    by (inl a) (inl b) c = absurd (t.ab (a ∙ sym b))
    by (inl a) (inr b) (inl c) = absurd (t.ca (c ∙ sym a))
    by (inr a) (inl b) (inl c) = absurd (t.bc (b ∙ sym c))
    by (inl a) (inr b) (inr c) = rw (edges (f.a == u) (f.b == u) (f.c == u), eq-eqb f.a u a, ne_eqb f.b u b, ne_eqb f.c u c) (omega arith)
    by (inr a) (inl b) (inr c) = rw (edges (f.a == u) (f.b == u) (f.c == u), ne_eqb f.a u a, eq-eqb f.b u b, ne_eqb f.c u c) (omega arith)
    by (inr a) (inr b) (inl c) = rw (edges (f.a == u) (f.b == u) (f.c == u), ne_eqb f.a u a, ne_eqb f.b u b, eq-eqb f.c u c) (omega arith)
    by (inr a) (inr b) (inr c) = rw (edges (f.a == u) (f.b == u) (f.c == u), ne_eqb f.a u a, ne_eqb f.b u b, ne_eqb f.c u c) (omega arith)

-- ---- of all faces

count-append : {A : Type 0} (p : A → Bool) (xs ys : List A) → count_by p (xs ++ ys) ≡ count_by p xs + count_by p ys
count-append p xs ys = sum_by-append (λ x. cond (p x) 1 0) xs ys

-- the edges that leave a vertex, and those that arrive
pub edges_leave : (fs : List Triple) (u v : ℕ) → All IsTriangle fs → leaving (arcs fs u) v ≡ occurrences (directed_edges fs) u v
edges_leave [] u v t = refl
edges_leave (f ∷ fs) u v t =
    let one = leaving_one u v f (All-head IsTriangle f fs t) in
    let rest = edges_leave fs u v (All-tail IsTriangle f fs t) in
    let left = count-append (λ (e : ℕ × ℕ). e.0 == v) (arcs_at u f.a f.b f.c) (arcs fs u) in
    let right = count-append (goes u v) (directed_edges_of f) (directed_edges fs) in
    omega (arith, one, rest, left, right)

pub edges_arrive : (fs : List Triple) (u v : ℕ) → All IsTriangle fs → arriving (arcs fs u) v ≡ occurrences (directed_edges fs) v u
edges_arrive [] u v t = refl
edges_arrive (f ∷ fs) u v t =
    let one = arriving_one u v f (All-head IsTriangle f fs t) in
    let rest = edges_arrive fs u v (All-tail IsTriangle f fs t) in
    let left = count-append (λ (e : ℕ × ℕ). e.1 == v) (arcs_at u f.a f.b f.c) (arcs fs u) in
    let right = count-append (goes v u) (directed_edges_of f) (directed_edges fs) in
    omega (arith, one, rest, left, right)

-- ---- where each edge is paired

pub paired_at : (fs : List Triple) (u v : ℕ) → ArePaired fs → 1 ≤ occurrences (directed_edges fs) u v → IsPaired (directed_edges fs) (u, v)
paired_at fs u v paired some =
    let r = found (goes u v) (directed_edges fs) some in
    subst (IsPaired (directed_edges fs)) (goes_is (u, v) r.0 r.2) (All-contains (IsPaired (directed_edges fs)) (directed_edges fs) r.0 paired r.1)

-- each arc at a vertex leads from an edge that leaves it to one that arrives
record HasArc (fs : List Triple) (u : ℕ) (e : ℕ × ℕ) : Type 0 where
  out : IsPaired (directed_edges fs) (u, e.0)
  home : IsPaired (directed_edges fs) (e.1, u)

has_arc : (fs : List Triple) (u : ℕ) → All IsTriangle fs → ArePaired fs → (e : ℕ × ℕ) → Contains (arcs fs u) e → HasArc fs u e
has_arc fs u t paired e at =
    let out = counted (λ (a : ℕ × ℕ). a.0 == e.0) (arcs fs u) e at (eq-eqb e.0 e.0 refl) in
    let home = counted (λ (a : ℕ × ℕ). a.1 == e.1) (arcs fs u) e at (eq-eqb e.1 e.1 refl) in
    record {
      out = paired_at fs u e.0 paired (omega (arith, out, edges_leave fs u e.0 t));
      home = paired_at fs e.1 u paired (omega (arith, home, edges_arrive fs u e.1 t));
    }

count_firsts : (es : List (ℕ × ℕ)) (v : ℕ) → count_by (λ y. y == v) (map (λ (e : ℕ × ℕ). e.0) es) ≡ leaving es v
count_firsts [] v = refl
count_firsts (e ∷ es) v =
    let rest = count_firsts es v in
    let left = count-cons (λ y. y == v) e.0 (map (λ (a : ℕ × ℕ). a.0) es) in
    let right = count-cons (λ (a : ℕ × ℕ). a.0 == v) e es in
    omega (arith, rest, left, right)

-- the arcs by their first vertices and by what comes next
pub arcs_by_next : (next : ℕ → ℕ) (es : List (ℕ × ℕ)) → All (λ (e : ℕ × ℕ). next e.0 ≡ e.1) es → map (arc next) (map (λ (e : ℕ × ℕ). e.0) es) ≡ es
arcs_by_next next [] linked = refl
arcs_by_next next (e ∷ es) linked =
    let here : next e.0 ≡ e.1 = All-head (λ (a : ℕ × ℕ). next a.0 ≡ a.1) e es linked in
    rw (here, arcs_by_next next es (All-tail (λ (a : ℕ × ℕ). next a.0 ≡ a.1) e es linked)) refl

at_most_once : (fs : List Triple) (u v : ℕ) → All IsTriangle fs → IsPaired (directed_edges fs) (u, v)
    → count_by (λ x. x == v) (map (λ (e : ℕ × ℕ). e.0) (arcs fs u)) ≤ 1
at_most_once fs u v t p = omega (arith, count_firsts (arcs fs u) v, edges_leave fs u v t, p.once)

-- no vertex is the first of two arcs
pub firsts_differ : (fs : List Triple) (u : ℕ) → All IsTriangle fs → ArePaired fs → AllPairs Differ (map (λ (e : ℕ × ℕ). e.0) (arcs fs u))
firsts_differ fs u t paired =
    differ_by_counts (map (λ (e : ℕ × ℕ). e.0) (arcs fs u)) (λ v h.
    let r = from_map (λ (e : ℕ × ℕ). e.0) (arcs fs u) v h in
    at_most_once fs u v t (subst (λ (k : ℕ). IsPaired (directed_edges fs) (u, k)) r.2 (has_arc fs u t paired r.0 r.1).out))

-- The arcs at a vertex of paired edges lead each vertex to the next.
pub arcs_are_one_to_one : (fs : List Triple) (u : ℕ) (next : ℕ → ℕ) → All IsTriangle fs → ArePaired fs
    → All (λ (e : ℕ × ℕ). next e.0 ≡ e.1) (arcs fs u) → IsOneToOne next (map (λ (e : ℕ × ℕ). e.0) (arcs fs u))
arcs_are_one_to_one fs u next t paired linked =
    record {
      differ = firsts_differ fs u t paired;
      stays = stays;
      apart = λ y z at_y at_z same.
          let r = from_map (λ (e : ℕ × ℕ). e.0) (arcs fs u) y at_y in
          let s = from_map (λ (e : ℕ × ℕ). e.0) (arcs fs u) z at_z in
          let e = follows r.0 y r.1 r.2 in
          let f = follows s.0 z s.1 s.2 in
          let one : arriving (arcs fs u) (next y) ≡ 1 =
          edges_arrive fs u (next y) t
          ∙ (subst (λ (k : ℕ). IsPaired (directed_edges fs) (k, u)) (sym e) (has_arc fs u t paired r.0 r.1).home).once in
          let alike = one_alone (λ (a : ℕ × ℕ). a.1 == next y) (arcs fs u) r.0 s.0 one r.1 s.1 (eq-eqb r.0.1 (next y) (sym e)) (eq-eqb s.0.1 (next y) (sym f ∙ sym same)) in
          sym r.2 ∙ (ap (λ (a : ℕ × ℕ). a.0) alike ∙ s.2);
    }
  where
    follows : (e : ℕ × ℕ) (y : ℕ) → Contains (arcs fs u) e → e.0 ≡ y → next y ≡ e.1
    follows e y at same = ap next (sym same) ∙ All-contains (λ (a : ℕ × ℕ). next a.0 ≡ a.1) (arcs fs u) e linked at

    stays : (y : ℕ) → Contains (map (λ (e : ℕ × ℕ). e.0) (arcs fs u)) y → Contains (map (λ (e : ℕ × ℕ). e.0) (arcs fs u)) (next y)
    stays y h =
        let r = from_map (λ (e : ℕ × ℕ). e.0) (arcs fs u) y h in
        let e = follows r.0 y r.1 r.2 in
        let back = (has_arc fs u t paired r.0 r.1).home.back in
        let s = found (λ (a : ℕ × ℕ). a.0 == r.0.1) (arcs fs u) (omega (arith, edges_leave fs u r.0.1 t, back)) in
        subst (Contains (map (λ (a : ℕ × ℕ). a.0) (arcs fs u))) (eqb-true s.0.0 r.0.1 s.2 ∙ sym e) (in_map (λ (a : ℕ × ℕ). a.0) (arcs fs u) s.0 s.1)
