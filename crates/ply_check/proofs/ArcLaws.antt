-- The arcs opposite a vertex, and the edges that leave it.
use Rattle.std.proofs.Common.{◌≡◌, ℕ, zero, suc, ◌+◌, ◌*◌, ◌<◌, ◌≤◌, true, List, [], ◌∷◌, ◌++◌, length, get_or, drop, refl, sym, ap, arith, inl, inr, subst, ◌∙◌}
use Rattle.std.specs.Prelude.{◌⊎◌, map, All, Contains}
use Rattle.std.proofs.lemmas.Bool.{cases_eq, eq-eqb, ne_eqb}
use Rattle.std.proofs.lemmas.List.{drop_all, drop_more, get_or-map, length-map, map-append}
use Rattle.std.proofs.lemmas.List.Elements.{All-head, All-tail, Contains-append_left, Contains-append_right}
use Rattle.kuhn_cells.specs.Faces.{Face as Triple}
use Rattle.mesh_laws.specs.Closed.{IsTriangle, directed_edges, directed_edges_of}
use Rattle.mesh_laws.specs.Manifold.{arcs, arcs_at}
use Rattle.ply_check.specs.declared.arc.Arc.{Arc}
use Rattle.ply_check.specs.Arcs.{arcs_from, arcs_of, has, pairs}
use Rattle.ply_check.specs.Buckets.{from}
use Rattle.ply_check.specs.Faults.{edge}
use Rattle.ply_check.proofs.Places.{edge_by, edges_long}
use Rattle.ply_check.proofs.Sorting.{from_end, from_other, from_own}
use Rattle.fixed_ops.proofs.Lists.{head_or_tail, in_head, not_in_none}

-- ---- which arcs a face leaves

pub of_first : (u n : ℕ) (f : Triple) → f.a ≡ u → arcs_of u n f ≡ record { next = f.b; last = f.c; place = 3 * n } ∷ []
of_first u n f a = rw (eq-eqb f.a u a) refl

pub of_second : (u n : ℕ) (f : Triple) → (f.a ≡ u → ⊥) → f.b ≡ u → arcs_of u n f ≡ record { next = f.c; last = f.a; place = 3 * n + 1 } ∷ []
of_second u n f a b = rw (ne_eqb f.a u a, eq-eqb f.b u b) refl

pub of_third : (u n : ℕ) (f : Triple) → (f.a ≡ u → ⊥) → (f.b ≡ u → ⊥) → f.c ≡ u → arcs_of u n f ≡ record { next = f.a; last = f.b; place = 3 * n + 2 } ∷ []
of_third u n f a b c = rw (ne_eqb f.a u a, ne_eqb f.b u b, eq-eqb f.c u c) refl

pub of_none : (u n : ℕ) (f : Triple) → (f.a ≡ u → ⊥) → (f.b ≡ u → ⊥) → (f.c ≡ u → ⊥) → arcs_of u n f ≡ []
of_none u n f a b c = rw (ne_eqb f.a u a, ne_eqb f.b u b, ne_eqb f.c u c) refl

-- ---- without their places they are those of the mesh laws

pairs_of : (u n : ℕ) (f : Triple) → pairs (arcs_of u n f) ≡ arcs_at u f.a f.b f.c
pairs_of u n f = by (cases_eq f.a u) (cases_eq f.b u) (cases_eq f.c u)
  where
    by : (f.a ≡ u) ⊎ (f.a ≡ u → ⊥) → (f.b ≡ u) ⊎ (f.b ≡ u → ⊥) → (f.c ≡ u) ⊎ (f.c ≡ u → ⊥) → pairs (arcs_of u n f) ≡ arcs_at u f.a f.b f.c
    by (inl a) b c = rw (eq-eqb f.a u a) refl
    by (inr a) (inl b) c = rw (ne_eqb f.a u a, eq-eqb f.b u b) refl
    by (inr a) (inr b) (inl c) = rw (ne_eqb f.a u a, ne_eqb f.b u b, eq-eqb f.c u c) refl
    by (inr a) (inr b) (inr c) = rw (ne_eqb f.a u a, ne_eqb f.b u b, ne_eqb f.c u c) refl

pub pairs_from : (u n : ℕ) (fs : List Triple) → pairs (arcs_from u n fs) ≡ arcs fs u
pairs_from u n [] = refl
pairs_from u n (f ∷ fs) =
    map-append (λ (a : Arc). (a.next, a.last)) (arcs_of u n f) (arcs_from u (suc n) fs)
    ∙ (ap (λ es. es ++ pairs (arcs_from u (suc n) fs)) (pairs_of u n f) ∙ ap (λ es. arcs_at u f.a f.b f.c ++ es) (pairs_from u (suc n) fs))

-- ---- each is that of an edge from the vertex

pub record IsOf (xs : List Triple) (u n : ℕ) (a : Arc) : Type 0 where
  pub j : ℕ
  pub place : a.place ≡ 3 * n + j
  pub within : j < 3 * length xs
  pub edge : edge xs j ≡ (u, a.next)

alone : (xs ys : List Arc) (x a : Arc) → xs ≡ x ∷ [] → Contains (xs ++ ys) a → (x ≡ a) ⊎ Contains ys a
alone xs ys x a e h = head_or_tail x ys a (subst (λ (l : List Arc). Contains (l ++ ys) a) e h)

later_of : (f : Triple) (fs : List Triple) (u n : ℕ) (a : Arc) → IsOf fs u (suc n) a → IsOf (f ∷ fs) u n a
later_of f fs u n a of =
    record {
      j = suc (suc (suc of.j));
      place = omega (arith, of.place);
      within = omega (arith, of.within);
      edge = of.edge;
    }

pub arc_is_of : (xs : List Triple) (u n : ℕ) (a : Arc) → Contains (arcs_from u n xs) a → IsOf xs u n a
arc_is_of [] u n a h = absurd (not_in_none a h)
arc_is_of (f ∷ fs) u n a h = by (cases_eq f.a u) (cases_eq f.b u) (cases_eq f.c u) (λ (later : Contains (arcs_from u (suc n) fs) a). later_of f fs u n a (arc_is_of fs u (suc n) a later))
  where
    some : 0 < 3 * length (f ∷ fs)
    some = omega arith

    by : (f.a ≡ u) ⊎ (f.a ≡ u → ⊥) → (f.b ≡ u) ⊎ (f.b ≡ u → ⊥) → (f.c ≡ u) ⊎ (f.c ≡ u → ⊥)
        → (Contains (arcs_from u (suc n) fs) a → IsOf (f ∷ fs) u n a) → IsOf (f ∷ fs) u n a
    by (inl i) j k rest =
        elim (alone (arcs_of u n f) (arcs_from u (suc n) fs) _ a (of_first u n f i) h) [
          | inl same ↦ subst (IsOf (f ∷ fs) u n) same (record { j = 0; place = omega arith; within = omega arith; edge = ap (λ v. (v, f.b)) i })
          | inr later ↦ rest later
        ]
    by (inr i) (inl j) k rest =
        elim (alone (arcs_of u n f) (arcs_from u (suc n) fs) _ a (of_second u n f i j) h) [
          | inl same ↦ subst (IsOf (f ∷ fs) u n) same (record { j = 1; place = omega arith; within = omega arith; edge = ap (λ v. (v, f.c)) j })
          | inr later ↦ rest later
        ]
    by (inr i) (inr j) (inl k) rest =
        elim (alone (arcs_of u n f) (arcs_from u (suc n) fs) _ a (of_third u n f i j k) h) [
          | inl same ↦ subst (IsOf (f ∷ fs) u n) same (record { j = 2; place = omega arith; within = omega arith; edge = ap (λ v. (v, f.a)) k })
          | inr later ↦ rest later
        ]
    by (inr i) (inr j) (inr k) rest = rest (subst (λ (l : List Arc). Contains (l ++ arcs_from u (suc n) fs) a) (of_none u n f i j k) h)

-- ---- and each edge from the vertex is that of one

pub record HasArc (xs : List Triple) (u n j : ℕ) : Type 0 where
  pub arc : Arc
  pub among : Contains (arcs_from u n xs) arc
  pub place : arc.place ≡ 3 * n + j
  pub next : arc.next ≡ (edge xs j).1

head_arc : (f : Triple) (fs : List Triple) (u n j : ℕ) (a : Arc) → arcs_of u n f ≡ a ∷ [] → a.place ≡ 3 * n + j → a.next ≡ (edge (f ∷ fs) j).1 → HasArc (f ∷ fs) u n j
head_arc f fs u n j a of place next =
    record {
      arc = a;
      among = Contains-append_left (arcs_of u n f) (arcs_from u (suc n) fs) a (subst (λ (l : List Arc). Contains l a) (sym of) (in_head [] a));
      place = place;
      next = next;
    }

pub edge_has_arc : (xs : List Triple) (u n j : ℕ) → All IsTriangle xs → j < 3 * length xs → (edge xs j).0 ≡ u → HasArc xs u n j
edge_has_arc [] u n j t within from_u = absurd (omega (arith, within))
edge_has_arc (f ∷ fs) u n zero t within a = head_arc f fs u n 0 _ (of_first u n f a) (omega arith) refl
edge_has_arc (f ∷ fs) u n (suc zero) t within b =
    let d = All-head IsTriangle f fs t in
    head_arc f fs u n 1 _ (of_second u n f (λ a. d.ab (a ∙ sym b)) b) (omega arith) refl
edge_has_arc (f ∷ fs) u n (suc (suc zero)) t within c =
    let d = All-head IsTriangle f fs t in
    head_arc f fs u n 2 _ (of_third u n f (λ a. d.ca (c ∙ sym a)) (λ b. d.bc (b ∙ sym c)) c) (omega arith) refl
edge_has_arc (f ∷ fs) u n (suc (suc (suc j))) t within from_u =
    let r = edge_has_arc fs u (suc n) j (All-tail IsTriangle f fs t) (omega (arith, within)) from_u in
    record {
      arc = r.arc;
      among = Contains-append_right (arcs_of u n f) (arcs_from u (suc n) fs) r.arc r.among;
      place = omega (arith, r.place);
      next = r.next;
    }

-- ---- no more arcs than faces

pub few_arcs : (u n : ℕ) (fs : List Triple) → length (arcs_from u n fs) ≤ length fs
few_arcs u n [] = omega arith
few_arcs u n (f ∷ fs) = by (cases_eq f.a u) (cases_eq f.b u) (cases_eq f.c u) (few_arcs u (suc n) fs)
  where
    at_most : (l : List Arc) → length l ≤ 1 → length (arcs_from u (suc n) fs) ≤ length fs → length (l ++ arcs_from u (suc n) fs) ≤ length (f ∷ fs)
    at_most [] one rest = omega (arith, rest)
    at_most (x ∷ []) one rest = omega (arith, rest)
    at_most (x ∷ y ∷ l) one rest = absurd (omega (arith, one))

    by : (f.a ≡ u) ⊎ (f.a ≡ u → ⊥) → (f.b ≡ u) ⊎ (f.b ≡ u → ⊥) → (f.c ≡ u) ⊎ (f.c ≡ u → ⊥)
        → length (arcs_from u (suc n) fs) ≤ length fs → length (arcs_from u n (f ∷ fs)) ≤ length (f ∷ fs)
    by (inl i) j k rest = at_most (arcs_of u n f) (omega (arith, ap length (of_first u n f i))) rest
    by (inr i) (inl j) k rest = at_most (arcs_of u n f) (omega (arith, ap length (of_second u n f i j))) rest
    by (inr i) (inr j) (inl k) rest = at_most (arcs_of u n f) (omega (arith, ap length (of_third u n f i j k))) rest
    by (inr i) (inr j) (inr k) rest = at_most (arcs_of u n f) (omega (arith, ap length (of_none u n f i j k))) rest

-- ---- from the places of a vertex to its next face

abbrev pub keys_of : List Triple → List ℕ
keys_of fs = map (λ (e : ℕ × ℕ). e.0) (directed_edges fs)

key_by : (fs : List Triple) (d : Triple) (n k j : ℕ) → j ≡ 3 * n + k → k < 3 → n < length fs
    → get_or (keys_of fs) j 0 ≡ (get_or (directed_edges_of (get_or fs n d)) k (0, 0)).0
key_by fs d n k j at few within =
    get_or-map (λ (e : ℕ × ℕ). e.0) (directed_edges fs) j (0, 0) 0 (omega (arith, at, few, within, edges_long fs))
    ∙ ap (λ (e : ℕ × ℕ). e.0) (edge_by fs d n k j at few within)

keys_long : (fs : List Triple) → length (keys_of fs) ≡ 3 * length fs
keys_long fs = length-map (directed_edges fs) (λ (e : ℕ × ℕ). e.0) ∙ edges_long fs

pub record IsNextFace (fs : List Triple) (d : Triple) (u g : ℕ) : Type 0 where
  pub n : ℕ
  pub k : ℕ
  pub within : n < length fs
  pub few : k < 3
  pub key : get_or (keys_of fs) (3 * n + k) 0 ≡ u
  pub same : from (3 * n + k) (keys_of fs) u ≡ from (3 * g) (keys_of fs) u
  pub less : from (3 * g) (keys_of fs) u ≡ 1 + from (3 * (n + 1)) (keys_of fs) u
  pub there : has u (get_or fs n d) ≡ true
  pub arcs : arcs_from u g (drop g fs) ≡ arcs_of u n (get_or fs n d) ++ arcs_from u (n + 1) (drop (n + 1) fs)

arcs_on_from : (fs : List Triple) (d : Triple) (u g : ℕ) → g < length fs → arcs_from u g (drop g fs) ≡ arcs_of u g (get_or fs g d) ++ arcs_from u (g + 1) (drop (g + 1) fs)
arcs_on_from fs d u g within =
    let e : suc g ≡ g + 1 = omega arith in
    ap (arcs_from u g) (drop_more fs g d within) ∙ ap (λ k. arcs_of u g (get_or fs g d) ++ arcs_from u k (drop (g + 1) fs)) e

pub next_face : (fs : List Triple) (d : Triple) (u m g : ℕ) → All IsTriangle fs → g + m ≡ length fs → 0 < from (3 * g) (keys_of fs) u → IsNextFace fs d u g
next_face fs d u zero g t at some = absurd (omega (arith, some, from_end (keys_of fs) (3 * g) u (omega (arith, keys_long fs, at))))
next_face fs d u (suc m) g t at some =
    by (cases_eq f.a u) (cases_eq f.b u) (cases_eq f.c u) (λ (more : 0 < from (3 * (g + 1)) (keys_of fs) u). next_face fs d u m (g + 1) t (omega (arith, at)) more)
  where
    f : Triple
    f = get_or fs g d

    within : g < length fs
    within = omega (arith, at)

    is : IsTriangle f
    is = t g d within

    one : 3 * g < length (keys_of fs)
    one = omega (arith, within, keys_long fs)

    two : 3 * g + 1 < length (keys_of fs)
    two = omega (arith, within, keys_long fs)

    three : 3 * g + 2 < length (keys_of fs)
    three = omega (arith, within, keys_long fs)

    key_a : get_or (keys_of fs) (3 * g) 0 ≡ f.a
    key_a = key_by fs d g 0 (3 * g) (omega arith) (omega arith) within

    key_b : get_or (keys_of fs) (3 * g + 1) 0 ≡ f.b
    key_b = key_by fs d g 1 (3 * g + 1) refl (omega arith) within

    key_c : get_or (keys_of fs) (3 * g + 2) 0 ≡ f.c
    key_c = key_by fs d g 2 (3 * g + 2) refl (omega arith) within

    keys : List ℕ
    keys = keys_of fs

    e2 : (3 * g + 1) + 1 ≡ 3 * g + 2
    e2 = omega arith

    e3 : (3 * g + 2) + 1 ≡ 3 * (g + 1)
    e3 = omega arith

    e0 : 3 * g + 0 ≡ 3 * g
    e0 = omega arith

    off_a : (f.a ≡ u → ⊥) → from (3 * g) keys u ≡ from (3 * g + 1) keys u
    off_a a = from_other keys (3 * g) u one (λ h. a (sym key_a ∙ h))

    off_b : (f.b ≡ u → ⊥) → from (3 * g + 1) keys u ≡ from (3 * g + 2) keys u
    off_b b = from_other keys (3 * g + 1) u two (λ h. b (sym key_b ∙ h)) ∙ ap (λ k. from k keys u) e2

    off_c : (f.c ≡ u → ⊥) → from (3 * g + 2) keys u ≡ from (3 * (g + 1)) keys u
    off_c c = from_other keys (3 * g + 2) u three (λ h. c (sym key_c ∙ h)) ∙ ap (λ k. from k keys u) e3

    on_a : f.a ≡ u → from (3 * g) keys u ≡ 1 + from (3 * g + 1) keys u
    on_a a = from_own keys (3 * g) u one (key_a ∙ a)

    on_b : f.b ≡ u → from (3 * g + 1) keys u ≡ 1 + from (3 * g + 2) keys u
    on_b b = from_own keys (3 * g + 1) u two (key_b ∙ b) ∙ ap (λ k. 1 + from k keys u) e2

    on_c : f.c ≡ u → from (3 * g + 2) keys u ≡ 1 + from (3 * (g + 1)) keys u
    on_c c = from_own keys (3 * g + 2) u three (key_c ∙ c) ∙ ap (λ k. 1 + from k keys u) e3

    arcs_here : arcs_from u g (drop g fs) ≡ arcs_of u g f ++ arcs_from u (g + 1) (drop (g + 1) fs)
    arcs_here = arcs_on_from fs d u g within

    on : (r : IsNextFace fs d u (g + 1)) → from (3 * g) keys u ≡ from (3 * (g + 1)) keys u → arcs_of u g f ≡ [] → IsNextFace fs d u g
    on r none empty =
        record {
          n = r.n;
          k = r.k;
          within = r.within;
          few = r.few;
          key = r.key;
          same = r.same ∙ sym none;
          less = none ∙ r.less;
          there = r.there;
          arcs = arcs_here ∙ (ap (λ (l : List Arc). l ++ arcs_from u (g + 1) (drop (g + 1) fs)) empty ∙ r.arcs);
        }

    by : (f.a ≡ u) ⊎ (f.a ≡ u → ⊥) → (f.b ≡ u) ⊎ (f.b ≡ u → ⊥) → (f.c ≡ u) ⊎ (f.c ≡ u → ⊥)
        → (0 < from (3 * (g + 1)) (keys_of fs) u → IsNextFace fs d u (g + 1)) → IsNextFace fs d u g
    by (inl a) j k rest =
        record {
          n = g;
          k = 0;
          within = within;
          few = omega arith;
          key = ap (λ q. get_or keys q 0) e0 ∙ (key_a ∙ a);
          same = ap (λ q. from q keys u) e0;
          less = on_a a ∙ ap (λ n. 1 + n) (off_b (λ b. is.ab (a ∙ sym b)) ∙ off_c (λ c. is.ca (c ∙ sym a)));
          there = rw (eq-eqb f.a u a) refl;
          arcs = arcs_here;
        }
    by (inr a) (inl b) k rest =
        record {
          n = g;
          k = 1;
          within = within;
          few = omega arith;
          key = key_b ∙ b;
          same = sym (off_a a);
          less = off_a a ∙ (on_b b ∙ ap (λ n. 1 + n) (off_c (λ c. is.bc (b ∙ sym c))));
          there = rw (ne_eqb f.a u a, eq-eqb f.b u b) refl;
          arcs = arcs_here;
        }
    by (inr a) (inr b) (inl c) rest =
        record {
          n = g;
          k = 2;
          within = within;
          few = omega arith;
          key = key_c ∙ c;
          same = sym (off_a a ∙ off_b b);
          less = off_a a ∙ (off_b b ∙ on_c c);
          there = rw (ne_eqb f.a u a, ne_eqb f.b u b, eq-eqb f.c u c) refl;
          arcs = arcs_here;
        }
    by (inr a) (inr b) (inr c) rest =
        let none = off_a a ∙ (off_b b ∙ off_c c) in
        on (rest (omega (arith, some, none))) none (of_none u g f a b c)

-- where no place is left, no arc is
pub no_arcs : (fs : List Triple) (d : Triple) (u m g : ℕ) → g + m ≡ length fs → from (3 * g) (keys_of fs) u ≡ 0 → arcs_from u g (drop g fs) ≡ []
no_arcs fs d u zero g at none = ap (arcs_from u g) (drop_all g fs (omega (arith, at)))
no_arcs fs d u (suc m) g at none = by (cases_eq f.a u) (cases_eq f.b u) (cases_eq f.c u) (λ (rest : from (3 * (g + 1)) (keys_of fs) u ≡ 0). no_arcs fs d u m (g + 1) (omega (arith, at)) rest)
  where
    f : Triple
    f = get_or fs g d

    within : g < length fs
    within = omega (arith, at)

    key_a : get_or (keys_of fs) (3 * g) 0 ≡ f.a
    key_a = key_by fs d g 0 (3 * g) (omega arith) (omega arith) within

    key_b : get_or (keys_of fs) (3 * g + 1) 0 ≡ f.b
    key_b = key_by fs d g 1 (3 * g + 1) refl (omega arith) within

    key_c : get_or (keys_of fs) (3 * g + 2) 0 ≡ f.c
    key_c = key_by fs d g 2 (3 * g + 2) refl (omega arith) within

    e2 : (3 * g + 1) + 1 ≡ 3 * g + 2
    e2 = omega arith

    e3 : (3 * g + 2) + 1 ≡ 3 * (g + 1)
    e3 = omega arith

    off_a : (f.a ≡ u → ⊥) → from (3 * g) (keys_of fs) u ≡ from (3 * g + 1) (keys_of fs) u
    off_a a = from_other (keys_of fs) (3 * g) u (omega (arith, within, keys_long fs)) (λ h. a (sym key_a ∙ h))

    off_b : (f.b ≡ u → ⊥) → from (3 * g + 1) (keys_of fs) u ≡ from (3 * g + 2) (keys_of fs) u
    off_b b = from_other (keys_of fs) (3 * g + 1) u (omega (arith, within, keys_long fs)) (λ h. b (sym key_b ∙ h)) ∙ ap (λ k. from k (keys_of fs) u) e2

    off_c : (f.c ≡ u → ⊥) → from (3 * g + 2) (keys_of fs) u ≡ from (3 * (g + 1)) (keys_of fs) u
    off_c c = from_other (keys_of fs) (3 * g + 2) u (omega (arith, within, keys_long fs)) (λ h. c (sym key_c ∙ h)) ∙ ap (λ k. from k (keys_of fs) u) e3

    by : (f.a ≡ u) ⊎ (f.a ≡ u → ⊥) → (f.b ≡ u) ⊎ (f.b ≡ u → ⊥) → (f.c ≡ u) ⊎ (f.c ≡ u → ⊥)
        → (from (3 * (g + 1)) (keys_of fs) u ≡ 0 → arcs_from u (g + 1) (drop (g + 1) fs) ≡ []) → arcs_from u g (drop g fs) ≡ []
    by (inl a) j k rest = absurd (omega (arith, none, from_own (keys_of fs) (3 * g) u (omega (arith, within, keys_long fs)) (key_a ∙ a)))
    by (inr a) (inl b) k rest = absurd (omega (arith, none, off_a a, from_own (keys_of fs) (3 * g + 1) u (omega (arith, within, keys_long fs)) (key_b ∙ b)))
    by (inr a) (inr b) (inl c) rest = absurd (omega (arith, none, off_a a, off_b b, from_own (keys_of fs) (3 * g + 2) u (omega (arith, within, keys_long fs)) (key_c ∙ c)))
    by (inr a) (inr b) (inr c) rest =
        arcs_on_from fs d u g within
        ∙ (ap (λ (l : List Arc). l ++ arcs_from u (g + 1) (drop (g + 1) fs)) (of_none u g f a b c)
        ∙ rest (omega (arith, none, off_a a, off_b b, off_c c)))
