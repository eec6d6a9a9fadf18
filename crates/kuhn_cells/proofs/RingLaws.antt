-- A list of tetrahedra goes round an edge: a test that computes.
use Rattle.std.proofs.Common.{◌≡◌, ℕ, zero, suc, ◌+◌, ◌<◌, ◌≤◌, Bool, true, List, [], ◌∷◌, refl, arith, sym, subst, ◌∙◌, inl, inr}
use Rattle.std.specs.Prelude.{◌==◌, ◌&&◌, ◌||◌, ◌⊎◌, not, nat_le, nat_lt, map, get_or, AllPairs, Contains}
use Rattle.std.specs.List.{list_all, list_any}
use Rattle.std.specs.Ordering.{int_eq}
use Rattle.std.proofs.lemmas.Bool.{agree_below, agree_below_at, and_from, and_parts, both_ways, eq-eqb, eqb-true, false≢true, leb-true, ltb-true, not-true, or_cases, or_left, or_right}
use Rattle.std.proofs.lemmas.Bool.Decides.{Decides-int_eq}
use Rattle.std.proofs.lemmas.List.Elements.{All-weaker, Contains-append_right}
use Rattle.std.proofs.lemmas.List.Kept.{AllPairs-cons}
use Rattle.std.proofs.lemmas.List.Sums.{AllPass-from_list_all}
use Rattle.kuhn_cells.specs.Arrangement.{positions}
use Rattle.kuhn_cells.specs.Corners.{corner}
use Rattle.kuhn_cells.specs.Rings.{HasEdge, IsRing, in_turn, sides}
use Rattle.kuhn_cells.specs.Vectors.{Vector}
use Rattle.fixed_ops.proofs.Lists.{head_or_tail, not_in_none}
use Rattle.kuhn_cells.proofs.EdgeLaws.{implied}

-- ---- elements of a list

contained : {A : Type 0} (same : A → A → Bool) → ((x y : A) → same x y ≡ true → y ≡ x) → (x : A) (xs : List A) → list_any (same x) xs ≡ true → Contains xs x
contained same tells x [] h = absurd (false≢true h)
contained same tells x (y ∷ ys) h = by (or_cases _ _ h) (λ k. contained same tells x ys k)
  where
    by : (same x y ≡ true) ⊎ (list_any (same x) ys ≡ true) → (list_any (same x) ys ≡ true → Contains ys x) → Contains (y ∷ ys) x
    by (inl here) next = (0, omega arith, tells x y here)
    by (inr later) next = Contains-append_right (y ∷ []) ys x (next later)

listed : {A : Type 0} (same : A → A → Bool) → ((x : A) → same x x ≡ true) → (x : A) (xs : List A) → Contains xs x → list_any (same x) xs ≡ true
listed same itself x [] h = absurd (not_in_none x h)
listed {A} same itself x (y ∷ ys) h = by (head_or_tail y ys x h) (λ k. listed same itself x ys k)
  where
    by : (y ≡ x) ⊎ Contains ys x → (Contains ys x → list_any (same x) ys ≡ true) → (same x y || list_any (same x) ys) ≡ true
    by (inl here) next = or_left _ _ (subst (λ z. same x z ≡ true) (sym here) (itself x))
    by (inr later) next = or_right _ _ (next later)

abbrev pub same_number : ℕ → ℕ → Bool
same_number x y = y == x

abbrev pub same_pair : ℕ × ℕ → ℕ × ℕ → Bool
same_pair m n = n.0 == m.0 && n.1 == m.1

pair_tells : (m n : ℕ × ℕ) → same_pair m n ≡ true → n ≡ m
pair_tells m n h = let p = and_parts _ _ h in rw (eqb-true n.0 m.0 p.0, eqb-true n.1 m.1 p.1) refl

number_tells : (x y : ℕ) → same_number x y ≡ true → y ≡ x
number_tells x y h = eqb-true y x h

number_itself : (x : ℕ) → same_number x x ≡ true
number_itself x = eq-eqb x x refl

pair_itself : (m : ℕ × ℕ) → same_pair m m ≡ true
pair_itself m = and_from _ _ (eq-eqb m.0 m.0 refl) (eq-eqb m.1 m.1 refl)

-- ---- the test

abbrev pub corners_of : ℕ → List ℕ
corners_of tetra = map (corner tetra) positions

abbrev pub has_edge : ℕ → ℕ × ℕ → Bool
has_edge dir m = nat_lt m.1 6 && (list_any (same_number m.0) (corners_of m.1) && list_any (same_number (m.0 + dir)) (corners_of m.1))

abbrev pub is_listed : ℕ → List (ℕ × ℕ) → ℕ → ℕ → Bool
is_listed dir ms tetra k = not (list_any (same_number (corner tetra k + dir)) (corners_of tetra)) || list_any (same_pair (corner tetra k, tetra)) ms

abbrev pub are_apart : List (ℕ × ℕ) → Bool
are_apart [] = true
are_apart (m ∷ ms) = list_all (λ n. not (same_pair n m)) ms && are_apart ms

abbrev pub same_vector : Vector → Vector → Bool
same_vector v w = int_eq v.x w.x && (int_eq v.y w.y && int_eq v.z w.z)

abbrev pub yes : ℕ → Bool
yes k = true

abbrev pub is_least : List (ℕ × ℕ) → ℕ × ℕ → Bool
is_least ms m = nat_le (get_or ms 0 m).1 m.1

abbrev pub goes_round : ℕ → List (ℕ × ℕ) → Bool
goes_round dir ms =
    list_all (has_edge dir) ms
    && (agree_below (λ tetra. agree_below (is_listed dir ms tetra) yes 4) yes 6
    && (are_apart ms
    && (list_all (λ p. same_vector (sides dir p.0).1 (sides dir p.1).0) (in_turn ms)
    && list_all (is_least ms) ms)))

-- ---- what it tells

edge_of : (dir : ℕ) (m : ℕ × ℕ) → has_edge dir m ≡ true → HasEdge dir m
edge_of dir m h =
    let first = and_parts _ _ h in
    let second = and_parts _ _ first.1 in
    record {
      few = ltb-true _ _ first.0;
      start = contained same_number number_tells m.0 (map (corner m.1) positions) second.0;
      end = contained same_number number_tells (m.0 + dir) (map (corner m.1) positions) second.1;
    }

corner_is : (tetra k d : ℕ) → k < 4 → get_or (map (corner tetra) positions) k d ≡ corner tetra k
corner_is tetra zero d few = refl
corner_is tetra (suc zero) d few = refl
corner_is tetra (suc (suc zero)) d few = refl
corner_is tetra (suc (suc (suc zero))) d few = refl
corner_is tetra (suc (suc (suc (suc k)))) d few = absurd (omega (arith, few))

all_of : (dir : ℕ) (ms : List (ℕ × ℕ)) → agree_below (λ tetra. agree_below (is_listed dir ms tetra) yes 4) yes 6 ≡ true → (m : ℕ × ℕ) → HasEdge dir m → Contains ms m
all_of dir ms h m edge =
    let k = edge.start.0 in
    let few : k < 4 = omega (arith, edge.start.1) in
    let at : corner m.1 k ≡ m.0 = sym (corner_is m.1 k m.0 few) ∙ edge.start.2 in
    let checked = agree_below_at (is_listed dir ms m.1) yes 4 k (agree_below_at (λ tetra. agree_below (is_listed dir ms tetra) yes 4) yes 6 m.1 h edge.few) few in
    let ends : list_any (same_number (corner m.1 k + dir)) (map (corner m.1) positions) ≡ true =
    subst (λ (c : ℕ). list_any (same_number (c + dir)) (map (corner m.1) positions) ≡ true) (sym at) (listed same_number number_itself (m.0 + dir) (map (corner m.1) positions) edge.end) in
    let found = contained same_pair pair_tells (corner m.1 k, m.1) ms (implied _ _ checked ends) in
    subst (λ (c : ℕ). Contains ms (c, m.1)) at found

apart_of : (ms : List (ℕ × ℕ)) → are_apart ms ≡ true → AllPairs (λ m n. m ≡ n → ⊥) ms
apart_of [] h = λ i j d less within. absurd (omega (arith, within))
apart_of (m ∷ ms) h =
    let first = and_parts _ _ h in
    AllPairs-cons (λ m n. m ≡ n → ⊥) m ms (All-weaker (λ n. not (same_pair n m) ≡ true) (λ n. m ≡ n → ⊥) (λ n k same. both_ways (same_pair n m) (not-true _ k) (subst (λ (x : ℕ × ℕ). same_pair n x ≡ true) (sym same) (pair_itself n))) ms (AllPass-from_list_all (λ n. not (same_pair n m)) ms first.0)) (apart_of ms first.1)

vector_of : (v w : Vector) → same_vector v w ≡ true → v ≡ w
vector_of v w h =
    let x = and_parts _ _ h in
    let y = and_parts _ _ x.1 in
    rw ((Decides-int_eq v.x w.x).0 x.0, (Decides-int_eq v.y w.y).0 y.0, (Decides-int_eq v.z w.z).0 y.1) refl

pub is_ring : (dir : ℕ) (ms : List (ℕ × ℕ)) → goes_round dir ms ≡ true → IsRing dir ms
is_ring dir ms h =
    let first = and_parts _ _ h in
    let second = and_parts _ _ first.1 in
    let third = and_parts _ _ second.1 in
    let fourth = and_parts _ _ third.1 in
    record {
      edges = All-weaker (λ m. has_edge dir m ≡ true) (HasEdge dir) (edge_of dir) ms (AllPass-from_list_all (has_edge dir) ms first.0);
      all = all_of dir ms second.0;
      once = apart_of ms third.0;
      turn = All-weaker (λ p. same_vector (sides dir p.0).1 (sides dir p.1).0 ≡ true) (λ p. (sides dir p.0).1 ≡ (sides dir p.1).0) (λ p k. vector_of _ _ k) (in_turn ms) (AllPass-from_list_all (λ p. same_vector (sides dir p.0).1 (sides dir p.1).0) (in_turn ms) fourth.0);
      least = All-weaker (λ m. is_least ms m ≡ true) (λ m. (get_or ms 0 m).1 ≤ m.1) (λ m k. leb-true _ _ k) ms (AllPass-from_list_all (is_least ms) ms fourth.1);
    }

pub ring_is : (dir n : ℕ) (ms ns : List (ℕ × ℕ)) → dir ≡ n → ms ≡ ns → goes_round n ns ≡ true → IsRing dir ms
ring_is dir n ms ns at is h =
    subst (λ (d : ℕ). IsRing d ms) (sym at) (subst (λ (rs : List (ℕ × ℕ)). IsRing n rs) (sym is) (is_ring n ns h))
