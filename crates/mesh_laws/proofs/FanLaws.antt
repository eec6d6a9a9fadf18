-- The mesh of each grid is a manifold.
use Rattle.std.proofs.Common.{◌≡◌, ℕ, zero, suc, ◌+◌, ◌-◌, ◌<◌, ◌≤◌, Bool, true, false, cond, List, [], ◌∷◌, length, refl, arith, ap, sym, subst, ◌∙◌, inl, inr}
use Rattle.std.specs.Prelude.{◌==◌, ◌⊎◌, map, flat_map, get_or, All, AllPairs, Contains, if◌then◌else◌}
use Rattle.std.specs.List.{list_all}
use Rattle.std.proofs.lemmas.Bool.{agree_below_at, and_parts, cases_order, eqb-true, leb-true}
use Rattle.std.proofs.lemmas.List.{length-map, map-id}
use Rattle.std.proofs.lemmas.List.Elements.{All-cons, All-contains, All-head, All-map, All-nil, All-tail, All-weaker, Contains-append_right, Contains-get_or}
use Rattle.std.proofs.lemmas.List.Kept.{AllPairs-cons}
use Rattle.std.proofs.lemmas.List.Sums.{AllPass-from_list_all, sum_by-append, sum_by-cons}
use Rattle.kuhn_cells.specs.declared.edge_key.EdgeKey.{EdgeKey}
use Rattle.kuhn_cells.specs.Arrangement.{differ}
use Rattle.kuhn_cells.specs.Faces.{Face, all_triangles, faces}
use Rattle.kuhn_cells.specs.Grids.{Grid, is_inside_at, lower, upper, vertices}
use Rattle.kuhn_cells.specs.Laws.{IsBefore, IsDirection, IsVertex}
use Rattle.kuhn_cells.specs.Triangles.{GridPoint, further}
use Rattle.kuhn_cells.proofs.FaceLaws.{numbers_are_places}
use Rattle.kuhn_cells.proofs.OrderLaws.{vertices_rise}
use Rattle.kuhn_cells.proofs.VertexLaws.{vertices_are_mixed_edges}
use Rattle.mesh_laws.specs.Closed.{directed_edges, directed_edges_of, goes, occurrences}
use Rattle.mesh_laws.specs.Frames.{IsFramed}
use Rattle.mesh_laws.specs.Laws.{HaveOneCycle}
use Rattle.mesh_laws.specs.Manifold.{HasFan, arcs, arcs_at, arcs_on, cycle_arcs}
use Rattle.mesh_laws.proofs.ClosedLaws.{differ_mapped, edges_differ, goes_itself, none_goes, number, one_vertex}
use Rattle.mesh_laws.proofs.FanArcs.{IsNearVertex, arc_found, arcs_are, arcs_are_near, ends_are_points, fan_arcs, near_arcs, near_are_arcs, near_vertices, triangle_arcs, value_of}
use Rattle.mesh_laws.proofs.Fans.{both_by, cell_back, key_near, number_near, own_spot, sign_is, spot, spot_is}
use Rattle.mesh_laws.proofs.Lists.{Differ, differ_by, distinct}
use Rattle.mesh_laws.proofs.Rings.{all_signs_at, always_fan, cycle_of, fans_round, has_arc, has_fan, is_fan, offset, points, sign_in}
use Rattle.fixed_ops.proofs.Lists.{first_before, head_or_tail, in_map, not_in_none, rest_in_order}
use Rattle.kuhn_cells.proofs.EdgeLaws.{implied}

-- ---- how often arcs occur

pub at_most_once : (fs : List (ℕ × ℕ)) (v w : ℕ) → AllPairs Differ fs → occurrences fs v w ≤ 1
at_most_once [] v w h = omega arith
at_most_once (f ∷ fs) v w h =
    subst (λ (n : ℕ). n ≤ 1) (sym (sum_by-cons (λ x. cond (goes v w x) 1 0) f fs)) (by (goes v w f) refl (at_most_once fs v w (rest_in_order Differ f fs h)))
  where
    by : (b : Bool) → goes v w f ≡ b → occurrences fs v w ≤ 1 → cond b 1 0 + occurrences fs v w ≤ 1
    by true is rest =
        let p = and_parts _ _ is in
        let same : f ≡ (v, w) = rw (eqb-true f.0 v p.0, eqb-true f.1 w p.1) refl in
        let none = none_goes (v, w) fs (subst (λ (x : ℕ × ℕ). All (Differ x) fs) same (first_before Differ f fs h)) in
        omega (arith, none)
    by false is rest = omega (arith, rest)

pub occurs : (fs : List (ℕ × ℕ)) (v w : ℕ) → 1 ≤ occurrences fs v w → Contains fs (v, w)
occurs [] v w h = absurd (omega (arith, h))
occurs (f ∷ fs) v w h =
    by (goes v w f) refl (subst (λ (n : ℕ). 1 ≤ n) (sum_by-cons (λ x. cond (goes v w x) 1 0) f fs) h) (λ k. occurs fs v w k)
  where
    by : (b : Bool) → goes v w f ≡ b → 1 ≤ cond b 1 0 + occurrences fs v w → (1 ≤ occurrences fs v w → Contains fs (v, w)) → Contains (f ∷ fs) (v, w)
    by true is some next = let p = and_parts _ _ is in (0, omega arith, rw (eqb-true f.0 v p.0, eqb-true f.1 w p.1) refl)
    by false is some next = Contains-append_right (f ∷ []) fs (v, w) (next (omega (arith, some)))

pub counted : (fs : List (ℕ × ℕ)) (v w : ℕ) → Contains fs (v, w) → 1 ≤ occurrences fs v w
counted [] v w h = absurd (not_in_none (v, w) h)
counted (f ∷ fs) v w h =
    subst (λ (n : ℕ). 1 ≤ n) (sym (sum_by-cons (λ x. cond (goes v w x) 1 0) f fs)) (by (head_or_tail f fs (v, w) h) (λ k. counted fs v w k))
  where
    by : (f ≡ (v, w)) ⊎ Contains fs (v, w) → (Contains fs (v, w) → 1 ≤ occurrences fs v w) → 1 ≤ cond (goes v w f) 1 0 + occurrences fs v w
    by (inl same) next = let here : goes v w f ≡ true = ap (goes v w) same ∙ goes_itself (v, w) in rw here (omega arith)
    by (inr later) next = let some = next later in omega (arith, some)

same_count : (a b : ℕ) → a ≤ 1 → b ≤ 1 → (1 ≤ a → 1 ≤ b) → (1 ≤ b → 1 ≤ a) → a ≡ b
same_count zero zero p q there back = refl
same_count zero (suc b) p q there back = let some = back (omega arith) in absurd (omega (arith, some))
same_count (suc a) zero p q there back = let some = there (omega arith) in absurd (omega (arith, some))
same_count (suc a) (suc b) p q there back = omega (arith, p, q)

-- the arcs are among the directed edges
fewer_at : (u v w a b c : ℕ) → occurrences (arcs_at u a b c) v w ≤ occurrences ((a, b) ∷ (b, c) ∷ (c, a) ∷ []) v w
fewer_at u v w a b c = by (a == u) (b == u) (c == u)
  where
    by : (p q r : Bool) → occurrences (if p then (b, c) ∷ [] else (if q then (c, a) ∷ [] else (if r then (a, b) ∷ [] else []))) v w ≤ occurrences ((a, b) ∷ (b, c) ∷ (c, a) ∷ []) v w
    by true q r = omega arith
    by false true r = omega arith
    by false false true = omega arith
    by false false false = omega arith

fewer : (fs : List Face) (u v w : ℕ) → occurrences (arcs fs u) v w ≤ occurrences (directed_edges fs) v w
fewer [] u v w = omega arith
fewer (f ∷ fs) u v w =
    let count = λ (x : ℕ × ℕ). cond (goes v w x) 1 0 in
    let here = sum_by-append count (arcs_at u f.a f.b f.c) (arcs fs u) in
    let there = sum_by-append count (directed_edges_of f) (directed_edges fs) in
    let first = fewer_at u v w f.a f.b f.c in
    let rest = fewer fs u v w in
    rw (here, there) (omega (arith, first, rest))

-- ---- cycles

sources : (first v : ℕ) (ws : List ℕ) → map (λ (a : ℕ × ℕ). a.0) (arcs_on first v ws) ≡ v ∷ ws
sources first v [] = refl
sources first v (w ∷ ws) = ap (λ xs. v ∷ xs) (sources first w ws)

pub cycle_sources : (c : List ℕ) → map (λ (a : ℕ × ℕ). a.0) (cycle_arcs c) ≡ c
cycle_sources [] = refl
cycle_sources (v ∷ vs) = sources v v vs

arcs_mapped : (f : ℕ → ℕ) (first v : ℕ) (ws : List ℕ) → arcs_on (f first) (f v) (map f ws) ≡ map (both_by f) (arcs_on first v ws)
arcs_mapped f first v [] = refl
arcs_mapped f first v (w ∷ ws) = ap (λ xs. (f v, f w) ∷ xs) (arcs_mapped f first w ws)

cycle_mapped : (f : ℕ → ℕ) (c : List ℕ) → cycle_arcs (map f c) ≡ map (both_by f) (cycle_arcs c)
cycle_mapped f [] = refl
cycle_mapped f (v ∷ vs) = arcs_mapped f v v vs

pub unmapped : {A B : Type 0} (P : B → Type 0) (f : A → B) (xs : List A) → All P (map f xs) → All (λ x. P (f x)) xs
unmapped P f [] h = All-nil (λ x. P (f x))
unmapped P f (x ∷ xs) h = All-cons (λ x. P (f x)) x xs (All-head P (f x) (map f xs) h) (unmapped P f xs (All-tail P (f x) (map f xs) h))

differ_from : {A B : Type 0} (f : A → B) (xs : List A) → AllPairs Differ (map f xs) → AllPairs Differ xs
differ_from f [] h = λ i j d less within. absurd (omega (arith, within))
differ_from f (x ∷ xs) h =
    AllPairs-cons Differ x xs (All-weaker (λ y. Differ (f x) (f y)) (Differ x) (λ y differ same. differ (ap f same)) xs (unmapped (Differ (f x)) f xs (first_before Differ (f x) (map f xs) h))) (differ_from f xs (rest_in_order Differ (f x) (map f xs) h))

-- ---- the fan of a vertex

no_way : (l : GridPoint) → cell_back l 0 ≡ l
no_way l = let x : l.x - 0 ≡ l.x = omega arith in let y : l.y - 0 ≡ l.y = omega arith in let z : l.z - 0 ≡ l.z = omega arith in rw (x, y, z) refl

upper_spot : (e : EdgeKey) → spot (lower e) (offset 0 e.dir) ≡ upper e
upper_spot e =
    spot_is (lower e) 0 e.dir (record { x = omega arith; y = omega arith; z = omega arith }) ∙ ap (λ (l : GridPoint). further l e.dir) (no_way (lower e))

fans_at : (dir : ℕ) → IsDirection dir → fans_round (points dir) dir ≡ true
fans_at zero h = let some = h.some in absurd (omega (arith, some))
fans_at (suc k) h = let few = h.within in agree_below_at (λ k. fans_round (points (suc k)) (suc k)) (λ _. true) 7 k always_fan (omega (arith, few))

fan_at : (g : Grid) (e : EdgeKey) → IsVertex g e → is_fan (near_arcs g e) ≡ true
unfolding fans_round has_fan
fan_at g e v =
    let os = points e.dir in
    let s = λ (o : ℕ). is_inside_at g (spot (lower e) o) in
    let h = all_signs_at os (has_fan e.dir os) s (fans_at e.dir v.direction) in
    let ends = ends_are_points e.dir v.direction in
    let low = sign_is os s 13 ends.0 ∙ ap (is_inside_at g) (own_spot (lower e)) in
    let high = sign_is os s (offset 0 e.dir) ends.1 ∙ ap (is_inside_at g) (upper_spot e) in
    implied (differ (sign_in os (map s os) 13) (sign_in os (map s os) (offset 0 e.dir))) (is_fan (near_arcs g e)) h (rw (low, high) v.mixed)

has_all : (es fs : List (ℕ × ℕ)) → list_all (has_arc es) fs ≡ true → All (Contains es) fs
has_all es fs h = All-weaker (λ a. has_arc es a ≡ true) (Contains es) (λ a k. arc_found es a k) fs (AllPass-from_list_all (has_arc es) fs h)

-- what the check says of the cycle
record IsCycleOf (es : List (ℕ × ℕ)) (c : List ℕ) : Type 0 where
  long : 3 ≤ length c
  differ : AllPairs Differ c
  all : All (Contains (cycle_arcs c)) es
  only : All (Contains es) (cycle_arcs c)

cycle_at : (es : List (ℕ × ℕ)) → is_fan es ≡ true → IsCycleOf es (cycle_of es)
unfolding is_fan
cycle_at es h =
    let c = cycle_of es in
    let first = and_parts _ _ h in
    let second = and_parts _ _ first.1 in
    let third = and_parts _ _ second.1 in
    record {
      long = leb-true _ _ first.0;
      differ = differ_by (λ k. k) c (ap distinct (map-id c) ∙ second.0);
      all = has_all (cycle_arcs c) es third.0;
      only = has_all es (cycle_arcs c) third.1;
    }

fan_of : (g : Grid) (e : EdgeKey) → IsFramed g → IsVertex g e → HasFan (faces g) (number g e)
unfolding value_of
fan_of g e framed v =
    let es = near_arcs g e in
    let c = cycle_of es in
    let is = cycle_at es (fan_at g e v) in
    let f = value_of g e in
    let u = number g e in
    let cycle = map f c in
    let faced = flat_map (triangle_arcs g u) (all_triangles g) in
    let near = near_vertices g e framed v in
    let Near = IsNearVertex g e in
    let starts : All (λ a. Near a.0) (cycle_arcs c) = All-weaker (Contains es) (λ a. Near a.0) (λ a h. All-contains (λ a. Near a.0) es a near h) (cycle_arcs c) is.only in
    let all_near : All Near c = subst (λ (xs : List ℕ). All Near xs) (cycle_sources c) (All-map Near (λ (a : ℕ × ℕ). a.0) (cycle_arcs c) starts) in
    let tells : (x y : ℕ) → Near x → Near y → f x ≡ f y → x ≡ y = λ x y p q same. sym p.same ∙ ap (number_near (lower e)) (one_vertex g (key_near (lower e) x) (key_near (lower e) y) p.vertex q.vertex same) ∙ q.same in
    let differ = differ_mapped f Near tells c all_near is.differ in
    let arcs_differ = differ_from (λ (a : ℕ × ℕ). a.0) (cycle_arcs cycle) (subst (λ (xs : List ℕ). AllPairs Differ xs) (sym (cycle_sources cycle)) differ) in
    let mapped = cycle_mapped f c in
    let there : All (Contains (cycle_arcs cycle)) (fan_arcs g e) =
    All-map (Contains (cycle_arcs cycle)) (both_by f) es (All-weaker (Contains (cycle_arcs c)) (λ a. Contains (cycle_arcs cycle) (both_by f a)) (λ a h. subst (λ (xs : List (ℕ × ℕ)). Contains xs (both_by f a)) (sym mapped) (in_map (both_by f) (cycle_arcs c) a h)) es is.all) in
    let back : All (Contains faced) (cycle_arcs cycle) =
    subst (λ (xs : List (ℕ × ℕ)). All (Contains faced) xs) (sym mapped) (All-map (Contains faced) (both_by f) (cycle_arcs c) (All-weaker (Contains es) (λ a. Contains faced (both_by f a)) (λ a h. All-contains (λ a. Contains faced (both_by f a)) es a (near_are_arcs g e framed v) h) (cycle_arcs c) is.only)) in
    record {
      cycle = cycle;
      long = subst (λ (n : ℕ). 3 ≤ n) (sym (length-map c f)) is.long;
      differ = differ;
      exact = λ w x.
          let once = at_most_once (directed_edges (faces g)) w x (edges_differ g) in
          let few = fewer (faces g) u w x in
          same_count (occurrences (arcs (faces g) u) w x) (occurrences (cycle_arcs cycle) w x) (omega (arith, once, few)) (at_most_once (cycle_arcs cycle) w x arcs_differ)
          (λ h. counted (cycle_arcs cycle) w x (All-contains (Contains (cycle_arcs cycle)) (fan_arcs g e) (w, x) there (All-contains (Contains (fan_arcs g e)) faced (w, x) (arcs_are_near g e v) (subst (λ (xs : List (ℕ × ℕ)). Contains xs (w, x)) (arcs_are g u) (occurs (arcs (faces g) u) w x h)))))
          (λ h. counted (arcs (faces g) u) w x (subst (λ (xs : List (ℕ × ℕ)). Contains xs (w, x)) (sym (arcs_are g u)) (All-contains (Contains faced) (cycle_arcs cycle) (w, x) back (occurs (cycle_arcs cycle) w x h))));
    }

-- ---- each number of a vertex

not_before_itself : (e : EdgeKey) → IsBefore e e → ⊥
not_before_itself e (inl h) = omega (arith, h)
not_before_itself e (inr (_, inl h)) = omega (arith, h)
not_before_itself e (inr (_, inr (_, inl h))) = omega (arith, h)
not_before_itself e (inr (_, inr (_, inr (_, h)))) = omega (arith, h)

own_place : (g : Grid) (u : ℕ) (d : EdgeKey) → u < length (vertices g) → IsVertex g (get_or (vertices g) u d) → number g (get_or (vertices g) u d) ≡ u
own_place g u d few v = by (cases_order (number g (get_or (vertices g) u d)) u)
  where
    here : (number g (get_or (vertices g) u d) < length (vertices g)) × (get_or (vertices g) (number g (get_or (vertices g) u d)) d ≡ get_or (vertices g) u d)
    here = numbers_are_places g (get_or (vertices g) u d) d v

    by : (number g (get_or (vertices g) u d) ≡ u) ⊎ ((number g (get_or (vertices g) u d) < u) ⊎ (u < number g (get_or (vertices g) u d))) → number g (get_or (vertices g) u d) ≡ u
    by (inl same) = same
    by (inr (inl less)) =
        absurd (not_before_itself (get_or (vertices g) u d) (subst (λ (x : EdgeKey). IsBefore x (get_or (vertices g) u d)) here.1 (vertices_rise g (number g (get_or (vertices g) u d)) u d less few)))
    by (inr (inr more)) =
        absurd (not_before_itself (get_or (vertices g) u d) (subst (λ (x : EdgeKey). IsBefore (get_or (vertices g) u d) x) here.1 (vertices_rise g u (number g (get_or (vertices g) u d)) d more here.0)))

pub have_one_cycle : HaveOneCycle
have_one_cycle g framed u few =
    let d : EdgeKey = record { x = 0; y = 0; z = 0; dir = 0 } in
    let e = get_or (vertices g) u d in
    let v = (vertices_are_mixed_edges g e).0 (Contains-get_or (vertices g) u d few) in
    subst (HasFan (faces g)) (own_place g u d few v) (fan_of g e framed v)
