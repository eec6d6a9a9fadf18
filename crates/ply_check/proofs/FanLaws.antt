-- When a walk goes round a fan.
use Rattle.std.proofs.Common.{◌≡◌, ℕ, zero, suc, ◌+◌, ◌-◌, ◌<◌, ◌≤◌, Bool, true, false, List, [], ◌∷◌, length, refl, sym, ap, arith, inl, inr, subst, cond, ◌∙◌}
use Rattle.std.specs.Prelude.{◌==◌, ◌&&◌, ◌⊎◌, All, AllPairs, Contains, count_by, map}
use Rattle.std.proofs.lemmas.Bool.{cases_Bool, cases_eq, cases_lt, ne_eqb}
use Rattle.std.proofs.lemmas.List.Elements.{All-cons, All-contains, All-nil}
use Rattle.mesh_laws.specs.Closed.{goes, occurrences}
use Rattle.mesh_laws.specs.Manifold.{arcs_on, cycle_arcs}
use Rattle.mesh_laws.proofs.ClosedLaws.{goes_is, goes_itself}
use Rattle.mesh_laws.proofs.FanLaws.{cycle_sources}
use Rattle.mesh_laws.proofs.Lists.{Differ}
use Rattle.ply_check.proofs.Lists.{all_in, count-cons, count-none, count-once, counted, found, from_map, has_all, in_or_not, no_longer}
use Rattle.ply_check.specs.Walks.{IsNotBack, stepped}
use Rattle.ply_check.proofs.Walks.{length-walk, on_walk, one_more, walk, walk_differs, walk_has}
use Rattle.fixed_ops.proofs.Lists.{head_or_tail, in_head, in_map, in_tail, not_in_none}

-- the arc from a number to the next
abbrev pub arc : (ℕ → ℕ) → ℕ → ℕ × ℕ
arc next y = (y, next y)

-- Numbers, each of which leads to the next: none stands twice, the next of each is one of them, and no
-- two have the same next one.
pub record IsOneToOne (next : ℕ → ℕ) (ys : List ℕ) : Type 0 where
  pub differ : AllPairs Differ ys
  pub stays : (y : ℕ) → Contains ys y → Contains ys (next y)
  pub apart : (y z : ℕ) → Contains ys y → Contains ys z → next y ≡ next z → y ≡ z

-- ---- a walk

pub stays_in : (next : ℕ → ℕ) (ys : List ℕ) → IsOneToOne next ys → (n x : ℕ) → Contains ys x → Contains ys (stepped next n x)
stays_in next ys one zero x h = h
stays_in next ys one (suc n) x h = stays_in next ys one n (next x) (one.stays x h)

-- where two places of a walk are the same, it has come back to its start
comes_back : (next : ℕ → ℕ) (ys : List ℕ) → IsOneToOne next ys → (x : ℕ) → Contains ys x → (i j : ℕ) → i < j
    → stepped next i x ≡ stepped next j x → x ≡ stepped next (j - i) x
comes_back next ys one x h zero (suc j) less same =
    let e : suc j - 0 ≡ suc j = omega arith in
    same ∙ ap (λ (k : ℕ). stepped next k x) (sym e)
comes_back next ys one x h (suc i) (suc j) less same =
    let e : suc j - suc i ≡ j - i = omega arith in
    comes_back next ys one x h i j (omega (arith, less))
    (one.apart (stepped next i x) (stepped next j x) (stays_in next ys one i x h) (stays_in next ys one j x h)
    (sym (one_more next i x) ∙ (same ∙ one_more next j x)))
    ∙ ap (λ (k : ℕ). stepped next k x) (sym e)
comes_back next ys one x h zero zero less same = absurd (omega (arith, less))
comes_back next ys one x h (suc i) zero less same = absurd (omega (arith, less))

goes_on : (next : ℕ → ℕ) (ys : List ℕ) → IsOneToOne next ys → (x : ℕ) → Contains ys x → (n : ℕ) → IsNotBack next n x → AllPairs Differ (walk next x n)
goes_on next ys one x h n away =
    walk_differs next n x (λ i j less within same.
    away (j - i) (omega (arith, less)) (omega (arith, less, within)) (sym (comes_back next ys one x h i j less same)))

walk_in : (next : ℕ → ℕ) (ys : List ℕ) → IsOneToOne next ys → (x : ℕ) → Contains ys x → (n : ℕ) → All (Contains ys) (walk next x n)
walk_in next ys one x h n =
    all_in (Contains ys) (walk next x n) (λ y at.
    let r = on_walk next x n y at in
    subst (Contains ys) r.2 (stays_in next ys one r.0 x h))

-- a walk over all the numbers leads back to its start
closes : (next : ℕ → ℕ) (ys : List ℕ) → IsOneToOne next ys → (x : ℕ) → Contains ys x → IsNotBack next (length ys) x → stepped next (length ys) x ≡ x
closes next ys one x h away = by r.0 r.1 r.2
  where
    r : (i : ℕ) × (i < length ys) × (stepped next i x ≡ stepped next (length ys) x)
    r =
        on_walk next x (length ys) (stepped next (length ys) x)
        (has_all (walk next x (length ys)) ys (goes_on next ys one x h (length ys) away) (walk_in next ys one x h (length ys))
        (omega (arith, length-walk next x (length ys))) (stepped next (length ys) x) (stays_in next ys one (length ys) x h))

    by : (i : ℕ) → i < length ys → stepped next i x ≡ stepped next (length ys) x → stepped next (length ys) x ≡ x
    by zero less same = sym same
    by (suc i) less same =
        absurd (away (length ys - suc i) (omega (arith, less)) (omega (arith, less)) (sym (comes_back next ys one x h (suc i) (length ys) less same)))

-- ---- the arcs of a walk that leads back

arcs_of_walk : (next : ℕ → ℕ) (first n v : ℕ) → stepped next (suc n) v ≡ first
    → arcs_on first v (walk next (next v) n) ≡ map (arc next) (v ∷ walk next (next v) n)
arcs_of_walk next first zero v back = ap (λ w. (v, w) ∷ []) (sym back)
arcs_of_walk next first (suc n) v back = ap (λ es. (v, next v) ∷ es) (arcs_of_walk next first n (next v) back)

cycle_of_walk : (next : ℕ → ℕ) (n x : ℕ) → 0 < n → stepped next n x ≡ x → cycle_arcs (walk next x n) ≡ map (arc next) (walk next x n)
cycle_of_walk next zero x some back = absurd (omega (arith, some))
cycle_of_walk next (suc n) x some back = arcs_of_walk next x n x back

joined : (a b : Bool) (s n m t : ℕ) → s ≡ cond (a && b) 1 0 + n → n ≡ cond b m 0 → t ≡ cond a 1 0 + m → s ≡ cond b t 0
joined true true s n m t p q r = omega (arith, p, q, r)
joined true false s n m t p q r = omega (arith, p, q, r)
joined false true s n m t p q r = omega (arith, p, q, r)
joined false false s n m t p q r = omega (arith, p, q, r)

-- how often an arc stands among those from numbers to the next
arcs_counted : (next : ℕ → ℕ) (ys : List ℕ) (v w : ℕ)
    → occurrences (map (arc next) ys) v w ≡ cond (next v == w) (count_by (λ y. y == v) ys) 0
arcs_counted next [] v w = elim (cases_Bool (next v == w)) [ inl e ↦ rw e refl | inr e ↦ rw e refl ]
arcs_counted next (y ∷ ys) v w =
    joined (y == v) (next v == w) _ _ _ _ (count-cons (goes v w) (arc next y) (map (arc next) ys) ∙ by (cases_eq y v))
    (arcs_counted next ys v w) (count-cons (λ z. z == v) y ys)
  where
    by : (y ≡ v) ⊎ (y ≡ v → ⊥)
        → cond ((y == v) && (next y == w)) 1 0 + occurrences (map (arc next) ys) v w ≡ cond ((y == v) && (next v == w)) 1 0 + occurrences (map (arc next) ys) v w
    by (inl same) = rw same refl
    by (inr other) = rw (ne_eqb y v other) refl

-- the cycle of a walk that does not come back too soon has exactly the arcs between the numbers
pub walk_is_exact : (next : ℕ → ℕ) (ys : List ℕ) → IsOneToOne next ys → (x : ℕ) → Contains ys x → IsNotBack next (length ys) x
    → (v w : ℕ) → occurrences (map (arc next) ys) v w ≡ occurrences (cycle_arcs (walk next x (length ys))) v w
walk_is_exact next ys one x h away v w =
    rw (cycle_of_walk next (length ys) x (omega (arith, h.1)) (closes next ys one x h away), arcs_counted next ys v w, arcs_counted next (walk next x (length ys)) v w)
    (ap (λ n. cond (next v == w) n 0) (by (in_or_not ys v)))
  where
    differ : AllPairs Differ (walk next x (length ys))
    differ = goes_on next ys one x h (length ys) away

    within : All (Contains ys) (walk next x (length ys))
    within = walk_in next ys one x h (length ys)

    by : Contains ys v ⊎ (Contains ys v → ⊥) → count_by (λ y. y == v) ys ≡ count_by (λ y. y == v) (walk next x (length ys))
    by (inl there) =
        count-once ys v one.differ there
        ∙ sym (count-once (walk next x (length ys)) v differ (has_all (walk next x (length ys)) ys differ within (omega (arith, length-walk next x (length ys))) v there))
    by (inr none) =
        count-none ys v none
        ∙ sym (count-none (walk next x (length ys)) v (λ at. none (All-contains (Contains ys) (walk next x (length ys)) v within at)))

pub walk_is_apart : (next : ℕ → ℕ) (ys : List ℕ) → IsOneToOne next ys → (x : ℕ) → Contains ys x → IsNotBack next (length ys) x
    → AllPairs Differ (walk next x (length ys))
walk_is_apart next ys one x h away = goes_on next ys one x h (length ys) away

-- ---- a cycle with exactly the arcs between the numbers

-- a list has each element of another, where the edges are counted alike
same_elements : (es fs : List (ℕ × ℕ)) → ((v w : ℕ) → occurrences es v w ≡ occurrences fs v w) → (e : ℕ × ℕ) → Contains es e → Contains fs e
same_elements es fs same e h =
    let some = counted (goes e.0 e.1) es e h (goes_itself e) in
    let r = found (goes e.0 e.1) fs (omega (arith, some, same e.0 e.1)) in
    subst (Contains fs) (goes_is e r.0 r.2) r.1

-- what passes from number to number along arcs goes all the way
goes_along : (P : ℕ → Type 0) (first v : ℕ) (ws : List ℕ) → P v → ((e : ℕ × ℕ) → Contains (arcs_on first v ws) e → P e.0 → P e.1)
    → All P (v ∷ ws) × P first
goes_along P first v [] here step =
    (All-cons P v [] here (All-nil P), step (v, first) (in_head [] (v, first)) here)
goes_along P first v (w ∷ ws) here step =
    let on = step (v, w) (in_head (arcs_on first w ws) (v, w)) here in
    let r = goes_along P first w ws on (λ e at. step e (in_tail (v, w) (arcs_on first w ws) e at)) in
    (All-cons P v (w ∷ ws) here r.0, r.1)

-- also from the middle on
goes_on_from : (P : ℕ → Type 0) (first v : ℕ) (ws : List ℕ) (x : ℕ) → Contains (v ∷ ws) x → P x
    → ((e : ℕ × ℕ) → Contains (arcs_on first v ws) e → P e.0 → P e.1) → P first
goes_on_from P first v [] x h here step =
    elim (head_or_tail v [] x h) [
      | inl same ↦ (goes_along P first v [] (subst P (sym same) here) step).1
      | inr later ↦ absurd (not_in_none x later)
    ]
goes_on_from P first v (w ∷ ws) x h here step =
    elim (head_or_tail v (w ∷ ws) x h) [
      | inl same ↦ (goes_along P first v (w ∷ ws) (subst P (sym same) here) step).1
      | inr later ↦ goes_on_from P first w ws x later here (λ e at. step e (in_tail (v, w) (arcs_on first w ws) e at))
    ]

goes_round : (P : ℕ → Type 0) (cycle : List ℕ) (x : ℕ) → Contains cycle x → P x
    → ((e : ℕ × ℕ) → Contains (cycle_arcs cycle) e → P e.0 → P e.1) → All P cycle
goes_round P [] x h here step = All-nil P
goes_round P (v ∷ vs) x h here step = (goes_along P v v vs (goes_on_from P v v vs x h here step) step).0

pub record IsCycle (next : ℕ → ℕ) (ys cycle : List ℕ) : Type 0 where
  pub differ : AllPairs Differ cycle
  pub exact : (v w : ℕ) → occurrences (map (arc next) ys) v w ≡ occurrences (cycle_arcs cycle) v w

-- the numbers of the cycle are the numbers
cycle_in : (next : ℕ → ℕ) (ys cycle : List ℕ) → IsCycle next ys cycle → All (Contains ys) cycle
cycle_in next ys cycle is = all_in (Contains ys) cycle each
  where
    each : (y : ℕ) → Contains cycle y → Contains ys y
    each y h =
        let r = from_map (λ (a : ℕ × ℕ). a.0) (cycle_arcs cycle) y (subst (λ (c : List ℕ). Contains c y) (sym (cycle_sources cycle)) h) in
        let m = from_map (arc next) ys r.0 (same_elements (cycle_arcs cycle) (map (arc next) ys) (λ v w. sym (is.exact v w)) r.0 r.1) in
        let e : m.0 ≡ y = ap (λ (a : ℕ × ℕ). a.0) m.2 ∙ r.2 in
        subst (Contains ys) e m.1

in_cycle : (next : ℕ → ℕ) (ys cycle : List ℕ) → IsCycle next ys cycle → (y : ℕ) → Contains ys y → Contains cycle y
in_cycle next ys cycle is y h =
    let at = same_elements (map (arc next) ys) (cycle_arcs cycle) is.exact (arc next y) (in_map (arc next) ys y h) in
    subst (λ (c : List ℕ). Contains c y) (cycle_sources cycle) (in_map (λ (a : ℕ × ℕ). a.0) (cycle_arcs cycle) (arc next y) at)

-- there are as many
pub cycle_is_as_long : (next : ℕ → ℕ) (ys cycle : List ℕ) → AllPairs Differ ys → IsCycle next ys cycle → length cycle ≡ length ys
cycle_is_as_long next ys cycle differ is =
    let few = no_longer cycle ys is.differ (cycle_in next ys cycle is) in
    let many = no_longer ys cycle differ (all_in (Contains cycle) ys (in_cycle next ys cycle is)) in
    omega (arith, few, many)

-- a walk over fewer numbers does not come back
pub cycle_keeps_away : (next : ℕ → ℕ) (ys cycle : List ℕ) → AllPairs Differ ys → IsCycle next ys cycle → (x : ℕ) → Contains ys x → IsNotBack next (length ys) x
cycle_keeps_away next ys cycle differ is x h i some less back =
    let all = goes_round (Contains (walk next x i)) cycle x (in_cycle next ys cycle is x h) (walk_has next 0 i x some) steps in
    let few = no_longer cycle (walk next x i) is.differ all in
    omega (arith, few, cycle_is_as_long next ys cycle differ is, length-walk next x i, less)
  where
    on : (y j : ℕ) → j < i → stepped next j x ≡ y → (suc j < i) ⊎ (i ≤ suc j) → Contains (walk next x i) (next y)
    on y j low same (inl more) = subst (Contains (walk next x i)) (one_more next j x ∙ ap next same) (walk_has next (suc j) i x more)
    on y j low same (inr last) =
        let e : suc j ≡ i = omega (arith, low, last) in
        let r : x ≡ next y = sym back ∙ (ap (λ k. stepped next k x) (sym e) ∙ (one_more next j x ∙ ap next same)) in
        subst (Contains (walk next x i)) r (walk_has next 0 i x some)

    steps : (e : ℕ × ℕ) → Contains (cycle_arcs cycle) e → Contains (walk next x i) e.0 → Contains (walk next x i) e.1
    steps e at there =
        let m = from_map (arc next) ys e (same_elements (cycle_arcs cycle) (map (arc next) ys) (λ v w. sym (is.exact v w)) e at) in
        let head : m.0 ≡ e.0 = ap (λ (a : ℕ × ℕ). a.0) m.2 in
        let tail : next m.0 ≡ e.1 = ap (λ (a : ℕ × ℕ). a.1) m.2 in
        let r = on_walk next x i e.0 there in
        subst (Contains (walk next x i)) (ap next (sym head) ∙ tail) (on e.0 r.0 r.1 r.2 (cases_lt (suc r.0) i))
