-- Loops that follow a one-to-one successor: from the lowest vertex that is not marked on it comes back to it.
use Rattle.std.proofs.Common.{◌≡◌, ℕ, zero, suc, ◌+◌, ◌<◌, ◌≤◌, Bool, true, false, List, [], ◌∷◌, ◌++◌, refl, arith, ap, sym, subst, ◌∙◌, inl, inr, length, get_or, set}
use Rattle.std.specs.Prelude.{◌⊎◌, ◌==◌, All, AllPairs}
use Rattle.std.specs.List.{concat}
use Rattle.std.proofs.lemmas.Bool.{cases_eq, cases_lt, false≢true}
use Rattle.std.proofs.lemmas.List.{append_assoc, length-set}
use Rattle.std.proofs.lemmas.List.Elements.{All-cons, All-head, All-nil, All-tail}
use Rattle.plane_loops.specs.Contours.{start_of}
use Rattle.plane_loops.specs.Following.{mark_all, unmarked, walk}
use Rattle.plane_loops.proofs.Lists.{at, at_set, bit, bit_same, count, count_append, count_cons, set_from, set_here, set_keeps, unmarked_less}
use Rattle.plane_loops.proofs.WalkLaws.{mark_cons, mark_none, walk_off, walk_on}

abbrev pub next_of : List ℕ → ℕ → ℕ
next_of next v = get_or next v 0

-- each vertex has a successor, and no two have one
pub record IsOneToOne (next : List ℕ) : Type 0 where
  pub within : (v : ℕ) → v < length next → next_of next v < length next
  pub apart : (u v : ℕ) → u < length next → v < length next → next_of next u ≡ next_of next v → u ≡ v

-- from a vertex on, each is the successor of the one before, and the first that of the last
abbrev pub Follows : List ℕ → ℕ → ℕ → List ℕ → Type 0
Follows next first v [] = first ≡ next_of next v
Follows next first v (w ∷ ws) = (w ≡ next_of next v) × Follows next first w ws

-- the successor of no vertex is marked that is not marked itself
abbrev pub AreClosed : List ℕ → List Bool → Type 0
AreClosed next marks = (u : ℕ) → u < length next → at marks (next_of next u) ≡ true → at marks u ≡ true

-- ---- a walk comes back

-- what holds on a walk from a start, when it has come to a vertex
record IsOnWalk (next : List ℕ) (start : ℕ) (marks : List Bool) (v : ℕ) : Type 0 where
  size : length marks ≡ length next
  within : v < length next
  closed : (u : ℕ) → u < length next → at marks (next_of next u) ≡ true → (next_of next u ≡ start) ⊎ (at marks u ≡ true)
  before : (u : ℕ) → u < length next → next_of next u ≡ v → (v ≡ start) ⊎ (at marks u ≡ true)
  back : at marks v ≡ true → v ≡ start

-- what a walk from a vertex on gives
pub record IsWalked (next : List ℕ) (start : ℕ) (marks : List Bool) (v : ℕ) (loop : List ℕ) (end : List Bool) : Type 0 where
  pub rest : List ℕ
  pub shape : loop ≡ v ∷ rest
  pub follows : Follows next start v rest
  pub within : All (λ w. w < length next) loop
  pub size : length end ≡ length next
  pub counted : (w : ℕ) → bit (at marks w) + count w loop ≡ bit (at end w)
  pub closed : AreClosed next end

step : (next : List ℕ) (start : ℕ) (marks : List Bool) (v : ℕ) → IsOneToOne next → IsOnWalk next start marks v → at marks v ≡ false → IsOnWalk next start (set marks v true) (next_of next v)
step next start marks v one h free =
    let size = h.size in
    let fits = h.within in
    let lies : v < length marks = omega (arith, size, fits) in
    record {
      size = length-set marks v true ∙ h.size;
      within = one.within v h.within;
      closed = λ u few m. by_closed u few (set_from marks v (next_of next u) m) lies;
      before = λ u few same. inr (ap (at (set marks v true)) (one.apart u v few h.within same) ∙ set_here marks v lies);
      back = λ m. by_back (set_from marks v (next_of next v) m);
    }
  where
    by_closed : (u : ℕ) → u < length next → (next_of next u ≡ v) ⊎ (at marks (next_of next u) ≡ true) → v < length marks → (next_of next u ≡ start) ⊎ (at (set marks v true) u ≡ true)
    by_closed u few (inl here) lies = by (h.before u few here)
      where
        by : (v ≡ start) ⊎ (at marks u ≡ true) → (next_of next u ≡ start) ⊎ (at (set marks v true) u ≡ true)
        by (inl same) = inl (here ∙ same)
        by (inr m) = inr (set_keeps marks v u lies m)
    by_closed u few (inr old) lies = by (h.closed u few old)
      where
        by : (next_of next u ≡ start) ⊎ (at marks u ≡ true) → (next_of next u ≡ start) ⊎ (at (set marks v true) u ≡ true)
        by (inl same) = inl same
        by (inr m) = inr (set_keeps marks v u lies m)

    by_back : (next_of next v ≡ v) ⊎ (at marks (next_of next v) ≡ true) → next_of next v ≡ start
    by_back (inl here) = by (h.before v h.within here)
      where
        by : (v ≡ start) ⊎ (at marks v ≡ true) → next_of next v ≡ start
        by (inl same) = here ∙ same
        by (inr m) = absurd (false≢true (sym free ∙ m))
    by_back (inr old) = by (h.closed v h.within old)
      where
        by : (next_of next v ≡ start) ⊎ (at marks v ≡ true) → next_of next v ≡ start
        by (inl same) = same
        by (inr m) = absurd (false≢true (sym free ∙ m))

-- one vertex more at the front of a walk
longer : (next : List ℕ) (start : ℕ) (marks : List Bool) (v w : ℕ) (loop : List ℕ) (end : List Bool) → IsOnWalk next start marks v → at marks v ≡ false → w ≡ next_of next v → IsWalked next start (set marks v true) w loop end → IsWalked next start marks v (v ∷ loop) end
longer next start marks v w loop end h free is k =
    let size = h.size in
    let fits = h.within in
    let lies : v < length marks = omega (arith, size, fits) in
    record {
      rest = loop;
      shape = refl;
      follows = subst (Follows next start v) (sym k.shape) (is, k.follows);
      within = All-cons (λ w. w < length next) v loop h.within k.within;
      size = k.size;
      counted = λ x.
          let e = count_cons x v loop in
          let f = at_set marks v x lies free in
          let g = k.counted x in
          omega (arith, e, f, g);
      closed = k.closed;
    }

-- a walk that ends after one vertex
last : (next : List ℕ) (start : ℕ) (marks : List Bool) (v : ℕ) → IsOneToOne next → IsOnWalk next start marks v → at marks v ≡ false → at (set marks v true) (next_of next v) ≡ true → IsWalked next start marks v (v ∷ []) (set marks v true)
last next start marks v one h free met =
    let size = h.size in
    let fits = h.within in
    let lies : v < length marks = omega (arith, size, fits) in
    let on = step next start marks v one h free in
    let home = on.back met in
    record {
      rest = [];
      shape = refl;
      follows = sym home;
      within = All-cons (λ w. w < length next) v [] h.within (All-nil (λ w. w < length next));
      size = on.size;
      counted = λ x.
          let e = count_cons x v [] in
          let f = at_set marks v x lies free in
          omega (arith, e, f);
      closed = λ u few m. by u few lies (on.closed u few m) home;
    }
  where
    by : (u : ℕ) → u < length next → v < length marks → (next_of next u ≡ start) ⊎ (at (set marks v true) u ≡ true) → next_of next v ≡ start → at (set marks v true) u ≡ true
    by u few lies (inl same) home = ap (at (set marks v true)) (one.apart u v few h.within (same ∙ sym home)) ∙ set_here marks v lies
    by u few lies (inr m) home = m

-- a walk that has fuel for all vertices that are not marked comes back to its start
walked : (more : ℕ) (next : List ℕ) (start : ℕ) (marks : List Bool) (v : ℕ) → IsOneToOne next → IsOnWalk next start marks v → at marks v ≡ false → unmarked marks ≡ more → IsWalked next start marks v (walk (unmarked marks) next marks v) (mark_all marks (walk (unmarked marks) next marks v))
walked zero next start marks v one h free few =
    let size = h.size in
    let fits = h.within in
    let e = unmarked_less marks v (omega (arith, size, fits)) free in
    absurd (omega (arith, e, few))
walked (suc more) next start marks v one h free few =
    by (at (set marks v true) (next_of next v)) refl (λ m. walked more next start (set marks v true) (next_of next v) one (step next start marks v one h free) m (omega (arith, less, few)))
  where
    lies : v < length marks
    lies = let size = h.size in let fits = h.within in omega (arith, size, fits)

    less : unmarked marks ≡ suc (unmarked (set marks v true))
    less = unmarked_less marks v lies free

    on : walk (unmarked marks) next marks v ≡ v ∷ walk (unmarked (set marks v true)) next (set marks v true) (next_of next v)
    on = walk_on next marks v lies free

    whole : (loop : List ℕ) → walk (unmarked marks) next marks v ≡ v ∷ loop → IsWalked next start marks v (v ∷ loop) (mark_all (set marks v true) loop) → IsWalked next start marks v (walk (unmarked marks) next marks v) (mark_all marks (walk (unmarked marks) next marks v))
    whole loop e k =
        let P : List ℕ → Type 0 = λ l. IsWalked next start marks v l (mark_all marks l) in
        let Q : List Bool → Type 0 = λ m. IsWalked next start marks v (v ∷ loop) m in
        subst P (sym e) (subst Q (sym (mark_cons marks v loop)) k)

    by : (b : Bool) → at (set marks v true) (next_of next v) ≡ b → (at (set marks v true) (next_of next v) ≡ false → IsWalked next start (set marks v true) (next_of next v) (walk (unmarked (set marks v true)) next (set marks v true) (next_of next v)) (mark_all (set marks v true) (walk (unmarked (set marks v true)) next (set marks v true) (next_of next v)))) → IsWalked next start marks v (walk (unmarked marks) next marks v) (mark_all marks (walk (unmarked marks) next marks v))
    by true met go =
        let Q : List Bool → Type 0 = λ m. IsWalked next start marks v (v ∷ []) m in
        whole [] (on ∙ ap (λ l. v ∷ l) (walk_off (unmarked (set marks v true)) next (set marks v true) (next_of next v) met)) (subst Q (sym (mark_none (set marks v true))) (last next start marks v one h free met))
    by false met go = whole _ on (longer next start marks v (next_of next v) _ _ h free refl (go met))

-- ---- a loop is what a walk from its start gives

not_marked : (b : Bool) (n : ℕ) → bit b + n ≤ 1 → 1 ≤ n → b ≡ false
not_marked true n most some = absurd (omega (arith, most, some))
not_marked false n most some = refl

-- a vertex that stands on a loop that has no marked vertex is not marked
is_free : (marks : List Bool) (v : ℕ) (vs : List ℕ) → bit (at marks v) + count v (v ∷ vs) ≤ 1 → at marks v ≡ false
is_free marks v vs few =
    let e = count_cons v v vs in
    let f = bit_same v in
    not_marked (at marks v) (count v (v ∷ vs)) few (omega (arith, e, f))

pub found : (next : List ℕ) (start : ℕ) (marks : List Bool) (v : ℕ) (vs : List ℕ) → length marks ≡ length next → All (λ w. w < length next) (v ∷ vs) → ((w : ℕ) → w < length next → bit (at marks w) + count w (v ∷ vs) ≤ 1) → at (set marks v true) start ≡ true → Follows next start v vs → walk (unmarked marks) next marks v ≡ v ∷ vs
found next start marks v [] size within once home follows =
    let fits = All-head (λ w. w < length next) v [] within in
    let lies : v < length marks = omega (arith, size, fits) in
    let off : at (set marks v true) (next_of next v) ≡ true = ap (at (set marks v true)) (sym follows) ∙ home in
    walk_on next marks v lies (is_free marks v [] (once v fits)) ∙ ap (λ l. v ∷ l) (walk_off (unmarked (set marks v true)) next (set marks v true) (next_of next v) off)
found next start marks v (w ∷ ws) size within once home follows =
    let fits = All-head (λ w. w < length next) v (w ∷ ws) within in
    let lies : v < length marks = omega (arith, size, fits) in
    let free = is_free marks v (w ∷ ws) (once v fits) in
    let marked = set marks v true in
    let long = length-set marks v true ∙ size in
    let others = All-tail (λ w. w < length next) v (w ∷ ws) within in
    let after = All-head (λ w. w < length next) w ws others in
    let fewer : (x : ℕ) → x < length next → bit (at marked x) + count x (w ∷ ws) ≤ 1 =
    λ x few. let e = count_cons x v (w ∷ ws) in let f = at_set marks v x lies free in let g = once x few in omega (arith, e, f, g) in
    walk_on next marks v lies free
    ∙ ap (λ l. v ∷ l) (ap (λ x. walk (unmarked marked) next marked x) (sym follows.0) ∙ found next start marked w ws long others fewer (set_keeps marked w start (omega (arith, long, after)) home) follows.1)

-- ---- the loops that complete some marks

-- a loop that follows the successors, from its lowest vertex on
abbrev pub IsCycle : List ℕ → List ℕ → Type 0
IsCycle next [] = ⊥
IsCycle next (v ∷ vs) = Follows next v v vs × All (λ w. v < w) vs

-- Loops on which each vertex stands once that is not marked, and no other, where no start is below
-- a number, and the starts rise.
pub record Complete (next : List ℕ) (marks : List Bool) (least : ℕ) (loops : List (List ℕ)) : Type 0 where
  pub cycles : All (IsCycle next) loops
  pub counted : (w : ℕ) → w < length next → bit (at marks w) + count w (concat loops) ≡ 1
  pub within : All (λ w. w < length next) (concat loops)
  pub starts : All (λ l. least ≤ start_of l) loops
  pub rise : AllPairs (λ k l. start_of k < start_of l) loops

-- marks of which all below a number are made
pub record IsFront (next : List ℕ) (marks : List Bool) (least : ℕ) : Type 0 where
  pub size : length marks ≡ length next
  pub closed : AreClosed next marks
  pub below : (w : ℕ) → w < least → at marks w ≡ true

-- a walk from the least vertex that is not marked
pub from_least : (next : List ℕ) (marks : List Bool) (v : ℕ) → IsOneToOne next → IsFront next marks v → v < length next → at marks v ≡ false → IsWalked next v marks v (walk (unmarked marks) next marks v) (mark_all marks (walk (unmarked marks) next marks v))
from_least next marks v one h few free =
    walked (unmarked marks) next v marks v one (record {
      size = h.size;
      within = few;
      closed = λ u small m. inr (h.closed u small m);
      before = λ u small same. inl refl;
      back = λ m. refl;
    }) free refl

marked_bit : (b : Bool) → 1 ≤ bit b → b ≡ true
marked_bit true h = refl
marked_bit false h = absurd (omega (arith, h))

pub bit_marked : (b : Bool) → b ≡ true → bit b ≡ 1
bit_marked b h = rw h refl

-- after it all up to that vertex are marked
pub front_on : (next : List ℕ) (marks : List Bool) (v : ℕ) (loop : List ℕ) (end : List Bool) → IsFront next marks v → IsWalked next v marks v loop end → IsFront next end (v + 1)
front_on next marks v loop end h k =
    record {
      size = k.size;
      closed = k.closed;
      below = λ w few. marked_bit (at end w) (by w (cases_eq w v) few);
    }
  where
    by : (w : ℕ) → (w ≡ v) ⊎ (w ≡ v → ⊥) → w < v + 1 → 1 ≤ bit (at end w)
    by w (inl same) few =
        let e = k.counted v in
        let f = ap (count v) k.shape ∙ count_cons v v k.rest in
        let g = bit_same v in
        let r : 1 ≤ bit (at end v) = omega (arith, e, f, g) in
        subst (λ (x : ℕ). 1 ≤ bit (at end x)) (sym same) r
    by w (inr other) few =
        let e = k.counted w in
        let f = bit_marked (at marks w) (h.below w (omega (arith, few, other))) in
        omega (arith, e, f)

-- the other vertices of the walk are higher
pub walk_rises : (next : List ℕ) (marks : List Bool) (v : ℕ) (loop : List ℕ) (end : List Bool) → IsFront next marks v → IsWalked next v marks v loop end → (xs ys : List ℕ) → v ∷ xs ++ ys ≡ loop → All (λ w. v < w) ys
walk_rises next marks v loop end h k xs [] e = All-nil (λ w. v < w)
walk_rises next marks v loop end h k xs (y ∷ ys) e =
    All-cons (λ w. v < w) y ys higher (walk_rises next marks v loop end h k (xs ++ y ∷ []) ys (ap (λ l. v ∷ l) (append_assoc xs (y ∷ []) ys) ∙ e))
  where
    bits : (b : Bool) → bit b ≤ 1
    bits true = omega arith
    bits false = omega arith

    higher : v < y
    higher =
        let a = k.counted y in
        let b = ap (count y) (sym e) ∙ count_cons y v (xs ++ y ∷ ys) in
        let c = count_append y xs (y ∷ ys) in
        let d = count_cons y y ys in
        let f = bit_same y in
        let g = bits (at end y) in
        by (cases_eq v y) (cases_lt y v) (omega (arith, a, b, c, d, f, g)) (omega (arith, a, b, c, d, f, g))
      where
        by : (v ≡ y) ⊎ (v ≡ y → ⊥) → (y < v) ⊎ (v ≤ y) → bit (v == y) ≡ 0 → bit (at marks y) ≡ 0 → v < y
        by (inl same) q none free = let e = bit_same y in let f = subst (λ (x : ℕ). bit (x == y) ≡ 0) same none in absurd (omega (arith, e, f))
        by (inr other) (inl less) none free = let e = bit_marked (at marks y) (h.below y less) in absurd (omega (arith, e, free))
        by (inr other) (inr most) none free = omega (arith, other, most)
