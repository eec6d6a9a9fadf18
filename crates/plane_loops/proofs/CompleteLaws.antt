-- There is one list of loops that completes some marks.
use Rattle.std.proofs.Common.{◌≡◌, ℕ, zero, suc, ◌+◌, ◌<◌, ◌≤◌, Bool, true, false, List, [], ◌∷◌, ◌++◌, refl, arith, ap, sym, subst, ◌∙◌, inl, inr, length}
use Rattle.std.specs.Prelude.{◌⊎◌, ◌==◌, All}
use Rattle.std.specs.List.{concat, range_with_len}
use Rattle.std.proofs.lemmas.Bool.{cases_eq}
use Rattle.std.proofs.lemmas.List.Elements.{All-append, All-cons, All-head, All-nil, All-tail}
use Rattle.std.proofs.lemmas.List.Kept.{AllPairs-cons}
use Rattle.plane_loops.specs.Contours.{start_of}
use Rattle.plane_loops.specs.Following.{loops_from, mark_all, unmarked, walk}
use Rattle.plane_loops.proofs.Lists.{at, bit, bit_same, count, count_append, count_cons, counted_has, set_here}
use Rattle.plane_loops.proofs.LoopLaws.{Complete, Follows, IsCycle, IsFront, IsOneToOne, IsWalked, bit_marked, found, from_least, front_on, walk_rises}
use Rattle.plane_loops.proofs.WalkLaws.{loops_none, loops_skip, loops_take}
use Rattle.fixed_ops.proofs.Lists.{all_left, all_right, first_before, rest_in_order}

-- ---- one more start

-- a vertex that is marked already is passed over
front_skip : (next : List ℕ) (marks : List Bool) (v : ℕ) → IsFront next marks v → at marks v ≡ true → IsFront next marks (v + 1)
front_skip next marks v h marked =
    record { size = h.size; closed = h.closed; below = λ w few. by w few (cases_eq w v) }
  where
    by : (w : ℕ) → w < v + 1 → (w ≡ v) ⊎ (w ≡ v → ⊥) → at marks w ≡ true
    by w few (inl same) = ap (at marks) same ∙ marked
    by w few (inr other) = h.below w (omega (arith, few, other))

lower : (next : List ℕ) (marks : List Bool) (v : ℕ) (loops : List (List ℕ)) → Complete next marks (v + 1) loops → Complete next marks v loops
lower next marks v loops h =
    record {
      cycles = h.cycles;
      counted = h.counted;
      within = h.within;
      starts = λ i d few. let e = h.starts i d few in omega (arith, e);
      rise = h.rise;
    }

-- the walk from the least vertex that is not marked is one more loop
with_walk : (next : List ℕ) (marks : List Bool) (v : ℕ) (loop : List ℕ) (end : List Bool) (loops : List (List ℕ)) → IsFront next marks v → IsWalked next v marks v loop end → Complete next end (v + 1) loops → Complete next marks v (loop ∷ loops)
with_walk next marks v loop end loops h k c =
    let start : start_of loop ≡ v = ap start_of k.shape in
    let cycle : IsCycle next loop =
    subst (IsCycle next) (sym k.shape) (k.follows, walk_rises next marks v loop end h k [] k.rest (sym k.shape)) in
    record {
      cycles = All-cons (IsCycle next) loop loops cycle c.cycles;
      counted = λ w few.
          let a = k.counted w in
          let b = c.counted w few in
          let d = count_append w loop (concat loops) in
          omega (arith, a, b, d);
      within = All-append (λ w. w < length next) loop (concat loops) k.within c.within;
      starts = All-cons (λ l. v ≤ start_of l) loop loops (omega (arith, start)) (λ i d few. let e = c.starts i d few in omega (arith, e));
      rise = AllPairs-cons (λ a b. start_of a < start_of b) loop loops (λ i d few. let e = c.starts i d few in omega (arith, e, start)) c.rise;
    }

pub complete : (more : ℕ) (next : List ℕ) (marks : List Bool) (v : ℕ) → IsOneToOne next → v + more ≡ length next → IsFront next marks v → Complete next marks v (loops_from next marks (range_with_len v more))
complete zero next marks v one whole h =
    subst (Complete next marks v) (sym (loops_none next marks)) (record {
      cycles = All-nil (IsCycle next);
      counted = λ w few. let e = bit_marked (at marks w) (h.below w (omega (arith, few, whole))) in omega (arith, e);
      within = All-nil (λ w. w < length next);
      starts = All-nil (λ l. v ≤ start_of l);
      rise = λ i j d less few. absurd (omega (arith, few));
    })
complete (suc more) next marks v one whole h =
    by (at marks v) refl (λ m f. complete more next m (v + 1) one (omega (arith, whole)) f)
  where
    vs : List ℕ
    vs = range_with_len (v + 1) more

    by : (b : Bool) → at marks v ≡ b → ((m : List Bool) → IsFront next m (v + 1) → Complete next m (v + 1) (loops_from next m (range_with_len (v + 1) more))) → Complete next marks v (loops_from next marks (v ∷ range_with_len (v + 1) more))
    by true e go =
        subst (Complete next marks v) (sym (loops_skip next marks v (range_with_len (v + 1) more) e)) (lower next marks v _ (go marks (front_skip next marks v h e)))
    by false e go =
        let k = from_least next marks v one h (omega (arith, whole)) e in
        subst (Complete next marks v) (sym (loops_take next marks v (range_with_len (v + 1) more) e)) (with_walk next marks v _ _ _ h k (go _ (front_on next marks v _ _ h k)))

-- ---- no other list of loops

start_has : (next : List ℕ) (P : ℕ → Type 0) (l xs : List ℕ) → IsCycle next l → All P (l ++ xs) → P (start_of l)
start_has next P [] xs cycle h = absurd cycle
start_has next P (v ∷ vs) xs cycle h = All-head P v (vs ++ xs) h

-- a vertex that stands on no loop is no start
no_start : (next : List ℕ) (v : ℕ) (loops : List (List ℕ)) → All (IsCycle next) loops → count v (concat loops) ≡ 0 → All (λ l. start_of l ≡ v → ⊥) loops
no_start next v [] cycles none = All-nil (λ l. start_of l ≡ v → ⊥)
no_start next v (l ∷ loops) cycles none =
    let e = count_append v l (concat loops) in
    All-cons (λ l. start_of l ≡ v → ⊥) l loops (by l (All-head (IsCycle next) l loops cycles) (omega (arith, none, e))) (no_start next v loops (All-tail (IsCycle next) l loops cycles) (omega (arith, none, e)))
  where
    by : (l : List ℕ) → IsCycle next l → count v l ≡ 0 → start_of l ≡ v → ⊥
    by [] cycle nil same = cycle
    by (w ∷ ws) cycle nil same =
        let e = count_cons v w ws in
        let f : bit (w == v) ≡ 1 = ap (λ x. bit (x == v)) same ∙ bit_same v in
        omega (arith, e, f, nil)

-- the vertices of loops are no lower than a number where the starts are no lower
all_above : (next : List ℕ) (least : ℕ) (loops : List (List ℕ)) → All (IsCycle next) loops → All (λ l. least ≤ start_of l) loops → All (λ w. least ≤ w) (concat loops)
all_above next least [] cycles starts = All-nil (λ w. least ≤ w)
all_above next least (l ∷ loops) cycles starts =
    All-append (λ w. least ≤ w) l (concat loops) (by l (All-head (IsCycle next) l loops cycles) (All-head (λ l. least ≤ start_of l) l loops starts)) (all_above next least loops (All-tail (IsCycle next) l loops cycles) (All-tail (λ l. least ≤ start_of l) l loops starts))
  where
    by : (l : List ℕ) → IsCycle next l → least ≤ start_of l → All (λ w. least ≤ w) l
    by [] cycle few = absurd cycle
    by (v ∷ vs) cycle few = All-cons (λ w. least ≤ w) v vs few (λ i d within. let e = cycle.1 i d within in omega (arith, e, few))

cycle_from : (next : List ℕ) (v : ℕ) (l : List ℕ) → IsCycle next l → start_of l ≡ v → (vs : List ℕ) × (l ≡ v ∷ vs) × Follows next v v vs
cycle_from next v [] cycle same = absurd cycle
cycle_from next v (w ∷ ws) cycle same =
    (ws, ap (λ x. x ∷ ws) same, subst (λ (x : ℕ). Follows next x x ws) same cycle.0)

-- the first of loops that complete marks starts at the least vertex that is not marked
first_start : (next : List ℕ) (marks : List Bool) (v : ℕ) (l : List ℕ) (loops : List (List ℕ)) → v < length next → at marks v ≡ false → Complete next marks v (l ∷ loops) → start_of l ≡ v
first_start next marks v l loops few free c =
    let low = All-head (λ l. v ≤ start_of l) l loops c.starts in
    let later = first_before (λ a b. start_of a < start_of b) l loops c.rise in
    let starts : All (λ k. start_of l ≤ start_of k) (l ∷ loops) =
    All-cons (λ k. start_of l ≤ start_of k) l loops (omega arith) (λ i d within. let e = later i d within in omega (arith, e)) in
    let above = all_above next (start_of l) (l ∷ loops) c.cycles starts in
    let e = c.counted v few in
    let f : bit (at marks v) ≡ 0 = ap bit free in
    let high = counted_has (λ w. start_of l ≤ w) v (concat (l ∷ loops)) above (omega (arith, e, f)) in
    omega (arith, low, high)

pub only : (more : ℕ) (next : List ℕ) (marks : List Bool) (v : ℕ) (loops : List (List ℕ)) → IsOneToOne next → v + more ≡ length next → IsFront next marks v → Complete next marks v loops → loops ≡ loops_from next marks (range_with_len v more)
only zero next marks v [] one whole h c = sym (loops_none next marks)
only zero next marks v (l ∷ loops) one whole h c =
    let few = start_has next (λ w. w < length next) l (concat loops) (All-head (IsCycle next) l loops c.cycles) c.within in
    let low = All-head (λ l. v ≤ start_of l) l loops c.starts in
    absurd (omega (arith, few, low, whole))
only (suc more) next marks v loops one whole h c =
    by (at marks v) refl loops c (λ m ls f d. only more next m (v + 1) ls one (omega (arith, whole)) f d)
  where
    small : v < length next
    small = omega (arith, whole)

    raised : (loops : List (List ℕ)) → at marks v ≡ true → Complete next marks v loops → Complete next marks (v + 1) loops
    raised loops e c =
        let a = c.counted v small in
        let b = bit_marked (at marks v) e in
        let others = no_start next v loops c.cycles (omega (arith, a, b)) in
        record {
          cycles = c.cycles;
          counted = c.counted;
          within = c.within;
          starts = λ i d few. let f = c.starts i d few in let g = others i d few in omega (arith, f, g);
          rise = c.rise;
        }

    is_walk : (l : List ℕ) (ls : List (List ℕ)) → at marks v ≡ false → Complete next marks v (l ∷ ls) → walk (unmarked marks) next marks v ≡ l
    is_walk l ls e d =
        let cycle = cycle_from next v l (All-head (IsCycle next) l ls d.cycles) (first_start next marks v l ls small e d) in
        let size = h.size in
        let lies : v < length marks = omega (arith, size, small) in
        let inside = subst (All (λ w. w < length next)) cycle.1 (all_left (λ w. w < length next) l (concat ls) d.within) in
        let once : (w : ℕ) → w < length next → bit (at marks w) + count w (v ∷ cycle.0) ≤ 1 =
        λ w few. let a = d.counted w few in let b = count_append w l (concat ls) in let f = ap (count w) cycle.1 in omega (arith, a, b, f) in
        found next v marks v cycle.0 h.size inside once (set_here marks v lies) cycle.2 ∙ sym cycle.1

    others : (l : List ℕ) (ls : List (List ℕ)) → at marks v ≡ false → Complete next marks v (l ∷ ls) → IsWalked next v marks v (walk (unmarked marks) next marks v) (mark_all marks (walk (unmarked marks) next marks v)) → Complete next (mark_all marks (walk (unmarked marks) next marks v)) (v + 1) ls
    others l ls e d k =
        let same = is_walk l ls e d in
        let start = first_start next marks v l ls small e d in
        let later = first_before (λ a b. start_of a < start_of b) l ls d.rise in
        record {
          cycles = All-tail (IsCycle next) l ls d.cycles;
          counted = λ w few.
              let a = d.counted w few in
              let b = count_append w l (concat ls) in
              let f = ap (count w) same in
              let g = k.counted w in
              omega (arith, a, b, f, g);
          within = all_right (λ w. w < length next) l (concat ls) d.within;
          starts = λ i z few. let f = later i z few in omega (arith, f, start);
          rise = rest_in_order (λ a b. start_of a < start_of b) l ls d.rise;
        }

    by : (b : Bool) → at marks v ≡ b → (ls : List (List ℕ)) → Complete next marks v ls → ((m : List Bool) (ls : List (List ℕ)) → IsFront next m (v + 1) → Complete next m (v + 1) ls → ls ≡ loops_from next m (range_with_len (v + 1) more)) → ls ≡ loops_from next marks (v ∷ range_with_len (v + 1) more)
    by true e ls d go = go marks ls (front_skip next marks v h e) (raised ls e d) ∙ sym (loops_skip next marks v (range_with_len (v + 1) more) e)
    by false e [] d go =
        let a = d.counted v small in
        let f : bit (at marks v) ≡ 0 = ap bit e in
        absurd (omega (arith, a, f))
    by false e (l ∷ ls) d go =
        let k = from_least next marks v one h small e in
        let rest = go _ ls (front_on next marks v _ _ h k) (others l ls e d k) in
        ap (λ x. x ∷ ls) (sym (is_walk l ls e d)) ∙ ap (λ xs. walk (unmarked marks) next marks v ∷ xs) rest ∙ sym (loops_take next marks v (range_with_len (v + 1) more) e)
