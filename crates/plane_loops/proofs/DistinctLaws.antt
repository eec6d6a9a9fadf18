-- No segment of a grid is listed twice.
use Rattle.std.proofs.Common.{◌≡◌, ◌≢◌, ℕ, zero, suc, ◌+◌, ◌≤◌, Bool, true, false, List, [], ◌∷◌, ◌++◌, arith, ap, subst, sym, ◌∙◌, inl, inr}
use Rattle.std.specs.Prelude.{◌⊎◌, ◌==◌, flat_map, All, AllPairs, Contains, if◌then◌else◌}
use Rattle.std.specs.List.{range_with_len}
use Rattle.std.proofs.lemmas.List.{append-nil, get_or_default}
use Rattle.std.proofs.lemmas.List.Elements.{All-append}
use Rattle.std.proofs.lemmas.List.Kept.{AllPairs-cons}
use Rattle.plane_loops.specs.Following.{left_triangle}
use Rattle.plane_loops.specs.Laws.{SegmentsAreDistinct}
use Rattle.plane_loops.specs.Planes.{PlaneEdge, PlanePoint, is_inside_at, lower, point}
use Rattle.plane_loops.specs.Segments.{Segment, Triangle, cell_segments, edge_between, segments, segments_in}
use Rattle.plane_loops.proofs.NextLaws.{followed, starts_at}
use Rattle.plane_loops.proofs.TurnLaws.{IsTurn, side, tips, triangle, turn_of, which_turn}
use Rattle.fixed_ops.proofs.Lists.{first_before, from_flat, head_or_tail, in_head, in_tail, not_in_none, rest_in_order}

-- ---- lists that share no element

abbrev Differ : {A : Type 0} → A → A → Type 0
Differ x y = x ≢ y

missing : {A : Type 0} (x : A) (xs : List A) → (Contains xs x → ⊥) → All (Differ x) xs
missing x xs none k d within same = none (k, within, get_or_default xs k x d within ∙ sym same)

joined_differ : {A : Type 0} (xs ys : List A) → AllPairs Differ xs → AllPairs Differ ys → ((x : A) → Contains xs x → Contains ys x → ⊥) → AllPairs Differ (xs ++ ys)
joined_differ [] ys first second apart = second
joined_differ (x ∷ xs) ys first second apart =
    AllPairs-cons Differ x (xs ++ ys)
    (All-append (Differ x) xs ys (first_before Differ x xs first) (missing x ys (apart x (in_head xs x))))
    (joined_differ xs ys (rest_in_order Differ x xs first) second (λ y here. apart y (in_tail x xs y here)))

above : (a n k : ℕ) → Contains (range_with_len a n) k → a ≤ k
above a zero k h = absurd (not_in_none k h)
above a (suc n) k h = by (head_or_tail a (range_with_len (a + 1) n) k h) (λ later. above (a + 1) n k later)
  where
    by : (a ≡ k) ⊎ Contains (range_with_len (a + 1) n) k → (Contains (range_with_len (a + 1) n) k → a + 1 ≤ k) → a ≤ k
    by (inl same) next = omega (arith, same)
    by (inr later) next = let e = next later in omega (arith, e)

-- lists of which each element stands in one alone
blocks_differ : {A : Type 0} (f : ℕ → List A) → ((k : ℕ) → AllPairs Differ (f k)) → ((i j : ℕ) (x : A) → Contains (f i) x → Contains (f j) x → i ≡ j) → (a n : ℕ) → AllPairs Differ (flat_map f (range_with_len a n))
blocks_differ f each alone a zero = λ i j d less within. absurd (omega (arith, within))
blocks_differ f each alone a (suc n) =
    joined_differ (f a) (flat_map f (range_with_len (a + 1) n)) (each a) (blocks_differ f each alone (a + 1) n) (λ x here later.
    let r = from_flat f (range_with_len (a + 1) n) x later in
    let up = above (a + 1) n r.0 r.1 in
    let same = alone a r.0 x here r.2 in
    absurd (omega (arith, up, same)))

-- ---- the segments of a cell

-- a triangle has one at most
tips_differ : (a b c : Bool) (ab ac bc ba ca cb : PlaneEdge) → AllPairs Differ (tips a b c ab ac bc ba ca cb)
tips_differ true true true ab ac bc ba ca cb i j d less within = absurd (omega (arith, within))
tips_differ true true false ab ac bc ba ca cb i j d less within = absurd (omega (arith, less, within))
tips_differ true false true ab ac bc ba ca cb i j d less within = absurd (omega (arith, less, within))
tips_differ true false false ab ac bc ba ca cb i j d less within = absurd (omega (arith, less, within))
tips_differ false true true ab ac bc ba ca cb i j d less within = absurd (omega (arith, less, within))
tips_differ false true false ab ac bc ba ca cb i j d less within = absurd (omega (arith, less, within))
tips_differ false false true ab ac bc ba ca cb i j d less within = absurd (omega (arith, less, within))
tips_differ false false false ab ac bc ba ca cb i j d less within = absurd (omega (arith, within))

triangle_differs : (inside : PlanePoint → Bool) (cell : PlanePoint) (t : Triangle) → AllPairs Differ (segments_in inside cell t)
triangle_differs inside cell t =
    tips_differ (side inside cell t.a) (side inside cell t.b) (side inside cell t.c) (edge_between cell t.a t.b) (edge_between cell t.a t.c) (edge_between cell t.b t.c) (edge_between cell t.b t.a) (edge_between cell t.c t.a) (edge_between cell t.c t.b)

-- in which triangle of its cell a segment lies, by the direction of the edge where it starts, and by the side of its lower end
abbrev number : ℕ → Bool → ℕ
number dir low = if dir == 3 then (if low then 1 else 0) else (if low then 0 else 1)

abbrev triangle_of : (PlanePoint → Bool) → Segment → ℕ
triangle_of inside s = number s.from.dir (inside (lower s.from))

numbered : (inside : PlanePoint → Bool) (cell : PlanePoint) (s : Segment) (dir : ℕ) (low : Bool) → 1 ≤ dir → dir ≤ 3
    → IsTurn inside cell (left_triangle dir low).a (left_triangle dir low).b (left_triangle dir low).c s → triangle_of inside s ≡ number dir low
numbered inside cell s dir low some few turn =
    let at = starts_at inside cell s dir low some few turn in
    ap (λ (e : PlaneEdge). number e.dir (inside (lower e))) at.starts ∙ ap (number dir) at.is_low

in_first : (inside : PlanePoint → Bool) (cell : PlanePoint) (s : Segment) → Contains (segments_in inside cell (triangle 0 1 3)) s → triangle_of inside s ≡ 0
in_first inside cell s h = by (which_turn inside cell 0 1 3 s h)
  where
    by : IsTurn inside cell 0 1 3 s ⊎ (IsTurn inside cell 1 3 0 s ⊎ IsTurn inside cell 3 0 1 s) → triangle_of inside s ≡ 0
    by (inl t) = numbered inside cell s 1 true (omega arith) (omega arith) t
    by (inr (inl t)) = numbered inside cell s 2 true (omega arith) (omega arith) t
    by (inr (inr t)) = numbered inside cell s 3 false (omega arith) (omega arith) t

in_second : (inside : PlanePoint → Bool) (cell : PlanePoint) (s : Segment) → Contains (segments_in inside cell (triangle 0 3 2)) s → triangle_of inside s ≡ 1
in_second inside cell s h = by (which_turn inside cell 0 3 2 s h)
  where
    by : IsTurn inside cell 0 3 2 s ⊎ (IsTurn inside cell 3 2 0 s ⊎ IsTurn inside cell 2 0 3 s) → triangle_of inside s ≡ 1
    by (inl t) = numbered inside cell s 3 true (omega arith) (omega arith) t
    by (inr (inl t)) = numbered inside cell s 1 false (omega arith) (omega arith) t
    by (inr (inr t)) = numbered inside cell s 2 false (omega arith) (omega arith) t

cell_differs : (inside : PlanePoint → Bool) (cell : PlanePoint) → AllPairs Differ (cell_segments inside cell)
cell_differs inside cell =
    let second = segments_in inside cell (triangle 0 3 2) in
    let alone = append-nil second in
    joined_differ (segments_in inside cell (triangle 0 1 3)) (second ++ [])
    (triangle_differs inside cell (triangle 0 1 3))
    (subst (λ (l : List Segment). AllPairs Differ l) (sym alone) (triangle_differs inside cell (triangle 0 3 2)))
    (λ s here there.
    let p = in_first inside cell s here in
    let q = in_second inside cell s (subst (λ (l : List Segment). Contains l s) alone there) in
    absurd (omega (arith, p, q)))

-- ---- the segments of a grid

-- no two cells share one
same_cell : (inside : PlanePoint → Bool) (c d : PlanePoint) (s : Segment) → Contains (cell_segments inside c) s → Contains (cell_segments inside d) s → c ≡ d
same_cell inside c d s here there =
    sym (followed inside c s (turn_of inside c s here)).beside ∙ (followed inside d s (turn_of inside d s there)).beside

pub segments_are_distinct : SegmentsAreDistinct
unfolding segments
segments_are_distinct g =
    let inside = is_inside_at g in
    let at = cell_segments inside in
    let row = λ (y : ℕ). flat_map (λ x. at (point x y)) (range_with_len 0 g.n) in
    blocks_differ row
    (λ y. blocks_differ (λ x. at (point x y)) (λ x. cell_differs inside (point x y)) (λ i j s here there. ap (λ (p : PlanePoint). p.x) (same_cell inside (point i y) (point j y) s here there)) 0 g.n)
    (λ i j s here there.
    let c = from_flat (λ x. at (point x i)) (range_with_len 0 g.n) s here in
    let d = from_flat (λ x. at (point x j)) (range_with_len 0 g.n) s there in
    ap (λ (p : PlanePoint). p.y) (same_cell inside (point c.0 i) (point d.0 j) s c.2 d.2)) 0 g.n
