-- The number of a vertex is its place among all.
use Rattle.std.proofs.Common.{◌≡◌, ℕ, zero, suc, ◌+◌, ◌-◌, ◌*◌, ◌/◌, ◌%◌, ◌<◌, ◌≤◌, Bool, true, false, cond, List, [], ◌∷◌, ◌++◌, refl, arith, ◌∙◌, ap, subst, sym, inl, inr, length, get_or}
use Rattle.std.specs.Prelude.{◌⊎◌, ◌==◌, All, count_by, flat_map, map, nat_lt, if◌then◌else◌}
use Rattle.std.specs.List.{range_with_len}
use Rattle.std.proofs.Math.Nat.{div-lt_iff_lt-mul, mul-le-mul_left}
use Rattle.std.proofs.lemmas.Bool.{cases_lt, false≢true}
use Rattle.std.proofs.lemmas.List.{append-nil, get_or-append-add, get_or-map, length-append, length-map}
use Rattle.std.proofs.lemmas.List.Concat.{flat_map-append}
use Rattle.std.proofs.lemmas.Nat.{div-add-mod', mod_below}
use Rattle.kuhn_cells.specs.Arrangement.{differ}
use Rattle.kuhn_cells.specs.Triangles.{has_sign}
use Rattle.plane_loops.specs.Following.{cell_at, edges_at, edges_before, mixed_directions, number_by, place_of, rank_of}
use Rattle.plane_loops.specs.Planes.{PlaneEdge, PlanePoint, edge_from, lower}
use Rattle.plane_loops.specs.Steps.{IsInGrid}
use Rattle.plane_loops.proofs.Squares.{cell_is}
use Rattle.plane_loops.proofs.TurnLaws.{each_dir}
use Rattle.fixed_ops.proofs.Lists.{range_append, range_step}

-- ---- the directions of a cell that hold a vertex

-- whether the edge in a direction holds one
abbrev pub flag : ℕ → ℕ → Bool
flag signs dir = differ (has_sign signs 0) (has_sign signs dir)

-- those of three that are flagged
abbrev pub kept : {A : Type 0} → A → A → A → Bool → Bool → Bool → List A
kept x y z a b c = cond a (x ∷ cond b (y ∷ cond c (z ∷ []) []) (cond c (z ∷ []) [])) (cond b (y ∷ cond c (z ∷ []) []) (cond c (z ∷ []) []))

abbrev directions_by : Bool → Bool → Bool → List ℕ
directions_by a b c = kept 1 2 3 a b c

abbrev lesser : ℕ → List ℕ → ℕ
lesser dir dirs = count_by (λ d. nat_lt d dir) dirs

record IsRanked (dirs : List ℕ) (dir : ℕ) : Type 0 where
  within : lesser dir dirs < length dirs
  here : get_or dirs (lesser dir dirs) 0 ≡ dir

ranked_first : (a b c : Bool) → a ≡ true → IsRanked (directions_by a b c) 1
ranked_first true true true h = record { within = omega arith; here = refl }
ranked_first true true false h = record { within = omega arith; here = refl }
ranked_first true false true h = record { within = omega arith; here = refl }
ranked_first true false false h = record { within = omega arith; here = refl }
ranked_first false b c h = absurd (false≢true h)

ranked_second : (a b c : Bool) → b ≡ true → IsRanked (directions_by a b c) 2
ranked_second true true true h = record { within = omega arith; here = refl }
ranked_second true true false h = record { within = omega arith; here = refl }
ranked_second false true true h = record { within = omega arith; here = refl }
ranked_second false true false h = record { within = omega arith; here = refl }
ranked_second a false c h = absurd (false≢true h)

ranked_third : (a b c : Bool) → c ≡ true → IsRanked (directions_by a b c) 3
ranked_third true true true h = record { within = omega arith; here = refl }
ranked_third true false true h = record { within = omega arith; here = refl }
ranked_third false true true h = record { within = omega arith; here = refl }
ranked_third false false true h = record { within = omega arith; here = refl }
ranked_third a b false h = absurd (false≢true h)

ranked : (signs dir : ℕ) → 1 ≤ dir → dir ≤ 3 → flag signs dir ≡ true → IsRanked (mixed_directions signs) dir
ranked signs dir some few =
    each_dir (λ d. flag signs d ≡ true → IsRanked (mixed_directions signs) d) (ranked_first (flag signs 1) (flag signs 2) (flag signs 3)) (ranked_second (flag signs 1) (flag signs 2) (flag signs 3)) (ranked_third (flag signs 1) (flag signs 2) (flag signs 3)) dir some few

-- what holds of all edges from a cell that hold a vertex holds of one of them
pub of_mixed : (P : PlaneEdge → Type 0) (p : PlanePoint) (signs dir : ℕ) → All P (map (edge_from p) (mixed_directions signs)) → 1 ≤ dir → dir ≤ 3 → flag signs dir ≡ true → P (edge_from p dir)
of_mixed P p signs dir h some few mixed =
    let r = ranked signs dir some few mixed in
    let dirs = mixed_directions signs in
    let long = length-map dirs (edge_from p) in
    let k = r.within in
    let e = get_or-map (edge_from p) dirs (lesser dir dirs) 0 (edge_from p dir) r.within ∙ ap (edge_from p) r.here in
    subst P e (h (lesser dir dirs) (edge_from p dir) (omega (arith, k, long)))

abbrev flag_of : Bool → Bool → Bool → ℕ → Bool
flag_of a b c dir = if dir == 1 then a else (if dir == 2 then b else c)

-- a direction at a place among those that are flagged
record IsListed (dirs : List ℕ) (a b c : Bool) (j : ℕ) : Type 0 where
  some : 1 ≤ get_or dirs j 0
  few : get_or dirs j 0 ≤ 3
  rank : lesser (get_or dirs j 0) dirs ≡ j
  flagged : flag_of a b c (get_or dirs j 0) ≡ true

listed : (a b c : Bool) (j : ℕ) → j < length (directions_by a b c) → IsListed (directions_by a b c) a b c j
listed true true true zero h = record { some = omega arith; few = omega arith; rank = refl; flagged = refl }
listed true true true (suc zero) h = record { some = omega arith; few = omega arith; rank = refl; flagged = refl }
listed true true true (suc (suc zero)) h = record { some = omega arith; few = omega arith; rank = refl; flagged = refl }
listed true true true (suc (suc (suc j))) h = absurd (omega (arith, h))
listed true true false zero h = record { some = omega arith; few = omega arith; rank = refl; flagged = refl }
listed true true false (suc zero) h = record { some = omega arith; few = omega arith; rank = refl; flagged = refl }
listed true true false (suc (suc j)) h = absurd (omega (arith, h))
listed true false true zero h = record { some = omega arith; few = omega arith; rank = refl; flagged = refl }
listed true false true (suc zero) h = record { some = omega arith; few = omega arith; rank = refl; flagged = refl }
listed true false true (suc (suc j)) h = absurd (omega (arith, h))
listed true false false zero h = record { some = omega arith; few = omega arith; rank = refl; flagged = refl }
listed true false false (suc j) h = absurd (omega (arith, h))
listed false true true zero h = record { some = omega arith; few = omega arith; rank = refl; flagged = refl }
listed false true true (suc zero) h = record { some = omega arith; few = omega arith; rank = refl; flagged = refl }
listed false true true (suc (suc j)) h = absurd (omega (arith, h))
listed false true false zero h = record { some = omega arith; few = omega arith; rank = refl; flagged = refl }
listed false true false (suc j) h = absurd (omega (arith, h))
listed false false true zero h = record { some = omega arith; few = omega arith; rank = refl; flagged = refl }
listed false false true (suc j) h = absurd (omega (arith, h))
listed false false false j h = absurd (omega (arith, h))

flag_is : (signs dir : ℕ) → 1 ≤ dir → dir ≤ 3 → flag_of (flag signs 1) (flag signs 2) (flag signs 3) dir ≡ true → flag signs dir ≡ true
flag_is signs dir some few =
    each_dir (λ d. flag_of (flag signs 1) (flag signs 2) (flag signs 3) d ≡ true → flag signs d ≡ true) (λ h. h) (λ h. h) (λ h. h) dir some few

few_directions : (a b c : Bool) → length (directions_by a b c) ≤ 3
few_directions true true true = omega arith
few_directions true true false = omega arith
few_directions true false true = omega arith
few_directions true false false = omega arith
few_directions false true true = omega arith
few_directions false true false = omega arith
few_directions false false true = omega arith
few_directions false false false = omega arith

-- ---- the edges of the cells, one cell after the other

pub before_none : (n : ℕ) (signs : List ℕ) → edges_before n signs 0 ≡ []
unfolding edges_before
before_none n signs = refl

pub before_more : (n : ℕ) (signs : List ℕ) (k : ℕ) → edges_before n signs (suc k) ≡ edges_before n signs k ++ edges_at n signs k
unfolding edges_before
before_more n signs k =
    let f = edges_at n signs in
    let e : suc k ≡ k + 1 = omega arith in
    let z : 0 + k ≡ k = omega arith in
    ap (λ m. flat_map f (range_with_len 0 m)) e ∙ ap (flat_map f) (range_append 0 k 1) ∙ flat_map-append f (range_with_len 0 k) (range_with_len (0 + k) 1) ∙ ap (λ a. flat_map f (range_with_len 0 k) ++ flat_map f (range_with_len a 1)) z ∙ ap (λ l. flat_map f (range_with_len 0 k) ++ l) (append-nil (f k))

pub split_at : (n : ℕ) (signs : List ℕ) (all k : ℕ) → k < all → edges_before n signs all ≡ edges_before n signs k ++ (edges_at n signs k ++ flat_map (edges_at n signs) (range_with_len (k + 1) (all - (k + 1))))
unfolding edges_before
split_at n signs all k few =
    let f = edges_at n signs in
    let e : all ≡ k + (all - k) = omega (arith, few) in
    let z : 0 + k ≡ k = omega arith in
    ap (λ m. flat_map f (range_with_len 0 m)) e ∙ ap (flat_map f) (range_append 0 k (all - k)) ∙ flat_map-append f (range_with_len 0 k) (range_with_len (0 + k) (all - k)) ∙ ap (λ l. flat_map f (range_with_len 0 k) ++ flat_map f l) (ap (λ a. range_with_len a (all - k)) z ∙ range_step all k few)

pub few_before : (n : ℕ) (signs : List ℕ) (k : ℕ) → length (edges_before n signs k) ≤ 3 * k
few_before n signs zero = let e = ap length (before_none n signs) in omega (arith, e)
few_before n signs (suc k) =
    let e = ap length (before_more n signs k) ∙ length-append (edges_before n signs k) (edges_at n signs k) in
    let s = get_or signs k 0 in
    let f = length-map (mixed_directions s) (edge_from (cell_at n k)) in
    let g = few_directions (flag s 1) (flag s 2) (flag s 3) in
    let h = few_before n signs k in
    omega (arith, e, f, g, h)

get_left : {A : Type 0} (xs ys : List A) (r : ℕ) (d : A) → r < length xs → get_or (xs ++ ys) r d ≡ get_or xs r d
get_left [] ys r d h = absurd (omega (arith, h))
get_left (x ∷ xs) ys zero d h = refl
get_left (x ∷ xs) ys (suc r) d h = get_left xs ys r d (omega (arith, h))

-- the edge at a place among those of a cell
at_cell : (n : ℕ) (signs : List ℕ) (all k r : ℕ) (d : PlaneEdge) → k < all → r < length (mixed_directions (get_or signs k 0)) → get_or (edges_before n signs all) (length (edges_before n signs k) + r) d ≡ edge_from (cell_at n k) (get_or (mixed_directions (get_or signs k 0)) r 0)
at_cell n signs all k r d few small =
    let dirs = mixed_directions (get_or signs k 0) in
    let rest = flat_map (edges_at n signs) (range_with_len (k + 1) (all - (k + 1))) in
    let long = length-map dirs (edge_from (cell_at n k)) in
    ap (λ l. get_or l (length (edges_before n signs k) + r) d) (split_at n signs all k few)
    ∙ get_or-append-add (edges_before n signs k) (edges_at n signs k ++ rest) r d
    ∙ get_left (edges_at n signs k) rest r d (omega (arith, small, long))
    ∙ get_or-map (edge_from (cell_at n k)) dirs r 0 d small

cell_long : (n : ℕ) (signs : List ℕ) (all k r : ℕ) → k < all → r < length (mixed_directions (get_or signs k 0)) → length (edges_before n signs k) + r < length (edges_before n signs all)
cell_long n signs all k r few small =
    let dirs = mixed_directions (get_or signs k 0) in
    let rest = flat_map (edges_at n signs) (range_with_len (k + 1) (all - (k + 1))) in
    let a = ap length (split_at n signs all k few) in
    let b = length-append (edges_before n signs k) (edges_at n signs k ++ rest) in
    let c = length-append (edges_at n signs k) rest in
    let e = length-map dirs (edge_from (cell_at n k)) in
    omega (arith, a, b, c, e, small)

-- ---- from an edge to its number

pub place_less : (n x y : ℕ) → x < n → y < n → y * n + x < n * n
place_less n x y fx fy = let h : n * (y + 1) ≤ n * n = mul-le-mul_left n (omega (arith, fy)) in omega (arith, h, fx)

pub record IsNumbered (n : ℕ) (signs : List ℕ) (e : PlaneEdge) : Type 0 where
  pub within : number_by n signs e < length (edges_before n signs (n * n))
  pub here : (d : PlaneEdge) → get_or (edges_before n signs (n * n)) (number_by n signs e) d ≡ e

pub numbered : (n : ℕ) (signs : List ℕ) (e : PlaneEdge) → IsInGrid n e → flag (get_or signs (place_of n (lower e)) 0) e.dir ≡ true → IsNumbered n signs e
numbered n signs e h mixed =
    let k = place_of n (lower e) in
    let few = place_less n e.x e.y h.x h.y in
    let r = ranked (get_or signs k 0) e.dir h.some h.few mixed in
    record {
      within = cell_long n signs (n * n) k (rank_of (get_or signs k 0) e.dir) few r.within;
      here = λ d. at_cell n signs (n * n) k (rank_of (get_or signs k 0) e.dir) d few r.within ∙ ap (edge_from (cell_at n k)) r.here ∙ ap (λ p. edge_from p e.dir) (cell_is n e.x e.y h.x);
    }

-- ---- from a number to its edge

record IsLocated (n : ℕ) (signs : List ℕ) (all u : ℕ) : Type 0 where
  cell : ℕ
  rank : ℕ
  few : cell < all
  small : rank < length (mixed_directions (get_or signs cell 0))
  whole : u ≡ length (edges_before n signs cell) + rank

located : (n : ℕ) (signs : List ℕ) (all u : ℕ) → u < length (edges_before n signs all) → IsLocated n signs all u
located n signs zero u h = let e = ap length (before_none n signs) in absurd (omega (arith, h, e))
located n signs (suc k) u h =
    by (cases_lt u (length (edges_before n signs k))) (λ less. located n signs k u less)
  where
    by : (u < length (edges_before n signs k)) ⊎ (length (edges_before n signs k) ≤ u) → (u < length (edges_before n signs k) → IsLocated n signs k u) → IsLocated n signs (suc k) u
    by (inl less) go =
        let l = go less in
        let few = l.few in
        record { cell = l.cell; rank = l.rank; few = omega (arith, few); small = l.small; whole = l.whole }
    by (inr most) go =
        let e = ap length (before_more n signs k) ∙ length-append (edges_before n signs k) (edges_at n signs k) in
        let f = length-map (mixed_directions (get_or signs k 0)) (edge_from (cell_at n k)) in
        record {
          cell = k;
          rank = u - length (edges_before n signs k);
          few = omega arith;
          small = omega (arith, e, f, h, most);
          whole = omega (arith, most);
        }

pub record HasEdge (n : ℕ) (signs : List ℕ) (u : ℕ) : Type 0 where
  pub held : PlaneEdge
  pub here : (d : PlaneEdge) → get_or (edges_before n signs (n * n)) u d ≡ held
  pub number : number_by n signs held ≡ u
  pub in_grid : IsInGrid n held
  pub mixed : flag (get_or signs (place_of n (lower held)) 0) held.dir ≡ true

pub has_edge : (n : ℕ) (signs : List ℕ) (u : ℕ) → u < length (edges_before n signs (n * n)) → HasEdge n signs u
has_edge n signs u h =
    let l = located n signs (n * n) u h in
    let k = l.cell in
    let s = get_or signs k 0 in
    let dir = get_or (mixed_directions s) l.rank 0 in
    let is = listed (flag s 1) (flag s 2) (flag s 3) l.rank l.small in
    let place : k / n * n + k % n ≡ k = div-add-mod' k n in
    let few = l.few in
    let some : 0 < n = positive n k few in
    record {
      held = edge_from (cell_at n k) dir;
      here = λ d. ap (λ i. get_or (edges_before n signs (n * n)) i d) l.whole ∙ at_cell n signs (n * n) k l.rank d few l.small;
      number = ap (λ p. length (edges_before n signs p) + rank_of (get_or signs p 0) dir) place ∙ ap (λ r. length (edges_before n signs k) + r) is.rank ∙ sym l.whole;
      in_grid = record { x = mod_below k n some; y = (div-lt_iff_lt-mul {k = n} {x = k} {y = n} some).1 few; some = is.some; few = is.few };
      mixed = ap (λ p. flag (get_or signs p 0) dir) place ∙ flag_is s dir is.some is.few is.flagged;
    }
  where
    positive : (n k : ℕ) → k < n * n → 0 < n
    positive zero k few = absurd (omega (arith, few))
    positive (suc n) k few = omega arith
