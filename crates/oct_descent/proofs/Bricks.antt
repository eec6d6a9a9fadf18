-- Where the values of points stand.
use Rattle.std.proofs.Common.{◌≡◌, ◌≢◌, ℕ, zero, suc, ◌+◌, ◌-◌, ◌*◌, ◌/◌, ◌%◌, ◌<◌, ◌≤◌, ℤ, Bool, true, false, cond, List, ◌++◌, length, get_or, set, replicate, take, refl, sym, ap, ◌∙◌, ◌⊎◌, inl, inr, arith}
use Rattle.std.specs.Prelude.{Option, is_some, unwrap_or, Some, None, IfSome, pos, nat_le, ◌&&◌}
use Rattle.std.proofs.lemmas.Bool.{and_parts, cases_lt, false≢true, le-leb, leb-true}
use Rattle.std.proofs.lemmas.List.{get_or-append_right, get_or-set_other, get_or-set_same, get_or-take, get_or_append_left, get_or_past, length-set, length-take, take_all}
use Rattle.std.proofs.lemmas.Nat.{mul-add-lt, same_from_place}
use Rattle.kuhn_cells.specs.Triangles.{GridPoint, further, point}
use Rattle.kuhn_cells.specs.declared.grid_size.GridSize.{GridSize}
use Rattle.oct_descent.proofs.Sizes.{size-none, size-then}
use Rattle.oct_descent.specs.Corners.{AreTogether, IsRow, places_to}
use Rattle.oct_descent.specs.Tables.{AreKept, IsSame, KeepsPlaces, Marks, PointValues, brick_of, is_known, is_within, known_at, read, read_at, same_point, slot, stand, stand_in}
use Rattle.oct_descent.proofs.TableLaws.{same-is, same-self}
use Rattle.oct_descent.specs.Known.{Sets}
use Rattle.oct_descent.specs.Kinds.{known_of}

-- ---- marks

pub replicate-false : (n k : ℕ) → get_or (replicate n false) k false ≡ false
replicate-false zero k = refl
replicate-false (suc n) zero = refl
replicate-false (suc n) (suc k) = replicate-false n k

pub replicate-none : (n k : ℕ) → ◌≡◌ {A = ℕ} (get_or (replicate n 0) k 0) 0
replicate-none zero k = refl
replicate-none (suc n) zero = refl
replicate-none (suc n) (suc k) = replicate-none n k

-- what has no mark is not known
pub read-unmarked : (b : Marks) (at : ℕ) → get_or b.known at false ≡ false → read b at ≡ None
read-unmarked b at e = rw e refl

pub read-marked : (b : Marks) (at : ℕ) → get_or b.known at false ≡ true → read b at ≡ Some (get_or b.values at (pos 0))
read-marked b at e = rw e refl

-- a place that is written is known, and all others stay
written-reads : (b : Marks) (at : ℕ) (v : ℤ) → at < length b.known → at < length b.values → read (record { known = set b.known at true; values = set b.values at v }) at ≡ Some v
written-reads b at v marks values =
    let a = get_or-set_same b.known at true false marks in
    let c = get_or-set_same b.values at v (pos 0) values in
    rw (a, c) refl

written-others : (b : Marks) (at k : ℕ) (v : ℤ) → k ≢ at → read (record { known = set b.known at true; values = set b.values at v }) k ≡ read b k
written-others b at k v other =
    let a = get_or-set_other b.known at k true false other in
    let c = get_or-set_other b.values at k v (pos 0) other in
    rw (a, c) refl

-- a list that is filled up begins as before
filled-old : {A : Type 0} (xs : List A) (n m k : ℕ) (v d : A) → k < n → k < length xs → get_or (take n xs ++ replicate m v) k d ≡ get_or xs k d
filled-old xs n m k v d below within =
    let some : k < length (take n xs) = omega (arith, length-take n xs, below, within) in
    get_or_append_left (take n xs) (replicate m v) d k some ∙ get_or-take n xs k d below

-- what stands behind has no mark
filled-new : (xs : List Bool) (n m k : ℕ) → length xs ≤ n → length xs ≤ k → get_or (take n xs ++ replicate m false) k false ≡ false
filled-new xs n m k all behind =
    ap (λ l. get_or (l ++ replicate m false) k false) (take_all n xs all) ∙ get_or-append_right xs (replicate m false) (length xs) k false refl behind ∙ replicate-false m (k - length xs)

marked-within : (xs : List Bool) (k : ℕ) → get_or xs k false ≡ true → k < length xs
marked-within xs k e = by (cases_lt k (length xs))
  where
    by : (k < length xs) ⊎ (length xs ≤ k) → k < length xs
    by (inl within) = within
    by (inr behind) = absurd (false≢true (sym (get_or_past xs k false behind) ∙ e))

-- where more values stand behind, the same are known
pub values-filled : (b : Marks) (n m k : ℕ) (v : ℤ) → length b.known ≤ n → length b.known ≤ length b.values → read (record { known = b.known; values = take n b.values ++ replicate m v }) k ≡ read b k
values-filled b n m k v more enough = by (get_or b.known k false) refl
  where
    by : (t : Bool) → get_or b.known k false ≡ t → read (record { known = b.known; values = take n b.values ++ replicate m v }) k ≡ read b k
    by false e = read-unmarked (record { known = b.known; values = take n b.values ++ replicate m v }) k e ∙ sym (read-unmarked b k e)
    by true e =
        let within : k < length b.known = marked-within b.known k e in
        read-marked (record { known = b.known; values = take n b.values ++ replicate m v }) k e
        ∙ ap Some (filled-old b.values n m k v (pos 0) (omega (arith, within, more)) (omega (arith, within, enough)))
        ∙ sym (read-marked b k e)

-- and so where marks that say nothing stand behind
pub marks-filled : (b : Marks) (n m k : ℕ) → length b.known ≤ n → read (record { known = take n b.known ++ replicate m false; values = b.values }) k ≡ read b k
marks-filled b n m k more = by (cases_lt k (length b.known))
  where
    by : (k < length b.known) ⊎ (length b.known ≤ k) → read (record { known = take n b.known ++ replicate m false; values = b.values }) k ≡ read b k
    by (inl within) = ap (λ t. cond t (Some (get_or b.values k (pos 0))) None) (filled-old b.known n m k false false (omega (arith, within, more)) within)
    by (inr behind) =
        read-unmarked (record { known = take n b.known ++ replicate m false; values = b.values }) k (filled-new b.known n m k more behind)
        ∙ sym (read-unmarked b k (get_or_past b.known k false behind))

pub behind-unknown : (b : Marks) (k : ℕ) → length b.known ≤ k → read b k ≡ None
behind-unknown b k behind = read-unmarked b k (get_or_past b.known k false behind)

read_at-same : (b after : Marks) (o : Option ℕ) → ((k : ℕ) → read after k ≡ read b k) → read_at after o ≡ read_at b o
read_at-same b after None same = refl
read_at-same b after (Some at) same = same at

-- ---- all bricks

pub within-from : (n : GridSize) (p : GridPoint) → p.x ≤ n.x → p.y ≤ n.y → p.z ≤ n.z → is_within n p ≡ true
within-from n p x y z = rw (le-leb p.x n.x x, le-leb p.y n.y y, le-leb p.z n.z z) refl

within-parts : (n : GridSize) (p : GridPoint) → is_within n p ≡ true → (p.x ≤ n.x) × ((p.y ≤ n.y) × (p.z ≤ n.z))
within-parts n p e =
    let x = and_parts (nat_le p.x n.x) (nat_le p.y n.y && nat_le p.z n.z) e in
    let yz = and_parts (nat_le p.y n.y) (nat_le p.z n.z) x.1 in
    (leb-true p.x n.x x.0, (leb-true p.y n.y yz.0, leb-true p.z n.z yz.1))

whole-from : (a b : ℕ) → a / 8 ≡ b / 8 → a % 8 ≡ b % 8 → a ≡ b
whole-from a b e f = omega (arith, e, f)

-- there are so many bricks along each axis
pub brick-within : (n : GridSize) (x y z rows in_row : ℕ) → rows ≡ n.y / 8 + 1 → in_row ≡ n.x / 8 + 1 → x ≤ n.x → y ≤ n.y → z ≤ n.z
    → (z / 8 * rows + y / 8) * in_row + x / 8 < (n.z / 8 + 1) * ((n.y / 8 + 1) * (n.x / 8 + 1))
brick-within n x y z rows in_row height width fx fy fz =
    let layers = n.z / 8 + 1 in
    let row : z / 8 * rows + y / 8 < rows * layers = mul-add-lt (z / 8) rows (y / 8) layers (omega (arith, fz)) (omega (arith, height, fy)) in
    let all : (z / 8 * rows + y / 8) * in_row + x / 8 < in_row * (rows * layers) = mul-add-lt (z / 8 * rows + y / 8) in_row (x / 8) (rows * layers) row (omega (arith, width, fx)) in
    let turned : in_row * (rows * layers) ≡ layers * (rows * in_row) = grind arith in
    let most : layers * (rows * in_row) ≡ layers * ((n.y / 8 + 1) * (n.x / 8 + 1)) = ap (λ r. layers * (r * in_row)) height ∙ ap (λ r. layers * ((n.y / 8 + 1) * r)) width in
    omega (arith, all, turned, most)

-- points that stand at one place of one brick are one
place-one : (n : GridSize) (p q : GridPoint) → is_within n p ≡ true → is_within n q ≡ true → brick_of n p ≡ brick_of n q → slot p ≡ slot q → p ≡ q
place-one n p q here there bricks slots =
    let a = within-parts n p here in
    let b = within-parts n q there in
    let row = same_from_place (p.z / 8 * (n.y / 8 + 1) + p.y / 8) (p.x / 8) (q.z / 8 * (n.y / 8 + 1) + q.y / 8) (q.x / 8) (n.x / 8 + 1) (omega (arith, a.0)) (omega (arith, b.0)) bricks in
    let layer = same_from_place (p.z / 8) (p.y / 8) (q.z / 8) (q.y / 8) (n.y / 8 + 1) (omega (arith, a.1.0)) (omega (arith, b.1.0)) row.0 in
    let inner = same_from_place (p.z % 8 * 8 + p.y % 8) (p.x % 8) (q.z % 8 * 8 + q.y % 8) (q.x % 8) 8 (omega arith) (omega arith) slots in
    let innermost = same_from_place (p.z % 8) (p.y % 8) (q.z % 8) (q.y % 8) 8 (omega arith) (omega arith) inner.0 in
    ap (λ (i : ℕ). point i p.y p.z) (whole-from p.x q.x row.1 inner.1)
    ∙ ap (λ (j : ℕ). point q.x j p.z) (whole-from p.y q.y layer.1 innermost.1)
    ∙ ap (λ (k : ℕ). point q.x q.y k) (whole-from p.z q.z layer.0 innermost.0)

-- where the value of a point stands
pub stand-none : (t : PointValues) (p : GridPoint) → get_or t.places (brick_of t.n p) 0 ≡ 0 → stand t p ≡ None
unfolding stand
stand-none t p e = ap (λ k. stand_in k (slot p)) e

pub stand-some : (t : PointValues) (p : GridPoint) (place : ℕ) → place ≡ get_or t.places (brick_of t.n p) 0 → 0 < place → stand t p ≡ Some ((place - 1) * 512 + slot p)
unfolding stand
stand-some t p place is some = ap (λ k. stand_in k (slot p)) (sym is) ∙ by place some
  where
    by : (place : ℕ) → 0 < place → stand_in place (slot p) ≡ Some ((place - 1) * 512 + slot p)
    by zero h = absurd (omega (arith, h))
    by (suc k) h = let less : k ≡ suc k - 1 = omega arith in ap (λ j. Some (j * 512 + slot p)) less

-- the place of a brick that has a value
pub stand-place : (t : PointValues) (p : GridPoint) (at : ℕ) → stand t p ≡ Some at → (0 < get_or t.places (brick_of t.n p) 0) × (at ≡ (get_or t.places (brick_of t.n p) 0 - 1) * 512 + slot p)
unfolding stand
stand-place t p at e = by (get_or t.places (brick_of t.n p) 0) e
  where
    by : (place : ℕ) → stand_in place (slot p) ≡ Some at → (0 < place) × (at ≡ (place - 1) * 512 + slot p)
    by zero h = absurd (false≢true (ap is_some h))
    by (suc k) h = (omega arith, let less : k ≡ suc k - 1 = omega arith in ap (λ o. unwrap_or o at) (sym h) ∙ ap (λ j. j * 512 + slot p) less)

pub roomless : (t : PointValues) (p : GridPoint) → stand t p ≡ None → get_or t.places (brick_of t.n p) 0 ≡ 0
unfolding stand
roomless t p e = by (get_or t.places (brick_of t.n p) 0) e
  where
    by : (place : ℕ) → stand_in place (slot p) ≡ None → place ≡ 0
    by zero h = refl
    by (suc k) h = absurd (false≢true (sym (ap is_some h)))

-- what is read of a point
pub reads : (t : PointValues) (p : GridPoint) (at : ℕ) → p.x ≤ t.n.x → p.y ≤ t.n.y → p.z ≤ t.n.z → stand t p ≡ Some at → read t.kept at ≡ known_at t p
unfolding known_at
reads t p at x y z is = sym (ap (λ w. cond w (read_at t.kept (stand t p)) None) (within-from t.n p x y z) ∙ ap (read_at t.kept) is)

-- nothing is known of a brick that is not kept
pub unkept-unknown : (t : PointValues) (p : GridPoint) → stand t p ≡ None → known_at t p ≡ None
unfolding known_at
unkept-unknown t p e = ap (λ o. cond (is_within t.n p) (read_at t.kept o) None) e ∙ by (is_within t.n p)
  where
    by : (w : Bool) → cond {A = Option ℤ} w None None ≡ None
    by true = refl
    by false = refl

pub none-known : (t : PointValues) (p : GridPoint) → ((k : ℕ) → get_or t.places k 0 ≡ 0) → known_at t p ≡ None
none-known t p none = unkept-unknown t p (stand-none t p (none (brick_of t.n p)))

same-or : (a b : ℕ) → (a ≡ b) ⊎ (a ≢ b)
same-or a b = by (cases_lt a b) (cases_lt b a)
  where
    by : (a < b) ⊎ (b ≤ a) → (b < a) ⊎ (a ≤ b) → (a ≡ b) ⊎ (a ≢ b)
    by (inl less) other = inr (λ same. omega (arith, less, same))
    by (inr more) (inl less) = inr (λ same. omega (arith, less, same))
    by (inr more) (inr most) = inl (omega (arith, more, most))

-- the same is known where the same is kept of the same bricks
pub kept-same : (t : PointValues) (after : Marks) → ((k : ℕ) → read after k ≡ read t.kept k) → IsSame t (record { n = t.n; places = t.places; kept = after })
unfolding known_at stand
kept-same t after same = record {
  n = size-none t.n;
  each = λ q. ap (λ o. cond (is_within t.n q) o None) (read_at-same t.kept after (stand_in (get_or t.places (brick_of t.n q) 0) (slot q)) same);
}

pub same-then : (before mid after : PointValues) → IsSame before mid → IsSame mid after → IsSame before after
same-then before mid after first second = record { n = size-then after.n mid.n before.n second.n first.n; each = λ q. second.each q ∙ first.each q }

-- a brick that is kept from now on, behind all that is known, changes nothing
pub brick-added : (t : PointValues) (at place : ℕ) → at < length t.places → get_or t.places at 0 ≡ 0 → ((k : ℕ) → place * 512 ≤ k → read t.kept k ≡ None)
    → IsSame t (record { n = t.n; places = set t.places at (place + 1); kept = t.kept })
unfolding known_at stand
brick-added t at place within none behind = record { n = size-none t.n; each = λ q. ap (λ o. cond (is_within t.n q) o None) (by q (same-or (brick_of t.n q) at)) }
  where
    by : (q : GridPoint) → (brick_of t.n q ≡ at) ⊎ (brick_of t.n q ≢ at)
        → read_at t.kept (stand_in (get_or (set t.places at (place + 1)) (brick_of t.n q) 0) (slot q)) ≡ read_at t.kept (stand_in (get_or t.places (brick_of t.n q) 0) (slot q))
    by q (inl here) =
        let now : get_or (set t.places at (place + 1)) (brick_of t.n q) 0 ≡ place + 1 = ap (λ k. get_or (set t.places at (place + 1)) k 0) here ∙ get_or-set_same t.places at (place + 1) 0 within in
        let before : get_or t.places (brick_of t.n q) 0 ≡ 0 = ap (λ k. get_or t.places k 0) here ∙ none in
        let next : place + 1 ≡ suc place = omega arith in
        ap (λ k. read_at t.kept (stand_in k (slot q))) (now ∙ next) ∙ behind (place * 512 + slot q) (omega arith) ∙ ap (λ k. read_at t.kept (stand_in k (slot q))) (sym before)
    by q (inr other) = ap (λ k. read_at t.kept (stand_in k (slot q))) (get_or-set_other t.places at (brick_of t.n q) (place + 1) 0 other)

-- and so does a brick whose points stand behind all others
pub brick-filled : (t : PointValues) (known : List Bool) (values : List ℤ) (start at m j : ℕ) (v : ℤ) → start ≡ length t.kept.known → AreKept t.places (length t.kept.known) (length t.kept.values)
    → at < length t.places → get_or t.places at 0 ≡ 0 → values ≡ take (start + 512) t.kept.values ++ replicate j v → known ≡ take (start + 512) t.kept.known ++ replicate m false
    → IsSame t (record { n = t.n; places = set t.places at (start / 512 + 1); kept = record { known = known; values = values } })
brick-filled t known values start at m j v len kept within none filled marked =
    same-then t (record { n = t.n; places = t.places; kept = after }) _ (kept-same t after same)
    (brick-added (record { n = t.n; places = t.places; kept = after }) at (start / 512) within none
    (λ k above. same k ∙ behind-unknown t.kept k (omega (arith, above, len, kept.whole))))
  where
    after : Marks
    after = record { known = known; values = values }

    same : (k : ℕ) → read after k ≡ read t.kept k
    same k =
        ap (λ l. read (record { known = l; values = values }) k) marked
        ∙ marks-filled (record { known = t.kept.known; values = values }) (start + 512) m k (omega (arith, len))
        ∙ ap (λ l. read (record { known = t.kept.known; values = l }) k) filled
        ∙ values-filled t.kept (start + 512) j k v (omega (arith, len)) kept.enough

-- where its points stand
pub brick-stands : (t : PointValues) (kept : Marks) (p : GridPoint) (start at : ℕ) → AreKept t.places (length t.kept.known) (length t.kept.values) → start ≡ length t.kept.known → at ≡ brick_of t.n p → at < length t.places
    → stand (record { n = t.n; places = set t.places at (start / 512 + 1); kept = kept }) p ≡ Some (start + slot p)
brick-stands t kept p start at are len brick within =
    let place : start / 512 + 1 ≡ get_or (set t.places at (start / 512 + 1)) (brick_of t.n p) 0
    = sym (ap (λ k. get_or (set t.places at (start / 512 + 1)) k 0) (sym brick) ∙ get_or-set_same t.places at (start / 512 + 1) 0 within) in
    let from : (start / 512 + 1 - 1) * 512 + slot p ≡ start + slot p = omega (arith, len, are.whole) in
    stand-some (record { n = t.n; places = set t.places at (start / 512 + 1); kept = kept }) p (start / 512 + 1) place (omega arith) ∙ ap Some from

-- the places of bricks, one of which is kept from now on
pub added-kept : (places : List ℕ) (marks values at place more : ℕ) → AreKept places marks values → get_or places at 0 ≡ 0 → place * 512 ≡ marks + 512 → marks + 512 ≤ more
    → AreKept (set places at place) (marks + 512) more
added-kept places marks values at place more kept none whole enough = record {
  whole = omega (arith, kept.whole);
  enough = enough;
  within = λ k. by k (same-or k at) (cases_lt at (length places));
  apart = λ j k e. part j k e (same-or j at) (same-or k at);
}
  where
    other : (k : ℕ) → k ≢ at → get_or (set places at place) k 0 ≡ get_or places k 0
    other k apart = get_or-set_other places at k place 0 apart

    -- what stands there now, the new place or nothing
    most : (k : ℕ) → k ≡ at → (at < length places) ⊎ (length places ≤ at) → (get_or (set places at place) k 0 ≡ place) ⊎ (get_or (set places at place) k 0 ≡ 0)
    most k here (inl within) = inl (ap (λ i. get_or (set places at place) i 0) here ∙ get_or-set_same places at place 0 within)
    most k here (inr past) = inr (get_or_past (set places at place) k 0 (omega (arith, here, past, length-set places at place)))

    by : (k : ℕ) → (k ≡ at) ⊎ (k ≢ at) → (at < length places) ⊎ (length places ≤ at) → get_or (set places at place) k 0 * 512 ≤ marks + 512
    by k (inr apart) l = omega (arith, other k apart, kept.within k)
    by k (inl here) l = bound (most k here l)
      where
        bound : (get_or (set places at place) k 0 ≡ place) ⊎ (get_or (set places at place) k 0 ≡ 0) → get_or (set places at place) k 0 * 512 ≤ marks + 512
        bound (inl e) = omega (arith, e, whole)
        bound (inr e) = omega (arith, e)

    -- another brick has no such place
    never : (j k : ℕ) → j ≡ at → k ≢ at → get_or (set places at place) j 0 ≡ get_or (set places at place) k 0 → get_or (set places at place) j 0 ≡ 0
    never j k here apart e = pick (most j here (cases_lt at (length places)))
      where
        pick : (get_or (set places at place) j 0 ≡ place) ⊎ (get_or (set places at place) j 0 ≡ 0) → get_or (set places at place) j 0 ≡ 0
        pick (inr none') = none'
        pick (inl is) = absurd (omega (arith, is, e, other k apart, kept.within k, whole))

    part : (j k : ℕ) → get_or (set places at place) j 0 ≡ get_or (set places at place) k 0 → (j ≡ at) ⊎ (j ≢ at) → (k ≡ at) ⊎ (k ≢ at) → (j ≡ k) ⊎ (get_or (set places at place) j 0 ≡ 0)
    part j k e (inl here) (inl there) = inl (here ∙ sym there)
    part j k e (inl here) (inr apart) = inr (never j k here apart e)
    part j k e (inr apart) (inl there) = inr (e ∙ never k j there apart (sym e))
    part j k e (inr a) (inr b) = old (kept.apart j k (sym (other j a) ∙ e ∙ other k b))
      where
        old : (j ≡ k) ⊎ (get_or places j 0 ≡ 0) → (j ≡ k) ⊎ (get_or (set places at place) j 0 ≡ 0)
        old (inl same) = inl same
        old (inr none') = inr (other j a ∙ none')

-- points whose values stand in one place are one
stand-one : (t : PointValues) (p q : GridPoint) (at : ℕ) → AreKept t.places (length t.kept.known) (length t.kept.values) → is_within t.n p ≡ true → is_within t.n q ≡ true
    → stand t p ≡ Some at → stand t q ≡ Some at → p ≡ q
stand-one t p q at kept here there first second =
    let a = stand-place t p at first in
    let b = stand-place t q at second in
    let places : get_or t.places (brick_of t.n p) 0 ≡ get_or t.places (brick_of t.n q) 0 = omega (arith, a.0, a.1, b.0, b.1, low p, low q) in
    let slots : slot p ≡ slot q = omega (arith, a.0, a.1, b.0, b.1, low p, low q) in
    by (kept.apart (brick_of t.n p) (brick_of t.n q) places) slots a.0
  where
    low : (r : GridPoint) → slot r < 512
    low r = omega arith

    by : (brick_of t.n p ≡ brick_of t.n q) ⊎ (get_or t.places (brick_of t.n p) 0 ≡ 0) → slot p ≡ slot q → 0 < get_or t.places (brick_of t.n p) 0 → p ≡ q
    by (inl same) slots some = place-one t.n p q here there same slots
    by (inr none) slots some = absurd (omega (arith, none, some))

-- what is written where the value of a point stands sets the point
pub brick-sets : (t : PointValues) (p : GridPoint) (v : ℤ) (at : ℕ) → AreKept t.places (length t.kept.known) (length t.kept.values) → is_within t.n p ≡ true → stand t p ≡ Some at → at < length t.kept.known
    → Sets p v (known_of t) (known_of (record { n = t.n; places = t.places; kept = record { known = set t.kept.known at true; values = set t.kept.values at v } }))
unfolding known_at stand
brick-sets t p v at kept inside is fits = record { n = size-none t.n; each = λ q. by q (same_point p q) refl (is_within t.n q) refl }
  where
    now : Marks
    now = record { known = set t.kept.known at true; values = set t.kept.values at v }

    made : PointValues
    made = record { n = t.n; places = t.places; kept = now }

    there : known_at made p ≡ Some v
    there =
        ap (λ w. cond w (read_at now (stand t p)) None) inside ∙ ap (read_at now) is ∙ written-reads t.kept at v fits (omega (arith, fits, kept.enough))

    -- a point of another place
    elsewhere : (q : GridPoint) (o : Option ℕ) → stand t q ≡ o → same_point p q ≡ false → is_within t.n q ≡ true → read_at now o ≡ read_at t.kept o
    elsewhere q None e f w = refl
    elsewhere q (Some k) e f w =
        written-others t.kept at k v (λ same. false≢true (sym f ∙ ap (same_point p) (sym (stand-one t p q at kept inside w is (e ∙ ap Some same))) ∙ same-self p))

    by : (q : GridPoint) (s : Bool) → same_point p q ≡ s → (w : Bool) → is_within t.n q ≡ w → known_at made q ≡ cond s (Some v) (known_at t q)
    by q true e w f = ap (known_at made) (sym (same-is p q e)) ∙ there
    by q false e false f = rw f refl
    by q false e true f = ap (λ o. cond (is_within t.n q) o None) (elsewhere q (stand t q) refl e f)

-- where there is no place, no point of the brick is known
pub roomless-unknown : (t : PointValues) (p q : GridPoint) → stand t p ≡ None → brick_of t.n q ≡ brick_of t.n p → is_known (known_at t q) ≡ false
roomless-unknown t p q e same = ap is_known (unkept-unknown t q (stand-none t q (ap (λ k. get_or t.places k 0) same ∙ roomless t p e)))

-- a part of a place that does not end its brick
next-part : (i b : ℕ) → i % 8 ≢ 7 → b < 2 → ((i + b) / 8 ≡ i / 8) × ((i + b) % 8 ≡ i % 8 + b)
next-part i b inner bit = by b bit
  where
    by : (b : ℕ) → b < 2 → ((i + b) / 8 ≡ i / 8) × ((i + b) % 8 ≡ i % 8 + b)
    by zero h = (omega arith, omega arith)
    by (suc zero) h = let less : i % 8 < 7 = below i inner in (omega (arith, less), omega (arith, less))
      where
        below : (i : ℕ) → i % 8 ≢ 7 → i % 8 < 7
        below i apart = pick (cases_lt (i % 8) 7)
          where
            pick : (i % 8 < 7) ⊎ (7 ≤ i % 8) → i % 8 < 7
            pick (inl less) = less
            pick (inr more) = absurd (apart (omega (arith, more)))
    by (suc (suc b)) h = absurd (omega (arith, h))

-- eight points along x stand in one brick, from one on that begins it
pub row-is : (t : PointValues) (p : GridPoint) (start : ℕ) → AreKept t.places (length t.kept.known) (length t.kept.values) → p.y ≤ t.n.y → p.z ≤ t.n.z → p.x % 8 ≡ 0 → stand t p ≡ Some start → IsRow t p start
row-is t p start kept y z first is = record { within = omega (arith, at.0, at.1, first, kept.within (brick_of t.n p)); each = each }
  where
    at : (0 < get_or t.places (brick_of t.n p) 0) × (start ≡ (get_or t.places (brick_of t.n p) 0 - 1) * 512 + slot p)
    at = stand-place t p start is

    each : (i : ℕ) → i < 8 → p.x + i ≤ t.n.x → read t.kept (start + i) ≡ known_at t (point (p.x + i) p.y p.z)
    each i few x =
        let q = point (p.x + i) p.y p.z in
        let column : (p.x + i) / 8 ≡ p.x / 8 = omega (arith, first, few) in
        let brick : brick_of t.n q ≡ brick_of t.n p = rw column refl in
        let place = get_or t.places (brick_of t.n p) 0 in
        let here : start + i ≡ (place - 1) * 512 + slot q = omega (arith, at.1, first, few) in
        reads t q (start + i) x y z (stand-some t q place (ap (λ k. get_or t.places k 0) (sym brick)) at.0 ∙ ap Some (sym here))

-- the corners of a cell that do not end their brick stand in one
pub together-is : (t : PointValues) (p : GridPoint) (first : ℕ) → AreKept t.places (length t.kept.known) (length t.kept.values) → p.x < t.n.x → p.y < t.n.y → p.z < t.n.z
    → stand t p ≡ Some first → p.x % 8 ≢ 7 → p.y % 8 ≢ 7 → p.z % 8 ≢ 7 → AreTogether t p first
together-is t p first kept x y z is ix iy iz = record {
  within =
      omega (
        arith,
        at.0,
        at.1,
        kept.within (brick_of t.n p),
        (next-part p.x 1 ix (omega arith)).1,
        (next-part p.y 1 iy (omega arith)).1,
        (next-part p.z 1 iz (omega arith)).1,
      );
  stands = stands;
}
  where
    at : (0 < get_or t.places (brick_of t.n p) 0) × (first ≡ (get_or t.places (brick_of t.n p) 0 - 1) * 512 + slot p)
    at = stand-place t p first is

    stands : (c : ℕ) → c < 8 → stand t (further p c) ≡ Some (first + places_to c)
    stands c few =
        let q = further p c in
        let a = next-part p.x (c % 2) ix (omega arith) in
        let b = next-part p.y (c / 2 % 2) iy (omega arith) in
        let d = next-part p.z (c / 4 % 2) iz (omega arith) in
        let brick : brick_of t.n q ≡ brick_of t.n p = rw (a.0, b.0, d.0) refl in
        let place = get_or t.places (brick_of t.n p) 0 in
        let here : first + (c / 4 % 2 * 64 + c / 2 % 2 * 8 + c % 2) ≡ (place - 1) * 512 + slot q = omega (arith, at.1, a.1, b.1, d.1) in
        stand-some t q place (ap (λ k. get_or t.places k 0) (sym brick)) at.0 ∙ ap Some (sym here)

-- and go on to
pub together-stays : (t after : PointValues) (p : GridPoint) (o : Option ℕ) → KeepsPlaces t after → IfSome o (AreTogether t p) → IfSome o (AreTogether after p)
together-stays t after p None keeps h = tt
together-stays t after p (Some first) keeps h = record {
  within = omega (arith, h.within, keeps.more);
  stands = λ c few. keeps.each (further p c) (first + places_to c) (h.stands c few);
}

-- what stands somewhere stays there where a brick is added
pub added-keeps : (t : PointValues) (kept : Marks) (at place : ℕ) → get_or t.places at 0 ≡ 0 → length t.kept.known ≤ length kept.known
    → KeepsPlaces t (record { n = t.n; places = set t.places at place; kept = kept })
added-keeps t kept at place none more = record { n = size-none t.n; more = more; each = λ q i is. by q i is (same-or (brick_of t.n q) at) }
  where
    after : PointValues
    after = record { n = t.n; places = set t.places at place; kept = kept }

    by : (q : GridPoint) (i : ℕ) → stand t q ≡ Some i → (brick_of t.n q ≡ at) ⊎ (brick_of t.n q ≢ at) → stand after q ≡ Some i
    by q i is (inl here) = absurd (omega (arith, (stand-place t q i is).0, ap (λ k. get_or t.places k 0) here, none))
    by q i is (inr other) =
        let b = stand-place t q i is in
        let stays : get_or t.places (brick_of t.n q) 0 ≡ get_or (set t.places at place) (brick_of t.n q) 0 = sym (get_or-set_other t.places at (brick_of t.n q) place 0 other) in
        stand-some after q (get_or t.places (brick_of t.n q) 0) stays b.0 ∙ ap Some (sym b.1)

-- and where other values are kept
pub kept-keeps : (t : PointValues) (kept : Marks) → length t.kept.known ≤ length kept.known → KeepsPlaces t (record { n = t.n; places = t.places; kept = kept })
unfolding stand
kept-keeps t kept more = record { n = size-none t.n; more = more; each = λ q i is. is }

pub keeps-then : (before mid after : PointValues) → KeepsPlaces before mid → KeepsPlaces mid after → KeepsPlaces before after
keeps-then before mid after first second = record {
  n = size-then after.n mid.n before.n second.n first.n;
  more = omega (arith, first.more, second.more);
  each = λ q at is. second.each q at (first.each q at is);
}

pub keeps-none : (t : PointValues) → KeepsPlaces t t
keeps-none t = record { n = size-none t.n; more = omega arith; each = λ q at is. is }
