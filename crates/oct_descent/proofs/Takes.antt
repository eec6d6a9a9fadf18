-- What taking over values leaves.
use Rattle.std.proofs.Common.{◌≡◌, ℕ, ◌+◌, ◌-◌, ◌*◌, ◌/◌, ◌%◌, ◌<◌, ◌≤◌, ℤ, Bool, true, false, cond, length, get_or, refl, sym, ap, subst, ◌∙◌, ◌⊎◌, inl, inr, arith}
use Rattle.std.specs.Prelude.{is_some, Option, Some, None}
use Rattle.std.proofs.lemmas.Bool.{cases_lt, false≢true}
use Rattle.kuhn_cells.specs.Triangles.{GridPoint, point}
use Rattle.view_places.specs.Boxes.{Indices}
use Rattle.view_places.specs.Window.{Window}
use Rattle.oct_descent.specs.Tables.{AreKept, IsSame, IsUniform, PointValues, brick_of, is_known, is_within, known_at, read, same_point, slot, stand}
use Rattle.oct_descent.specs.Taking.{IsInLayer, IsInRow, IsTaken, TakesAll, TakesOver, TakesPart, TakesSome, TakesValue, known_or}
use Rattle.oct_descent.specs.Ways.{Covers, cell_box, gridded}
use Rattle.oct_descent.proofs.Bricks.{roomless-unknown, stand-place, stand-some}
use Rattle.oct_descent.proofs.Covered.{corner-covered}
use Rattle.oct_descent.proofs.Sizes.{size-none, size-then}
use Rattle.oct_descent.proofs.TableLaws.{same-is, same-self}
use Rattle.oct_descent.specs.Known.{AllKnown, AreRight, AreSettled, Grows, IsNew, Sets}
use Rattle.oct_descent.specs.Kinds.{known_of}

-- an option is known or not
known-or_none : (o : Option ℤ) → (is_known o ≡ true) ⊎ (o ≡ None)
known-or_none None = inr refl
known-or_none (Some v) = inl refl

none-unknown : (o : Option ℤ) → o ≡ None → is_known o ≡ true → ⊥
none-unknown o none known = false≢true (sym (ap is_known none) ∙ known)

-- nothing is taken
pub takes-none : (among : GridPoint → Type 0) (old t : PointValues) → TakesSome among old t t
takes-none among old t = record { n = size-none t.n; each = λ p. inl refl }

-- what is known stays known
pub taken-known : (among : GridPoint → Type 0) (old before after : PointValues) (p : GridPoint) → TakesSome among old before after → is_known (known_at before p) ≡ true → is_known (known_at after p) ≡ true
taken-known among old before after p takes known = by (takes.each p)
  where
    by : (known_at after p ≡ known_at before p) ⊎ IsTaken among old before after p → is_known (known_at after p) ≡ true
    by (inl stays) = ap is_known stays ∙ known
    by (inr taken) = absurd (none-unknown (known_at before p) taken.unknown known)

-- some points, and then some others
pub takes-then : (among : GridPoint → Type 0) (old before mid after : PointValues) → TakesSome among old before mid → TakesSome among old mid after → TakesSome among old before after
takes-then among old before mid after first second = record {
  n = size-then after.n mid.n before.n second.n first.n;
  each = λ p. by p (first.each p) (second.each p);
}
  where
    by : (p : GridPoint) → (known_at mid p ≡ known_at before p) ⊎ IsTaken among old before mid p → (known_at after p ≡ known_at mid p) ⊎ IsTaken among old mid after p
        → (known_at after p ≡ known_at before p) ⊎ IsTaken among old before after p
    by p (inl was) (inl stays) = inl (stays ∙ was)
    by p (inl was) (inr taken) = inr (record { unknown = sym was ∙ taken.unknown; one = taken.one; value = taken.value })
    by p (inr taken) (inl stays) = inr (record { unknown = taken.unknown; one = taken.one; value = stays ∙ taken.value })
    by p (inr first') (inr taken) = inr (record { unknown = first'.unknown; one = taken.one; value = taken.value })

-- fewer points are among more
pub takes-wider : (few more : GridPoint → Type 0) (old before after : PointValues) → ((p : GridPoint) → few p → more p) → TakesSome few old before after → TakesSome more old before after
takes-wider few more old before after wider takes = record { n = takes.n; each = λ p. by p (takes.each p) }
  where
    by : (p : GridPoint) → (known_at after p ≡ known_at before p) ⊎ IsTaken few old before after p → (known_at after p ≡ known_at before p) ⊎ IsTaken more old before after p
    by p (inl stays) = inl stays
    by p (inr taken) = inr (record { unknown = taken.unknown; one = wider p taken.one; value = taken.value })

-- all of some points, and then all of others
pub takes-both : (first second all : GridPoint → Type 0) (old before mid after : PointValues) → ((p : GridPoint) → first p → all p) → ((p : GridPoint) → second p → all p) → ((p : GridPoint) → all p → first p ⊎ second p)
    → TakesAll first old before mid → TakesAll second old mid after → TakesAll all old before after
takes-both first second all old before mid after one two parts was now = record {
  some = takes-then all old before mid after (takes-wider first all old before mid one was.some) (takes-wider second all old mid after two now.some);
  all = λ p among known. by p known (parts p among);
}
  where
    by : (p : GridPoint) → is_known (known_at old p) ≡ true → first p ⊎ second p → is_known (known_at after p) ≡ true
    by p known (inl a) = taken-known second old mid after p now.some (was.all p a known)
    by p known (inr b) = now.all p b known

-- where what is known elsewhere is right, right values are taken over
pub takes-grows : (g : GridPoint → ℤ) (b : Indices) (old before after : PointValues) → AreRight g b (known_of old) → TakesPart b old before after → Grows g b (known_of before) (known_of after)
takes-grows g b old before after right takes = record { n = takes.n; each = λ p. by p (takes.each p) }
  where
    by : (p : GridPoint) → (known_at after p ≡ known_at before p) ⊎ IsTaken (Covers b) old before after p → (known_at after p ≡ known_at before p) ⊎ IsNew g b (known_of before) (known_of after) p
    by p (inl stays) = inl stays
    by p (inr taken) = told (known-or_none (known_at old p))
      where
        told : (is_known (known_at old p) ≡ true) ⊎ (known_at old p ≡ None) → (known_at after p ≡ known_at before p) ⊎ IsNew g b (known_of before) (known_of after) p
        told (inl known) = inr (record { unknown = taken.unknown; covered = taken.one; value = taken.value ∙ right p taken.one known })
        told (inr none) = inl (taken.value ∙ none ∙ sym taken.unknown)

-- and where its cells are settled elsewhere, they are then
pub takes-settled : (view : Window) (g : GridPoint → ℤ) (b : Indices) (old before after : PointValues) → AreSettled (gridded view) g b (known_of old) → TakesOver b old before after → AreSettled (gridded view) g b (known_of after)
takes-settled view g b old before after settled takes s lies = by (settled s lies)
  where
    by : AllKnown (known_of old) (cell_box s) ⊎ IsUniform g (cell_box s) → AllKnown (known_of after) (cell_box s) ⊎ IsUniform g (cell_box s)
    by (inl known) = inl (λ p covers. takes.all p (corner-covered b s p lies covers) (known p covers))
    by (inr uniform) = inr uniform

-- ---- one point after another

-- where the value of a point stands it is read
known-read : (t : PointValues) (p : GridPoint) (at : ℕ) → is_within t.n p ≡ true → stand t p ≡ Some at → known_at t p ≡ read t.kept at
unfolding known_at
known-read t p at within stands = rw (within, stands) refl

-- a point that is known keeps its value
pub value-kept : (t : PointValues) (p : GridPoint) (at : ℕ) (v : Option ℤ) → is_within t.n p ≡ true → stand t p ≡ Some at → is_some (read t.kept at) ≡ true → TakesValue p v t t
value-kept t p at v within stands some = record { n = size-none t.n; each = λ q. by q (same_point p q) refl }
  where
    known : (o : Option ℤ) → is_some o ≡ true → o ≡ known_or o v
    known (Some w) e = refl
    known None e = absurd (false≢true e)

    by : (q : GridPoint) (same : Bool) → same_point p q ≡ same → known_at t q ≡ cond same (known_or (known_at t q) v) (known_at t q)
    by q false e = refl
    by q true e = known (known_at t q) (ap is_some (ap (known_at t) (sym (same-is p q e)) ∙ known-read t p at within stands) ∙ some)

-- and so does one where there is no other
pub value-none : (t : PointValues) (p : GridPoint) → TakesValue p None t t
value-none t p = record { n = size-none t.n; each = λ q. by (same_point p q) (known_at t q) }
  where
    by : (same : Bool) (o : Option ℤ) → o ≡ cond same (known_or o None) o
    by false o = refl
    by true (Some w) = refl
    by true None = refl

pub value-set : (before after : PointValues) (p : GridPoint) (at : ℕ) (v : ℤ) → is_within before.n p ≡ true → stand before p ≡ Some at → is_some (read before.kept at) ≡ false → Sets p v (known_of before) (known_of after)
    → TakesValue p (Some v) before after
value-set before after p at v within stands none sets = record { n = sets.n; each = λ q. sets.each q ∙ by q (same_point p q) refl }
  where
    unknown : (o : Option ℤ) → is_some o ≡ false → Some v ≡ known_or o (Some v)
    unknown None e = refl
    unknown (Some w) e = absurd (false≢true (sym e))

    by : (q : GridPoint) (same : Bool) → same_point p q ≡ same → cond same (Some v) (known_at before q) ≡ cond same (known_or (known_at before q) (Some v)) (known_at before q)
    by q false e = refl
    by q true e = unknown (known_at before q) (ap is_some (ap (known_at before) (sym (same-is p q e)) ∙ known-read before p at within stands) ∙ none)

-- one point is taken over
abbrev pub IsPoint : GridPoint → GridPoint → Type 0
IsPoint q p = p ≡ q

pub value-takes : (q : GridPoint) (old before after : PointValues) → TakesValue q (known_at old q) before after → TakesAll (IsPoint q) old before after
value-takes q old before after takes = record {
  some = record { n = takes.n; each = λ p. by p (same_point q p) refl (known_at before p) refl (takes.each p) };
  all = λ p same known. kept p same known (known_at before p) refl (takes.each p);
}
  where
    by : (p : GridPoint) (same : Bool) → same_point q p ≡ same → (o : Option ℤ) → known_at before p ≡ o → known_at after p ≡ cond same (known_or (known_at before p) (known_at old q)) (known_at before p)
        → (known_at after p ≡ known_at before p) ⊎ IsTaken (IsPoint q) old before after p
    by p false e o was now = inl now
    by p true e (Some w) was now = inl (now ∙ ap (λ u. known_or u (known_at old q)) was ∙ sym was)
    by p true e None was now = inr (record { unknown = was; one = sym (same-is q p e); value = now ∙ ap (λ u. known_or u (known_at old q)) was ∙ ap (known_at old) (same-is q p e) })

    kept : (p : GridPoint) → p ≡ q → is_known (known_at old p) ≡ true → (o : Option ℤ) → known_at before p ≡ o
        → known_at after p ≡ cond (same_point q p) (known_or (known_at before p) (known_at old q)) (known_at before p) → is_known (known_at after p) ≡ true
    kept p same known o was now =
        told o (ap is_known (now ∙ ap (λ t. cond t (known_or (known_at before p) (known_at old q)) (known_at before p)) (subst (λ r. same_point q r ≡ true) (sym same) (same-self q)) ∙ ap (λ u. known_or u (known_at old q)) was))
      where
        told : (u : Option ℤ) → is_known (known_at after p) ≡ is_known (known_or u (known_at old q)) → is_known (known_at after p) ≡ true
        told (Some w) e = e
        told None e = e ∙ ap (λ r. is_known (known_at old r)) (sym same) ∙ known

-- no points are taken over
pub takes-empty : (among : GridPoint → Type 0) (old t : PointValues) → ((p : GridPoint) → among p → is_known (known_at old p) ≡ true → ⊥) → TakesAll among old t t
takes-empty among old t none = record { some = takes-none among old t; all = λ p one known. absurd (none p one known) }

pub same-takes : (among : GridPoint → Type 0) (old before after : PointValues) → IsSame before after → TakesSome among old before after
same-takes among old before after same = record { n = same.n; each = λ p. inl (same.each p) }

pub takes-behind : (among : GridPoint → Type 0) (old before mid after : PointValues) → IsSame before mid → TakesAll among old mid after → TakesAll among old before after
takes-behind among old before mid after same takes = record { some = takes-then among old before mid after (same-takes among old before mid same) takes.some; all = takes.all }

-- those of a row that one brick has
row-stands : (t : PointValues) (p : GridPoint) (start i : ℕ) → p.x % 8 + i < 8 → stand t p ≡ Some start → stand t (point (p.x + i) p.y p.z) ≡ Some (start + i)
row-stands t p start i few is =
    let at = stand-place t p start is in
    let q = point (p.x + i) p.y p.z in
    let column : (p.x + i) / 8 ≡ p.x / 8 = omega (arith, few) in
    let brick : brick_of t.n q ≡ brick_of t.n p = rw column refl in
    let place = get_or t.places (brick_of t.n p) 0 in
    let here : start + i ≡ (place - 1) * 512 + slot q = omega (arith, at.1, few) in
    stand-some t q place (ap (λ k. get_or t.places k 0) (sym brick)) at.0 ∙ ap Some (sym here)

pub row-within : (t : PointValues) (first y z start i end : ℕ) → AreKept t.places (length t.kept.known) (length t.kept.values) → first + i < end → end ≤ first / 8 * 8 + 8 → stand t (point first y z) ≡ Some start
    → start + i < length t.kept.known
row-within t first y z start i end kept less few is =
    let at = stand-place t (point first y z) start is in
    omega (arith, at.0, at.1, less, few, kept.within (brick_of t.n (point first y z)))

pub row-at : (t : PointValues) (first y z start i end : ℕ) → first + i < end → end ≤ first / 8 * 8 + 8 → stand t (point first y z) ≡ Some start → stand t (point (first + i) y z) ≡ Some (start + i)
row-at t first y z start i end less few is = row-stands t (point first y z) start i (omega (arith, less, few)) is

-- a row whose brick is not kept has no known point
pub row-unknown : (t : PointValues) (first end y z : ℕ) (p : GridPoint) → end ≤ first / 8 * 8 + 8 → stand t (point first y z) ≡ None → IsInRow first end y z p → is_known (known_at t p) ≡ true → ⊥
row-unknown t first end y z p few none one known =
    let column : p.x / 8 ≡ first / 8 = omega (arith, few, one.above, one.below) in
    let brick : brick_of t.n p ≡ brick_of t.n (point first y z) = rw (column, one.row, one.layer) refl in
    false≢true (sym (roomless-unknown t (point first y z) p none brick) ∙ known)

-- one more point of a row
pub row-more : (first i y z : ℕ) (old before mid after : PointValues) → TakesAll (IsInRow first (first + i) y z) old before mid → TakesAll (IsPoint (point (first + i) y z)) old mid after
    → TakesAll (IsInRow first (first + (i + 1)) y z) old before after
row-more first i y z old before mid after =
    takes-both (IsInRow first (first + i) y z) (IsPoint (point (first + i) y z)) (IsInRow first (first + (i + 1)) y z) old before mid after
    (λ p one. record { above = one.above; below = omega (arith, one.below); row = one.row; layer = one.layer })
    (λ p same. record { above = omega (arith, ap (λ (q : GridPoint). q.x) same); below = omega (arith, ap (λ (q : GridPoint). q.x) same); row = ap (λ (q : GridPoint). q.y) same; layer = ap (λ (q : GridPoint). q.z) same })
    (λ p one. by p one (cases_lt p.x (first + i)))
  where
    by : (p : GridPoint) → IsInRow first (first + (i + 1)) y z p → (p.x < first + i) ⊎ (first + i ≤ p.x) → IsInRow first (first + i) y z p ⊎ IsPoint (point (first + i) y z) p
    by p one (inl less) = inl (record { above = one.above; below = less; row = one.row; layer = one.layer })
    by p one (inr more) =
        let x : p.x ≡ first + i = omega (arith, more, one.below) in
        inr (ap (λ k. point k p.y p.z) x ∙ ap (λ k. point (first + i) k p.z) one.row ∙ ap (λ k. point (first + i) y k) one.layer)

-- the same points by other words
takes-as : (few more : GridPoint → Type 0) (old before after : PointValues) → ((p : GridPoint) → few p → more p) → ((p : GridPoint) → more p → few p) → TakesAll few old before after → TakesAll more old before after
takes-as few more old before after to from takes = record { some = takes-wider few more old before after to takes.some; all = λ p one known. takes.all p (from p one) known }

-- the points of a row in bricks below one
abbrev pub IsInBricks : Indices → ℕ → ℕ → ℕ → GridPoint → Type 0
IsInBricks b e y z p = IsInRow b.x0 (b.x1 + 1) y z p × (p.x / 8 < e)

pub line-none : (b : Indices) (e y z : ℕ) (old t : PointValues) → e ≤ b.x0 / 8 → TakesAll (IsInBricks b e y z) old t t
line-none b e y z old t start = takes-empty (IsInBricks b e y z) old t (λ p one known. absurd (omega (arith, one.0.above, one.1, start)))

pub line-more : (b : Indices) (e first end y z : ℕ) (old before mid after : PointValues) → b.x0 ≤ first → e * 8 ≤ first → (first ≤ b.x0) ⊎ (first ≤ e * 8) → end ≤ b.x1 + 1 → end ≤ e * 8 + 8 → (b.x1 + 1 ≤ end) ⊎ (e * 8 + 8 ≤ end)
    → TakesAll (IsInBricks b e y z) old before mid → TakesAll (IsInRow first end y z) old mid after → TakesAll (IsInBricks b (e + 1) y z) old before after
line-more b e first end y z old before mid after low start least high stop most =
    takes-both (IsInBricks b e y z) (IsInRow first end y z) (IsInBricks b (e + 1) y z) old before mid after
    (λ p one. (one.0, omega (arith, one.1)))
    (λ p one. (record { above = omega (arith, low, one.above); below = omega (arith, high, one.below); row = one.row; layer = one.layer }, omega (arith, one.below, stop)))
    (λ p one. by p one (cases_lt (p.x / 8) e))
  where
    from : (p : GridPoint) → IsInBricks b (e + 1) y z p → e ≤ p.x / 8 → (first ≤ b.x0) ⊎ (first ≤ e * 8) → first ≤ p.x
    from p one more (inl h) = omega (arith, h, one.0.above)
    from p one more (inr h) = omega (arith, h, more)

    to : (p : GridPoint) → IsInBricks b (e + 1) y z p → (b.x1 + 1 ≤ end) ⊎ (e * 8 + 8 ≤ end) → p.x < end
    to p one (inl h) = omega (arith, h, one.0.below)
    to p one (inr h) = omega (arith, h, one.1)

    by : (p : GridPoint) → IsInBricks b (e + 1) y z p → (p.x / 8 < e) ⊎ (e ≤ p.x / 8) → IsInBricks b e y z p ⊎ IsInRow first end y z p
    by p one (inl less) = inl (one.0, less)
    by p one (inr more) = inr (record { above = from p one more least; below = to p one most; row = one.0.row; layer = one.0.layer })

pub line-some : (b : Indices) (e first end y z : ℕ) (old before mid after : PointValues) → b.x0 ≤ first → end ≤ b.x1 + 1 → TakesAll (IsInBricks b e y z) old before mid → TakesSome (IsInRow first end y z) old mid after
    → TakesSome (IsInRow b.x0 (b.x1 + 1) y z) old before after
line-some b e first end y z old before mid after low high was now =
    takes-then (IsInRow b.x0 (b.x1 + 1) y z) old before mid after (takes-wider (IsInBricks b e y z) (IsInRow b.x0 (b.x1 + 1) y z) old before mid (λ p one. one.0) was.some)
    (takes-wider (IsInRow first end y z) (IsInRow b.x0 (b.x1 + 1) y z) old mid after (λ p one. record { above = omega (arith, low, one.above); below = omega (arith, high, one.below); row = one.row; layer = one.layer }) now)

pub line-all : (b : Indices) (e y z : ℕ) (old before after : PointValues) → b.x1 / 8 < e → TakesAll (IsInBricks b e y z) old before after → TakesAll (IsInRow b.x0 (b.x1 + 1) y z) old before after
line-all b e y z old before after end =
    takes-as (IsInBricks b e y z) (IsInRow b.x0 (b.x1 + 1) y z) old before after (λ p one. one.0) (λ p one. (one, omega (arith, end, one.below)))

-- the points of a layer in rows below one
abbrev pub IsInRows : Indices → ℕ → ℕ → GridPoint → Type 0
IsInRows b y z p = IsInLayer b z p × (p.y < y)

in-layer : (b : Indices) (y z : ℕ) (p : GridPoint) → b.y0 ≤ y → y ≤ b.y1 → IsInRow b.x0 (b.x1 + 1) y z p → IsInLayer b z p
in-layer b y z p low high one = record { x = (one.above, omega (arith, one.below)); y = (omega (arith, low, one.row), omega (arith, high, one.row)); layer = one.layer }

pub layer-none : (b : Indices) (y z : ℕ) (old t : PointValues) → y ≤ b.y0 → TakesAll (IsInRows b y z) old t t
layer-none b y z old t start = takes-empty (IsInRows b y z) old t (λ p one known. absurd (omega (arith, one.0.y.0, one.1, start)))

pub layer-more : (b : Indices) (y z : ℕ) (old before mid after : PointValues) → b.y0 ≤ y → y ≤ b.y1 → TakesAll (IsInRows b y z) old before mid → TakesAll (IsInRow b.x0 (b.x1 + 1) y z) old mid after
    → TakesAll (IsInRows b (y + 1) z) old before after
layer-more b y z old before mid after low high =
    takes-both (IsInRows b y z) (IsInRow b.x0 (b.x1 + 1) y z) (IsInRows b (y + 1) z) old before mid after
    (λ p one. (one.0, omega (arith, one.1)))
    (λ p one. (in-layer b y z p low high one, omega (arith, one.row)))
    (λ p one. by p one (cases_lt p.y y))
  where
    by : (p : GridPoint) → IsInRows b (y + 1) z p → (p.y < y) ⊎ (y ≤ p.y) → IsInRows b y z p ⊎ IsInRow b.x0 (b.x1 + 1) y z p
    by p one (inl less) = inl (one.0, less)
    by p one (inr more) = inr (record { above = one.0.x.0; below = omega (arith, one.0.x.1); row = omega (arith, more, one.1); layer = one.0.layer })

pub layer-some : (b : Indices) (y z : ℕ) (old before mid after : PointValues) → b.y0 ≤ y → y ≤ b.y1 → TakesAll (IsInRows b y z) old before mid → TakesSome (IsInRow b.x0 (b.x1 + 1) y z) old mid after
    → TakesSome (IsInLayer b z) old before after
layer-some b y z old before mid after low high was now =
    takes-then (IsInLayer b z) old before mid after (takes-wider (IsInRows b y z) (IsInLayer b z) old before mid (λ p one. one.0) was.some)
    (takes-wider (IsInRow b.x0 (b.x1 + 1) y z) (IsInLayer b z) old mid after (λ p one. in-layer b y z p low high one) now)

pub layer-all : (b : Indices) (y z : ℕ) (old before after : PointValues) → b.y1 < y → TakesAll (IsInRows b y z) old before after → TakesAll (IsInLayer b z) old before after
layer-all b y z old before after end = takes-as (IsInRows b y z) (IsInLayer b z) old before after (λ p one. one.0) (λ p one. (one, omega (arith, end, one.y.1)))

-- the points that a box covers in layers below one
abbrev pub IsInLayers : Indices → ℕ → GridPoint → Type 0
IsInLayers b z p = Covers b p × (p.z < z)

is-covered : (b : Indices) (z : ℕ) (p : GridPoint) → b.z0 ≤ z → z ≤ b.z1 → IsInLayer b z p → Covers b p
is-covered b z p low high one = record { x = one.x; y = one.y; z = (omega (arith, low, one.layer), omega (arith, high, one.layer)) }

pub box-none : (b : Indices) (z : ℕ) (old t : PointValues) → z ≤ b.z0 → TakesAll (IsInLayers b z) old t t
box-none b z old t start = takes-empty (IsInLayers b z) old t (λ p one known. absurd (omega (arith, one.0.z.0, one.1, start)))

pub box-more : (b : Indices) (z : ℕ) (old before mid after : PointValues) → b.z0 ≤ z → z ≤ b.z1 → TakesAll (IsInLayers b z) old before mid → TakesAll (IsInLayer b z) old mid after → TakesAll (IsInLayers b (z + 1)) old before after
box-more b z old before mid after low high =
    takes-both (IsInLayers b z) (IsInLayer b z) (IsInLayers b (z + 1)) old before mid after
    (λ p one. (one.0, omega (arith, one.1)))
    (λ p one. (is-covered b z p low high one, omega (arith, one.layer)))
    (λ p one. by p one (cases_lt p.z z))
  where
    by : (p : GridPoint) → IsInLayers b (z + 1) p → (p.z < z) ⊎ (z ≤ p.z) → IsInLayers b z p ⊎ IsInLayer b z p
    by p one (inl less) = inl (one.0, less)
    by p one (inr more) = inr (record { x = one.0.x; y = one.0.y; layer = omega (arith, more, one.1) })

pub box-some : (b : Indices) (z : ℕ) (old before mid after : PointValues) → b.z0 ≤ z → z ≤ b.z1 → TakesAll (IsInLayers b z) old before mid → TakesSome (IsInLayer b z) old mid after → TakesPart b old before after
box-some b z old before mid after low high was now =
    takes-then (Covers b) old before mid after (takes-wider (IsInLayers b z) (Covers b) old before mid (λ p one. one.0) was.some)
    (takes-wider (IsInLayer b z) (Covers b) old mid after (λ p one. is-covered b z p low high one) now)

pub box-all : (b : Indices) (z : ℕ) (old before after : PointValues) → b.z1 < z → TakesAll (IsInLayers b z) old before after → TakesOver b old before after
box-all b z old before after end = takes-as (IsInLayers b z) (Covers b) old before after (λ p one. one.0) (λ p one. (one, omega (arith, end, one.z.1)))
