-- How known values become more, and what that takes.
use Rattle.std.proofs.Common.{◌≡◌, ℕ, ◌+◌, ◌-◌, ◌*◌, ◌<◌, ◌≤◌, ℤ, Bool, true, false, cond, refl, sym, ap, ◌∙◌, ◌⊎◌, inl, inr, arith}
use Rattle.std.specs.Prelude.{Some, ◌==◌, ◌&&◌, ◌||◌}
use Rattle.box_chains.specs.Chains.{Visit}
use Rattle.box_chains.specs.Sums.{LiesIn, Sample, sum_along, sum_in}
use Rattle.box_chains.specs.Tallied.{CountsAtMost}
use Rattle.box_chains.specs.Laws.{Lawful}
use Rattle.fixed_ops.specs.Counts.{Counts, plus}
use Rattle.fixed_ops.specs.Raw.{is_inside}
use Rattle.interval_ops.specs.HullCounts.{CountsHulls}
use Rattle.kuhn_cells.specs.Triangles.{GridPoint, point}
use Rattle.std.proofs.lemmas.Bool.{and_parts, cond-false, cond-true, eq-eqb, eqb-true, ne_eqb}
use Rattle.view_places.specs.Boxes.{Indices}
use Rattle.view_places.specs.Window.{Window}
use Rattle.oct_descent.proofs.Sizes.{size-none, size-then}
use Rattle.oct_descent.specs.Bound.{CountsAtLeast, sample_of}
use Rattle.oct_descent.specs.GridLaws.{unmet}
use Rattle.oct_descent.specs.Kinds.{BordersHold, GridKind, descent_of}
use Rattle.oct_descent.specs.Known.{AllKnown, AreRight, AreSettled, AreWorked, Charges, Grows, IsNew, Known, Pays}
use Rattle.oct_descent.specs.Tables.{IsUniform, is_known, same_point}
use Rattle.oct_descent.specs.Ways.{CellDescent, Covers}

-- ---- growth

pub grows-none : (g : GridPoint → ℤ) (b : Indices) (t : Known) → Grows g b t t
grows-none g b t = record { n = size-none t.n; each = λ p. inl refl }

pub grows-then : (g : GridPoint → ℤ) (b : Indices) (before mid after : Known) → Grows g b before mid → Grows g b mid after → Grows g b before after
grows-then g b before mid after first second = record {
  n = size-then after.n mid.n before.n second.n first.n;
  each = λ p. by p (first.each p) (second.each p);
}
  where
    by : (p : GridPoint) → (mid.at p ≡ before.at p) ⊎ IsNew g b before mid p → (after.at p ≡ mid.at p) ⊎ IsNew g b mid after p → (after.at p ≡ before.at p) ⊎ IsNew g b before after p
    by p (inl same) (inl stays) = inl (stays ∙ same)
    by p (inl same) (inr new) = inr (record { unknown = sym same ∙ new.unknown; covered = new.covered; value = new.value })
    by p (inr new) (inl stays) = inr (record { unknown = new.unknown; covered = new.covered; value = stays ∙ new.value })
    by p (inr new) (inr again) = inr (record { unknown = new.unknown; covered = new.covered; value = again.value })

-- growth in a part of a box, by values that are the same there
pub grows-wider : (g h : GridPoint → ℤ) (part b : Indices) (before after : Known) → ((p : GridPoint) → Covers part p → Covers b p) → ((p : GridPoint) → Covers part p → g p ≡ h p)
    → Grows g part before after → Grows h b before after
grows-wider g h part b before after wider same grows = record { n = grows.n; each = λ p. by p (grows.each p) }
  where
    by : (p : GridPoint) → (after.at p ≡ before.at p) ⊎ IsNew g part before after p → (after.at p ≡ before.at p) ⊎ IsNew h b before after p
    by p (inl stays) = inl stays
    by p (inr new) = inr (record { unknown = new.unknown; covered = wider p new.covered; value = new.value ∙ ap Some (same p new.covered) })

-- what is known stays known
pub stays-known : (g : GridPoint → ℤ) (b : Indices) (before after : Known) (p : GridPoint) → Grows g b before after → is_known (before.at p) ≡ true → is_known (after.at p) ≡ true
stays-known g b before after p grows e = by (grows.each p)
  where
    by : (after.at p ≡ before.at p) ⊎ IsNew g b before after p → is_known (after.at p) ≡ true
    by (inl stays) = ap is_known stays ∙ e
    by (inr new) = ap is_known new.value

pub settled-stays : (d : CellDescent) (g h : GridPoint → ℤ) (b part : Indices) (before after : Known) → Grows h b before after → AreSettled d g part before → AreSettled d g part after
settled-stays d g h b part before after grows settled s lies = by (settled s lies)
  where
    by : AllKnown before (d.cell s) ⊎ IsUniform g (d.cell s) → AllKnown after (d.cell s) ⊎ IsUniform g (d.cell s)
    by (inl known) = inl (λ p covers. stays-known h b before after p grows (known p covers))
    by (inr uniform) = inr uniform

-- cells are settled by values that are the same at their corners
pub settled-same : (d : CellDescent) (g h : GridPoint → ℤ) (b : Indices) (t : Known) → ((s : Sample) (p : GridPoint) → LiesIn b s → Covers (d.cell s) p → g p ≡ h p) → AreSettled d g b t → AreSettled d h b t
settled-same d g h b t same settled s lies = by (settled s lies)
  where
    by : AllKnown t (d.cell s) ⊎ IsUniform g (d.cell s) → AllKnown t (d.cell s) ⊎ IsUniform h (d.cell s)
    by (inl known) = inl known
    by (inr uniform) = inr (record { inside = uniform.inside; each = λ p covers. ap is_inside (sym (same s p lies covers)) ∙ uniform.each p covers })

-- ---- right values

pub right-same : (g h : GridPoint → ℤ) (b : Indices) (t : Known) → ((p : GridPoint) → Covers b p → g p ≡ h p) → AreRight g b t → AreRight h b t
right-same g h b t same right p covers known = right p covers known ∙ ap Some (same p covers)

-- what is known of a part of a box is right once the box has grown by right values
pub right-grows : (g : GridPoint → ℤ) (part b : Indices) (before after : Known) → ((p : GridPoint) → Covers part p → Covers b p) → Grows g b before after → AreRight g b before → AreRight g part after
right-grows g part b before after wider grows right p covers known = by (grows.each p)
  where
    by : (after.at p ≡ before.at p) ⊎ IsNew g b before after p → after.at p ≡ Some (g p)
    by (inl stays) = stays ∙ right p (wider p covers) (ap is_known (sym stays) ∙ known)
    by (inr new) = new.value

-- ---- what is left

-- a sum of which only one number is not 0
along-one : (laws : Lawful) (low high at c : ℕ) → low ≤ at → at < high → sum_along low high (λ i. cond (at == i) c 0) ≡ c
along-one laws low high at c below above =
    omega (arith, laws.axes.parts low at high f below (omega (arith, above)), laws.axes.parts at (at + 1) high f (omega arith) (omega (arith, above)), none, some, rest)
  where
    f : ℕ → ℕ
    f i = cond (at == i) c 0

    none : sum_along low at f ≡ 0
    none = laws.axes.same low at f (λ i. 0) (λ i l h. cond-false (at == i) c 0 (ne_eqb at i (λ same. omega (arith, h, same)))) ∙ omega (arith, laws.axes.const low (at - low) 0)

    rest : sum_along (at + 1) high f ≡ 0
    rest = laws.axes.same (at + 1) high f (λ i. 0) (λ i l h. cond-false (at == i) c 0 (ne_eqb at i (λ same. omega (arith, l, same)))) ∙ omega (arith, laws.axes.const (at + 1) (high - (at + 1)) 0)

    one : (at + 1) - at ≡ 1
    one = omega arith

    some : sum_along at (at + 1) f ≡ c
    some =
        laws.axes.same at (at + 1) f (λ i. c) (λ i l h. cond-true (at == i) c 0 (eq-eqb at i (omega (arith, l, h))))
        ∙ laws.axes.const at ((at + 1) - at) c ∙ ap (λ n. n * c) one ∙ omega arith

front : (t u : Bool) (c : ℕ) → cond {A = ℕ} (t && u) c 0 ≡ cond t (cond u c 0) 0
front true u c = refl
front false u c = refl

sum_in-one : (laws : Lawful) (b : Indices) (p : GridPoint) (c : ℕ) → LiesIn b (record { i = p.x; j = p.y; k = p.z }) → sum_in b (λ s. cond (same_point p (point s.i s.j s.k)) c 0) ≡ c
sum_in-one laws b p c lies =
    laws.axes.same b.z0 b.z1 (λ k. sum_along b.y0 b.y1 (λ j. sum_along b.x0 b.x1 (λ i. cond (p.x == i && (p.y == j && p.z == k)) c 0))) (λ k. cond (p.z == k) c 0)
    (λ k zl zh.
    laws.axes.same b.y0 b.y1 (λ j. sum_along b.x0 b.x1 (λ i. cond (p.x == i && (p.y == j && p.z == k)) c 0)) (λ j. cond (p.y == j) (cond (p.z == k) c 0) 0)
    (λ j yl yh.
    laws.axes.same b.x0 b.x1 (λ i. cond (p.x == i && (p.y == j && p.z == k)) c 0) (λ i. cond (p.x == i) (cond (p.y == j && p.z == k) c 0) 0)
    (λ i xl xh. front (p.x == i) (p.y == j && p.z == k) c)
    ∙ along-one laws b.x0 b.x1 p.x (cond (p.y == j && p.z == k) c 0) lies.x.0 lies.x.1
    ∙ front (p.y == j) (p.z == k) c)
    ∙ along-one laws b.y0 b.y1 p.y (cond (p.z == k) c 0) lies.y.0 lies.y.1)
    ∙ along-one laws b.z0 b.z1 p.z c lies.z.0 lies.z.1

pub same-is : (p q : GridPoint) → same_point p q ≡ true → p ≡ q
same-is p q e =
    let x = and_parts (p.x == q.x) (p.y == q.y && p.z == q.z) e in
    let yz = and_parts (p.y == q.y) (p.z == q.z) x.1 in
    ap (λ (i : ℕ). point i p.y p.z) (eqb-true p.x q.x x.0) ∙ ap (λ (j : ℕ). point q.x j p.z) (eqb-true p.y q.y yz.0) ∙ ap (λ (k : ℕ). point q.x q.y k) (eqb-true p.z q.z yz.1)

pub same-self : (p : GridPoint) → same_point p p ≡ true
same-self p = rw (eq-eqb p.x p.x refl, eq-eqb p.y p.y refl, eq-eqb p.z p.z refl) refl

-- one more point that becomes known is no longer left
pub unmet-one : (laws : Lawful) (f : GridPoint → ℕ) (p : GridPoint) (b : Indices) (was now : GridPoint → Bool) → LiesIn b (sample_of p) → was p ≡ false
    → ((q : GridPoint) → now q ≡ (same_point p q || was q)) → f p + unmet f b now ≡ unmet f b was
unmet-one laws f p b was now lies unknown one =
    let split = laws.sums.same b before (λ s. cond (same_point p (spot s)) (f p) 0 + after s) (λ s l. by (spot s) (same_point p (spot s)) refl) in
    omega (arith, split, laws.sums.plus b (λ s. cond (same_point p (spot s)) (f p) 0) after, sum_in-one laws b p (f p) lies)
  where
    spot : Sample → GridPoint
    spot s = point s.i s.j s.k

    after : Sample → ℕ
    after s = cond (now (spot s)) 0 (f (spot s))

    before : Sample → ℕ
    before s = cond (was (spot s)) 0 (f (spot s))

    by : (q : GridPoint) (t : Bool) → same_point p q ≡ t → cond {A = ℕ} (was q) 0 (f q) ≡ cond (same_point p q) (f p) 0 + cond (now q) 0 (f q)
    by q true e =
        let is = same-is p q e in
        let known : now q ≡ true = one q ∙ ap (λ t. t || was q) e in
        let not_yet : was q ≡ false = ap was (sym is) ∙ unknown in
        let a : cond {A = ℕ} (was q) 0 (f q) ≡ f q = cond-false (was q) 0 (f q) not_yet in
        let c : cond {A = ℕ} (now q) 0 (f q) ≡ 0 = cond-true (now q) 0 (f q) known in
        let d : cond {A = ℕ} (same_point p q) (f p) 0 ≡ f p = cond-true (same_point p q) (f p) 0 e in
        omega (arith, a, c, d, ap f is)
    by q false e =
        let stays : now q ≡ was q = one q ∙ ap (λ t. t || was q) e in
        let a : cond {A = ℕ} (now q) 0 (f q) ≡ cond (was q) 0 (f q) = ap (λ t. cond {A = ℕ} t 0 (f q)) stays in
        let d : cond {A = ℕ} (same_point p q) (f p) 0 ≡ 0 = cond-false (same_point p q) (f p) 0 e in
        omega (arith, a, d)

-- ---- charges

pub charges-none : (laws : Lawful) (f : GridPoint → ℕ) (spans : ℕ) (t : Known) (now : Counts) → Charges f spans t t now now
charges-none laws f spans t now = record { points = 0; enough = omega arith; counts = laws.bounds.none now 0 spans }

pub charges-hulls : (laws : Lawful) (f : GridPoint → ℕ) (n : ℕ) (t : Known) (told now : Counts) → CountsHulls n told now → Charges f n t t told now
charges-hulls laws f n t told now h = record { points = 0; enough = omega arith; counts = laws.bounds.hulls told now n h }

pub charges-most : (f : GridPoint → ℕ) (n : ℕ) (t : Known) (told now : Counts) → CountsAtMost 0 n told now → Charges f n t t told now
charges-most f n t told now h = record { points = 0; enough = omega arith; counts = h }

pub charges-more : (laws : Lawful) (f : GridPoint → ℕ) (s u : ℕ) (before after : Known) (told now : Counts) → s ≤ u → Charges f s before after told now → Charges f u before after told now
charges-more laws f s u before after told now less h = record { points = h.points; enough = h.enough; counts = laws.bounds.more told now h.points s h.points u (omega arith) less h.counts }

pub charges-then : (laws : Lawful) (f : GridPoint → ℕ) (s t u : ℕ) (before mid after : Known) (told since now : Counts) → s + t ≤ u → Charges f s before mid told since → Charges f t mid after since now
    → Charges f u before after told now
charges-then laws f s t u before mid after told since now less first second = record {
  points = first.points + second.points;
  enough = omega (arith, first.enough, second.enough);
  counts = laws.bounds.sum told since now first.points s second.points t (first.points + second.points) u (omega arith) less first.counts second.counts;
}

-- ---- what is paid

-- a tally that rises at all rises by nothing at least
least-most : (told now : Counts) (p s : ℕ) → CountsAtMost p s told now → CountsAtLeast 0 told now
least-most told now p s h = record { by = h.by; many = omega arith; rises = h.rises }

pub pays-none : (laws : Lawful) (f : GridPoint → ℕ) (t : Known) (now : Counts) → Pays f t t now now
pays-none laws f t now = record { points = 0; due = omega arith; counts = least-most now now 0 0 (laws.bounds.none now 0 0) }

pub pays-most : (f : GridPoint → ℕ) (p s : ℕ) (t : Known) (told now : Counts) → CountsAtMost p s told now → Pays f t t told now
pays-most f p s t told now h = record { points = 0; due = omega arith; counts = least-most told now p s h }

pub pays-then : (laws : Lawful) (f : GridPoint → ℕ) (before mid after : Known) (told since now : Counts) → Pays f before mid told since → Pays f mid after since now → Pays f before after told now
pays-then laws f before mid after told since now first second = record {
  points = first.points + second.points;
  due = omega (arith, first.due, second.due);
  counts = record {
    by = plus first.counts.by second.counts.by;
    many = omega (arith, first.counts.many, second.counts.many);
    rises = laws.tallies.sum told since now first.counts.by second.counts.by first.counts.rises second.counts.rises;
  };
}

-- ---- working cells

-- all corners of a box are those of its working cells too
pub known-worked : (k : GridKind) → BordersHold k → (view : Window) (v : Visit) (t : Known) → AllKnown t v.box → AreWorked (descent_of k view) v t
known-worked k holds view v t known s lies works p covers = known p (holds.covered v.box s p lies covers)

pub worked-stays : (g : GridPoint → ℤ) (d : CellDescent) (v : Visit) (b : Indices) (before after : Known) → Grows g b before after → AreWorked d v before → AreWorked d v after
worked-stays g d v b before after grows worked s lies works p covers = stays-known g b before after p grows (worked s lies works p covers)
