-- How points that have no values yet get them, and what that takes.
use Rattle.std.proofs.Common.{◌≡◌, ◌≢◌, ℕ, suc, ◌+◌, ◌*◌, ◌<◌, ◌≤◌, ℤ, Bool, true, false, cond, List, [], ◌∷◌, ◌++◌, drop, length, pos, set, take, refl, sym, ap, subst, zero-add, ◌∙◌, ◌⊎◌, inl, inr, arith}
use Rattle.std.specs.Prelude.{Option, Some, None, ◌||◌, get_or}
use Rattle.std.specs.List.{All, AllPairs, sum_by}
use Rattle.std.proofs.Math.Bool.{or_assoc}
use Rattle.std.proofs.Math.Seq.{take-add}
use Rattle.std.proofs.lemmas.Grind.{get_or-set_at}
use Rattle.std.proofs.lemmas.List.Sums.{sum_by-cons, sum_by-le}
use Rattle.std.proofs.lemmas.Bool.{cases_lt, false≢true, or_from, or_left, or_right}
use Rattle.std.proofs.lemmas.List.{get_or-set_other}
use Rattle.std.proofs.lemmas.List.Elements.{All-get_or, All-head, All-nil, All-push, All-tail, All-weaker}
use Rattle.std.proofs.lemmas.List.Folds.{list_any-append, list_any_more, list_any_none}
use Rattle.std.proofs.lemmas.List.Quantifiers.{all_pairs_push}
use Rattle.box_chains.specs.Laws.{Lawful}
use Rattle.fixed_ops.specs.Counts.{Counts, RisesBy, points_of}
use Rattle.fixed_ops.specs.Laws.{TalliesAddUp}
use Rattle.kuhn_cells.specs.Triangles.{GridPoint, further, point}
use Rattle.live_clauses.specs.declared.step.Step.{Step}
use Rattle.view_places.specs.Boxes.{Indices}
use Rattle.view_places.specs.Window.{Window}
use Rattle.oct_descent.specs.Bound.{points_of_grid, sample_of}
use Rattle.oct_descent.specs.Gaps.{AreGapsBelow, Fills, IsCornerBelow, StandsIn, has_gap, nth, spot}
use Rattle.oct_descent.specs.GridValues.{list_grid_value}
use Rattle.oct_descent.specs.Tables.{IsSame, KeepsPlaces, PointValues, is_known, known_at, same_point}
use Rattle.oct_descent.specs.Ways.{Covers}
use Rattle.oct_descent.specs.declared.gap.Gap.{Gap}
use Rattle.oct_descent.proofs.Corners.{IsOne, all-known, mask-covered}
use Rattle.oct_descent.proofs.Sizes.{size-is, size-none, size-then}
use Rattle.oct_descent.proofs.TableLaws.{pays-none, same-is, same-self, unmet-one}
use Rattle.oct_descent.specs.GridLaws.{unmet}
use Rattle.oct_descent.specs.Kinds.{known_of}
use Rattle.oct_descent.specs.Known.{left, AllKnown, Charges, Grows, IsNew, Pays, Sets}
use Rattle.box_chains.specs.Sums.{LiesIn}
use Rattle.fixed_ops.proofs.Lists.{sum_by-least}

-- ---- tests

differs : (p q : GridPoint) → p ≢ q → same_point q p ≡ false
differs p q other = by (same_point q p) refl
  where
    by : (t : Bool) → same_point q p ≡ t → same_point q p ≡ false
    by true e = absurd (other (sym (same-is q p e)))
    by false e = e

-- what lies below the next number lies below this one, or is it
pub cases-last : (k c : ℕ) → k < c + 1 → (k < c) ⊎ (k ≡ c)
cases-last k c less = by (cases_lt k c)
  where
    by : (k < c) ⊎ (c ≤ k) → (k < c) ⊎ (k ≡ c)
    by (inl below) = inl below
    by (inr above) = inr (omega (arith, less, above))

-- different corners of a cell are different points
further-apart : (p : GridPoint) (a b : ℕ) → a < b → b < 8 → further p a ≡ further p b → ⊥
further-apart p a b less few e = omega (arith, less, few, ap (λ q. q.x) e, ap (λ q. q.y) e, ap (λ q. q.z) e)

-- what holds of the points of all gaps holds of a point that is one of them
has-gap : (P : GridPoint → Type 0) (gaps : List Gap) (q : GridPoint) → All (λ gap. P (spot gap)) gaps → has_gap gaps q ≡ true → P q
has-gap P [] q all e = absurd (false≢true e)
has-gap P (gap ∷ rest) q all e = by (has-gap P rest q (All-tail (λ (a : Gap). P (spot a)) gap rest all)) (same_point (spot gap) q) refl
  where
    by : (has_gap rest q ≡ true → P q) → (t : Bool) → same_point (spot gap) q ≡ t → P q
    by next true is = subst P (same-is (spot gap) q is) (All-head (λ (a : Gap). P (spot a)) gap rest all)
    by next false is = next (sym (ap (λ t. t || has_gap rest q) is) ∙ e)

-- one more number of a row is the one at its place
pub row-set : (row : List ℤ) (at : ℕ → ℤ) (lane : ℕ) (v : ℤ) → lane < length row → ((n : ℕ) → n < lane → get_or row n (pos 0) ≡ at n) → v ≡ at lane
    → (n : ℕ) → n < lane + 1 → get_or (set row lane v) n (pos 0) ≡ at n
row-set row at lane v within before here n less = by (cases-last n lane less)
  where
    by : (n < lane) ⊎ (n ≡ lane) → get_or (set row lane v) n (pos 0) ≡ at n
    by (inl below) = get_or-set_other row lane n v (pos 0) (λ e. omega (arith, below, e)) ∙ before n below
    by (inr same) = ap (λ m. get_or (set row lane v) m (pos 0)) same ∙ get_or-set_at row lane lane v (pos 0) refl within ∙ here ∙ ap at (sym same)

-- ---- filling

-- filled points are known
pub filled-known : (g : GridPoint → ℤ) (gaps : List Gap) (before after : PointValues) (q : GridPoint) → Fills g gaps before after → is_known (known_at after q) ≡ (has_gap gaps q || is_known (known_at before q))
filled-known g gaps before after q fills = ap is_known (fills.each q) ∙ by (has_gap gaps q) (g q) (known_at before q)
  where
    by : (t : Bool) (v : ℤ) (o : Option ℤ) → is_known (cond t (Some v) o) ≡ (t || is_known o)
    by true v o = refl
    by false v o = refl

pub fills-none : (g : GridPoint → ℤ) (t : PointValues) → Fills g [] t t
fills-none g t = record { n = size-none t.n; each = λ q. refl }

-- some points, and then others
fills-then : (g : GridPoint → ℤ) (xs ys zs : List Gap) (before mid after : PointValues) → ((q : GridPoint) → has_gap zs q ≡ (has_gap xs q || has_gap ys q)) → Fills g xs before mid → Fills g ys mid after
    → Fills g zs before after
fills-then g xs ys zs before mid after joined first second = record {
  n = size-then after.n mid.n before.n second.n first.n;
  each = λ q.
      second.each q
      ∙ ap (λ o. cond (has_gap ys q) (Some (g q)) o) (first.each q)
      ∙ either (has_gap xs q) (has_gap ys q) (Some (g q)) (known_at before q)
      ∙ ap (λ t. cond t (Some (g q)) (known_at before q)) (sym (joined q));
}
  where
    either : (s t : Bool) (v o : Option ℤ) → cond t v (cond s v o) ≡ cond (s || t) v o
    either true true v o = refl
    either true false v o = refl
    either false t v o = refl

-- some more of them
pub fills-more : (g : GridPoint → ℤ) (at more : ℕ) (gaps : List Gap) (before mid after : PointValues) → Fills g (take at gaps) before mid → Fills g (take more (drop at gaps)) mid after
    → Fills g (take (at + more) gaps) before after
fills-more g at more gaps before mid after =
    fills-then g (take at gaps) (take more (drop at gaps)) (take (at + more) gaps) before mid after
    (λ q. ap (λ l. has_gap l q) (take-add at more gaps) ∙ list_any-append (λ (gap : Gap). same_point (spot gap) q) (take at gaps) (take more (drop at gaps)))

-- and one more
pub fills-one : (g : GridPoint → ℤ) (n : ℕ) (v : ℤ) (gaps : List Gap) (before mid after : PointValues) → n < length gaps → v ≡ g (spot (nth gaps n)) → Fills g (take n gaps) before mid
    → Sets (spot (nth gaps n)) v (known_of mid) (known_of after) → Fills g (take (n + 1) gaps) before after
fills-one g n v gaps before mid after within value first sets = record {
  n = size-then after.n mid.n before.n sets.n first.n;
  each = λ q. by q (same_point p q) refl;
}
  where
    p : GridPoint
    p = spot (nth gaps n)

    more : (q : GridPoint) → has_gap (take (n + 1) gaps) q ≡ (has_gap (take n gaps) q || same_point p q)
    more q = list_any_more (λ (gap : Gap). same_point (spot gap) q) gaps n (record { x = 0; y = 0; z = 0; at = 0 }) within

    or-no : (s : Bool) → (s || false) ≡ s
    or-no true = refl
    or-no false = refl

    by : (q : GridPoint) (t : Bool) → same_point p q ≡ t → known_at after q ≡ cond (has_gap (take (n + 1) gaps) q) (Some (g q)) (known_at before q)
    by q true e =
        sets.each q
        ∙ ap (λ t. cond t (Some v) (known_at mid q)) e
        ∙ ap Some (value ∙ ap g (same-is p q e))
        ∙ sym (ap (λ t. cond t (Some (g q)) (known_at before q)) (more q ∙ or_right (has_gap (take n gaps) q) (same_point p q) e))
    by q false e =
        sets.each q
        ∙ ap (λ t. cond t (Some v) (known_at mid q)) e
        ∙ first.each q
        ∙ sym (ap (λ t. cond t (Some (g q)) (known_at before q)) (more q ∙ ap (λ t. has_gap (take n gaps) q || t) e ∙ or-no (has_gap (take n gaps) q)))

-- so many more are counted
pub lanes-counted : TalliesAddUp → (before mid after : Counts) (at more len : ℕ) → RisesBy before mid (points_of (at * len)) → RisesBy mid after (points_of (more * len)) → RisesBy before after (points_of ((at + more) * len))
lanes-counted tallies before mid after at more len first second =
    let both : at * len + more * len ≡ (at + more) * len = grind arith in
    subst (λ n. RisesBy before after (points_of n)) both (tallies.sum before mid after (points_of (at * len)) (points_of (more * len)) first second)

-- points that stand in a table stand in one that keeps its places
pub stands-kept : (before after : PointValues) (gap : Gap) → KeepsPlaces before after → StandsIn before gap → StandsIn after gap
stands-kept before after gap keeps is = record {
  x = omega (arith, keeps.n.0, is.x);
  y = omega (arith, keeps.n.1.0, is.y);
  z = omega (arith, keeps.n.1.1, is.z);
  stands = keeps.each (spot gap) gap.at is.stands;
  within = omega (arith, keeps.more, is.within);
}

pub all-stand : (before after : PointValues) (gaps : List Gap) → KeepsPlaces before after → All (StandsIn before) gaps → All (StandsIn after) gaps
all-stand before after gaps keeps all = All-weaker (StandsIn before) (StandsIn after) (λ gap is. stands-kept before after gap keeps is) gaps all

-- gap n of some that stand in a table does
pub nth-stands : (t : PointValues) (gaps : List Gap) (n : ℕ) → n < length gaps → All (StandsIn t) gaps → StandsIn t (nth gaps n)
nth-stands t gaps n within all = All-get_or (StandsIn t) gaps n (record { x = 0; y = 0; z = 0; at = 0 }) within all

-- tables with the same values, one after another
pub same-then : (before mid after : PointValues) → IsSame before mid → IsSame mid after → IsSame before after
same-then before mid after first second = record { n = size-then after.n mid.n before.n second.n first.n; each = λ q. second.each q ∙ first.each q }

-- ---- the corners of a cell

pub gaps-none : (t : PointValues) (p : GridPoint) → AreGapsBelow 0 t p []
gaps-none t p = record {
  stand = All-nil (StandsIn t);
  corners = All-nil (λ (a : Gap). IsCornerBelow 0 p (spot a));
  unknown = All-nil (λ (a : Gap). known_at t (spot a) ≡ None);
  apart = λ i j d a b. absurd (omega (arith, b));
  all = λ c less. absurd (omega (arith, less));
}

below-more : (c : ℕ) (p : GridPoint) (gaps : List Gap) → All (λ gap. IsCornerBelow c p (spot gap)) gaps → All (λ gap. IsCornerBelow (c + 1) p (spot gap)) gaps
below-more c p gaps all =
    All-weaker (λ (gap : Gap). IsCornerBelow c p (spot gap)) (λ gap. IsCornerBelow (c + 1) p (spot gap)) (λ gap is. record { mask = is.mask; less = omega (arith, is.less); at = is.at }) gaps all

-- the next corner is known
pub gaps-known : (t : PointValues) (p : GridPoint) (c : ℕ) (gaps : List Gap) → is_known (known_at t (further p c)) ≡ true → AreGapsBelow c t p gaps → AreGapsBelow (c + 1) t p gaps
gaps-known t p c gaps known are = record {
  stand = are.stand;
  corners = below-more c p gaps are.corners;
  unknown = are.unknown;
  apart = are.apart;
  all = λ k less. by k (below k less);
}
  where
    below : (k : ℕ) → k < c + 1 → (k < c) ⊎ (k ≡ c)
    below k less = cases-last k c less

    by : (k : ℕ) → (k < c) ⊎ (k ≡ c) → (has_gap gaps (further p k) || is_known (known_at t (further p k))) ≡ true
    by k (inl before) = are.all k before
    by k (inr same) = or_right (has_gap gaps (further p k)) (is_known (known_at t (further p k))) (ap (λ n. is_known (known_at t (further p n))) same ∙ known)

-- the next corner gets a gap
pub gaps-more : (t after : PointValues) (p : GridPoint) (c : ℕ) (gaps : List Gap) (gap : Gap) → c < 8 → KeepsPlaces t after → IsSame t after → spot gap ≡ further p c → StandsIn after gap
    → known_at t (further p c) ≡ None → AreGapsBelow c t p gaps → AreGapsBelow (c + 1) after p (gaps ++ gap ∷ [])
gaps-more t after p c gaps gap few keeps same is stands unknown are = record {
  stand = All-push (StandsIn after) gaps gap (all-stand t after gaps keeps are.stand) stands;
  corners = All-push (λ (a : Gap). IsCornerBelow (c + 1) p (spot a)) gaps gap (below-more c p gaps are.corners) (record { mask = c; less = omega arith; at = is });
  unknown = All-push (λ (a : Gap). known_at after (spot a) ≡ None) gaps gap (All-weaker (λ (a : Gap). known_at t (spot a) ≡ None) (λ a. known_at after (spot a) ≡ None) (λ a none. same.each (spot a) ∙ none) gaps are.unknown)
      (same.each (spot gap) ∙ ap (known_at t) is ∙ unknown);
  apart = all_pairs_push (λ (a b : Gap). spot a ≢ spot b) gaps gap are.apart (λ k d within. other (get_or gaps k d) (All-get_or (λ (a : Gap). IsCornerBelow c p (spot a)) gaps k d within are.corners));
  all = λ k less. by k (cases-last k c less);
}
  where
    other : (a : Gap) → IsCornerBelow c p (spot a) → spot a ≢ spot gap
    other a corner e = further-apart p corner.mask c corner.less few (sym corner.at ∙ e ∙ is)

    between : (a b d : Bool) → (a || d) ≡ true → ((a || b) || d) ≡ true
    between true b d e = refl
    between false true d e = refl
    between false false d e = e

    joined : (q : GridPoint) → has_gap (gaps ++ gap ∷ []) q ≡ (has_gap gaps q || has_gap (gap ∷ []) q)
    joined q = list_any-append (λ (a : Gap). same_point (spot a) q) gaps (gap ∷ [])

    by : (k : ℕ) → (k < c) ⊎ (k ≡ c) → (has_gap (gaps ++ gap ∷ []) (further p k) || is_known (known_at after (further p k))) ≡ true
    by k (inl before) =
        ap (λ t. t || is_known (known_at after (further p k))) (joined (further p k))
        ∙ ap (λ o. (has_gap gaps (further p k) || has_gap (gap ∷ []) (further p k)) || is_known o) (same.each (further p k))
        ∙ between (has_gap gaps (further p k)) (has_gap (gap ∷ []) (further p k)) (is_known (known_at t (further p k))) (are.all k before)
    by k (inr last) =
        let q = further p k in
        let at : spot gap ≡ q = is ∙ ap (further p) (sym last) in
        or_left (has_gap (gaps ++ gap ∷ []) q) (is_known (known_at after q))
        (joined q ∙ or_right (has_gap gaps q) (has_gap (gap ∷ []) q) (or_left (same_point (spot gap) q) false (ap (same_point (spot gap)) (sym at) ∙ same-self (spot gap))))

-- ---- what that takes

covered-all : (b : Indices) (gaps : List Gap) → IsOne b → All (λ gap. IsCornerBelow 8 (point b.x0 b.y0 b.z0) (spot gap)) gaps → All (λ gap. Covers b (spot gap)) gaps
covered-all b gaps one corners =
    All-weaker (λ (gap : Gap). IsCornerBelow 8 (point b.x0 b.y0 b.z0) (spot gap)) (λ gap. Covers b (spot gap)) (λ gap is. subst (Covers b) (sym is.at) (mask-covered b is.mask one)) gaps corners

-- ---- tables with the same values

pub same-grows : (g : GridPoint → ℤ) (b : Indices) (before after : PointValues) → IsSame before after → Grows g b (known_of before) (known_of after)
same-grows g b before after same = record { n = same.n; each = λ p. inl (same.each p) }

same-left : (laws : Lawful) (f : GridPoint → ℕ) (before after : PointValues) → IsSame before after → left f (known_of after) ≡ left f (known_of before)
same-left laws f before after same =
    ap (λ n. unmet f (points_of_grid n) (λ q. is_known (known_at after q))) (size-is after.n before.n same.n)
    ∙ laws.sums.same (points_of_grid before.n) (λ s. cond (is_known (known_at after (point s.i s.j s.k))) 0 (f (point s.i s.j s.k)))
    (λ s. cond (is_known (known_at before (point s.i s.j s.k))) 0 (f (point s.i s.j s.k)))
    (λ s lies. ap (λ o. cond (is_known o) 0 (f (point s.i s.j s.k))) (same.each (point s.i s.j s.k)))

pub same-charges : (laws : Lawful) (f : GridPoint → ℕ) (before after : PointValues) (now : Counts) → IsSame before after → Charges f 0 (known_of before) (known_of after) now now
same-charges laws f before after now same = record {
  points = 0;
  enough = omega (arith, same-left laws f before after same);
  counts = laws.bounds.none now 0 0;
}

pub same-pays : (laws : Lawful) (f : GridPoint → ℕ) (before after : PointValues) (now : Counts) → IsSame before after → Pays f (known_of before) (known_of after) now now
same-pays laws f before after now same =
    let none = pays-none laws f (known_of after) now in
    record { points = none.points; due = omega (arith, none.due, same-left laws f before after same); counts = none.counts }

-- ---- what is left once gaps are filled

-- what the points of gaps take is no longer left where they are known
gaps-left : (laws : Lawful) (f : GridPoint → ℕ) (t : PointValues) (gaps : List Gap) → All (StandsIn t) gaps → All (λ gap. known_at t (spot gap) ≡ None) gaps → AllPairs (λ a b. spot a ≢ spot b) gaps
    → sum_by (λ gap. f (spot gap)) gaps + unmet f (points_of_grid t.n) (λ q. has_gap gaps q || is_known (known_at t q)) ≡ left f (known_of t)
gaps-left laws f t [] stand unknown apart = zero-add (left f (known_of t))
gaps-left laws f t (gap ∷ rest) stand unknown apart =
    let p = spot gap in
    let first : All (λ (a : Gap). p ≢ spot a) rest = λ k d h. apart 0 (suc k) d (omega arith) (omega (arith, h)) in
    let later : AllPairs (λ (a b : Gap). spot a ≢ spot b) rest = λ i j d h l. apart (suc i) (suc j) d (omega (arith, h)) (omega (arith, l)) in
    let here = All-head (StandsIn t) gap rest stand in
    let none : known_at t p ≡ None = All-head (λ (a : Gap). known_at t (spot a) ≡ None) gap rest unknown in
    let others : has_gap rest p ≡ false =
    list_any_none (λ (a : Gap). same_point (spot a) p) rest (All-weaker (λ (a : Gap). p ≢ spot a) (λ a. same_point (spot a) p ≡ false) (λ a other. differs p (spot a) other) rest first) in
    let lies : LiesIn (points_of_grid t.n) (sample_of p) = record { x = (omega arith, omega (arith, here.x)); y = (omega arith, omega (arith, here.y)); z = (omega arith, omega (arith, here.z)) } in
    let more = unmet-one laws f p (points_of_grid t.n) (λ q. has_gap rest q || is_known (known_at t q)) (λ q. has_gap (gap ∷ rest) q || is_known (known_at t q)) lies
    (or_from (has_gap rest p) (is_known (known_at t p)) others (ap is_known none)) (λ q. or_assoc (same_point p q) (has_gap rest q) (is_known (known_at t q))) in
    omega (arith, sum_by-cons (λ (a : Gap). f (spot a)) gap rest, more, gaps-left laws f t rest (All-tail (StandsIn t) gap rest stand) (All-tail (λ (a : Gap). known_at t (spot a) ≡ None) gap rest unknown) later)

filled-left : (laws : Lawful) (f : GridPoint → ℕ) (g : GridPoint → ℤ) (gaps : List Gap) (before after : PointValues) → Fills g gaps before after
    → left f (known_of after) ≡ unmet f (points_of_grid before.n) (λ q. has_gap gaps q || is_known (known_at before q))
filled-left laws f g gaps before after fills =
    ap (λ n. unmet f (points_of_grid n) (λ q. is_known (known_at after q))) (size-is after.n before.n fills.n)
    ∙ laws.sums.same (points_of_grid before.n) (λ s. cond (is_known (known_at after (point s.i s.j s.k))) 0 (f (point s.i s.j s.k)))
    (λ s. cond (has_gap gaps (point s.i s.j s.k) || is_known (known_at before (point s.i s.j s.k))) 0 (f (point s.i s.j s.k)))
    (λ s lies. ap (λ t. cond {A = ℕ} t 0 (f (point s.i s.j s.k))) (filled-known g gaps before after (point s.i s.j s.k) fills))

-- the corners of a cell are filled
pub record AreFilled (g : GridPoint → ℤ) (b : Indices) (gaps : List Gap) (old before after : PointValues) : Type 0 where
  pub one : IsOne b
  pub same : IsSame old before
  pub gaps_are : AreGapsBelow 8 before (point b.x0 b.y0 b.z0) gaps
  pub fills : Fills g gaps before after

pub are-filled : (view is : Window) (list : List Step) (b : Indices) (p : GridPoint) (gaps items : List Gap) (old before after : PointValues) → IsOne b → is ≡ view → p ≡ point b.x0 b.y0 b.z0 → gaps ≡ items → IsSame old before
    → AreGapsBelow 8 before p items → Fills (list_grid_value is list) gaps before after → AreFilled (list_grid_value view list) b gaps old before after
are-filled view is list b p gaps items old before after one same corner all kept gaps_are fills = record {
  one = one;
  same = kept;
  gaps_are = subst (λ q. AreGapsBelow 8 before q gaps) corner (subst (AreGapsBelow 8 before p) (sym all) gaps_are);
  fills = subst (λ v. Fills (list_grid_value v list) gaps before after) same fills;
}

pub gaps-charged : (laws : Lawful) (f : GridPoint → ℕ) (g : GridPoint → ℤ) (b : Indices) (len : ℕ) (gaps : List Gap) (old before after : PointValues) (told now : Counts) → AreFilled g b gaps old before after
    → ((q : GridPoint) → Covers b q → len ≤ f q) → RisesBy told now (points_of (length gaps * len)) → Charges f 0 (known_of old) (known_of after) told now
gaps-charged laws f g b len gaps old before after told now are enough rises =
    let gaps_are = are.gaps_are in
    let all = All-weaker (λ (gap : Gap). Covers b (spot gap)) (λ gap. len ≤ f (spot gap)) (λ gap covers. enough (spot gap) covers) gaps (covered-all b gaps are.one gaps_are.corners) in
    record {
      points = length gaps * len;
      enough = omega (arith, sum_by-least (λ (a : Gap). f (spot a)) len gaps all, gaps-left laws f before gaps gaps_are.stand gaps_are.unknown gaps_are.apart, filled-left laws f g gaps before after are.fills, same-left laws f old before are.same);
      counts = laws.bounds.points told now (length gaps * len) rises;
    }

pub gaps-paid : (laws : Lawful) (f : GridPoint → ℕ) (g : GridPoint → ℤ) (b : Indices) (len : ℕ) (gaps : List Gap) (old before after : PointValues) (told now : Counts) → AreFilled g b gaps old before after
    → ((q : GridPoint) → Covers b q → f q ≤ len) → RisesBy told now (points_of (length gaps * len)) → Pays f (known_of old) (known_of after) told now
gaps-paid laws f g b len gaps old before after told now are due rises =
    let gaps_are = are.gaps_are in
    let all = All-weaker (λ (gap : Gap). Covers b (spot gap)) (λ gap. f (spot gap) ≤ len) (λ gap covers. due (spot gap) covers) gaps (covered-all b gaps are.one gaps_are.corners) in
    record {
      points = length gaps * len;
      due = omega (arith, sum_by-le (λ (a : Gap). f (spot a)) len gaps all, gaps-left laws f before gaps gaps_are.stand gaps_are.unknown gaps_are.apart, filled-left laws f g gaps before after are.fills, same-left laws f old before are.same);
      counts = record { by = points_of (length gaps * len); many = omega arith; rises = rises };
    }

pub gaps-grow : (g : GridPoint → ℤ) (b : Indices) (gaps : List Gap) (old before after : PointValues) → AreFilled g b gaps old before after → Grows g b (known_of old) (known_of after)
gaps-grow g b gaps old before after are = record {
  n = size-then after.n before.n old.n are.fills.n are.same.n;
  each = λ q. by q (has_gap gaps q) refl;
}
  where
    by : (q : GridPoint) (t : Bool) → has_gap gaps q ≡ t → (known_at after q ≡ known_at old q) ⊎ IsNew g b (known_of old) (known_of after) q
    by q true e =
        inr (record {
          unknown = sym (are.same.each q) ∙ has-gap (λ p. known_at before p ≡ None) gaps q are.gaps_are.unknown e;
          covered = has-gap (Covers b) gaps q (covered-all b gaps are.one are.gaps_are.corners) e;
          value = are.fills.each q ∙ ap (λ t. cond t (Some (g q)) (known_at before q)) e;
        })
    by q false e = inl (are.fills.each q ∙ ap (λ t. cond t (Some (g q)) (known_at before q)) e ∙ are.same.each q)

-- then each corner is known
pub gaps-known_then : (g : GridPoint → ℤ) (b : Indices) (gaps : List Gap) (old before after : PointValues) → AreFilled g b gaps old before after → AllKnown (known_of after) b
gaps-known_then g b gaps old before after are =
    all-known b after are.one (λ k less. filled-known g gaps before after (further (point b.x0 b.y0 b.z0) k) are.fills ∙ are.gaps_are.all k less)
