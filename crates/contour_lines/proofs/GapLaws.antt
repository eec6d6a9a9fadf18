-- How points that have no values yet get them, and what that takes.
use Rattle.std.proofs.Common.{◌≡◌, ◌≢◌, ℕ, suc, ◌+◌, ◌*◌, ◌<◌, ◌≤◌, ℤ, Bool, true, false, cond, List, [], ◌∷◌, ◌++◌, drop, length, take, refl, sym, ap, subst, zero-add, ◌∙◌, ◌⊎◌, inl, inr, arith}
use Rattle.std.specs.Prelude.{Option, Some, None, ◌||◌, get_or}
use Rattle.std.specs.List.{All, AllPairs, sum_by}
use Rattle.std.proofs.Math.Bool.{or_assoc}
use Rattle.std.proofs.Math.Seq.{take-add}
use Rattle.std.proofs.lemmas.List.Sums.{sum_by-cons, sum_by-le}
use Rattle.std.proofs.lemmas.Bool.{false≢true, or_from, or_left, or_right}
use Rattle.std.proofs.lemmas.List.Elements.{All-get_or, All-head, All-push, All-tail, All-weaker}
use Rattle.std.proofs.lemmas.List.Folds.{list_any-append, list_any_more, list_any_none}
use Rattle.std.proofs.lemmas.List.Quantifiers.{all_pairs_push}
use Rattle.box_chains.specs.Laws.{Lawful}
use Rattle.box_chains.specs.Sums.{LiesIn}
use Rattle.fixed_ops.specs.Counts.{Counts, RisesBy, points_of}
use Rattle.kuhn_cells.specs.Sizes.{SameSize}
use Rattle.kuhn_cells.specs.Triangles.{GridPoint, further, point}
use Rattle.live_clauses.specs.declared.step.Step.{Step}
use Rattle.view_places.specs.Boxes.{Indices}
use Rattle.view_places.specs.Window.{Window}
use Rattle.oct_descent.specs.Bound.{sample_of}
use Rattle.oct_descent.specs.GridLaws.{LawsOf, unmet}
use Rattle.oct_descent.specs.Known.{AllKnown, Charges, Grows, IsNew, Known, Pays, Sets, left}
use Rattle.contour_lines.specs.Gaps.{AreGapsBelow, Fills, IsCornerBelow, StandsIn, has_gap, nth, spot}
use Rattle.contour_lines.specs.Tables.{PlaneValues, known_of}
use Rattle.contour_lines.specs.Ways.{flat_value, floor_of, plane, points_of_plane}
use Rattle.oct_descent.specs.Tables.{is_known, same_point}
use Rattle.oct_descent.specs.Ways.{Covers}
use Rattle.contour_lines.specs.declared.gap.Gap.{Gap}
use Rattle.contour_lines.proofs.Corners.{IsLow, all-known, floor-covers, mask-covered}
use Rattle.fixed_ops.proofs.Lists.{sum_by-least}
use Rattle.oct_descent.proofs.GapLaws.{cases-last}

-- ---- tests

differs : (laws : LawsOf plane) (p q : GridPoint) → p ≢ q → same_point q p ≡ false
differs laws p q other = by (same_point q p) refl
  where
    by : (t : Bool) → same_point q p ≡ t → same_point q p ≡ false
    by true e = absurd (other (sym (laws.work.same q p e)))
    by false e = e

-- different corners of a cell are different points
further-apart : (p : GridPoint) (a b : ℕ) → a < b → b < 4 → further p a ≡ further p b → ⊥
further-apart p a b less few e = omega (arith, less, few, ap (λ q. q.x) e, ap (λ q. q.y) e, ap (λ q. q.z) e)

-- what holds of the points of all gaps holds of a point that is one of them
has-gap : (laws : LawsOf plane) (P : GridPoint → Type 0) (gaps : List Gap) (q : GridPoint) → All (λ gap. P (spot gap)) gaps → has_gap gaps q ≡ true → P q
has-gap laws P [] q all e = absurd (false≢true e)
has-gap laws P (gap ∷ rest) q all e = by (has-gap laws P rest q (All-tail (λ (a : Gap). P (spot a)) gap rest all)) (same_point (spot gap) q) refl
  where
    by : (has_gap rest q ≡ true → P q) → (t : Bool) → same_point (spot gap) q ≡ t → P q
    by next true is = subst P (laws.work.same (spot gap) q is) (All-head (λ (a : Gap). P (spot a)) gap rest all)
    by next false is = next (sym (ap (λ t. t || has_gap rest q) is) ∙ e)

-- ---- filling

-- filled points are known
pub filled-known : (g : GridPoint → ℤ) (gaps : List Gap) (before after : Known) (q : GridPoint) → Fills g gaps before after → is_known (after.at q) ≡ (has_gap gaps q || is_known (before.at q))
filled-known g gaps before after q fills = ap is_known (fills.each q) ∙ by (has_gap gaps q) (g q) (before.at q)
  where
    by : (t : Bool) (v : ℤ) (o : Option ℤ) → is_known (cond t (Some v) o) ≡ (t || is_known o)
    by true v o = refl
    by false v o = refl

-- some points, and then others
fills-then : (laws : LawsOf plane) (g : GridPoint → ℤ) (xs ys zs : List Gap) (before mid after : Known) → ((q : GridPoint) → has_gap zs q ≡ (has_gap xs q || has_gap ys q)) → Fills g xs before mid → Fills g ys mid after
    → Fills g zs before after
fills-then laws g xs ys zs before mid after joined first second = record {
  n = laws.sizes.chain after.n mid.n before.n second.n first.n;
  each = λ q.
      second.each q
      ∙ ap (λ o. cond (has_gap ys q) (Some (g q)) o) (first.each q)
      ∙ either (has_gap xs q) (has_gap ys q) (Some (g q)) (before.at q)
      ∙ ap (λ t. cond t (Some (g q)) (before.at q)) (sym (joined q));
}
  where
    either : (s t : Bool) (v o : Option ℤ) → cond t v (cond s v o) ≡ cond (s || t) v o
    either true true v o = refl
    either true false v o = refl
    either false t v o = refl

-- some more of them
pub fills-more : (laws : LawsOf plane) (g : GridPoint → ℤ) (at more : ℕ) (gaps : List Gap) (before mid after : Known) → Fills g (take at gaps) before mid → Fills g (take more (drop at gaps)) mid after
    → Fills g (take (at + more) gaps) before after
fills-more laws g at more gaps before mid after =
    fills-then laws g (take at gaps) (take more (drop at gaps)) (take (at + more) gaps) before mid after
    (λ q. ap (λ l. has_gap l q) (take-add at more gaps) ∙ list_any-append (λ (gap : Gap). same_point (spot gap) q) (take at gaps) (take more (drop at gaps)))

-- and one more
pub fills-one : (laws : LawsOf plane) (g : GridPoint → ℤ) (n : ℕ) (v : ℤ) (gaps : List Gap) (before mid after : Known) → n < length gaps → v ≡ g (spot (nth gaps n)) → Fills g (take n gaps) before mid
    → Sets (spot (nth gaps n)) v mid after → Fills g (take (n + 1) gaps) before after
fills-one laws g n v gaps before mid after within value first sets = record {
  n = laws.sizes.chain after.n mid.n before.n sets.n first.n;
  each = λ q. by q (same_point p q) refl;
}
  where
    p : GridPoint
    p = spot (nth gaps n)

    more : (q : GridPoint) → has_gap (take (n + 1) gaps) q ≡ (has_gap (take n gaps) q || same_point p q)
    more q = list_any_more (λ (gap : Gap). same_point (spot gap) q) gaps n (record { x = 0; y = 0 }) within

    or-no : (s : Bool) → (s || false) ≡ s
    or-no true = refl
    or-no false = refl

    by : (q : GridPoint) (t : Bool) → same_point p q ≡ t → after.at q ≡ cond (has_gap (take (n + 1) gaps) q) (Some (g q)) (before.at q)
    by q true e =
        sets.each q
        ∙ ap (λ t. cond t (Some v) (mid.at q)) e
        ∙ ap Some (value ∙ ap g (laws.work.same p q e))
        ∙ sym (ap (λ t. cond t (Some (g q)) (before.at q)) (more q ∙ or_right (has_gap (take n gaps) q) (same_point p q) e))
    by q false e =
        sets.each q
        ∙ ap (λ t. cond t (Some v) (mid.at q)) e
        ∙ first.each q
        ∙ sym (ap (λ t. cond t (Some (g q)) (before.at q)) (more q ∙ ap (λ t. has_gap (take n gaps) q || t) e ∙ or-no (has_gap (take n gaps) q)))

-- points that are a table's are those of one as large
pub stands-kept : (before after : Known) (gap : Gap) → SameSize after.n before.n → StandsIn before gap → StandsIn after gap
stands-kept before after gap same is = record { x = omega (arith, same.0, is.x); y = omega (arith, same.1.0, is.y) }

-- gap n of some that stand in a table does
pub nth-stands : (t : Known) (gaps : List Gap) (n : ℕ) → n < length gaps → All (StandsIn t) gaps → StandsIn t (nth gaps n)
nth-stands t gaps n within all = All-get_or (StandsIn t) gaps n (record { x = 0; y = 0 }) within all

-- ---- the corners of a cell

below-more : (c : ℕ) (p : GridPoint) (gaps : List Gap) → All (λ gap. IsCornerBelow c p (spot gap)) gaps → All (λ gap. IsCornerBelow (c + 1) p (spot gap)) gaps
below-more c p gaps all =
    All-weaker (λ (gap : Gap). IsCornerBelow c p (spot gap)) (λ gap. IsCornerBelow (c + 1) p (spot gap)) (λ gap is. record { mask = is.mask; less = omega (arith, is.less); at = is.at }) gaps all

-- the next corner is known
pub gaps-known : (t : Known) (p : GridPoint) (c : ℕ) (gaps : List Gap) → is_known (t.at (further p c)) ≡ true → AreGapsBelow c t p gaps → AreGapsBelow (c + 1) t p gaps
gaps-known t p c gaps known are = record {
  stand = are.stand;
  corners = below-more c p gaps are.corners;
  unknown = are.unknown;
  apart = are.apart;
  all = λ k less. by k (below k less);
}
  where
    below : (k : ℕ) → k < c + 1 → (k < c) ⊎ (k ≡ c)
    below k less = cases-last k c less

    by : (k : ℕ) → (k < c) ⊎ (k ≡ c) → (has_gap gaps (further p k) || is_known (t.at (further p k))) ≡ true
    by k (inl before) = are.all k before
    by k (inr same) = or_right (has_gap gaps (further p k)) (is_known (t.at (further p k))) (ap (λ n. is_known (t.at (further p n))) same ∙ known)

-- the next corner gets a gap
pub gaps-more : (laws : LawsOf plane) (t : Known) (p : GridPoint) (c : ℕ) (gaps : List Gap) (gap : Gap) → c < 4 → spot gap ≡ further p c → StandsIn t gap
    → t.at (further p c) ≡ None → AreGapsBelow c t p gaps → AreGapsBelow (c + 1) t p (gaps ++ gap ∷ [])
gaps-more laws t p c gaps gap few is stands unknown are = record {
  stand = All-push (StandsIn t) gaps gap are.stand stands;
  corners = All-push (λ (a : Gap). IsCornerBelow (c + 1) p (spot a)) gaps gap (below-more c p gaps are.corners) (record { mask = c; less = omega arith; at = is });
  unknown = All-push (λ (a : Gap). t.at (spot a) ≡ None) gaps gap are.unknown (ap (t.at) is ∙ unknown);
  apart = all_pairs_push (λ (a b : Gap). spot a ≢ spot b) gaps gap are.apart (λ k d within. other (get_or gaps k d) (All-get_or (λ (a : Gap). IsCornerBelow c p (spot a)) gaps k d within are.corners));
  all = λ k less. by k (cases-last k c less);
}
  where
    other : (a : Gap) → IsCornerBelow c p (spot a) → spot a ≢ spot gap
    other a corner e = further-apart p corner.mask c corner.less few (sym corner.at ∙ e ∙ is)

    between : (a b d : Bool) → (a || d) ≡ true → ((a || b) || d) ≡ true
    between true b d e = refl
    between false true d e = refl
    between false false d e = e

    joined : (q : GridPoint) → has_gap (gaps ++ gap ∷ []) q ≡ (has_gap gaps q || has_gap (gap ∷ []) q)
    joined q = list_any-append (λ (a : Gap). same_point (spot a) q) gaps (gap ∷ [])

    by : (k : ℕ) → (k < c) ⊎ (k ≡ c) → (has_gap (gaps ++ gap ∷ []) (further p k) || is_known (t.at (further p k))) ≡ true
    by k (inl before) =
        ap (λ b. b || is_known (t.at (further p k))) (joined (further p k))
        ∙ between (has_gap gaps (further p k)) (has_gap (gap ∷ []) (further p k)) (is_known (t.at (further p k))) (are.all k before)
    by k (inr last) =
        let q = further p k in
        let at : spot gap ≡ q = is ∙ ap (further p) (sym last) in
        or_left (has_gap (gaps ++ gap ∷ []) q) (is_known (t.at q))
        (joined q ∙ or_right (has_gap gaps q) (has_gap (gap ∷ []) q) (or_left (same_point (spot gap) q) false (ap (same_point (spot gap)) (sym at) ∙ laws.work.itself (spot gap))))

-- ---- what that takes

covered-all : (b : Indices) (gaps : List Gap) → IsLow b → All (λ gap. IsCornerBelow 4 (point b.x0 b.y0 0) (spot gap)) gaps → All (λ gap. Covers (floor_of b) (spot gap)) gaps
covered-all b gaps low corners =
    All-weaker (λ (gap : Gap). IsCornerBelow 4 (point b.x0 b.y0 0) (spot gap)) (λ gap. Covers (floor_of b) (spot gap)) (λ gap is. subst (Covers (floor_of b)) (sym is.at) (mask-covered b is.mask is.less low)) gaps corners

-- what the points of gaps take is no longer left where they are known
gaps-left : (laws : LawsOf plane) (f : GridPoint → ℕ) (t : PlaneValues) (gaps : List Gap) → All (StandsIn (known_of t)) gaps → All (λ gap. (known_of t).at (spot gap) ≡ None) gaps → AllPairs (λ a b. spot a ≢ spot b) gaps
    → sum_by (λ gap. f (spot gap)) gaps + unmet f (points_of_plane t.n) (λ q. has_gap gaps q || is_known ((known_of t).at q)) ≡ left f (known_of t)
gaps-left laws f t [] stand unknown apart = zero-add (left f (known_of t))
gaps-left laws f t (gap ∷ rest) stand unknown apart =
    let k = known_of t in
    let p = spot gap in
    let first : All (λ (a : Gap). p ≢ spot a) rest = λ k d h. apart 0 (suc k) d (omega arith) (omega (arith, h)) in
    let later : AllPairs (λ (a b : Gap). spot a ≢ spot b) rest = λ i j d h l. apart (suc i) (suc j) d (omega (arith, h)) (omega (arith, l)) in
    let here = All-head (StandsIn k) gap rest stand in
    let none : k.at p ≡ None = All-head (λ (a : Gap). k.at (spot a) ≡ None) gap rest unknown in
    let others : has_gap rest p ≡ false =
    list_any_none (λ (a : Gap). same_point (spot a) p) rest (All-weaker (λ (a : Gap). p ≢ spot a) (λ a. same_point (spot a) p ≡ false) (λ a other. differs laws p (spot a) other) rest first) in
    let lies : LiesIn (points_of_plane t.n) (sample_of p) = record { x = (omega arith, omega (arith, here.x)); y = (omega arith, omega (arith, here.y)); z = (omega arith, omega arith) } in
    let more = laws.work.one f p (points_of_plane t.n) (λ q. has_gap rest q || is_known (k.at q)) (λ q. has_gap (gap ∷ rest) q || is_known (k.at q)) lies
    (or_from (has_gap rest p) (is_known (k.at p)) others (ap is_known none)) (λ q. or_assoc (same_point p q) (has_gap rest q) (is_known (k.at q))) in
    omega (arith, sum_by-cons (λ (a : Gap). f (spot a)) gap rest, more, gaps-left laws f t rest (All-tail (StandsIn k) gap rest stand) (All-tail (λ (a : Gap). k.at (spot a) ≡ None) gap rest unknown) later)

filled-left : (lawful : Lawful) (laws : LawsOf plane) (f : GridPoint → ℕ) (g : GridPoint → ℤ) (gaps : List Gap) (before after : PlaneValues) → Fills g gaps (known_of before) (known_of after)
    → left f (known_of after) ≡ unmet f (points_of_plane before.n) (λ q. has_gap gaps q || is_known ((known_of before).at q))
filled-left lawful laws f g gaps before after fills =
    ap (λ n. unmet f (points_of_plane n) (λ q. is_known ((known_of after).at q))) (laws.sizes.is after.n before.n fills.n)
    ∙ lawful.sums.same (points_of_plane before.n) (λ s. cond (is_known ((known_of after).at (point s.i s.j s.k))) 0 (f (point s.i s.j s.k)))
    (λ s. cond (has_gap gaps (point s.i s.j s.k) || is_known ((known_of before).at (point s.i s.j s.k))) 0 (f (point s.i s.j s.k)))
    (λ s lies. ap (λ t. cond {A = ℕ} t 0 (f (point s.i s.j s.k))) (filled-known g gaps (known_of before) (known_of after) (point s.i s.j s.k) fills))

-- the corners of a cell are filled
pub record AreFilled (g : GridPoint → ℤ) (b : Indices) (gaps : List Gap) (before after : PlaneValues) : Type 0 where
  pub low : IsLow b
  pub gaps_are : AreGapsBelow 4 (known_of before) (point b.x0 b.y0 0) gaps
  pub fills : Fills g gaps (known_of before) (known_of after)

pub are-filled : (view is : Window) (list : List Step) (b : Indices) (p : GridPoint) (gaps items : List Gap) (before after : PlaneValues) → IsLow b → is ≡ view → p ≡ point b.x0 b.y0 0 → gaps ≡ items
    → AreGapsBelow 4 (known_of before) p items → Fills (flat_value is list) gaps (known_of before) (known_of after) → AreFilled (flat_value view list) b gaps before after
are-filled view is list b p gaps items before after low same corner all gaps_are fills = record {
  low = low;
  gaps_are = subst (λ q. AreGapsBelow 4 (known_of before) q gaps) corner (subst (AreGapsBelow 4 (known_of before) p) (sym all) gaps_are);
  fills = subst (λ v. Fills (flat_value v list) gaps (known_of before) (known_of after)) same fills;
}

pub gaps-charged : (lawful : Lawful) (laws : LawsOf plane) (f : GridPoint → ℕ) (g : GridPoint → ℤ) (b : Indices) (len : ℕ) (gaps : List Gap) (before after : PlaneValues) (told now : Counts) → AreFilled g b gaps before after
    → ((q : GridPoint) → Covers (floor_of b) q → len ≤ f q) → RisesBy told now (points_of (length gaps * len)) → Charges f 0 (known_of before) (known_of after) told now
gaps-charged lawful laws f g b len gaps before after told now are enough rises =
    let gaps_are = are.gaps_are in
    let all = All-weaker (λ (gap : Gap). Covers (floor_of b) (spot gap)) (λ gap. len ≤ f (spot gap)) (λ gap covers. enough (spot gap) covers) gaps (covered-all b gaps are.low gaps_are.corners) in
    record {
      points = length gaps * len;
      enough = omega (arith, sum_by-least (λ (a : Gap). f (spot a)) len gaps all, gaps-left laws f before gaps gaps_are.stand gaps_are.unknown gaps_are.apart, filled-left lawful laws f g gaps before after are.fills);
      counts = lawful.bounds.points told now (length gaps * len) rises;
    }

pub gaps-paid : (lawful : Lawful) (laws : LawsOf plane) (f : GridPoint → ℕ) (g : GridPoint → ℤ) (b : Indices) (len : ℕ) (gaps : List Gap) (before after : PlaneValues) (told now : Counts) → AreFilled g b gaps before after
    → ((q : GridPoint) → Covers (floor_of b) q → f q ≤ len) → RisesBy told now (points_of (length gaps * len)) → Pays f (known_of before) (known_of after) told now
gaps-paid lawful laws f g b len gaps before after told now are due rises =
    let gaps_are = are.gaps_are in
    let all = All-weaker (λ (gap : Gap). Covers (floor_of b) (spot gap)) (λ gap. f (spot gap) ≤ len) (λ gap covers. due (spot gap) covers) gaps (covered-all b gaps are.low gaps_are.corners) in
    record {
      points = length gaps * len;
      due = omega (arith, sum_by-le (λ (a : Gap). f (spot a)) len gaps all, gaps-left laws f before gaps gaps_are.stand gaps_are.unknown gaps_are.apart, filled-left lawful laws f g gaps before after are.fills);
      counts = record { by = points_of (length gaps * len); many = omega arith; rises = rises };
    }

pub gaps-grow : (laws : LawsOf plane) (g : GridPoint → ℤ) (b : Indices) (gaps : List Gap) (before after : PlaneValues) → AreFilled g b gaps before after → Grows g b (known_of before) (known_of after)
gaps-grow laws g b gaps before after are = record {
  n = are.fills.n;
  each = λ q. by q (has_gap gaps q) refl;
}
  where
    by : (q : GridPoint) (t : Bool) → has_gap gaps q ≡ t → ((known_of after).at q ≡ (known_of before).at q) ⊎ IsNew g b (known_of before) (known_of after) q
    by q true e =
        inr (record {
          unknown = has-gap laws (λ p. (known_of before).at p ≡ None) gaps q are.gaps_are.unknown e;
          covered = floor-covers b q are.low.one (has-gap laws (Covers (floor_of b)) gaps q (covered-all b gaps are.low are.gaps_are.corners) e);
          value = are.fills.each q ∙ ap (λ t. cond t (Some (g q)) ((known_of before).at q)) e;
        })
    by q false e = inl (are.fills.each q ∙ ap (λ t. cond t (Some (g q)) ((known_of before).at q)) e)

-- then each corner is known
pub gaps-known_then : (g : GridPoint → ℤ) (b : Indices) (gaps : List Gap) (before after : PlaneValues) → AreFilled g b gaps before after → AllKnown (known_of after) (floor_of b)
gaps-known_then g b gaps before after are =
    all-known b (known_of after) are.low (λ k less. filled-known g gaps (known_of before) (known_of after) (further (point b.x0 b.y0 0) k) are.fills ∙ are.gaps_are.all k less)
