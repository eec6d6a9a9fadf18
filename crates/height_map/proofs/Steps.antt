-- What is left and counted, once boxes are traced together and some of them are drawn.
use Rattle.std.proofs.Common.{◌≡◌, ℕ, zero, suc, ◌+◌, ◌-◌, ◌*◌, ◌/◌, ◌%◌, ◌<◌, ◌≤◌, Bool, true, false, cond, List, [], ◌∷◌, length, get_or, drop, take, refl, sym, ap, subst, ◌∙◌, arith}
use Rattle.std.specs.Prelude.{Some, None, Option, nat_le, ◌==◌, ◌&&◌}
use Rattle.std.specs.List.{All, filter, sum_by}
use Rattle.std.proofs.lemmas.List.{drop_all, drop_more, get_or-map, length-drop, take_all}
use Rattle.std.proofs.lemmas.List.Elements.{All-head, All-tail, All-weaker}
use Rattle.std.proofs.lemmas.List.Sums.{sum_by-append, sum_by-cons}
use Rattle.box_chains.specs.Chains.{Descent, Visit, decision, handed_on, visit}
use Rattle.box_chains.specs.Counts.{halves_spans, spans_in}
use Rattle.box_chains.specs.Placing.{Sampling}
use Rattle.box_chains.specs.declared.outcome.Outcome.TheVariants.{Inside as AllInside, Outside as AllOutside, Open}
use Rattle.view_places.specs.declared.lattice.Lattice.TheVariants.{Height}
use Rattle.box_chains.specs.Outcomes.{outcome_by, outcome_of, outcomes_of}
use Rattle.box_chains.specs.Sums.{LiesIn, Sample}
use Rattle.box_chains.specs.Tallied.{CountsAtMost}
use Rattle.box_chains.specs.Visits.{IsVisit}
use Rattle.box_chains.specs.Laws.{Lawful}
use Rattle.box_chains.specs.declared.outcome.Outcome.{Outcome}
use Rattle.fixed_ops.specs.Counts.{Counts}
use Rattle.interval_ops.specs.HullCounts.{CountsHulls}
use Rattle.live_clauses.specs.declared.step.Step.{Step}
use Rattle.view_places.specs.Boxes.{Indices, IsBox, halves_of}
use Rattle.view_places.specs.Window.{Window}
use Rattle.height_map.specs.Beside.{LieBeside, beside_points, beside_top, beside_traced, farther, nearer}
use Rattle.height_map.specs.Bound.{CountsPoints, CountsSpans, layered}
use Rattle.box_chains.specs.Tested.{halves_points_where, halves_spans_where, has_some, points_where, spans_where}
use Rattle.height_map.specs.Columns.{Changes, IsAmong, covers, has_open, is_open, leaf_top}
use Rattle.box_chains.specs.Opened.{outcome_spans, sampling}
use Rattle.height_map.specs.Opened.{outcome_points, outcome_top, outcome_traced}
use Rattle.height_map.specs.Tops.{top_among}
use Rattle.height_map.proofs.Beside.{halves-parts}
use Rattle.height_map.proofs.ChangeLaws.{covers-place, lifted-some, place-within}
use Rattle.height_map.proofs.Drawn.{IsDrawnTo, half-open, outcome-drawn}
use Rattle.height_map.proofs.Evaluated.{covered-closed, points-are, points-closed, points-hulls, points-outcome, points-then}
use Rattle.height_map.proofs.Opens.{kept-top, rest-none, sum-kept, sum-kept_below, told-covered, told-open, untouched}
use Rattle.height_map.proofs.Traced.{open-some, some-same, spans-are, spans-hulls, spans-then, traced-closed, traced-outcome}
use Rattle.height_map.proofs.WorkLaws.{spans-decided, spans-open, sum-drop_below}

-- sums over a list of equal numbers are equal
sum_by-equal : {X : Type 0} (f g : X → ℕ) (xs : List X) → All (λ x. f x ≡ g x) xs → sum_by f xs ≡ sum_by g xs
sum_by-equal f g [] same = refl
sum_by-equal f g (x ∷ xs) same =
    omega (arith, sum_by-cons f x xs, sum_by-cons g x xs, All-head (λ y. f y ≡ g y) x xs same, sum_by-equal f g xs (All-tail (λ y. f y ≡ g y) x xs same))

-- ---- one box

-- its own trace, and what may be traced below it
pub spans-outcome : (laws : Lawful) (view : Window) (list : List Step) (b : Indices) → IsBox b
    → spans_in (layered view) (visit b list) ≡ length list + outcome_spans (layered view) b (outcome_of (sampling (layered view)) list b)
spans-outcome laws view list b is = by (decision d v) refl
  where
    d : Descent
    d = layered view

    v : Visit
    v = visit b list

    by : (t : Option Bool) → decision d v ≡ t → spans_in d v ≡ length list + outcome_spans (layered view) b (outcome_by t (handed_on d v))
    by (Some true) e = omega (arith, spans-decided laws d v true (omega arith) is e)
    by (Some false) e = omega (arith, spans-decided laws d v false (omega arith) is e)
    by None e = spans-open laws d v (omega arith) is e

-- what is told over the places of a height map
pub told-by : (places : Sampling) (list : List Step) (b : Indices) (o : Outcome (List Step)) → places.lattice ≡ Height → o ≡ outcome_of places list b → o ≡ outcome_of (sampling (layered places.view)) list b
told-by places list b o is are = are ∙ ap (λ lattice. outcome_of (record { view = places.view; lattice = lattice }) list b) is

-- the list that an outcome hands on
abbrev opened : Outcome (List Step) → List Step
opened (Open list) = list
opened AllInside = []
opened AllOutside = []

-- ---- one more of some boxes that lie beside each other

-- the next one to draw, with its outcome: its columns are as they were
pub record IsNext (view : Window) (list : List Step) (boxes : List Indices) (old mid : List ℕ) (i : ℕ) (b : Indices) (o : Outcome (List Step)) : Type 0 where
  pub visit_is : IsVisit (layered view) (visit b list)
  pub among : IsAmong view.w (length old) b
  pub told : o ≡ outcome_of (sampling (layered view)) list b
  pub more : drop i boxes ≡ b ∷ drop (suc i) boxes
  pub same : (p : ℕ) → p < length old → covers view.w b p ≡ true → get_or mid p 0 ≡ get_or old p 0

drop-beside : (w i : ℕ) (boxes : List Indices) → LieBeside w boxes → LieBeside w (drop i boxes)
drop-beside w i boxes apart p = omega (arith, sum-drop_below (λ b. cond {A = ℕ} (covers w b p) 1 0) boxes i, apart p)

pub next-is : (view : Window) (list : List Step) (boxes : List Indices) (outcomes : List (Outcome (List Step))) (old mid : List ℕ) (n i : ℕ) (b : Indices) (o : Outcome (List Step)) → n ≡ suc i → i < length boxes
    → b ≡ get_or boxes i b → o ≡ get_or outcomes i o → outcomes ≡ outcomes_of (sampling (layered view)) list boxes → LieBeside view.w boxes → IsVisit (layered view) (visit b list)
    → IsAmong view.w (length old) b → Changes (λ p. true) (beside_top view list (drop n boxes)) old mid → IsNext view list boxes old mid i b o
next-is view list boxes outcomes old mid n i b o left within read there are apart visit_is among changed = record {
  visit_is = visit_is;
  among = among;
  told = there ∙ ap (λ l. get_or l i o) are ∙ get_or-map (outcome_of (sampling (layered view)) list) boxes i b o within ∙ ap (outcome_of (sampling (layered view)) list) (sym read);
  more = more;
  same = λ p h e.
      changed.each p h ∙ ap (λ m. beside_top view list (drop m boxes) p (get_or old p 0)) left
      ∙ untouched view list p (get_or old p 0) (drop (suc i) boxes) (rest-none view.w p b (drop (suc i) boxes) (subst (LieBeside view.w) more (drop-beside view.w i boxes apart)) e);
}
  where
    next : i + 1 ≡ suc i
    next = omega arith

    more : drop i boxes ≡ b ∷ drop (suc i) boxes
    more = drop_more boxes i b within ∙ ap (λ h. h ∷ drop (i + 1) boxes) (sym read) ∙ ap (λ m. b ∷ drop m boxes) next

-- the same samples of it are open
next-open : (view : Window) (list : List Step) (boxes : List Indices) (old mid : List ℕ) (i : ℕ) (b : Indices) (o : Outcome (List Step)) → IsNext view list boxes old mid i b o
    → (s : Sample) → LiesIn b s → is_open view list b mid s ≡ is_open view list b old s
next-open view list boxes old mid i b o is s lies =
    let narrow : s.i < view.w = omega (arith, lies.x, is.among.columns) in
    let here = covers-place view.w s.i s.j b narrow lies.x.0 lies.x.1 lies.y.0 lies.y.1 in
    let there = place-within view.w (length old) s.i s.j b is.among lies.x.1 lies.y.1 in
    ap (λ n. n == 0 && nat_le (top_among view list b.z0 b.z1 s.i s.j) (s.k + 1)) (is.same (s.j * view.w + s.i) there here)

pub next-top : (laws : Lawful) (view : Window) (list : List Step) (boxes : List Indices) (old mid new : List ℕ) (n i w : ℕ) (b : Indices) (o : Outcome (List Step)) → n ≡ suc i → w ≡ view.w
    → IsNext view list boxes old mid i b o → Changes (λ p. true) (beside_top view list (drop n boxes)) old mid → Changes (covers w b) (outcome_top view b o) mid new
    → Changes (λ p. true) (beside_top view list (drop i boxes)) old new
next-top laws view list boxes old mid new n i w b o left width is first second = record {
  same = changed.same ∙ first.same;
  each = λ p h. changed.each p (omega (arith, h, first.same)) ∙ by p h (covers view.w b p) refl ∙ ap (λ l. beside_top view list l p (get_or old p 0)) (sym is.more);
}
  where
    rest : List Indices
    rest = drop (suc i) boxes

    changed : Changes (covers view.w b) (leaf_top view list b) mid new
    changed = subst (λ m. Changes (covers m b) (leaf_top view list b) mid new) width (outcome-drawn laws view list b o w mid new width is.visit_is is.told second)

    by : (p : ℕ) → p < length old → (t : Bool) → covers view.w b p ≡ t
        → cond t (leaf_top view list b p (get_or mid p 0)) (get_or mid p 0) ≡ cond (covers view.w b p) (leaf_top view list b p (get_or old p 0)) (beside_top view list rest p (get_or old p 0))
    by p h true e = ap (leaf_top view list b p) (is.same p h e) ∙ ap (λ t. cond t (leaf_top view list b p (get_or old p 0)) (beside_top view list rest p (get_or old p 0))) (sym e)
    by p h false e =
        first.each p h ∙ ap (λ m. beside_top view list (drop m boxes) p (get_or old p 0)) left
        ∙ ap (λ t. cond t (leaf_top view list b p (get_or old p 0)) (beside_top view list rest p (get_or old p 0))) (sym e)

-- what it takes beside what those before it take
more-points : (laws : Lawful) (view : Window) (list : List Step) (boxes : List Indices) (old mid : List ℕ) (i : ℕ) (b : Indices) (o : Outcome (List Step)) → IsNext view list boxes old mid i b o
    → beside_points view list old (drop i boxes) ≡ outcome_points view mid b o + beside_points view list old (drop (suc i) boxes)
more-points laws view list boxes old mid i b o is =
    omega (
      arith,
      ap (beside_points view list old) is.more,
      sum_by-cons (λ h. points_where (is_open view list h old) (layered view) (visit h list)) b (drop (suc i) boxes),
      laws.tested.points_same (is_open view list b mid) (is_open view list b old) (layered view) (visit b list) (next-open view list boxes old mid i b o is),
      points-outcome laws view list b mid is.visit_is,
      ap (outcome_points view mid b) is.told,
    )

pub next-points : (laws : Lawful) (view : Window) (list : List Step) (boxes : List Indices) (old mid : List ℕ) (n i : ℕ) (b : Indices) (o : Outcome (List Step)) (start between end : Counts) → n ≡ suc i
    → IsNext view list boxes old mid i b o → CountsPoints (beside_points view list old (drop n boxes)) start between → CountsPoints (outcome_points view mid b o) between end
    → CountsPoints (beside_points view list old (drop i boxes)) start end
next-points laws view list boxes old mid n i b o start between end left is first second =
    points-then start between end (beside_points view list old (drop n boxes)) (outcome_points view mid b o) (beside_points view list old (drop i boxes))
    (omega (arith, more-points laws view list boxes old mid i b o is, ap (λ m. beside_points view list old (drop m boxes)) left)) first second

-- the traces of all boxes that are not drawn yet are counted, and all work of the others
pub next-traced : (laws : Lawful) (view : Window) (list : List Step) (boxes : List Indices) (old mid : List ℕ) (n i : ℕ) (b : Indices) (o : Outcome (List Step)) (start between end : Counts) → n ≡ suc i
    → IsNext view list boxes old mid i b o → has_some (is_open view list b old) b ≡ true
    → CountsSpans (n * length list + beside_traced view list old (drop n boxes)) start between → CountsSpans (outcome_traced view mid b o) between end
    → CountsSpans (i * length list + beside_traced view list old (drop i boxes)) start end
next-traced laws view list boxes old mid n i b o start between end left is some first second =
    spans-then start between end (n * length list + beside_traced view list old (drop n boxes)) (outcome_traced view mid b o) (i * length list + beside_traced view list old (drop i boxes))
    (omega (arith, ap (λ m. m * length list) left, once, ap (λ m. beside_traced view list old (drop m boxes)) left, ap (beside_traced view list old) is.more, cons, same, own, told)) first second
  where
    once : suc i * length list ≡ length list + i * length list
    once = grind arith

    cons : beside_traced view list old (b ∷ drop (suc i) boxes) ≡ spans_where (is_open view list b old) (layered view) (visit b list) + beside_traced view list old (drop (suc i) boxes)
    cons = sum_by-cons (λ h. spans_where (is_open view list h old) (layered view) (visit h list)) b (drop (suc i) boxes)

    open' : (s : Sample) → LiesIn b s → is_open view list b mid s ≡ is_open view list b old s
    open' = next-open view list boxes old mid i b o is

    same : spans_where (is_open view list b mid) (layered view) (visit b list) ≡ spans_where (is_open view list b old) (layered view) (visit b list)
    same = laws.tested.spans_same (is_open view list b mid) (is_open view list b old) (layered view) (visit b list) (omega arith) is.visit_is.box open'

    own : spans_where (is_open view list b mid) (layered view) (visit b list) ≡ length list + outcome_traced view mid b (outcome_of (sampling (layered view)) list b)
    own = traced-outcome laws view list b mid is.visit_is (some-same laws (is_open view list b mid) (is_open view list b old) b open' ∙ some)

    told : outcome_traced view mid b o ≡ outcome_traced view mid b (outcome_of (sampling (layered view)) list b)
    told = ap (outcome_traced view mid b) is.told

pub next-bounded : (laws : Lawful) (view : Window) (list : List Step) (boxes : List Indices) (old mid : List ℕ) (n i : ℕ) (b : Indices) (o : Outcome (List Step)) (start between end : Counts) → n ≡ suc i
    → IsNext view list boxes old mid i b o
    → CountsAtMost (beside_points view list old (drop n boxes)) (n * length list + halves_spans (layered view) list (drop n boxes)) start between
    → CountsAtMost (outcome_points view mid b o) (outcome_spans (layered view) b o) between end
    → CountsAtMost (beside_points view list old (drop i boxes)) (i * length list + halves_spans (layered view) list (drop i boxes)) start end
next-bounded laws view list boxes old mid n i b o start between end left is first second =
    laws.bounds.sum start between end (beside_points view list old (drop n boxes)) (n * length list + halves_spans (layered view) list (drop n boxes))
    (outcome_points view mid b o) (outcome_spans (layered view) b o) (beside_points view list old (drop i boxes)) (i * length list + halves_spans (layered view) list (drop i boxes))
    (omega (arith, more-points laws view list boxes old mid i b o is, ap (λ m. beside_points view list old (drop m boxes)) left))
    (omega (arith, ap (λ m. m * length list) left, once, ap (λ m. halves_spans (layered view) list (drop m boxes)) left, ap (halves_spans (layered view) list) is.more, cons, own, told))
    first second
  where
    once : suc i * length list ≡ length list + i * length list
    once = grind arith

    cons : halves_spans (layered view) list (b ∷ drop (suc i) boxes) ≡ spans_in (layered view) (visit b list) + halves_spans (layered view) list (drop (suc i) boxes)
    cons = sum_by-cons (λ h. spans_in (layered view) (visit h list)) b (drop (suc i) boxes)

    own : spans_in (layered view) (visit b list) ≡ length list + outcome_spans (layered view) b (outcome_of (sampling (layered view)) list b)
    own = spans-outcome laws view list b is.visit_is.box

    told : outcome_spans (layered view) b o ≡ outcome_spans (layered view) b (outcome_of (sampling (layered view)) list b)
    told = ap (outcome_spans (layered view) b) is.told

-- the traces of some boxes and all work of the others are among the work of all
rest-below : (laws : Lawful) (view : Window) (list : List Step) (boxes : List Indices) (i : ℕ) → All IsBox boxes → i ≤ length boxes
    → i * length list + halves_spans (layered view) list (drop i boxes) ≤ halves_spans (layered view) list boxes
rest-below laws view list boxes zero are within = omega arith
rest-below laws view list [] (suc i) are within = absurd (omega (arith, within))
rest-below laws view list (b ∷ bs) (suc i) are within =
    let once : suc i * length list ≡ length list + i * length list = grind arith in
    omega (
      arith,
      once,
      rest-below laws view list bs i (All-tail IsBox b bs are) (omega (arith, within)),
      sum_by-cons (λ h. spans_in (layered view) (visit h list)) b bs,
      spans-outcome laws view list b (All-head IsBox b bs are),
    )

pub rest-bounded : (laws : Lawful) (view : Window) (list : List Step) (boxes : List Indices) (old : List ℕ) (i : ℕ) (start end : Counts) → All IsBox boxes → i ≤ length boxes
    → CountsAtMost (beside_points view list old (drop i boxes)) (i * length list + halves_spans (layered view) list (drop i boxes)) start end
    → CountsAtMost (beside_points view list old boxes) (halves_spans (layered view) list boxes) start end
rest-bounded laws view list boxes old i start end are within h =
    laws.bounds.more start end (beside_points view list old (drop i boxes)) (i * length list + halves_spans (layered view) list (drop i boxes))
    (beside_points view list old boxes) (halves_spans (layered view) list boxes)
    (sum-drop_below (λ b. points_where (is_open view list b old) (layered view) (visit b list)) boxes i) (rest-below laws view list boxes i are within) h

-- so are the traces of all
pub traces-bounded : (laws : Lawful) (view : Window) (list : List Step) (boxes : List Indices) (old : List ℕ) (start end : Counts) → All IsBox boxes
    → CountsAtMost 0 (length boxes * length list) start end → CountsAtMost (beside_points view list old boxes) (halves_spans (layered view) list boxes) start end
traces-bounded laws view list boxes old start end are h =
    laws.bounds.more start end 0 (length boxes * length list) (beside_points view list old boxes) (halves_spans (layered view) list boxes) (omega arith)
    (omega (arith, rest-below laws view list boxes (length boxes) are (omega arith))) h

-- before any box is drawn
pub begun-top : (view : Window) (list : List Step) (boxes : List Indices) (tops : List ℕ) (n : ℕ) → n ≡ length boxes → Changes (λ p. true) (beside_top view list (drop n boxes)) tops tops
begun-top view list boxes tops n all = record { same = refl; each = λ p h. sym (ap (λ bs. beside_top view list bs p (get_or tops p 0)) (drop_all n boxes (omega (arith, all)))) }

pub begun-points : (view : Window) (list : List Step) (boxes : List Indices) (tops : List ℕ) (n m : ℕ) (before after : Counts) → n ≡ length boxes → CountsHulls m before after
    → CountsPoints (beside_points view list tops (drop n boxes)) before after
begun-points view list boxes tops n m before after all h =
    points-are before after 0 (beside_points view list tops (drop n boxes)) (sym (ap (beside_points view list tops) (drop_all n boxes (omega (arith, all))))) (points-hulls before after m h)

pub begun-traced : (view : Window) (list : List Step) (boxes : List Indices) (tops : List ℕ) (n : ℕ) (before after : Counts) → n ≡ length boxes → CountsHulls (length boxes * length list) before after
    → CountsSpans (n * length list + beside_traced view list tops (drop n boxes)) before after
begun-traced view list boxes tops n before after all h =
    spans-are before after (length boxes * length list) (n * length list + beside_traced view list tops (drop n boxes))
    (omega (arith, ap (λ m. m * length list) all, ap (beside_traced view list tops) (drop_all n boxes (omega (arith, all))))) (spans-hulls before after (length boxes * length list) h)

pub begun-bounded : (laws : Lawful) (view : Window) (list : List Step) (boxes : List Indices) (tops : List ℕ) (n : ℕ) (before after : Counts) → n ≡ length boxes → CountsHulls (length boxes * length list) before after
    → CountsAtMost (beside_points view list tops (drop n boxes)) (n * length list + halves_spans (layered view) list (drop n boxes)) before after
begun-bounded laws view list boxes tops n before after all h =
    laws.bounds.more before after 0 (length boxes * length list) (beside_points view list tops (drop n boxes)) (n * length list + halves_spans (layered view) list (drop n boxes)) (omega arith)
    (omega (arith, ap (λ m. m * length list) all)) (laws.bounds.hulls before after (length boxes * length list) h)

-- ---- all of them, where only those are traced that have an open column

-- a box that has one by the test has an open sample
pub told-some : (laws : Lawful) (view : Window) (list : List Step) (b : Indices) (w : ℕ) (tops : List ℕ) → w ≡ view.w → IsBox b → has_open w tops b ≡ true → has_some (is_open view list b tops) b ≡ true
told-some laws view list b w tops width is e = open-some laws view list b w tops width is (told-open w b tops e)

-- a box of the map, over its tops
pub record IsOver (view : Window) (w : ℕ) (tops : List ℕ) (b : Indices) : Type 0 where
  pub width : w ≡ view.w
  pub box : IsBox b
  pub among : IsAmong view.w (length tops) b

-- the samples of one that has none are all closed
left-closed : (view : Window) (list : List Step) (w : ℕ) (tops : List ℕ) (b : Indices) → IsOver view w tops b → has_open w tops b ≡ false
    → (s : Sample) → LiesIn b s → is_open view list b tops s ≡ false
left-closed view list w tops b over e = covered-closed view list b w tops over.width over.among (told-covered w b tops e)

-- what those leave that have one is what all leave
pub kept-drawn : (view : Window) (list : List Step) (w : ℕ) (old new : List ℕ) (boxes kept : List Indices) → All (IsOver view w old) boxes → LieBeside view.w boxes → kept ≡ filter (has_open w old) boxes
    → Changes (λ p. true) (beside_top view list kept) old new → Changes (λ p. true) (beside_top view list boxes) old new
kept-drawn view list w old new boxes kept over apart are changed = record {
  same = changed.same;
  each = λ p h.
      changed.each p h ∙ ap (λ bs. beside_top view list bs p (get_or old p 0)) are
      ∙ kept-top view list (has_open w old) p (get_or old p 0) boxes (λ k d within. stays p h (get_or boxes k d) (over k d within).width) apart;
}
  where
    stays : (p : ℕ) → p < length old → (b : Indices) → w ≡ view.w → has_open w old b ≡ false → covers view.w b p ≡ true → leaf_top view list b p (get_or old p 0) ≡ get_or old p 0
    stays p h b width e c =
        let some = told-covered w b old e p h (ap (λ n. covers n b p) width ∙ c) in
        lifted-some (top_among view list b.z0 b.z1 (p % view.w) (p / view.w)) (get_or old p 0) (λ none. omega (arith, some, none))

-- and what they take is what all take
pub kept-points : (laws : Lawful) (view : Window) (list : List Step) (w : ℕ) (tops : List ℕ) (boxes kept : List Indices) → All (IsOver view w tops) boxes → kept ≡ filter (has_open w tops) boxes
    → beside_points view list tops kept ≡ beside_points view list tops boxes
kept-points laws view list w tops boxes kept over are =
    ap (beside_points view list tops) are
    ∙ sum-kept f (has_open w tops) boxes
    (All-weaker (IsOver view w tops) (λ b. has_open w tops b ≡ false → f b ≡ 0)
    (λ b is e. points-closed laws (is_open view list b tops) (layered view) (visit b list) (left-closed view list w tops b is e)) boxes over)
  where
    f : Indices → ℕ
    f b = points_where (is_open view list b tops) (layered view) (visit b list)

pub kept-traced : (laws : Lawful) (view : Window) (list : List Step) (w : ℕ) (tops : List ℕ) (boxes kept : List Indices) → All (IsOver view w tops) boxes
    → kept ≡ filter (has_open w tops) boxes → beside_traced view list tops kept ≡ beside_traced view list tops boxes
kept-traced laws view list w tops boxes kept over are =
    ap (beside_traced view list tops) are
    ∙ sum-kept f (has_open w tops) boxes
    (All-weaker (IsOver view w tops) (λ b. has_open w tops b ≡ false → f b ≡ 0)
    (λ b is e. traced-closed laws (is_open view list b tops) (layered view) (visit b list) (omega arith) is.box (left-closed view list w tops b is e)) boxes over)
  where
    f : Indices → ℕ
    f b = spans_where (is_open view list b tops) (layered view) (visit b list)

pub kept-bounded : (laws : Lawful) (view : Window) (list : List Step) (w : ℕ) (tops : List ℕ) (boxes kept : List Indices) (start end : Counts) → All (IsOver view w tops) boxes
    → kept ≡ filter (has_open w tops) boxes → CountsAtMost (beside_points view list tops kept) (halves_spans (layered view) list kept) start end
    → CountsAtMost (beside_points view list tops boxes) (halves_spans (layered view) list boxes) start end
kept-bounded laws view list w tops boxes kept start end over are h =
    laws.bounds.more start end (beside_points view list tops kept) (halves_spans (layered view) list kept) (beside_points view list tops boxes) (halves_spans (layered view) list boxes)
    (omega (arith, kept-points laws view list w tops boxes kept over are))
    (omega (arith, ap (halves_spans (layered view) list) are, sum-kept_below (λ b. spans_in (layered view) (visit b list)) (has_open w tops) boxes)) h

-- ---- the longest of some boxes

-- ---- the halves of a box

halves-sum : (f : Indices → ℕ) (b : Indices) → sum_by f (halves_of 8 b) ≡ sum_by f (nearer 8 b) + sum_by f (farther 8 b)
halves-sum f b = omega (arith, ap (sum_by f) (halves-parts 8 b), sum_by-append f (farther 8 b) (nearer 8 b))

group-points : (laws : Lawful) (view : Window) (list : List Step) (b : Indices) (old mid : List ℕ) (hs : List Indices) → IsAmong view.w (length old) b → All (IsDrawnTo view list b old mid) hs
    → beside_points view list mid hs ≡ halves_points_where (is_open view list b old) (layered view) list hs
group-points laws view list b old mid hs among are =
    sum_by-equal f g hs (All-weaker (IsDrawnTo view list b old mid) (λ h. f h ≡ g h)
    (λ h is. laws.tested.points_same (is_open view list h mid) (is_open view list b old) (layered view) (visit h list) (half-open view list b h old mid among is)) hs are)
  where
    f : Indices → ℕ
    f h = points_where (is_open view list h mid) (layered view) (visit h list)

    g : Indices → ℕ
    g h = points_where (is_open view list b old) (layered view) (visit h list)

group-traced : (laws : Lawful) (view : Window) (list : List Step) (b : Indices) (old mid : List ℕ) (hs : List Indices) → IsAmong view.w (length old) b → All (IsDrawnTo view list b old mid) hs
    → beside_traced view list mid hs ≡ halves_spans_where (is_open view list b old) (layered view) list hs
group-traced laws view list b old mid hs among are =
    sum_by-equal f g hs (All-weaker (IsDrawnTo view list b old mid) (λ h. f h ≡ g h)
    (λ h is.
    laws.tested.spans_same (is_open view list h mid) (is_open view list b old) (layered view) (visit h list) (omega arith) (laws.parts.box 8 b h is.part) (half-open view list b h old mid among is)) hs are)
  where
    f : Indices → ℕ
    f h = spans_where (is_open view list h mid) (layered view) (visit h list)

    g : Indices → ℕ
    g h = spans_where (is_open view list b old) (layered view) (visit h list)

-- a part of a slice up to its end
pub rest-is : {X : Type 0} (xs : List X) (n : ℕ) → take (length xs - n) (drop n xs) ≡ drop n xs
rest-is xs n = take_all (length xs - n) (drop n xs) (omega (arith, length-drop n xs))

-- the two groups, one after the other
pub record AreGroups (view : Window) (list : List Step) (b : Indices) (old mid : List ℕ) : Type 0 where
  pub among : IsAmong view.w (length old) b
  pub near : All (IsDrawnTo view list b old old) (nearer 8 b)
  pub far : All (IsDrawnTo view list b old mid) (farther 8 b)

pub groups-points : (laws : Lawful) (view : Window) (list : List Step) (b : Indices) (old mid : List ℕ) (start between end : Counts) → AreGroups view list b old mid
    → CountsPoints (beside_points view list old (nearer 8 b)) start between → CountsPoints (beside_points view list mid (farther 8 b)) between end
    → CountsPoints (halves_points_where (is_open view list b old) (layered view) list (halves_of 8 b)) start end
groups-points laws view list b old mid start between end are first second =
    points-then start between end (beside_points view list old (nearer 8 b)) (beside_points view list mid (farther 8 b)) (halves_points_where (is_open view list b old) (layered view) list (halves_of 8 b))
    (omega (
      arith,
      group-points laws view list b old old (nearer 8 b) are.among are.near,
      group-points laws view list b old mid (farther 8 b) are.among are.far,
      halves-sum (λ h. points_where (is_open view list b old) (layered view) (visit h list)) b,
    )) first second

pub groups-traced : (laws : Lawful) (view : Window) (list : List Step) (b : Indices) (old mid : List ℕ) (start between end : Counts) → AreGroups view list b old mid
    → CountsSpans (beside_traced view list old (nearer 8 b)) start between → CountsSpans (beside_traced view list mid (farther 8 b)) between end
    → CountsSpans (halves_spans_where (is_open view list b old) (layered view) list (halves_of 8 b)) start end
groups-traced laws view list b old mid start between end are first second =
    spans-then start between end (beside_traced view list old (nearer 8 b)) (beside_traced view list mid (farther 8 b)) (halves_spans_where (is_open view list b old) (layered view) list (halves_of 8 b))
    (omega (
      arith,
      group-traced laws view list b old old (nearer 8 b) are.among are.near,
      group-traced laws view list b old mid (farther 8 b) are.among are.far,
      halves-sum (λ h. spans_where (is_open view list b old) (layered view) (visit h list)) b,
    )) first second

pub groups-bounded : (laws : Lawful) (view : Window) (list : List Step) (b : Indices) (old mid : List ℕ) (start between end : Counts) → AreGroups view list b old mid
    → CountsAtMost (beside_points view list old (nearer 8 b)) (halves_spans (layered view) list (nearer 8 b)) start between
    → CountsAtMost (beside_points view list mid (farther 8 b)) (halves_spans (layered view) list (farther 8 b)) between end
    → CountsAtMost (halves_points_where (is_open view list b old) (layered view) list (halves_of 8 b)) (halves_spans (layered view) list (halves_of 8 b)) start end
groups-bounded laws view list b old mid start between end are first second =
    laws.bounds.sum start between end (beside_points view list old (nearer 8 b)) (halves_spans (layered view) list (nearer 8 b))
    (beside_points view list mid (farther 8 b)) (halves_spans (layered view) list (farther 8 b))
    (halves_points_where (is_open view list b old) (layered view) list (halves_of 8 b)) (halves_spans (layered view) list (halves_of 8 b))
    (omega (
      arith,
      group-points laws view list b old old (nearer 8 b) are.among are.near,
      group-points laws view list b old mid (farther 8 b) are.among are.far,
      halves-sum (λ h. points_where (is_open view list b old) (layered view) (visit h list)) b,
    ))
    (omega (arith, halves-sum (λ h. spans_in (layered view) (visit h list)) b)) first second

pub nearer-bounded : (laws : Lawful) (view : Window) (list : List Step) (b : Indices) (old : List ℕ) (start end : Counts) → IsAmong view.w (length old) b → All (IsDrawnTo view list b old old) (nearer 8 b)
    → CountsAtMost (beside_points view list old (nearer 8 b)) (halves_spans (layered view) list (nearer 8 b)) start end
    → CountsAtMost (halves_points_where (is_open view list b old) (layered view) list (halves_of 8 b)) (halves_spans (layered view) list (halves_of 8 b)) start end
nearer-bounded laws view list b old start end among near h =
    laws.bounds.more start end (beside_points view list old (nearer 8 b)) (halves_spans (layered view) list (nearer 8 b))
    (halves_points_where (is_open view list b old) (layered view) list (halves_of 8 b)) (halves_spans (layered view) list (halves_of 8 b))
    (omega (
      arith,
      group-points laws view list b old old (nearer 8 b) among near,
      halves-sum (λ h. points_where (is_open view list b old) (layered view) (visit h list)) b,
    ))
    (omega (arith, halves-sum (λ h. spans_in (layered view) (visit h list)) b)) h
