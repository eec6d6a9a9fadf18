-- What a shader does at a box, from what it does at its children.
use Rattle.std.proofs.Common.{◌≡◌, ℕ, ◌+◌, ◌*◌, ◌<◌, ◌&&◌, Bool, true, false, cond, List, [], ◌∷◌, length, take, refl, sym, ap, subst, ◌∙◌, inl, inr, arith}
use Rattle.std.specs.Prelude.{Option, Some, None, Result, Ok, Err, OnErr, OnOk, option_map}
use Rattle.std.specs.List.{All, filter, sum_by}
use Rattle.std.proofs.lemmas.List.{take_all}
use Rattle.std.proofs.lemmas.List.Elements.{All-cons, All-filter, All-nil, All-weaker, filter_passes}
use Rattle.std.proofs.lemmas.List.Sums.{sum_by-cons}
use Rattle.std.proofs.lemmas.Option.{get_or_from_slice_get, slice_get_within}
use Rattle.box_chains.proofs.Theorems.{laws}
use Rattle.box_chains.specs.Chains.{Descent, Visit, decision, handed_on, is_long, is_split, visit}
use Rattle.box_chains.specs.Desks.{Tracing, list_of}
use Rattle.box_chains.specs.Parts.{IsPart}
use Rattle.box_chains.specs.Sums.{Sample}
use Rattle.box_chains.specs.Tallied.{CountsAtMost, CountsExactly}
use Rattle.box_chains.specs.Tested.{halves_spans_where, has_some, spans_where}
use Rattle.box_chains.specs.Visits.{IsVisit}
use Rattle.box_descent.proofs.Groups.{StopsInGroup, one-group, runs-keep, stops-in}
use Rattle.box_descent.specs.Founds.{IsFound, child_tape, tape_of}
use Rattle.box_descent.specs.Looked.{MayVisit, looked}
use Rattle.box_descent.specs.Plans.{goes_on, goes_on_by, is_traced}
use Rattle.box_descent.specs.Runs.{Below, Group, Runs, Stops, StopsBelow}
use Rattle.box_descent.specs.VisitorLaws.{IsSplit, VisitsAreLawful}
use Rattle.box_descent.specs.declared.found.Found.{Found}
use Rattle.box_descent.specs.declared.found.Found.TheVariants.{Untraced, Inside, Outside, Ambiguous}
use Rattle.fixed_ops.specs.Counts.{Counts}
use Rattle.height_map.specs.Bound.{layered}
use Rattle.interval_ops.specs.HullCounts.{CountsHulls}
use Rattle.height_map.specs.Desks.{MayDraw}
use Rattle.live_clauses.specs.declared.step.Step.{Step}
use Rattle.view_places.specs.Boxes.{Indices, IsBox, halves_of}
use Rattle.view_places.specs.Window.{Window}
use Rattle.view_places.specs.declared.lattice.Lattice.TheVariants.{Height}
use Rattle.normal_shade.specs.Lit.{lit_where, pruned}
use Rattle.normal_shade.specs.Marks.{has_top_at, is_marked, shade_at, some_top_at}
use Rattle.normal_shade.specs.Shaders.{CanShade, Shades, ShadesSome, shade_plan, shading}
use Rattle.normal_shade.specs.Shading.{boxes_points, spans_below}
use Rattle.normal_shade.specs.declared.shading.Shader.{Shader}
use Rattle.normal_shade.proofs.Held.{boxes-held, lit-halves, lit-pruned}
use Rattle.normal_shade.proofs.Kept.{slopes_kept}
use Rattle.normal_shade.proofs.Lit.{Becomes, lit-none, lit-places, lit-then, or-false}
use Rattle.normal_shade.proofs.Visits.{split-pruned}
use Rattle.normal_shade.proofs.Work.{all-counted, begun_points, begun_spans, group-work, below, next-bounded, same-work, split-work, traces-bounded}

-- ---- boxes that are visited one after the other

abbrev test : Descent → Shader → Sample → Bool
test d s = is_marked d.view.w s.tops.now

abbrev light : Descent → List Step → Shader → ℕ → ℕ
light d tape s = shade_at d.view tape s.tops.now

-- they light the columns that have their top samples in one of them
pub record AreShaded (d : Descent) (tape : List Step) (a c : Shader) (boxes : List Indices) (t u : Counts) : Type 0 where
  pub tops : c.tops ≡ a.tops
  pub pixels : Becomes (some_top_at d.view.w a.tops.now boxes) (light d tape a) a.pixels.items c.pixels.items
  pub counted : CountsExactly (boxes_points (test d a) d tape boxes) (sum_by (below (test d a) d tape) boxes) t u

runs-shaded : (d : Descent) (tape : List Step) (a c : Shader) (boxes : List Indices) (t u : Counts) → Runs shading d tape a c boxes t u → AreShaded d tape a c boxes t u
runs-shaded d tape a c [] t u h =
    subst (λ (s : Shader). AreShaded d tape a s [] t u) h.0 (subst (λ (k : Counts). AreShaded d tape a a [] t k) h.1 (record {
      tops = refl;
      pixels = lit-none (λ p. false) (light d tape a) a.pixels.items (λ p. refl);
      counted = laws.work.none t;
    }))
runs-shaded d tape a c (b ∷ bs) t u h =
    let mid = h.mid in
    let one = h.first in
    let rest = runs-shaded d tape mid c bs h.tally u h.rest in
    record {
      tops = rest.tops ∙ one.tops;
      pixels = lit-then (has_top_at d.view.w a.tops.now b) (some_top_at d.view.w a.tops.now bs) (some_top_at d.view.w a.tops.now (b ∷ bs)) (light d tape a) a.pixels.items mid.pixels.items c.pixels.items (λ p. refl) one.pixels
          (subst (λ (x : _). Becomes (some_top_at d.view.w x.now bs) (shade_at d.view tape x.now) mid.pixels.items c.pixels.items) one.tops rest.pixels);
      counted = same-work (λ p s. CountsExactly p s t u) (lit_where (test d a) d (visit b tape) + boxes_points (test d a) d tape bs) (spans_below (test d a) d (visit b tape) + sum_by (below (test d a) d tape) bs)
          (boxes_points (test d a) d tape (b ∷ bs)) (sum_by (below (test d a) d tape) (b ∷ bs))
          (sym (sum_by-cons (λ x. lit_where (test d a) d (visit x tape)) b bs)) (sym (sum_by-cons (below (test d a) d tape) b bs))
          (laws.work.sum t h.tally u _ _ _ _ one.counted
          (subst (λ (x : _). CountsExactly (boxes_points (is_marked d.view.w x.now) d tape bs) (sum_by (below (is_marked d.view.w x.now) d tape) bs) h.tally u) one.tops rest.counted));
    }

-- all boxes are traced
all-traced : (boxes : List Indices) → filter (is_traced shade_plan) boxes ≡ boxes
all-traced [] = refl
all-traced (b ∷ bs) = ap (λ x. b ∷ x) (all-traced bs)

-- ---- boxes that are traced together, of which so many were visited

pub record AreBegun (d : Descent) (tape : List Step) (a c : Shader) (boxes : List Indices) (n : ℕ) (t u : Counts) : Type 0 where
  pub tops : c.tops ≡ a.tops
  pub pixels : Becomes (some_top_at d.view.w a.tops.now (take n boxes)) (light d tape a) a.pixels.items c.pixels.items
  pub counted : CountsExactly (begun_points (test d a) d tape boxes n) (begun_spans (test d a) d tape boxes n) t u

group-begun : (d : Descent) (tape : List Step) (a c : Shader) (boxes : List Indices) (n : ℕ) (t u : Counts) → Group shading d tape boxes a c (take n boxes) t u → AreBegun d tape a c boxes n t u
unfolding begun_spans
group-begun d tape a c boxes n t u h =
    let ran = runs-shaded d tape a c (take n boxes) h.tally u h.runs in
    record {
      tops = ran.tops;
      pixels = ran.pixels;
      counted = same-work (λ p s. CountsExactly p s t u) (0 + begun_points (test d a) d tape boxes n) (length boxes * length tape + sum_by (below (test d a) d tape) (take n boxes))
          (begun_points (test d a) d tape boxes n) (begun_spans (test d a) d tape boxes n) (omega arith) refl
          (laws.work.sum t h.tally u 0 (length boxes * length tape) _ _
          (laws.work.hulls t h.tally (length boxes * length tape) (subst (λ bs. CountsHulls (length bs * length tape) t h.tally) (all-traced boxes) h.traced)) ran.counted);
    }

-- the boxes that are wanted of some

record AreDone (d : Descent) (tape : List Step) (a c : Shader) (boxes : List Indices) (t u : Counts) : Type 0 where
  pub tops : c.tops ≡ a.tops
  pub pixels : Becomes (some_top_at d.view.w a.tops.now (filter (has_some (test d a)) boxes)) (light d tape a) a.pixels.items c.pixels.items
  pub counted : CountsExactly (boxes_points (test d a) d tape boxes) (halves_spans_where (test d a) d tape boxes) t u

group-done : (d : Descent) (tape : List Step) (a c : Shader) (boxes : List Indices) (t u : Counts) → 0 < d.leaf → All IsBox boxes
    → Group shading d tape (filter (has_some (test d a)) boxes) a c (filter (has_some (test d a)) boxes) t u → AreDone d tape a c boxes t u
group-done d tape a c boxes t u some are h =
    let wanted = filter (has_some (test d a)) boxes in
    let whole : take (length wanted) wanted ≡ wanted = take_all (length wanted) wanted (omega arith) in
    let begun = group-begun d tape a c wanted (length wanted) t u (subst (λ bs. Group shading d tape wanted a c bs t u) (sym whole) h) in
    record {
      tops = begun.tops;
      pixels = subst (λ bs. Becomes (some_top_at d.view.w a.tops.now bs) (light d tape a) a.pixels.items c.pixels.items) whole begun.pixels;
      counted = group-work laws (λ p s. CountsExactly p s t u) (test d a) d tape boxes wanted some are refl
          (all-counted laws (test d a) d tape wanted (length wanted) t u some (All-filter (has_some (test d a)) IsBox boxes are) (filter_passes (has_some (test d a)) boxes) refl begun.counted);
    }

group-stops : (d : Descent) (tape : List Step) (a c : Shader) (boxes : List Indices) (t u : Counts) → 0 < d.leaf → All IsBox boxes
    → Stops shading d tape (filter (has_some (test d a)) boxes) a c t u → CountsAtMost (boxes_points (test d a) d tape boxes) (halves_spans_where (test d a) d tape boxes) t u
group-stops d tape a c boxes t u some are h = group-work laws (λ p s. CountsAtMost p s t u) (test d a) d tape boxes wanted some are refl (by h)
  where
    wanted : List Indices
    wanted = filter (has_some (test d a)) boxes

    by : Stops shading d tape wanted a c t u → CountsAtMost (boxes_points (test d a) d tape wanted) (halves_spans_where (test d a) d tape wanted) t u
    by (inl none) =
        traces-bounded laws (test d a) d tape wanted t u some (All-filter (has_some (test d a)) IsBox boxes are) (filter_passes (has_some (test d a)) boxes)
        (subst (λ bs. CountsAtMost 0 (length bs * length tape) t u) (all-traced wanted) none.1)
    by (inr left) =
        let begun = group-begun d tape a left.mid wanted left.place t left.tally left.before in
        next-bounded laws (test d a) d tape wanted left.place left.box t left.tally u some (All-filter (has_some (test d a)) IsBox boxes are) (filter_passes (has_some (test d a)) boxes)
        (slice_get_within wanted left.place left.box left.there) (sym (get_or_from_slice_get wanted left.place left.box left.box left.there)) begun.counted (subst (λ (x : _). CountsAtMost (lit_where (is_marked d.view.w x.now) d (visit left.box tape)) (spans_below (is_marked d.view.w x.now) d (visit left.box tape)) left.tally u) begun.tops left.left)

-- ---- a box that is split

goes-split : (d : Descent) (v : Visit) → goes_on shade_plan d v ≡ true → is_split d v ≡ true
goes-split d v goes = by (decision d v) (is_long d.leaf v.box) refl refl goes
  where
    no : {A : Type 0} → false ≡ true → A
    no same = absurd (omega (arith, ap {B = ℕ} (λ (t : Bool). cond t 1 0) same))

    by : (t : Option Bool) (l : Bool) → decision d v ≡ t → is_long d.leaf v.box ≡ l → (l && goes_on_by false t) ≡ true → is_split d v ≡ true
    by None true e f g = rw e f
    by None false e f g = no g
    by (Some true) true e f g = no g
    by (Some true) false e f g = no g
    by (Some false) true e f g = no g
    by (Some false) false e f g = no g

-- what its children do is what it does
split-boxes : (d : Descent) (v : Visit) → 0 < d.leaf → IsBox v.box → All IsBox (halves_of d.leaf v.box)
split-boxes d v some is = All-weaker (IsPart d.leaf v.box) IsBox (λ h part. laws.parts.box d.leaf v.box h part) (halves_of d.leaf v.box) (laws.parts.all d.leaf v.box some is)

shade-closes : (d : Descent) (a last : Shader) (v : Visit) (t u : Counts) → IsSplit shading d a v → Below shading d v a last t u → Shades d a last v t u
shade-closes d a last v t u split h =
    let one = one-group shading d v a last t u refl h in
    let is = split.visit_is.box in
    let splits = goes-split d v split.long in
    let done = group-done d (handed_on d v) a last (halves_of 8 v.box) t one.tally (omega (arith, split.leaf)) (subst (λ n. All IsBox (halves_of n v.box)) split.leaf (split-boxes d v (omega (arith, split.leaf)) is)) one.group in
    let own = sym (split-pruned d v splits) in
    record {
      tops = done.tops;
      pixels = lit-kept d a v split (lit-halves laws d.view.w a.tops.now v.box (filter (has_some (test d a)) (halves_of 8 v.box)) (light d (handed_on d v) a) a.pixels.items last.pixels.items is refl done.pixels);
      counted = split-work laws (λ p s. CountsExactly p s t u) (test d a) d v (handed_on d v) (omega (arith, split.leaf)) is splits own
          (subst (λ n. CountsExactly (boxes_points (test d a) d (handed_on d v) (halves_of n v.box)) (halves_spans_where (test d a) d (handed_on d v) (halves_of n v.box)) t u) (sym split.leaf)
          (after-none t one.tally u _ _ done.counted one.none));
    }
  where
    after-none : (t k u : Counts) (p s : ℕ) → CountsExactly p s t k → CountsHulls 0 k u → CountsExactly p s t u
    after-none t k u p s first none = same-work (λ p s. CountsExactly p s t u) (p + 0) (s + 0) p s (omega arith) (omega arith) (laws.work.sum t k u p s 0 0 first (laws.work.hulls k u 0 none))

    lit-kept : (d : Descent) (a : Shader) (v : Visit) → IsSplit shading d a v → {ys : List ℕ} → Becomes (has_top_at d.view.w a.tops.now v.box) (light d (handed_on d v) a) a.pixels.items ys
        → Becomes (has_top_at d.view.w a.tops.now v.box) (light d v.list a) a.pixels.items ys
    lit-kept d a v split {ys} h =
        lit-pruned laws slopes_kept d.view v.list (handed_on d v) v.box a.tops.now a.pixels.items ys (subst (λ (e : Descent). IsVisit e v) split.fits.layers split.visit_is)
        (subst (λ (e : Descent). handed_on d v ≡ pruned e v) split.fits.layers (sym (split-pruned d v (goes-split d v split.long)))) h

shade-stops : (d : Descent) (a last : Shader) (v : Visit) (t u : Counts) → IsSplit shading d a v → StopsBelow shading d v a last t u → ShadesSome d a last v t u
shade-stops d a last v t u split h =
    let is = split.visit_is.box in
    let splits = goes-split d v split.long in
    split-work laws (λ p s. CountsAtMost p s t u) (test d a) d v (handed_on d v) (omega (arith, split.leaf)) is splits (sym (split-pruned d v splits))
    (subst (λ n. CountsAtMost (boxes_points (test d a) d (handed_on d v) (halves_of n v.box)) (halves_spans_where (test d a) d (handed_on d v) (halves_of n v.box)) t u) (sym split.leaf) (by (stops-in shading d v a last t u refl h)))
  where
    boxes : All IsBox (halves_of 8 v.box)
    boxes = subst (λ n. All IsBox (halves_of n v.box)) split.leaf (split-boxes d v (omega (arith, split.leaf)) split.visit_is.box)

    by : StopsInGroup shading d v a last t u → CountsAtMost (boxes_points (test d a) d (handed_on d v) (halves_of 8 v.box)) (halves_spans_where (test d a) d (handed_on d v) (halves_of 8 v.box)) t u
    by (inl stops) = group-stops d (handed_on d v) a last (halves_of 8 v.box) t u (omega (arith, split.leaf)) boxes stops
    by (inr after) =
        let done = group-done d (handed_on d v) a last (halves_of 8 v.box) t after.tally (omega (arith, split.leaf)) boxes after.group in
        laws.bounds.after t after.tally u _ _ 0 0 _ _ (omega arith) (omega arith) done.counted after.none

pub shades_are_lawful : VisitsAreLawful shading
shades_are_lawful = record {
  some = omega arith;
  small = omega arith;
  ready = λ d s tape bs fits. fits;
  next = λ d a c tape b bs t u fits done. record { layers = fits.layers; tops = ap (λ x. length x.now) done.tops ∙ fits.tops; pixels = done.pixels.same ∙ fits.pixels ∙ ap (λ x. length x.now) (sym done.tops) };
  begins = λ d a mid v mark split same. subst (CanShade d) (sym same) split.fits;
  resumes = λ d a mid c v mark t u split same done.
      runs-keep shading d (handed_on d v) (CanShade d) (λ s z b k l fits one. record { layers = fits.layers; tops = ap (λ x. length x.now) one.tops ∙ fits.tops; pixels = one.pixels.same ∙ fits.pixels ∙ ap (λ x. length x.now) (sym one.tops) })
      mid c _ done.tally u (subst (CanShade d) (sym same) split.fits) done.runs;
  closes = λ d a mid last c v mark t u split same h end. subst (λ (s : Shader). Shades d a s v t u) (sym end) (shade-closes d a last v t u split (subst (λ (s : Shader). Below shading d v s last t u) same h));
  stops = λ d a mid last v mark t u split same h. shade-stops d a last v t u split (subst (λ (s : Shader). StopsBelow shading d v s last t u) same h);
}

-- ---- a box that is not split

-- the list that stands for what was found of it is the one that it prunes
pub record IsEnd (desk : Tracing) (b : Indices) (given at len : ℕ) : Type 0 where
  pub may : MayDraw desk b at len
  pub is : list_of desk at ≡ pruned (layered desk.view) (visit b (list_of desk given))
  pub whole : is_split (layered desk.view) (visit b (list_of desk given)) ≡ false

pub end-is : (desk : Tracing) (b : Indices) (given : ℕ) (found : Found) (s : Shader) → CanShade (looked shade_plan desk) s → MayVisit shade_plan desk b given
    → IsFound shade_plan desk b given found → child_tape shade_plan desk b found ≡ None → IsEnd desk b given (tape_of given found) (length s.tops.now)
end-is desk b given found s can may right none = by found right none
  where
    d : Descent
    d = layered desk.view

    v : Visit
    v = visit b (list_of desk given)

    lattice : desk.lattice ≡ Height
    lattice = ap (λ (e : Descent). e.lattice) can.layers

    layers : looked shade_plan desk ≡ d
    layers = can.layers

    drawn : (at : ℕ) → MayVisit shade_plan desk b at → MayDraw desk b at (length s.tops.now)
    drawn at m = record { lattice = lattice; visit_is = subst (λ (e : Descent). IsVisit e (visit b (list_of desk at))) layers m.visit_is; tops = can.tops; among = m.among; room = m.room }

    decided : (i : Bool) → decision d v ≡ Some i → is_split d v ≡ false
    decided i e = rw e refl

    short : (l : Bool) → is_long 8 b ≡ l → cond {A = Option ℕ} l (Some 0) None ≡ None → is_long 8 b ≡ false
    short true e same = absurd (omega (arith, ap (λ (o : Option ℕ). some-number o) same))
      where
        some-number : Option ℕ → ℕ
        some-number None = 0
        some-number (Some n) = 1
    short false e same = e

    undecided : decision d v ≡ None → is_long 8 b ≡ false → is_split d v ≡ false
    undecided e long = rw e long

    by : (f : Found) → IsFound shade_plan desk b given f → child_tape shade_plan desk b f ≡ None → IsEnd desk b given (tape_of given f) (length s.tops.now)
    by Untraced r n = absurd (omega (arith, ap {B = ℕ} (λ (t : Bool). cond t 1 0) r))
    by (Inside at) r n =
        let e = subst (λ (e : Descent). decision e v ≡ Some true) layers r.0 in
        record { may = drawn at r.1.0.may; is = r.1.0.is ∙ ap (λ (e : Descent). handed_on e v) layers ∙ inside-pruned e; whole = decided true e }
      where
        inside-pruned : decision d v ≡ Some true → handed_on d v ≡ pruned d v
        inside-pruned e = rw e refl
    by Outside r n =
        let e = subst (λ (e : Descent). decision e v ≡ Some false) layers r in
        record { may = drawn given may; is = outside-pruned e; whole = decided false e }
      where
        outside-pruned : decision d v ≡ Some false → v.list ≡ pruned d v
        outside-pruned e = rw e refl
    by (Ambiguous at) r n =
        let e = subst (λ (e : Descent). decision e v ≡ None) layers r.0 in
        record {
          may = drawn at r.1.0.may;
          is = r.1.0.is ∙ ap (λ (e : Descent). handed_on e v) layers ∙ none-pruned e;
          whole = undecided e (short (is_long 8 b) refl (some-zero (is_long 8 b) n));
        }
      where
        none-pruned : decision d v ≡ None → handed_on d v ≡ pruned d v
        none-pruned e = rw e refl

        some-zero : (l : Bool) → cond {A = Option ℕ} l (Some at) None ≡ None → cond {A = Option ℕ} l (Some 0) None ≡ None
        some-zero true same = ap (λ (o : Option ℕ). option_map (λ n. 0) o) same
        some-zero false same = refl

-- what holds of an error holds of what follows from it
pub on_err-then : {T E : Type 0} (r : Result T E) (P Q : Type 0) → (P → Q) → OnErr r P → OnErr r Q
on_err-then (Ok x) P Q f p = tt
on_err-then (Err e) P Q f p = f p

-- an answer that both of two facts of a success give
pub on_ok-both : {T E : Type 0} (r : Result T E) (P Q R : Type 0) → (P → Q → R) → OnOk r P → OnOk r Q → OnOk r R
on_ok-both (Ok x) P Q R f p q = f p q
on_ok-both (Err e) P Q R f p q = tt

-- ---- the box of all samples

abbrev RootWork : (ℕ → ℕ → Counts → Counts → Type 0) → Tracing → Indices → List ℕ → Counts → Counts → Type 0
RootWork Counted desk b tops before after =
    Counted (lit_where (is_marked desk.view.w tops) (layered desk.view) (visit b (list_of desk 0))) (spans_where (is_marked desk.view.w tops) (layered desk.view) (visit b (list_of desk 0))) before after

one-box : (Counted : ℕ → ℕ → Type 0) (test : Sample → Bool) (d : Descent) (tape : List Step) (b : Indices) → Counted (boxes_points test d tape (b ∷ [])) (halves_spans_where test d tape (b ∷ []))
    → Counted (lit_where test d (visit b tape)) (spans_where test d (visit b tape))
one-box Counted test d tape b h = same-work Counted (boxes_points test d tape (b ∷ [])) (halves_spans_where test d tape (b ∷ [])) (lit_where test d (visit b tape)) (spans_where test d (visit b tape)) (omega arith) (omega arith) h

one-is_box : (b : Indices) → IsBox b → All IsBox (b ∷ [])
one-is_box b is = All-cons IsBox b [] is (All-nil IsBox)

pub record RootDone (desk : Tracing) (b : Indices) (a c : Shader) (t u : Counts) : Type 0 where
  pub pixels : Becomes (has_top_at desk.view.w a.tops.now b) (shade_at desk.view (list_of desk 0) a.tops.now) a.pixels.items c.pixels.items
  pub counted : RootWork CountsExactly desk b a.tops.now t u

pub root-done : (desk : Tracing) (b : Indices) (a c : Shader) (t u : Counts) → CanShade (looked shade_plan desk) a → IsBox b
    → Group shading (looked shade_plan desk) (list_of desk 0) (filter (shading.wanted (looked shade_plan desk) a) (b ∷ [])) a c (filter (shading.wanted (looked shade_plan desk) a) (b ∷ [])) t u
    → RootDone desk b a c t u
root-done desk b a c t u can is h =
    let d = looked shade_plan desk in
    let tape = list_of desk 0 in
    let tops = a.tops.now in
    let done = group-done d tape a c (b ∷ []) t u (omega arith) (one-is_box b is) h in
    record {
      pixels = lit-places (some_top_at desk.view.w tops (filter (has_some (is_marked desk.view.w tops)) (b ∷ []))) (has_top_at desk.view.w tops b) (shade_at desk.view tape tops) a.pixels.items c.pixels.items
          (λ p. boxes-held laws desk.view.w tops (b ∷ []) p ∙ or-false (has_top_at desk.view.w tops b p)) done.pixels;
      counted = subst (λ (e : Descent). CountsExactly (lit_where (is_marked desk.view.w tops) e (visit b tape)) (spans_where (is_marked desk.view.w tops) e (visit b tape)) t u) can.layers
          (one-box (λ p s. CountsExactly p s t u) (is_marked desk.view.w tops) d tape b done.counted);
    }

pub root-stops : (desk : Tracing) (b : Indices) (a c : Shader) (t u : Counts) → CanShade (looked shade_plan desk) a → IsBox b
    → Stops shading (looked shade_plan desk) (list_of desk 0) (filter (shading.wanted (looked shade_plan desk) a) (b ∷ [])) a c t u → RootWork CountsAtMost desk b a.tops.now t u
root-stops desk b a c t u can is h =
    subst (λ (e : Descent). CountsAtMost (lit_where (is_marked desk.view.w a.tops.now) e (visit b (list_of desk 0))) (spans_where (is_marked desk.view.w a.tops.now) e (visit b (list_of desk 0))) t u) can.layers
    (one-box (λ p s. CountsAtMost p s t u) (is_marked desk.view.w a.tops.now) (looked shade_plan desk) (list_of desk 0) b
    (group-stops (looked shade_plan desk) (list_of desk 0) a c (b ∷ []) t u (omega arith) (one-is_box b is) h))

-- a picture that was begun
pub can-start : (view : Window) (list : List Step) (desk : Tracing) (s : Shader) → desk ≡ record { view = view; lattice = Height; room = length list; lists = list ∷ [] }
    → length s.tops.now ≡ view.h * view.w → length s.pixels.items ≡ length s.tops.now → CanShade (looked shade_plan desk) s
can-start view list desk s made tops pixels = record {
  layers = ap (λ l. record { view = desk.view; lattice = l; leaf = 8 }) (ap (λ (d : Tracing). d.lattice) made);
  tops = tops ∙ ap (λ (d : Tracing). d.view.h * d.view.w) (sym made);
  pixels = pixels;
}
