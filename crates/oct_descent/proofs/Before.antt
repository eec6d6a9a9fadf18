-- Where a box of the grid before and its halves stand there.
use Rattle.std.proofs.Common.{◌≡◌, ◌≢◌, ℕ, ◌+◌, ◌<◌, ◌≤◌, Bool, true, false, cond, List, [], ◌∷◌, ◌++◌, append-nil, append_assoc, length, get_or, take, drop, refl, sym, ap, subst, ◌∙◌, arith}
use Rattle.std.specs.Prelude.{◌&&◌, not, IfNone, IfSome, IsTrue, is_some, Option, Some, None, unwrap_or}
use Rattle.std.specs.List.Sorted.{IsPermutation}
use Rattle.std.proofs.Math.Seq.{drop-append_seam, take-append_seam}
use Rattle.std.proofs.lemmas.Bool.{and_parts, false≢true}
use Rattle.std.proofs.lemmas.List.{drop-drop, drop_all, drop_more, length-append}
use Rattle.std.proofs.lemmas.List.Concat.{flat_map-cons}
use Rattle.std.proofs.lemmas.Option.{none-some}
use Rattle.box_chains.specs.Chains.{Visit, handed_on, is_long, visit}
use Rattle.box_chains.specs.Laws.{Lawful}
use Rattle.box_chains.specs.Parts.{IsPart}
use Rattle.box_chains.specs.Redrawn.{IsNew}
use Rattle.box_chains.specs.Visits.{IsVisit}
use Rattle.live_clauses.specs.declared.step.Step.{Step}
use Rattle.view_places.specs.Boxes.{Indices, IsBox, halves_of}
use Rattle.view_places.specs.Spans.{root_box_of}
use Rattle.view_places.specs.Window.{Window, size_of}
use Rattle.view_places.specs.declared.lattice.Lattice.TheVariants.{Grid}
use Rattle.fixed_ops.specs.Counts.{Counts}
use Rattle.kuhn_cells.specs.Triangles.{GridPoint}
use Rattle.oct_descent.specs.After.{cell_spans_after, handed_before, mesh_before, received_half}
use Rattle.oct_descent.specs.AfterDesks.{ChargesBoxAfter, IsEnoughAfter}
use Rattle.oct_descent.specs.Bound.{cell_spans_in}
use Rattle.oct_descent.specs.GridValues.{list_grid_value}
use Rattle.oct_descent.specs.KeptBoxes.{halves_places, places_of}
use Rattle.oct_descent.specs.OldBoxes.{AreOldHalves, IsLookedInto, IsOldBox, StandsFirst, behind, behind_halves, first_count, first_list, handed_by, received_by, visit_before}
use Rattle.kuhn_cells.specs.Sizes.{SameSize}
use Rattle.oct_descent.specs.Tables.{IsEnough, PointValues}
use Rattle.oct_descent.specs.Trees.{IsTold}
use Rattle.oct_descent.specs.Ways.{CellDescent, grid_root, gridded, is_cut, is_open, way_end}
use Rattle.oct_descent.specs.declared.old_box.OldBox.{OldBox}
use Rattle.oct_descent.specs.declared.split_box.SplitBox.{SplitBox}
use Rattle.oct_descent.proofs.Covered.{corner-covered, handed-value}
use Rattle.oct_descent.specs.Kinds.{known_of, mesh}
use Rattle.oct_descent.specs.Known.{Known, AreRight, AreSettled, ChargesBox}
use Rattle.oct_descent.proofs.Kept.{places-cell, places-shut, places-split}
use Rattle.oct_descent.proofs.Looks.{handed-right, handed-tape}
use Rattle.oct_descent.proofs.Halves.{half-visit, part-covers, turned-part}
use Rattle.oct_descent.proofs.AfterLooks.{IsOther, spans-some_after}
use Rattle.oct_descent.proofs.AfterWork.{cell-enough_after}
use Rattle.oct_descent.proofs.TableLaws.{charges-more, settled-same}
use Rattle.oct_descent.proofs.WayLaws.{end-ends, spans-end}

-- ---- parts that stand first

first-within : {K : Type 0} (all part : List K) → StandsFirst all part → length part ≤ length all
first-within all part stands = omega (arith, ap length stands.is, length-append part stands.rest)

first-of : {K : Type 0} (all first more : List K) → StandsFirst all (first ++ more) → StandsFirst all first
first-of all first more stands = record { rest = more ++ stands.rest; is = stands.is ∙ append_assoc first more stands.rest }

first-more : {K : Type 0} (all first more : List K) → StandsFirst all (first ++ more) → StandsFirst (drop (length first) all) more
first-more all first more stands = record {
  rest = stands.rest;
  is = ap (drop (length first)) (stands.is ∙ append_assoc first more stands.rest) ∙ drop-append_seam first (more ++ stands.rest);
}

first-part : {K : Type 0} (all part : List K) (n : ℕ) → StandsFirst all part → n ≡ length part → take n all ≡ part
first-part all part n stands many = ap (λ k. take k all) many ∙ ap (take (length part)) stands.is ∙ take-append_seam part stands.rest

-- ---- a box of the grid before

-- the places of a box of more than one cell, by whether it is split
lists-by : (laws : Lawful) (view : Window) (v : Visit) (left : List (Option SplitBox)) → IsBox v.box → is_long 1 v.box ≡ true → StandsFirst left (places_of (gridded view) v)
    → (first_list left ≡ handed_before (gridded view) (Some v)) × (first_count left ≡ length (places_of (gridded view) v))
lists-by laws view v left is long stands = by (is_open (gridded view) v) refl
  where
    d : CellDescent
    d = gridded view

    by : (o : Bool) → is_open d v ≡ o → (first_list left ≡ handed_before d (Some v)) × (first_count left ≡ length (places_of d v))
    by false e =
        let part = places-shut laws d v (omega arith) is long e in
        let whole = stands.is ∙ ap (λ p. p ++ stands.rest) part in
        let uncut : is_cut d v ≡ false = rw e refl in
        (ap first_list whole ∙ sym (ap (λ t. cond t (Some (handed_on d.boxes v)) None) uncut), ap first_count whole ∙ sym (ap length part))
    by true e =
        let part = places-split laws d v (handed_on d.boxes v) (omega arith) is long e refl in
        let whole = stands.is ∙ ap (λ p. p ++ stands.rest) part in
        let cut : is_cut d v ≡ true = rw (e, long) refl in
        (ap first_list whole ∙ sym (ap (λ t. cond t (Some (handed_on d.boxes v)) None) cut), ap first_count whole ∙ omega (arith, ap length part))

-- the list that stands first of those left is the one that the box handed on
pub handed-was : (laws : Lawful) (view : Window) (b : Indices) (left : List (Option SplitBox)) (before : Option OldBox) → IsBox b → is_long 1 b ≡ true → IfSome before (IsOldBox view b left)
    → handed_by before left ≡ handed_before (gridded view) (visit_before before b)
handed-was laws view b left None is long old = refl
handed-was laws view b left (Some old) is long stands = (lists-by laws view (visit b old.list.now) left is long stands.places).0

-- the first place stands for all of the box
pub old-count : (laws : Lawful) (view : Window) (b : Indices) (left : List (Option SplitBox)) (old : OldBox) → is_long 1 b ≡ true → IsOldBox view b left old
    → first_count left ≡ length (places_of (gridded view) (visit b old.list.now))
old-count laws view b left old long is = (lists-by laws view (visit b old.list.now) left is.looked.visit_is.box long is.places).1

pub old-many : (laws : Lawful) (view : Window) (b : Indices) (left : List (Option SplitBox)) (old : OldBox) → is_long 1 b ≡ true → IsOldBox view b left old → first_count left ≤ length left
old-many laws view b left old long is =
    omega (arith, old-count laws view b left old long is, first-within left (places_of (gridded view) (visit b old.list.now)) is.places)

pub old-there : (laws : Lawful) (view : Window) (b : Indices) (left : List (Option SplitBox)) (before : Option OldBox) → is_long 1 b ≡ true → IfSome before (IsOldBox view b left)
    → IsTrue (is_some before) → first_count left ≤ length left
old-there laws view b left None long is some = absurd (false≢true some)
old-there laws view b left (Some old) long is some = old-many laws view b left old long is

pub old-places : (laws : Lawful) (view : Window) (b : Indices) (left : List (Option SplitBox)) (old : OldBox) → is_long 1 b ≡ true → IsOldBox view b left old
    → take (first_count left) left ≡ places_of (gridded view) (visit b old.list.now)
old-places laws view b left old long is = first-part left (places_of (gridded view) (visit b old.list.now)) (first_count left) is.places (old-count laws view b left old long is)

-- what is left once its places were given up
pub left-shut : (laws : Lawful) (view : Window) (b : Indices) (left : List (Option SplitBox)) (before : Option OldBox) → is_long 1 b ≡ true → IfSome before (IsOldBox view b left)
    → cond (is_some before) (drop (first_count left) left) left ≡ behind (gridded view) (visit_before before b) left
left-shut laws view b left None long is = refl
left-shut laws view b left (Some old) long is = ap (λ n. drop n left) (old-count laws view b left old long is)

-- a cell had no place
pub left-cell : (laws : Lawful) (view : Window) (b : Indices) (left : List (Option SplitBox)) (before : Option OldBox) → IsBox b → is_long 1 b ≡ false
    → left ≡ behind (gridded view) (visit_before before b) left
left-cell laws view b left None is short = refl
left-cell laws view b left (Some old) is short = sym (ap (λ l. drop (length l) left) (places-cell laws (gridded view) (visit b old.list.now) (omega arith) is short))

-- a box that handed on a list was split, and that is the list
pub handed-some : (laws : Lawful) (view : Window) (b : Indices) (left : List (Option SplitBox)) (old : OldBox) (list : List Step) → is_long 1 b ≡ true → IsOldBox view b left old → first_list left ≡ Some list
    → (is_open (gridded view) (visit b old.list.now) ≡ true) × (list ≡ handed_on (gridded view).boxes (visit b old.list.now))
handed-some laws view b left old list long is handed = by (is_open d v) refl
  where
    d : CellDescent
    d = gridded view

    v : Visit
    v = visit b old.list.now

    told : Some list ≡ handed_before d (Some v)
    told = sym handed ∙ (lists-by laws view v left is.looked.visit_is.box long is.places).0

    by : (o : Bool) → is_open d v ≡ o → (is_open d v ≡ true) × (list ≡ handed_on d.boxes v)
    by false e = let uncut : is_cut d v ≡ false = rw e refl in absurd (none-some list (sym (told ∙ ap (λ t. cond t (Some (handed_on d.boxes v)) None) uncut)))
    by true e = let cut : is_cut d v ≡ true = rw (e, long) refl in (e, ap (λ o. unwrap_or o list) (told ∙ ap (λ t. cond t (Some (handed_on d.boxes v)) None) cut))

-- what was known of the points of the box is right for the list that it handed on, too, and its cells are settled by it
pub handed-looked : (laws : Lawful) (view : Window) (b : Indices) (old : OldBox) (live : List Step) → IsLookedInto view b old → live ≡ handed_on (gridded view).boxes (visit b old.list.now)
    → AreRight (list_grid_value view live) b (known_of old.values.now) × AreSettled (gridded view) (list_grid_value view live) b (known_of old.values.now)
handed-looked laws view b old live is same =
    let v = visit b old.list.now in (
      handed-right laws mesh view v live (known_of old.values.now) is.visit_is same is.right,
      settled-same (gridded view) (list_grid_value view old.list.now) (list_grid_value view live) b (known_of old.values.now)
          (λ s p lies covers. sym (ap (λ l. list_grid_value view l p) same ∙ handed-value laws mesh view v p is.visit_is (corner-covered b s p lies covers))) is.settled,
    )

looked-handed : (laws : Lawful) (view : Window) (b : Indices) (old half : OldBox) → IsLookedInto view b old → half.values.now ≡ old.values.now
    → half.list.now ≡ handed_on (gridded view).boxes (visit b old.list.now) → IsLookedInto view b half
looked-handed laws view b old half is values same =
    let v = visit b old.list.now in
    let handed = handed-looked laws view b old half.list.now is same in
    record {
      visit_is = record { window = is.visit_is.window; box = is.visit_is.box; within = is.visit_is.within; tape = handed-tape laws view v half.list.now is.visit_is same };
      n = subst (λ (w : PointValues). SameSize w.n (size_of view)) (sym values) is.n;
      right = subst (λ w. AreRight (list_grid_value view half.list.now) b (known_of w)) (sym values) handed.0;
      settled = subst (λ w. AreSettled (gridded view) (list_grid_value view half.list.now) b (known_of w)) (sym values) handed.1;
    }

-- ---- halves

-- and of a part of the box
looked-part : (laws : Lawful) (view : Window) (b h : Indices) (half : OldBox) → IsPart 1 b h → IsLookedInto view b half → IsLookedInto view h half
looked-part laws view b h half part is = record {
  visit_is = half-visit laws view half.list.now b h part is.visit_is;
  n = is.n;
  right = λ p covers known. is.right p (part-covers b h p part covers) known;
  settled = λ s lies. is.settled s (laws.parts.lies 1 b h s part lies);
}

-- the halves of a box that handed on a list stand behind its first place
pub old-halves : (laws : Lawful) (view : Window) (b : Indices) (left : List (Option SplitBox)) (old half : OldBox) → is_long 1 b ≡ true → IsOldBox view b left old → half.values.now ≡ old.values.now
    → first_list left ≡ Some half.list.now → AreOldHalves view b (halves_of 1 b) (drop 1 left) half
old-halves laws view b left old half long is values handed =
    let d = gridded view in
    let v = visit b old.list.now in
    let told = handed-some laws view b left old half.list.now long is handed in
    let below = halves_places d half.list.now (halves_of 1 b) in
    record {
      looked = looked-handed laws view b old half is.looked values told.1;
      places = record {
        rest = is.places.rest;
        is = ap (drop 1) (is.places.is ∙ ap (λ p. p ++ is.places.rest) (places-split laws d v half.list.now (omega arith) is.looked.visit_is.box long told.0 told.1));
      };
    }

-- the elements from a place on are the one there and those behind it
next-of : (halves : List Indices) (i : ℕ) (h : Indices) → i < length halves → h ≡ get_or halves i h → drop i halves ≡ h ∷ drop (i + 1) halves
next-of halves i h within read = drop_more halves i h within ∙ ap (λ x. x ∷ drop (i + 1) halves) (sym read)

-- the places of halves are those of the next and of the others
next-places : (d : CellDescent) (list : List Step) (halves : List Indices) (i : ℕ) (h : Indices) → i < length halves → h ≡ get_or halves i h
    → halves_places d list (drop i halves) ≡ places_of d (visit h list) ++ halves_places d list (drop (i + 1) halves)
next-places d list halves i h within read =
    ap (halves_places d list) (next-of halves i h within read) ∙ flat_map-cons (λ x. places_of d (visit x list)) h (drop (i + 1) halves)

-- the next of the halves of a box stands where they begin, and the others behind it
half-stands : (laws : Lawful) (view : Window) (b h : Indices) (i : ℕ) (halves : List Indices) (left : List (Option SplitBox)) (half : OldBox) → IsPermutation (halves_of 1 b) halves → i < length halves → h ≡ get_or halves i h
    → AreOldHalves view b (drop i halves) left half → IsOldBox view h left half
half-stands laws view b h i halves left half all within read are =
    let d = gridded view in
    let list = half.list.now in
    record {
      looked = looked-part laws view b h half (turned-part laws b h halves i are.looked.visit_is.box all within read) are.looked;
      places = first-of left (places_of d (visit h list)) (halves_places d list (drop (i + 1) halves)) (subst (StandsFirst left) (next-places d list halves i h within read) are.places);
    }

-- what the grid before had of a half
pub half-was : (h : Indices) (before : Option OldBox) → visit_before before h ≡ received_half (received_by before) h
half-was h None = refl
half-was h (Some old) = refl

pub half-old : (laws : Lawful) (view : Window) (b h : Indices) (i : ℕ) (halves : List Indices) (left : List (Option SplitBox)) (before : Option OldBox) → IsPermutation (halves_of 1 b) halves → i < length halves
    → h ≡ get_or halves i h → IfSome before (AreOldHalves view b (drop i halves) left) → IfSome before (IsOldBox view h left)
half-old laws view b h i halves left None all within read are = tt
half-old laws view b h i halves left (Some half) all within read are = half-stands laws view b h i halves left half all within read are

pub next-halves : (laws : Lawful) (view : Window) (b h : Indices) (i : ℕ) (halves : List Indices) (left : List (Option SplitBox)) (before : Option OldBox) → i < length halves → h ≡ get_or halves i h
    → IfSome before (AreOldHalves view b (drop i halves) left) → IfSome before (AreOldHalves view b (drop (i + 1) halves) (behind (gridded view) (visit_before before h) left))
next-halves laws view b h i halves left None within read are = tt
next-halves laws view b h i halves left (Some half) within read are =
    let d = gridded view in
    let list = half.list.now in
    record {
      looked = are.looked;
      places = first-more left (places_of d (visit h list)) (halves_places d list (drop (i + 1) halves)) (subst (StandsFirst left) (next-places d list halves i h within read) are.places);
    }

-- what is left behind halves is left behind the next and then behind the others
pub left-more : (view : Window) (h : Indices) (i : ℕ) (halves : List Indices) (left : List (Option SplitBox)) (before : Option OldBox) → i < length halves → h ≡ get_or halves i h
    → behind_halves (gridded view) (received_by before) (drop (i + 1) halves) (behind (gridded view) (visit_before before h) left) ≡ behind_halves (gridded view) (received_by before) (drop i halves) left
left-more view h i halves left None within read = refl
left-more view h i halves left (Some half) within read =
    let d = gridded view in
    let list = half.list.now in
    let own = places_of d (visit h list) in
    let rest = halves_places d list (drop (i + 1) halves) in
    drop-drop (length rest) (length own) left ∙ ap (λ n. drop n left) (sym (ap length (next-places d list halves i h within read) ∙ length-append own rest))

-- behind all of them nothing more is passed
pub left-all : (d : CellDescent) (received : Option (List Step)) (halves : List Indices) (i : ℕ) (left : List (Option SplitBox)) → length halves ≤ i → behind_halves d received (drop i halves) left ≡ left
left-all d received halves i left end = ap (λ hs. behind_halves d received hs left) (drop_all i halves end) ∙ none received
  where
    none : (r : Option (List Step)) → behind_halves d r [] left ≡ left
    none None = refl
    none (Some list) = refl

-- places whose first one was taken, where a box stood in the grid before
abbrev pub taken_for : Option OldBox → List (Option SplitBox) → List (Option SplitBox)
taken_for before left = cond (is_some before) (drop 1 left) left

-- what is left behind a box that stood there is what is left behind its first place and its halves
pub left-anew : (laws : Lawful) (view : Window) (b : Indices) (left : List (Option SplitBox)) (before : Option OldBox) → is_long 1 b ≡ true → IfSome before (IsOldBox view b left)
    → behind_halves (gridded view) (handed_by before left) (halves_of 1 b) (taken_for before left) ≡ behind (gridded view) (visit_before before b) left
left-anew laws view b left None long is = refl
left-anew laws view b left (Some old) long is = by (first_list left) refl
  where
    d : CellDescent
    d = gridded view

    v : Visit
    v = visit b old.list.now

    by : (handed : Option (List Step)) → first_list left ≡ handed → behind_halves d handed (halves_of 1 b) (drop 1 left) ≡ drop (length (places_of d v)) left
    by (Some list) e =
        let told = handed-some laws view b left old list long is e in
        let whole = places-split laws d v list (omega arith) is.looked.visit_is.box long told.0 told.1 in
        drop-drop (length (halves_places d list (halves_of 1 b))) 1 left ∙ ap (λ n. drop n left) (omega (arith, ap length whole))
    by None e = shut (is_open d v) refl
      where
        shut : (o : Bool) → is_open d v ≡ o → drop 1 left ≡ drop (length (places_of d v)) left
        shut false h = ap (λ n. drop n left) (sym (ap length (places-shut laws d v (omega arith) is.looked.visit_is.box long h)))
        shut true h =
            let cut : is_cut d v ≡ true = rw (h, long) refl in
            absurd (none-some (handed_on d.boxes v) (sym e ∙ (lists-by laws view v left is.looked.visit_is.box long is.places).0 ∙ ap (λ t. cond t (Some (handed_on d.boxes v)) None) cut))

-- no box handed on no list
pub none-handed : (before : Option OldBox) (left : List (Option SplitBox)) → IfNone before (handed_by before left ≡ None)
none-handed None left = refl
none-handed (Some old) left = tt

-- the halves of a box that stood in the grid before begin behind its first place
pub first-halves : (laws : Lawful) (view : Window) (b : Indices) (left : List (Option SplitBox)) (before half : Option OldBox) → is_long 1 b ≡ true → IfSome before (IsOldBox view b left)
    → received_by half ≡ handed_by before left → IfSome half (λ h. IfSome before (λ old. h.values.now ≡ old.values.now)) → IfSome half (AreOldHalves view b (halves_of 1 b) (taken_for before left))
first-halves laws view b left before None long is received values = tt
first-halves laws view b left None (Some half) long is received values = absurd (none-some half.list.now (sym received))
first-halves laws view b left (Some old) (Some half) long is received values = old-halves laws view b left old half long is values (sym received)

-- no box before has no halves
pub none-halves : (before half : Option OldBox) (left : List (Option SplitBox)) → received_by half ≡ handed_by before left → before ≡ None → half ≡ None
none-halves before None left received none = refl
none-halves before (Some half) left received none = absurd (none-some half.list.now (sym (received ∙ ap (λ b. handed_by b left) none)))

-- the box that was found before
pub found-old : (view : Window) (b : Indices) (left : List (Option SplitBox)) (before : Option OldBox) (old : OldBox) → before ≡ Some old → IfSome before (IsOldBox view b left) → IsOldBox view b left old
found-old view b left before old one is = subst (λ o. IfSome o (IsOldBox view b left)) one is

-- another list than before
pub other-list : (was : Option (List Step)) (list : List Step) → was ≢ Some list → IsOther was list
other-list was list new got e same = new (e ∙ ap Some same)

-- what is enough for a new cell is enough for it
cell-enough : (laws : Lawful) (view : Window) (was : Option Visit) (v : Visit) (f : GridPoint → ℕ) → IsBox v.box → is_long 1 v.box ≡ false → IsNew was v → IsEnoughAfter f (gridded view) was v → IsEnough f (gridded view) v
cell-enough laws view was v f is short new enough s lies works p covers =
    subst (λ w. length w.list ≤ f p) (sym end) (cell-enough_after laws f d was v (omega arith) is new open' short enough s lies p covers)
  where
    d : CellDescent
    d = gridded view

    closed : (t : Bool) → (t && false) ≡ false
    closed true = refl
    closed false = refl

    end : way_end d v s ≡ v
    end = end-ends d v s is (ap (λ l. is_open d v && l) short ∙ closed (is_open d v))

    open' : is_open d v ≡ true
    open' = (and_parts (is_open d v) (not (is_long 1 v.box)) (sym (ap (λ w. is_open d w && not (is_long 1 w.box)) end) ∙ works)).0

-- so a new cell takes no more than a cell
pub cell-after : (laws : Lawful) (view : Window) (was : Option Visit) (v : Visit) (before after : Known) (told now : Counts) → IsBox v.box → is_long 1 v.box ≡ false → IsNew was v
    → ChargesBox (gridded view) v before after told now → ChargesBoxAfter (gridded view) was v before after told now
cell-after laws view was v before after told now is short new charged f enough =
    charges-more laws f (cell_spans_in d v) (cell_spans_after d was v) before after told now
    (omega (arith, spans-end laws d v is (ap (λ l. is_open d v && l) short ∙ closed (is_open d v)), spans-some_after laws d was v (omega arith) is new))
    (charged f (cell-enough laws view was v f is short new enough))
  where
    d : CellDescent
    d = gridded view

    closed : (t : Bool) → (t && false) ≡ false
    closed true = refl
    closed false = refl

-- ---- the box of all cells

pub root-was : (view : Window) (before : Option OldBox) → visit_before before (root_box_of view Grid) ≡ mesh_before view (received_by before)
root-was view None = refl
root-was view (Some old) = refl

-- it stands first among the places of a whole grid
pub root-stands : (view : Window) (list : List Step) (values : PointValues) (places : List (Option SplitBox)) (old : OldBox) → IsTold view list values → IsVisit (gridded view).boxes (grid_root view list) → old.list.now ≡ list
    → old.values.now ≡ values → places ≡ places_of (gridded view) (grid_root view list) → IsOldBox view (root_box_of view Grid) places old
root-stands view list values places old told is same known all = record {
  looked = record {
    visit_is = subst (λ l. IsVisit (gridded view).boxes (grid_root view l)) (sym same) is;
    n = subst (λ (t : PointValues). SameSize t.n (size_of view)) (sym known) told.n;
    right = subst (λ t. AreRight (list_grid_value view old.list.now) (root_box_of view Grid) (known_of t)) (sym known) (subst (λ l. AreRight (list_grid_value view l) (root_box_of view Grid) (known_of values)) (sym same) (λ p covers k. told.right p k));
    settled = subst (λ t. AreSettled (gridded view) (list_grid_value view old.list.now) (root_box_of view Grid) (known_of t)) (sym known) (subst (λ l. AreSettled (gridded view) (list_grid_value view l) (root_box_of view Grid) (known_of values)) (sym same) told.settled);
  };
  places = record { rest = []; is = all ∙ ap (λ l. places_of (gridded view) (grid_root view l)) (sym same) ∙ sym (append-nil (places_of (gridded view) (grid_root view old.list.now))) };
}
