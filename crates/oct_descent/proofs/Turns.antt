-- The halves of a box in the order in which they are looked into.
use Rattle.std.proofs.Common.{◌≡◌, ℕ, ◌-◌, ◌<◌, ◌≤◌, false, List, [], ◌∷◌, ◌++◌, drop, length, refl, sym, ap, subst, ◌∙◌, ◌⊎◌, inl, inr, arith}
use Rattle.std.specs.Prelude.{IfSome, Option, Some, None, nat_lt}
use Rattle.std.specs.List.{All}
use Rattle.std.specs.List.Sorted.{IsPermutation}
use Rattle.std.proofs.lemmas.Bool.{cases_lt}
use Rattle.std.proofs.lemmas.Bool.Decides.{nat_tests}
use Rattle.std.proofs.lemmas.List.Concat.{flat_map-cons}
use Rattle.std.proofs.lemmas.List.Elements.{All-head, All-tail, All-weaker}
use Rattle.std.proofs.lemmas.List.Sorted.{All-permutation, IsPermutation-sym, sum_by-IsPermutation}
use Rattle.box_chains.specs.Chains.{is_long, visit}
use Rattle.box_chains.specs.Laws.{Lawful}
use Rattle.box_chains.specs.Parts.{IsPart, IsPartAlong}
use Rattle.fixed_ops.specs.Counts.{Counts}
use Rattle.live_clauses.specs.declared.step.Step.{Step}
use Rattle.view_places.specs.Boxes.{Indices, IsBox, halves_of}
use Rattle.view_places.specs.Window.{Window}
use Rattle.oct_descent.specs.After.{cell_spans_after, long_spans_after, received_half}
use Rattle.oct_descent.specs.AfterDesks.{ChargesHalvesAfter, IsEnoughAfter, halves_long_spans_after}
use Rattle.oct_descent.specs.Bound.{CountsHullsAtLeast}
use Rattle.oct_descent.specs.Halves.{AreTurned}
use Rattle.oct_descent.specs.KeptBoxes.{halves_places, places_of}
use Rattle.oct_descent.specs.Known.{Charges, Known}
use Rattle.oct_descent.specs.OldBoxes.{AreOldHalves, StandsFirst, behind_halves}
use Rattle.oct_descent.specs.Ways.{CellDescent, gridded}
use Rattle.oct_descent.specs.declared.old_box.OldBox.{OldBox}
use Rattle.oct_descent.specs.declared.split_box.SplitBox.{SplitBox}
use Rattle.oct_descent.proofs.Covered.{or-false}
use Rattle.oct_descent.proofs.Halves.{halves-boxes, turned-boxes}
use Rattle.oct_descent.proofs.Kept.{places-cell}

-- ---- where they are cells

-- a part of a side that is at most two cells long is at most one
side-short : (low high from to : ℕ) → IsPartAlong 1 low high from to → nat_lt 2 (high - low) ≡ false → nat_lt 1 (to - from) ≡ false
side-short low high from to part few = by (cases_lt 1 (high - low))
  where
    most : high - low ≤ 2
    most = grind (arith, nat_tests, few)

    by : (1 < high - low) ⊎ (high - low ≤ 1) → nat_lt 1 (to - from) ≡ false
    by (inl long) =
        let less : to - from ≤ 1 = omega (arith, part.shorter long, most) in
        grind (arith, nat_tests, less)
    by (inr short) =
        let less : to - from ≤ 1 = omega (arith, part.above, part.below, short) in
        grind (arith, nat_tests, less)

-- so the halves of a box whose sides are at most two cells long are cells
pub cells-short : (laws : Lawful) (b : Indices) → IsBox b → is_long 2 b ≡ false → All (λ h. is_long 1 h ≡ false) (halves_of 1 b)
cells-short laws b is few =
    let x = or-false (nat_lt 2 (b.x1 - b.x0)) _ few in
    let yz = or-false (nat_lt 2 (b.y1 - b.y0)) (nat_lt 2 (b.z1 - b.z0)) x.1 in
    All-weaker (IsPart 1 b) (λ h. is_long 1 h ≡ false)
    (λ h part. rw (side-short b.x0 b.x1 h.x0 h.x1 part.x x.0, side-short b.y0 b.y1 h.y0 h.y1 part.y yz.0, side-short b.z0 b.z1 h.z0 h.z1 part.z yz.1) refl)
    (halves_of 1 b) (laws.parts.all 1 b (omega arith) is)

-- cells have no places
short-places : (laws : Lawful) (view : Window) (list : List Step) (halves : List Indices) → All IsBox halves → All (λ h. is_long 1 h ≡ false) halves → halves_places (gridded view) list halves ≡ []
short-places laws view list [] boxes short = refl
short-places laws view list (h ∷ hs) boxes short =
    let d = gridded view in
    flat_map-cons (λ x. places_of d (visit x list)) h hs
    ∙ ap (λ l. l ++ halves_places d list hs) (places-cell laws d (visit h list) (omega arith) (All-head IsBox h hs boxes) (All-head (λ x. is_long 1 x ≡ false) h hs short))
    ∙ short-places laws view list hs (All-tail IsBox h hs boxes) (All-tail (λ x. is_long 1 x ≡ false) h hs short)

-- ---- so the order changes nothing

-- their places are the same
pub turned-places : (laws : Lawful) (view : Window) (list : List Step) (b : Indices) (halves : List Indices) → IsBox b → AreTurned b halves → halves_places (gridded view) list halves ≡ halves_places (gridded view) list (halves_of 1 b)
turned-places laws view list b halves is turned = by turned.order
  where
    by : (halves ≡ halves_of 1 b) ⊎ All (λ h. is_long 1 h ≡ false) halves → halves_places (gridded view) list halves ≡ halves_places (gridded view) list (halves_of 1 b)
    by (inl own) = ap (halves_places (gridded view) list) own
    by (inr short) =
        short-places laws view list halves (turned-boxes laws b halves is turned.among) short
        ∙ sym (short-places laws view list (halves_of 1 b) (halves-boxes laws b (halves_of 1 b) is refl)
        (All-permutation (λ h. is_long 1 h ≡ false) halves (halves_of 1 b) (IsPermutation-sym (halves_of 1 b) halves turned.among) short))

-- so those of the grid before stand first
pub turned-old : (laws : Lawful) (view : Window) (b : Indices) (halves : List Indices) (left : List (Option SplitBox)) (before : Option OldBox) → IsBox b → AreTurned b halves
    → IfSome before (AreOldHalves view b (halves_of 1 b) left) → IfSome before (AreOldHalves view b halves left)
turned-old laws view b halves left None is turned old = tt
turned-old laws view b halves left (Some half) is turned old = record { looked = old.looked; places = subst (StandsFirst left) (sym (turned-places laws view half.list.now b halves is turned)) old.places }

-- and as much is left behind them
pub turned-behind : (laws : Lawful) (view : Window) (b : Indices) (halves : List Indices) (left : List (Option SplitBox)) (received : Option (List Step)) → IsBox b → AreTurned b halves
    → behind_halves (gridded view) received halves left ≡ behind_halves (gridded view) received (halves_of 1 b) left
turned-behind laws view b halves left None is turned = refl
turned-behind laws view b halves left (Some list) is turned = ap (λ (ps : List (Option SplitBox)). drop (length ps) left) (turned-places laws view list b halves is turned)

-- what they are charged in an order they are in any
pub turned-charged_after : (d : CellDescent) (was : Option (List Step)) (list : List Step) (halves turned : List Indices) (before after : Known) (told now : Counts) → IsPermutation halves turned
    → ChargesHalvesAfter d was list turned before after told now → ChargesHalvesAfter d was list halves before after told now
turned-charged_after d was list halves turned before after told now is charged f enough =
    subst (λ n. Charges f n before after told now) (sum_by-IsPermutation (λ h. cell_spans_after d (received_half was h) (visit h list)) halves turned is)
    (charged f (All-permutation (λ h. IsEnoughAfter f d (received_half was h) (visit h list)) halves turned is enough))

-- and what is traced of them
pub turned-traced_after : (d : CellDescent) (was : Option (List Step)) (list : List Step) (halves turned : List Indices) (told now : Counts) → IsPermutation halves turned
    → CountsHullsAtLeast (halves_long_spans_after d was list turned) told now → CountsHullsAtLeast (halves_long_spans_after d was list halves) told now
turned-traced_after d was list halves turned told now is traced =
    subst (λ n. CountsHullsAtLeast n told now) (sum_by-IsPermutation (λ h. long_spans_after d (received_half was h) (visit h list)) halves turned is) traced
