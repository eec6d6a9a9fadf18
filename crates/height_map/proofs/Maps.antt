-- What drawing the box of all samples leaves.
use Rattle.std.proofs.Common.{◌≡◌, ℕ, zero, suc, ◌+◌, ◌*◌, ◌/◌, ◌%◌, ◌<◌, ◌≤◌, true, cond, List, [], ◌∷◌, ◌++◌, add-zero, zero-add, append-nil, length, map, get_or, replicate, refl, sym, ap, subst, ◌∙◌, ◌⊎◌, inl, inr, arith}
use Rattle.std.specs.Prelude.{nat_le, ◌==◌}
use Rattle.std.specs.List.{flat_map, range_with_len}
use Rattle.std.proofs.Math.Nat.{mod-lt, mul-le-mul_right}
use Rattle.std.proofs.lemmas.Bool.{and_parts, cases_lt, le-leb, lt-ltb}
use Rattle.std.proofs.lemmas.Grind.{flat_map-append}
use Rattle.std.proofs.lemmas.List.{get_or-replicate, length-replicate, map-append}
use Rattle.std.proofs.lemmas.List.Concat.{flat_map-cons}
use Rattle.std.proofs.lemmas.List.FromFn.{fill_by_all}
use Rattle.std.proofs.lemmas.Nat.{div-add-mod', div-mul-add, mod-mul-add}
use Rattle.box_chains.specs.Counts.{spans_in}
use Rattle.fixed_ops.specs.Counts.{Counts}
use Rattle.live_clauses.specs.declared.step.Step.{Step}
use Rattle.view_places.specs.Boxes.{Indices}
use Rattle.view_places.specs.Spans.{root_box_of}
use Rattle.view_places.specs.Window.{Window}
use Rattle.view_places.specs.declared.lattice.Lattice.TheVariants.{Height}
use Rattle.box_chains.specs.Chains.{visit}
use Rattle.box_chains.specs.Tallied.{CountsAtMost}
use Rattle.height_map.specs.Bound.{height_points, height_spans, is_near, layered, layers_root}
use Rattle.box_chains.specs.Tested.{points_where}
use Rattle.box_chains.specs.Laws.{Lawful}
use Rattle.height_map.specs.Columns.{Changes, covers, is_open, leaf_top}
use Rattle.height_map.specs.TopMaps.{Heights}
use Rattle.height_map.specs.Tops.{row_of, top_of, tops_of}
use Rattle.height_map.proofs.ChangeLaws.{lifted-none}

-- numbers from one on, and more behind them
range-parts : (low m n : ℕ) → range_with_len low (m + n) ≡ range_with_len low m ++ range_with_len (low + m) n
range-parts low zero n = rw (zero-add n, add-zero low) refl
range-parts low (suc m) n =
    let count : suc m + n ≡ suc (m + n) = omega arith in
    let from : low + 1 + m ≡ low + suc m = omega arith in
    rw count (ap (λ l. low ∷ l) (range-parts (low + 1) m n ∙ ap (λ k. range_with_len (low + 1) m ++ range_with_len k n) from))

map-same : (f g : ℕ → ℕ) (low n : ℕ) → ((i : ℕ) → low ≤ i → i < low + n → f i ≡ g i) → map f (range_with_len low n) ≡ map g (range_with_len low n)
map-same f g low zero same = refl
map-same f g low (suc n) same =
    ap (λ x. x ∷ map f (range_with_len (low + 1) n)) (same low (omega arith) (omega arith))
    ∙ ap (λ l. g low ∷ l) (map-same f g (low + 1) n (λ i l h. same i (omega (arith, l)) (omega (arith, h))))

-- the top of the column at a place
abbrev top_at : Window → List Step → ℕ → ℕ
top_at view list p = top_of view list (p % view.w) (p / view.w)

-- the places of one row
row-places : (view : Window) (list : List Step) (r : ℕ) → map (top_at view list) (range_with_len (r * view.w) view.w) ≡ row_of view list r
row-places view list r =
    ap (λ k. map (top_at view list) (range_with_len k view.w)) (sym (add-zero (r * view.w)))
    ∙ shift (top_at view list) (r * view.w) 0 view.w
    ∙ map-same (λ i. top_at view list (r * view.w + i)) (λ i. top_of view list i r) 0 view.w
    (λ i low high.
    let narrow : i < view.w = omega (arith, high) in
    ap (λ m. top_of view list m ((r * view.w + i) / view.w)) (mod-mul-add r view.w i narrow) ∙ ap (λ m. top_of view list i m) (div-mul-add r view.w i narrow))
  where
    shift : (f : ℕ → ℕ) (low from n : ℕ) → map f (range_with_len (low + from) n) ≡ map (λ i. f (low + i)) (range_with_len from n)
    shift f low from zero = refl
    shift f low from (suc n) = ap (λ l. f (low + from) ∷ l) (ap (λ k. map f (range_with_len k n)) (omega arith) ∙ shift f low (from + 1) n)

-- the tops of some rows are those of their places
rows-places : (view : Window) (list : List Step) (n : ℕ) → map (top_at view list) (range_with_len 0 (n * view.w)) ≡ flat_map (row_of view list) (range_with_len 0 n)
rows-places view list zero = let none : 0 * view.w ≡ 0 = omega arith in ap (λ k. map (top_at view list) (range_with_len 0 k)) none
rows-places view list (suc n) =
    let f = top_at view list in
    let count : suc n * view.w ≡ n * view.w + view.w = grind arith in
    let start : 0 + n * view.w ≡ n * view.w = omega arith in
    let first : 0 + n ≡ n = omega arith in
    ap (λ k. map f (range_with_len 0 k)) count
    ∙ ap (map f) (range-parts 0 (n * view.w) view.w)
    ∙ map-append f (range_with_len 0 (n * view.w)) (range_with_len (0 + n * view.w) view.w)
    ∙ ap (λ k. map f (range_with_len 0 (n * view.w)) ++ map f (range_with_len k view.w)) start
    ∙ ap (λ l. l ++ map f (range_with_len (n * view.w) view.w)) (rows-places view list n)
    ∙ ap (λ l. flat_map (row_of view list) (range_with_len 0 n) ++ l) (row-places view list n ∙ sym (append-nil (row_of view list n)) ∙ sym (flat_map-cons (row_of view list) n []))
    ∙ sym (flat_map-append (row_of view list) (range_with_len 0 n) (n ∷ []))
    ∙ ap (λ k. flat_map (row_of view list) (range_with_len 0 n ++ range_with_len k 1)) (sym first)
    ∙ ap (flat_map (row_of view list)) (sym (range-parts 0 n 1) ∙ ap (range_with_len 0) more)
  where
    more : n + 1 ≡ suc n
    more = omega arith

-- the row of a place of so many rows
row-below : (w rows p : ℕ) → p < rows * w → p / w < rows
row-below w rows p within = by (cases_lt (p / w) rows)
  where
    by : (p / w < rows) ⊎ (rows ≤ p / w) → p / w < rows
    by (inl less) = less
    by (inr more) =
        let all : rows * w ≤ p / w * w = mul-le-mul_right w more in
        absurd (omega (arith, all, div-add-mod' p w, within))

-- once the box of all samples is drawn over no tops, they are the map's
pub map-drawn : (view : Window) (list : List Step) (b : Indices) (w : ℕ) (before after : List ℕ) → b ≡ root_box_of view Height → w ≡ view.w → 0 < view.w → before ≡ replicate (view.h * view.w) 0
    → Changes (covers w b) (leaf_top view list b) before after → after ≡ tops_of view list
map-drawn view list b w before after is width some empty changed =
    fill_by_all (top_at view list) after (view.h * view.w) 0 (changed.same ∙ count) each ∙ rows-places view list view.h
  where
    count : length before ≡ view.h * view.w
    count = ap length empty ∙ length-replicate (view.h * view.w) 0

    each : (p : ℕ) → p < view.h * view.w → get_or after p 0 ≡ top_at view list p
    each p h =
        let none : get_or before p 0 ≡ 0 = ap (λ l. get_or l p 0) empty ∙ get_or-replicate (view.h * view.w) p 0 0 h in
        let x0 : nat_le 0 (p % view.w) ≡ true = le-leb 0 (p % view.w) (omega arith) in
        let x1 = lt-ltb (p % view.w) view.w (mod-lt p some) in
        let y0 : nat_le 0 (p / view.w) ≡ true = le-leb 0 (p / view.w) (omega arith) in
        let y1 = lt-ltb (p / view.w) view.h (row-below view.w view.h p h) in
        let inside : covers view.w (root_box_of view Height) p ≡ true = rw (x0, x1, y0, y1) refl in
        changed.each p (omega (arith, h, count))
        ∙ ap (λ t. cond t (leaf_top view list b p (get_or before p 0)) (get_or before p 0)) (ap (λ n. covers n b p) width ∙ ap (λ c. covers view.w c p) is ∙ inside)
        ∙ ap (λ c. leaf_top view list c p (get_or before p 0)) is
        ∙ lifted-none (top_at view list p) (get_or before p 0) none

-- and its work is at most the map's
pub map-counted : (laws : Lawful) (view : Window) (list : List Step) (b : Indices) (tops : List ℕ) (before after : Counts) → b ≡ root_box_of view Height
    → CountsAtMost (points_where (is_open view list b tops) (layered view) (visit b list)) (spans_in (layered view) (visit b list)) before after
    → CountsAtMost (height_points view list) (height_spans view list) before after
map-counted laws view list b tops before after is h =
    let at = subst (λ c. CountsAtMost (points_where (is_open view list c tops) (layered view) (visit c list)) (spans_in (layered view) (visit c list)) before after) is h in
    laws.bounds.more before after (points_where (is_open view list (root_box_of view Height) tops) (layered view) (layers_root view list)) (height_spans view list) (height_points view list) (height_spans view list)
    (laws.tested.points_more (is_open view list (root_box_of view Height) tops) (is_near view list) (layered view) (layers_root view list)
    (λ s lies e. (and_parts (get_or tops (s.j * view.w + s.i) 0 == 0) (nat_le (top_of view list s.i s.j) (s.k + 1)) e).1)) (omega arith) at

-- height maps are equal where each part of them is
pub same_maps : (a b : Heights) → a.w ≡ b.w → a.h ≡ b.h → a.d ≡ b.d → a.tops ≡ b.tops → a ≡ b
same_maps a b w h d tops =
    ap (λ (n : ℕ). record { w = n; h = a.h; d = a.d; tops = a.tops }) w
    ∙ ap (λ (n : ℕ). record { w = b.w; h = n; d = a.d; tops = a.tops }) h
    ∙ ap (λ (n : ℕ). record { w = b.w; h = b.h; d = n; tops = a.tops }) d
    ∙ ap (λ (l : List ℕ). record { w = b.w; h = b.h; d = b.d; tops = l }) tops
