-- What shading the box of all samples leaves, and takes.
use Rattle.std.proofs.Common.{◌≡◌, ℕ, zero, suc, ◌+◌, ◌-◌, ◌*◌, ◌/◌, ◌%◌, ◌<◌, ◌≤◌, Bool, true, false, cond, List, [], ◌∷◌, ◌++◌, add-zero, zero-add, append-nil, length, map, get_or, replicate, refl, sym, ap, subst, ◌∙◌, ◌⊎◌, inl, inr, arith}
use Rattle.std.specs.Prelude.{nat_le, nat_lt, ◌==◌, ◌&&◌}
use Rattle.std.specs.List.{flat_map, range_with_len}
use Rattle.std.proofs.Math.Nat.{mod-lt, mul-le-mul_right, mul_comm}
use Rattle.std.proofs.lemmas.Bool.{cases_lt}
use Rattle.std.proofs.lemmas.Grind.{flat_map-append}
use Rattle.std.proofs.lemmas.List.{get_or-map, get_or-replicate, length-map, length-replicate, map-append}
use Rattle.std.proofs.lemmas.List.Concat.{flat_map-cons}
use Rattle.std.proofs.lemmas.List.FromFn.{fill_by_all, get_or-range_with_len, length-range_with_len}
use Rattle.std.proofs.lemmas.Nat.{div-add-mod', div-mul-add, mod-mul-add}
use Rattle.box_chains.specs.Chains.{Descent, Visit, chain_end, visit}
use Rattle.box_chains.specs.Desks.{Tracing, list_of}
use Rattle.box_chains.specs.Laws.{Lawful}
use Rattle.box_chains.specs.Sums.{LiesIn, Sample, maximum}
use Rattle.box_chains.specs.Tested.{spans_where}
use Rattle.box_chains.specs.Visits.{sample_point}
use Rattle.fixed_ops.specs.Counts.{Counts}
use Rattle.live_clauses.specs.Steps.{IsTape}
use Rattle.live_clauses.specs.declared.step.Step.{Step}
use Rattle.view_places.specs.Boxes.{Indices, IsBox}
use Rattle.view_places.specs.Spans.{root_box_of}
use Rattle.view_places.specs.Window.{Window, IsWindow}
use Rattle.view_places.specs.declared.lattice.Lattice.TheVariants.{Height}
use Rattle.height_map.specs.Bound.{layered, layers_root}
use Rattle.height_map.specs.Desks.{MayDraw}
use Rattle.height_map.specs.Tops.{inside, top_of, tops_of}
use Rattle.normal_shade.specs.DualWork.{dual_points}
use Rattle.normal_shade.specs.Lit.{lit_where, pruned}
use Rattle.normal_shade.specs.Marks.{has_top_at, is_marked, is_within, shade_at}
use Rattle.normal_shade.specs.Shades.{is_top, shade_of, shade_points, shade_spans, shades_of}
use Rattle.normal_shade.proofs.Held.{held-to}
use Rattle.normal_shade.proofs.Lit.{Becomes}

-- numbers from one on, and more behind them
range-parts : (low m n : ℕ) → range_with_len low (m + n) ≡ range_with_len low m ++ range_with_len (low + m) n
range-parts low zero n = rw (zero-add n, add-zero low) refl
range-parts low (suc m) n =
    let count : suc m + n ≡ suc (m + n) = omega arith in
    let from : low + 1 + m ≡ low + suc m = omega arith in
    rw count (ap (λ l. low ∷ l) (range-parts (low + 1) m n ∙ ap (λ k. range_with_len (low + 1) m ++ range_with_len k n) from))

map-same : (f g : ℕ → ℕ) (low n : ℕ) → ((i : ℕ) → low ≤ i → i < low + n → f i ≡ g i) → map f (range_with_len low n) ≡ map g (range_with_len low n)
map-same f g low zero same = refl
map-same f g low (suc n) same =
    ap (λ x. x ∷ map f (range_with_len (low + 1) n)) (same low (omega arith) (omega arith))
    ∙ ap (λ l. g low ∷ l) (map-same f g (low + 1) n (λ i l h. same i (omega (arith, l)) (omega (arith, h))))

-- a number by the column and the row of a place
abbrev cell : (ℕ → ℕ → ℕ) → ℕ → ℕ → ℕ
cell f w p = f (p % w) (p / w)

-- the numbers of row j of w columns
abbrev line : (ℕ → ℕ → ℕ) → ℕ → ℕ → List ℕ
line f w j = map (λ i. f i j) (range_with_len 0 w)

-- the places of one row
row-places : (f : ℕ → ℕ → ℕ) (w r : ℕ) → map (cell f w) (range_with_len (r * w) w) ≡ line f w r
row-places f w r =
    ap (λ k. map (cell f w) (range_with_len k w)) (sym (add-zero (r * w)))
    ∙ shift (cell f w) (r * w) 0 w
    ∙ map-same (λ i. cell f w (r * w + i)) (λ i. f i r) 0 w
    (λ i low high.
    let narrow : i < w = omega (arith, high) in
    ap (λ m. f m ((r * w + i) / w)) (mod-mul-add r w i narrow) ∙ ap (λ m. f i m) (div-mul-add r w i narrow))
  where
    shift : (g : ℕ → ℕ) (low from n : ℕ) → map g (range_with_len (low + from) n) ≡ map (λ i. g (low + i)) (range_with_len from n)
    shift g low from zero = refl
    shift g low from (suc n) = ap (λ l. g (low + from) ∷ l) (ap (λ k. map g (range_with_len k n)) (omega arith) ∙ shift g low (from + 1) n)

-- the numbers of some rows are those of their places
rows-places : (f : ℕ → ℕ → ℕ) (w n : ℕ) → map (cell f w) (range_with_len 0 (n * w)) ≡ flat_map (line f w) (range_with_len 0 n)
rows-places f w zero = let none : 0 * w ≡ 0 = omega arith in ap (λ k. map (cell f w) (range_with_len 0 k)) none
rows-places f w (suc n) =
    let count : suc n * w ≡ n * w + w = grind arith in
    let start : 0 + n * w ≡ n * w = omega arith in
    let first : 0 + n ≡ n = omega arith in
    ap (λ k. map (cell f w) (range_with_len 0 k)) count
    ∙ ap (map (cell f w)) (range-parts 0 (n * w) w)
    ∙ map-append (cell f w) (range_with_len 0 (n * w)) (range_with_len (0 + n * w) w)
    ∙ ap (λ k. map (cell f w) (range_with_len 0 (n * w)) ++ map (cell f w) (range_with_len k w)) start
    ∙ ap (λ l. l ++ map (cell f w) (range_with_len (n * w) w)) (rows-places f w n)
    ∙ ap (λ l. flat_map (line f w) (range_with_len 0 n) ++ l) (row-places f w n ∙ sym (append-nil (line f w n)) ∙ sym (flat_map-cons (line f w) n []))
    ∙ sym (flat_map-append (line f w) (range_with_len 0 n) (n ∷ []))
    ∙ ap (λ k. flat_map (line f w) (range_with_len 0 n ++ range_with_len k 1)) (sym first)
    ∙ ap (flat_map (line f w)) (sym (range-parts 0 n 1) ∙ ap (range_with_len 0) more)
  where
    more : n + 1 ≡ suc n
    more = omega arith

-- the row of a place of so many rows
row-below : (w rows p : ℕ) → p < rows * w → p / w < rows
row-below w rows p within = by (cases_lt (p / w) rows)
  where
    by : (p / w < rows) ⊎ (rows ≤ p / w) → p / w < rows
    by (inl less) = less
    by (inr more) =
        let all : rows * w ≤ p / w * w = mul-le-mul_right w more in
        absurd (omega (arith, all, div-add-mod' p w, within))

-- ---- the tops of a map

tops-are : (view : Window) (list : List Step) → tops_of view list ≡ map (cell (top_of view list) view.w) (range_with_len 0 (view.h * view.w))
tops-are view list = sym (rows-places (top_of view list) view.w view.h)

pub tops-length : (view : Window) (list : List Step) (tops : List ℕ) → tops ≡ tops_of view list → length tops ≡ view.h * view.w
tops-length view list tops are =
    ap length (are ∙ tops-are view list) ∙ length-map (range_with_len 0 (view.h * view.w)) (cell (top_of view list) view.w) ∙ length-range_with_len 0 (view.h * view.w)

-- as many pixels as there are tops
pub dark-count : (view : Window) (list : List Step) (tops : List ℕ) (w h : ℕ) → w ≡ view.w → h ≡ view.h → tops ≡ tops_of view list → w * h ≡ length tops
dark-count view list tops w h of_w of_h are = ap (λ n. n * h) of_w ∙ ap (λ n. view.w * n) of_h ∙ mul_comm view.w view.h ∙ sym (tops-length view list tops are)

top-there : (view : Window) (list : List Step) (tops : List ℕ) (p : ℕ) → tops ≡ tops_of view list → p < view.h * view.w → get_or tops p 0 ≡ top_of view list (p % view.w) (p / view.w)
top-there view list tops p are within =
    ap (λ l. get_or l p 0) (are ∙ tops-are view list)
    ∙ get_or-map (cell (top_of view list) view.w) (range_with_len 0 (view.h * view.w)) p 0 0 (omega (arith, within, length-range_with_len 0 (view.h * view.w)))
    ∙ ap (cell (top_of view list) view.w) (get_or-range_with_len 0 (view.h * view.w) p 0 within ∙ zero-add p)

-- none stands above the samples
best-below : (f : ℕ → Bool) (low n : ℕ) → maximum (map (λ k. cond (f k) (k + 1) 0) (range_with_len low n)) ≤ low + n
best-below f low zero = omega arith
best-below f low (suc n) = omega (arith, one (f low), best-below f (low + 1) n)
  where
    one : (t : Bool) → cond {A = ℕ} t (low + 1) 0 ≤ low + 1
    one true = omega arith
    one false = omega arith

top-below : (view : Window) (list : List Step) (i j : ℕ) → top_of view list i j ≤ view.d
top-below view list i j = omega (arith, best-below (inside view list i j) 0 (view.d - 0))

-- ---- the pixels of a map

-- once the box of all samples is shaded over dark pixels, they are the picture
pub map-lit : (view : Window) (list : List Step) (b : Indices) (w : ℕ) (tops before after : List ℕ) → b ≡ root_box_of view Height → w ≡ view.w → 0 < view.w → tops ≡ tops_of view list
    → before ≡ replicate (length tops) 0 → Becomes (has_top_at w tops b) (shade_at view list tops) before after → after ≡ shades_of view list
map-lit view list b w tops before after is width some are dark changed =
    fill_by_all (cell shaded view.w) after (view.h * view.w) 0 (changed.same ∙ count) each ∙ rows-places shaded view.w view.h
  where
    shaded : ℕ → ℕ → ℕ
    shaded i j = shade_of view list (top_of view list i j) i j

    count : length before ≡ view.h * view.w
    count = ap length dark ∙ length-replicate (length tops) 0 ∙ tops-length view list tops are

    root : Indices
    root = root_box_of view Height

    no-top : (p : ℕ) → get_or tops p 0 ≡ 0 → has_top_at view.w tops root p ≡ false
    no-top p none = ap (λ t. and-of p t) (ap (is_within root) none) ∙ and-false (covers-of p)
      where
        covers-of : ℕ → Bool
        covers-of q = nat_le 0 (q % view.w) && (nat_lt (q % view.w) view.w && (nat_le 0 (q / view.w) && nat_lt (q / view.w) view.h))

        and-of : ℕ → Bool → Bool
        and-of q t = covers-of q && t

        and-false : (t : Bool) → (t && false) ≡ false
        and-false true = refl
        and-false false = refl

    lit-at : (p : ℕ) → p < view.h * view.w → (top : ℕ) → get_or tops p 0 ≡ top → cond (has_top_at view.w tops root p) (shade_at view list tops p) 0 ≡ shade_at view list tops p
    lit-at p h zero none = ap (λ t. cond t (shade_at view list tops p) 0) (no-top p none) ∙ sym (ap (λ t. shade_of view list t (p % view.w) (p / view.w)) none)
    lit-at p h (suc k) have =
        let low : top_of view list (p % view.w) (p / view.w) ≤ view.d = top-below view list (p % view.w) (p / view.w) in
        let there = top-there view list tops p are h in
        ap (λ t. cond t (shade_at view list tops p) 0)
        (held-to view.w tops root p (record {
          some = omega (arith, have);
          lies = record {
            x = (omega arith, mod-lt p some);
            y = (omega arith, row-below view.w view.h p h);
            z = (omega arith, omega (arith, have, low, there));
          };
        }))

    each : (p : ℕ) → p < view.h * view.w → get_or after p 0 ≡ cell shaded view.w p
    each p h =
        let none : get_or before p 0 ≡ 0 =
        ap (λ l. get_or l p 0) dark ∙ get_or-replicate (length tops) p 0 0 (omega (arith, h, tops-length view list tops are)) in
        changed.each p (omega (arith, h, count))
        ∙ ap (λ old. cond (has_top_at w tops b p) (shade_at view list tops p) old) none
        ∙ ap (λ n. cond (has_top_at n tops b p) (shade_at view list tops p) 0) width
        ∙ ap (λ c. cond (has_top_at view.w tops c p) (shade_at view list tops p) 0) is
        ∙ lit-at p h (get_or tops p 0) refl
        ∙ ap (λ t. shade_of view list t (p % view.w) (p / view.w)) (top-there view list tops p are h)

-- ---- the work of a map

-- the test of the tops is that of the list
pub marked-is : (view : Window) (list : List Step) (tops : List ℕ) (s : Sample) → tops ≡ tops_of view list → LiesIn (root_box_of view Height) s → is_marked view.w tops s ≡ is_top view list s
marked-is view list tops s are lies =
    let narrow : s.i < view.w = lies.x.1 in
    let rows : (s.j + 1) * view.w ≤ view.h * view.w = mul-le-mul_right view.w (omega (arith, lies.y)) in
    let once : (s.j + 1) * view.w ≡ s.j * view.w + view.w = grind arith in
    let within : s.j * view.w + s.i < view.h * view.w = omega (arith, rows, once, narrow) in
    ap (λ n. n == s.k + 1)
    (top-there view list tops (s.j * view.w + s.i) are within
    ∙ ap (λ i. top_of view list i ((s.j * view.w + s.i) / view.w)) (mod-mul-add s.j view.w s.i narrow)
    ∙ ap (λ j. top_of view list s.i j) (div-mul-add s.j view.w s.i narrow))

lit-same : (laws : Lawful) (test other : Sample → Bool) (d : Descent) (v : Visit) → ((s : Sample) → LiesIn v.box s → test s ≡ other s) → lit_where test d v ≡ lit_where other d v
unfolding lit_where
lit-same laws test other d v same =
    laws.sums.same v.box (λ s. cond (test s) (dual_points (sample_point d s) (pruned d (chain_end d v s))) 0) (λ s. cond (other s) (dual_points (sample_point d s) (pruned d (chain_end d v s))) 0)
    (λ s lies. ap (λ t. cond t (dual_points (sample_point d s) (pruned d (chain_end d v s))) 0) (same s lies))

map-points : (laws : Lawful) (view : Window) (list : List Step) (tops : List ℕ) → tops ≡ tops_of view list
    → lit_where (is_marked view.w tops) (layered view) (layers_root view list) ≡ shade_points view list
map-points laws view list tops are =
    lit-same laws (is_marked view.w tops) (is_top view list) (layered view) (layers_root view list) (λ s lies. marked-is view list tops s are lies)

map-traced : (laws : Lawful) (view : Window) (list : List Step) (tops : List ℕ) → IsBox (root_box_of view Height) → tops ≡ tops_of view list
    → spans_where (is_marked view.w tops) (layered view) (layers_root view list) ≡ shade_spans view list
map-traced laws view list tops is are =
    laws.tested.spans_same (is_marked view.w tops) (is_top view list) (layered view) (layers_root view list) (omega arith) is (λ s lies. marked-is view list tops s are lies)

-- so the work of the box of all samples is the map's
abbrev pub RootWork : (ℕ → ℕ → Counts → Counts → Type 0) → Tracing → Indices → List ℕ → Counts → Counts → Type 0
RootWork Counted desk b tops before after =
    Counted (lit_where (is_marked desk.view.w tops) (layered desk.view) (visit b (list_of desk 0))) (spans_where (is_marked desk.view.w tops) (layered desk.view) (visit b (list_of desk 0))) before after

pub map-work : (laws : Lawful) (Counted : ℕ → ℕ → Counts → Counts → Type 0) (view : Window) (list : List Step) (desk : Tracing) (b : Indices) (tops : List ℕ) (before after : Counts)
    → desk ≡ record { view = view; lattice = Height; room = length list; lists = list ∷ [] } → b ≡ root_box_of desk.view desk.lattice → IsBox (root_box_of view Height) → tops ≡ tops_of view list
    → RootWork Counted desk b tops before after → Counted (shade_points view list) (shade_spans view list) before after
map-work laws Counted view list desk b tops before after made is box are h =
    subst (λ n. Counted n (shade_spans view list) before after) (map-points laws view list tops are)
    (subst (λ n. Counted (lit_where (is_marked view.w tops) (layered view) (layers_root view list)) n before after) (map-traced laws view list tops box are)
    (subst (λ c. Counted (lit_where (is_marked view.w tops) (layered view) (visit c list)) (spans_where (is_marked view.w tops) (layered view) (visit c list)) before after)
    (is ∙ ap (λ (d : Tracing). root_box_of d.view d.lattice) made)
    (subst (λ (d : Tracing). RootWork Counted d b tops before after) made h)))

-- and what it lights is the picture
pub map-shaded : (view : Window) (list : List Step) (desk : Tracing) (b : Indices) (tops before after : List ℕ)
    → desk ≡ record { view = view; lattice = Height; room = length list; lists = list ∷ [] } → b ≡ root_box_of desk.view desk.lattice → 0 < view.w → tops ≡ tops_of view list
    → before ≡ replicate (length tops) 0 → Becomes (has_top_at desk.view.w tops b) (shade_at desk.view (list_of desk 0) tops) before after → after ≡ shades_of view list
map-shaded view list desk b tops before after made is some are dark h =
    map-lit view list b view.w tops before after (is ∙ ap (λ (d : Tracing). root_box_of d.view d.lattice) made) refl some are dark
    (subst (λ (d : Tracing). Becomes (has_top_at d.view.w tops b) (shade_at d.view (list_of d 0) tops) before after) made h)

-- it may be looked into
pub map-may : (view : Window) (list : List Step) (desk : Tracing) (b : Indices) (tops : List ℕ)
    → desk ≡ record { view = view; lattice = Height; room = length list; lists = list ∷ [] } → b ≡ root_box_of desk.view desk.lattice → IsWindow view → IsTape list → tops ≡ tops_of view list
    → MayDraw desk b 0 (length tops)
map-may view list desk b tops made is window tape are =
    subst (λ c. MayDraw desk c 0 (length tops)) (sym (is ∙ ap (λ (d : Tracing). root_box_of d.view d.lattice) made))
    (subst (λ (d : Tracing). MayDraw d (root_box_of view Height) 0 (length tops)) (sym made)
    (record {
      lattice = refl;
      visit_is = record {
        window = window;
        box = record { x = window.w.some; y = window.h.some; z = window.d.some };
        within = record { x = omega arith; y = omega arith; z = omega arith };
        tape = tape;
      };
      tops = tops-length view list tops are;
      among = omega arith;
      room = omega arith;
    }))
