-- What is counted column by column and row by row, and which boxes of some are kept.
use Rattle.std.proofs.Common.{◌≡◌, ℕ, ◌+◌, ◌-◌, ◌*◌, ◌<◌, ◌≤◌, Bool, true, false, cond, List, get_or, sym, ap, ◌∙◌, arith}
use Rattle.std.specs.Prelude.{nat_le, nat_lt}
use Rattle.std.proofs.lemmas.Bool.Decides.{nat_tests}
use Rattle.std.proofs.lemmas.Bool.{and_parts, leb-true, lt-ltb, ltb-true}
use Rattle.box_chains.specs.Laws.{Lawful}
use Rattle.box_chains.specs.Sums.{sum_along}
use Rattle.box_chains.specs.Tested.{has_some}
use Rattle.height_map.specs.Bound.{layered}
use Rattle.live_clauses.specs.declared.step.Step.{Step}
use Rattle.view_places.specs.Boxes.{Indices, IsBox}
use Rattle.view_places.specs.Places.{point_of}
use Rattle.view_places.specs.Window.{Window}
use Rattle.view_places.specs.declared.lattice.Lattice.TheVariants.{Height}
use Rattle.normal_shade.specs.DualWork.{dual_points}
use Rattle.normal_shade.specs.Lit.{lit_in}
use Rattle.normal_shade.specs.Marks.{is_marked, is_within, lit_along, tops_along, tops_in}
use Rattle.normal_shade.proofs.Sums.{along-above, along-more, along-none, lit-by_rows, tops-by_rows}

-- a number that is not above 0
pub zero-of : (n : ℕ) → nat_lt 0 n ≡ false → n ≡ 0
zero-of n e = grind (arith, nat_tests, e)

one-of : (t : Bool) → t ≡ true → cond {A = ℕ} t 1 0 ≡ 1
one-of t e = ap (λ u. cond {A = ℕ} u 1 0) e

none-of : (t : Bool) → t ≡ false → cond {A = ℕ} t 1 0 ≡ 0
none-of t e = ap (λ u. cond {A = ℕ} u 1 0) e

-- ---- the columns of a row

-- one that has its top sample elsewhere
pub column-stays : (laws : Lawful) (w : ℕ) (tops : List ℕ) (b : Indices) (j i : ℕ) → b.x0 ≤ i → is_within b (get_or tops (j * w + i) 0) ≡ false
    → tops_along w tops b j b.x0 (i + 1) ≡ tops_along w tops b j b.x0 i
column-stays laws w tops b j i above e =
    omega (arith, along-more laws b.x0 i (λ c. cond (is_within b (get_or tops (j * w + c) 0)) 1 0) above, none-of (is_within b (get_or tops (j * w + i) 0)) e)

pub columns-none : (w : ℕ) (tops : List ℕ) (b : Indices) (j i : ℕ) → i ≡ b.x0 → tops_along w tops b j b.x0 i ≡ 0
columns-none w tops b j i start =
    ap (λ n. tops_along w tops b j b.x0 n) start ∙ along-none b.x0 (λ c. cond (is_within b (get_or tops (j * w + c) 0)) 1 0)

-- it tells of the row
pub column-tells : (laws : Lawful) (w : ℕ) (tops : List ℕ) (b : Indices) (j i : ℕ) → b.x0 ≤ i → i < b.x1 → is_within b (get_or tops (j * w + i) 0) ≡ true
    → nat_lt 0 (tops_along w tops b j b.x0 b.x1) ≡ true
column-tells laws w tops b j i above below e =
    lt-ltb 0 (tops_along w tops b j b.x0 b.x1)
    (omega (arith, along-above laws b.x0 b.x1 i (λ c. cond (is_within b (get_or tops (j * w + c) 0)) 1 0) above below, one-of (is_within b (get_or tops (j * w + i) 0)) e))

-- ---- the rows of a box

-- how many of the first rows of a box
abbrev pub rows_to : ℕ → List ℕ → Indices → ℕ → ℕ
rows_to w tops b j = sum_along b.y0 j (λ r. tops_along w tops b r b.x0 b.x1)

pub row-more : (laws : Lawful) (w : ℕ) (tops : List ℕ) (b : Indices) (j : ℕ) → b.y0 ≤ j → rows_to w tops b (j + 1) ≡ rows_to w tops b j + tops_along w tops b j b.x0 b.x1
row-more laws w tops b j above = along-more laws b.y0 j (λ r. tops_along w tops b r b.x0 b.x1) above

pub rows-none : (w : ℕ) (tops : List ℕ) (b : Indices) (j : ℕ) → j ≡ b.y0 → rows_to w tops b j ≡ 0
rows-none w tops b j start = ap (λ n. rows_to w tops b n) start ∙ along-none b.y0 (λ r. tops_along w tops b r b.x0 b.x1)

pub rows-all : (w : ℕ) (tops : List ℕ) (b : Indices) (j : ℕ) → IsBox b → j ≡ b.y1 → rows_to w tops b j ≡ tops_in w tops b
rows-all w tops b j is end = ap (λ n. rows_to w tops b n) end ∙ sym (tops-by_rows w tops b is)

-- a row tells of the box
pub row-tells : (laws : Lawful) (w : ℕ) (tops : List ℕ) (b : Indices) (j : ℕ) → IsBox b → b.y0 ≤ j → j < b.y1 → nat_lt 0 (tops_along w tops b j b.x0 b.x1) ≡ true
    → has_some (is_marked w tops) b ≡ true
row-tells laws w tops b j is above below e =
    lt-ltb 0 (tops_in w tops b)
    (omega (
      arith,
      tops-by_rows w tops b is,
      along-above laws b.y0 b.y1 j (λ r. tops_along w tops b r b.x0 b.x1) above below,
      ltb-true 0 (tops_along w tops b j b.x0 b.x1) e,
    ))

pub rows-tell : (w : ℕ) (tops : List ℕ) (b : Indices) (j : ℕ) → IsBox b → j ≡ b.y1 → rows_to w tops b j ≡ 0 → has_some (is_marked w tops) b ≡ false
rows-tell w tops b j is end none = ap (nat_lt 0) (sym (rows-all w tops b j is end) ∙ none)

-- no evaluation before the first column of a row
pub columns-unlit : (view : Window) (list : List Step) (tops : List ℕ) (b : Indices) (j i : ℕ) → i ≡ b.x0 → lit_along view list tops b j b.x0 i ≡ 0
columns-unlit view list tops b j i start =
    ap (lit_along view list tops b j b.x0) start
    ∙ along-none b.x0 (λ c. cond (is_within b (get_or tops (j * view.w + c) 0)) (dual_points (point_of view Height c j (get_or tops (j * view.w + c) 0 - 1)) list) 0)

-- the evaluations for the first rows of a box
abbrev pub lit_to : Window → List Step → List ℕ → Indices → ℕ → ℕ
lit_to view list tops b j = sum_along b.y0 j (λ r. lit_along view list tops b r b.x0 b.x1)

pub rows-next : (laws : Lawful) (view : Window) (list : List Step) (tops : List ℕ) (b : Indices) (j : ℕ) → b.y0 ≤ j
    → lit_to view list tops b (j + 1) ≡ lit_to view list tops b j + lit_along view list tops b j b.x0 b.x1
rows-next laws view list tops b j above = along-more laws b.y0 j (λ r. lit_along view list tops b r b.x0 b.x1) above

pub rows-unlit : (view : Window) (list : List Step) (tops : List ℕ) (b : Indices) (j : ℕ) → j ≡ b.y0 → lit_to view list tops b j ≡ 0
rows-unlit view list tops b j start = ap (lit_to view list tops b) start ∙ along-none b.y0 (λ r. lit_along view list tops b r b.x0 b.x1)

pub rows-lit : (view : Window) (list : List Step) (w : ℕ) (tops : List ℕ) (b : Indices) (j : ℕ) → w ≡ view.w → IsBox b → j ≡ b.y1
    → lit_to view list tops b j ≡ lit_in (is_marked w tops) (layered view) b list
rows-lit view list w tops b j width is end = ap (lit_to view list tops b) end ∙ sym (lit-by_rows view list w tops b width is)

-- ---- the boxes that pass a test

-- a top that lies in a box is some top
pub within-some : (b : Indices) (top : ℕ) → is_within b top ≡ true → (0 < top) × (top ≤ b.z1)
within-some b top e =
    let parts = and_parts (nat_lt b.z0 top) (nat_le top b.z1) e in
    let low = ltb-true b.z0 top parts.0 in
    (omega (arith, low), leb-true top b.z1 parts.1)
