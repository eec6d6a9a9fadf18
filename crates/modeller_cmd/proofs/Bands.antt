-- Rows of an image, one after the other, are rows of it, and all of them are its pixels.
use Rattle.std.proofs.Common.{◌≡◌, ℕ, zero, suc, ◌+◌, ◌-◌, ◌*◌, ◌/◌, ◌%◌, ◌<◌, ◌≤◌, Bool, cond, List, [], ◌++◌, length, take, drop, zero-add, append-nil, append_assoc, length-append, sym, ap, subst, ◌∙◌, arith}
use Rattle.std.specs.Prelude.{Option, Some, None, count_by}
use Rattle.std.specs.List.{flat_map, range_with_len}
use Rattle.std.proofs.Math.Nat.{mul-div_cancel, mul-mod_left}
use Rattle.std.proofs.lemmas.Grind.{flat_map-append}
use Rattle.std.proofs.lemmas.List.{length-drop, length-take-le}
use Rattle.std.proofs.lemmas.List.Concat.{flat_map-cons}
use Rattle.std.proofs.lemmas.List.FromFn.{length-map-range_with_len}
use Rattle.std.proofs.lemmas.List.Sums.{sum_by-append}
use Rattle.live_clauses.specs.declared.step.Step.{Step}
use Rattle.model_frames.specs.Images.{drawn_text}
use Rattle.modeller_io.specs.Held.{Gains, GainsProperPrefix}
use Rattle.quad_descent.specs.Pixels.{pixel_at, pixels_of, row_at, rows_from}
use Rattle.quad_descent.specs.Raster.{Drawing}
use Rattle.quad_descent.specs.Rows.{AreRows, IsOver, rows_at}
use Rattle.raster_pgm.specs.Pgm.{pgm_header_of}
use Rattle.view_places.specs.Window.{Window}
use Rattle.modeller_cmd.proofs.Gaining.{Extends-none, GainsProperPrefix-after}
use Rattle.fixed_ops.proofs.Lists.{range_append}

-- so many bytes of whole rows are so many rows
count-rows : (image : Drawing) (view : Window) (n : ℕ) → image.view ≡ view → 0 < view.w → n * view.w / image.view.w ≡ n
count-rows image view n is some = ap (λ v. n * view.w / v.w) is ∙ mul-div_cancel n some

pub are-rows : (o : Option Drawing) (view : Window) (row rows : ℕ) → IsOver o view → 0 < view.w → row + rows ≤ view.h → AreRows o row (rows * view.w)
are-rows None view row rows is some within = absurd is
are-rows (Some image) view row rows is some within =
    let low : image.view.h ≡ view.h = ap (λ v. v.h) is in
    (ap (λ v. rows * view.w % v.w) is ∙ mul-mod_left rows view.w, omega (arith, count-rows image view rows is some, low, within))

-- rows and those below them
pub rows-then : (o : Option Drawing) (view : Window) (row m n : ℕ) → IsOver o view → 0 < view.w
    → rows_at o row (m * view.w) ++ rows_at o (row + m) (n * view.w) ≡ rows_at o row ((m + n) * view.w)
rows-then None view row m n is some = absurd is
rows-then (Some image) view row m n is some =
    ap (λ k. rows row k ++ rows_at (Some image) (row + m) (n * view.w)) (count-rows image view m is some)
    ∙ ap (λ k. rows row m ++ rows (row + m) k) (count-rows image view n is some)
    ∙ sym (ap (flat_map (row_at image.view image.list)) (range_append row m n) ∙ flat_map-append (row_at image.view image.list) (range_with_len row m) (range_with_len (row + m) n))
    ∙ sym (ap (rows row) (count-rows image view (m + n) is some))
  where
    rows : ℕ → ℕ → List ℕ
    rows = rows_from image.view image.list

pub rows-next : (o : Option Drawing) (view : Window) (first row rows : ℕ) → IsOver o view → 0 < view.w → first ≤ row
    → rows_at o first ((row - first) * view.w) ++ rows_at o row (rows * view.w) ≡ rows_at o first ((row + rows - first) * view.w)
rows-next o view first row rows is some above =
    let from : row ≡ first + (row - first) = omega (arith, above) in
    let count : row - first + rows ≡ row + rows - first = omega (arith, above) in
    ap (λ k. rows_at o first ((row - first) * view.w) ++ rows_at o k (rows * view.w)) from
    ∙ rows-then o view first (row - first) rows is some
    ∙ ap (λ n. rows_at o first (n * view.w)) count

pub rows-three : (o : Option Drawing) (view : Window) (first row rows : ℕ) → IsOver o view → 0 < view.w → first ≤ row → row + rows ≤ view.h
    → rows_at o first ((row - first) * view.w) ++ (rows_at o row (rows * view.w) ++ rows_at o (row + rows) ((view.h - (row + rows)) * view.w))
    ≡ rows_at o first ((view.h - first) * view.w)
rows-three o view first row rows is some above within =
    let below = view.h - (row + rows) in
    let count : row + (rows + below) - first ≡ view.h - first = omega (arith, within) in
    ap (λ l. rows_at o first ((row - first) * view.w) ++ l) (rows-then o view row rows below is some)
    ∙ rows-next o view first row (rows + below) is some above
    ∙ ap (λ n. rows_at o first (n * view.w)) count

-- how long a part of a buffer is
pub part-length : (xs : List ℕ) (start n : ℕ) → start + n ≤ length xs → length (take (start + n - start) (drop start xs)) ≡ n
part-length xs start n within =
    let rest = length-drop start xs in
    length-take-le (start + n - start) (drop start xs) (omega (arith, rest, within)) ∙ omega arith

-- the header and all rows are the text of the image
pub text-of-rows : (o : Option Drawing) (view : Window) → IsOver o view → 0 < view.w → pgm_header_of view.w view.h ++ rows_at o 0 (view.h * view.w) ≡ drawn_text o
text-of-rows None view is some = absurd is
text-of-rows (Some image) view is some =
    ap (λ n. pgm_header_of view.w view.h ++ rows_from image.view image.list 0 n) (count-rows image view view.h is some)
    ∙ ap (λ v. pgm_header_of v.w v.h ++ rows_from image.view image.list 0 v.h) (sym is)

-- so are a line, the header and the first rows in one piece, and the rows below
pub text-in-bands : (o : Option Drawing) (view : Window) (rows : ℕ) (line : List ℕ) → IsOver o view → 0 < view.w → rows ≤ view.h
    → (line ++ pgm_header_of view.w view.h) ++ rows_at o 0 (rows * view.w) ++ rows_at o rows ((view.h - rows) * view.w) ≡ line ++ drawn_text o
text-in-bands o view rows line is some within =
    let head = pgm_header_of view.w view.h in
    let first = rows_at o 0 (rows * view.w) in
    let below = rows_at o rows ((view.h - rows) * view.w) in
    let all : rows + (view.h - rows) ≡ view.h = omega (arith, within) in
    append_assoc (line ++ head) first below
    ∙ ap (λ k. (line ++ head) ++ (first ++ rows_at o k ((view.h - rows) * view.w))) (sym (zero-add rows))
    ∙ ap (λ l. (line ++ head) ++ l) (rows-then o view 0 rows (view.h - rows) is some ∙ ap (λ n. rows_at o 0 (n * view.w)) all)
    ∙ append_assoc line head (rows_at o 0 (view.h * view.w))
    ∙ ap (λ l. line ++ l) (text-of-rows o view is some)

pub pixels-of-rows : (image : Drawing) (view : Window) → image.view ≡ view → 0 < view.w → rows_at (Some image) 0 (view.h * view.w) ≡ pixels_of image.view image.list
pixels-of-rows image view is some =
    ap (rows_from image.view image.list 0) (count-rows image view view.h is some) ∙ ap (λ v. rows_from image.view image.list 0 v.h) (sym is)

-- how many of the bytes of some rows pass a test, and of those below them
pub count-next : (o : Option Drawing) (view : Window) (row rows : ℕ) (test : ℕ → Bool) → IsOver o view → 0 < view.w
    → count_by test (rows_at o 0 (row * view.w)) + count_by test (rows_at o row (rows * view.w)) ≡ count_by test (rows_at o 0 ((row + rows) * view.w))
count-next o view row rows test is some =
    let above = rows_at o 0 (row * view.w) in
    sym (sum_by-append (λ x. cond (test x) 1 0) above (rows_at o row (rows * view.w)))
    ∙ ap (count_by test) (ap (λ k. above ++ rows_at o k (rows * view.w)) (sym (zero-add row)) ∙ rows-then o view 0 row rows is some)

-- how long rows are
length-rows : (view : Window) (list : List Step) (row n : ℕ) → length (rows_from view list row n) ≡ n * view.w
length-rows view list row zero = omega arith
length-rows view list row (suc n) =
    let more : suc n * view.w ≡ view.w + n * view.w = grind arith in
    ap length (flat_map-cons (row_at view list) row (range_with_len (row + 1) n))
    ∙ length-append (row_at view list row) (rows_from view list (row + 1) n)
    ∙ ap (λ k. k + length (rows_from view list (row + 1) n)) (length-map-range_with_len (λ i. pixel_at view list i row) 0 view.w)
    ∙ ap (λ k. view.w + k) (length-rows view list (row + 1) n)
    ∙ sym more

pub length-text : (o : Option Drawing) (view : Window) → IsOver o view → length (drawn_text o) ≡ length (pgm_header_of view.w view.h) + view.w * view.h
length-text None view is = absurd is
length-text (Some image) view is =
    let turned : image.view.h * image.view.w ≡ image.view.w * image.view.h = grind arith in
    length-append (pgm_header_of image.view.w image.view.h) (rows_from image.view image.list 0 image.view.h)
    ∙ ap (λ n. length (pgm_header_of image.view.w image.view.h) + n) (length-rows image.view image.list 0 image.view.h ∙ turned)
    ∙ ap (λ v. length (pgm_header_of v.w v.h) + v.w * v.h) is

-- a front of bytes is one of these and of what comes behind
pub front-more : {K : Type 0} (held : K → Option (List ℕ)) (a b : K) (xs ys : List ℕ) → GainsProperPrefix held a b xs → GainsProperPrefix held a b (xs ++ ys)
front-more held a b xs ys front = GainsProperPrefix-after held a a b [] xs ys (Extends-none (held a)) front

-- and behind other bytes it is one of all of them
pub front-then : {K : Type 0} (held : K → Option (List ℕ)) (a b c : K) (xs ys : List ℕ) → Gains held a b xs → GainsProperPrefix held b c ys → GainsProperPrefix held a c (xs ++ ys)
front-then held a b c xs ys first next =
    subst (λ l. GainsProperPrefix held a c (xs ++ l)) (append-nil ys) (GainsProperPrefix-after held a b c xs ys [] first next)
